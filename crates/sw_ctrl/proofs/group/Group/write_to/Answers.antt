use Rattle.std.proofs.Common.{arith, ◌∙◌}
use Rattle.std.proofs.lemmas.Simd.{put_chunk_whole}
use Rattle.sw_ctrl.proofs.group.Group.write_to.Goals as goal

pub returns : goal.returns
returns c = put_chunk_whole c.args.bytes.now c.self.inside.lanes (omega arith) ∙ c.self.view_is
