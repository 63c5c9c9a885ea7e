use Rattle.std.proofs.Common.{sym, ap, ◌∙◌}
use Rattle.std.specs.FinMap.{len}
use Rattle.sw_table.specs.Entries.{entries}
use Rattle.sw_table.proofs.Found.{len_is}
use Rattle.sw_table.proofs.table.Table.len.Goals as goal

pub returns : goal.returns
returns g c = c.self.invariant.full_is ∙ sym (len_is _ _ c.self.inside.slots c.self.inside.ctrl c.self.invariant.laid) ∙ ap (λ t. len (entries g.K.Keyed.class t)) c.self.view_is
