use Rattle.std.proofs.Common.{◌↔◌, subst}
use Rattle.std.specs.Prelude.{IsTrue}
use Rattle.std.specs.List.{slice_get}
use Rattle.sw_index.specs.Index.{IndexView, IsFound}
use Rattle.sw_index.specs.declared.found.Found.TheVariants.{At}
use Rattle.gq_row.specs.Classes.{class_of}
use Rattle.gq_group.proofs.KeyIndexLemmas.{is_there}
use Rattle.gq_group.proofs.key_index.KeyIndex.is_at.Goals as goal

pub returns : goal.returns
returns g c =
    let key = c.args.key.now in
    subst (λ (v : IndexView _ _). IsTrue c.is_at.result ↔ IsFound class_of v.keys (class_of key) (At c.args.number)) c.self.view_is
    (is_there key (slice_get c.self.inside.keys c.args.number) c.is_at.result c.is_at.ensures)
