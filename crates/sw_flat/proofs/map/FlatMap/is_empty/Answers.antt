use Rattle.std.proofs.Common.{ap, sym, ◌∙◌}
use Rattle.std.proofs.lemmas.Bool.{eq-eqb, eqb-true}
use Rattle.std.specs.FinMap.{len}
use Rattle.sw_table.specs.Entries.{entries}
use Rattle.sw_flat.proofs.Classes.{no_entries}
use Rattle.sw_flat.proofs.map.FlatMap.is_empty.Goals as goal

pub returns : goal.returns
returns g c =
    let it = no_entries (entries g.K.Keyed.class c.args.self.now) in
    let count = c.len.ensures ∙ ap (λ t. len (entries g.K.Keyed.class t)) c.self.view_is in
    (λ h. it.0 (sym count ∙ eqb-true _ _ h), λ e. eq-eqb _ _ (count ∙ it.1 e))
