use Rattle.std.proofs.Common.{sym, subst, ◌∙◌, ◌≡◌, None}
use Rattle.std.specs.FinMap.{get, remove}
use Rattle.sw_table.specs.Entries.{entries}
use Rattle.sw_flat.proofs.Classes.{class_of_entry, remove_absent}
use Rattle.sw_flat.proofs.map.FlatMap.extract.Goals as goal

pub returns-in_err-slot-clause-entries : goal.returns-in_err-slot-clause-entries
returns-in_err-slot-clause-entries g c =
    sym (remove_absent _ _ (subst (λ t. get (entries g.K.Keyed.class t) (g.Q.Names.named c.args.q.now) ≡ None) c.self.view_is c.in_err-slot.ensures.absent))

pub returns-clause-entries : goal.returns-clause-entries
returns-clause-entries g c =
    let of_class = class_of_entry g.K.Keyed.class c.self.inside.table.places (g.Q.Names.named c.args.q.now) c.remove.result (c.in_ok-slot.ensures.found ∙ c.remove.ensures.entry) in
    c.remove.ensures.entries ∙ (λ i. remove (entries g.K.Keyed.class (c.self.view_is i)) (sym of_class i))
