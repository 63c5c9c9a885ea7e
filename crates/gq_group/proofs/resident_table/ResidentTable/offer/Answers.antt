use Rattle.std.proofs.Common.{◌≡◌, ◌∙◌, [], ◌∷◌, ◌++◌, arith, ap, subst, None}
use Rattle.std.specs.FinMap.{get}
use Rattle.std.specs.List.{slice_get}
use Rattle.std.proofs.lemmas.Grind.{common_steps}
use Rattle.gq_row.specs.Classes.{class_of}
use Rattle.gq_row.specs.Rows.{key_of}
use Rattle.gq_row.specs.Tables.{of_key}
use Rattle.gq_group.proofs.MapGroups.{grouped-step, grouped-vacant}
use Rattle.gq_group.proofs.Results.{on_err}
use Rattle.gq_group.proofs.ResidentLemmas.{found, within-added, absent, offers-occupied, offers-vacant}
use Rattle.gq_group.specs.Entries.{listed, tallies}
use Rattle.gq_group.specs.Maps.{MapView}
use Rattle.gq_group.specs.Residents.{taken}
use Rattle.gq_group.proofs.resident_table.ResidentTable.offer.Goals as goal

pub add-requires-clause-tallied : goal.add-requires-clause-tallied
add-requires-clause-tallied g c =
    let rows = c.requires.resident.0 in
    let spec = c.args.spec.now in
    let map = c.args.self.now.groups.pairs in
    let i = c.in-At.number in
    let key = key_of spec.by c.args.ahead.now.row in
    let key_is = c.new.ensures ∙ (λ z. key_of (c.by.ensures z) (c.cells.ensures z)) in
    let at = subst (λ k. get (listed map) (class_of k) ≡ slice_get map i) key_is c.in-At.ensures.found.1 in
    let it = found spec c.args.self.now.budget.entries rows map i key c.requires.resident.2 at c.in-At.ensures.found.0 in
    let few = c.requires.resident.1 in
    (of_key spec.by (taken spec map rows) key, omega (arith, few, it.few), it.entry)

pub invariant_of-self : goal.invariant_of-self
invariant_of-self g c = record { within = omega (arith, c.add.ensures.count, c.args.self.now.within) }

pub invariant_of-self-in-Absent : goal.invariant_of-self-in-Absent
invariant_of-self-in-Absent g c =
    let spec = c.args.spec.now in
    let row = c.args.ahead.now.row in
    let map = c.args.self.now.groups.pairs in
    let key = key_of spec.by row in
    let key_is = c.new.ensures ∙ (λ z. key_of (c.by.ensures z) (c.cells.ensures z)) in
    let none = subst (λ k. get (listed map) (class_of k) ≡ None) key_is c.in-Absent.ensures.absent.absent in
    record {
      within = within-added c.add_group.result map c.add_group.new.self.pairs key (key, tallies spec.aggs (row ∷ [])) c.args.self.now.budget.entries
          c.add_group.ensures.entries (on_err _ _ c.add_group.result (λ same. ap (λ (v : MapView _). v.pairs) same) c.add_group.ensures.err) (absent map key none)
          (omega (arith, c.if-len-entries.false, c.len.ensures, c.entries.ensures.is));
    }

pub returns-in_ok-add-in-At-clause-offers : goal.returns-in_ok-add-in-At-clause-offers
returns-in_ok-add-in-At-clause-offers g c = λ rows resident.
    let spec = c.args.spec.now in
    let row = c.args.ahead.now.row in
    let map = c.args.self.now.groups.pairs in
    let i = c.in-At.number in
    let key = key_of spec.by row in
    let key_is = c.new.ensures ∙ (λ z. key_of (c.by.ensures z) (c.cells.ensures z)) in
    let at = subst (λ k. get (listed map) (class_of k) ≡ slice_get map i) key_is c.in-At.ensures.found.1 in
    let new = c.add.new.self.pairs in
    let it = found spec c.args.self.now.budget.entries rows map i key resident at c.in-At.ensures.found.0 in
    let its = of_key spec.by (taken spec map rows) key in
    let put = c.in_ok-add-in-At.ensures.entries its it.entry in
    offers-occupied spec c.args.self.now.budget.entries rows row map new (key, tallies spec.aggs (its ++ row ∷ [])) resident it.there put
    (grouped-step spec (taken spec map rows) row map new resident.grouped put)

pub returns-in_ok-add_group-in-Absent-clause-offers :
    goal.returns-in_ok-add_group-in-Absent-clause-offers
returns-in_ok-add_group-in-Absent-clause-offers g c = λ rows resident.
    let spec = c.args.spec.now in
    let row = c.args.ahead.now.row in
    let map = c.args.self.now.groups.pairs in
    let key = key_of spec.by row in
    let key_is = c.new.ensures ∙ (λ z. key_of (c.by.ensures z) (c.cells.ensures z)) in
    let none = subst (λ k. get (listed map) (class_of k) ≡ None) key_is c.in-Absent.ensures.absent.absent in
    let new = c.add_group.new.self.pairs in
    offers-vacant spec c.args.self.now.budget.entries rows row map new (key, tallies spec.aggs (row ∷ [])) resident (absent map key none) (omega (arith, c.if-len-entries.false, c.len.ensures, c.entries.ensures.is)) c.in_ok-add_group-in-Absent.ensures.entries
    (grouped-vacant spec (taken spec map rows) row map new resident.grouped none c.in_ok-add_group-in-Absent.ensures.entries)

pub new-requires : goal.new-requires
new-requires g c = grind (arith, common_steps)

pub returns-then-len-entries-clause-offers : goal.returns-then-len-entries-clause-offers
returns-then-len-entries-clause-offers g c = grind (arith, common_steps)
