-- From places to the map of the entries.
use Rattle.std.proofs.Common.{◌≡◌, ◌≢◌, ℕ, ◌<◌, Bool, true, false, List, length, set, get_or, slice_index, nat_lt, Option, Some, None, is_some, IsSome, refl, sym, ap, ◌∙◌, arith, get_or-set_other}
use mathlib.Core.Bool.{true≢false}
use native.Mathlib.Decide.{dec_lt}
use Rattle.std.specs.FinMap.{get, remove}
use Rattle.std.specs.FinMap as fin
use Rattle.std.proofs.lemmas.Bool.{ltb-true, ltb-false}
use Rattle.std.proofs.lemmas.Grind.{get_or_default_zero}
use Rattle.std.proofs.lemmas.List.{get_or_past}
use Rattle.sw_table.specs.Entries.{entries_in}
use Rattle.sw_table.specs.LaidOut.{IsLaidOut, full_count}
use Rattle.sw_table.proofs.Entries.{get_entries, lookup_at, lookup_absent, none_absent, len_entries, entries_take, same, same_is, same_itself, Absent, Apart}
use Rattle.sw_table.proofs.GroupLanes.{same_counts}

module _ {K V : Type 0} (class : K → List ℕ) (hash : List ℕ → ℕ) (ps : List (Option (K × V))) (bs : List ℕ) (t : IsLaidOut class hash ps bs) where
  pub entry_of : (i : ℕ) (p : K × V) → get_or ps i None ≡ Some p → get (entries_in class ps) (class p.0) ≡ Some p
  entry_of i p at = get_entries class ps (class p.0) ∙ lookup_at class ps i p t.apart at

  pub find_is : (q : List ℕ) (i : ℕ) (p : K × V) → get_or ps i None ≡ Some p → q ≡ class p.0 → get (entries_in class ps) q ≡ get_or ps i None
  find_is q i p at same = ap (get (entries_in class ps)) same ∙ entry_of i p at ∙ sym at

  -- a place is filled just where its byte is full
  pub filled_where_full : (i : ℕ) → is_some (get_or ps i None) ≡ nat_lt (get_or bs i 128) 128
  filled_where_full i = elim (dec_lt i (length bs)) [
    | yes lt ↦ within lt (nat_lt (slice_index bs i) 128) refl ∙ ap (λ b. nat_lt b 128) (sym (get_or_default_zero bs i 128 lt))
    | no ge ↦ ap is_some (get_or_past ps i None (omega (arith, ge, t.size.0))) ∙ ap (λ b. nat_lt b 128) (sym (get_or_past bs i 128 (omega (arith, ge))))
  ]
    where
      within : i < length bs → (b : Bool) → nat_lt (slice_index bs i) 128 ≡ b → is_some (get_or ps i None) ≡ nat_lt (slice_index bs i) 128
      within lt true e = t.full i lt (ltb-true _ _ e) ∙ sym e
      within lt false e = ap is_some (t.vacant i (ltb-false _ _ e)) ∙ sym e

  pub len_is : fin.len (entries_in class ps) ≡ full_count bs
  len_is = len_entries class ps t.apart ∙ same_counts ps bs t.size.0 filled_where_full

false_or : (b : Bool) → (b ≡ true → ⊥) → b ≡ false
false_or true h = absurd (h refl)
false_or false h = refl

module _ {K V : Type 0} (class : K → List ℕ) (ps : List (Option (K × V))) where
  pub find_none : (q : List ℕ) → ((i : ℕ) (p : K × V) → get_or ps i None ≡ Some p → q ≢ class p.0) → get (entries_in class ps) q ≡ None
  find_none q h = get_entries class ps q ∙ lookup_absent class q ps (λ i p at. false_or (same q (class p.0)) (λ s. h i p at (same_is _ _ s)))

  pub absent_of : (q : List ℕ) → get (entries_in class ps) q ≡ None → Absent class q ps
  absent_of q e = none_absent class q ps (sym (get_entries class ps q) ∙ e)

  -- where no entry is of the class once one is gone, no other is
  pub absent_else : (q : List ℕ) (i : ℕ) (p : K × V) → Apart class ps → get_or ps i None ≡ Some p → get (remove (entries_in class ps) (class p.0)) q ≡ None → Absent class q (set ps i None)
  absent_else q i p apart at e = none_absent class q (set ps i None) (sym (get_entries class (set ps i None) q) ∙ ap (λ m. get m q) (entries_take class ps i p apart at) ∙ e)

  pub alone_else : (q : List ℕ) (i : ℕ) → Absent class q (set ps i None) → (j : ℕ) (r : K × V) → j ≢ i → get_or ps j None ≡ Some r → q ≡ class r.0 → ⊥
  alone_else q i absent j r other at same = true≢false (sym (same_itself _ _ same) ∙ absent j r (get_or-set_other ps i j None None other ∙ at))

pub pair_of : {X : Type 0} (o : Option X) → IsSome o → (x : X) × (o ≡ Some x)
pair_of None e = absurd (cc)
pair_of (Some x) e = (x, refl)
