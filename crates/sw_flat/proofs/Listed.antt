-- The entries of the places as a list.
use Rattle.std.proofs.Common.{◌≡◌, ℕ, suc, ◌+◌, ◌≤◌, List, [], ◌∷◌, map, length, get_or, Option, Some, None, refl, sym, ap, ◌∙◌, arith, cond, true, false}
use Rattle.std.specs.Prelude.{is_some}
use Rattle.std.specs.FinMap.{insert, get, len, from_entries, len-empty, len-insert, get-empty, get-insert}
use Rattle.std.specs.Cmp.Lexicographic.{nat_list_cmp_total}
use Rattle.sw_table.specs.Entries.{entries_in}
use Rattle.sw_table.specs.Walks.{filled}
use Rattle.sw_flat.specs.Maps.{ListsAll}
use Rattle.sw_flat.proofs.Classes.{class_of_entry, none_some, same}

module _ {K V : Type 0} (class : K → List ℕ) where
  abbrev pub Apart : List (Option (K × V)) → Type 0
  Apart ps = (i j : ℕ) (p q : K × V) → get_or ps i None ≡ Some p → get_or ps j None ≡ Some q → class p.0 ≡ class q.0 → i ≡ j

  pub apart_behind : (o : Option (K × V)) (ps : List (Option (K × V))) → Apart (o ∷ ps) → Apart ps
  apart_behind o ps h i j p q a b e = let f = h (suc i) (suc j) p q a b e in omega (arith, f)

  -- an entry of the map is at some place
  pub place_of : (ps : List (Option (K × V))) (q : List ℕ) (p : K × V) → get (entries_in class ps) q ≡ Some p → (i : ℕ) × (get_or ps i None ≡ Some p)
  place_of [] q p e = absurd (none_some p (sym (get-empty _ q) ∙ e))
  place_of (None ∷ ps) q p e = let it = place_of ps q p e in (suc it.0, it.1)
  place_of (Some x ∷ ps) q p e =
      elim (same q (class x.0)) as (λ b. cond b (Some x) (get (entries_in class ps) q) ≡ Some p → (i : ℕ) × (get_or (Some x ∷ ps) i None ≡ Some p)) [
        | true ↦ λ f. (0, f)
        | false ↦ λ f. let it = place_of ps q p f in (suc it.0, it.1)
      ] (sym (get-insert nat_list_cmp_total (entries_in class ps) (class x.0) x q) ∙ e)

  -- the class of the first entry has no later entry
  pub absent_behind : (x : K × V) (ps : List (Option (K × V))) → Apart (Some x ∷ ps) → get (entries_in class ps) (class x.0) ≡ None
  absent_behind x ps h =
      elim (get (entries_in class ps) (class x.0)) as (λ o. get (entries_in class ps) (class x.0) ≡ o → o ≡ None) [
        | None ↦ λ e. refl
        | Some p ↦ λ e. absurd (at p e (place_of ps (class x.0) p e))
      ] refl
    where
      at : (p : K × V) → get (entries_in class ps) (class x.0) ≡ Some p → (i : ℕ) × (get_or ps i None ≡ Some p) → ⊥
      at p e found = let f = h 0 (suc found.0) x p refl found.1 (class_of_entry class ps (class x.0) p e) in omega (arith, f)

  pub entries_of_filled : (ps : List (Option (K × V))) → from_entries (map (λ p. (class p.0, p)) (filled ps)) ≡ entries_in class ps
  entries_of_filled [] = refl
  entries_of_filled (None ∷ ps) = entries_of_filled ps
  entries_of_filled (Some p ∷ ps) = ap (λ m. insert m (class p.0) p) (entries_of_filled ps)

  pub length_of_filled : (ps : List (Option (K × V))) → Apart ps → length (filled ps) ≡ len (entries_in class ps)
  length_of_filled [] h = sym (len-empty _ _)
  length_of_filled (None ∷ ps) h = length_of_filled ps (apart_behind None ps h)
  length_of_filled (Some p ∷ ps) h =
      (let e : ◌≡◌ {A = ℕ} (suc (length (filled ps))) (length (filled ps) + 1) = omega arith in e)
      ∙ ap (λ n. n + 1) (length_of_filled ps (apart_behind (Some p) ps h))
      ∙ sym (len-insert nat_list_cmp_total (entries_in class ps) (class p.0) p
      ∙ ap (λ (o : Option (K × V)). cond (is_some o) (len (entries_in class ps)) (len (entries_in class ps) + 1)) (absent_behind p ps h))

  -- the filled places are the entries of the map
  pub lists_filled : (ps : List (Option (K × V))) → Apart ps → ListsAll class (filled ps) (entries_in class ps)
  lists_filled ps h = record { all = entries_of_filled ps; once = length_of_filled ps h }

  -- no more entries than places
  pub filled_small : (ps : List (Option (K × V))) → length (filled ps) ≤ length ps
  filled_small [] = omega arith
  filled_small (None ∷ ps) = let h = filled_small ps in omega (arith, h)
  filled_small (Some p ∷ ps) = let h = filled_small ps in omega (arith, h)

-- the entries of a set, by their keys
pub with_nothing : {K : Type 0} (items : List (K × Unit {0})) → map (λ k. (k, tt)) (map (λ p. p.0) items) ≡ items
with_nothing [] = refl
with_nothing (p ∷ items) = ap (λ r. p ∷ r) (with_nothing items)
