-- Rows that lack a column that is named can't be grouped; of those that have all, only sums refuse some.
use Rattle.std.proofs.Common.{◌≡◌, ◌<◌, ◌&&◌, ◌||◌, ◌∙◌, ℕ, zero, suc, Bool, true, false, not, List, [], ◌∷◌, length, take, drop, slice_index_or, refl, sym, ap}
use Rattle.std.specs.Prelude.{nat_lt}
use Rattle.std.specs.List.{list_all}
use Rattle.std.proofs.lemmas.Bool.{and_parts, false≢true}
use Rattle.gq_row.specs.declared.value.Value.{Value}
use Rattle.gq_row.specs.Rows.{cell}
use Rattle.gq_agg.specs.Aggregates.{takes}
use Rattle.gq_agg.specs.declared.kind.AggKind.{AggKind}
use Rattle.gq_agg.specs.declared.kind.AggKind.TheVariants as kind
use Rattle.gq_group.specs.Fitting.{has_all_asked, has_asked, has_no_sum, is_sum}
use Rattle.gq_group.specs.Groups.{Spec, counts_all, fits_cell, fits_spec, has_columns}
use Rattle.gq_group.proofs.AggLemmas.{first_at}

pub lacks_column : (spec : Spec) (row : List Value) → (has_columns spec.by row && has_all_asked spec.aggs row) ≡ false → fits_spec spec row ≡ false
lacks_column spec row = whole (has_columns spec.by row)
  where
    one : (counts reaches takes rest fit : Bool) → (rest ≡ false → fit ≡ false) → ((counts || reaches) && rest) ≡ false → ((counts || (reaches && takes)) && fit) ≡ false
    one true reaches takes rest fit others e = others e
    one false false takes rest fit others e = refl
    one false true false rest fit others e = refl
    one false true true rest fit others e = others e

    each : (aggs : List (AggKind × ℕ)) → has_all_asked aggs row ≡ false → list_all (fits_cell row) aggs ≡ false
    each [] e = absurd (false≢true (sym e))
    each (a ∷ aggs) e = one (counts_all a.0) (nat_lt a.1 (length row)) (takes a.0 (cell row a.1)) (has_all_asked aggs row) (list_all (fits_cell row) aggs) (each aggs) e

    whole : (b : Bool) → (b && has_all_asked spec.aggs row) ≡ false → (b && list_all (fits_cell row) spec.aggs) ≡ false
    whole false e = refl
    whole true e = each spec.aggs e

and_both : (p q : Bool) → p ≡ true → q ≡ true → (p && q) ≡ true
and_both true q e f = f
and_both false q e f = e

-- ---- aggregates that aren't sums take each value

module _ (row : List Value) where
  other_fits : (a : AggKind × ℕ) → not (is_sum a.0) ≡ true → has_asked row a ≡ true → fits_cell row a ≡ true
  other_fits (kind.CountAll, column) e h = refl
  other_fits (kind.Count, column) e h = and_both (nat_lt column (length row)) true h refl
  other_fits (kind.Sum, column) e h = absurd (false≢true e)
  other_fits (kind.Min, column) e h = and_both (nat_lt column (length row)) true h refl
  other_fits (kind.Max, column) e h = and_both (nat_lt column (length row)) true h refl

  others_fit : (aggs : List (AggKind × ℕ)) → has_no_sum aggs ≡ true → has_all_asked aggs row ≡ true → list_all (fits_cell row) aggs ≡ true
  others_fit [] none all = refl
  others_fit (a ∷ aggs) none all =
      let n = and_parts (not (is_sum a.0)) (has_no_sum aggs) none in
      let h = and_parts (has_asked row a) (has_all_asked aggs row) all in
      and_both (fits_cell row a) (list_all (fits_cell row) aggs) (other_fits a n.0 h.0) (others_fit aggs n.1 h.1)

  -- so only those up to the last sum are tested
  pub sums_decide : (n : ℕ) (aggs : List (AggKind × ℕ)) → has_no_sum (drop n aggs) ≡ true → has_all_asked aggs row ≡ true → list_all (fits_cell row) (take n aggs) ≡ list_all (fits_cell row) aggs
  sums_decide zero aggs none all = sym (others_fit aggs none all)
  sums_decide (suc n) [] none all = refl
  sums_decide (suc n) (a ∷ aggs) none all = ap (λ b. fits_cell row a && b) (sums_decide n aggs none (and_parts (has_asked row a) (has_all_asked aggs row) all).1)

  pub first_asked : (n : ℕ) (aggs : List (AggKind × ℕ)) → has_all_asked aggs row ≡ true → has_all_asked (take n aggs) row ≡ true
  first_asked zero aggs all = refl
  first_asked (suc n) [] all = refl
  first_asked (suc n) (a ∷ aggs) all =
      let h = and_parts (has_asked row a) (has_all_asked aggs row) all in
      and_both (has_asked row a) (has_all_asked (take n aggs) row) h.0 (first_asked n aggs h.1)

-- ---- the last sum, from the end

pub one_no_sum : (aggs : List (AggKind × ℕ)) (i : ℕ) (d : AggKind × ℕ) → i < length aggs → is_sum (slice_index_or aggs i d).0 ≡ false → has_no_sum (drop (suc i) aggs) ≡ true → has_no_sum (drop i aggs) ≡ true
one_no_sum aggs i d less other rest = ap has_no_sum (first_at aggs i d less) ∙ and_both (not (is_sum (slice_index_or aggs i d).0)) (has_no_sum (drop (suc i) aggs)) (ap not other) rest
