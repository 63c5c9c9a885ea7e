-- The kind of a column and what INT takes.
use Rattle.std.proofs.Common.{◌≡◌, ◌∙◌, ℕ, ℤ, Bool, true, false, cond, List, get_or, Option, Some, None, refl, ap}
use Rattle.std.specs.Prelude.{◌&&◌, ◌||◌, IsOk, IsErr, is_some}
use Rattle.std.specs.List.{list_all, list_any}
use Rattle.std.proofs.lemmas.List.Folds.{Any-from_list_any, list_any-from_Any, list_any_none, list_all_at}
use Rattle.std.proofs.lemmas.List.Sums.{AllPass-from_list_all, list_all-from_AllPass}
use Rattle.gq_row.specs.declared.schema.Kind.TheVariants as kind
use Rattle.gq_load.specs.Fields.{is_null_field, value_of}
use Rattle.gq_load.specs.Numbers.{int_of}
use Rattle.gq_infer.specs.Kinds.{is_int, is_int_or_null, kind_of}
use Rattle.gq_infer.specs.Laws.{IsNarrowest, IsTaken}

-- what INT takes of a field

taken : (field : List ℕ) → is_int_or_null field ≡ true → IsTaken field
unfolding value_of
taken field h longest number = by (is_null_field kind.Int field) (int_of field) refl refl h
  where
    by : (null : Bool) (o : Option ℤ) → is_null_field kind.Int field ≡ null → int_of field ≡ o → null || is_some o ≡ true → IsOk (value_of longest number kind.Int field)
    by true o e i h = rw e refl
    by false None e i h = let none : ⊥ = cc in absurd none
    by false (Some z) e i h = rw (e, i) refl

pub fine : (longest number : ℕ) (field : List ℕ) → IsOk (value_of longest number kind.Int field) → is_int_or_null field ≡ true
unfolding value_of
fine longest number field h = by (is_null_field kind.Int field) (int_of field) refl refl
  where
    by : (null : Bool) (o : Option ℤ) → is_null_field kind.Int field ≡ null → int_of field ≡ o → null || is_some o ≡ true
    by true o e i = refl
    by false (Some z) e i = refl
    by false None e i = let none : ⊥ = cc (rw (e, i) at h) in absurd none

bad : (field : List ℕ) → IsErr (value_of 0 0 kind.Int field) → is_int_or_null field ≡ false
unfolding value_of
bad field h = by (is_null_field kind.Int field) (int_of field) refl refl
  where
    by : (null : Bool) (o : Option ℤ) → is_null_field kind.Int field ≡ null → int_of field ≡ o → null || is_some o ≡ false
    by true o e i = let none : ⊥ = cc (rw e at h) in absurd none
    by false (Some z) e i = let none : ⊥ = cc (rw (e, i) at h) in absurd none
    by false None e i = refl

-- the kind by its two tests

both_of : (fields : List (List ℕ)) → kind_of fields ≡ kind.Int → (list_all is_int_or_null fields ≡ true) × (list_any is_int fields ≡ true)
both_of fields h = by (list_all is_int_or_null fields) refl (list_any is_int fields) refl h
  where
    by : (all : Bool) → list_all is_int_or_null fields ≡ all → (some : Bool) → list_any is_int fields ≡ some → cond (all && some) kind.Int kind.Text ≡ kind.Int
        → (list_all is_int_or_null fields ≡ true) × (list_any is_int fields ≡ true)
    by true e true s h = (e, s)
    by true e false s h = let none : ⊥ = cc in absurd none
    by false e some s h = let none : ⊥ = cc in absurd none

text_unless_some : (fields : List (List ℕ)) → list_any is_int fields ≡ false → kind_of fields ≡ kind.Text
text_unless_some fields h = by (list_all is_int_or_null fields)
  where
    by : (all : Bool) → cond (all && list_any is_int fields) kind.Int kind.Text ≡ kind.Text
    by true = rw h refl
    by false = refl

pub narrowest : IsNarrowest
narrowest = record {
  takes = λ fields h. let all = AllPass-from_list_all is_int_or_null fields (both_of fields h).0 in λ k d l. taken (get_or fields k d) (all k d l);
  counts = λ fields h. Any-from_list_any is_int fields (both_of fields h).1;
  narrow = λ fields all some.
      let each : list_all is_int_or_null fields ≡ true = list_all-from_AllPass is_int_or_null fields (λ k d l. fine 0 0 (get_or fields k d) (all k d l 0 0)) in
      let one : list_any is_int fields ≡ true = list_any-from_Any is_int fields some in
      rw (each, one) refl;
  refused = λ fields (k, x, l, e, r).
      let not_all : list_all is_int_or_null fields ≡ false = list_all_at is_int_or_null fields k x l (ap is_int_or_null e ∙ bad x (r 0 0)) in
      rw not_all refl;
  numberless = λ fields none. text_unless_some fields (list_any_none is_int fields (λ k d l. ap is_some (none k d l)));
}
