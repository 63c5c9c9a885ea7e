-- The rows that a reader has yet to give, record by record.
use Rattle.std.proofs.Common.{◌≡◌, ◌∙◌, ◌+◌, ◌-◌, ◌++◌, ℕ, Bool, true, false, cond, List, [], ◌∷◌, length, map, Option, Some, None, Result, Ok, Err, refl, sym, ap, subst, arith}
use Rattle.std.specs.Prelude.{IfSome, nat_lt, option_map}
use Rattle.std.proofs.lemmas.Bool.{false≢true}
use Rattle.std.proofs.lemmas.Bool.Decides.{nat_tests}
use Rattle.std.proofs.lemmas.List.{append_assoc, append-nil}
use Rattle.std.proofs.lemmas.Option.{same_Some}
use Rattle.csv.specs.Reading.{default_config, records, strip_bom}
use Rattle.gq_row.specs.declared.value.Value.{Value}
use Rattle.gq_row.specs.declared.limits.Bounds.{Bounds}
use Rattle.gq_row.specs.Schemas.{PlainSchema}
use Rattle.gq_load.specs.declared.load_refusal.LoadRefusal.{LoadRefusal}
use Rattle.gq_load.specs.declared.load_refusal.LoadRefusal.TheVariants.{Limit}
use Rattle.gq_load.specs.declared.row_fault.RowFault.{RowFault}
use Rattle.gq_load.specs.declared.short_records.Short.{Short}
use Rattle.gq_load.specs.Answers.{◌>>=◌}
use Rattle.gq_load.specs.Coming.{BeginWith, IsFaultOf, rows_left, row_before, fault_of}
use Rattle.gq_csv.specs.Records.{Took}
use Rattle.gq_load.specs.Payloads.{at_most, completed, load, row_of, rows_from, rows_of}
use Rattle.gq_load.proofs.Onward.{no_front, told_too, with_front}

abbrev Records : Type 0
Records = List (List (List ℕ))

-- ---- the fault of records, by their first

fault_before : (row : List Value) (r : Result (List (List Value)) LoadRefusal) → fault_of (r >>= λ rows. Ok (row ∷ rows)) ≡ fault_of r
fault_before row (Ok rows) = refl
fault_before row (Err e) = refl

module _ (schema : PlainSchema) (text : ℕ) (places : List ℕ) (number : ℕ) where
  pub fault_more : (fields : List (List ℕ)) (others left : List (List (List ℕ))) (row : List Value) → left ≡ fields ∷ others → row_of schema text places number fields ≡ Ok row
      → fault_of (rows_from schema text places number left) ≡ fault_of (rows_from schema text places (number + 1) others)
  unfolding rows_from
  fault_more fields others left row e h = rw (e, h) (fault_before row (rows_from schema text places (number + 1) others))

  pub fault_here : (fields : List (List ℕ)) (others left : List (List (List ℕ))) (fault : LoadRefusal) → left ≡ fields ∷ others → row_of schema text places number fields ≡ Err fault
      → fault_of (rows_from schema text places number left) ≡ Some fault
  unfolding rows_from
  fault_here fields others left fault e h = rw (e, h) refl

  pub fault_none : (left : List (List (List ℕ))) → left ≡ [] → fault_of (rows_from schema text places number left) ≡ None
  unfolding rows_from
  fault_none left e = rw e refl

  -- ---- the rows of records, by their first

  none_of_none : (most : ℕ) → at_most most [] ≡ Ok []
  none_of_none most = ap (λ b. cond b (Err Limit) (Ok [])) none
    where
      none : nat_lt most 0 ≡ false
      none = grind (arith, nat_tests)

  pub left_none : (most : ℕ) (left : List (List (List ℕ))) → left ≡ [] → rows_left schema text most places number left ≡ Ok []
  unfolding rows_left rows_from
  left_none most left e = rw e (none_of_none most)

  pub left_bad : (most : ℕ) (fields : List (List ℕ)) (others left : List (List (List ℕ))) (fault : LoadRefusal) → left ≡ fields ∷ others → row_of schema text places number fields ≡ Err fault
      → rows_left schema text most places number left ≡ Err fault
  unfolding rows_left rows_from
  left_bad most fields others left fault e h = rw (e, h) refl

  pub left_more : (most fewer : ℕ) (fields : List (List ℕ)) (others left : List (List (List ℕ))) (row : List Value) → most ≡ fewer + 1 → left ≡ fields ∷ others → row_of schema text places number fields ≡ Ok row
      → rows_left schema text most places number left ≡ row_before row (rows_left schema text fewer places (number + 1) others)
  unfolding rows_left rows_from
  left_more most fewer fields others left row m e h = rw (e, h) (by_rest (rows_from schema text places (number + 1) others))
    where
      one_less : (rows : List (List Value)) → nat_lt most (length (row ∷ rows)) ≡ nat_lt fewer (length rows)
      one_less rows = grind (arith, nat_tests, m)

      chosen : (b : Bool) (rows : List (List Value)) → cond b (Err Limit) (Ok (row ∷ rows)) ≡ row_before row (cond b (Err Limit) (Ok rows))
      chosen true rows = refl
      chosen false rows = refl

      by_rest : (r : Result (List (List Value)) LoadRefusal) → ((r >>= λ rows. Ok (row ∷ rows)) >>= at_most most) ≡ row_before row (r >>= at_most fewer)
      by_rest (Ok rows) = ap (λ b. cond b (Err Limit) (Ok (row ∷ rows))) (one_less rows) ∙ chosen (nat_lt fewer (length rows)) rows
      by_rest (Err f) = refl

  -- no more rows may come, and one does
  module _ (most : ℕ) (spent : most ≡ 0) (fields : List (List ℕ)) (others left : List (List (List ℕ))) (row : List Value) (first : left ≡ fields ∷ others) (given : row_of schema text places number fields ≡ Ok row) where
    over : (rows : List (List Value)) → at_most most (row ∷ rows) ≡ Err Limit
    over rows = ap (λ b. cond b (Err Limit) (Ok (row ∷ rows))) yes
      where
        yes : nat_lt most (length (row ∷ rows)) ≡ true
        yes = grind (arith, nat_tests, spent)

    pub left_over : fault_of (rows_from schema text places (number + 1) others) ≡ None → rows_left schema text most places number left ≡ Err Limit
    unfolding rows_left rows_from
    left_over none = rw (first, given) (by_rest (rows_from schema text places (number + 1) others) none)
      where
        by_rest : (r : Result (List (List Value)) LoadRefusal) → fault_of r ≡ None → ((r >>= λ rows. Ok (row ∷ rows)) >>= at_most most) ≡ Err Limit
        by_rest (Ok rows) e = over rows
        by_rest (Err f) e = let none : ⊥ = cc in absurd none

    pub left_fault : (fault : LoadRefusal) → fault_of (rows_from schema text places (number + 1) others) ≡ Some fault → rows_left schema text most places number left ≡ Err fault
    unfolding rows_left rows_from
    left_fault fault some = rw (first, given) (by_rest (rows_from schema text places (number + 1) others) some)
      where
        by_rest : (r : Result (List (List Value)) LoadRefusal) → fault_of r ≡ Some fault → ((r >>= λ rows. Ok (row ∷ rows)) >>= at_most most) ≡ Err fault
        by_rest (Ok rows) e = let none : ⊥ = cc in absurd none
        by_rest (Err f) e = let same : f ≡ fault = cc in ap Err same

  -- ---- the same of records that may be known, by what a read took

  pub end_fault : (left rest : Option Records) (found : Bool) (fields : List (List ℕ)) → found ≡ false → Took left found fields rest → IfSome left (λ records. fault_of (rows_from schema text places number records) ≡ None)
  end_fault None rest found fields e h = tt
  end_fault (Some []) rest found fields e h = fault_none [] refl
  end_fault (Some (first ∷ others)) rest found fields e h = absurd (false≢true (sym e ∙ h.0))

  pub end_left : (most : ℕ) (left rest : Option Records) (found : Bool) (fields : List (List ℕ)) → found ≡ false → Took left found fields rest → IfSome (option_map (rows_left schema text most places number) left) (λ read. read ≡ Ok [])
  end_left most None rest found fields e h = tt
  end_left most (Some []) rest found fields e h = left_none most [] refl
  end_left most (Some (first ∷ others)) rest found fields e h = absurd (false≢true (sym e ∙ h.0))

  module _ (fields : List (List ℕ)) (found : Bool) (yes : found ≡ true) where
    pub bad_fault : (left rest : Option Records) (fault : LoadRefusal) → Took left found fields rest → row_of schema text places number fields ≡ Err fault → IfSome left (λ records. fault_of (rows_from schema text places number records) ≡ Some fault)
    bad_fault None rest fault h bad = tt
    bad_fault (Some []) rest fault h bad = absurd (false≢true (sym h ∙ yes))
    bad_fault (Some (first ∷ others)) rest fault h bad = fault_here first others (first ∷ others) fault refl (rw h.1 at bad)

    pub bad_left : (most : ℕ) (left rest : Option Records) (fault : LoadRefusal) → Took left found fields rest → row_of schema text places number fields ≡ Err fault → IfSome (option_map (rows_left schema text most places number) left) (λ read. read ≡ Err fault)
    bad_left most None rest fault h bad = tt
    bad_left most (Some []) rest fault h bad = absurd (false≢true (sym h ∙ yes))
    bad_left most (Some (first ∷ others)) rest fault h bad = left_bad most first others (first ∷ others) fault refl (rw h.1 at bad)

    module _ (row : List Value) (good : row_of schema text places number fields ≡ Ok row) where
      pub more_fault : (left rest : Option Records) → Took left found fields rest
          → IfSome left (λ records. option_map (λ others. fault_of (rows_from schema text places (number + 1) others)) rest ≡ Some (fault_of (rows_from schema text places number records)))
      more_fault None rest h = tt
      more_fault (Some []) rest h = absurd (false≢true (sym h ∙ yes))
      more_fault (Some (first ∷ others)) rest h =
          ap (option_map (λ others. fault_of (rows_from schema text places (number + 1) others))) h.2
          ∙ ap Some (sym (fault_more first others (first ∷ others) row refl (rw h.1 at good)))

      pub more_left : (most fewer : ℕ) → most ≡ fewer + 1 → (left rest : Option Records) → Took left found fields rest
          → BeginWith (option_map (rows_left schema text most places number) left) row (option_map (rows_left schema text fewer places (number + 1)) rest)
      more_left most fewer m None rest h = tt
      more_left most fewer m (Some []) rest h = absurd (false≢true (sym h ∙ yes))
      more_left most fewer m (Some (first ∷ others)) rest h =
          ap (λ o. option_map (row_before row) (option_map (rows_left schema text fewer places (number + 1)) o)) h.2
          ∙ ap Some (sym (left_more most fewer first others (first ∷ others) row m refl (rw h.1 at good)))

      pub over_left : (most : ℕ) → most ≡ 0 → (left rest : Option Records) → Took left found fields rest → IfSome rest (λ others. fault_of (rows_from schema text places (number + 1) others) ≡ None)
          → IfSome (option_map (rows_left schema text most places number) left) (λ read. read ≡ Err Limit)
      over_left most spent None rest h none = tt
      over_left most spent (Some []) rest h none = absurd (false≢true (sym h ∙ yes))
      over_left most spent (Some (first ∷ others)) rest h none =
          let here = subst (λ o. IfSome o (λ others. fault_of (rows_from schema text places (number + 1) others) ≡ None)) h.2 none in
          left_over most spent first others (first ∷ others) row refl (rw h.1 at good) here

      pub late_left : (most : ℕ) → most ≡ 0 → (left rest : Option Records) (fault : LoadRefusal) → Took left found fields rest → IfSome rest (λ others. fault_of (rows_from schema text places (number + 1) others) ≡ Some fault)
          → IfSome (option_map (rows_left schema text most places number) left) (λ read. read ≡ Err fault)
      late_left most spent None rest fault h some = tt
      late_left most spent (Some []) rest fault h some = absurd (false≢true (sym h ∙ yes))
      late_left most spent (Some (first ∷ others)) rest fault h some =
          let here = subst (λ o. IfSome o (λ others. fault_of (rows_from schema text places (number + 1) others) ≡ Some fault)) h.2 some in
          left_fault most spent first others (first ∷ others) row refl (rw h.1 at good) fault here

-- ---- records, completed if asked for

pub took_as_read : (short : Short) (count : ℕ) (left rest : Option Records) (found : Bool) (fields : List (List ℕ)) → Took left found fields rest
    → Took (option_map (map (completed short count)) left) found (completed short count fields) (option_map (map (completed short count)) rest)
took_as_read short count None rest found fields h = tt
took_as_read short count (Some []) rest found fields h = h
took_as_read short count (Some (first ∷ others)) rest found fields h = (h.0, ap (completed short count) h.1, ap (option_map (map (completed short count))) h.2)

-- ---- the rows of a text, whose records are those that are left

module _ (short : Short) (schema : PlainSchema) (bounds : Bounds) where
  pub loaded_faulty : (text : Option (List ℕ)) (left : Option Records) (fault : RowFault) → IfSome text (λ bytes. left ≡ Some (records default_config (strip_bom bytes)))
      → IsFaultOf (option_map (rows_of short schema bounds) left) fault → IsFaultOf (option_map (load short schema bounds) text) fault
  loaded_faulty None left fault e h = told_too fault (λ why k. tt) h
  loaded_faulty (Some bytes) left fault e h = subst (λ o. IsFaultOf (option_map (rows_of short schema bounds) o) fault) e h

  pub loaded_rows : (text : Option (List ℕ)) (left rest : Option Records) (places : List ℕ) → IfSome text (λ bytes. left ≡ Some (records default_config (strip_bom bytes)))
      → IfSome left (λ given. option_map (rows_left schema bounds.text bounds.rows places 1) rest ≡ Some (rows_of short schema bounds given))
      → IfSome text (λ bytes. option_map (rows_left schema bounds.text (bounds.rows - 0) places 1) rest ≡ Some (load short schema bounds bytes))
  loaded_rows None left rest places e h = tt
  loaded_rows (Some bytes) left rest places e h =
      let none_given : bounds.rows ≡ bounds.rows - 0 = omega arith in
      ap (λ most. option_map (rows_left schema bounds.text most places 1) rest) (sym none_given)
      ∙ subst (λ o. IfSome o (λ given. option_map (rows_left schema bounds.text bounds.rows places 1) rest ≡ Some (rows_of short schema bounds given))) e h

-- ---- rows that came, with those that are left

pub front_more : (front : List (List Value)) (row : List Value) (left others : Result (List (List Value)) LoadRefusal) → left ≡ row_before row others → with_front front left ≡ with_front (front ++ row ∷ []) others
front_more front row left others e = ap (with_front front) e ∙ joined others
  where
    joined : (r : Result (List (List Value)) LoadRefusal) → with_front front (row_before row r) ≡ with_front (front ++ row ∷ []) r
    joined (Ok rows) = ap Ok (sym (append_assoc front (row ∷ []) rows))
    joined (Err f) = refl

pub front_end : (front : List (List Value)) (left : Result (List (List Value)) LoadRefusal) → left ≡ Ok [] → with_front front left ≡ Ok front
front_end front left e = ap (with_front front) e ∙ ap Ok (append-nil front)

pub front_bad : (front : List (List Value)) (left : Result (List (List Value)) LoadRefusal) (fault : LoadRefusal) → left ≡ Err fault → with_front front left ≡ Err fault
front_bad front left fault e = ap (with_front front) e

-- all rows are those that came, and those that are left
abbrev pub Joined : List (List Value) → Option (Result (List (List Value)) LoadRefusal) → Option (Result (List (List Value)) LoadRefusal) → Type 0
Joined front left all = IfSome all (λ read. option_map (with_front front) left ≡ Some read)

pub joined_none : (all : Option (Result (List (List Value)) LoadRefusal)) → Joined [] all all
joined_none None = tt
joined_none (Some read) = ap Some (no_front read)

pub joined_more : (front : List (List Value)) (row : List Value) (all left others : Option (Result (List (List Value)) LoadRefusal)) → Joined front left all → BeginWith left row others → Joined (front ++ row ∷ []) others all
joined_more front row None left others h k = tt
joined_more front row (Some all) None others h k = let none : ⊥ = cc in absurd none
joined_more front row (Some all) (Some left) None h k = let none : ⊥ = cc in absurd none
joined_more front row (Some all) (Some left) (Some others) h k = ap Some (sym (front_more front row left others (sym (same_Some (row_before row others) left k)))) ∙ h

pub joined_end : (front : List (List Value)) (all left : Option (Result (List (List Value)) LoadRefusal)) → Joined front left all → IfSome left (λ read. read ≡ Ok []) → IfSome all (λ read. read ≡ Ok front)
joined_end front None left h k = tt
joined_end front (Some all) None h k = let none : ⊥ = cc in absurd none
joined_end front (Some all) (Some left) h k = sym (same_Some (with_front front left) all h) ∙ front_end front left k

pub joined_bad : (front : List (List Value)) (all left : Option (Result (List (List Value)) LoadRefusal)) (fault : RowFault) → Joined front left all → IsFaultOf left fault → IsFaultOf all fault
joined_bad front all left fault h k = told_too fault (bad all left h) k
  where
    bad : (all left : Option (Result (List (List Value)) LoadRefusal)) → Joined front left all → (why : LoadRefusal) → IfSome left (λ read. read ≡ Err why) → IfSome all (λ read. read ≡ Err why)
    bad None left h why k = tt
    bad (Some all) None h why k = let none : ⊥ = cc in absurd none
    bad (Some all) (Some left) h why k = sym (same_Some (with_front front left) all h) ∙ front_bad front left why k
