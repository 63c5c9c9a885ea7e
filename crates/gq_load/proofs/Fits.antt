-- The rows of a payload fit their table.
use Rattle.std.proofs.Common.{◌≡◌, ◌∙◌, ◌+◌, ◌<◌, ℕ, ℤ, suc, Bool, true, false, cond, not, List, [], ◌∷◌, length, map, get_or, eqb, Option, Some, None, Result, Ok, Err, refl, sym, ap, subst, arith}
use Rattle.std.specs.Prelude.{nat_lt}
use Rattle.std.specs.List.{list_all, range_with_len}
use Rattle.std.specs.Str.{is_utf8}
use Rattle.std.proofs.lemmas.Bool.{ltb-false}
use Rattle.std.proofs.lemmas.Bool.Decides.{nat_tests}
use Rattle.csv.specs.Reading.{records, default_config, strip_bom}
use Rattle.gq_row.specs.declared.value.Value.{Value}
use Rattle.gq_row.specs.declared.value.Value.TheVariants.{Null, Int, Text, NoCase}
use Rattle.gq_row.specs.declared.schema.Column.{Column}
use Rattle.gq_row.specs.declared.schema.Kind.{Kind}
use Rattle.gq_row.specs.declared.schema.Kind.TheVariants as kind
use Rattle.gq_row.specs.declared.limits.Bounds.{Bounds}
use Rattle.gq_row.specs.Schemas.{PlainSchema}
use Rattle.gq_load.specs.declared.load_refusal.LoadRefusal.{LoadRefusal}
use Rattle.gq_load.specs.declared.load_refusal.LoadRefusal.TheVariants.{BadText, Limit, FieldCount, NullKey}
use Rattle.gq_load.specs.declared.short_records.Short.{Short}
use Rattle.gq_load.specs.Answers.{◌>>=◌}
use Rattle.gq_load.specs.Fields.{int_value, is_null_field, text_value, value_by, value_of}
use Rattle.gq_load.specs.Numbers.{int_of}
use Rattle.gq_row.specs.Folding.{without_case}
use Rattle.gq_row.specs.Fitting.{goes_in, fits_columns, has_null}
use Rattle.gq_load.specs.Fitting.{AreFit}
use Rattle.gq_load.specs.Payloads.{arranged, cells_of, completed, keyed, kind_at, load, row_of, rows_from, rows_of, data_rows, value_in, values_of}
use Rattle.gq_load.specs.Headers.{places_of}
use Rattle.gq_load.proofs.Filling.{bound, kind_is, ok_same}

chosen : {A : Type 0} (b : Bool) (e : LoadRefusal) (r : Result A LoadRefusal) (y : A) → cond b (Err e) r ≡ Ok y → (b ≡ false) × (r ≡ Ok y)
chosen true e r y h = let none : ⊥ = cc in absurd none
chosen false e r y h = (refl, h)

-- a field's value goes into its column

int_goes : (number : ℕ) (o : Option ℤ) (v : Value) → int_value number o ≡ Ok v → goes_in kind.Int v ≡ true
int_goes number None v h = let none : ⊥ = cc in absurd none
int_goes number (Some z) v h = ap (goes_in kind.Int) (sym (ok_same (Int z) v h))

text_goes : (most number : ℕ) (field : List ℕ) (v : Value) → text_value most number field ≡ Ok v → goes_in kind.Text v ≡ true
unfolding text_value
text_goes most number field v h =
    let a = chosen (not (is_utf8 field)) (BadText number) _ v h in
    let b = chosen (nat_lt most (length field)) Limit _ v a.1 in
    ap (goes_in kind.Text) (sym (ok_same (Text field) v b.1))

without_goes : (v : Value) → goes_in kind.Text v ≡ true → goes_in kind.NoCase (without_case v) ≡ true
without_goes Null h = refl
without_goes (Int n) h = let none : ⊥ = cc in absurd none
without_goes (Text t) h = refl
without_goes (NoCase t) h = refl

no_case_goes : (most number : ℕ) (field : List ℕ) (v : Value) → (text_value most number field >>= λ text. Ok (without_case text)) ≡ Ok v → goes_in kind.NoCase v ≡ true
no_case_goes most number field v h =
    let text = bound (text_value most number field) (λ text. Ok (without_case text)) v h in
    ap (goes_in kind.NoCase) (sym (ok_same (without_case text.0) v text.2)) ∙ without_goes text.0 (text_goes most number field text.0 text.1)

by_goes : (most number : ℕ) (k : Kind) (field : List ℕ) (v : Value) → value_by most number k field ≡ Ok v → goes_in k v ≡ true
by_goes most number kind.Int field v h = int_goes number (int_of field) v h
by_goes most number kind.Text field v h = text_goes most number field v h
by_goes most number kind.NoCase field v h = no_case_goes most number field v h

value_goes : (most number : ℕ) (k : Kind) (field : List ℕ) (v : Value) → value_of most number k field ≡ Ok v → goes_in k v ≡ true
unfolding value_of
value_goes most number k field v h = by_null (is_null_field k field) h
  where
    by_null : (b : Bool) → cond b (Ok Null) (value_by most number k field) ≡ Ok v → goes_in k v ≡ true
    by_null true h = ap (goes_in k) (sym (ok_same Null v h))
    by_null false h = by_goes most number k field v h

-- values that go into the columns at these places
abbrev AllGo : List Column → List ℕ → List Value → Type 0
AllGo columns [] values = Unit {0}
AllGo columns (place ∷ places) [] = Unit {0}
AllGo columns (place ∷ places) (value ∷ values) = (goes_in (kind_at columns place) value ≡ true) × AllGo columns places values

none_go : (columns : List Column) (places : List ℕ) → AllGo columns places []
none_go columns [] = tt
none_go columns (place ∷ places) = tt

values_go : (most number : ℕ) (columns : List Column) (places : List ℕ) (fields : List (List ℕ)) (values : List Value) → values_of most number (map (kind_at columns) places) fields ≡ Ok values → AllGo columns places values
unfolding values_of
values_go most number columns [] fields values h = tt
values_go most number columns (place ∷ places) [] values h = subst (AllGo columns (place ∷ places)) (ok_same [] values h) (none_go columns (place ∷ places))
values_go most number columns (place ∷ places) (field ∷ fields) values h =
    let a = bound (value_of most number (kind_at columns place) field) _ values h in
    let b = bound (values_of most number (map (kind_at columns) places) fields) _ values a.2 in
    subst (AllGo columns (place ∷ places)) (ok_same (a.0 ∷ b.0) values b.2) (value_goes most number (kind_at columns place) field a.0 a.1, values_go most number columns places fields b.0 b.1)

in_goes : (columns : List Column) (places : List ℕ) (values : List Value) (column : ℕ) → AllGo columns places values → goes_in (kind_at columns column) (value_in places values column) ≡ true
in_goes columns [] values column h = refl
in_goes columns (place ∷ places) [] column h = refl
in_goes columns (place ∷ places) (value ∷ values) column h = by_first (eqb place column) refl h.0 (in_goes columns places values column h.1)
  where
    by_first : (b : Bool) → eqb place column ≡ b → goes_in (kind_at columns place) value ≡ true → goes_in (kind_at columns column) (value_in places values column) ≡ true
        → goes_in (kind_at columns column) (cond b value (value_in places values column)) ≡ true
    by_first true e first others =
        let same : place ≡ column = grind (arith, nat_tests) in
        rw (← same) first
    by_first false e first others = others

-- a row made column by column
fits_range : (columns : List Column) (a : ℕ) (g : ℕ → Value) → ((j : ℕ) (d : Column) → j < length columns → goes_in (get_or columns j d).kind (g (a + j)) ≡ true) → fits_columns columns (map g (range_with_len a (length columns))) ≡ true
fits_range [] a g h = refl
fits_range (c ∷ cs) a g h =
    let here : a + 0 ≡ a = omega arith in
    let first : goes_in c.kind (g a) ≡ true = rw here at (h 0 c (omega arith)) in
    let others = fits_range cs (a + 1) g (λ j d s. let same : a + 1 + j ≡ a + suc j = omega arith in rw same (h (suc j) d (omega (arith, s)))) in
    rw (first, others) refl

cells_fit : (most number : ℕ) (columns : List Column) (places : List ℕ) (fields : List (List ℕ)) (cells : List Value) → cells_of most number columns places fields ≡ Ok cells → fits_columns columns cells ≡ true
unfolding cells_of
cells_fit most number columns places fields cells h =
    let a = bound (values_of most number (map (kind_at columns) places) fields) _ cells h in
    let go = values_go most number columns places fields a.0 a.1 in
    ap (fits_columns columns) (sym (ok_same (arranged (length columns) places a.0) cells a.2))
    ∙ fits_range columns 0 (value_in places a.0) (λ j d s.
    let same : 0 + j ≡ j = omega arith in
    rw same (rw (← kind_is columns j d s) (in_goes columns places a.0 j go)))

pub record IsFit (schema : PlainSchema) (row : List Value) : Type 0 where
  pub fitting : fits_columns schema.columns row ≡ true
  pub keyed : has_null schema.key row ≡ false

pub row_fit : (schema : PlainSchema) (most : ℕ) (places : List ℕ) (number : ℕ) (fields : List (List ℕ)) (row : List Value) → row_of schema most places number fields ≡ Ok row → IsFit schema row
unfolding row_of keyed
row_fit schema most places number fields row h = by_count (eqb (length fields) (length places)) h
  where
    by_count : (b : Bool) → cond b (cells_of most number schema.columns places fields >>= λ cells. keyed schema.key number cells) (Err (FieldCount number)) ≡ Ok row → IsFit schema row
    by_count true h =
        let a = bound (cells_of most number schema.columns places fields) _ row h in
        let b = chosen (has_null schema.key a.0) (NullKey number) (Ok a.0) row a.2 in
        subst (IsFit schema) (ok_same a.0 row b.1) (record { fitting = cells_fit most number schema.columns places fields a.0 a.1; keyed = b.0 })
    by_count false h = let none : ⊥ = cc in absurd none

record AllFit (schema : PlainSchema) (rows : List (List Value)) : Type 0 where
  fitting : list_all (fits_columns schema.columns) rows ≡ true
  keyed : list_all (λ row. not (has_null schema.key row)) rows ≡ true

rows_fit : (schema : PlainSchema) (most : ℕ) (places : List ℕ) (number : ℕ) (records : List (List (List ℕ))) (rows : List (List Value)) → rows_from schema most places number records ≡ Ok rows → AllFit schema rows
unfolding rows_from
rows_fit schema most places number [] rows h = subst (AllFit schema) (ok_same [] rows h) (record { fitting = refl; keyed = refl })
rows_fit schema most places number (fields ∷ others) rows h =
    let a = bound (row_of schema most places number fields) _ rows h in
    let b = bound (rows_from schema most places (number + 1) others) _ rows a.2 in
    let first = row_fit schema most places number fields a.0 a.1 in
    let rest = rows_fit schema most places (number + 1) others b.0 b.1 in
    subst (AllFit schema) (ok_same (a.0 ∷ b.0) rows b.2) (record { fitting = rw (first.fitting, rest.fitting) refl; keyed = rw (first.keyed, rest.keyed) refl })

all_fit : (short : Short) (schema : PlainSchema) (bounds : Bounds) (given : List (List (List ℕ))) (rows : List (List Value)) → rows_of short schema bounds given ≡ Ok rows → AreFit schema bounds rows
unfolding rows_of data_rows
all_fit short schema bounds [] rows h = let none : ⊥ = cc in absurd none
all_fit short schema bounds (names ∷ others) rows h =
    let a = bound (places_of schema.columns names) _ rows h in
    let b = bound (rows_from schema bounds.text a.0 1 (map (completed short (length a.0)) others)) _ rows a.2 in
    let c = chosen (nat_lt bounds.rows (length b.0)) Limit (Ok b.0) rows b.2 in
    let fit = rows_fit schema bounds.text a.0 1 (map (completed short (length a.0)) others) b.0 b.1 in
    subst (AreFit schema bounds) (ok_same b.0 rows c.1) (record { fitting = fit.fitting; keyed = fit.keyed; few = ltb-false bounds.rows (length b.0) c.0 })

-- what is loaded fits the table
pub loaded_fit : (short : Short) (schema : PlainSchema) (bounds : Bounds) (bytes : List ℕ) (rows : List (List Value)) → load short schema bounds bytes ≡ Ok rows → AreFit schema bounds rows
loaded_fit short schema bounds bytes rows h = all_fit short schema bounds (records default_config (strip_bom bytes)) rows h
