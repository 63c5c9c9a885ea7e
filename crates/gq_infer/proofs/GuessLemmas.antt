-- Columns by first records are right if all files load under them.
use Rattle.std.proofs.Common.{◌≡◌, ◌∙◌, ◌+◌, ◌-◌, ◌<◌, ◌≤◌, ℕ, zero, suc, Bool, true, false, cond, not, List, [], ◌∷◌, ◌++◌, length, map, replicate, get_or, eqb, bytes_eq, All, Option, Some, None, Result, Ok, Err, refl, sym, ap, subst, arith}
use Rattle.std.specs.Prelude.{◌&&◌, IsOk, nat_lt, option_map, option_and_then}
use Rattle.std.specs.List.{list_all, list_any, cons_option, position_or_len}
use Rattle.std.proofs.lemmas.Bool.{ltb-true}
use Rattle.std.proofs.lemmas.Bool.Decides.{nat_tests}
use Rattle.std.proofs.lemmas.List.{append_assoc, get_or-map, get_or_append_left, length-append}
use Rattle.std.proofs.lemmas.List.Folds.{list_all-append, list_any-append}
use Rattle.std.proofs.lemmas.Option.{same_Some}
use Rattle.std.proofs.lemmas.Slice.Eq.{bytes_eq-Decides}
use Rattle.csv.specs.Records.{field_at}
use Rattle.gq_row.specs.declared.limits.Bounds.{Bounds}
use Rattle.gq_row.specs.declared.schema.Column.{Column}
use Rattle.gq_row.specs.declared.schema.Kind.{Kind}
use Rattle.gq_row.specs.declared.schema.Kind.TheVariants as kind
use Rattle.gq_row.specs.declared.value.Value.{Value}
use Rattle.gq_row.specs.Schemas.{PlainSchema, position_of, positions_of}
use Rattle.gq_load.specs.declared.load_refusal.LoadRefusal.{LoadRefusal}
use Rattle.gq_load.specs.declared.load_refusal.LoadRefusal.TheVariants.{FieldCount, Header}
use Rattle.gq_load.specs.declared.short_records.Short.{Short}
use Rattle.gq_load.specs.declared.short_records.Short.TheVariants.{Refused, Completed}
use Rattle.gq_load.specs.Answers.{◌>>=◌}
use Rattle.gq_load.specs.Fields.{null_field, value_of}
use Rattle.gq_load.specs.Headers.{all_columns, are_all, places_of}
use Rattle.gq_load.specs.Payloads.{cells_of, completed, data_rows, keyed, kind_at, load, row_of, rows_from, rows_of, values_of}
use Rattle.gq_load.proofs.Filling.{bound, ok_same}
use Rattle.gq_load.proofs.Names.{named_many}
use Rattle.gq_infer.specs.declared.seen.Seen.{Seen}
use Rattle.gq_infer.specs.declared.seen.Seen.TheVariants.{Nulls, Numbers, Texts}
use Rattle.gq_infer.specs.Kinds.{is_int, is_int_or_null, kind_of, seen_in}
use Rattle.gq_infer.specs.Files.{fields_at, fields_below, fields_under, first_record, place_of, records_of}
use Rattle.gq_infer.specs.Guesses.{AreRightIfLoaded, LoadsUnder, WithFirst, is_settled}
use Rattle.gq_infer.specs.Scanning.{columns_of, with_records}
use Rattle.gq_infer.proofs.NarrowLemmas.{fine}
use Rattle.gq_infer.proofs.ScanLemmas.{columns_by_seen, records_more, all_alike}

-- ---- the fields of a record that is accepted

field_taken : (longest number : ℕ) (kinds : List Kind) (fields : List (List ℕ)) (values : List Value) (i : ℕ) (k : Kind) → values_of longest number kinds fields ≡ Ok values → i < length kinds → i < length fields
    → IsOk (value_of longest number (get_or kinds i k) (get_or fields i []))
unfolding values_of
field_taken longest number [] fields values i k h l m = absurd (omega (arith, l))
field_taken longest number (kind ∷ kinds) [] values i k h l m = absurd (omega (arith, m))
field_taken longest number (kind ∷ kinds) (field ∷ fields) values zero k h l m =
    let a = bound (value_of longest number kind field) _ values h in
    rw a.1 refl
field_taken longest number (kind ∷ kinds) (field ∷ fields) values (suc i) k h l m =
    let a = bound (value_of longest number kind field) _ values h in
    let b = bound (values_of longest number kinds fields) _ values a.2 in
    field_taken longest number kinds fields b.0 i k b.1 (omega (arith, l)) (omega (arith, m))

-- a record that is accepted has as many fields as the header, and each has a value
record Accepted (columns : List Column) (longest : ℕ) (places : List ℕ) (number : ℕ) (fields : List (List ℕ)) : Type 0 where
  many : length fields ≡ length places
  each : (i : ℕ) → i < length fields → IsOk (value_of longest number (kind_at columns (get_or places i 0)) (get_or fields i []))

accepted : (schema : PlainSchema) (longest : ℕ) (places : List ℕ) (number : ℕ) (fields : List (List ℕ)) (row : List Value) → row_of schema longest places number fields ≡ Ok row → Accepted schema.columns longest places number fields
unfolding row_of cells_of
accepted schema longest places number fields row h = by (eqb (length fields) (length places)) refl h
  where
    by : (b : Bool) → eqb (length fields) (length places) ≡ b → cond b (cells_of longest number schema.columns places fields >>= λ cells. keyed schema.key number cells) (Err (FieldCount number)) ≡ Ok row
        → Accepted schema.columns longest places number fields
    by false e h = let none : ⊥ = cc in absurd none
    by true e h =
        let count : length fields ≡ length places = grind (arith, nat_tests) in
        let a = bound (cells_of longest number schema.columns places fields) _ row h in
        let b = bound (values_of longest number (map (kind_at schema.columns) places) fields) _ a.0 a.1 in
        record {
          many = count;
          each = λ i l.
              let k : get_or (map (kind_at schema.columns) places) i kind.Int ≡ kind_at schema.columns (get_or places i 0) = get_or-map (kind_at schema.columns) places i 0 kind.Int (omega (arith, l, count)) in
              subst (λ k. IsOk (value_of longest number k (get_or fields i []))) k
              (field_taken longest number (map (kind_at schema.columns) places) fields b.0 i kind.Int b.1 (map_many places (omega (arith, l, count))) l);
        }
      where
        map_many : (xs : List ℕ) → {i : ℕ} → i < length xs → i < length (map (kind_at schema.columns) xs)
        map_many xs l = omega (arith, l, many_mapped xs)
          where
            many_mapped : (xs : List ℕ) → length (map (kind_at schema.columns) xs) ≡ length xs
            many_mapped [] = refl
            many_mapped (x ∷ xs) = ap suc (many_mapped xs)

-- ---- a record as it is read

front_same : (short : Short) (count : ℕ) (fields : List (List ℕ)) (i : ℕ) → i < length fields → get_or (completed short count fields) i [] ≡ get_or fields i []
front_same Refused count fields i l = refl
front_same Completed count fields i l = get_or_append_left fields (replicate (count - length fields) null_field) [] i l

no_shorter : (short : Short) (count : ℕ) (fields : List (List ℕ)) → length fields ≤ length (completed short count fields)
no_shorter Refused count fields = omega arith
no_shorter Completed count fields = omega (arith, length-append fields (replicate (count - length fields) null_field))

-- a field by its place
field_is : (fields : List (List ℕ)) (place : ℕ) (field : List ℕ) → field_at fields place ≡ Some field → (place < length fields) × (get_or fields place [] ≡ field)
unfolding field_at
field_is [] place field h = let none : ⊥ = cc in absurd none
field_is (f ∷ fields) zero field h = (omega arith, same_Some _ _ h)
field_is (f ∷ fields) (suc place) field h = let again = field_is fields place field h in (omega (arith, again.0), again.1)

-- ---- a column of an accepted file

module _ (schema : PlainSchema) (longest : ℕ) (places : List ℕ) (short : Short) (place : ℕ) (int : place < length places → kind_at schema.columns (get_or places place 0) ≡ kind.Int) where
  one_accepted : (number : ℕ) (fields : List (List ℕ)) (row : List Value) (field : List ℕ) → row_of schema longest places number (completed short (length places) fields) ≡ Ok row → field_at fields place ≡ Some field
      → is_int_or_null field ≡ true
  one_accepted number fields row field h e =
      let a = accepted schema longest places number (completed short (length places) fields) row h in
      let at = field_is fields place field e in
      let within : place < length (completed short (length places) fields) = omega (arith, at.0, no_shorter short (length places) fields) in
      let k = int (omega (arith, within, a.many)) in
      fine longest number field (subst (λ f. IsOk (value_of longest number kind.Int f)) (front_same short (length places) fields place at.0 ∙ at.1)
      (subst (λ k. IsOk (value_of longest number k (get_or (completed short (length places) fields) place []))) k (a.each place within)))

  all_accepted : (number : ℕ) (others : List (List (List ℕ))) (rows : List (List Value)) → rows_from schema longest places number (map (completed short (length places)) others) ≡ Ok rows
      → list_all is_int_or_null (fields_at place others) ≡ true
  unfolding rows_from
  all_accepted number [] rows h = refl
  all_accepted number (fields ∷ others) rows h =
      let a = bound (row_of schema longest places number (completed short (length places) fields)) _ rows h in
      let b = bound (rows_from schema longest places (number + 1) (map (completed short (length places)) others)) _ rows a.2 in
      by (field_at fields place) refl a.0 a.1 (all_accepted (number + 1) others b.0 b.1)
    where
      by : (o : Option (List ℕ)) → field_at fields place ≡ o → (row : List Value) → row_of schema longest places number (completed short (length places) fields) ≡ Ok row
          → list_all is_int_or_null (fields_at place others) ≡ true → list_all is_int_or_null (cons_option o (fields_at place others)) ≡ true
      by None e row h again = again
      by (Some field) e row h again = rw (one_accepted number fields row field h e) again

-- ---- columns by their names

abbrev columns_by : (List ℕ → Kind) → List (List ℕ) → List Column
columns_by k names = map (λ name. record { name = name; kind = k name }) names

same_bytes : (a b : List ℕ) → bytes_eq a b ≡ true → a ≡ b
same_bytes a b h = (bytes_eq-Decides a b).0 h

kind_placed : (k : List ℕ → Kind) (names : List (List ℕ)) (name : List ℕ) → position_or_len (λ (c : Column). bytes_eq c.name name) (columns_by k names) < length (columns_by k names)
    → kind_at (columns_by k names) (position_or_len (λ (c : Column). bytes_eq c.name name) (columns_by k names)) ≡ k name
kind_placed k [] name h = absurd (omega (arith, h))
kind_placed k (n ∷ names) name h = by (bytes_eq n name) refl h (kind_placed k names name)
  where
    others : ℕ
    others = position_or_len (λ (c : Column). bytes_eq c.name name) (columns_by k names)

    by : (b : Bool) → bytes_eq n name ≡ b → cond (not b) (1 + others) 0 < suc (length (columns_by k names)) → (others < length (columns_by k names) → kind_at (columns_by k names) others ≡ k name)
        → kind_at (columns_by k (n ∷ names)) (cond (not b) (1 + others) 0) ≡ k name
    by true e h again = ap k (same_bytes n name e)
    by false e h again =
        let next : 1 + others ≡ suc others = omega arith in
        rw next (again (omega (arith, h)))

kind_named : (k : List ℕ → Kind) (names : List (List ℕ)) (name : List ℕ) (place : ℕ) → position_of (columns_by k names) name ≡ Some place → kind_at (columns_by k names) place ≡ k name
kind_named k names name place h = by (nat_lt at (length (columns_by k names))) refl h
  where
    at : ℕ
    at = position_or_len (λ (c : Column). bytes_eq c.name name) (columns_by k names)

    by : (b : Bool) → nat_lt at (length (columns_by k names)) ≡ b → cond b (Some at) None ≡ Some place → kind_at (columns_by k names) place ≡ k name
    by true e h = ap (kind_at (columns_by k names)) (sym (same_Some _ _ h)) ∙ kind_placed k names name (ltb-true _ _ e)
    by false e h = let none : ⊥ = cc in absurd none

-- ---- the header of an accepted file

positions_are : (columns : List Column) (names : List (List ℕ)) (places : List ℕ) → places_of columns names ≡ Ok places → positions_of columns names ≡ Some places
unfolding places_of
positions_are columns names places h = by (positions_of columns names) refl h
  where
    by : (o : Option (List ℕ)) → positions_of columns names ≡ o → all_columns (length columns) o ≡ Ok places → positions_of columns names ≡ Some places
    by None e h = let none : ⊥ = cc in absurd none
    by (Some found) e h = all (are_all (length columns) found) h
      where
        all : (b : Bool) → cond b (Ok found) (Err Header) ≡ Ok places → positions_of columns names ≡ Some places
        all true h = e ∙ ap Some (ok_same found places h)
        all false h = let none : ⊥ = cc in absurd none

each_position : (columns : List Column) (names : List (List ℕ)) (places : List ℕ) (i : ℕ) → positions_of columns names ≡ Some places → i < length names → position_of columns (get_or names i []) ≡ Some (get_or places i 0)
each_position columns [] places i h l = absurd (omega (arith, l))
each_position columns (name ∷ names) places i h l = by (position_of columns name) refl (positions_of columns names) refl h i l (each_position columns names)
  where
    by : (o : Option ℕ) → position_of columns name ≡ o → (r : Option (List ℕ)) → positions_of columns names ≡ r → option_and_then (λ first. option_map (λ rest. first ∷ rest) r) o ≡ Some places → (i : ℕ) → i < suc (length names)
        → ((rest : List ℕ) (j : ℕ) → positions_of columns names ≡ Some rest → j < length names → position_of columns (get_or names j []) ≡ Some (get_or rest j 0))
        → position_of columns (get_or (name ∷ names) i []) ≡ Some (get_or places i 0)
    by None p r q h i l again = let none : ⊥ = cc in absurd none
    by (Some x) p None q h i l again = let none : ⊥ = cc in absurd none
    by (Some x) p (Some xs) q h zero l again = p ∙ ap (λ (ps : List ℕ). Some (get_or ps 0 0)) (same_Some (x ∷ xs) places h)
    by (Some x) p (Some xs) q h (suc j) l again = again xs j q (omega (arith, l)) ∙ ap (λ (ps : List ℕ). Some (get_or ps (suc j) 0)) (same_Some (x ∷ xs) places h)

-- the first place of a name has that name
at_first_place : (header : List (List ℕ)) (name : List ℕ) → place_of header name < length header → get_or header (place_of header name) [] ≡ name
at_first_place [] name h = absurd (omega (arith, h))
at_first_place (n ∷ header) name h = by (bytes_eq n name) refl h (at_first_place header name)
  where
    by : (b : Bool) → bytes_eq n name ≡ b → cond (not b) (1 + place_of header name) 0 < suc (length header) → (place_of header name < length header → get_or header (place_of header name) [] ≡ name)
        → get_or (n ∷ header) (cond (not b) (1 + place_of header name) 0) [] ≡ name
    by true e h again = same_bytes n name e
    by false e h again =
        let next : 1 + place_of header name ≡ suc (place_of header name) = omega arith in
        rw next (again (omega (arith, h)))

-- ---- an accepted file

record Opened (schema : PlainSchema) (short : Short) (longest : ℕ) (file : List ℕ) : Type 0 where
  names : List (List ℕ)
  others : List (List (List ℕ))
  places : List ℕ
  rows : List (List Value)
  cut : records_of file ≡ names ∷ others
  placed : places_of schema.columns names ≡ Ok places
  read : rows_from schema longest places 1 (map (completed short (length places)) others) ≡ Ok rows

value_in_ok : {A : Type 0} (r : Result A LoadRefusal) → IsOk r → (x : A) × (r ≡ Ok x)
value_in_ok (Ok x) h = (x, refl)
value_in_ok (Err e) h = let none : ⊥ = cc in absurd none

opened : (schema : PlainSchema) (short : Short) (bounds : Bounds) (file : List ℕ) → IsOk (load short schema bounds file) → Opened schema short bounds.text file
unfolding rows_of data_rows
opened schema short bounds file h = by (records_of file) refl (value_in_ok (load short schema bounds file) h)
  where
    by : (all : List (List (List ℕ))) → records_of file ≡ all → (rows : List (List Value)) × (rows_of short schema bounds all ≡ Ok rows) → Opened schema short bounds.text file
    by [] e (rows, k) = let none : ⊥ = cc in absurd none
    by (names ∷ others) e (rows, k) =
        let a = bound (places_of schema.columns names) _ rows k in
        let b = bound (rows_from schema bounds.text a.0 1 (map (completed short (length a.0)) others)) _ rows a.2 in
        record { names = names; others = others; places = a.0; rows = b.0; cut = e; placed = a.1; read = b.1 }

module _ (k : List ℕ → Kind) (named : List (List ℕ)) (short : Short) (bounds : Bounds) where
  accepts : (name file : List ℕ) → k name ≡ kind.Int → LoadsUnder short bounds (columns_by k named) file → list_all is_int_or_null (fields_below name (records_of file)) ≡ true
  accepts name file int h =
      let columns = columns_by k named in
      let o = opened (record { columns = columns; key = [] }) short bounds file h in
      let place = place_of o.names name in
      let many : length o.places ≡ length o.names = named_many columns o.names o.places o.placed in
      rw o.cut
      (all_accepted (record { columns = columns; key = [] }) bounds.text o.places short place
      (λ l.
      let m : place < length o.names = omega (arith, l, many) in
      let at : position_of columns name ≡ Some (get_or o.places place 0) =
      ap (position_of columns) (sym (at_first_place o.names name m)) ∙ each_position columns o.names o.places place (positions_are columns o.names o.places o.placed) m in
      kind_named k named name (get_or o.places place 0) at ∙ int)
      1 o.others o.rows o.read)

  all_accept : (name : List ℕ) (files : List (List ℕ)) → k name ≡ kind.Int → All (LoadsUnder short bounds (columns_by k named)) files → list_all is_int_or_null (fields_under files name) ≡ true
  all_accept name [] int h = refl
  all_accept name (file ∷ files) int h =
      list_all-append is_int_or_null (fields_below name (records_of file)) (fields_under files name)
      ∙ rw (accepts name file int (h 0 [] (omega arith))) (all_accept name files int (λ i d l. h (suc i) d (omega (arith, l))))

-- ---- the kinds

settled_kind : (fields more : List (List ℕ)) → is_settled (seen_in fields) ≡ true → (kind_of fields ≡ kind.Int → list_all is_int_or_null (fields ++ more) ≡ true) → kind_of fields ≡ kind_of (fields ++ more)
settled_kind fields more settled int =
    by (list_all is_int_or_null fields) refl (list_any is_int fields) refl settled int
  where
    by : (all : Bool) → list_all is_int_or_null fields ≡ all → (some : Bool) → list_any is_int fields ≡ some → is_settled (cond all (cond some Numbers Nulls) Texts) ≡ true
        → (cond (all && some) kind.Int kind.Text ≡ kind.Int → list_all is_int_or_null (fields ++ more) ≡ true) → cond (all && some) kind.Int kind.Text ≡ kind_of (fields ++ more)
    by true e true s settled int =
        let each = int refl in
        let one : list_any is_int (fields ++ more) ≡ true = list_any-append is_int fields more ∙ rw s refl in
        rw (each, one) refl
    by true e false s settled int = let none : ⊥ = cc in absurd none
    by false e some s settled int =
        let not_all : list_all is_int_or_null (fields ++ more) ≡ false = list_all-append is_int_or_null fields more ∙ rw e refl in
        rw not_all refl

columns_alike : (k l : List ℕ → Kind) (seen : List ℕ → Seen) (names : List (List ℕ)) → list_all is_settled (map seen names) ≡ true → ((name : List ℕ) → is_settled (seen name) ≡ true → k name ≡ l name)
    → columns_by k names ≡ columns_by l names
columns_alike k l seen [] settled same = refl
columns_alike k l seen (name ∷ names) settled same = by (is_settled (seen name)) refl settled (λ rest. columns_alike k l seen names rest same)
  where
    by : (b : Bool) → is_settled (seen name) ≡ b → b && list_all is_settled (map seen names) ≡ true → (list_all is_settled (map seen names) ≡ true → columns_by k names ≡ columns_by l names)
        → columns_by k (name ∷ names) ≡ columns_by l (name ∷ names)
    by true e rest again = rw (same name e, again rest) refl
    by false e rest again = let none : ⊥ = cc in absurd none

cut_fields : (place : ℕ) (front rest : List (List (List ℕ))) → fields_at place (front ++ rest) ≡ fields_at place front ++ fields_at place rest
cut_fields place [] rest = refl
cut_fields place (fields ∷ front) rest = by (field_at fields place) (cut_fields place front rest)
  where
    by : (o : Option (List ℕ)) → fields_at place (front ++ rest) ≡ fields_at place front ++ fields_at place rest
        → cons_option o (fields_at place (front ++ rest)) ≡ cons_option o (fields_at place front) ++ fields_at place rest
    by None again = again
    by (Some field) again = ap (λ fs. field ∷ fs) again

pub right_if_loaded : (first : List ℕ) (names : List (List ℕ)) (front rest : List (List (List ℕ))) (seen : List Seen) → records_of first ≡ names ∷ (front ++ rest)
    → seen ≡ with_records front (map (place_of names) names) (replicate (length names) Nulls) → list_all is_settled seen ≡ true → AreRightIfLoaded (columns_of names seen) first
right_if_loaded first names front rest seen cut were settled short bounds others loads =
    by_name ∙ columns_alike (λ name. kind_of (sample name)) (λ name. kind_of (fields_under (first ∷ others) name)) (λ name. seen_in (sample name)) names
    (ap (list_all is_settled) (sym seen_is) ∙ settled)
    (λ name s. settled_kind (sample name) (later name) s
    (λ int. ap (list_all is_int_or_null) (sym (whole name)) ∙ all_accept (λ n. kind_of (sample n)) names short bounds name (first ∷ others) int (subst (λ cs. All (LoadsUnder short bounds cs) (first ∷ others)) by_name loads))
    ∙ ap kind_of (sym (whole name)))
    ∙ ap (map (λ name. record { name = name; kind = kind_of (fields_under (first ∷ others) name) })) (sym (ap first_record cut))
  where
    sample : List ℕ → List (List ℕ)
    sample name = fields_at (place_of names name) front

    later : List ℕ → List (List ℕ)
    later name = fields_at (place_of names name) rest ++ fields_under others name

    seen_is : seen ≡ map (λ name. seen_in (sample name)) names
    seen_is = were ∙ ap (with_records front (map (place_of names) names)) (sym (all_alike names)) ∙ records_more front names (place_of names) (λ name. [])

    by_name : columns_of names seen ≡ columns_by (λ name. kind_of (sample name)) names
    by_name = ap (columns_of names) seen_is ∙ columns_by_seen names sample

    whole : (name : List ℕ) → fields_under (first ∷ others) name ≡ sample name ++ later name
    whole name =
        ap (λ rows. fields_below name rows ++ fields_under others name) cut
        ∙ ap (λ fs. fs ++ fields_under others name) (cut_fields (place_of names name) front rest)
        ∙ append_assoc (sample name) (fields_at (place_of names name) rest) (fields_under others name)

-- the same by the records that were read after a header
pub guessed : (first : List ℕ) (names header : List (List ℕ)) (others : List (List (List ℕ))) (was seen : List Seen) (columns : List Column) → records_of first ≡ header ∷ others → names ≡ header
    → was ≡ replicate (length header) Nulls → WithFirst others (map (place_of header) names) was seen → list_all is_settled seen ≡ true → columns ≡ columns_of names seen → AreRightIfLoaded columns first
guessed first names header others was seen columns cut named nulls w settled made =
    let P : List Column → Type 0 = λ cs. AreRightIfLoaded cs first in
    let Q : List (List ℕ) → Type 0 = λ ns. seen ≡ with_records w.front (map (place_of header) ns) (replicate (length header) Nulls) in
    let seen_is : seen ≡ with_records w.front (map (place_of header) header) (replicate (length header) Nulls) = subst Q named (w.seen_is ∙ ap (with_records w.front (map (place_of header) names)) nulls) in
    subst P (sym (made ∙ ap (λ ns. columns_of ns seen) named))
    (right_if_loaded first header w.front w.rest seen (cut ∙ ap (λ records. header ∷ records) w.cut) seen_is settled)
