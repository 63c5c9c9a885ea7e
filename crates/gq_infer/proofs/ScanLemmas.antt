-- What fields are, record by record.
use Rattle.std.proofs.Common.{◌≡◌, ◌∙◌, ◌++◌, ℕ, Bool, true, false, cond, List, [], ◌∷◌, length, map, replicate, Option, Some, None, refl, sym, ap}
use Rattle.std.specs.Prelude.{◌&&◌, ◌||◌}
use Rattle.std.specs.List.{list_all, list_any, cons_option, filter_map}
use Rattle.std.proofs.lemmas.List.{append_assoc, append-nil}
use Rattle.std.proofs.lemmas.List.Concat.{flat_map-append}
use Rattle.std.proofs.lemmas.List.Folds.{list_all-append, list_any-append}
use Rattle.csv.specs.Records.{field_at}
use Rattle.gq_row.specs.declared.schema.Kind.TheVariants as kind
use Rattle.gq_load.specs.Fields.{is_null_field}
use Rattle.gq_infer.specs.declared.seen.Seen.{Seen}
use Rattle.gq_infer.specs.declared.seen.Seen.TheVariants.{Nulls, Numbers, Texts}
use Rattle.gq_infer.specs.Kinds.{is_int, is_int_or_null, kind_of, kind_seen, seen_in, with_field}
use Rattle.gq_infer.specs.Files.{Inferred, fields_below, fields_under, first_record, inferred, names_in, place_of, records_of, table_columns}
use Rattle.gq_infer.specs.Scanning.{columns_of, with_record, with_records, with_some}

-- ---- one field more

pub seen_more : (fields : List (List ℕ)) (field : List ℕ) → with_field (seen_in fields) field ≡ seen_in (fields ++ field ∷ [])
seen_more fields field =
    by (list_all is_int_or_null fields) (list_any is_int fields) (is_null_field kind.Int field) (is_int field) refl refl
    ∙ sym (rw (list_all-append is_int_or_null fields (field ∷ []), list_any-append is_int fields (field ∷ [])) refl)
  where
    by : (all some null int : Bool) → is_null_field kind.Int field ≡ null → is_int field ≡ int
        → with_field (cond all (cond some Numbers Nulls) Texts) field ≡ cond (all && (is_int_or_null field && true)) (cond (some || (is_int field || false)) Numbers Nulls) Texts
    by false some null int e k = refl
    by true false false false e k = rw (e, k) refl
    by true false false true e k = rw (e, k) refl
    by true false true false e k = rw (e, k) refl
    by true false true true e k = rw (e, k) refl
    by true true false false e k = rw (e, k) refl
    by true true false true e k = rw (e, k) refl
    by true true true false e k = rw (e, k) refl
    by true true true true e k = rw (e, k) refl

some_more : (fields : List (List ℕ)) (o : Option (List ℕ)) → with_some (seen_in fields) o ≡ seen_in (fields ++ cons_option o [])
some_more fields None = ap seen_in (sym (append-nil fields))
some_more fields (Some field) = seen_more fields field

-- the kind by what the fields are
pub kind_is : (fields : List (List ℕ)) → kind_seen (seen_in fields) ≡ kind_of fields
kind_is fields = by (list_all is_int_or_null fields) (list_any is_int fields)
  where
    by : (all some : Bool) → kind_seen (cond all (cond some Numbers Nulls) Texts) ≡ cond (all && some) kind.Int kind.Text
    by false some = refl
    by true false = refl
    by true true = refl

-- ---- one record more, over columns

abbrev more : List (List ℕ) → (List ℕ → ℕ) → (List ℕ → List (List ℕ)) → List ℕ → List (List ℕ)
more fields place so_far name = so_far name ++ cons_option (field_at fields (place name)) []

record_more : (names fields : List (List ℕ)) (place : List ℕ → ℕ) (so_far : List ℕ → List (List ℕ))
    → with_record fields (map place names) (map (λ name. seen_in (so_far name)) names) ≡ map (λ name. seen_in (more fields place so_far name)) names
record_more [] fields place so_far = refl
record_more (name ∷ names) fields place so_far =
    rw (some_more (so_far name) (field_at fields (place name)), record_more names fields place so_far) refl

pub alike : {X Y : Type 0} (f g : X → Y) (xs : List X) → ((x : X) → f x ≡ g x) → map f xs ≡ map g xs
alike f g [] h = refl
alike f g (x ∷ xs) h = rw (h x, alike f g xs h) refl

joined : (front : List (List ℕ)) (o : Option (List ℕ)) (rest : List (List ℕ)) → (front ++ cons_option o []) ++ rest ≡ front ++ cons_option o rest
joined front None rest = rw (append-nil front) refl
joined front (Some field) rest = append_assoc front (field ∷ []) rest

pub records_more : (rows : List (List (List ℕ))) (names : List (List ℕ)) (place : List ℕ → ℕ) (so_far : List ℕ → List (List ℕ))
    → with_records rows (map place names) (map (λ name. seen_in (so_far name)) names) ≡ map (λ name. seen_in (so_far name ++ filter_map (λ fields. field_at fields (place name)) rows)) names
records_more [] names place so_far = alike _ _ names (λ name. ap seen_in (sym (append-nil (so_far name))))
records_more (fields ∷ rows) names place so_far =
    ap (with_records rows (map place names)) (record_more names fields place so_far)
    ∙ records_more rows names place (more fields place so_far)
    ∙ alike _ _ names (λ name. ap seen_in (joined (so_far name) (field_at fields (place name)) (filter_map (λ row. field_at row (place name)) rows)))

-- ---- files

-- a file whose first record is the header
pub below_header : (name : List ℕ) (rows others : List (List (List ℕ))) (header : List (List ℕ)) → rows ≡ header ∷ others
    → fields_below name rows ≡ filter_map (λ fields. field_at fields (place_of header name)) others
below_header name rows others header e = rw e refl

pub all_alike : (names : List (List ℕ)) → map (λ name. Nulls) names ≡ replicate (length names) Nulls
all_alike [] = refl
all_alike (name ∷ names) = rw (all_alike names) refl

pub first_file : (file : List ℕ) (names header : List (List ℕ)) (others : List (List (List ℕ))) (seen : List Seen) → records_of file ≡ header ∷ others → names ≡ header
    → seen ≡ with_records others (map (place_of header) names) (replicate (length header) Nulls)
    → record { names = names; seen = seen } ≡ inferred file []
unfolding inferred
first_file file names header others seen e n s =
    let whole : names ≡ names_in file = n ∙ ap first_record (sym e) in
    let each : seen ≡ map (λ name. seen_in (fields_under (file ∷ []) name)) names =
    s ∙ ap (with_records others (map (place_of header) names)) (ap (λ n. replicate (length n) Nulls) (sym n) ∙ sym (all_alike names)) ∙ records_more others names (place_of header) (λ name. [])
    ∙ alike _ _ names (λ name. ap seen_in (sym (below_header name (records_of file) others header e) ∙ sym (append-nil (fields_below name (records_of file))))) in
    rw each (rw whole refl)

pub next_file : (first file : List ℕ) (files : List (List ℕ)) (old : Inferred) (header : List (List ℕ)) (others : List (List (List ℕ))) (names : List (List ℕ)) (seen : List Seen) → records_of file ≡ header ∷ others → old ≡ inferred first files
    → names ≡ old.names → seen ≡ with_records others (map (place_of header) old.names) old.seen
    → record { names = names; seen = seen } ≡ inferred first (files ++ file ∷ [])
unfolding inferred
next_file first file files old header others names seen e o n s =
    let were_named : old.names ≡ names_in first = ap (λ (i : Inferred). i.names) o in
    let were : old.seen ≡ map (λ name. seen_in (fields_under (first ∷ files) name)) (names_in first) = ap (λ (i : Inferred). i.seen) o in
    let each : seen ≡ map (λ name. seen_in (fields_under (first ∷ (files ++ file ∷ [])) name)) (names_in first) =
    s ∙ rw (were_named, were) (records_more others (names_in first) (place_of header) (fields_under (first ∷ files))
    ∙ alike _ _ (names_in first) (λ name. ap seen_in (grown name))) in
    rw (n ∙ were_named, each) refl
  where
    grown : (name : List ℕ) → fields_under (first ∷ files) name ++ filter_map (λ fields. field_at fields (place_of header name)) others ≡ fields_under (first ∷ (files ++ file ∷ [])) name
    grown name =
        ap (λ more. fields_under (first ∷ files) name ++ more) (sym (below_header name (records_of file) others header e) ∙ sym (append-nil (fields_below name (records_of file))))
        ∙ sym (flat_map-append (λ f. fields_below name (records_of f)) (first ∷ files) (file ∷ []))

-- ---- columns

pub columns_by_seen : (names : List (List ℕ)) (fields : List ℕ → List (List ℕ)) → columns_of names (map (λ name. seen_in (fields name)) names) ≡ map (λ name. record { name = name; kind = kind_of (fields name) }) names
columns_by_seen [] fields = refl
columns_by_seen (name ∷ names) fields = rw (kind_is (fields name), columns_by_seen names fields) refl

pub columns_of_files : (first : List ℕ) (others : List (List ℕ)) (i : Inferred) → i ≡ inferred first others → columns_of i.names i.seen ≡ table_columns first others
unfolding inferred
columns_of_files first others i e =
    ap (λ (x : Inferred). columns_of x.names x.seen) e ∙ columns_by_seen (names_in first) (fields_under (first ∷ others))
