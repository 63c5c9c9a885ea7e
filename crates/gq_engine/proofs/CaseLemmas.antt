-- What columns store of values.
use Rattle.std.proofs.Common.{◌≡◌, ℕ, zero, suc, true, List, [], ◌∷◌, map, refl, ap, ◌∙◌, IsTrue}
use Rattle.std.specs.List.{list_all}
use Rattle.std.proofs.lemmas.Bool.{and_parts, false≢true}
use Rattle.gq_row.specs.declared.value.Value.{Value}
use Rattle.gq_row.specs.declared.value.Value.TheVariants.{Null, Int, Text, NoCase}
use Rattle.gq_row.specs.declared.schema.Kind.{Kind}
use Rattle.gq_row.specs.declared.schema.Kind.TheVariants as kind
use Rattle.gq_row.specs.declared.schema.Column.{Column}
use Rattle.gq_row.specs.Fitting.{fits_columns, goes_in, stored, stored_in}
use Rattle.gq_row.specs.Folding.{folded, has_case}
use Rattle.gq_row.specs.Schemas.{PlainSchema}
use Rattle.gq_row.proofs.FoldLemmas.{folded_plain}
use Rattle.gq_load.specs.Payloads.{kind_at}
use Rattle.gq_engine.specs.Casing.{keeps_case, StoresAsGiven}
use Rattle.gq_engine.specs.Refusing.{stored_key}
use Rattle.gq_engine.specs.Steps.{key_named}
use Rattle.gq_engine.specs.Upserting.{literal_of}

-- ---- of the literals of values that fit the columns store these values

value_stored : (k : Kind) (v : Value) → goes_in k v ≡ true → stored k (literal_of v) ≡ v
value_stored kind.Int Null h = refl
value_stored kind.Int (Int n) h = refl
value_stored kind.Int (Text t) h = refl
value_stored kind.Int (NoCase t) h = absurd (false≢true h)
value_stored kind.Text Null h = refl
value_stored kind.Text (Int n) h = refl
value_stored kind.Text (Text t) h = refl
value_stored kind.Text (NoCase t) h = absurd (false≢true h)
value_stored kind.NoCase Null h = refl
value_stored kind.NoCase (Int n) h = refl
value_stored kind.NoCase (Text t) h = absurd (false≢true h)
value_stored kind.NoCase (NoCase t) h = refl

pub literals_stored : (columns : List Column) (row : List Value) → fits_columns columns row ≡ true → stored_in columns (map literal_of row) ≡ row
literals_stored [] [] h = refl
literals_stored [] (v ∷ vs) h = absurd (false≢true h)
literals_stored (c ∷ cs) [] h = refl
literals_stored (c ∷ cs) (v ∷ vs) h =
    let parts = and_parts (goes_in c.kind v) (fits_columns cs vs) h in
    λ i. value_stored c.kind v parts.0 i ∷ literals_stored cs vs parts.1 i

-- ---- where no column is of texts without case, all values are

abbrev KeepCase : List Column → Type 0
KeepCase columns = IsTrue (list_all (λ (column : Column). keeps_case column.kind) columns)

value_plain : (k : Kind) (v : Value) → IsTrue (keeps_case k) → stored k v ≡ v
value_plain kind.Int v h = refl
value_plain kind.Text v h = refl
value_plain kind.NoCase v h = absurd (false≢true h)

row_plain : (columns : List Column) (values : List Value) → KeepCase columns → stored_in columns values ≡ values
row_plain [] values h = refl
row_plain (c ∷ cs) [] h = refl
row_plain (c ∷ cs) (v ∷ vs) h =
    let parts = and_parts (keeps_case c.kind) (list_all (λ (column : Column). keeps_case column.kind) cs) h in
    λ i. value_plain c.kind v parts.0 i ∷ row_plain cs vs parts.1 i

kind_plain : (columns : List Column) (place : ℕ) → KeepCase columns → IsTrue (keeps_case (kind_at columns place))
kind_plain [] place h = refl
kind_plain (c ∷ cs) zero h = (and_parts (keeps_case c.kind) (list_all (λ (column : Column). keeps_case column.kind) cs) h).0
kind_plain (c ∷ cs) (suc place) h = kind_plain cs place (and_parts (keeps_case c.kind) (list_all (λ (column : Column). keeps_case column.kind) cs) h).1

key_stored : (columns : List Column) (key : List ℕ) (values : List Value) → KeepCase columns → stored_key columns key values ≡ values
key_stored columns [] values h = refl
key_stored columns (p ∷ ps) [] h = refl
key_stored columns (p ∷ ps) (v ∷ vs) h = λ i. value_plain (kind_at columns p) v (kind_plain columns p h) i ∷ key_stored columns ps vs h i

all_folded : (values : List Value) → IsTrue (list_all has_case values) → map folded values ≡ values
all_folded [] h = refl
all_folded (v ∷ vs) h =
    let parts = and_parts (has_case v) (list_all has_case vs) h in
    λ i. folded_plain v parts.0 i ∷ all_folded vs parts.1 i

key_plain : (schema : PlainSchema) (values : List Value) → KeepCase schema.columns → IsTrue (list_all has_case values) → key_named schema values ≡ values
key_plain schema values h g = ap (map folded) (key_stored schema.columns schema.key values h) ∙ all_folded values g

pub stores_as_given : StoresAsGiven
stores_as_given = record { row = row_plain; key = key_plain }
