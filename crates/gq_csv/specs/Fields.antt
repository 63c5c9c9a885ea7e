-- The fields of a record, as parts of its bytes.
use Rattle.std.specs.Prelude.{ℕ, ◌-◌, ◌≤◌, List, map, take, drop, All}
use Rattle.gq_csv.specs.declared.span.FieldSpan.{FieldSpan}

-- the bytes of a span
abbrev pub cut : List ℕ → FieldSpan → List ℕ
cut bytes span = take (span.end - span.start) (drop span.start bytes)

-- the fields at these spans
abbrev pub fields_in : List ℕ → List FieldSpan → List (List ℕ)
fields_in bytes spans = map (cut bytes) spans

-- a span is within the first n bytes
abbrev pub IsWithin : ℕ → FieldSpan → Type 0
IsWithin n span = (span.start ≤ span.end) × (span.end ≤ n)

-- each span is
abbrev pub AreWithin : ℕ → List FieldSpan → Type 0
AreWithin n spans = All (IsWithin n) spans
