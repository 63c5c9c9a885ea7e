-- Which aggregates are kept for each group while rows are read.
use Rattle.std.specs.Prelude.{◌≡◌, ◌==◌, ◌++◌, ℕ, Bool, true, false, not, List, [], length, filter, take, if◌then◌else◌, Some}
use Rattle.std.specs.List.{slice_get}
use Rattle.gq_row.specs.declared.value.Value.{Value}
use Rattle.gq_agg.specs.declared.kind.AggKind.{AggKind}
use Rattle.gq_agg.specs.Running.{Running, tally}
use Rattle.gq_group.specs.Groups.{Spec, counts_all}

-- all that is asked but count(*)
abbrev pub others : List (AggKind × ℕ) → List (AggKind × ℕ)
others asked = filter (λ a. not (counts_all a.0)) asked

-- one count(*) is kept if nothing else is asked
abbrev pub alone : List (AggKind × ℕ) → List (AggKind × ℕ)
alone asked = if length (others asked) == 0 then take 1 asked else []

-- no count(*) is kept with other aggregates, since each of these knows how many rows there were
abbrev pub kept_aggs : List (AggKind × ℕ) → List (AggKind × ℕ)
kept_aggs asked = others asked ++ alone asked

-- the same grouping, of the aggregates that are kept
abbrev pub kept_spec : Spec → Spec
kept_spec spec = record { by = spec.by; aggs = kept_aggs spec.aggs }

-- how many kept aggregates give an aggregate's value: one, or none for count(*)
abbrev pub kept_for : AggKind → ℕ
kept_for kind = if counts_all kind then 0 else 1

-- An aggregate of values is known: count(*) by how many rows there are, any other by the one that is kept at a place.
abbrev pub IsKnown : Bool → AggKind → List Value → ℕ → List Running → ℕ → Type 0
IsKnown true kind values rows aggs place = rows ≡ length values
IsKnown false kind values rows aggs place = slice_get aggs place ≡ Some (tally kind values)
