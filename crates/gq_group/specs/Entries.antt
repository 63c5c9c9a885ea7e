-- Groups: each key with the running aggregates of its rows.
use Rattle.std.specs.Prelude.{◌≡◌, ◌++◌, ℕ, Bool, IsTrue, List, map, if◌then◌else◌, Option, Some, None}
use Rattle.std.specs.FinMap.{get, from_entries}
use Rattle.std.specs.List.{AllByRecursion, list_any}
use Rattle.sw_table.specs.Entries.{Entries}
use Rattle.gq_row.specs.declared.value.Value.{Value}
use Rattle.gq_row.specs.Classes.{class_of}
use Rattle.gq_row.specs.Order.{same_key}
use Rattle.gq_row.specs.Tables.{of_key}
use Rattle.gq_agg.specs.declared.kind.AggKind.{AggKind}
use Rattle.gq_agg.specs.Running.{Running, tally}
use Rattle.gq_group.specs.Groups.{Spec, Group, keys_of, column_of, group_of, answered}
use Rattle.gq_group.specs.KeptAggs.{kept_spec}

-- a key and its running aggregates
abbrev pub Pair : Type 0
Pair = List Value × List Running

-- a list of keys and what each has, as a finite map by the classes of the keys
abbrev pub listed : {V : Type 0} → List (List Value × V) → Entries (List Value) V
listed {V} xs = from_entries (map (λ (p : List Value × V). (class_of p.0, p)) xs)

-- the running aggregates of some rows
abbrev pub tallies : List (AggKind × ℕ) → List (List Value) → List Running
tallies aggs rows = map (λ a. tally a.0 (column_of a.1 rows)) aggs

-- a key with the running aggregates of the rows that have it, if it is a key of the rows
abbrev pub group_at : Spec → List (List Value) → List Value → Option Pair
group_at spec rows key = if list_any (same_key key) (keys_of spec.by rows) then Some (key, tallies spec.aggs (of_key spec.by rows key)) else None

-- the list has the groups of the rows, and nothing else
abbrev pub Grouped : Spec → List (List Value) → List Pair → Type 0
Grouped spec rows m = (key : List Value) → get (listed m) (class_of key) ≡ group_at spec rows key

-- each entry has the running aggregates of the rows of its key
abbrev pub AreTallied : Spec → List (List Value) → List Pair → Type 0
AreTallied spec rows pairs = AllByRecursion (λ (p : Pair). p.1 ≡ tallies spec.aggs (of_key spec.by rows p.0)) pairs

-- Some entries are left, and the groups of the others went to a sink.
pub record Sent (spec : Spec) (honest : Bool) (before now : List Group → Type 0) (all left : List Pair) : Type 0 where
  pub gone : List Pair
  pub out : List Group
  pub whole : all ≡ gone ++ left
  pub finished : (rows : List (List Value)) → AreTallied (kept_spec spec) rows gone → map (group_of spec rows) (map (λ (p : Pair). p.0) gone) ≡ map answered out
  pub told : IsTrue honest → (groups : List Group) → before groups → now (groups ++ out)
