-- Counting distinct values in two phases.
use Rattle.std.specs.Prelude.{◌≡◌, ℕ, IsTrue, List, [], ◌∷◌, map, None}
use Rattle.std.proofs.Common.{◌∙◌, sym, subst}
use Rattle.std.specs.List.{range_with_len}
use Rattle.gq_row.specs.declared.value.Value.{Value}
use Rattle.gq_agg.specs.declared.kind.AggKind.TheVariants.{Count}
use Rattle.gq_spill.specs.Runs.{Runs}
use Rattle.gq_spill.specs.Writing.{Writing, Wrote}
use Rattle.gq_group.specs.Access.{KeepsOwn}
use Rattle.gq_group.specs.Distinct.{with_column}
use Rattle.gq_group.specs.Groups.{Spec, Group}
use Rattle.gq_group.specs.declared.refusal.Refusal.{Refusal}
use Rattle.gq_group.specs.declared.refusal.Refusal.TheVariants.{SumRange, Memory, StoreFault, Damaged}
use Rattle.gq_group.specs.RunSources.{only, same_number, equal_number, wrote_stays}

-- first rows are grouped by a key and a value, so that each key has each of its values once
abbrev pub pairs_of : List ℕ → ℕ → Spec
pairs_of by column = record { by = with_column by column; aggs = [] }

-- then those pairs by all of their columns but the last, which is counted
abbrev pub counts_of : ℕ → Spec
counts_of columns = record { by = range_with_len 0 columns; aggs = (Count, columns) ∷ [] }

-- no count is out of range, so a store whose runs give such a refusal did not read back what was written
abbrev pub as_damaged : Refusal → Refusal
as_damaged SumRange = Damaged
as_damaged Memory = Memory
as_damaged StoreFault = StoreFault
as_damaged Damaged = Damaged

-- ---- the run between the two

-- the keys of groups
abbrev pub keys_in : List Group → List (List Value)
keys_in out = map (λ g. g.0) out

-- the writer's run is live, and nothing was refused
pub record CanWrite (w : Writing) (runs : Runs) : Type 0 where
  pub live : IsTrue (runs.live w.mark.id.number)
  pub going : w.refused ≡ None

pub write_live : (w : Writing) (runs : Runs) → CanWrite w runs → (run : ℕ) → IsTrue (only w.mark.id.number run) → IsTrue (runs.live run)
write_live w runs ready run own = subst (λ (n : ℕ). IsTrue (runs.live n)) (sym (equal_number run w.mark.id.number own)) ready.live

pub write_stays : (w : Writing) (old new : Runs) → KeepsOwn (only w.mark.id.number) old new → CanWrite w old → CanWrite w new
write_stays w old new kept ready = record { live = (kept.own w.mark.id.number (same_number w.mark.id.number)).live ∙ ready.live; going = ready.going }

pub keys_stay : (w : Writing) (old new : Runs) → KeepsOwn (only w.mark.id.number) old new → CanWrite w old → IsTrue old.honest → (groups : List Group) → Wrote w old (keys_in groups) → Wrote w new (keys_in groups)
keys_stay w old new kept ready honest groups wrote = wrote_stays w old new kept ready.live honest (keys_in groups) wrote
