-- What a clause reads of an engine; of its run store by what is known of stores of its type.
use Rattle.std.specs.Prelude.{ℕ}
use Rattle.gq_group.specs.declared.grouping.Spent.{Spent}
use Rattle.gq_spill.specs.Runs.{Runs}
use Rattle.gq_engine.specs.declared.engine.Engine.{Engine}
use Rattle.gq_engine.specs.Databases.{Database}
use Rattle.gq_engine.specs.Headline.{State}
use Rattle.gq_engine.specs.Runs.{Setting}

abbrev pub database : {H S : Type 0} → Engine H S → Database
database engine = engine.catalog

-- its limits, and whether its store reads back what was written
abbrev pub setting_of : {H S : Type 0} → (S → Runs) → Engine H S → Setting
setting_of runs engine = record { limits = engine.limits.bounds; honest = (runs engine.store).honest }

-- how often its store failed
abbrev pub failures_of : {H S : Type 0} → (S → Runs) → Engine H S → ℕ
failures_of runs engine = (runs engine.store).failures

abbrev pub state_of : {H S : Type 0} → (S → Runs) → Engine H S → State
state_of runs engine = record { database = database engine; failures = failures_of runs engine }

-- how many groups one of its groupings keeps in memory at once
abbrev pub budget_of : {H S : Type 0} → Engine H S → ℕ
budget_of engine = engine.budget.entries

-- what its groupings took together
abbrev pub spent_of : {H S : Type 0} → Engine H S → Spent
spent_of engine = engine.spent

abbrev pub NOTHING_SPENT : Spent
NOTHING_SPENT = record { rows_read = 0; rows_written = 0; groups = 0; runs = 0 }
