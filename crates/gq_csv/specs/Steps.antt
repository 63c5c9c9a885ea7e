-- The steps of the state machine, as those of the `csv` crate's.
use Rattle.std.specs.Prelude.{◌≡◌, ℕ, Bool}
use Rattle.csv.specs.Machine.{step as machine_step, ends_at_end}
use Rattle.csv.specs.Reading.{default_config}
use Rattle.csv.specs.declared.parser.State.{State as MachineState}
use Rattle.csv.specs.declared.parser.State.TheVariants as st
use Rattle.csv.specs.declared.parser.Action.TheVariants as act
use Rattle.gq_csv.specs.declared.state.State.{State}
use Rattle.gq_csv.specs.declared.state.State.TheVariants as state
use Rattle.gq_csv.specs.declared.state.Step.{Step}
use Rattle.gq_csv.specs.declared.state.Step.TheVariants as step

-- a state as the state of the `csv` crate's machine
abbrev pub machine_state : State → MachineState
machine_state state.StartRecord = st.StartRecord
machine_state state.StartField = st.StartField
machine_state state.InField = st.InField
machine_state state.InQuoted = st.InQuoted
machine_state state.AfterQuote = st.AfterQuote

-- a state in which a plain byte is copied, and changes nothing else
abbrev pub IsInside : State → Type 0
IsInside state.StartRecord = ⊥
IsInside state.StartField = ⊥
IsInside state.InField = Unit {0}
IsInside state.InQuoted = Unit {0}
IsInside state.AfterQuote = ⊥

-- a step is that of the `csv` crate's machine; one that copies its byte ends within a field
abbrev pub IsStep : State → ℕ → Step → Type 0
IsStep s b (step.Skip t) = machine_step default_config (machine_state s) b ≡ (machine_state t, act.Skip)
IsStep s b (step.Copy t) = (machine_step default_config (machine_state s) b ≡ (machine_state t, act.Copy)) × IsInside t
IsStep s b step.EndField = machine_step default_config (machine_state s) b ≡ (st.StartField, act.EndField)
IsStep s b step.EndRecord = (machine_step default_config (machine_state s) b).1 ≡ act.EndRecord

-- whether the end of the text ends a record
abbrev pub ends_record : State → Bool
ends_record s = ends_at_end (machine_state s)
