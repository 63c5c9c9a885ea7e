-- What a step over one line does.
use Rattle.std.specs.Prelude.{◌≡◌, ℕ, List, ◌∷◌, [], Option, Some, IfSome, if◌then◌else◌}
use Rattle.gq_row.specs.declared.limits.Bounds.{Bounds}
use Rattle.gq_token.specs.Texts.{Bytes}
use Rattle.gq_script.specs.Script.{Entry, Plain, Stream, line_of, raw_lines, takes_payload}
use Rattle.gq_check.specs.declared.fault.Fault.{Fault}
use Rattle.gq_check.specs.declared.checker.Step.{Step}
use Rattle.gq_check.specs.declared.checker.Step.TheVariants as step
use Rattle.gq_check.specs.Findings.{IsFaultOf}
use Rattle.gq_script.specs.Numbering.{Numbered, numbered_by, numbered_left}
use Rattle.gq_check.specs.Reports.{Between, Place, Reports}

-- the items from this line on, given the bytes of the lines after it
abbrev pub items_from : Bounds → ℕ → Bytes → Bytes → List Numbered
items_from b number line bytes =
    if takes_payload b line then numbered_by (takes_payload b) number (Some (record { number = number; line = line; payload = [] })) (raw_lines bytes)
    else (record { number = number; entry = Plain line }) ∷ numbered_left b number bytes

-- the item of a line was taken with its payload: it has this fault, and the remaining bytes follow `m` lines
pub record IsTaken (b : Bounds) (number : ℕ) (line bytes : Bytes) (f : Option Fault) (m : ℕ) (rest : Bytes) : Type 0 where
  pub entry : Entry
  pub line_is : line_of entry ≡ line
  pub items : items_from b number line bytes ≡ (record { number = number; entry = entry }) ∷ numbered_left b m rest
  pub fault : IsFaultOf b entry f

abbrev pub TookItem : Bounds → ℕ → Bytes → Stream → Stream → Option Fault → ℕ → Type 0
TookItem b number line old new f m = IfSome old.left (λ bytes. (rest : Bytes) × (new.left ≡ Some rest) × IsTaken b number line bytes f m rest)

-- the outcome of a step: a report, nothing to report, or the end
abbrev pub Stepped : Bounds → Place → Place → Step → Type 0
Stepped b old new step.End = IfSome old.left (λ bytes. Reports b (numbered_left b old.lines bytes) [])
Stepped b old new step.Clean = Between b old new []
Stepped b old new (step.Found r) = Between b old new (r ∷ [])
