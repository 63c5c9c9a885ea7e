-- What skipping a payload does.
use Rattle.std.specs.Prelude.{◌≡◌, ℕ, ◌+◌, ◌<◌, length, [], ◌∷◌, Option, Some, None, IfSome}
use Rattle.gq_row.specs.declared.limits.Bounds.{Bounds}
use Rattle.gq_token.specs.Texts.{Bytes}
use Rattle.gq_script.specs.Script.{Stream, Loading, raw_lines, takes_payload}
use Rattle.gq_check.specs.declared.fault.Fault.{Fault}
use Rattle.gq_check.specs.Findings.{payload_fault}
use Rattle.gq_script.specs.Numbering.{Begun, numbered_by}

-- the payload may have `room` more bytes after these, or it exceeds the limit
abbrev pub HasRoom : ℕ → Option ℕ → Bytes → Type 0
HasRoom most (Some room) bytes = room + length bytes ≡ most
HasRoom most None bytes = most < length bytes

-- the load `begun` has a payload with this fault, and the following items are those of the remaining lines
pub record IsPassed (b : Bounds) (begun : Begun) (n : ℕ) (bytes : Bytes) (f : Option Fault) (m : ℕ) (rest : Bytes) : Type 0 where
  pub given : Option Bytes
  pub items : numbered_by (takes_payload b) n (Some begun) (raw_lines bytes) ≡ (record { number = begun.number; entry = Loading begun.line given }) ∷ numbered_by (takes_payload b) m None (raw_lines rest)
  pub fault : payload_fault b.payload given ≡ f

-- after `n` lines the payload of a load was skipped, whichever load it belongs to; it has this fault, and the remaining bytes follow `m` lines
abbrev pub PassedPayload : Bounds → ℕ → Stream → Stream → Option Fault → ℕ → Type 0
PassedPayload b n old new f m = IfSome old.left (λ bytes. (rest : Bytes) × (new.left ≡ Some rest) × ((number : ℕ) (line : Bytes) → IsPassed b (record { number = number; line = line; payload = [] }) n bytes f m rest))
