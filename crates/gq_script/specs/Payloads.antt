-- Payloads, read piece by piece.
use Rattle.std.specs.Prelude.{◌≡◌, ℕ, ◌+◌, ◌≤◌, ◌<◌, ◌==◌, Bool, true, false, not, List, [], ◌∷◌, ◌++◌, length, Option, Some, None, IfSome, if◌then◌else◌}
use Rattle.std.specs.List.{list_all}
use Rattle.gq_script.specs.declared.payload.EndMark.{EndMark}
use Rattle.gq_script.specs.declared.payload.EndMark.TheVariants as mark
use Rattle.gq_script.specs.declared.payload.Kept.{Kept}
use Rattle.gq_script.specs.declared.payload.Kept.TheVariants as kept
use Rattle.gq_token.specs.Texts.{Bytes}
use Rattle.gq_script.specs.Script.{Counts, Stream, Takes, raw_lines, content, is_end_mark, payload_of}

-- how much of a line that may end a payload is matched after another byte
abbrev pub mark_after : EndMark → ℕ → EndMark
mark_after mark.Start b = if b == 92 then mark.Backslash else mark.Other
mark_after mark.Backslash b = if b == 46 then mark.Dot else mark.Other
mark_after mark.Dot b = if b == 13 then mark.Return else (if b == 10 then mark.Ended else mark.Other)
mark_after mark.Return b = if b == 10 then mark.Ended else mark.Other
mark_after mark.Ended b = mark.Other
mark_after mark.Other b = mark.Other

abbrev pub mark_of : EndMark → Bytes → EndMark
mark_of m [] = m
mark_of m (b ∷ bs) = mark_of (mark_after m b) bs

abbrev pub is_other : EndMark → Bool
is_other mark.Start = false
is_other mark.Backslash = false
is_other mark.Dot = false
is_other mark.Return = false
is_other mark.Ended = false
is_other mark.Other = true

-- whether the line ends a payload
abbrev pub is_closing : EndMark → Bool
is_closing mark.Start = false
is_closing mark.Backslash = false
is_closing mark.Dot = true
is_closing mark.Return = false
is_closing mark.Ended = true
is_closing mark.Other = false

-- the bytes matched so far, of a line that isn't ended
abbrev pub held : EndMark → Bytes
held mark.Start = []
held mark.Backslash = 92 ∷ []
held mark.Dot = 92 ∷ 46 ∷ []
held mark.Return = 92 ∷ 46 ∷ 13 ∷ []
held mark.Ended = []
held mark.Other = []

-- what is kept after these bytes of a payload: the bytes within the limit, `TooLong` past it, or `Nothing` in any case
abbrev pub Holds : ℕ → Kept → Bytes → Type 0
Holds most (kept.Bytes v) bytes = (v.items ≡ bytes) × (length bytes ≤ most)
Holds most kept.TooLong bytes = most < length bytes
Holds most kept.Nothing bytes = Unit {0}

-- what was kept of a payload of these bytes
abbrev pub KeptOf : ℕ → Bytes → Option Kept → Type 0
KeptOf most bytes None = ⊥
KeptOf most bytes (Some kept) = Holds most kept bytes

-- what was kept of a payload, or `None` if it is open
abbrev pub KeptTold : ℕ → Option Bytes → Option Kept → Type 0
KeptTold most None k = k ≡ None
KeptTold most (Some bytes) k = KeptOf most bytes k

abbrev pub is_plain : ℕ → Bool
is_plain b = not (b == 10)

-- a piece of a line: with the LF at its end, or without it
abbrev pub IsPiece : Bool → Bytes → Type 0
IsPiece true piece = (plain : Bytes) × (piece ≡ plain ++ 10 ∷ []) × (list_all is_plain plain ≡ true)
IsPiece false piece = list_all is_plain piece ≡ true

-- the first line was taken and counted, and was kept unless it ends the payload
pub record TookPayloadLine (most : ℕ) (old new : Stream) (before after : Kept) (ends : Bool) : Type 0 where
  pub raw : Bytes
  pub taken : Takes old new raw
  pub first : IfSome old.left (λ xs. IfSome new.left (λ ys. raw_lines xs ≡ raw ∷ raw_lines ys))
  pub counted : new.lines ≡ old.lines + 1
  pub told : ends ≡ is_end_mark (content raw)
  pub mark : ends ≡ true → after ≡ before
  pub line : ends ≡ false → (front : Bytes) → Holds most before front → Holds most after (front ++ raw)

-- a payload with these bytes put before it
abbrev pub prefixed : Bytes → Option (Bytes × List Bytes) → Option (Bytes × List Bytes)
prefixed front None = None
prefixed front (Some x) = Some (front ++ x.0, x.1)

-- whole lines of which none ends a payload, so that it continues after them
abbrev pub GoesOn : Bytes → Type 0
GoesOn front = (ys : Bytes) → payload_of (raw_lines (front ++ ys)) ≡ prefixed front (payload_of (raw_lines ys))

-- the bytes are `n` whole lines, whatever follows them
abbrev pub HasLines : ℕ → Bytes → Type 0
HasLines n front = (ys : Bytes) → length (raw_lines (front ++ ys)) ≡ n + length (raw_lines ys)

-- such lines were taken, counted and kept
pub record TookLines (most : ℕ) (old new : Stream) (before after : Kept) : Type 0 where
  pub raw : Bytes
  pub taken : Takes old new raw
  pub on : GoesOn raw
  pub count : ℕ
  pub has : HasLines count raw
  pub counted : new.lines ≡ old.lines + count
  pub lines : (front : Bytes) → Holds most before front → Holds most after (front ++ raw)

-- all bytes were taken, and no line of them ends a payload
pub record Unclosed (old new : Stream) : Type 0 where
  pub open_is : IfSome old.left (λ xs. (payload_of (raw_lines xs) ≡ None) × (new.left ≡ Some []))
  pub counted : Counts old new

-- what was kept of a payload, and which bytes remain after it: none after an open one
abbrev pub IsPayloadOf : ℕ → Option (Bytes × List Bytes) → Option Bytes → Option Kept → Type 0
IsPayloadOf most None left k = (k ≡ None) × (left ≡ Some [])
IsPayloadOf most (Some told) left k = (rest : Bytes) × (left ≡ Some rest) × (told.1 ≡ raw_lines rest) × KeptOf most told.0 k

-- a payload was taken, with the line that ends it, and its lines were counted
pub record TookPayload (most : ℕ) (old new : Stream) (k : Option Kept) : Type 0 where
  pub is : IfSome old.left (λ xs. IsPayloadOf most (payload_of (raw_lines xs)) new.left k)
  pub counted : Counts old new
  pub lines : IfSome k (λ _. IfSome old.left (λ xs. IfSome new.left (λ ys. new.lines + length (raw_lines ys) ≡ old.lines + length (raw_lines xs))))
