-- Lines, gathered byte by byte.
use Rattle.std.specs.Prelude.{◌≡◌, ℕ, ◌+◌, ◌-◌, nat_lt, ◌==◌, Bool, true, false, [], ◌∷◌, ◌++◌, length, take, IfSome, if◌then◌else◌}
use Rattle.std.specs.Io.BufRead.{ends_with_byte, strip_last}
use Rattle.gq_row.specs.declared.limits.Bounds.{Bounds}
use Rattle.gq_script.specs.declared.gather.Opening.{Opening}
use Rattle.gq_script.specs.declared.gather.Opening.TheVariants as opening
use Rattle.gq_script.specs.declared.gather.OpenLine.{OpenLine}
use Rattle.gq_script.specs.declared.first_word.FirstWord.TheVariants as first
use Rattle.gq_token.specs.Texts.{Bytes}
use Rattle.gq_script.specs.FirstWords.{word_of}
use Rattle.gq_token.specs.Lexing.{is_blank}
use Rattle.gq_script.specs.Script.{Stream, Takes, raw_lines, content}

-- how a line begins, after another byte
abbrev pub opening_after : Opening → ℕ → Opening
opening_after opening.Blank b = if is_blank b then opening.Blank else (if b == 45 then opening.Dash else opening.Word)
opening_after opening.Dash b = if b == 45 then opening.Comment else opening.Word
opening_after opening.Comment b = opening.Comment
opening_after opening.Word b = opening.Word

abbrev pub opening_of : Opening → Bytes → Opening
opening_of o [] = o
opening_of o (b ∷ bs) = opening_of (opening_after o b) bs

abbrev pub is_skippable : Opening → Bool
is_skippable opening.Blank = true
is_skippable opening.Dash = false
is_skippable opening.Comment = true
is_skippable opening.Word = false

-- what is kept at a byte, given how the line began before and after it
abbrev pub kept_at : Opening → Opening → ℕ → Bytes
kept_at opening.Dash opening.Word byte = 45 ∷ byte ∷ []
kept_at _ opening.Word byte = byte ∷ []
kept_at _ _ byte = []

-- what is kept of bytes after such a beginning: none until the line is known to be neither blank nor a comment, and no leading blanks
abbrev pub kept_from : Opening → Bytes → Bytes
kept_from o [] = []
kept_from o (b ∷ bs) = kept_at o (opening_after o b) b ++ kept_from (opening_after o b) bs

-- the line has gathered these bytes
pub record Gathers (most : ℕ) (line : OpenLine) (front : Bytes) : Type 0 where
  pub room : line.room ≡ most - length front
  pub too_long : line.too_long ≡ nat_lt most (length front)
  pub kept : line.lost ≡ false → line.too_long ≡ false → line.kept.items ≡ kept_from opening.Blank front
  pub opening : line.opening ≡ opening_of opening.Blank front
  pub word : line.first_word ≡ word_of first.Blank (take most front)

-- the line has gathered these bytes, but for a CR at their end, which is held back
pub record GathersRaw (most : ℕ) (line : OpenLine) (after_cr : Bool) (raw : Bytes) : Type 0 where
  pub front : Gathers most line (strip_last 13 raw)
  pub cr : after_cr ≡ ends_with_byte 13 raw

-- the first line was taken, and counted
pub record TookLine (b : Bounds) (old new : Stream) (line : OpenLine) : Type 0 where
  pub raw : Bytes
  pub taken : Takes old new raw
  pub first : IfSome old.left (λ xs. IfSome new.left (λ ys. raw_lines xs ≡ raw ∷ raw_lines ys))
  pub lines : new.lines ≡ old.lines + 1
  pub gathers : Gathers b.line line (content raw)

-- the byte was kept, unless an allocation failed
pub record Keeps (old new : OpenLine) (byte : ℕ) : Type 0 where
  pub kept : new.lost ≡ false → (old.lost ≡ false) × (new.kept.items ≡ old.kept.items ++ byte ∷ [])
  pub room : new.room ≡ old.room
  pub too_long : new.too_long ≡ old.too_long
  pub opening : new.opening ≡ old.opening
  pub word : new.first_word ≡ old.first_word

-- these bytes were kept, unless an allocation failed
pub record KeepsBehind (before : Opening) (old new : OpenLine) (byte : ℕ) : Type 0 where
  pub kept : new.lost ≡ false → (old.lost ≡ false) × (new.kept.items ≡ old.kept.items ++ kept_at before old.opening byte)
  pub room : new.room ≡ old.room
  pub too_long : new.too_long ≡ old.too_long
  pub opening : new.opening ≡ old.opening
  pub word : new.first_word ≡ old.first_word
