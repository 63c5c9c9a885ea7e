-- The items of a script, each with the number of its line.
use Rattle.std.specs.Prelude.{◌≡◌, ℕ, suc, ◌+◌, Bool, List, [], ◌∷◌, ◌++◌, length, map, Option, Some, None, IfSome, if◌then◌else◌}
use Rattle.std.specs.List.{All}
use Rattle.gq_row.specs.declared.limits.Bounds.{Bounds}
use Rattle.gq_token.specs.Texts.{Bytes}
use Rattle.gq_script.specs.Script.{Entry, Plain, Loading, Stream, first_entry, raw_lines, content, is_skipped, is_end_mark, line_of, takes_payload, without_mark, items}

-- an item and the number of its line; the first line is 1
pub record Numbered : Type 0 where
  pub number : ℕ
  pub entry : Entry

-- the items without their numbers
abbrev pub entries_of : List Numbered → List Entry
entries_of xs = map (λ (x : Numbered). x.entry) xs

-- a load whose payload is being read: the number of its line, its line, and its payload so far
pub record Begun : Type 0 where
  pub number : ℕ
  pub line : Bytes
  pub payload : Bytes

-- the items of lines after `n` others, each with its line's number: outside a payload, or within that of a load
unfoldable pub numbered_by : (Bytes → Bool) → ℕ → Option Begun → List Bytes → List Numbered
numbered_by loads n None [] = []
numbered_by loads n (Some begun) [] = (record { number = begun.number; entry = Loading begun.line None }) ∷ []
numbered_by loads n None (l ∷ ls) =
    let line = content l in
    if is_skipped line then numbered_by loads (suc n) None ls
    else (if loads line then numbered_by loads (suc n) (Some (record { number = suc n; line = line; payload = [] })) ls
    else (record { number = suc n; entry = Plain line }) ∷ numbered_by loads (suc n) None ls)
numbered_by loads n (Some begun) (l ∷ ls) =
    if is_end_mark (content l) then (record { number = begun.number; entry = Loading begun.line (Some begun.payload) }) ∷ numbered_by loads (suc n) None ls
    else numbered_by loads (suc n) (Some (record begun { payload = begun.payload ++ l })) ls

-- the items of the remaining bytes of a script after `n` lines, once a byte-order mark is skipped
abbrev pub numbered_left : Bounds → ℕ → Bytes → List Numbered
numbered_left b n bytes = numbered_by (takes_payload b) n None (raw_lines bytes)

-- the items of a script, in order
abbrev pub numbered : Bounds → Bytes → List Numbered
numbered b script = numbered_left b 0 (without_mark script)

-- the source skipped only blank lines and comments, and counted them
abbrev pub Passed : Bounds → Stream → Stream → Type 0
Passed b old new = IfSome old.left (λ xs. (ys : Bytes) × (new.left ≡ Some ys) × (first_entry b (raw_lines xs) ≡ first_entry b (raw_lines ys)) × (new.given + length ys ≡ old.given + length xs) × (numbered_left b old.lines xs ≡ numbered_left b new.lines ys))

-- the item's line is among these lines, at the position that its number says
pub record IsLineAt (lines : List Bytes) (x : Numbered) : Type 0 where
  pub front : List Bytes
  pub raw : Bytes
  pub rest : List Bytes
  pub lines_are : lines ≡ front ++ raw ∷ rest
  pub number : x.number ≡ suc (length front)
  pub line : line_of x.entry ≡ content raw

-- without their numbers, the numbered items are the items of the script; each has the number of its line
pub record NumbersTell : Type 0 where
  pub items : (b : Bounds) (script : Bytes) → entries_of (numbered b script) ≡ items b script
  pub lines : (b : Bounds) (script : Bytes) → All (IsLineAt (raw_lines (without_mark script))) (numbered b script)
