-- The parts of a script.
use Rattle.std.specs.Prelude.{◌≡◌, ℕ, ◌+◌, ◌≤◌, ◌==◌, Bool, true, false, ◌||◌, List, [], ◌∷◌, ◌++◌, length, take, drop, codes, Option, Some, None, IfSome, if◌then◌else◌}
use Rattle.std.specs.Option.{option_map}
use Rattle.std.specs.Io.KnownBytes.{Consumes}
use Rattle.std.specs.Str.{bytes_eq}
use Rattle.std.specs.Io.BufRead.{ends_with_byte, strip_last}
use Rattle.gq_row.specs.declared.limits.Bounds.{Bounds}
use Rattle.gq_token.specs.Texts.{Bytes}
use Rattle.gq_token.specs.Lexing.{skip_blanks, first_word, lower}

-- the length of a byte-order mark at the start
abbrev pub mark_length : Bytes → ℕ
mark_length bs = if bytes_eq (take 3 bs) (239 ∷ 187 ∷ 191 ∷ []) then 3 else 0

-- the bytes without a byte-order mark at the start, which belongs to no line
abbrev pub without_mark : Bytes → Bytes
without_mark bs = if bytes_eq (take 3 bs) (239 ∷ 187 ∷ 191 ∷ []) then drop 3 bs else bs

-- the lines of bytes, each with its end; a last line without one counts if it isn't empty
abbrev pub raw_lines : Bytes → List Bytes
raw_lines [] = []
raw_lines (b ∷ bs) = if b == 10 then (b ∷ []) ∷ raw_lines bs else elim (raw_lines bs) [ [] ↦ (b ∷ []) ∷ [] | l ∷ ls ↦ (b ∷ l) ∷ ls ]

-- a line without its end: LF, or CR LF
abbrev pub content : Bytes → Bytes
content raw = if ends_with_byte 10 raw then strip_last 13 (strip_last 10 raw) else raw

-- whether a line gives no item: it has only spaces and tabs, or begins with two dashes after these
abbrev pub is_skipped : Bytes → Bool
is_skipped line = let bs = skip_blanks line in (length bs == 0) || bytes_eq (take 2 bs) (codes "--")

-- whether a line ends a payload
abbrev pub is_end_mark : Bytes → Bool
is_end_mark line = bytes_eq line (codes "\\.")

-- a payload up to the line that ends it, and the lines after that; `None` if it is open
abbrev pub payload_of : List Bytes → Option (Bytes × List Bytes)
payload_of [] = None
payload_of (l ∷ ls) = if is_end_mark (content l) then Some ([], ls) else elim (payload_of ls) [ None ↦ None | Some x ↦ Some (l ++ x.0, x.1) ]

-- an item of a script: a command line, and a load's payload, which is `None` if it is open
pub data Entry : Type 0 where
  Plain : (line : Bytes) → Entry
  Loading : (line : Bytes) (payload : Option Bytes) → Entry

abbrev pub line_of : Entry → Bytes
line_of (Plain line) = line
line_of (Loading line payload) = line

-- whether the following lines are this line's payload: its first word, among the bytes within the limit, is `load` in any case
abbrev pub takes_payload : Bounds → Bytes → Bool
takes_payload b line = bytes_eq (lower (first_word (take b.line line))) (codes "load")

-- the first entry of lines, and the lines that follow it, if there is one; `loads` says which lines have a payload
abbrev pub first_entry_by : (Bytes → Bool) → List Bytes → Option (Entry × List Bytes)
first_entry_by loads [] = None
first_entry_by loads (l ∷ ls) =
    let line = content l in
    if is_skipped line then first_entry_by loads ls
    else (if loads line then elim (payload_of ls) [ None ↦ Some (Loading line None, []) | Some x ↦ Some (Loading line (Some x.0), x.1) ]
    else Some (Plain line, ls))

abbrev pub first_entry : Bounds → List Bytes → Option (Entry × List Bytes)
first_entry b ls = first_entry_by (takes_payload b) ls

-- the entries of lines: outside a payload, or after a line whose payload has these bytes so far
unfoldable pub entries_by : (Bytes → Bool) → Option (Bytes × Bytes) → List Bytes → List Entry
entries_by loads None [] = []
entries_by loads (Some begun) [] = Loading begun.0 None ∷ []
entries_by loads None (l ∷ ls) =
    let line = content l in
    if is_skipped line then entries_by loads None ls
    else (if loads line then entries_by loads (Some (line, [])) ls
    else Plain line ∷ entries_by loads None ls)
entries_by loads (Some begun) (l ∷ ls) =
    if is_end_mark (content l) then Loading begun.0 (Some begun.1) ∷ entries_by loads None ls
    else entries_by loads (Some (begun.0, begun.1 ++ l)) ls

-- the items of the remaining bytes of a script, once a byte-order mark is skipped
abbrev pub items_left : Bounds → Bytes → List Entry
items_left b bytes = entries_by (takes_payload b) None (raw_lines bytes)

-- the items of a script, in order
abbrev pub items : Bounds → Bytes → List Entry
items b script = items_left b (without_mark script)

-- the remaining bytes of a script: those read ahead and then the reader's, or all of the reader's without a mark
abbrev pub waiting : Bool → Bytes → Option Bytes → Option Bytes
waiting true read remaining = option_map (λ xs. read ++ xs) remaining
waiting false read remaining = option_map without_mark remaining

-- how many bytes were given, including a mark even before it is read
abbrev pub given_with_mark : Bool → ℕ → Option Bytes → ℕ
given_with_mark true given remaining = given
given_with_mark false given None = given
given_with_mark false given (Some bytes) = given + mark_length bytes

-- how many bytes are skipped at the start: those of the mark, and none once it is skipped
abbrev pub IsMarkOf : Bool → ℕ → Option Bytes → Type 0
IsMarkOf true passed remaining = passed ≡ 0
IsMarkOf false passed None = passed ≤ 3
IsMarkOf false passed (Some bytes) = passed ≡ mark_length bytes

-- a source of bytes: those that remain without a mark, how many it gave including the mark, how many lines it took, and those that it read ahead
pub record Stream : Type 0 where
  pub left : Option Bytes
  pub given : ℕ
  pub lines : ℕ
  pub ahead : Bytes

-- the source gave these bytes
pub record Takes (old new : Stream) (bytes : Bytes) : Type 0 where
  pub bytes_are : Consumes old.left new.left bytes
  pub counted : IfSome old.left (λ _. new.given ≡ old.given + length bytes)

-- the source after `n` more lines were counted
abbrev pub with_lines : Stream → ℕ → Stream
with_lines s n = record s { lines = s.lines + n }

-- the bytes that the source gave no longer remain
abbrev pub Counts : Stream → Stream → Type 0
Counts old new = IfSome old.left (λ xs. IfSome new.left (λ ys. new.given + length ys ≡ old.given + length xs))

-- the entries of lines are the first entry, as `first_entry_by` gives it, and then those of the lines after it, whichever lines have a payload
abbrev pub InOrder : Type 0
InOrder = (loads : Bytes → Bool) (ls : List Bytes) → elim (first_entry_by loads ls) [ None ↦ entries_by loads None ls ≡ [] | Some x ↦ entries_by loads None ls ≡ x.0 ∷ entries_by loads None x.1 ]
