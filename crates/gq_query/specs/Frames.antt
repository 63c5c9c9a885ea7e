-- Codes of words in frames, and sort prefixes that are made of them.
use Rattle.std.specs.Prelude.{◌≡◌, Bool, true, false, not, ◌&&◌, ◌||◌, if◌then◌else◌, ℕ, suc, ◌+◌, ◌-◌, ◌*◌, ◌/◌, ◌%◌, ◌^◌, ◌<◌, nat_eq, nat_lt, List, [], ◌∷◌, min}
use Rattle.gq_row.specs.declared.value.Value.{Value}
use Rattle.gq_row.specs.Rows.{cell}
use Rattle.gq_query.specs.declared.sort_prefix.SortPrefix.{SortPrefix}
use Rattle.gq_query.specs.declared.group_list.GroupSpan.{GroupSpan}
use Rattle.gq_query.specs.declared.frames.Frame.{Frame}
use Rattle.gq_query.specs.declared.frames.Frames.{Frames}
use Rattle.gq_query.specs.declared.frames.Code.{Code}
use Rattle.gq_query.specs.GroupSpans.{key_at}
use Rattle.gq_query.specs.SortPrefixes.{IsWord, Place, is_whole, without_bytes}

-- the last code of a frame
abbrev pub last_of : Frame → ℕ
last_of frame = frame.codes - 1

-- the distance of two words that have codes of their own
abbrev pub step_of : Frame → ℕ
step_of frame = 2 ^ (frame.shift % 64)

-- how many steps a word is above the lowest one
abbrev pub steps_to : Frame → ℕ → ℕ
steps_to frame word = (word - frame.low) / step_of frame

-- the code of a word: 0 below the frame, the last one above it, and else one more than its steps
abbrev pub code_of : Frame → ℕ → ℕ
code_of frame word = if nat_lt word frame.low then 0 else min (suc (steps_to frame word)) (last_of frame)

-- no other word has the code of this one
abbrev pub has_own_code : Frame → ℕ → Bool
has_own_code frame word = not (nat_lt word frame.low) && (nat_lt (suc (steps_to frame word)) (last_of frame) && nat_eq (steps_to frame word * step_of frame) (word - frame.low))

-- what follows a word counts: no other word has its code, and if the next frame is of the next cell, it says all of its value
abbrev pub goes_on : Frame → ℕ → Bool
goes_on frame word = has_own_code frame word && (not frame.ends || is_whole word)

-- a digit of a key: the code of a word if the words before it are known, and else the last code
abbrev pub IsDigit : Frame → List Value → Bool → Code → Type 0
IsDigit frame key true digit = (word : ℕ) × IsWord (without_bytes frame.skip (cell key frame.cell)) word × (digit.code ≡ code_of frame word) × (digit.exact ≡ goes_on frame word)
IsDigit frame key false digit = (digit.code ≡ last_of frame) × (digit.exact ≡ false)

-- a digit more; numbers from 2^64 on become 2^64 - 1
abbrev pub with_digit : Frame → Code → Code → Code
with_digit frame sum digit = record { code = min (min (sum.code * frame.codes) (2 ^ 64 - 1) + digit.code) (2 ^ 64 - 1); exact = digit.exact }

-- no digit yet
abbrev pub none_before : Bool → Code
none_before known = record { code = 0; exact = known }

-- a number with the digits of a key in frames after those of another number
abbrev pub IsNumber : List Frame → List Value → Code → Code → Type 0
IsNumber [] key sum number = number ≡ sum
IsNumber (frame ∷ frames) key sum number = (digit : Code) × IsDigit frame key sum.exact digit × IsNumber frames key (with_digit frame sum digit) number

-- where the word after that of a frame begins
abbrev pub next_place : Frame → Place
next_place frame = if frame.ends then (suc frame.cell, 0) else (frame.cell, frame.skip + 6)

-- frames are of the words from a place on to another, each within the first `width` cells
abbrev pub Follow : ℕ → List Frame → Place → Place → Type 0
Follow width [] start end = end ≡ start
Follow width (frame ∷ frames) start end = ((frame.cell, frame.skip) ≡ start) × (frame.cell < width) × Follow width frames (next_place frame) end

-- how many numbers there are of the codes of frames
abbrev pub product : List Frame → ℕ
product [] = 1
product (frame ∷ frames) = frame.codes * product frames

-- a word has room for all numbers
abbrev pub Fit : List Frame → Type 0
Fit frames = (0 < product frames) × (product frames < 2 ^ 64)

-- the frames of the high word are of the first words of a key, and those of the low word are of the words after them
pub record AreFrames (width : ℕ) (frames : Frames) : Type 0 where
  pub middle : Place
  pub end : Place
  pub high : Follow width frames.high.items (0, 0) middle
  pub low : Follow width frames.low.items middle end
  pub high_fit : Fit frames.high.items
  pub low_fit : Fit frames.low.items

-- the prefix of a key: the numbers of its digits
pub record IsFramePrefix (frames : Frames) (key : List Value) (prefix : SortPrefix) : Type 0 where
  pub high : Code
  pub low : Code
  pub high_is : IsNumber frames.high.items key (none_before true) high
  pub low_is : IsNumber frames.low.items key (none_before high.exact) low
  pub prefix_is : prefix ≡ record { high = high.code; low = low.code }

-- a group has the prefix of its key
abbrev pub HasFramePrefix : List Value → Frames → GroupSpan → Type 0
HasFramePrefix cells frames group = IsFramePrefix frames (key_at cells group) group.prefix
