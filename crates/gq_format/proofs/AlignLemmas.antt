-- Lines of a box are as wide as one another.
use Rattle.std.proofs.Common.{◌≡◌, ◌+◌, ◌-◌, ◌≤◌, ℕ, zero, suc, max, Bool, true, false, cond, not, List, [], ◌∷◌, ◌++◌, ◌∙◌, refl, sym, ap, map, replicate, All, arith, append_assoc, zero-add, add-one}
use Rattle.std.specs.List.{AllByRecursion, enumerate_from, list_all}
use Rattle.std.proofs.lemmas.List.Folds.{list_all-append}
use Rattle.unicode_width.specs.Width.{Reading, is_emoji_variation_base, past_emoji, plain, read_before, step, str_width}
use Rattle.unicode_width.specs.declared.state.State.{State}
use Rattle.unicode_width.proofs.Computing.{unicode_width}
use Rattle.unicode_width.proofs.Rules.{is_simple, str_width-append_simple}
use Rattle.gq_row.specs.declared.value.Value.{Value}
use Rattle.gq_row.specs.Rows.{cell}
use Rattle.gq_format.specs.Boxes.{aligned, bars, box_lines, is_right, line, name_part, value_part}
use Rattle.gq_format.specs.Columns.{Column, cells_at, column_of, columns_of, widest}
use Rattle.gq_format.specs.Laws.{box_width}
use Rattle.gq_format.specs.Shown.{shown, shown_text, terminal_width}

-- a space joins nothing: the widths before it and after it add up

variation : is_emoji_variation_base 32 ≡ false
unfolding unicode_width
variation = refl

both_same : {A : Type 0} (b : Bool) (x : A) → cond (not b) x x ≡ x
both_same true x = refl
both_same false x = refl

step_space : (total : ℕ) (s : State) → step false 32 (total, s) ≡ (total + 1, plain)
unfolding step past_emoji
step_space total s = rw variation (both_same s.emoji (total + 1, plain))

read_append : (xs ys : List ℕ) (r : Reading) → read_before false (xs ++ ys) r ≡ read_before false xs (read_before false ys r)
read_append [] ys r = refl
read_append (x ∷ xs) ys r = ap (step false x) (read_append xs ys r)

spaces_read : (k : ℕ) → read_before false (replicate k 32) (0, plain) ≡ (k, plain)
spaces_read zero = refl
spaces_read (suc k) = ap (step false 32) (spaces_read k) ∙ step_space k plain ∙ ap (λ n. (n, plain)) (add-one k)

simple_space : is_simple 32 ≡ true
unfolding unicode_width
simple_space = refl

simple_bar : is_simple 0x2500 ≡ true
unfolding unicode_width
simple_bar = refl

simple_spaces : (k : ℕ) → list_all is_simple (replicate k 32) ≡ true
simple_spaces zero = refl
simple_spaces (suc k) = rw simple_space (simple_spaces k)

simple_bars : (k : ℕ) → list_all is_simple (replicate k 0x2500) ≡ true
simple_bars zero = refl
simple_bars (suc k) = rw simple_bar (simple_bars k)

no_width : terminal_width [] ≡ 0
unfolding str_width
no_width = refl

spaces_width : (k : ℕ) → terminal_width (replicate k 32) ≡ k
unfolding str_width
spaces_width k = ap (λ r. r.0) (spaces_read k)

spaces_behind : (text : List ℕ) (k : ℕ) → terminal_width (text ++ replicate k 32) ≡ terminal_width text + k
spaces_behind text k = str_width-append_simple false text (replicate k 32) (simple_spaces k) ∙ ap (λ n. terminal_width text + n) (spaces_width k)

-- the width of a text before what gave k columns and a plain state
shift : (text : List ℕ) (k : ℕ) → (read_before false text (k, plain)).0 ≡ terminal_width text + k
unfolding str_width
shift text k = ap (λ r. (read_before false text r).0) (sym (spaces_read k)) ∙ ap (λ r. r.0) (sym (read_append text (replicate k 32) (0, plain))) ∙ spaces_behind text k

parted : (front behind : List ℕ) → terminal_width (front ++ 32 ∷ behind) ≡ terminal_width front + (terminal_width behind + 1)
unfolding str_width
parted front behind =
    let r = read_before false behind (0, plain) in
    ap (λ r. r.0) (read_append front (32 ∷ behind) (0, plain)) ∙ ap (λ r. (read_before false front r).0) (step_space r.0 r.1) ∙ shift front (terminal_width behind + 1)

spaces_before : (k : ℕ) (text : List ℕ) → terminal_width (replicate k 32 ++ text) ≡ k + terminal_width text
spaces_before zero text = sym (zero-add (terminal_width text))
spaces_before (suc k) text =
    let more = spaces_before k text in
    let one = parted [] (replicate k 32 ++ text) in
    omega (arith, more, one, no_width)

-- a mark: it is as wide as a space, and joins nothing
record IsMark (m : ℕ) : Type 0 where
  simple : is_simple m ≡ true
  narrow : terminal_width (m ∷ []) ≡ 1

side : terminal_width (0x2502 ∷ []) ≡ 1
unfolding unicode_width
side = refl

around : (text rest : List ℕ) → terminal_width (0x2502 ∷ (32 ∷ text ++ 32 ∷ []) ++ rest) ≡ terminal_width text + 3 + terminal_width rest
around text rest =
    let first = parted (0x2502 ∷ []) (text ++ 32 ∷ rest) in
    let last = parted text rest in
    ap (λ l. terminal_width (0x2502 ∷ 32 ∷ l)) (append_assoc text (32 ∷ []) rest) ∙ omega (arith, first, last, side)

aligned_width : (right : Bool) (most : ℕ) (text rest : List ℕ) → terminal_width text ≤ most → terminal_width (0x2502 ∷ aligned right most text ++ rest) ≡ most + 3 + terminal_width rest
aligned_width true most text rest fits =
    let all = around (replicate (most - terminal_width text) 32 ++ text) rest in
    let spaces = spaces_before (most - terminal_width text) text in
    omega (arith, all, spaces, fits)
aligned_width false most text rest fits =
    let all = around (text ++ replicate (most - terminal_width text) 32) rest in
    let spaces = spaces_behind text (most - terminal_width text) in
    omega (arith, all, spaces, fits)

-- rules

bar : terminal_width (0x2500 ∷ []) ≡ 1
unfolding unicode_width
bar = refl

bars_width : (k : ℕ) → terminal_width (replicate k 0x2500) ≡ k
bars_width zero = no_width
bars_width (suc k) =
    let more = bars_width k in
    let one = str_width-append_simple false (0x2500 ∷ []) (replicate k 0x2500) (simple_bars k) in
    omega (arith, more, one, bar)

record IsRule (text : List ℕ) (columns : List Column) : Type 0 where
  simple : list_all is_simple text ≡ true
  width : terminal_width text ≡ box_width columns

rule : (left between right : ℕ) → IsMark left → IsMark between → IsMark right → (columns : List Column) → IsRule (line left between right bars columns) columns
rule left between right l b r [] = record { simple = rw r.simple refl; width = r.narrow }
rule left between right l b r (column ∷ columns) =
    let more = rule between between right b b r columns in
    let rest = line between between right bars columns in
    let first = str_width-append_simple false (left ∷ []) (bars column) (simple_bars (column.width + 2)) in
    let all = str_width-append_simple false (left ∷ bars column) rest more.simple in
    let width = bars_width (column.width + 2) in
    record {
      simple = rw (l.simple, list_all-append is_simple (bars column) rest, simple_bars (column.width + 2), more.simple) refl;
      width = omega (arith, first, all, width, more.width, l.narrow);
    }

-- texts fit their columns

most_fits : (values : List Value) (most : ℕ) → most ≤ widest most values
most_fits [] most = omega arith
most_fits (v ∷ values) most = let more = most_fits values (max most (terminal_width (shown v))) in omega (arith, more)

-- the values of a row fit the columns of rows
record Fits (rows : List (List Value)) (row : List Value) : Type 0 where
  fits : (place most : ℕ) → terminal_width (shown (cell row place)) ≤ widest most (cells_at place rows)

each : {X : Type 0} (P Q : X → Type 0) → ((x : X) → P x → Q x) → (xs : List X) → AllByRecursion P xs → AllByRecursion Q xs
each P Q f [] h = tt
each P Q f (x ∷ xs) h = (f x h.0, each P Q f xs h.1)

rows_fit : (rows : List (List Value)) → AllByRecursion (Fits rows) rows
rows_fit [] = tt
rows_fit (row ∷ rows) = (
  record { fits = λ place most. let more = most_fits (cells_at place rows) (max most (terminal_width (shown (cell row place)))) in omega (arith, more) },
  each (Fits rows) (Fits (row ∷ rows)) (λ r h. record { fits = λ place most. h.fits place (max most (terminal_width (shown (cell row place)))) }) rows (rows_fit rows),
)

row_width : (rows : List (List Value)) (row : List Value) → Fits rows row → (names : List (ℕ × List ℕ)) → terminal_width (line 0x2502 0x2502 0x2502 (value_part row) (map (column_of rows) names)) ≡ box_width (map (column_of rows) names)
row_width rows row h [] = side
row_width rows row h ((place, name) ∷ names) =
    let column = column_of rows (place, name) in
    aligned_width (is_right column (cell row place)) column.width (shown (cell row place)) (line 0x2502 0x2502 0x2502 (value_part row) (map (column_of rows) names)) (h.fits place (terminal_width (shown_text name)))
    ∙ ap (λ n. column.width + 3 + n) (row_width rows row h names)

names_width : (rows : List (List Value)) (names : List (ℕ × List ℕ)) → terminal_width (line 0x2502 0x2502 0x2502 name_part (map (column_of rows) names)) ≡ box_width (map (column_of rows) names)
names_width rows [] = side
names_width rows ((place, name) ∷ names) =
    let column = column_of rows (place, name) in
    aligned_width column.is_numeric column.width (shown_text name) (line 0x2502 0x2502 0x2502 name_part (map (column_of rows) names)) (most_fits (cells_at place rows) (terminal_width (shown_text name)))
    ∙ ap (λ n. column.width + 3 + n) (names_width rows names)

all_mapped : {X Y : Type 0} (P : Y → Type 0) (f : X → Y) (xs : List X) → AllByRecursion (λ x. P (f x)) xs → AllByRecursion P (map f xs)
all_mapped P f [] h = tt
all_mapped P f (x ∷ xs) h = (h.0, all_mapped P f xs h.1)

all_joined : {X : Type 0} (P : X → Type 0) (xs ys : List X) → AllByRecursion P xs → AllByRecursion P ys → AllByRecursion P (xs ++ ys)
all_joined P [] ys h k = k
all_joined P (x ∷ xs) ys h k = (h.0, all_joined P xs ys h.1 k)

all_at : {X : Type 0} (P : X → Type 0) (xs : List X) → AllByRecursion P xs → All P xs
all_at P [] h k d less = absurd (omega (arith, less))
all_at P (x ∷ xs) h zero d less = h.0
all_at P (x ∷ xs) h (suc k) d less = all_at P xs h.1 k d (omega (arith, less))

top_left : IsMark 0x250C
unfolding unicode_width
top_left = record { simple = refl; narrow = refl }

top_between : IsMark 0x252C
unfolding unicode_width
top_between = record { simple = refl; narrow = refl }

top_right : IsMark 0x2510
unfolding unicode_width
top_right = record { simple = refl; narrow = refl }

middle_left : IsMark 0x251C
unfolding unicode_width
middle_left = record { simple = refl; narrow = refl }

middle_between : IsMark 0x253C
unfolding unicode_width
middle_between = record { simple = refl; narrow = refl }

middle_right : IsMark 0x2524
unfolding unicode_width
middle_right = record { simple = refl; narrow = refl }

bottom_left : IsMark 0x2514
unfolding unicode_width
bottom_left = record { simple = refl; narrow = refl }

bottom_between : IsMark 0x2534
unfolding unicode_width
bottom_between = record { simple = refl; narrow = refl }

bottom_right : IsMark 0x2518
unfolding unicode_width
bottom_right = record { simple = refl; narrow = refl }

pub aligned_lines : (header : List (List ℕ)) (rows : List (List Value)) → All (λ line. terminal_width line ≡ box_width (columns_of header rows)) (box_lines header rows)
aligned_lines header rows =
    let names = enumerate_from 0 header in
    let columns = columns_of header rows in
    let P : List ℕ → Type 0 = λ text. terminal_width text ≡ box_width columns in
    let row_line : List Value → List ℕ = λ row. line 0x2502 0x2502 0x2502 (value_part row) columns in
    let last = (rule 0x2514 0x2534 0x2518 bottom_left bottom_between bottom_right columns).width in
    let lines = all_mapped P row_line rows (each (Fits rows) (λ row. P (row_line row)) (λ row h. row_width rows row h names) rows (rows_fit rows)) in
    all_at P (box_lines header rows) (
      (rule 0x250C 0x252C 0x2510 top_left top_between top_right columns).width,
      (
        names_width rows names,
        (
          (rule 0x251C 0x253C 0x2524 middle_left middle_between middle_right columns).width,
          all_joined P (map row_line rows) (line 0x2514 0x2534 0x2518 bars columns ∷ []) lines (last, tt),
        ),
      ),
    )
