-- Records of rows: what is read is a record of it, and no record begins another.
use Rattle.std.proofs.Common.{◌≡◌, ◌≢◌, ℕ, ℤ, ◌+◌, ◌^◌, ◌<◌, ◌≤◌, List, [], ◌∷◌, ◌++◌, length, get_or, take, drop, All, refl, sym, ap, subst, ◌∙◌, arith}
use Rattle.std.specs.Prelude.{FitsSigned}
use Rattle.std.specs.Int.{w32, w64, to_be_bytes, from_be_bytes, cast_unsigned, cast_signed}
use Rattle.std.proofs.lemmas.List.{take_at, drop_at, take-append-drop, get_or-take, append_assoc, append-nil, length-append, take_more}
use Rattle.std.proofs.lemmas.List.Concat.{flat_map-append}
use Rattle.std.proofs.lemmas.List.Elements.{All-head, All-tail, All-push}
use Rattle.std.proofs.lemmas.Int.{to_z-of_z, of_z-to_z, ints}
use Rattle.std.proofs.lemmas.Nat.{be_bytes_4, be_bytes_8, from_be_bytes-to_be_bytes_4, from_be_bytes-to_be_bytes_8}
use Rattle.byteorder.specs.Endian.{big_number}
use Rattle.gq_row.specs.declared.value.Value.{Value}
use Rattle.gq_row.specs.declared.value.Value.TheVariants.{Null, Int, Text, NoCase}
use Rattle.gq_record.specs.Records.{with_length, number_bytes, value_bytes, body_of, record_of, IsText, IsCell, IsStorable}
use Rattle.gq_record.specs.Laws.{DeterminesRow}

-- two lists of one length before others
pub fronts : {X : Type 0} (a b x y : List X) → length a ≡ length b → a ++ x ≡ b ++ y → (a ≡ b) × (x ≡ y)
fronts a b x y len e = (
  sym (take_at a x (length b) len) ∙ ap (take (length b)) e ∙ take_at b y (length b) refl,
  sym (drop_at a x (length b) len) ∙ ap (drop (length b)) e ∙ drop_at b y (length b) refl,
)

-- ---- lengths and numbers

pub length_once : (m n : ℕ) (x y : List ℕ) → m < 2 ^ 32 → n < 2 ^ 32 → to_be_bytes w32 m ++ x ≡ to_be_bytes w32 n ++ y → (m ≡ n) × (x ≡ y)
length_once m n x y small_m small_n e =
    let parts = fronts (to_be_bytes w32 m) (to_be_bytes w32 n) x y refl e in
    (sym (from_be_bytes-to_be_bytes_4 m small_m) ∙ ap (from_be_bytes w32) parts.0 ∙ from_be_bytes-to_be_bytes_4 n small_n, parts.1)

unsigned_fits : (n : ℤ) → FitsSigned w64 n → cast_unsigned w64 n < 2 ^ 64
unsigned_fits n fits = omega (arith, ints)

int_once : (m n : ℤ) (x y : List ℕ) → FitsSigned w64 m → FitsSigned w64 n → number_bytes m ++ x ≡ number_bytes n ++ y → (m ≡ n) × (x ≡ y)
int_once m n x y fits_m fits_n e =
    let parts = fronts (number_bytes m) (number_bytes n) x y refl e in
    let same : cast_unsigned w64 m ≡ cast_unsigned w64 n =
    sym (from_be_bytes-to_be_bytes_8 (cast_unsigned w64 m) (unsigned_fits m fits_m)) ∙ ap (from_be_bytes w64) parts.0 ∙ from_be_bytes-to_be_bytes_8 (cast_unsigned w64 n) (unsigned_fits n fits_n) in
    (sym (to_z-of_z w64 m fits_m) ∙ ap (cast_signed w64) same ∙ to_z-of_z w64 n fits_n, parts.1)

abbrev pub AreBytes : List ℕ → Type 0
AreBytes bytes = (i : ℕ) → get_or bytes i 0 < 256

first_bytes : (n : ℕ) (bytes : List ℕ) → AreBytes bytes → n ≤ length bytes → (i : ℕ) → i < n → get_or (take n bytes) i 0 < 256
first_bytes n bytes fits long i lt = rw (get_or-take n bytes i 0 lt) (fits i)

pub length_is : (front : List ℕ) → AreBytes front → length front ≡ 4 → to_be_bytes w32 (big_number 4 front) ≡ front
length_is front fits len = be_bytes_4 front (big_number 4 front) len fits (omega arith)

pub int_is : (front : List ℕ) → AreBytes front → length front ≡ 8 → number_bytes (cast_signed w64 (big_number 8 front)) ≡ front
int_is front fits len =
    ap (to_be_bytes w64) (of_z-to_z w64 (big_number 8 front) (omega (arith, fits 0, fits 1, fits 2, fits 3, fits 4, fits 5, fits 6, fits 7)))
    ∙ be_bytes_8 front (big_number 8 front) len fits (omega arith)

-- ---- values

pub block_once : (s t x y : List ℕ) → length s < 2 ^ 32 → length t < 2 ^ 32 → with_length s ++ x ≡ with_length t ++ y → (s ≡ t) × (x ≡ y)
block_once s t x y short_s short_t e =
    let whole = sym (append_assoc (to_be_bytes w32 (length s)) s x) ∙ e ∙ append_assoc (to_be_bytes w32 (length t)) t y in
    let lens = length_once (length s) (length t) (s ++ x) (t ++ y) short_s short_t whole in
    fronts s t x y lens.0 lens.1

pub value_once : (v w : Value) (x y : List ℕ) → IsCell v → IsCell w → value_bytes v ++ x ≡ value_bytes w ++ y → (v ≡ w) × (x ≡ y)
unfolding value_bytes
value_once Null Null x y p q e = (refl, cc)
value_once Null (Int n) x y p q e = absurd cc
value_once Null (Text t) x y p q e = absurd cc
value_once Null (NoCase t) x y p q e = absurd cc
value_once (Int m) Null x y p q e = absurd cc
value_once (Int m) (Int n) x y p q e =
    let tails : number_bytes m ++ x ≡ number_bytes n ++ y = ap (drop 1) e in
    let parts = int_once m n x y p q tails in
    (ap Int parts.0, parts.1)
value_once (Int m) (Text t) x y p q e = absurd cc
value_once (Int m) (NoCase t) x y p q e = absurd cc
value_once (Text s) Null x y p q e = absurd cc
value_once (Text s) (Int n) x y p q e = absurd cc
value_once (Text s) (Text t) x y p q e =
    let tails : with_length s ++ x ≡ with_length t ++ y = ap (drop 1) e in
    let parts = block_once s t x y p.short q.short tails in
    (ap Text parts.0, parts.1)
value_once (Text s) (NoCase t) x y p q e = absurd cc
value_once (NoCase s) Null x y p q e = absurd cc
value_once (NoCase s) (Int n) x y p q e = absurd cc
value_once (NoCase s) (Text t) x y p q e = absurd cc
value_once (NoCase s) (NoCase t) x y p q e =
    let tails : with_length s ++ x ≡ with_length t ++ y = ap (drop 1) e in
    let parts = block_once s t x y p.short q.short tails in
    (ap NoCase parts.0, parts.1)

-- a value has at least one byte
value_some : (v : Value) (x : List ℕ) → value_bytes v ++ x ≡ [] → ⊥
unfolding value_bytes
value_some Null x e = cc
value_some (Int n) x e = cc
value_some (Text t) x e = cc
value_some (NoCase t) x e = cc

pub value_shortens : (v : Value) (bytes rest : List ℕ) → bytes ≡ value_bytes v ++ rest → length rest < length bytes
unfolding value_bytes
value_shortens Null bytes rest e = omega (arith, ap length e)
value_shortens (Int n) bytes rest e = omega (arith, ap length e)
value_shortens (Text t) bytes rest e = omega (arith, simp length-append at (ap length e))
value_shortens (NoCase t) bytes rest e = omega (arith, simp length-append at (ap length e))

-- no value begins with another tag, or with its tag and then too few bytes or no text
pub none_empty : (v : Value) (rest : List ℕ) → [] ≡ value_bytes v ++ rest → ⊥
none_empty v rest e = value_some v rest (sym e)

pub none_int : (v : Value) (bytes rest : List ℕ) → length bytes < 8 → 1 ∷ bytes ≡ value_bytes v ++ rest → ⊥
unfolding value_bytes
none_int Null bytes rest short e = cc
none_int (Int n) bytes rest short e = omega (arith, ap length e)
none_int (Text t) bytes rest short e = cc
none_int (NoCase t) bytes rest short e = cc

pub none_text : (v : Value) (bytes rest : List ℕ) → IsCell v → ((text behind : List ℕ) → IsText text → bytes ≡ with_length text ++ behind → ⊥) → 2 ∷ bytes ≡ value_bytes v ++ rest → ⊥
unfolding value_bytes
none_text Null bytes rest fits none e = cc
none_text (Int n) bytes rest fits none e = cc
none_text (Text t) bytes rest fits none e = none t rest fits (ap (drop 1) e)
none_text (NoCase t) bytes rest fits none e = cc

pub none_no_case : (v : Value) (bytes rest : List ℕ) → IsCell v → ((text behind : List ℕ) → IsText text → bytes ≡ with_length text ++ behind → ⊥) → 3 ∷ bytes ≡ value_bytes v ++ rest → ⊥
unfolding value_bytes
none_no_case Null bytes rest fits none e = cc
none_no_case (Int n) bytes rest fits none e = cc
none_no_case (Text t) bytes rest fits none e = cc
none_no_case (NoCase t) bytes rest fits none e = none t rest fits (ap (drop 1) e)

pub none_other : (v : Value) (tag : ℕ) (bytes rest : List ℕ) → tag ≢ 0 → tag ≢ 1 → tag ≢ 2 → tag ≢ 3 → tag ∷ bytes ≡ value_bytes v ++ rest → ⊥
unfolding value_bytes
none_other Null tag bytes rest a b c d e = a cc
none_other (Int n) tag bytes rest a b c d e = b cc
none_other (Text t) tag bytes rest a b c d e = c cc
none_other (NoCase t) tag bytes rest a b c d e = d cc

-- ---- rows

-- where values begin the body of a row, the row begins with them
pub begins : (cells row : List Value) (rest : List ℕ) → All IsCell cells → All IsCell row → body_of row ≡ body_of cells ++ rest
    → (more : List Value) × (row ≡ cells ++ more) × (rest ≡ body_of more) × All IsCell more
begins [] row rest fits all e = (row, refl, sym e, all)
begins (c ∷ cells) [] rest fits all e = absurd (value_some c (body_of cells ++ rest) (sym (e ∙ append_assoc (value_bytes c) (body_of cells) rest)))
begins (c ∷ cells) (d ∷ row) rest fits all e =
    let firsts = value_once d c (body_of row) (body_of cells ++ rest) (All-head IsCell d row all) (All-head IsCell c cells fits) (e ∙ append_assoc (value_bytes c) (body_of cells) rest) in
    let tail = begins cells row rest (All-tail IsCell c cells fits) (All-tail IsCell d row all) firsts.1 in
    (tail.0, cc (firsts.0, tail.1), tail.2, tail.3)

pub body_once : (a b : List Value) → All IsCell a → All IsCell b → body_of a ≡ body_of b → a ≡ b
body_once [] [] p q e = refl
body_once [] (d ∷ b) p q e = absurd (value_some d (body_of b) (sym e))
body_once (c ∷ a) [] p q e = absurd (value_some c (body_of a) e)
body_once (c ∷ a) (d ∷ b) p q e =
    let firsts = value_once c d (body_of a) (body_of b) (All-head IsCell c a p) (All-head IsCell d b q) e in
    let rest = body_once a b (All-tail IsCell c a p) (All-tail IsCell d b q) firsts.1 in
    cc (firsts.0, rest)

pub determines_row : DeterminesRow
unfolding record_of
determines_row a b x y p q e =
    let parts = block_once (body_of a) (body_of b) x y p.short q.short e in
    (body_once a b p.cells q.cells parts.0, parts.1)

-- ---- decoding

abbrev pub NoValue : List ℕ → Type 0
NoValue bytes = (v : Value) (rest : List ℕ) → IsCell v → bytes ≡ value_bytes v ++ rest → ⊥

-- one more value was taken
pub takes_one : (bytes rest behind : List ℕ) (cells more : List Value) (v : Value) → bytes ≡ body_of cells ++ rest → All IsCell cells → rest ≡ value_bytes v ++ behind → IsCell v → more ≡ cells ++ v ∷ []
    → (bytes ≡ body_of more ++ behind) × All IsCell more
takes_one bytes rest behind cells more v e fits step fit pushed = (
  e ∙ ap (λ (l : List ℕ). body_of cells ++ l) step ∙ sym (append_assoc (body_of cells) (value_bytes v) behind)
      ∙ ap (λ (l : List ℕ). l ++ behind) (ap (λ (l : List ℕ). body_of cells ++ l) (sym (append-nil (value_bytes v))) ∙ sym (flat_map-append value_bytes cells (v ∷ [])) ∙ ap body_of (sym pushed)),
  subst (λ (l : List Value). All IsCell l) (sym pushed) (All-push IsCell cells v fits fit),
)

-- what is left begins with no value, so no row has these bytes
pub no_row : (bytes rest : List ℕ) (cells : List Value) → bytes ≡ body_of cells ++ rest → All IsCell cells → 0 < length rest → NoValue rest → (row : List Value) → All IsCell row → bytes ≡ body_of row → ⊥
no_row bytes rest cells e fits some none row all is =
    let tail = begins cells row rest fits all (sym is ∙ e) in
    starts tail.0 tail.3 tail.2
  where
    starts : (more : List Value) → All IsCell more → rest ≡ body_of more → ⊥
    starts [] all is = omega (arith, ap length is)
    starts (v ∷ more) all is = none v (body_of more) (All-head IsCell v more all) is

pub decoded : (bytes block after : List ℕ) (row : List Value) → bytes ≡ with_length block ++ after → length block < 2 ^ 32 → block ≡ body_of row → All IsCell row
    → (take (4 + length block) bytes ≡ record_of row) × IsStorable row
unfolding record_of
decoded bytes block after row e short is all = (
  ap (take (4 + length block)) e ∙ take_at (with_length block) after (4 + length block) (omega arith) ∙ ap with_length is,
  record { cells = all; short = omega (arith, ap length is) },
)

split_front : (n : ℕ) (bytes : List ℕ) (row : List Value) → take n bytes ≡ record_of row → bytes ≡ with_length (body_of row) ++ drop n bytes
unfolding record_of
split_front n bytes row e = sym (take-append-drop n bytes) ∙ ap (λ (l : List ℕ). l ++ drop n bytes) e

pub no_block : (bytes : List ℕ) → ((block rest : List ℕ) → length block < 2 ^ 32 → bytes ≡ with_length block ++ rest → ⊥) → (row : List Value) (n : ℕ) → IsStorable row → take n bytes ≡ record_of row → ⊥
no_block bytes none row n fits e = none (body_of row) (drop n bytes) fits.short (split_front n bytes row e)

pub no_cells : (bytes block after : List ℕ) → bytes ≡ with_length block ++ after → length block < 2 ^ 32 → ((row : List Value) → All IsCell row → block ≡ body_of row → ⊥)
    → (row : List Value) (n : ℕ) → IsStorable row → take n bytes ≡ record_of row → ⊥
no_cells bytes block after e short none row n fits is =
    let same = block_once block (body_of row) after (drop n bytes) short fits.short (sym e ∙ split_front n bytes row is) in
    none row fits.cells same.0

-- ---- lengths

pub body_longer : (n : ℕ) (row : List Value) → length (body_of (take n row)) ≤ length (body_of row)
body_longer n row =
    let parts : body_of row ≡ body_of (take n row) ++ body_of (drop n row) = ap body_of (sym (take-append-drop n row)) ∙ flat_map-append value_bytes (take n row) (drop n row) in
    omega (arith, simp length-append at (ap length parts))

pub body_push : (n : ℕ) (row : List Value) (v : Value) → n < length row → v ≡ get_or row n v → body_of (take (n + 1) row) ≡ body_of (take n row) ++ value_bytes v
body_push n row v lt is =
    let more : take (n + 1) row ≡ take n row ++ v ∷ [] = take_more row n v lt ∙ ap (λ (x : Value). take n row ++ x ∷ []) (sym is) in
    ap body_of more ∙ flat_map-append value_bytes (take n row) (v ∷ []) ∙ ap (λ (l : List ℕ). body_of (take n row) ++ l) (append-nil (value_bytes v))

pub body_more : (n : ℕ) (row : List Value) (v : Value) → n < length row → v ≡ get_or row n v → length (body_of (take (n + 1) row)) ≡ length (body_of (take n row)) + length (value_bytes v)
body_more n row v lt is = ap length (body_push n row v lt is) ∙ length-append (body_of (take n row)) (value_bytes v)
