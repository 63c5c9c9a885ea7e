-- Fields that spell numbers.
use Rattle.std.proofs.Common.{◌≡◌, ◌∙◌, ◌+◌, ◌++◌, ◌<◌, ℕ, ℤ, suc, Bool, true, false, cond, not, List, [], ◌∷◌, take, drop, eqb, Option, Some, None, length, is_some, refl, sym, ap, subst, arith, inl, inr}
use Rattle.std.specs.Prelude.{◌&&◌, ◌^◌, bytes_eq, nat_lt, pos}
use Rattle.std.specs.Char.{is_ascii_digit}
use Rattle.std.specs.List.{list_all, prefix_len}
use Rattle.std.specs.Str.{all_ascii_digits}
use Rattle.std.specs.Str.Parse.{digits_value, without_leading_plus}
use Rattle.std.proofs.lemmas.Bool.Decides.{nat_tests}
use Rattle.std.proofs.lemmas.List.{append-nil, take-append-drop}
use Rattle.std.proofs.lemmas.Slice.Eq.{bytes_eq-Decides}
use Rattle.std.proofs.lemmas.Bool.{ne_eqb}
use Rattle.gq_row.specs.declared.schema.Kind.TheVariants.{Int}
use Rattle.gq_load.specs.Fields.{is_null_field, null_field}
use Rattle.gq_load.specs.Numbers.{int_of, is_filled, is_space, magnitude, number_of, of_digits, signed}
use Rattle.gq_load.specs.Laws.{SignBefore, SpellsNumber, SpellsInt}
use Rattle.gq_load.proofs.Numbers.{some_signed}
use Rattle.gq_load.proofs.Places.{both}

some_if : {A : Type 0} (b : Bool) (o : Option A) (z : A) → cond b o None ≡ Some z → (b ≡ true) × (o ≡ Some z)
some_if true o z h = (refl, h)
some_if false o z h = let none : ⊥ = cc in absurd none

-- pieces

spelled : (piece : List ℕ) (negative : Bool) (digits : List ℕ) (z : ℤ) → SignBefore piece negative digits → of_digits negative digits ≡ Some z → SpellsNumber piece z
spelled piece negative digits z sign h =
    let a = some_if (is_filled digits && all_ascii_digits digits) (signed negative (digits_value 10 digits)) z h in
    let b = both (is_filled digits) (all_ascii_digits digits) a.0 in
    record { negative = negative; digits = digits; sign = sign; filled = b.0; all = b.1; value = a.1 }

number_sound : (piece : List ℕ) (z : ℤ) → number_of piece ≡ Some z → SpellsNumber piece z
unfolding number_of
number_sound [] z h = let none : ⊥ = cc in absurd none
number_sound (b ∷ bs) z h = by_minus (eqb b 45) refl h
  where
    by_plus : (t : Bool) → eqb b 43 ≡ t → of_digits false (drop (cond t 1 0) (b ∷ bs)) ≡ Some z → SpellsNumber (b ∷ bs) z
    by_plus true e h = let same : b ≡ 43 = grind (arith, nat_tests) in spelled (b ∷ bs) false bs z (inr (inl (ap (λ c. c ∷ bs) same, refl))) h
    by_plus false e h = spelled (b ∷ bs) false (b ∷ bs) z (inl (refl, refl)) h

    by_minus : (t : Bool) → eqb b 45 ≡ t → of_digits t (cond t bs (without_leading_plus (b ∷ bs))) ≡ Some z → SpellsNumber (b ∷ bs) z
    by_minus true e h = let same : b ≡ 45 = grind (arith, nat_tests) in spelled (b ∷ bs) true bs z (inr (inr (ap (λ c. c ∷ bs) same, refl))) h
    by_minus false e h = by_plus (eqb b 43) refl h

-- one digit is no sign and no space
no_sign : (d k : ℕ) → is_ascii_digit d ≡ true → k < 48 → eqb d k ≡ false
no_sign d k e s = grind (arith, nat_tests)

gives : (negative : Bool) (digits : List ℕ) (z : ℤ) → is_filled digits ≡ true → all_ascii_digits digits ≡ true → signed negative (digits_value 10 digits) ≡ Some z → of_digits negative digits ≡ Some z
gives negative digits z f a v = rw (f, a) v

plain : (digits : List ℕ) (z : ℤ) → is_filled digits ≡ true → all_ascii_digits digits ≡ true → of_digits false digits ≡ Some z → number_of digits ≡ Some z
unfolding number_of
plain [] z f a h = let none : ⊥ = cc in absurd none
plain (d ∷ ds) z f a h =
    let digit = (both (is_ascii_digit d) (all_ascii_digits ds) a).0 in
    rw (no_sign d 45 digit (omega arith), no_sign d 43 digit (omega arith)) h

number_whole : (piece : List ℕ) (z : ℤ) → SpellsNumber piece z → number_of piece ≡ Some z
unfolding number_of
number_whole piece z s = by s.sign (gives s.negative s.digits z s.filled s.all s.value)
  where
    by : SignBefore piece s.negative s.digits → of_digits s.negative s.digits ≡ Some z → number_of piece ≡ Some z
    by (inl e) h = rw e.0 (plain s.digits z s.filled s.all (rw e.1 at h))
    by (inr (inl e)) h = rw e.0 (rw e.1 at h)
    by (inr (inr e)) h = rw e.0 (rw e.1 at h)

digits_marked : (digits : List ℕ) → all_ascii_digits digits ≡ true → list_all (λ b. not (is_space b)) digits ≡ true
digits_marked [] h = refl
digits_marked (d ∷ ds) h =
    let parts = both (is_ascii_digit d) (all_ascii_digits ds) h in
    rw (no_sign d 32 parts.0 (omega arith), digits_marked ds parts.1) refl

piece_marked : (piece : List ℕ) (z : ℤ) → SpellsNumber piece z → (is_filled piece ≡ true) × (list_all (λ b. not (is_space b)) piece ≡ true)
piece_marked piece z s = by s.sign
  where
    by : SignBefore piece s.negative s.digits → (is_filled piece ≡ true) × (list_all (λ b. not (is_space b)) piece ≡ true)
    by (inl e) = rw e.0 (s.filled, digits_marked s.digits s.all)
    by (inr (inl e)) = rw e.0 (refl, digits_marked s.digits s.all)
    by (inr (inr e)) = rw e.0 (refl, digits_marked s.digits s.all)

-- prefixes

front_passes : (p : ℕ → Bool) (bs : List ℕ) → list_all p (take (prefix_len p bs) bs) ≡ true
front_passes p [] = refl
front_passes p (b ∷ bs) = by (p b) refl (front_passes p bs)
  where
    by : (t : Bool) → p b ≡ t → list_all p (take (prefix_len p bs) bs) ≡ true → list_all p (take (cond t (1 + prefix_len p bs) 0) (b ∷ bs)) ≡ true
    by true e others =
        let n : 1 + prefix_len p bs ≡ suc (prefix_len p bs) = omega arith in
        rw n (rw e others)
    by false e others = refl

-- a prefix that passes, before what doesn't
abbrev Stops : (ℕ → Bool) → List ℕ → Type 0
Stops p [] = Unit {0}
Stops p (b ∷ bs) = p b ≡ false

cut_at : (p : ℕ → Bool) (front rest : List ℕ) → list_all p front ≡ true → Stops p rest → (take (prefix_len p (front ++ rest)) (front ++ rest) ≡ front) × (drop (prefix_len p (front ++ rest)) (front ++ rest) ≡ rest)
cut_at p [] [] h s = (refl, refl)
cut_at p [] (b ∷ bs) h s = rw s (refl, refl)
cut_at p (b ∷ bs) rest h s =
    let parts = both (p b) (list_all p bs) h in
    let others = cut_at p bs rest parts.1 s in
    let n : 1 + prefix_len p (bs ++ rest) ≡ suc (prefix_len p (bs ++ rest)) = omega arith in
    rw (parts.0, n) (ap (λ xs. b ∷ xs) others.0, others.1)

not_space : (b : ℕ) → not (is_space b) ≡ true → is_space b ≡ false
not_space b h = by (is_space b) h
  where
    by : (t : Bool) → not t ≡ true → t ≡ false
    by true h = let none : ⊥ = cc in absurd none
    by false h = refl

piece_stops : (piece back : List ℕ) → is_filled piece ≡ true → list_all (λ b. not (is_space b)) piece ≡ true → Stops is_space (piece ++ back)
piece_stops [] back f h = let none : ⊥ = cc in absurd none
piece_stops (b ∷ bs) back f h = not_space b (both (not (is_space b)) (list_all (λ b. not (is_space b)) bs) h).0

back_stops : (back : List ℕ) → list_all is_space back ≡ true → Stops (λ b. not (is_space b)) back
back_stops [] h = tt
back_stops (b ∷ bs) h = ap not (both (is_space b) (list_all is_space bs) h).0

-- both directions

pub sound : (field : List ℕ) (z : ℤ) → int_of field ≡ Some z → SpellsInt field z
unfolding int_of
sound field z h =
    let n = prefix_len is_space field in
    let body = drop n field in
    let end = prefix_len (λ b. not (is_space b)) body in
    let a = some_if (list_all is_space (drop end body)) (number_of (take end body)) z h in
    record {
      front = take n field;
      piece = take end body;
      back = drop end body;
      cut = sym (take-append-drop n field) ∙ ap (λ xs. take n field ++ xs) (sym (take-append-drop end body));
      before = front_passes is_space field;
      number = number_sound (take end body) z a.1;
      after = a.0;
    }

pub whole : (field : List ℕ) (z : ℤ) → SpellsInt field z → int_of field ≡ Some z
unfolding int_of
whole field z s =
    let marked = piece_marked s.piece z s.number in
    let first = cut_at is_space s.front (s.piece ++ s.back) s.before (piece_stops s.piece s.back marked.0 marked.1) in
    let second = cut_at (λ b. not (is_space b)) s.piece s.back marked.1 (back_stops s.back s.after) in
    rw (s.cut, first.1, second.1, second.0, s.after) (number_whole s.piece z s.number)

-- a number with no spaces around it
pub unspaced : (field : List ℕ) → is_some (number_of field) ≡ true → int_of field ≡ number_of field
unspaced field h = by (number_of field) refl h
  where
    by : (o : Option ℤ) → number_of field ≡ o → is_some o ≡ true → int_of field ≡ o
    by None e h = let none : ⊥ = cc in absurd none
    by (Some z) e h = whole field z (record {
      front = [];
      piece = field;
      back = [];
      cut = sym (append-nil field);
      before = refl;
      number = number_sound field z e;
      after = refl;
    })

-- a few digits and nothing else
pub plainly : (field : List ℕ) (n : ℕ) → magnitude field ≡ Some n → n < 2 ^ 63 → int_of field ≡ Some (pos n)
plainly field n e small =
    let spelled = some_if (is_filled field && all_ascii_digits field && nat_lt (digits_value 10 field) (2 ^ 64)) (Some (digits_value 10 field)) n e in
    let digits = both (is_filled field) (all_ascii_digits field) (both (is_filled field && all_ascii_digits field) (nat_lt (digits_value 10 field) (2 ^ 64)) spelled.0).0 in
    let under : nat_lt n (2 ^ 63) ≡ true = grind (arith, nat_tests) in
    let value : of_digits false field ≡ Some (pos n) = some_signed false field n e ∙ ap (λ b. cond b (Some (pos n)) None) under in
    let number = plain field (pos n) digits.0 digits.1 value in
    unspaced field (ap is_some number) ∙ number

-- a field that spells a number isn't null
pub spelled_not_null : (field : List ℕ) (z : ℤ) → int_of field ≡ Some z → is_null_field Int field ≡ false
unfolding int_of number_of
spelled_not_null [] z e = let none : ⊥ = cc in absurd none
spelled_not_null (b ∷ bs) z e = by_mark (bytes_eq (b ∷ bs) null_field) refl
  where
    by_mark : (t : Bool) → bytes_eq (b ∷ bs) null_field ≡ t → is_null_field Int (b ∷ bs) ≡ false
    by_mark false h = rw (ne_eqb (length (b ∷ bs)) 0 (λ z. omega (arith, z)), h) refl
    by_mark true h =
        let marked : int_of null_field ≡ Some z = subst (λ f. int_of f ≡ Some z) ((bytes_eq-Decides (b ∷ bs) null_field).0 h) e in
        let none : ⊥ = cc in
        absurd none
