-- The line that ends a payload, piece by piece.
use Rattle.std.proofs.Common.{◌≡◌, ℕ, ◌+◌, ◌<◌, ◌≤◌, Bool, true, false, cond, eqb, [], ◌∷◌, ◌++◌, length, take, get_or, refl, sym, ap, subst, ◌∙◌, arith, suc, add-one}
use Rattle.std.proofs.lemmas.Bool.{eqb-true}
use Rattle.std.proofs.lemmas.List.{take_all, get_or-take, length-take-le}
use Rattle.std.proofs.Math.Seq.{take-suc}
use Rattle.std.specs.Prelude.{◌&&◌, not}
use Rattle.std.specs.List.{list_all}
use Rattle.std.specs.Str.{bytes_eq}
use Rattle.std.specs.Io.BufRead.{strip_last}
use Rattle.gq_script.specs.declared.payload.EndMark.{EndMark}
use Rattle.gq_script.specs.declared.payload.EndMark.TheVariants as mark
use Rattle.gq_token.specs.Texts.{Bytes}
use Rattle.gq_script.specs.Payloads.{mark_after, mark_of, is_other, is_closing, held, is_plain, IsPiece}
use Rattle.gq_script.specs.Script.{content, is_end_mark}
use Rattle.gq_script.proofs.Ends.{strip_pushed, content_ended, content_unended}

pub mark_of-append : (m : EndMark) (xs ys : Bytes) → mark_of m (xs ++ ys) ≡ mark_of (mark_of m xs) ys
mark_of-append m [] ys = refl
mark_of-append m (x ∷ xs) ys = mark_of-append (mark_after m x) xs ys

pub other_stays : (bs : Bytes) → mark_of mark.Other bs ≡ mark.Other
other_stays [] = refl
other_stays (b ∷ bs) = other_stays bs

pub is_the_other : (m : EndMark) → is_other m ≡ true → m ≡ mark.Other
is_the_other mark.Start e = absurd cc
is_the_other mark.Backslash e = absurd cc
is_the_other mark.Dot e = absurd cc
is_the_other mark.Return e = absurd cc
is_the_other mark.Ended e = absurd cc
is_the_other mark.Other e = refl

-- what may be the mark was so before
pub was_not_other : (m : EndMark) (bs : Bytes) → is_other (mark_of m bs) ≡ false → is_other m ≡ false
was_not_other m bs e = by_test (is_other m) refl
  where
    by_test : (t : Bool) → is_other m ≡ t → is_other m ≡ false
    by_test true f =
        let g : true ≡ false = sym (ap is_other (ap (λ (v : EndMark). mark_of v bs) (is_the_other m f) ∙ other_stays bs)) ∙ e in
        absurd cc
    by_test false f = f

pub both_are : (a b : Bool) → a && b ≡ true → (a ≡ true) × (b ≡ true)
both_are true b h = (refl, h)
both_are false b h = absurd cc

no_lf : (b : ℕ) → is_plain b ≡ true → eqb b 10 ≡ false
no_lf b h = by_test (eqb b 10) refl
  where
    by_test : (t : Bool) → eqb b 10 ≡ t → eqb b 10 ≡ false
    by_test true e = let f : false ≡ true = sym (ap not e) ∙ h in absurd cc
    by_test false e = e

plain_parts : (b : ℕ) (bs : Bytes) → list_all is_plain (b ∷ bs) ≡ true → (eqb b 10 ≡ false) × (list_all is_plain bs ≡ true)
plain_parts b bs h = let p = both_are (is_plain b) (list_all is_plain bs) h in (no_lf b p.0, p.1)

-- after a CR only LF continues
return_next : (b : ℕ) (bs : Bytes) → list_all is_plain (b ∷ bs) ≡ true → mark_of mark.Return (b ∷ bs) ≡ mark.Other
return_next b bs h = ap (λ (t : Bool). mark_of (cond t mark.Ended mark.Other) bs) (plain_parts b bs h).0 ∙ other_stays bs

dot_cr : (b : ℕ) (bs : Bytes) → eqb b 13 ≡ true → mark_of mark.Dot (b ∷ bs) ≡ mark_of mark.Return bs
dot_cr b bs e = ap (λ (t : Bool). mark_of (cond t mark.Return (cond (eqb b 10) mark.Ended mark.Other)) bs) e

dot_other : (b : ℕ) (bs : Bytes) → eqb b 13 ≡ false → list_all is_plain (b ∷ bs) ≡ true → mark_of mark.Dot (b ∷ bs) ≡ mark.Other
dot_other b bs e h =
    ap (λ (t : Bool). mark_of (cond t mark.Return (cond (eqb b 10) mark.Ended mark.Other)) bs) e
    ∙ ap (λ (t : Bool). mark_of (cond t mark.Ended mark.Other) bs) (plain_parts b bs h).0 ∙ other_stays bs

backslash_next : (b : ℕ) (bs : Bytes) (t : Bool) → eqb b 46 ≡ t → mark_of mark.Backslash (b ∷ bs) ≡ cond t (mark_of mark.Dot bs) mark.Other
backslash_next b bs true e = ap (λ (t : Bool). mark_of (cond t mark.Dot mark.Other) bs) e
backslash_next b bs false e = ap (λ (t : Bool). mark_of (cond t mark.Dot mark.Other) bs) e ∙ other_stays bs

start_next : (b : ℕ) (bs : Bytes) (t : Bool) → eqb b 92 ≡ t → mark_of mark.Start (b ∷ bs) ≡ cond t (mark_of mark.Backslash bs) mark.Other
start_next b bs true e = ap (λ (t : Bool). mark_of (cond t mark.Backslash mark.Other) bs) e
start_next b bs false e = ap (λ (t : Bool). mark_of (cond t mark.Backslash mark.Other) bs) e ∙ other_stays bs

-- while a line may be the mark, its bytes are those held

not_it : (m : EndMark) → m ≡ mark.Other → is_other m ≡ false → ⊥
not_it m e f = let g : true ≡ false = sym (ap is_other e) ∙ f in cc

held_return : (bs : Bytes) → list_all is_plain bs ≡ true → is_other (mark_of mark.Return bs) ≡ false → held (mark_of mark.Return bs) ≡ 92 ∷ 46 ∷ 13 ∷ bs
held_return [] h e = refl
held_return (b ∷ bs) h e = absurd (not_it (mark_of mark.Return (b ∷ bs)) (return_next b bs h) e)

held_dot : (bs : Bytes) → list_all is_plain bs ≡ true → is_other (mark_of mark.Dot bs) ≡ false → held (mark_of mark.Dot bs) ≡ 92 ∷ 46 ∷ bs
held_dot [] h e = refl
held_dot (b ∷ bs) h e = by_cr (eqb b 13) refl
  where
    by_cr : (t : Bool) → eqb b 13 ≡ t → held (mark_of mark.Dot (b ∷ bs)) ≡ 92 ∷ 46 ∷ b ∷ bs
    by_cr true f =
        let next = dot_cr b bs f in
        ap held next ∙ held_return bs (plain_parts b bs h).1 (sym (ap is_other next) ∙ e) ∙ ap (λ (v : ℕ). 92 ∷ 46 ∷ v ∷ bs) (sym (eqb-true b 13 f))
    by_cr false f = absurd (not_it (mark_of mark.Dot (b ∷ bs)) (dot_other b bs f h) e)

held_backslash : (bs : Bytes) → list_all is_plain bs ≡ true → is_other (mark_of mark.Backslash bs) ≡ false → held (mark_of mark.Backslash bs) ≡ 92 ∷ bs
held_backslash [] h e = refl
held_backslash (b ∷ bs) h e = by_dot (eqb b 46) refl
  where
    by_dot : (t : Bool) → eqb b 46 ≡ t → held (mark_of mark.Backslash (b ∷ bs)) ≡ 92 ∷ b ∷ bs
    by_dot true f =
        let next = backslash_next b bs true f in
        ap held next ∙ held_dot bs (plain_parts b bs h).1 (sym (ap is_other next) ∙ e) ∙ ap (λ (v : ℕ). 92 ∷ v ∷ bs) (sym (eqb-true b 46 f))
    by_dot false f = absurd (not_it (mark_of mark.Backslash (b ∷ bs)) (backslash_next b bs false f) e)

pub held_is : (bs : Bytes) → list_all is_plain bs ≡ true → is_other (mark_of mark.Start bs) ≡ false → held (mark_of mark.Start bs) ≡ bs
held_is [] h e = refl
held_is (b ∷ bs) h e = by_backslash (eqb b 92) refl
  where
    by_backslash : (t : Bool) → eqb b 92 ≡ t → held (mark_of mark.Start (b ∷ bs)) ≡ b ∷ bs
    by_backslash true f =
        let next = start_next b bs true f in
        ap held next ∙ held_backslash bs (plain_parts b bs h).1 (sym (ap is_other next) ∙ e) ∙ ap (λ (v : ℕ). v ∷ bs) (sym (eqb-true b 92 f))
    by_backslash false f = absurd (not_it (mark_of mark.Start (b ∷ bs)) (start_next b bs false f) e)

-- a line without its LF, at the script's end

closes_dot : (bs : Bytes) → list_all is_plain bs ≡ true → is_closing (mark_of mark.Dot bs) ≡ bytes_eq bs []
closes_dot [] h = refl
closes_dot (b ∷ bs) h = by_cr (eqb b 13) refl
  where
    by_return : (bs : Bytes) → list_all is_plain bs ≡ true → is_closing (mark_of mark.Return bs) ≡ false
    by_return [] h = refl
    by_return (b ∷ bs) h = ap is_closing (return_next b bs h)

    by_cr : (t : Bool) → eqb b 13 ≡ t → is_closing (mark_of mark.Dot (b ∷ bs)) ≡ false
    by_cr true f = ap is_closing (dot_cr b bs f) ∙ by_return bs (plain_parts b bs h).1
    by_cr false f = ap is_closing (dot_other b bs f h)

closes_backslash : (bs : Bytes) → list_all is_plain bs ≡ true → is_closing (mark_of mark.Backslash bs) ≡ bytes_eq bs (46 ∷ [])
closes_backslash [] h = refl
closes_backslash (b ∷ bs) h = by_dot (eqb b 46) refl
  where
    by_dot : (t : Bool) → eqb b 46 ≡ t → is_closing (mark_of mark.Backslash (b ∷ bs)) ≡ bytes_eq (b ∷ bs) (46 ∷ [])
    by_dot true f = ap is_closing (backslash_next b bs true f) ∙ closes_dot bs (plain_parts b bs h).1 ∙ ap (λ (t : Bool). t && bytes_eq bs []) (sym f)
    by_dot false f = ap is_closing (backslash_next b bs false f) ∙ ap (λ (t : Bool). t && bytes_eq bs []) (sym f)

pub closes_unended : (raw : Bytes) → list_all is_plain raw ≡ true → is_closing (mark_of mark.Start raw) ≡ is_end_mark (content raw)
closes_unended raw h = whole raw h ∙ ap is_end_mark (sym (content_unended raw h))
  where
    whole : (bs : Bytes) → list_all is_plain bs ≡ true → is_closing (mark_of mark.Start bs) ≡ is_end_mark bs
    whole [] h = refl
    whole (b ∷ bs) h = by_backslash (eqb b 92) refl
      where
        by_backslash : (t : Bool) → eqb b 92 ≡ t → is_closing (mark_of mark.Start (b ∷ bs)) ≡ is_end_mark (b ∷ bs)
        by_backslash true f = ap is_closing (start_next b bs true f) ∙ closes_backslash bs (plain_parts b bs h).1 ∙ ap (λ (t : Bool). t && bytes_eq bs (46 ∷ [])) (sym f)
        by_backslash false f = ap is_closing (start_next b bs false f) ∙ ap (λ (t : Bool). t && bytes_eq bs (46 ∷ [])) (sym f)

-- a line with its LF

abbrev ends : EndMark → Bool
ends m = is_closing (mark_after m 10)

strip_cons : (a b : ℕ) (bs : Bytes) → strip_last 13 (a ∷ b ∷ bs) ≡ a ∷ strip_last 13 (b ∷ bs)
strip_cons a b bs = at_last (b ∷ bs) (bs_front (b ∷ bs) refl)
  where
    bs_front : (l : Bytes) → l ≡ b ∷ bs → (front : Bytes) × (last : ℕ) × (l ≡ front ++ last ∷ [])
    bs_front l e = subst (λ (v : Bytes). (front : Bytes) × (last : ℕ) × (v ≡ front ++ last ∷ [])) (sym e) (last_of b bs)
      where
        last_of : (c : ℕ) (cs : Bytes) → (front : Bytes) × (last : ℕ) × (c ∷ cs ≡ front ++ last ∷ [])
        last_of c [] = ([], c, refl)
        last_of c (d ∷ cs) = let r = last_of d cs in (c ∷ r.0, r.1, ap (λ (v : Bytes). c ∷ v) r.2)

    at_last : (l : Bytes) → ((front : Bytes) × (last : ℕ) × (l ≡ front ++ last ∷ [])) → strip_last 13 (a ∷ l) ≡ a ∷ strip_last 13 l
    at_last l s =
        ap (λ (v : Bytes). strip_last 13 (a ∷ v)) s.2 ∙ strip_pushed 13 (a ∷ s.0) s.1 ∙ moved (eqb s.1 13)
        ∙ ap (λ (v : Bytes). a ∷ v) (sym (strip_pushed 13 s.0 s.1)) ∙ ap (λ (v : Bytes). a ∷ strip_last 13 v) (sym s.2)
      where
        moved : (t : Bool) → cond t (a ∷ s.0) (a ∷ (s.0 ++ s.1 ∷ [])) ≡ a ∷ cond t s.0 (s.0 ++ s.1 ∷ [])
        moved true = refl
        moved false = refl

one_left : (b : ℕ) → strip_last 13 (b ∷ []) ≡ cond (eqb b 13) [] (b ∷ [])
one_left b = strip_pushed 13 [] b

ended_dot : (bs : Bytes) → list_all is_plain bs ≡ true → ends (mark_of mark.Dot bs) ≡ bytes_eq (strip_last 13 bs) []
ended_dot [] h = refl
ended_dot (b ∷ []) h = by_cr (eqb b 13) refl
  where
    by_cr : (t : Bool) → eqb b 13 ≡ t → ends (mark_of mark.Dot (b ∷ [])) ≡ bytes_eq (strip_last 13 (b ∷ [])) []
    by_cr true f = ap ends (dot_cr b [] f) ∙ ap (λ (l : Bytes). bytes_eq l []) (sym (one_left b ∙ ap (λ (t : Bool). cond t [] (b ∷ [])) f))
    by_cr false f = ap ends (dot_other b [] f h) ∙ ap (λ (l : Bytes). bytes_eq l []) (sym (one_left b ∙ ap (λ (t : Bool). cond t [] (b ∷ [])) f))
ended_dot (b ∷ c ∷ bs) h = by_cr (eqb b 13) refl ∙ ap (λ (l : Bytes). bytes_eq l []) (sym (strip_cons b c bs))
  where
    by_cr : (t : Bool) → eqb b 13 ≡ t → ends (mark_of mark.Dot (b ∷ c ∷ bs)) ≡ false
    by_cr true f = ap ends (dot_cr b (c ∷ bs) f ∙ return_next c bs (plain_parts b (c ∷ bs) h).1)
    by_cr false f = ap ends (dot_other b (c ∷ bs) f h)

-- a byte of the mark, which is no CR: what follows it decides
letter_ended : (k : ℕ) (ks : Bytes) (from to : EndMark) → eqb k 13 ≡ false → bytes_eq [] (k ∷ ks) ≡ false
    → ((b : ℕ) (bs : Bytes) (t : Bool) → eqb b k ≡ t → mark_of from (b ∷ bs) ≡ cond t (mark_of to bs) mark.Other)
    → ((bs : Bytes) → list_all is_plain bs ≡ true → ends (mark_of to bs) ≡ bytes_eq (strip_last 13 bs) ks)
    → (b : ℕ) (bs : Bytes) → list_all is_plain (b ∷ bs) ≡ true → ends (mark_of from (b ∷ bs)) ≡ bytes_eq (strip_last 13 (b ∷ bs)) (k ∷ ks)
letter_ended k ks from to no_cr none next others b bs h = by_letter (eqb b k) refl
  where
    kept : (bs : Bytes) → eqb b k ≡ true → strip_last 13 (b ∷ bs) ≡ b ∷ strip_last 13 bs
    kept [] f = one_left b ∙ ap (λ (t : Bool). cond t [] (b ∷ [])) (ap (λ (v : ℕ). eqb v 13) (eqb-true b k f) ∙ no_cr)
    kept (c ∷ bs) f = strip_cons b c bs

    differs : (bs : Bytes) → eqb b k ≡ false → bytes_eq (strip_last 13 (b ∷ bs)) (k ∷ ks) ≡ false
    differs [] f = ap (λ (l : Bytes). bytes_eq l (k ∷ ks)) (one_left b) ∙ by_cr (eqb b 13)
      where
        by_cr : (t : Bool) → bytes_eq (cond t [] (b ∷ [])) (k ∷ ks) ≡ false
        by_cr true = none
        by_cr false = ap (λ (t : Bool). t && bytes_eq [] ks) f
    differs (c ∷ bs) f = ap (λ (l : Bytes). bytes_eq l (k ∷ ks)) (strip_cons b c bs) ∙ ap (λ (t : Bool). t && bytes_eq (strip_last 13 (c ∷ bs)) ks) f

    by_letter : (t : Bool) → eqb b k ≡ t → ends (mark_of from (b ∷ bs)) ≡ bytes_eq (strip_last 13 (b ∷ bs)) (k ∷ ks)
    by_letter true f =
        ap ends (next b bs true f) ∙ others bs (plain_parts b bs h).1 ∙ ap (λ (t : Bool). t && bytes_eq (strip_last 13 bs) ks) (sym f)
        ∙ ap (λ (l : Bytes). bytes_eq l (k ∷ ks)) (sym (kept bs f))
    by_letter false f = ap ends (next b bs false f) ∙ sym (differs bs f)

ended_backslash : (bs : Bytes) → list_all is_plain bs ≡ true → ends (mark_of mark.Backslash bs) ≡ bytes_eq (strip_last 13 bs) (46 ∷ [])
ended_backslash [] h = refl
ended_backslash (b ∷ bs) h = letter_ended 46 [] mark.Backslash mark.Dot refl refl backslash_next ended_dot b bs h

ended_start : (bs : Bytes) → list_all is_plain bs ≡ true → ends (mark_of mark.Start bs) ≡ bytes_eq (strip_last 13 bs) (92 ∷ 46 ∷ [])
ended_start [] h = refl
ended_start (b ∷ bs) h = letter_ended 92 (46 ∷ []) mark.Start mark.Backslash refl refl start_next ended_backslash b bs h

pub closes_ended : (raw : Bytes) → list_all is_plain raw ≡ true → is_closing (mark_of mark.Start (raw ++ 10 ∷ [])) ≡ is_end_mark (content (raw ++ 10 ∷ []))
closes_ended raw h = ap is_closing (mark_of-append mark.Start raw (10 ∷ [])) ∙ ended_start raw h ∙ ap is_end_mark (sym (content_ended raw))

-- an ended line that isn't the mark is another
pub ended_other : (m : EndMark) → is_closing (mark_after m 10) ≡ false → is_other (mark_after m 10) ≡ true
ended_other mark.Start e = refl
ended_other mark.Backslash e = refl
ended_other mark.Dot e = absurd cc
ended_other mark.Return e = absurd cc
ended_other mark.Ended e = refl
ended_other mark.Other e = refl

pub closing_is_not_other : (m : EndMark) → is_closing m ≡ true → is_other m ≡ false
closing_is_not_other mark.Start e = refl
closing_is_not_other mark.Backslash e = refl
closing_is_not_other mark.Dot e = refl
closing_is_not_other mark.Return e = refl
closing_is_not_other mark.Ended e = refl
closing_is_not_other mark.Other e = absurd cc

-- a line that doesn't begin with a backslash isn't the mark
pub opens_other : (plain : Bytes) → eqb (get_or (plain ++ 10 ∷ []) 0 0) 92 ≡ false → mark_of mark.Start (plain ++ 10 ∷ []) ≡ mark.Other
opens_other [] e = refl
opens_other (b ∷ bs) e = start_next b (bs ++ 10 ∷ []) false e

-- pieces of a line

abbrev NoLf : Bytes → ℕ → Type 0
NoLf bs n = (k : ℕ) → k < n → eqb (get_or bs k 0) 10 ≡ true → ⊥

all_plain : (bs : Bytes) → NoLf bs (length bs) → list_all is_plain bs ≡ true
all_plain [] h = refl
all_plain (b ∷ bs) h = by_test (eqb b 10) refl (all_plain bs (λ k lt. h (suc k) (omega arith)))
  where
    by_test : (t : Bool) → eqb b 10 ≡ t → list_all is_plain bs ≡ true → list_all is_plain (b ∷ bs) ≡ true
    by_test true e others = absurd (h 0 (omega arith) e)
    by_test false e others = ap (λ (t : Bool). not t && list_all is_plain bs) e ∙ others

pub no_piece_end : (bs : Bytes) → ((k : ℕ) → 0 ≤ k → k < length bs → eqb (get_or bs k 0) 10 ≡ true → ⊥) → list_all is_plain (take (length bs) bs) ≡ true
no_piece_end bs h = ap (list_all is_plain) (take_all (length bs) bs (omega arith)) ∙ all_plain bs (λ k lt. h k (omega arith) lt)

front_plain : (bs : Bytes) (n : ℕ) → n ≤ length bs → NoLf bs n → list_all is_plain (take n bs) ≡ true
front_plain bs n le h = all_plain (take n bs) (λ k lt e. h k (fewer k lt) (ap (λ (v : ℕ). eqb v 10) (sym (get_or-take n bs k 0 (fewer k lt))) ∙ e))
  where
    fewer : (k : ℕ) → k < length (take n bs) → k < n
    fewer k lt = omega (arith, length-take-le n bs le)

pub piece_end : (bs : Bytes) (n : ℕ) → n < length bs → ((k : ℕ) → 0 ≤ k → k < n → eqb (get_or bs k 0) 10 ≡ true → ⊥) → eqb (get_or bs n 0) 10 ≡ true → IsPiece true (take (n + 1) bs)
piece_end bs n lt before here =
    (take n bs, rw add-one (take-suc bs n 0 lt) ∙ ap (λ (v : ℕ). take n bs ++ v ∷ []) (eqb-true (get_or bs n 0) 10 here), front_plain bs n (omega arith) (λ k l. before k (omega arith) l))
