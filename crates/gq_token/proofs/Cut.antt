-- Tokens one after the other, as a loop reads them.
use Rattle.std.proofs.Common.{◌≡◌, ℕ, zero, suc, ◌-◌, ◌+◌, ◌<◌, List, [], ◌∷◌, ◌++◌, Option, Some, None, length, refl, sym, ap, ◌∙◌, append_assoc, arith, Bool, true, false, eqb}
use Rattle.std.proofs.lemmas.Bool.{eqb-true}
use Rattle.std.proofs.lemmas.List.{append-nil}
use Rattle.gq_token.specs.declared.parse_error.ParseError.{ParseError}
use Rattle.gq_token.specs.declared.parse_error.ParseError.TheVariants as error
use Rattle.gq_token.specs.declared.token.Token.{Token}
use Rattle.gq_token.specs.Texts.{Bytes}
use Rattle.gq_token.specs.Results.{◌>>=◌, Fails}
use Rattle.gq_token.specs.Lexing.{token_at, tokens_within, skip_blanks}

abbrev pub with_front : List Token → Option (List Token) → Option (List Token)
with_front front read = read >>= λ x. Some (front ++ x)

regroup : (front : List Token) (t : Token) (read : Option (List Token)) → with_front front (read >>= λ x. Some (t ∷ x)) ≡ with_front (front ++ t ∷ []) read
regroup front t (Some x) = ap Some (simp append_assoc)
regroup front t None = refl

pub goes_on : (front : List Token) (count i : ℕ) (bs : Bytes) (t : Token) (after : Bytes) (total : Option (List Token)) → i < count → 0 < length bs → token_at bs ≡ Some (t, after)
    → with_front front (tokens_within (count - i) bs) ≡ total → with_front (front ++ t ∷ []) (tokens_within (count - (i + 1)) (skip_blanks after)) ≡ total
unfolding tokens_within
goes_on front count i [] t after total lt some h so_far = absurd (omega arith)
goes_on front count i (b ∷ bs) t after total lt some h so_far =
    let k : count - i ≡ suc (count - (i + 1)) = omega arith in
    let one : with_front front (tokens_within (count - i) (b ∷ bs)) ≡ with_front (front ++ t ∷ []) (tokens_within (count - (i + 1)) (skip_blanks after)) = rw (k, h) (regroup front t (tokens_within (count - (i + 1)) (skip_blanks after))) in
    sym one ∙ so_far

pub fails : (e : ParseError) (front : List Token) (count i : ℕ) (bs : Bytes) (total : Option (List Token)) → i < count → 0 < length bs → Fails e (token_at bs)
    → with_front front (tokens_within (count - i) bs) ≡ total → Fails e total
unfolding tokens_within
fails e front count i [] total lt some h so_far = absurd (omega arith)
fails error.Memory front count i (b ∷ bs) total lt some h so_far = tt
fails error.Syntax front count i (b ∷ bs) total lt some h so_far =
    let k : count - i ≡ suc (count - (i + 1)) = omega arith in
    let one : with_front front (tokens_within (count - i) (b ∷ bs)) ≡ None = rw (k, h) refl in
    sym so_far ∙ one

pub is_done : (front : List Token) (n : ℕ) (bs : Bytes) (total : Option (List Token)) → length bs ≡ 0 → with_front front (tokens_within n bs) ≡ total → total ≡ Some front
unfolding tokens_within
is_done front zero [] total e so_far = sym so_far ∙ ap Some (append-nil front)
is_done front (suc n) [] total e so_far = sym so_far ∙ ap Some (append-nil front)
is_done front n (b ∷ bs) total e so_far = absurd (omega arith)

pub runs_out : (front : List Token) (n : ℕ) (bs : Bytes) (total : Option (List Token)) → n ≡ 0 → 0 < length bs → with_front front (tokens_within n bs) ≡ total → total ≡ None
unfolding tokens_within
runs_out front n [] total e some so_far = absurd (omega arith)
runs_out front zero (b ∷ bs) total e some so_far = sym so_far
runs_out front (suc n) (b ∷ bs) total e some so_far = absurd (omega arith)

pub some_left : (n : ℕ) (r : Bool) → r ≡ eqb n 0 → r ≡ false → 0 < n
some_left zero r e f = absurd cc
some_left (suc n) r e f = omega arith

pub none_left : (n : ℕ) (r : Bool) → r ≡ eqb n 0 → r ≡ true → n ≡ 0
none_left zero r e f = refl
none_left (suc n) r e f = eqb-true (suc n) 0 (sym e ∙ f)
