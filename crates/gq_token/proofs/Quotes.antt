-- Text between quotes, piece by piece.
use Rattle.std.proofs.Common.{◌≡◌, ◌≢◌, ℕ, suc, ◌+◌, ◌<◌, false, eqb, [], ◌∷◌, ◌++◌, Option, Some, None, length, length-append, get_or, drop, IsUtf8, subst, refl, sym, ap, ◌∙◌, append_assoc, arith, eq-eqb}
use Rattle.std.proofs.lemmas.Bool.{ne_eqb}
use Rattle.std.proofs.lemmas.Str.{IsCharBoundary-after_ascii, IsUtf8-drop}
use Rattle.gq_token.specs.Texts.{Bytes}
use Rattle.gq_token.specs.Results.{◌>>=◌}
use Rattle.gq_token.specs.Lexing.{quoted, with_byte}

-- what was read before, and what is still read
abbrev pub with_front : Bytes → Option (Bytes × Bytes) → Option (Bytes × Bytes)
with_front front read = read >>= λ x. Some (front ++ x.0, x.1)

-- a byte that is no quote
step : (q b : ℕ) (rest : Bytes) → b ≢ q → quoted q (b ∷ rest) ≡ with_byte b (quoted q rest)
step q b [] ne = rw (ne_eqb b q ne) refl
step q b (c ∷ rest) ne = rw (ne_eqb b q ne) refl

no_quote_after : (q b : ℕ) (bs : Bytes) → ((i : ℕ) → i < length (b ∷ bs) → get_or (b ∷ bs) i 0 ≢ q) → (i : ℕ) → i < length bs → get_or bs i 0 ≢ q
no_quote_after q b bs h i lt = h (suc i) (omega arith)

pub never_closed : (q : ℕ) (bs : Bytes) → ((i : ℕ) → i < length bs → get_or bs i 0 ≢ q) → quoted q bs ≡ None
never_closed q [] h = refl
never_closed q (b ∷ bs) h = step q b bs (h 0 (omega arith)) ∙ ap (with_byte b) (never_closed q bs (no_quote_after q b bs h))

pub closed : (q : ℕ) (piece after : Bytes) → ((i : ℕ) → i < length piece → get_or piece i 0 ≢ q) → ((rest : Bytes) → after ≡ q ∷ rest → ⊥) → quoted q (piece ++ (q ∷ after)) ≡ Some (piece, after)
closed q [] [] h ne = rw (eq-eqb q q refl) refl
closed q [] (c ∷ after) h ne =
    let other : eqb c q ≡ false = ne_eqb c q (λ e. ne after (ap (λ x. x ∷ after) e)) in
    rw (eq-eqb q q refl, other) refl
closed q (b ∷ piece) after h ne = step q b (piece ++ (q ∷ after)) (h 0 (omega arith)) ∙ ap (with_byte b) (closed q piece after (no_quote_after q b piece h) ne)

push_front : (b : ℕ) (front : Bytes) (read : Option (Bytes × Bytes)) → with_byte b (with_front front read) ≡ with_front (b ∷ front) read
push_front b front (Some x) = refl
push_front b front None = refl

pub doubled : (q : ℕ) (piece next : Bytes) → ((i : ℕ) → i < length piece → get_or piece i 0 ≢ q) → quoted q (piece ++ (q ∷ q ∷ next)) ≡ with_front (piece ++ (q ∷ [])) (quoted q next)
doubled q [] next h = rw (eq-eqb q q refl) refl
doubled q (b ∷ piece) next h = step q b (piece ++ (q ∷ q ∷ next)) (h 0 (omega arith)) ∙ ap (with_byte b) (doubled q piece next (no_quote_after q b piece h)) ∙ push_front b (piece ++ (q ∷ [])) (quoted q next)

pub more_front : (a b : Bytes) (read : Option (Bytes × Bytes)) → with_front a (with_front b read) ≡ with_front (a ++ b) read
more_front a b (Some x) = ap (λ bs. Some (bs, x.1)) (sym (append_assoc a b x.0))
more_front a b None = refl

at_seam : (piece after : Bytes) (q : ℕ) → get_or (piece ++ (q ∷ after)) (length piece) 0 ≡ q
at_seam [] after q = refl
at_seam (b ∷ piece) after q = at_seam piece after q

behind_seam : (piece after : Bytes) (q : ℕ) → drop (length piece + 1) (piece ++ (q ∷ after)) ≡ after
behind_seam [] after q = refl
behind_seam (b ∷ piece) after q = let e : suc (length piece) + 1 ≡ suc (length piece + 1) = omega arith in rw e (behind_seam piece after q)

-- what follows an ASCII byte of a text is a text
pub utf8_behind : (q : ℕ) (piece after : Bytes) → q < 128 → IsUtf8 (piece ++ (q ∷ after)) → IsUtf8 after
utf8_behind q piece after small u =
    let bs = piece ++ (q ∷ after) in
    let here : get_or bs (length piece) 0 ≡ q = at_seam piece after q in
    let lt : length piece < length bs = omega (arith, length-append piece (q ∷ after)) in
    let ascii : get_or bs (length piece) 0 < 128 = omega (arith, here) in
    let cut = IsUtf8-drop bs (length piece + 1) u (IsCharBoundary-after_ascii bs (length piece) u lt ascii) in
    subst IsUtf8 (behind_seam piece after q) cut
