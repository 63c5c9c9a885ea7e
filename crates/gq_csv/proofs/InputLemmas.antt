-- The known bytes of an input.
use Rattle.std.proofs.Common.{◌≡◌, ◌∙◌, ℕ, ◌+◌, ◌<◌, ◌≤◌, List, [], ◌∷◌, ◌++◌, length, get_or, take, drop, Option, Some, None, true, false, if◌then◌else◌, refl, sym, ap, subst, arith, append_assoc, append-nil, length-append}
use Rattle.std.proofs.lemmas.List.{drop_all, take_all}
use Rattle.std.proofs.Math.Seq.{take-add}
use Rattle.std.specs.Io.KnownBytes.{Consumes, IsAtEnd, Keeps, prepend_known}
use Rattle.std.specs.Prelude.{option_map}
use Rattle.csv.specs.Reading.{is_bom, strip_bom}

keeps_more : (ahead bytes : List ℕ) (old new : Option (List ℕ)) → Consumes old new bytes → Keeps (prepend_known ahead old) (prepend_known (ahead ++ bytes) new)
keeps_more ahead bytes None new h = tt
keeps_more ahead bytes (Some xs) None h = absurd h
keeps_more ahead bytes (Some xs) (Some ys) h = append_assoc ahead bytes ys ∙ ap (λ l. ahead ++ l) (sym h)

-- the bytes that were read ahead, moved to the front, and those that were read after them
pub refilled : (old new : Option (List ℕ)) (ahead buffer : List ℕ) (held count size : ℕ) → size ≡ held + count → take held buffer ≡ ahead
    → Consumes old new (take count (drop held buffer)) → Keeps (prepend_known ahead old) (prepend_known (take size buffer) new)
refilled old new ahead buffer held count size s front h =
    let all : take size buffer ≡ ahead ++ take count (drop held buffer) =
    ap (λ n. take n buffer) s ∙ take-add held count buffer ∙ ap (λ l. l ++ take count (drop held buffer)) front in
    subst (λ l. Keeps (prepend_known ahead old) (prepend_known l new)) (sym all) (keeps_more ahead (take count (drop held buffer)) old new h)

-- an input without bytes ahead, of a source at its end
pub at_end : (all after : Option (List ℕ)) (ahead : List ℕ) → ahead ≡ [] → IsAtEnd after → Keeps all (prepend_known ahead after) → IsAtEnd all
at_end None after ahead e end k = tt
at_end (Some xs) None ahead e end k = absurd k
at_end (Some xs) (Some ys) ahead e end k = sym k ∙ ap (λ l. l ++ ys) e ∙ end

-- its first byte
pub first_byte : (all after : Option (List ℕ)) (ahead : List ℕ) → 0 < length ahead → Keeps all (prepend_known ahead after) → Consumes all (prepend_known (drop 1 ahead) after) (get_or ahead 0 0 ∷ [])
first_byte None after ahead some k = tt
first_byte (Some xs) None ahead some k = k
first_byte (Some xs) (Some ys) [] some k = absurd (omega (arith, some))
first_byte (Some xs) (Some ys) (b ∷ rest) some k = sym k

-- ---- the byte-order mark

strip_short : (xs : List ℕ) → length xs < 3 → strip_bom xs ≡ xs
unfolding strip_bom
strip_short [] lt = refl
strip_short (a ∷ []) lt = refl
strip_short (a ∷ b ∷ []) lt = refl
strip_short (a ∷ b ∷ c ∷ rest) lt = absurd (omega (arith, lt))

pub short_text : (all after : Option (List ℕ)) (ahead : List ℕ) → length ahead < 3 → IsAtEnd after → Keeps all (prepend_known ahead after) → Keeps (option_map strip_bom all) (prepend_known ahead after)
short_text None after ahead lt end k = tt
short_text (Some xs) None ahead lt end k = k
short_text (Some xs) (Some ys) ahead lt end k =
    let size : length xs < 3 = omega (arith, ap length k, length-append ahead ys, ap length end, lt) in
    k ∙ sym (strip_short xs size)

strip_none : (xs ys : List ℕ) → 3 ≤ length xs → is_bom (get_or xs 0 0) (get_or xs 1 0) (get_or xs 2 0) ≡ false → strip_bom (xs ++ ys) ≡ xs ++ ys
unfolding strip_bom
strip_none [] ys le e = absurd (omega (arith, le))
strip_none (a ∷ []) ys le e = absurd (omega (arith, le))
strip_none (a ∷ b ∷ []) ys le e = absurd (omega (arith, le))
strip_none (a ∷ b ∷ c ∷ rest) ys le e = ap (λ t. if t then rest ++ ys else a ∷ b ∷ c ∷ (rest ++ ys)) e

strip_mark : (xs ys : List ℕ) → 3 ≤ length xs → is_bom (get_or xs 0 0) (get_or xs 1 0) (get_or xs 2 0) ≡ true → strip_bom (xs ++ ys) ≡ drop 3 xs ++ ys
unfolding strip_bom
strip_mark [] ys le e = absurd (omega (arith, le))
strip_mark (a ∷ []) ys le e = absurd (omega (arith, le))
strip_mark (a ∷ b ∷ []) ys le e = absurd (omega (arith, le))
strip_mark (a ∷ b ∷ c ∷ rest) ys le e = ap (λ t. if t then rest ++ ys else a ∷ b ∷ c ∷ (rest ++ ys)) e

module _ (all after : Option (List ℕ)) (ahead : List ℕ) (enough : 3 ≤ length ahead) where
  pub no_mark : is_bom (get_or ahead 0 0) (get_or ahead 1 0) (get_or ahead 2 0) ≡ false → Keeps all (prepend_known ahead after) → Keeps (option_map strip_bom all) (prepend_known ahead after)
  no_mark e = by all after
    where
      by : (all after : Option (List ℕ)) → Keeps all (prepend_known ahead after) → Keeps (option_map strip_bom all) (prepend_known ahead after)
      by None after k = tt
      by (Some xs) None k = k
      by (Some xs) (Some ys) k = sym (strip_none ahead ys enough e) ∙ ap strip_bom k

  pub the_mark : is_bom (get_or ahead 0 0) (get_or ahead 1 0) (get_or ahead 2 0) ≡ true → Keeps all (prepend_known ahead after) → Keeps (option_map strip_bom all) (prepend_known (drop 3 ahead) after)
  the_mark e = by all after
    where
      by : (all after : Option (List ℕ)) → Keeps all (prepend_known ahead after) → Keeps (option_map strip_bom all) (prepend_known (drop 3 ahead) after)
      by None after k = tt
      by (Some xs) None k = k
      by (Some xs) (Some ys) k = sym (strip_mark ahead ys enough e) ∙ ap strip_bom k

pub keeps_trans : (a b c : Option (List ℕ)) → Keeps a b → Keeps b c → Keeps a c
keeps_trans None b c h k = tt
keeps_trans (Some xs) None c h k = absurd h
keeps_trans (Some xs) (Some ys) None h k = k
keeps_trans (Some xs) (Some ys) (Some zs) h k = k ∙ h

-- what a buffer holds after all its bytes were borrowed
pub whole_buffer : (old new : List ℕ) (n : ℕ) → n ≡ length old → length new ≡ length old → take n (new ++ drop (length new) old) ≡ new
whole_buffer old new n e long = ap (λ l. take n (new ++ l)) (drop_all (length new) old (omega arith)) ∙ ap (take n) (append-nil new) ∙ take_all n new (omega arith)
