-- Names without repeats, as a set of those seen finds them.
use Rattle.std.proofs.Common.{◌≡◌, ℕ, Bool, true, false, cond, List, [], ◌∷◌, ◌++◌, refl, sym, ap, ◌∙◌}
use Rattle.std.proofs.lemmas.List.Folds.{list_any-append}
use Rattle.std.proofs.lemmas.Map.Text.{is_eq-slice_cmp}
use Rattle.std.proofs.lemmas.Slice.Eq.{bytes_eq-Decides}
use Rattle.std.specs.BTreeSet.{BTreeSet, contains, Updates}
use Rattle.std.specs.Cmp.Lexicographic.{slice_cmp}
use Rattle.std.specs.List.{list_any}
use Rattle.std.specs.Ordering.{nat_cmp, is_eq}
use Rattle.std.specs.Prelude.{not, ◌&&◌, ◌||◌, bytes_eq}
use Rattle.std.specs.declared.cmp.Ordering.{Ordering}
use Rattle.gq_row.specs.Repeats.{no_repeats}
use Rattle.gq_command.specs.Commands.{Bytes}
use denote.Ref.{Bor}

abbrev pub str_cmp : Bor (List ℕ) → Bor (List ℕ) → Ordering
str_cmp x y = slice_cmp nat_cmp x.now y.now

-- the set has these names and no others
abbrev pub Seen : BTreeSet (Bor (List ℕ)) → List Bytes → Type 0
Seen s ns = (q : Bor (List ℕ)) → contains str_cmp s q ≡ list_any (bytes_eq q.now) ns

both_ways : (a b : Bool) → (a ≡ true → b ≡ true) → (b ≡ true → a ≡ true) → a ≡ b
both_ways true b f g = sym (f refl)
both_ways false true f g = g refl
both_ways false false f g = refl

bytes_sym : (a b : Bytes) → bytes_eq a b ≡ bytes_eq b a
bytes_sym a b = both_ways (bytes_eq a b) (bytes_eq b a)
    (λ e. (bytes_eq-Decides b a).1 (sym ((bytes_eq-Decides a b).0 e)))
    (λ e. (bytes_eq-Decides a b).1 (sym ((bytes_eq-Decides b a).0 e)))

or_last : (a b : Bool) → cond a true b ≡ b || (a || false)
or_last true true = refl
or_last true false = refl
or_last false true = refl
or_last false false = refl

pub more : (s n : BTreeSet (Bor (List ℕ))) (k : Bor (List ℕ)) (ns : List Bytes) → Seen s ns → Updates str_cmp s n k true → Seen n (ns ++ k.now ∷ [])
more s n k ns seen up = λ q.
    let e : is_eq (slice_cmp nat_cmp k.now q.now) ≡ bytes_eq q.now k.now = is_eq-slice_cmp k.now q.now ∙ bytes_sym k.now q.now in
    up.0 q ∙ ap (λ (b : Bool). cond b true (contains str_cmp s q)) e ∙ ap (λ (b : Bool). cond (bytes_eq q.now k.now) true b) (seen q)
    ∙ or_last (bytes_eq q.now k.now) (list_any (bytes_eq q.now) ns) ∙ sym (list_any-append (bytes_eq q.now) ns (k.now ∷ []))

regroup : (a b c d : Bool) → not (a || (b || false)) && (c && not d) ≡ (not a && c) && not (b || d)
regroup true b c d = refl
regroup false true true d = refl
regroup false true false d = refl
regroup false false true d = refl
regroup false false false d = refl

-- a name after others
push : (ns : List Bytes) (n : Bytes) → no_repeats bytes_eq (ns ++ n ∷ []) ≡ no_repeats bytes_eq ns && not (list_any (bytes_eq n) ns)
push [] n = refl
push (x ∷ ns) n =
    ap (λ (b : Bool). not b && no_repeats bytes_eq (ns ++ n ∷ [])) (list_any-append (bytes_eq x) ns (n ∷ []))
    ∙ ap (λ (b : Bool). not (list_any (bytes_eq x) ns || (bytes_eq x n || false)) && b) (push ns n)
    ∙ regroup (list_any (bytes_eq x) ns) (bytes_eq x n) (no_repeats bytes_eq ns) (list_any (bytes_eq n) ns)
    ∙ ap (λ (b : Bool). (not (list_any (bytes_eq x) ns) && no_repeats bytes_eq ns) && not (b || list_any (bytes_eq n) ns)) (bytes_sym x n)

-- names that repeat still do before others
before : (ns rest : List Bytes) → no_repeats bytes_eq ns ≡ false → no_repeats bytes_eq (ns ++ rest) ≡ false
before [] rest e = absurd cc
before (n ∷ ns) rest e = by_found (list_any (bytes_eq n) ns) refl e (before ns rest)
  where
    by_found : (b : Bool) → list_any (bytes_eq n) ns ≡ b → not b && no_repeats bytes_eq ns ≡ false → (no_repeats bytes_eq ns ≡ false → no_repeats bytes_eq (ns ++ rest) ≡ false) → no_repeats bytes_eq (n ∷ (ns ++ rest)) ≡ false
    by_found true f g next = ap (λ (b : Bool). not b && no_repeats bytes_eq (ns ++ rest)) (list_any-append (bytes_eq n) ns rest ∙ ap (λ (b : Bool). b || list_any (bytes_eq n) rest) f)
    by_found false f g next = ap (λ (b : Bool). not (list_any (bytes_eq n) (ns ++ rest)) && b) (next g) ∙ and_false (not (list_any (bytes_eq n) (ns ++ rest)))
      where
        and_false : (b : Bool) → b && false ≡ false
        and_false true = refl
        and_false false = refl

given : (added b : Bool) → added ≡ not b → b ≡ not added
given added true e = sym (ap not e)
given added false e = sym (ap not e)

pub repeats : (s : BTreeSet (Bor (List ℕ))) (k : Bor (List ℕ)) (ns rest : List Bytes) (added : Bool) → Seen s ns → added ≡ not (contains str_cmp s k) → added ≡ false → no_repeats bytes_eq ((ns ++ k.now ∷ []) ++ rest) ≡ false
repeats s k ns rest added seen is none =
    let found : list_any (bytes_eq k.now) ns ≡ true = sym (seen k) ∙ given added (contains str_cmp s k) is ∙ ap not none in
    before (ns ++ k.now ∷ []) rest (push ns k.now ∙ ap (λ (b : Bool). no_repeats bytes_eq ns && not b) found ∙ and_false (no_repeats bytes_eq ns))
  where
    and_false : (b : Bool) → b && false ≡ false
    and_false true = refl
    and_false false = refl

pub differs : (s : BTreeSet (Bor (List ℕ))) (k : Bor (List ℕ)) (ns : List Bytes) (added : Bool) → Seen s ns → added ≡ not (contains str_cmp s k) → added ≡ true → no_repeats bytes_eq ns ≡ true → no_repeats bytes_eq (ns ++ k.now ∷ []) ≡ true
differs s k ns added seen is new so_far =
    let none : list_any (bytes_eq k.now) ns ≡ false = sym (seen k) ∙ given added (contains str_cmp s k) is ∙ ap not new in
    push ns k.now ∙ ap (λ (b : Bool). no_repeats bytes_eq ns && not b) none ∙ ap (λ (b : Bool). b && true) so_far
