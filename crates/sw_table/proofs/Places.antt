-- Which places are vacant.
use Rattle.std.proofs.Common.{◌≡◌, ℕ, zero, suc, ◌%◌, ◌<◌, List, [], ◌∷◌, length, replicate, get_or, slice_index, Option, is_some, Some, None, refl, sym, ap, ◌∙◌, subst, arith, set, IsSome, ◌≢◌, ◌⊎◌, inl, inr, get_or-set_other, length-set}
use Rattle.std.proofs.lemmas.Bool.{cases_eq}
use Rattle.std.proofs.lemmas.Grind.{get_or-set_at}
use Rattle.sw_table.specs.LaidOut.{IsTable, Reached}

pub none_or : {X : Type 0} (o : Option X) → ((x : X) → o ≡ Some x → ⊥) → o ≡ None
none_or None h = refl
none_or (Some x) h = absurd (h x refl)

pub all_vacant : {X : Type 0} (ps : List (Option X)) → ((i : ℕ) → i < length ps → get_or ps i None ≡ None) → ps ≡ replicate (length ps) None
all_vacant [] h = refl
all_vacant (p ∷ ps) h = (λ i. h 0 (omega arith) i ∷ all_vacant ps (λ k lt. h (suc k) (omega arith)) i)

pub all_alike : (bs : List ℕ) (b : ℕ) → ((i : ℕ) → i < length bs → slice_index bs i ≡ b) → bs ≡ replicate (length bs) b
all_alike [] b h = refl
all_alike (x ∷ bs) b h = (λ i. h 0 (omega arith) i ∷ all_alike bs b (λ k lt. h (suc k) (omega arith)) i)

pub some_is : {X : Type 0} {x y : X} → Some x ≡ Some y → x ≡ y
some_is {X} {x} e = ap (λ (o : Option X). or_else o) e
  where
    or_else : Option X → X
    or_else None = x
    or_else (Some z) = z

pub some_within : {X : Type 0} (cs : List (Option X)) (i : ℕ) (x : X) → get_or cs i None ≡ Some x → i < length cs
some_within [] i x e = cc
some_within (c ∷ cs) zero x e = omega arith
some_within (c ∷ cs) (suc i) x e = omega (arith, some_within cs i x e)

pub some_not_none : {X : Type 0} (x : X) → Some x ≡ None → ⊥
some_not_none x e = cc

pub which : (j i : ℕ) → (j ≡ i) ⊎ (j ≢ i)
which = cases_eq

module _ {K V : Type 0} (ps : List (Option (K × V))) (i : ℕ) (p : K × V) (there : get_or ps i None ≡ Some p) (q : K × V) where
  -- what is at a place once another entry is at i
  stands : (j : ℕ) (r : K × V) → get_or (set ps i (Some q)) j None ≡ Some r → ((j ≡ i) × (q ≡ r)) ⊎ ((j ≢ i) × (get_or ps j None ≡ Some r))
  stands j r e = elim (which j i) [
    | inl here ↦ inl (here, some_is (sym (get_or-set_at ps i j (Some q) None here (some_within ps i p there)) ∙ e))
    | inr other ↦ inr (other, sym (get_or-set_other ps i j (Some q) None other) ∙ e)
  ]

  still_filled : (j : ℕ) → IsSome (get_or ps j None) → IsSome (get_or (set ps i (Some q)) j None)
  still_filled j f = elim (which j i) [
    | inl here ↦ ap is_some (get_or-set_at ps i j (Some q) None here (some_within ps i p there))
    | inr other ↦ ap is_some (get_or-set_other ps i j (Some q) None other) ∙ f
  ]

  module _ (class : K → List ℕ) (hash : List ℕ → ℕ) (bs : List ℕ) (len used : ℕ) (it : IsTable class hash ps bs len used) where
    -- its key has the hash of the one that was there, and no other entry is of its class
    pub IsTable-changed : hash (class q.0) ≡ hash (class p.0) → ((j : ℕ) (r : K × V) → j ≢ i → get_or ps j None ≡ Some r → class q.0 ≡ class r.0 → ⊥) → IsTable class hash (set ps i (Some q)) bs len used
    IsTable-changed alike alone = let t = it.laid in record {
      laid = record {
        size = (length-set ps i (Some q) ∙ t.size.0, t.size.1);
        control = t.control;
        full = λ j lt b. still_filled j (t.full j lt b);
        vacant = λ j high. elim (which j i) [
          | inl here ↦ absurd (some_not_none p (sym there ∙ ap (λ k. get_or ps k None) (sym here) ∙ t.vacant j high))
          | inr other ↦ get_or-set_other ps i j (Some q) None other ∙ t.vacant j high
        ];
        h2 = λ j r e. elim (stands j r e) [
          | inl here ↦ ap (slice_index bs) here.0 ∙ t.h2 i p there ∙ ap (λ h. h % 128) (sym alike ∙ ap (λ (x : K × V). hash (class x.0)) here.1)
          | inr other ↦ t.h2 j r other.1
        ];
        chain = λ j r e. elim (stands j r e) [
          | inl here ↦ subst (λ k. Reached bs (hash (class r.0)) k) (sym here.0) (subst (λ h. Reached bs h i) (sym alike ∙ ap (λ (x : K × V). hash (class x.0)) here.1) (t.chain i p there))
          | inr other ↦ t.chain j r other.1
        ];
        apart = λ j k r s e f one. elim (stands j r e) [
          | inl a ↦ elim (stands k s f) [
            | inl b ↦ a.0 ∙ sym b.0
            | inr b ↦ absurd (alone k s b.0 b.1 (ap (λ (x : K × V). class x.0) a.1 ∙ one))
          ]
          | inr a ↦ elim (stands k s f) [
            | inl b ↦ absurd (alone j r a.0 a.1 (ap (λ (x : K × V). class x.0) b.1 ∙ sym one))
            | inr b ↦ t.apart j k r s a.1 b.1 one
          ]
        ];
        load = t.load;
      };
      full_is = it.full_is;
      used_is = it.used_is;
    }

-- another value changes no key
pub IsTable-revalued : {K V : Type 0} (ps : List (Option (K × V))) (i : ℕ) (p : K × V) (there : get_or ps i None ≡ Some p) (w : V) (class : K → List ℕ) (hash : List ℕ → ℕ) (bs : List ℕ) (len used : ℕ)
    → IsTable class hash ps bs len used → IsTable class hash (set ps i (Some (p.0, w))) bs len used
IsTable-revalued ps i p there w class hash bs len used it =
    IsTable-changed ps i p there (p.0, w) class hash bs len used it refl (λ j r other at alike. other (it.laid.apart j i r p at there (sym alike)))
