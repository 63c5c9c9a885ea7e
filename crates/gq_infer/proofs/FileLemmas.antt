-- Files that are read record by record, where their bytes may be known.
use Rattle.std.proofs.Common.{◌≡◌, ◌∙◌, ◌++◌, ℕ, Bool, true, false, List, [], ◌∷◌, Option, Some, None, refl, sym, ap, subst}
use Rattle.std.specs.Prelude.{IfSome, option_map}
use Rattle.std.proofs.lemmas.Bool.{false≢true}
use Rattle.std.proofs.lemmas.List.{append_assoc}
use Rattle.std.proofs.lemmas.Option.{same_Some}
use Rattle.gq_csv.specs.Records.{Took}
use Rattle.gq_infer.specs.declared.seen.Seen.{Seen}
use Rattle.gq_infer.specs.Files.{records_of}
use Rattle.gq_infer.specs.Guesses.{WithFirst}
use Rattle.gq_infer.specs.Scanning.{with_record, with_records}

abbrev pub Records : Type 0
Records = List (List (List ℕ))

pub if_some : {A : Type 0} (o : Option A) (P Q : A → Type 0) → ((x : A) → P x → Q x) → IfSome o P → IfSome o Q
if_some None P Q f h = tt
if_some (Some x) P Q f h = f x h

pub both_some : {A : Type 0} (o : Option A) (P Q S : A → Type 0) → ((x : A) → P x → Q x → S x) → IfSome o P → IfSome o Q → IfSome o S
both_some None P Q S f h k = tt
both_some (Some x) P Q S f h k = f x h k

-- ---- the first record

pub no_record : (text : Option (List ℕ)) (left rest : Option Records) (found : Bool) (fields : List (List ℕ)) → IfSome text (λ file. left ≡ Some (records_of file)) → found ≡ false → Took left found fields rest
    → IfSome text (λ file. records_of file ≡ [])
no_record None left rest found fields e f h = tt
no_record (Some file) left rest found fields e f h = by (records_of file) (subst (λ o. Took o found fields rest) e h)
  where
    by : (records : Records) → Took (Some records) found fields rest → records ≡ []
    by [] k = refl
    by (first ∷ others) k = absurd (false≢true (sym f ∙ k.0))

-- a first record, and those after it
abbrev pub Begins : Option Records → List (List ℕ) → Records → Type 0
Begins rest fields records = (others : Records) × (records ≡ fields ∷ others) × (rest ≡ Some others)

pub a_record : (text : Option (List ℕ)) (left rest : Option Records) (found : Bool) (fields : List (List ℕ)) → IfSome text (λ file. left ≡ Some (records_of file)) → found ≡ true → Took left found fields rest
    → IfSome text (λ file. Begins rest fields (records_of file))
a_record None left rest found fields e f h = tt
a_record (Some file) left rest found fields e f h = by (records_of file) (subst (λ o. Took o found fields rest) e h)
  where
    by : (records : Records) → Took (Some records) found fields rest → Begins rest fields records
    by [] k = absurd (false≢true (sym k ∙ f))
    by (first ∷ others) k = (others, ap (λ fields. fields ∷ others) (sym k.1), k.2)

-- ---- the others

-- what fields are with all records is what they are with those that are left
abbrev pub Onward : List ℕ → List Seen → Option Records → List Seen → Option Records → Type 0
Onward places was all seen left = IfSome all (λ records. option_map (λ rest. with_records rest places seen) left ≡ Some (with_records records places was))

pub at_start : (places : List ℕ) (seen : List Seen) (all : Option Records) → Onward places seen all seen all
at_start places seen None = tt
at_start places seen (Some records) = refl

pub one_record : (places : List ℕ) (was seen more : List Seen) (all left rest : Option Records) (found : Bool) (fields : List (List ℕ)) → Onward places was all seen left → found ≡ true → Took left found fields rest
    → more ≡ with_record fields places seen → Onward places was all more rest
one_record places was seen more None left rest found fields h f t e = tt
one_record places was seen more (Some records) None rest found fields h f t e = let none : ⊥ = cc in absurd none
one_record places was seen more (Some records) (Some []) rest found fields h f t e = absurd (false≢true (sym t ∙ f))
one_record places was seen more (Some records) (Some (first ∷ others)) rest found fields h f t e =
    ap (option_map (λ rest. with_records rest places more)) t.2
    ∙ ap (λ s. Some (with_records others places s)) (e ∙ ap (λ fields. with_record fields places seen) t.1)
    ∙ h

pub at_end : (places : List ℕ) (was seen : List Seen) (all left rest : Option Records) (found : Bool) (fields : List (List ℕ)) → Onward places was all seen left → found ≡ false → Took left found fields rest
    → IfSome all (λ records. seen ≡ with_records records places was)
at_end places was seen None left rest found fields h f t = tt
at_end places was seen (Some records) None rest found fields h f t = let none : ⊥ = cc in absurd none
at_end places was seen (Some records) (Some []) rest found fields h f t = same_Some _ _ h
at_end places was seen (Some records) (Some (first ∷ others)) rest found fields h f t = absurd (false≢true (sym f ∙ t.0))

-- ---- the first ones

-- columns with the records that were read are these, and the others are left
abbrev pub FirstRead : List ℕ → List Seen → Option Records → List Seen → Option Records → Type 0
FirstRead places was all seen left = IfSome all (λ records. (w : WithFirst records places was seen) × (left ≡ Some w.rest))

pub none_read : (places : List ℕ) (seen : List Seen) (all : Option Records) → FirstRead places seen all seen all
none_read places seen None = tt
none_read places seen (Some records) = (record { front = []; rest = records; cut = refl; seen_is = refl }, refl)

with_records-push : (front : Records) (fields : List (List ℕ)) (places : List ℕ) (seen : List Seen) → with_record fields places (with_records front places seen) ≡ with_records (front ++ fields ∷ []) places seen
with_records-push [] fields places seen = refl
with_records-push (first ∷ front) fields places seen = with_records-push front fields places (with_record first places seen)

pub one_read : (places : List ℕ) (was seen more : List Seen) (all left rest : Option Records) (found : Bool) (fields : List (List ℕ)) → FirstRead places was all seen left → found ≡ true → Took left found fields rest
    → more ≡ with_record fields places seen → FirstRead places was all more rest
one_read places was seen more None left rest found fields h f t e = tt
one_read places was seen more (Some records) left rest found fields h f t e = by h.0.rest (refl) (subst (λ o. Took o found fields rest) h.1 t)
  where
    by : (others : Records) → h.0.rest ≡ others → Took (Some others) found fields rest → (w : WithFirst records places was more) × (rest ≡ Some w.rest)
    by [] same k = absurd (false≢true (sym k ∙ f))
    by (first ∷ others) same k = (
      record {
        front = h.0.front ++ first ∷ [];
        rest = others;
        cut = h.0.cut ∙ ap (λ r. h.0.front ++ r) same ∙ sym (append_assoc h.0.front (first ∷ []) others);
        seen_is = e ∙ ap (with_record fields places) h.0.seen_is ∙ ap (λ fs. with_record fs places (with_records h.0.front places was)) k.1 ∙ with_records-push h.0.front first places was;
      },
      k.2,
    )

pub first_read : (places : List ℕ) (was seen : List Seen) (all left : Option Records) → FirstRead places was all seen left → IfSome all (λ records. WithFirst records places was seen)
first_read places was seen None left h = tt
first_read places was seen (Some records) left h = h.0
