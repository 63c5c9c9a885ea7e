-- Names in headers.
use Rattle.std.proofs.Common.{◌≡◌, ◌∙◌, ◌+◌, ◌<◌, ◌≤◌, ◌⊎◌, inl, inr, ℕ, zero, suc, Bool, true, false, List, [], ◌∷◌, ◌++◌, length, take, get_or, bytes_eq, Some, None, refl, sym, ap, arith}
use Rattle.std.specs.Prelude.{◌||◌, nat_lt}
use Rattle.std.specs.List.{list_all, list_any, position_or_len}
use Rattle.std.specs.Str.{IsUtf8, is_utf8}
use Rattle.std.proofs.lemmas.List.{take_more}
use Rattle.std.proofs.lemmas.List.Folds.{list_all_at, list_all_more}
use Rattle.std.proofs.lemmas.Str.{IsUtf8-from_is_utf8, is_utf8-from_IsUtf8}
use Rattle.std.proofs.lemmas.Bool.Decides.{nat_tests}
use Rattle.std.proofs.lemmas.List.Sums.{position_or_len_is}
use Rattle.csv.specs.Records.{field_at}
use Rattle.gq_row.specs.declared.limits.Bounds.{Bounds}
use Rattle.gq_infer.specs.declared.fault.InferFault.TheVariants.{Header, Limit, Memory}
use Rattle.gq_infer.specs.declared.fault.InferFault.{InferFault}
use Rattle.gq_infer.specs.Files.{are_names, can_name, names_fault, place_of}

-- a field by its place, where it has one
pub field_or : (fields : List (List ℕ)) (i : ℕ) → elim (field_at fields i) [ None ↦ [] | Some f ↦ f ] ≡ get_or fields i []
unfolding field_at
field_or [] i = refl
field_or (f ∷ fields) zero = refl
field_or (f ∷ fields) (suc i) = field_or fields i

-- an element passes exactly where its first place is one
pub any_by_place : (p : List ℕ → Bool) (xs : List (List ℕ)) → nat_lt (position_or_len p xs) (length xs) ≡ list_any p xs
any_by_place p [] = refl
any_by_place p (x ∷ xs) = by (p x) refl (any_by_place p xs)
  where
    by : (b : Bool) → p x ≡ b → nat_lt (position_or_len p xs) (length xs) ≡ list_any p xs → nat_lt (position_or_len p (x ∷ xs)) (length (x ∷ xs)) ≡ b || list_any p xs
    by true e again = rw e (grind (arith, nat_tests))
    by false e again = rw (e, ← again) (grind (arith, nat_tests))

-- the faults of names

pub too_many : (bounds : Bounds) (names : List (List ℕ)) → bounds.columns < length names → names_fault bounds names ≡ Some Limit
unfolding names_fault
too_many bounds names h =
    let over : nat_lt bounds.columns (length names) ≡ true = grind (arith, nat_tests) in
    rw over refl

pub no_names : (bounds : Bounds) (names : List (List ℕ)) → length names ≤ bounds.columns → are_names names ≡ false → names_fault bounds names ≡ Some Header
unfolding names_fault
no_names bounds names h e =
    let within : nat_lt bounds.columns (length names) ≡ false = grind (arith, nat_tests) in
    rw (within, e) refl

pub too_long : (bounds : Bounds) (names : List (List ℕ)) → length names ≤ bounds.columns → are_names names ≡ true → list_any (λ name. nat_lt bounds.name (length name)) names ≡ true → names_fault bounds names ≡ Some Limit
unfolding names_fault
too_long bounds names h e long =
    let within : nat_lt bounds.columns (length names) ≡ false = grind (arith, nat_tests) in
    rw (within, e, long) refl

pub no_fault : (bounds : Bounds) (names : List (List ℕ)) → length names ≤ bounds.columns → are_names names ≡ true → list_any (λ name. nat_lt bounds.name (length name)) names ≡ false → names_fault bounds names ≡ None
unfolding names_fault
no_fault bounds names h e short =
    let within : nat_lt bounds.columns (length names) ≡ false = grind (arith, nat_tests) in
    rw (within, e, short) refl

-- why texts were refused
pub refused_texts : (bounds : Bounds) (names : List (List ℕ)) (why : InferFault) → length names ≤ bounds.columns → (why ≡ Memory) ⊎ ((why ≡ Header) × (list_all is_utf8 names ≡ false))
    → (why ≡ Memory) ⊎ (names_fault bounds names ≡ Some why)
refused_texts bounds names why h (inl m) = inl m
refused_texts bounds names why h (inr (e, u)) = inr (no_names bounds names h (rw u refl) ∙ ap Some (sym e))

pub text_names : (names : List (List ℕ)) (b : Bool) → list_all is_utf8 names ≡ true → can_name names ≡ b → are_names names ≡ b
text_names names b u e = rw u e

-- the first place of a name, or none
pub first_place : (fields : List (List ℕ)) (name : List ℕ) (i : ℕ) → i ≤ length fields → ((k : ℕ) → k < i → bytes_eq (get_or fields k []) name ≡ false)
    → (i < length fields → bytes_eq (get_or fields i []) name ≡ true) → i ≡ place_of fields name
first_place fields name i h before at = sym (position_or_len_is (λ field. bytes_eq field name) fields i [] h before at)

-- fields as texts

no_text : (bytes : List ℕ) → ¬ (IsUtf8 bytes) → (b : Bool) → is_utf8 bytes ≡ b → is_utf8 bytes ≡ false
no_text bytes bad true e = absurd (bad (IsUtf8-from_is_utf8 bytes e))
no_text bytes bad false e = e

pub one_bad : (fields : List (List ℕ)) (i : ℕ) → i < length fields → ¬ (IsUtf8 (get_or fields i [])) → list_all is_utf8 fields ≡ false
one_bad fields i h bad = list_all_at is_utf8 fields i [] h (no_text (get_or fields i []) bad (is_utf8 (get_or fields i [])) refl)

pub one_more : (fields texts pushed : List (List ℕ)) (i : ℕ) (text : List ℕ) → i < length fields → texts ≡ take i fields → pushed ≡ texts ++ text ∷ [] → text ≡ get_or fields i [] → pushed ≡ take (i + 1) fields
one_more fields texts pushed i text h e p t = p ∙ rw (e, t) (sym (take_more fields i [] h))

pub all_more : (fields : List (List ℕ)) (i : ℕ) → i < length fields → list_all is_utf8 (take i fields) ≡ true → IsUtf8 (get_or fields i []) → list_all is_utf8 (take (i + 1) fields) ≡ true
all_more fields i h all good = list_all_more is_utf8 fields i [] h ∙ rw (all, is_utf8-from_IsUtf8 (get_or fields i []) good) refl
