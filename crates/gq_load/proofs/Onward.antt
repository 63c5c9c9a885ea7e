-- Data records, from the first to the last.
use Rattle.std.proofs.Common.{◌≡◌, ◌∙◌, ◌+◌, ◌++◌, ◌<◌, ◌⊎◌, inl, inr, ℕ, zero, suc, true, false, List, [], ◌∷◌, length, get_or, eqb, Option, None, Some, Result, Ok, Err, refl, sym, ap, subst, arith}
use Rattle.std.specs.Prelude.{IfOk, IfSome, option_map, nat_lt}
use Rattle.std.specs.List.{list_all}
use Rattle.std.proofs.lemmas.Option.{same_Some}
use Rattle.std.proofs.lemmas.Bool.Decides.{nat_tests}
use Rattle.std.proofs.lemmas.List.{append_assoc, append-nil}
use Rattle.gq_row.specs.declared.value.Value.{Value}
use Rattle.gq_row.specs.Schemas.{PlainSchema}
use Rattle.gq_load.specs.declared.load_refusal.LoadRefusal.{LoadRefusal}
use Rattle.gq_load.specs.Answers.{◌>>=◌, Gives}
use Rattle.gq_load.specs.declared.load_refusal.LoadRefusal.TheVariants.{FieldCount, Memory, NullKey}
use Rattle.gq_load.specs.Payloads.{row_of, rows_from, cells_of, keyed}
use Rattle.gq_row.specs.Fitting.{has_null as no_key}
use Rattle.gq_load.specs.Coming.{Faulted, IsFaultOf, refusal_in}
use Rattle.gq_load.specs.declared.row_fault.RowFault.{RowFault}
use Rattle.gq_load.specs.declared.row_fault.RowFault.TheVariants as row_fault
use Rattle.gq_load.proofs.Places.{both}

-- rows with others before them
abbrev pub with_front : List (List Value) → Result (List (List Value)) LoadRefusal → Result (List (List Value)) LoadRefusal
with_front front read = read >>= λ rows. Ok (front ++ rows)

pub no_front : (read : Result (List (List Value)) LoadRefusal) → with_front [] read ≡ read
no_front (Ok rows) = refl
no_front (Err e) = refl

pub row_more : (schema : PlainSchema) (most : ℕ) (places : List ℕ) (number : ℕ) (front : List (List Value)) (fields : List (List ℕ)) (others : List (List (List ℕ))) (row : List Value)
    → row_of schema most places number fields ≡ Ok row
    → with_front front (rows_from schema most places number (fields ∷ others)) ≡ with_front (front ++ row ∷ []) (rows_from schema most places (number + 1) others)
unfolding rows_from
row_more schema most places number front fields others row e = rw e (by_rest (rows_from schema most places (number + 1) others))
  where
    by_rest : (r : Result (List (List Value)) LoadRefusal) → with_front front (r >>= λ rows. Ok (row ∷ rows)) ≡ with_front (front ++ row ∷ []) r
    by_rest (Ok rows) = ap Ok (sym (append_assoc front (row ∷ []) rows))
    by_rest (Err f) = refl

pub row_bad : (schema : PlainSchema) (most : ℕ) (places : List ℕ) (number : ℕ) (front : List (List Value)) (fields : List (List ℕ)) (others : List (List (List ℕ))) (fault : LoadRefusal)
    → row_of schema most places number fields ≡ Err fault
    → with_front front (rows_from schema most places number (fields ∷ others)) ≡ Err fault
unfolding rows_from
row_bad schema most places number front fields others fault e = rw e refl

pub row_none : (schema : PlainSchema) (most : ℕ) (places : List ℕ) (number : ℕ) (front : List (List Value)) → with_front front (rows_from schema most places number []) ≡ Ok front
unfolding rows_from
row_none schema most places number front = ap Ok (append-nil front)

-- a fault that is passed on
pub carried : {A B : Type 0} (e : LoadRefusal) (x : Result A LoadRefusal) (y : Result B LoadRefusal) → (x ≡ Err e → y ≡ Err e) → (e ≡ Memory) ⊎ (x ≡ Err e) → (e ≡ Memory) ⊎ (y ≡ Err e)
carried e x y f (inl m) = inl m
carried e x y f (inr h) = inr (f h)

-- what a function answered is what reading gives
pub given : {X Y : Type 0} (view : X → Y) (r : Result X LoadRefusal) (read : Result Y LoadRefusal) → Gives view r read → IfOk r (λ x. read ≡ Ok (view x))
given view (Ok x) read h = h
given view (Err e) read h = tt

-- a fault that is also one of another kind
pub told_too : {P Q : LoadRefusal → Type 0} (fault : RowFault) → ((why : LoadRefusal) → P why → Q why) → Faulted P fault → Faulted Q fault
told_too row_fault.Read f h = tt
told_too (row_fault.Refused why) f (inl m) = inl m
told_too (row_fault.Refused why) f (inr h) = inr (f why h)

-- of a reader over bytes in memory
pub faulty : {A : Type 0} (read : Option (Result A LoadRefusal)) (fault : RowFault) → IsFaultOf read fault → IfSome read (λ given. (refusal_in fault ≡ Memory) ⊎ (given ≡ Err (refusal_in fault)))
faulty None fault h = tt
faulty (Some given) row_fault.Read h = inl refl
faulty (Some given) (row_fault.Refused why) h = h

-- mapping what is known gives the mapped value
pub same_of : {A B : Type 0} (f : A → B) (o : Option A) → IfSome o (λ x. option_map f o ≡ Some (f x))
same_of f None = tt
same_of f (Some x) = refl

pub same_through : {A B C : Type 0} (all : Option A) (left : Option B) (f : B → C) (g : A → C) (x : Option C)
    → IfSome all (λ a. option_map f left ≡ Some (g a)) → IfSome left (λ b. x ≡ Some (f b)) → IfSome all (λ a. x ≡ Some (g a))
same_through None left f g x h k = tt
same_through (Some a) None f g x h k = let none : ⊥ = cc in absurd none
same_through (Some a) (Some b) f g x h k = k ∙ h

pub so_of_all : {A B C : Type 0} (all : Option A) (left : Option B) (f : B → C) (g : A → C) (Q : C → Type 0)
    → IfSome all (λ a. option_map f left ≡ Some (g a)) → IfSome left (λ b. Q (f b)) → IfSome all (λ a. Q (g a))
so_of_all None left f g Q h k = tt
so_of_all (Some a) None f g Q h k = let none : ⊥ = cc in absurd none
so_of_all (Some a) (Some b) f g Q h k = subst Q (same_Some (f b) (g a) h) k

-- a row's key
pub in_key : (key : List ℕ) (n : ℕ) → list_all (λ position. nat_lt position n) key ≡ true → (k d : ℕ) → k < length key → get_or key k d < n
in_key [] n h k d s = let none : ⊥ = omega (arith, s) in absurd none
in_key (p ∷ ps) n h zero d s = let first = (both (nat_lt p n) (list_all (λ position. nat_lt position n) ps) h).0 in grind (arith, nat_tests)
in_key (p ∷ ps) n h (suc k) d s = in_key ps n (both (nat_lt p n) (list_all (λ position. nat_lt position n) ps) h).1 k d (omega (arith, s))

pub null_key : (schema : PlainSchema) (most : ℕ) (places : List ℕ) (number : ℕ) (fields : List (List ℕ)) (cells : List Value) → eqb (length fields) (length places) ≡ true
    → cells_of most number schema.columns places fields ≡ Ok cells → no_key schema.key cells ≡ true → row_of schema most places number fields ≡ Err (NullKey number)
unfolding row_of keyed
null_key schema most places number fields cells count e null = rw (count, e, null) refl

pub other_count : (schema : PlainSchema) (most : ℕ) (places : List ℕ) (number : ℕ) (fields : List (List ℕ)) → eqb (length fields) (length places) ≡ false → row_of schema most places number fields ≡ Err (FieldCount number)
unfolding row_of
other_count schema most places number fields count = rw count refl
