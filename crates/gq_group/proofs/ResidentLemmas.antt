-- A table of at most a budget of groups, with one row more.
use Rattle.std.proofs.Common.{◌≡◌, ℕ, zero, suc, ◌+◌, ◌≤◌, ◌<◌, Bool, true, false, not, cond, ◌||◌, List, [], ◌∷◌, ◌++◌, length, Option, Some, None, refl, sym, ap, subst, ◌∙◌, arith, append-nil, true≢false, Result, Ok, Err}
use Rattle.std.specs.Prelude.{is_some, IsSome, filter, OnOk, OnErr}
use Rattle.std.specs.List.{slice_get}
use Rattle.std.specs.Cmp.Lexicographic.{nat_list_cmp_total}
use Rattle.std.specs.FinMap.{insert, get, len, get-empty, get-insert, len-insert, len-empty}
use Rattle.std.proofs.lemmas.List.{nil_from_length}
use Rattle.std.proofs.lemmas.List.Elements.{filter-append}
use Rattle.sw_table.specs.Entries.{Entries}
use Rattle.gq_row.specs.declared.value.Value.{Value}
use Rattle.gq_row.specs.Classes.{class_of}
use Rattle.gq_row.specs.Order.{same_key}
use Rattle.gq_row.specs.Rows.{key_of}
use Rattle.gq_row.specs.Tables.{of_key}
use Rattle.gq_row.proofs.OrderLemmas.{same_key_exact, same_key_itself}
use Rattle.gq_agg.specs.Running.{Running}
use Rattle.gq_group.specs.Entries.{Pair, Grouped, listed, tallies}
use Rattle.gq_group.specs.Groups.{Spec}
use Rattle.gq_group.specs.Residents.{has_entry, taken, left_over, Resident, Offers}
use Rattle.gq_group.specs.declared.resident_table.Offered.TheVariants.{Taken, Left}
use Rattle.gq_group.proofs.MapGroups.{classes_same, nothing, stands, few_of_key}

-- ---- filters

same_filter : {X : Type 0} (p q : X → Bool) (xs : List X) → ((x : X) → p x ≡ q x) → filter p xs ≡ filter q xs
same_filter p q xs h = (λ i. filter (λ x. h x i) xs)

-- where a weaker test passes, none is left
none_left : {X : Type 0} (p q : X → Bool) (xs : List X) → ((x : X) → p x ≡ true → q x ≡ true) → filter (λ x. not (p x)) xs ≡ [] → filter (λ x. not (q x)) xs ≡ []
none_left p q [] weaker none = refl
none_left p q (x ∷ xs) weaker none = step (p x) refl (none_left p q xs weaker) none
  where
    step : (b : Bool) → p x ≡ b → (filter (λ y. not (p y)) xs ≡ [] → filter (λ y. not (q y)) xs ≡ [])
        → cond (not b) (x ∷ filter (λ y. not (p y)) xs) (filter (λ y. not (p y)) xs) ≡ [] → cond (not (q x)) (x ∷ filter (λ y. not (q y)) xs) (filter (λ y. not (q y)) xs) ≡ []
    step true is later rest = ap (λ b. cond (not b) (x ∷ filter (λ y. not (q y)) xs) (filter (λ y. not (q y)) xs)) (weaker x is) ∙ later rest
    step false is later rest = let bad : ⊥ = cc in absurd bad

all_pass : {X : Type 0} (p : X → Bool) (xs : List X) → filter (λ x. not (p x)) xs ≡ [] → filter p xs ≡ xs
all_pass p [] none = refl
all_pass p (x ∷ xs) none = step (p x) (all_pass p xs) none
  where
    step : (b : Bool) → (filter (λ y. not (p y)) xs ≡ [] → filter p xs ≡ xs) → cond (not b) (x ∷ filter (λ y. not (p y)) xs) (filter (λ y. not (p y)) xs) ≡ [] → cond b (x ∷ filter p xs) (filter p xs) ≡ x ∷ xs
    step true later rest = ap (λ l. x ∷ l) (later rest)
    step false later rest = let bad : ⊥ = cc in absurd bad

fewer_pass : {X : Type 0} (p : X → Bool) (xs : List X) → length (filter p xs) ≤ length xs
fewer_pass p [] = omega arith
fewer_pass p (x ∷ xs) = step (p x) (fewer_pass p xs)
  where
    step : (b : Bool) → length (filter p xs) ≤ length xs → length (cond b (x ∷ filter p xs) (filter p xs)) ≤ length (x ∷ xs)
    step true h = omega arith
    step false h = omega arith

-- ---- one row more

pub taken-push : (spec : Spec) (m : List Pair) (rows : List (List Value)) (row : List Value) → taken spec m (rows ++ row ∷ []) ≡ taken spec m rows ++ cond (has_entry m (key_of spec.by row)) (row ∷ []) []
taken-push spec m rows row = filter-append (λ r. has_entry m (key_of spec.by r)) rows (row ∷ [])

pub left-push : (spec : Spec) (m : List Pair) (rows : List (List Value)) (row : List Value) → left_over spec m (rows ++ row ∷ []) ≡ left_over spec m rows ++ cond (not (has_entry m (key_of spec.by row))) (row ∷ []) []
left-push spec m rows row = filter-append (λ r. not (has_entry m (key_of spec.by r))) rows (row ∷ [])

-- ---- one entry more, or another value in one

or_true : (a b : Bool) → b ≡ true → (a || b) ≡ true
or_true true b h = refl
or_true false b h = h

has-insert : (old new : List Pair) (key k : List Value) (p : Pair) → listed new ≡ insert (listed old) (class_of key) p → has_entry new k ≡ (same_key k key || has_entry old k)
has-insert old new key k p put =
    ap (λ (m : Entries (List Value) (List Running)). is_some (get m (class_of k))) put
    ∙ ap is_some (get-insert nat_list_cmp_total (listed old) (class_of key) p (class_of k))
    ∙ ap (λ b. is_some (cond b (Some p) (get (listed old) (class_of k)))) (classes_same k key)
    ∙ told (same_key k key)
  where
    told : (b : Bool) → is_some (cond b (Some p) (get (listed old) (class_of k))) ≡ (b || has_entry old k)
    told true = refl
    told false = refl

-- a new value is no new key
has-same : (old new : List Pair) (key : List Value) (p : Pair) → has_entry old key ≡ true → listed new ≡ insert (listed old) (class_of key) p → (k : List Value) → has_entry new k ≡ has_entry old k
has-same old new key p there put k = has-insert old new key k p put ∙ told (same_key k key) refl
  where
    told : (b : Bool) → same_key k key ≡ b → (b || has_entry old k) ≡ has_entry old k
    told true e = sym (ap (λ x. has_entry old x) (same_key_exact k key e) ∙ there)
    told false e = refl

pub absent : (m : List Pair) (key : List Value) → get (listed m) (class_of key) ≡ None → has_entry m key ≡ false
absent m key none = ap is_some none

pub len-same : (old new : List Pair) (key : List Value) (p : Pair) → has_entry old key ≡ true → listed new ≡ insert (listed old) (class_of key) p → len (listed new) ≡ len (listed old)
len-same old new key p there put =
    ap (λ (m : Entries (List Value) (List Running)). len m) put
    ∙ len-insert nat_list_cmp_total (listed old) (class_of key) p
    ∙ ap (λ b. cond b (len (listed old)) (len (listed old) + 1)) there

pub len-more : (old new : List Pair) (key : List Value) (p : Pair) → has_entry old key ≡ false → listed new ≡ insert (listed old) (class_of key) p → len (listed new) ≡ len (listed old) + 1
len-more old new key p new_key put =
    ap (λ (m : Entries (List Value) (List Running)). len m) put
    ∙ len-insert nat_list_cmp_total (listed old) (class_of key) p
    ∙ ap (λ b. cond b (len (listed old)) (len (listed old) + 1)) new_key

-- one entry more, or none if an allocation failed
pub within-added : {T E : Type 0} (result : Result T E) (old new : List Pair) (key : List Value) (p : Pair) (budget : ℕ)
    → OnOk result (listed new ≡ insert (listed old) (class_of key) p) → OnErr result (new ≡ old)
    → has_entry old key ≡ false → len (listed old) < budget → len (listed new) ≤ budget
within-added (Ok x) old new key p budget put same new_key space = let more = len-more old new key p new_key put in omega (arith, more, space)
within-added (Err e) old new key p budget put same new_key space = let is = ap (λ (m : List Pair). len (listed m)) same in omega (arith, is, space)

-- ---- what an offer makes of the table

-- the row's key has a group
pub offers-occupied : (spec : Spec) (budget : ℕ) (rows : List (List Value)) (row : List Value) (old new : List Pair) (p : Pair) → Resident spec budget rows old
    → has_entry old (key_of spec.by row) ≡ true → listed new ≡ insert (listed old) (class_of (key_of spec.by row)) p
    → Grouped spec (taken spec old rows ++ row ∷ []) new → Offers spec budget rows row old new Taken
offers-occupied spec budget rows row old new p resident there put grouped =
    let key : List Value = key_of spec.by row in
    let same = has-same old new key p there put in
    let rest : left_over spec new rows ≡ left_over spec old rows = same_filter (λ r. not (has_entry new (key_of spec.by r))) (λ r. not (has_entry old (key_of spec.by r))) rows (λ r. ap not (same (key_of spec.by r))) in
    let left : left_over spec new (rows ++ row ∷ []) ≡ left_over spec old rows
    = left-push spec new rows row ∙ (λ i. rest i ++ cond (not ((same key ∙ there) i)) (row ∷ []) []) ∙ append-nil (left_over spec old rows) in
    let its : taken spec new (rows ++ row ∷ []) ≡ taken spec old rows ++ row ∷ []
    = taken-push spec new rows row
    ∙ (λ i. same_filter (λ r. has_entry new (key_of spec.by r)) (λ r. has_entry old (key_of spec.by r)) rows (λ r. same (key_of spec.by r)) i ++ cond ((same key ∙ there) i) (row ∷ []) []) in
    let few = len-same old new key p there put in
    record {
      resident = record {
        grouped = subst (λ l. Grouped spec l new) (sym its) grouped;
        within = omega (arith, few, resident.within);
        full = λ some. few ∙ resident.full (subst (λ l. 0 < length l) left some);
      };
      left = left ∙ sym (append-nil (left_over spec old rows));
    }

-- it has none, and there is space: then no row was left before
pub offers-vacant : (spec : Spec) (budget : ℕ) (rows : List (List Value)) (row : List Value) (old new : List Pair) (p : Pair) → Resident spec budget rows old
    → has_entry old (key_of spec.by row) ≡ false → len (listed old) < budget → listed new ≡ insert (listed old) (class_of (key_of spec.by row)) p
    → Grouped spec (taken spec old rows ++ row ∷ []) new → Offers spec budget rows row old new Taken
offers-vacant spec budget rows row old new p resident new_key space put grouped =
    let key : List Value = key_of spec.by row in
    let more : (k : List Value) → has_entry old k ≡ true → has_entry new k ≡ true = λ k h. has-insert old new key k p put ∙ or_true (same_key k key) (has_entry old k) h in
    let none : left_over spec old rows ≡ [] = nil_from_length (left_over spec old rows) (nothing_left (length (left_over spec old rows)) resident.full) in
    let before : left_over spec new rows ≡ [] = none_left (λ r. has_entry old (key_of spec.by r)) (λ r. has_entry new (key_of spec.by r)) rows (λ r. more (key_of spec.by r)) none in
    let here : has_entry new key ≡ true = has-insert old new key key p put ∙ ap (λ b. b || has_entry old key) (same_key_itself key) in
    let left : left_over spec new (rows ++ row ∷ []) ≡ [] = left-push spec new rows row ∙ (λ i. before i ++ cond (not (here i)) (row ∷ []) []) in
    let its : taken spec new (rows ++ row ∷ []) ≡ taken spec old rows ++ row ∷ []
    = taken-push spec new rows row
    ∙ (λ i. all_pass (λ r. has_entry new (key_of spec.by r)) rows before i ++ cond (here i) (row ∷ []) [])
    ∙ ap (λ l. l ++ row ∷ []) (sym (all_pass (λ r. has_entry old (key_of spec.by r)) rows none)) in
    let few = len-more old new key p new_key put in
    record {
      resident = record {
        grouped = subst (λ l. Grouped spec l new) (sym its) grouped;
        within = omega (arith, few, space);
        full = λ some. let no_more : 0 < length {A = List Value} [] = subst (λ l. 0 < length l) left some in absurd (omega (arith, no_more));
      };
      left = left ∙ sym (append-nil (left_over spec old rows) ∙ none);
    }
  where
    nothing_left : (n : ℕ) → (0 < n → len (listed old) ≡ budget) → n ≡ 0
    nothing_left zero full = refl
    nothing_left (suc n) full = let is : len (listed old) ≡ budget = full (omega arith) in absurd (omega (arith, is, space))

-- it has none, and there is no space
pub offers-left : (spec : Spec) (budget : ℕ) (rows : List (List Value)) (row : List Value) (m : List Pair) (hash : ℕ) → Resident spec budget rows m
    → has_entry m (key_of spec.by row) ≡ false → budget ≤ len (listed m) → Offers spec budget rows row m m (Left hash)
offers-left spec budget rows row m hash resident new_key full =
    let its : taken spec m (rows ++ row ∷ []) ≡ taken spec m rows = taken-push spec m rows row ∙ ap (λ b. taken spec m rows ++ cond b (row ∷ []) []) new_key ∙ append-nil (taken spec m rows) in
    record {
      resident = record {
        grouped = subst (λ l. Grouped spec l m) (sym its) resident.grouped;
        within = resident.within;
        full = λ some. omega (arith, resident.within, full);
      };
      left = left-push spec m rows row ∙ ap (λ b. left_over spec m rows ++ cond (not b) (row ∷ []) []) new_key;
    }

-- ---- the entry of a row's key

pub record Found (spec : Spec) (budget : ℕ) (rows : List (List Value)) (m : List Pair) (i : ℕ) (key : List Value) : Type 0 where
  pub few : length (of_key spec.by (taken spec m rows) key) ≤ length rows
  pub entry : slice_get m i ≡ Some (key, tallies spec.aggs (of_key spec.by (taken spec m rows) key))
  pub there : has_entry m key ≡ true

pub found : (spec : Spec) (budget : ℕ) (rows : List (List Value)) (m : List Pair) (i : ℕ) (key : List Value) → Resident spec budget rows m
    → get (listed m) (class_of key) ≡ slice_get m i → IsSome (slice_get m i) → Found spec budget rows m i key
found spec budget rows m i key resident at full =
    let entry = stands spec (taken spec m rows) m i key resident.grouped at full in
    let few = few_of_key spec.by (taken spec m rows) key in
    let fewer = fewer_pass (λ r. has_entry m (key_of spec.by r)) rows in
    record {
      few = omega (arith, few, fewer);
      entry = entry;
      there = ap is_some (at ∙ entry);
    }

-- ---- the start

pub resident-start : (spec : Spec) (budget : ℕ) (m : List Pair) → Grouped spec [] m → len (listed m) ≤ 1 → 1 ≤ budget → Resident spec budget [] m
resident-start spec budget m grouped few some = record {
  grouped = grouped;
  within = omega (arith, few, some);
  full = λ none. absurd (omega (arith, none));
}

pub len-alone : (p : Pair) → len (insert nothing (class_of []) p) ≡ 1
len-alone p = len-insert nat_list_cmp_total nothing (class_of []) p ∙ told (get nothing (class_of [])) (get-empty _ (class_of []))
  where
    told : (o : Option Pair) → o ≡ None → cond (is_some o) (len nothing) (len nothing + 1) ≡ 1
    told None e = ap (λ n. n + 1) (len-empty _ _)
    told (Some q) e = absurd (true≢false (ap is_some e))
