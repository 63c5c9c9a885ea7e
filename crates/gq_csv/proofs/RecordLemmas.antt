-- The records of a text: none, or the next one and those after it.
use Rattle.std.proofs.Common.{◌≡◌, ◌∙◌, ◌+◌, ◌&&◌, ◌==◌, ◌||◌, ◌<◌, ◌≤◌, ℕ, zero, suc, Bool, true, false, cond, List, [], ◌∷◌, length, Option, Some, None, if◌then◌else◌, refl, sym, ap, subst, arith, add-one}
use Rattle.std.proofs.lemmas.Bool.{false≢true}
use Rattle.csv.specs.Machine.{Read, next_record, ends_at_end, is_end, is_byte, ends_with, step, in_field, start_field, start_record, after_end, fields_after, field_after}
use Rattle.csv.specs.Reading.{NextIs, default_config, records, records_from, records_next}
use Rattle.csv.specs.declared.parser.Config.{Config}
use Rattle.csv.specs.declared.parser.State.{State}
use Rattle.csv.specs.declared.parser.Action.{Action}
use Rattle.csv.specs.declared.parser.State.TheVariants as st
use Rattle.csv.specs.declared.parser.Action.TheVariants as act
use Rattle.csv.specs.declared.parser.Terminator.{Terminator}
use Rattle.csv.specs.declared.parser.Terminator.TheVariants as term
use Rattle.std.specs.Io.KnownBytes.{Keeps}
use Rattle.std.specs.Prelude.{IfOk, Result, Ok, Err}
use Rattle.gq_csv.specs.Reads.{Reads, SameRecords}
use Rattle.gq_csv.specs.Records.{Took, records_of}

-- after a record's end no further record begins without a byte

abbrev Stops : State × Action → Type 0
Stops x = is_end x.1 ≡ true → ends_at_end x.0 ≡ false

one_of : (b : Bool) (x y : State × Action) → Stops x → Stops y → Stops (cond b x y)
one_of true x y h k = h
one_of false x y h k = k

goes_on : (s : State) (a : Action) → is_end a ≡ false → Stops (s, a)
goes_on s a none e = absurd (false≢true (sym none ∙ e))

behind_end : (t : Terminator) (c : ℕ) → ends_at_end (after_end t c) ≡ false
behind_end term.CRLF c = by (c == 13)
  where
    by : (b : Bool) → ends_at_end (cond b st.AfterCr st.StartRecord) ≡ false
    by true = refl
    by false = refl
behind_end (term.Any t) c = refl

field_stops : (cfg : Config) (c : ℕ) → Stops (in_field cfg c)
field_stops cfg c = one_of (c == cfg.delimiter) _ _ (goes_on st.StartField act.EndField refl)
    (one_of (ends_with cfg.terminator c) _ _ (λ e. behind_end cfg.terminator c) (goes_on st.InField act.Copy refl))

start_stops : (cfg : Config) (c : ℕ) → Stops (start_field cfg c)
start_stops cfg c = one_of (cfg.quoting && (c == cfg.quote)) _ _ (goes_on st.InQuoted act.Skip refl) (field_stops cfg c)

record_stops : (cfg : Config) (c : ℕ) → Stops (start_record cfg c)
record_stops cfg c = one_of (ends_with cfg.terminator c) _ _ (goes_on st.StartRecord act.Skip refl)
    (one_of (is_byte cfg.comment c) _ _ (goes_on st.InComment act.Skip refl) (start_stops cfg c))

step_stops : (cfg : Config) (s : State) (c : ℕ) → Stops (step cfg s c)
step_stops cfg st.StartRecord c = record_stops cfg c
step_stops cfg st.StartField c = start_stops cfg c
step_stops cfg st.InField c = field_stops cfg c
step_stops cfg st.InQuoted c = one_of (cfg.quoting && (c == cfg.quote)) _ _ (goes_on st.AfterQuote act.Skip refl)
    (one_of (cfg.quoting && is_byte cfg.escape c) _ _ (goes_on st.InEscape act.Skip refl) (goes_on st.InQuoted act.Copy refl))
step_stops cfg st.InEscape c = goes_on st.InQuoted act.Copy refl
step_stops cfg st.AfterQuote c = one_of (cfg.quoting && cfg.double_quote && (c == cfg.quote)) _ _ (goes_on st.InQuoted act.Copy refl) (field_stops cfg c)
step_stops cfg st.InComment c = one_of (c == 10) _ _ (goes_on st.StartRecord act.Skip refl) (goes_on st.InComment act.Skip refl)
step_stops cfg st.AfterCr c = one_of (c == 10) _ _ (goes_on st.StartRecord act.Skip refl) (record_stops cfg c)

-- a record takes a byte at least

some_same : {A : Type 0} (x y : A) → Some x ≡ Some y → x ≡ y
some_same x y e = ap (λ o. elim o [ None ↦ x | Some z ↦ z ]) e

pub record Shortens (rest : List ℕ) (r : Read) : Type 0 where
  pub short : length r.2 ≤ length rest
  pub stops : ends_at_end r.1 ≡ false

shortens : (cfg : Config) (s : State) (fields : List (List ℕ)) (field : List ℕ) (c : ℕ) (rest : List ℕ) (r : Read)
    → next_record cfg s fields field (c ∷ rest) ≡ Some r → Shortens rest r
unfolding next_record
shortens cfg s fields field c [] r e = by_end (is_end (step cfg s c).1) refl e
  where
    at_end : (b : Bool) (f : List (List ℕ)) → cond b (Some (f, st.StartRecord, [])) None ≡ Some r → Shortens [] r
    at_end true f e = subst (Shortens []) (some_same _ _ e) (record { short = omega arith; stops = refl })
    at_end false f e = let none : ⊥ = cc in absurd none

    by_end : (b : Bool) → is_end (step cfg s c).1 ≡ b
        → cond b (Some (fields_after (step cfg s c).1 fields field, (step cfg s c).0, [])) (next_record cfg (step cfg s c).0 (fields_after (step cfg s c).1 fields field) (field_after (step cfg s c).1 c field) []) ≡ Some r
        → Shortens [] r
    by_end true t e = subst (Shortens []) (some_same _ _ e) (record { short = omega arith; stops = step_stops cfg s c t })
    by_end false t e = at_end (ends_at_end (step cfg s c).0) _ e
shortens cfg s fields field c (d ∷ ds) r e = by_end (is_end (step cfg s c).1) refl e (shortens cfg (step cfg s c).0 (fields_after (step cfg s c).1 fields field) (field_after (step cfg s c).1 c field) d ds r)
  where
    by_end : (b : Bool) → is_end (step cfg s c).1 ≡ b
        → cond b (Some (fields_after (step cfg s c).1 fields field, (step cfg s c).0, d ∷ ds)) (next_record cfg (step cfg s c).0 (fields_after (step cfg s c).1 fields field) (field_after (step cfg s c).1 c field) (d ∷ ds)) ≡ Some r
        → (next_record cfg (step cfg s c).0 (fields_after (step cfg s c).1 fields field) (field_after (step cfg s c).1 c field) (d ∷ ds) ≡ Some r → Shortens ds r)
        → Shortens (d ∷ ds) r
    by_end true t e again = subst (Shortens (d ∷ ds)) (some_same _ _ e) (record { short = omega arith; stops = step_stops cfg s c t })
    by_end false t e again = let h = again e in record { short = omega (arith, h.short); stops = h.stops }

-- so the count of turns is no matter, once it is above the number of bytes

turns : (n m : ℕ) (s : State) (xs : List ℕ) → ends_at_end s ≡ false → length xs < n → length xs < m → records_from default_config n s xs ≡ records_from default_config m s xs
unfolding records_from next_record
turns zero m s xs h a b = let none : ⊥ = omega (arith, a) in absurd none
turns (suc n) zero s xs h a b = let none : ⊥ = omega (arith, b) in absurd none
turns (suc n) (suc m) s [] h a b = rw h refl
turns (suc n) (suc m) s (c ∷ rest) h a b = by_next (next_record default_config s [] [] (c ∷ rest)) refl (turns n m)
  where
    by_next : (o : Option Read) → next_record default_config s [] [] (c ∷ rest) ≡ o
        → ((t : State) (ys : List ℕ) → ends_at_end t ≡ false → length ys < n → length ys < m → records_from default_config n t ys ≡ records_from default_config m t ys)
        → records_next (records_from default_config n) o ≡ records_next (records_from default_config m) o
    by_next None e again = refl
    by_next (Some r) e again =
        let k = shortens default_config s [] [] c rest r e in
        ap (λ others. r.0 ∷ others) (again r.1 r.2 k.stops (omega (arith, k.short, a)) (omega (arith, k.short, b)))

-- the records from a state on: none, or the next one and those after it

abbrev all_from : State → List ℕ → List (List (List ℕ))
all_from s xs = records_from default_config (length xs + 1) s xs

none_from : (s : State) (xs : List ℕ) → next_record default_config s [] [] xs ≡ None → all_from s xs ≡ []
unfolding records_from
none_from s xs e = rw (add-one (length xs)) (ap (records_next (records_from default_config (length xs))) e)

some_from : (s : State) (xs : List ℕ) (r : Read) → ends_at_end s ≡ false → next_record default_config s [] [] xs ≡ Some r → all_from s xs ≡ r.0 ∷ all_from r.1 r.2
unfolding records_from next_record
some_from s [] r h e = let none : ⊥ = cc (rw h at e) in absurd none
some_from s (c ∷ rest) r h e =
    let k = shortens default_config s [] [] c rest r e in
    rw (add-one (length (c ∷ rest))) (ap (records_next (records_from default_config (length (c ∷ rest)))) e
    ∙ ap (λ others. r.0 ∷ others) (turns (length (c ∷ rest)) (length r.2 + 1) r.1 r.2 k.stops (omega (arith, k.short)) (omega arith)))

stops_from : (s : State) (xs : List ℕ) (r : Read) → ends_at_end s ≡ false → next_record default_config s [] [] xs ≡ Some r → ends_at_end r.1 ≡ false
unfolding next_record
stops_from s [] r h e = let none : ⊥ = cc (rw h at e) in absurd none
stops_from s (c ∷ rest) r h e = (shortens default_config s [] [] c rest r e).stops

-- before a record, what ended the one before makes no difference

same_ends : {A : Type 0} (p q : Bool) (a b : A) → cond q a (cond (p || q) a b) ≡ cond (p || q) a b
same_ends true true a b = refl
same_ends true false a b = refl
same_ends false true a b = refl
same_ends false false a b = refl

same_step : (c : ℕ) → step default_config st.AfterCr c ≡ step default_config st.StartRecord c
same_step c = same_ends (c == 13) (c == 10) (st.StartRecord, act.Skip) _

same_next : (xs : List ℕ) → next_record default_config st.AfterCr [] [] xs ≡ next_record default_config st.StartRecord [] [] xs
unfolding next_record
same_next [] = refl
same_next (c ∷ rest) = ap (λ (x : State × Action). if is_end x.1 then Some (fields_after x.1 [] [], x.0, rest) else next_record default_config x.0 (fields_after x.1 [] []) (field_after x.1 c []) rest) (same_step c)

same_records : (s : State) (xs : List ℕ) → ends_at_end s ≡ false → all_from s xs ≡ records default_config xs
unfolding records_from
same_records st.StartRecord xs e = refl
same_records st.AfterCr xs e = rw (add-one (length xs)) (ap (records_next (records_from default_config (length xs))) (same_next xs))
same_records st.StartField xs e = absurd (false≢true (sym e))
same_records st.InField xs e = absurd (false≢true (sym e))
same_records st.InQuoted xs e = absurd (false≢true (sym e))
same_records st.AfterQuote xs e = absurd (false≢true (sym e))
same_records st.InEscape xs e = absurd (false≢true (sym e))
same_records st.InComment xs e = absurd (false≢true (sym e))

-- what a read takes of the records
pub took : (before after : Option (List ℕ)) (found : Bool) (fields : List (List ℕ)) → Reads before after found fields → Took (records_of before) found fields (records_of after)
took None after found fields h = tt
took (Some xs) None found fields h = absurd h.1
took (Some xs) (Some ys) found fields h = by_next (next_record default_config st.StartRecord [] [] xs) refl h.1
  where
    by_next : (o : Option Read) → next_record default_config st.StartRecord [] [] xs ≡ o → NextIs o found fields h.0 ys → Took (Some (records default_config xs)) found fields (Some (records default_config ys))
    by_next None e n = subst (λ all. Took (Some all) found fields (Some (records default_config ys))) (sym (none_from st.StartRecord xs e)) n
    by_next (Some p) e n =
        let others : records default_config ys ≡ all_from p.1 p.2 = ap (records default_config) n.3 ∙ sym (same_records p.1 p.2 (stops_from st.StartRecord xs p refl e)) in
        subst (λ all. Took (Some all) found fields (Some (records default_config ys))) (sym (some_from st.StartRecord xs p refl e)) (n.0, n.1, ap Some others)

-- ---- bytes with the same records

pub same_of_keeps : (a b : Option (List ℕ)) → Keeps a b → SameRecords a b
same_of_keeps None b k = tt
same_of_keeps (Some xs) None k = k
same_of_keeps (Some xs) (Some ys) k = ap (next_record default_config st.StartRecord [] []) (sym k)

pub same_trans : (a b c : Option (List ℕ)) → SameRecords a b → SameRecords b c → SameRecords a c
same_trans None b c h k = tt
same_trans (Some xs) None c h k = absurd h
same_trans (Some xs) (Some ys) None h k = k
same_trans (Some xs) (Some ys) (Some zs) h k = h ∙ k

pub same_reads : (a b c : Option (List ℕ)) (found : Bool) (fields : List (List ℕ)) → SameRecords a b → Reads b c found fields → Reads a c found fields
same_reads None b c found fields h r = (st.StartRecord, tt)
same_reads (Some xs) None c found fields h r = absurd h
same_reads (Some xs) (Some ys) None found fields h r = absurd r.1
same_reads (Some xs) (Some ys) (Some zs) found fields h r = (r.0, subst (λ o. NextIs o found fields r.0 zs) (sym h) r.1)

pub took_if : {E : Type 0} (r : Result Bool E) (a b c : Option (List ℕ)) (fields : List (List ℕ)) → SameRecords a b → IfOk r (λ found. Reads b c found fields)
    → IfOk r (λ found. Took (records_of a) found fields (records_of c))
took_if (Ok found) a b c fields same h = took a c found fields (same_reads a b c found fields same h)
took_if (Err e) a b c fields same h = tt
