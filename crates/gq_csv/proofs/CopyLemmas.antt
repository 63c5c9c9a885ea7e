-- A record that is copied, byte by byte.
use Rattle.std.proofs.Common.{◌≡◌, ◌∙◌, ℕ, Bool, true, false, List, [], ◌∷◌, ◌++◌, Option, Some, None, if◌then◌else◌, refl, sym, ap, subst}
use Rattle.std.specs.Io.KnownBytes.{Consumes, IsAtEnd, Keeps, prepend_known}
use Rattle.std.specs.List.{position_or_len}
use Rattle.csv.specs.Machine.{ends_at_end, field_after, fields_after, is_end, next_record, step}
use Rattle.csv.specs.Reading.{default_config}
use Rattle.csv.specs.declared.parser.Action.{Action}
use Rattle.csv.specs.declared.parser.Action.TheVariants as act
use Rattle.csv.specs.declared.parser.State.{State}
use Rattle.csv.specs.declared.parser.State.TheVariants as st
use Rattle.std.specs.Prelude.{IfOk, Result, Ok, Err, take, drop}
use Rattle.gq_csv.specs.declared.state.State.{State as OwnState}
use Rattle.gq_csv.specs.declared.state.State.TheVariants as own
use Rattle.gq_csv.specs.Bytes.{is_special}
use Rattle.gq_csv.specs.Inputs.{Ahead, known}
use Rattle.gq_csv.specs.Steps.{IsInside, machine_state}
use Rattle.gq_csv.specs.Reads.{EndsAs, Reads}
use Rattle.gq_csv.proofs.ScanLemmas.{join_plain, join_quoted}

-- the next record of the bytes at first is the one that is now copied, before the bytes that are left
abbrev pub Tracks : Option (List ℕ) → State → List (List ℕ) → List ℕ → Option (List ℕ) → Type 0
Tracks None s fields field left = Unit {0}
Tracks (Some xs) s fields field None = ⊥
Tracks (Some xs) s fields field (Some ys) = next_record default_config st.StartRecord [] [] xs ≡ next_record default_config s fields field ys

pub tracks_start : (all : Option (List ℕ)) → Tracks all st.StartRecord [] [] all
tracks_start None = tt
tracks_start (Some xs) = refl

-- a byte that doesn't end the record
pub tracks_byte : (all left after : Option (List ℕ)) (s t : State) (a : Action) (fields : List (List ℕ)) (field : List ℕ) (b : ℕ) → Consumes left after (b ∷ [])
    → step default_config s b ≡ (t, a) → is_end a ≡ false → Tracks all s fields field left → Tracks all t (fields_after a fields field) (field_after a b field) after
unfolding next_record
tracks_byte None left after s t a fields field b k e goes h = tt
tracks_byte (Some xs) None after s t a fields field b k e goes h = absurd h
tracks_byte (Some xs) (Some ys) None s t a fields field b k e goes h = k
tracks_byte (Some xs) (Some ys) (Some zs) s t a fields field b k e goes h = h ∙ ap (next_record default_config s fields field) k ∙ by_step (step default_config s b) e
  where
    by_step : (x : State × Action) → x ≡ (t, a)
        → (if is_end x.1 then Some (fields_after x.1 fields field, x.0, zs) else next_record default_config x.0 (fields_after x.1 fields field) (field_after x.1 b field) zs)
        ≡ next_record default_config t (fields_after a fields field) (field_after a b field) zs
    by_step x e = rw (e, goes) refl

-- the plain bytes at the start of those that are left
tracks_plain : (all after : Option (List ℕ)) (s : OwnState) (fields : List (List ℕ)) (field ahead : List ℕ) → IsInside s → Tracks all (machine_state s) fields field (prepend_known ahead after)
    → Tracks all (machine_state s) fields (field ++ take (position_or_len is_special ahead) ahead) (prepend_known (drop (position_or_len is_special ahead) ahead) after)
tracks_plain None after s fields field ahead inside h = tt
tracks_plain (Some xs) None s fields field ahead inside h = h
tracks_plain (Some xs) (Some more) own.StartRecord fields field ahead inside h = absurd inside
tracks_plain (Some xs) (Some more) own.StartField fields field ahead inside h = absurd inside
tracks_plain (Some xs) (Some more) own.InField fields field ahead inside h = h ∙ join_plain fields field ahead more
tracks_plain (Some xs) (Some more) own.InQuoted fields field ahead inside h = h ∙ join_quoted fields field ahead more
tracks_plain (Some xs) (Some more) own.AfterQuote fields field ahead inside h = absurd inside

-- a byte that is copied, and the plain bytes after it
pub tracks_copied : (all left : Option (List ℕ)) (old new : Ahead) (s : State) (t : OwnState) (fields : List (List ℕ)) (field copied : List ℕ) (b : ℕ) → Consumes left (known old) (b ∷ [])
    → new.ahead ≡ drop (position_or_len is_special old.ahead) old.ahead → new.after ≡ old.after → copied ≡ (field ++ b ∷ []) ++ take (position_or_len is_special old.ahead) old.ahead
    → step default_config s b ≡ (machine_state t, act.Copy) → IsInside t → Tracks all s fields field left → Tracks all (machine_state t) fields copied (known new)
tracks_copied all left old new s t fields field copied b k ahead after is e inside h =
    rw (ahead, after, is) (tracks_plain all old.after t fields (field ++ b ∷ []) old.ahead inside (tracks_byte all left (known old) s (machine_state t) act.Copy fields field b k e refl h))

-- a byte that ends the record
pub tracks_end : (all left after : Option (List ℕ)) (s : State) (fields : List (List ℕ)) (field : List ℕ) (b : ℕ) → Consumes left after (b ∷ [])
    → (step default_config s b).1 ≡ act.EndRecord → Tracks all s fields field left → Reads all after true (fields ++ field ∷ [])
unfolding next_record
tracks_end None left after s fields field b k e h = (st.StartRecord, tt)
tracks_end (Some xs) None after s fields field b k e h = absurd h
tracks_end (Some xs) (Some ys) None s fields field b k e h = absurd k
tracks_end (Some xs) (Some ys) (Some zs) s fields field b k e h = ((step default_config s b).0, rw (h ∙ ap (next_record default_config s fields field) k, e) (refl, refl, refl, refl))

-- the end of the text
pub tracks_last : (all left after : Option (List ℕ)) (s : State) (fields : List (List ℕ)) (field : List ℕ) → IsAtEnd left → Keeps left after
    → ends_at_end s ≡ true → Tracks all s fields field left → Reads all after true (fields ++ field ∷ [])
unfolding next_record
tracks_last None left after s fields field end k e h = (st.StartRecord, tt)
tracks_last (Some xs) None after s fields field end k e h = absurd h
tracks_last (Some xs) (Some ys) None s fields field end k e h = absurd k
tracks_last (Some xs) (Some ys) (Some zs) s fields field end k e h = (st.StartRecord, rw (k, h, end, e) (refl, refl, refl, refl))

pub tracks_none : (all left after : Option (List ℕ)) (s : State) (fields others : List (List ℕ)) (field : List ℕ) → IsAtEnd left → Keeps left after
    → ends_at_end s ≡ false → Tracks all s fields field left → Reads all after false others
unfolding next_record
tracks_none None left after s fields others field end k e h = (st.StartRecord, tt)
tracks_none (Some xs) None after s fields others field end k e h = absurd h
tracks_none (Some xs) (Some ys) None s fields others field end k e h = absurd k
tracks_none (Some xs) (Some ys) (Some zs) s fields others field end k e h = (st.StartRecord, rw (h, end, e) refl)

-- the record that the end of the text ends, if there is one
pub copied_last : {E : Type 0} (r : Result Bool E) (all left after : Option (List ℕ)) (s : OwnState) (fields others : List (List ℕ)) (field : List ℕ) → IsAtEnd left → Keeps left after
    → Tracks all (machine_state s) fields field left → IfOk r (λ found. EndsAs s fields field found others) → IfOk r (λ found. Reads all after found others)
copied_last (Err e) all left after s fields others field end k h ends = tt
copied_last (Ok true) all left after s fields others field end k h ends =
    subst (Reads all after true) (sym (ends.1 refl)) (tracks_last all left after (machine_state s) fields field end k (sym ends.0) h)
copied_last (Ok false) all left after s fields others field end k h ends = tracks_none all left after (machine_state s) fields others field end k (sym ends.0) h
