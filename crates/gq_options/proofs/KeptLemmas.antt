-- A seed whose text names none is refused, whatever words follow it: its row stays, or a word has a fault.
use Rattle.std.proofs.Common.{refl, sym, ap, subst, codes, ℕ, zero, suc, Bool, true, false, true≢false, Option, Some, None, is_some, List, [], ◌∷◌, ◌++◌, ◌≡◌, ◌∙◌, ◌&&◌, ◌||◌, cond, not, length, append-nil, if◌then◌else◌}
use Rattle.std.specs.Prelude.{drop, encode_utf8, find, fold, option_and_then, slice_get}
use Rattle.std.specs.List.{list_all}
use Rattle.std.specs.Option.{option_map_or}
use Rattle.std.specs.Str.{bytes_eq, chars}
use Rattle.clap.specs.Lexer.{long_of, short_of}
use Rattle.clap.specs.Faults.{action_fault, bundle_fault, bundle_step_fault, entered_fault, flag_word_fault, flags_fault, long_fault, option_fault, other_fault, positional_fault, react_fault, repeat_fault, settle_fault, short_fault, step_fault, stray_fault, turn_fault, use_fault, values_fault, walk_fault, word_fault}
use Rattle.clap.specs.Kinds.{Kinds, or_else}
use Rattle.clap.specs.Walk.{Held, Outcome, Row, Rule, Step, Text, Waiting, Walk, action_of, after_flag, after_step, arg_by_id, arg_by_index, arg_by_long, arg_by_short, at_row, attached_value, bundle, bundle_met, bundle_step, default_rows, done, finished, first_of, flag_met, has_long, has_row, has_short, idle, is_pending, long_met, long_or_other, more_values, next, stronger, option, option_met, option_word, plain, plain_word, positional, pushed, reacted, reading_by, refused, settled, settled_rows, short_met, short_or_plain, subcommand, subcommand_met, subcommand_or_other, takes_several, takes_values, to_positional, trailing, used, used_as, used_by_id, value, values_or_missing, waits, walked, walked_from, with_default, with_values, without, word_met}
use Rattle.clap.specs.declared.builder.action.ArgAction.{ArgAction}
use Rattle.clap.specs.declared.builder.action.ArgAction.TheVariants.{Append, Count, Set, SetFalse, SetTrue}
use Rattle.clap.specs.declared.builder.value_parser.Reading.{Reading}
use Rattle.clap.specs.declared.error.kind.ErrorKind.{ErrorKind}
use Rattle.clap.specs.declared.error.kind.ErrorKind.TheVariants as kind
use Rattle.clap.specs.declared.parser.matches.ValueSource.{ValueSource}
use Rattle.clap.specs.declared.parser.matches.ValueSource.TheVariants.{CommandLine, DefaultValue}
use Rattle.clap.proofs.WalkLemmas.{both}
use Rattle.gq_options.specs.CommandLine.{faults_in, names_seed}
use Rattle.gq_options.proofs.StepLemmas.{BUILT, RULES, SHAPE, end-faults, faults-from}

-- ---- faults

abbrev has-kind : Kinds → Bool
has-kind [] = false
has-kind (k ∷ ks) = true

a-kind : (k : ErrorKind) (ks : Kinds) → k ∷ ks ≡ [] → ⊥
a-kind k ks e = let bad : true ≡ false = ap has-kind e in true≢false bad

both-none : (first second : Kinds) → or_else first second ≡ [] → (first ≡ []) × (second ≡ [])
both-none [] second e = (refl, e)
both-none (k ∷ ks) second e = absurd (a-kind k ks e)

unrepeated : (b : Bool) → (if b && not false then kind.ArgumentConflict ∷ [] else []) ≡ [] → b ≡ false
unrepeated false e = refl
unrepeated true e = absurd (a-kind kind.ArgumentConflict [] e)

-- ---- rows

none≢some : (text : Text) → None ≡ Some text → ⊥
none≢some text e = let bad : false ≡ true = ap is_some e in true≢false (sym bad)

kept-before : (id text : Text) (rows more : List Row) → first_of id rows ≡ Some text → first_of id (rows ++ more) ≡ Some text
kept-before id text [] more e = absurd (none≢some text e)
kept-before id text (r ∷ rs) more e = go (bytes_eq r.id id) (kept-before id text rs more) e
  where
    go : (b : Bool) → (first_of id rs ≡ Some text → first_of id (rs ++ more) ≡ Some text)
        → option_and_then (λ (q : Row). slice_get q.values 0) (cond b (Some r) (find (λ q. bytes_eq q.id id) rs)) ≡ Some text
        → option_and_then (λ (q : Row). slice_get q.values 0) (cond b (Some r) (find (λ q. bytes_eq q.id id) (rs ++ more))) ≡ Some text
    go true rest e = e
    go false rest e = rest e

neither : (a b : Bool) → (a || b) ≡ false → (a ≡ false) × (b ≡ false)
neither false b e = (refl, e)
neither true b e = absurd (true≢false e)

at-end : (id : Text) (change : Row → List Row) (missing rows : List Row) → has_row id rows ≡ false → at_row id change missing rows ≡ rows ++ missing
at-end id change missing [] e = refl
at-end id change missing (r ∷ rs) e =
    let parts = neither (bytes_eq r.id id) (has_row id rs) e in
    rw parts.0 (ap (λ rest. r ∷ rest) (at-end id change missing rs parts.1))

-- rows without the row of a new id are the same rows
pub without-new : (id : Text) (rows : List Row) → has_row id rows ≡ false → without id rows ≡ rows
without-new id rows new = at-end id (λ r. []) [] rows new ∙ append-nil rows

-- of a text that is the first value of the seed's row
module _ (text : Text) where
  abbrev Named : List Row → Type 0
  Named rows = first_of (codes "seed") rows ≡ Some text

  kept-new : (id : Text) (how : Reading) (source : ValueSource) (values : List Text) (rows : List Row) → has_row id rows ≡ false → Named rows → Named (with_values id how source values rows)
  kept-new id how source values rows new named = subst Named (sym (at-end id (more_values source values) _ rows new)) (kept-before (codes "seed") text rows _ named)

  kept-alone : (id : Text) (how : Reading) (source : ValueSource) (values : List Text) (rows : List Row) → has_row id rows ≡ false → Named rows
      → Named (with_values id how source values (without id rows))
  kept-alone id how source values rows new named =
      subst (λ rs. Named (with_values id how source values rs)) (sym (without-new id rows new)) (kept-new id how source values rows new named)

  -- values after those of a row don't change its first
  abbrev first-value : Option Row → Option Text
  first-value = option_and_then (λ (q : Row). slice_get q.values 0)

  kept-more : (id : Text) (how : Reading) (source : ValueSource) (values : List Text) (rows : List Row) → Named rows → Named (with_values id how source values rows)
  kept-more id how source values [] named = absurd (none≢some text named)
  kept-more id how source values (r ∷ rs) named = by-id (bytes_eq r.id id) (kept-more id how source values rs)
    where
      longer : Row
      longer = record r { values = r.values ++ values; source = Some (stronger r.source source) }

      still-first : (old : List Text) → slice_get old 0 ≡ Some text → slice_get (old ++ values) 0 ≡ Some text
      still-first [] e = absurd (none≢some text e)
      still-first (v ∷ vs) e = e

      here : (b : Bool) (rest : Option Row) → first-value (cond b (Some r) rest) ≡ Some text → first-value (cond b (Some longer) rest) ≡ Some text
      here true rest e = still-first r.values e
      here false rest e = e

      later : (b : Bool) (rest more : Option Row) → (first-value rest ≡ Some text → first-value more ≡ Some text) → first-value (cond b (Some r) rest) ≡ Some text → first-value (cond b (Some r) more) ≡ Some text
      later true rest more kept e = e
      later false rest more kept e = kept e

      by-id : (b : Bool) → (Named rs → Named (with_values id how source values rs))
          → Named (if b then longer ∷ rs else r ∷ with_values id how source values rs)
      by-id true kept = here (bytes_eq r.id (codes "seed")) (find (λ q. bytes_eq q.id (codes "seed")) rs) named
      by-id false kept = later (bytes_eq r.id (codes "seed")) (find (λ q. bytes_eq q.id (codes "seed")) rs) (find (λ q. bytes_eq q.id (codes "seed")) (with_values id how source values rs)) kept named

  -- ---- one use of an argument

  -- an argument that sets its row once, adds to it, or makes none
  abbrev counts-none : ArgAction → Bool
  counts-none Count = false
  counts-none _ = true

  abbrev is-plain : Rule → Bool
  is-plain a = counts-none (action_of a)

  kept-set : (a : Rule) (source : ValueSource) (values : List Text) (rows : List Row) → or_else (repeat_fault false a.id rows) (values_fault a values) ≡ [] → Named rows
      → Named (with_values a.id (reading_by a) source values (without a.id rows))
  kept-set a source values rows e named =
      kept-alone a.id (reading_by a) source values rows (unrepeated (has_row a.id rows) (both-none (repeat_fault false a.id rows) (values_fault a values) e).0) named

  kept-as : (does : ArgAction) (a : Rule) (values : List Text) (rows : List Row) → counts-none does ≡ true → action_fault does false a values rows ≡ [] → Named rows
      → Named (used_as does a.id (reading_by a) values rows)
  kept-as Set a values rows once e named = kept-set a CommandLine values rows e named
  kept-as SetTrue a values rows once e named = kept-set a CommandLine values rows e named
  kept-as SetFalse a values rows once e named = kept-set a CommandLine values rows e named
  kept-as Append a values rows once e named = kept-more a.id (reading_by a) CommandLine values rows named
  kept-as Count a values rows once e named = absurd (true≢false (sym once))
  kept-as _ a values rows once e named = named

  kept-used : (a : Rule) → is-plain a ≡ true → (values : List Text) (rows : List Row) → use_fault false a values rows ≡ [] → Named rows → Named (used a values rows)
  kept-used a once values rows e named = kept-as (action_of a) a (values_or_missing a values) rows once (both-none _ _ e).1 named

  -- ---- a command whose arguments are all so

  module _ (c : List Rule) (all-plain : list_all is-plain c ≡ true) where
    found-plain : (f : Rule → Bool) → option_map_or is-plain (find f c) true ≡ true
    found-plain f = among c all-plain
      where
        among : (xs : List Rule) → list_all is-plain xs ≡ true → option_map_or is-plain (find f xs) true ≡ true
        among [] e = refl
        among (x ∷ xs) e = go (f x) (both (is-plain x) (list_all is-plain xs) e).0 (among xs (both (is-plain x) (list_all is-plain xs) e).1)
          where
            go : (b : Bool) → is-plain x ≡ true → option_map_or is-plain (find f xs) true ≡ true → option_map_or is-plain (cond b (Some x) (find f xs)) true ≡ true
            go true here rest = here
            go false here rest = rest

    kept-by : (o : Option Rule) → option_map_or is-plain o true ≡ true → (values : List Text) (rows : List Row)
        → option_map_or (λ a. use_fault false a values rows) o [] ≡ [] → Named rows → Named (used_by_id o values rows)
    kept-by None once values rows e named = named
    kept-by (Some a) once values rows e named = kept-used a once values rows e named

    kept-settled : (h : Held) → settle_fault c false h ≡ [] → Named h.rows → Named (settled c h).rows
    kept-settled h = of-pending h.pending
      where
        of-pending : (pending : Option (Text × List Text))
            → option_map_or (λ p. option_map_or (λ a. use_fault false a p.1 h.rows) (arg_by_id c p.0) []) pending [] ≡ []
            → Named h.rows → Named (settled_rows c pending h.rows)
        of-pending None e named = named
        of-pending (Some p) e named = kept-by (arg_by_id c p.0) (found-plain (λ a. bytes_eq a.id p.0)) p.1 h.rows e named

    -- what is held has that row, and passes over no flags
    abbrev Keeps : Held → Type 0
    Keeps h = Named h.rows × (h.skip ≡ 0)

    kept-reacted : (a : Rule) → is-plain a ≡ true → (values : List Text) (h : Held) → react_fault c false a values h ≡ [] → Keeps h → Keeps (reacted c a values h)
    kept-reacted a once values h e keeps =
        let parts = both-none (settle_fault c false h) (use_fault false a values (settled c h).rows) e in
        (kept-used a once values (settled c h).rows parts.1 (kept-settled h parts.0 keeps.0), keeps.1)

    kept-option : (a : Rule) → is-plain a ≡ true → (given : Option Text) (h : Held) → option_fault c false a given h ≡ [] → Keeps h → Keeps (option_met c a given h).0
    kept-option a once (Some v) h e keeps = kept-reacted a once (v ∷ []) h e keeps
    kept-option a once None h e keeps = (kept-settled h e keeps.0, keeps.1)

    kept-flag : (a : Rule) → is-plain a ≡ true → (given : Option Text) (h : Held)
        → (if is_some given then kind.TooManyValues ∷ [] else react_fault c false a [] h) ≡ [] → Keeps h → Keeps (flag_met c a given h).0
    kept-flag a once (Some v) h e keeps = absurd (a-kind kind.TooManyValues [] e)
    kept-flag a once None h e keeps = kept-reacted a once [] h e keeps

    kept-long : (o : Option Rule) → option_map_or is-plain o true ≡ true → (given : Option Text) (h : Held) → long_fault c false o given h ≡ [] → Keeps h
        → Keeps (long_met c o given h).0
    kept-long None once given h e keeps = absurd (a-kind kind.UnknownArgument [] e)
    kept-long (Some a) once given h e keeps = go (takes_values a) e
      where
        go : (b : Bool) → (if b then option_fault c false a given h else (if is_some given then kind.TooManyValues ∷ [] else react_fault c false a [] h)) ≡ []
            → Keeps (if b then option_met c a given h else flag_met c a given h).0
        go true e = kept-option a once given h e keeps
        go false e = kept-flag a once given h e keeps

    kept-bundle : (k : ℕ) (flags : Text) (out : Outcome) (h : Held) → flags_fault c false k flags 0 h ≡ [] → Keeps h → Keeps (bundle_met c k flags 0 out h).0
    unfolding flags_fault bundle_met
    kept-bundle zero flags out h e keeps = keeps
    kept-bundle (suc k) flags out h e keeps = by-char (λ rest g. kept-bundle k rest done g) (slice_get (chars flags) 0) e
      where
        by-flag : ((rest : Text) (g : Held) → flags_fault c false k rest 0 g ≡ [] → Keeps g → Keeps (bundle_met c k rest 0 done g).0)
            → (rest : Text) (o : Option Rule) → option_map_or is-plain o true ≡ true → short_fault c false o rest h (flags_fault c false k rest 0) ≡ []
            → Keeps (short_met c o rest h (bundle_met c k rest 0 done)).0
        by-flag later rest None once e = absurd (a-kind kind.UnknownArgument [] e)
        by-flag later rest (Some a) once e = go (takes_values a) e
          where
            go : (b : Bool)
                → (if b then option_fault c false a (attached_value rest) h else or_else (react_fault c false a [] h) (flags_fault c false k rest 0 (reacted c a [] h))) ≡ []
                → Keeps (if b then option_met c a (attached_value rest) h else bundle_met c k rest 0 done (reacted c a [] h)).0
            go true e = kept-option a once (attached_value rest) h e keeps
            go false e =
                let parts = both-none (react_fault c false a [] h) (flags_fault c false k rest 0 (reacted c a [] h)) e in
                later rest (reacted c a [] h) parts.1 (kept-reacted a once [] h parts.0 keeps)

        by-char : ((rest : Text) (g : Held) → flags_fault c false k rest 0 g ≡ [] → Keeps g → Keeps (bundle_met c k rest 0 done g).0)
            → (x : Option ℕ) → bundle_step_fault c false x flags 0 h (flags_fault c false k) ≡ [] → Keeps (bundle_step c x flags 0 out h (bundle_met c k)).0
        by-char later None e = keeps
        by-char later (Some x) e = by-flag later (drop (length (encode_utf8 x)) flags) (arg_by_short c x) (found-plain (λ a. not (is_some a.index) && has_short a x)) e

    kept-plain : (waiting : Waiting) (word : Text) (h : Held) → Keeps h → Keeps (plain_word c waiting word h).0
    kept-plain idle word h keeps = keeps
    kept-plain positional word h keeps = keeps
    kept-plain (option id) word h keeps = go (arg_by_id c id)
      where
        go : (o : Option Rule) → Keeps (option_word o id word h).0
        go None = keeps
        go (Some a) = keeps

    kept-after : (waiting : Waiting) (word : Text) (h : Held) (outcome : Outcome) → Keeps h → Keeps (after_flag c waiting word h outcome).0
    kept-after waiting word h done keeps = keeps
    kept-after waiting word h (waits id) keeps = keeps
    kept-after waiting word h plain keeps = kept-plain waiting word h keeps
    kept-after waiting word h refused keeps = kept-plain waiting word h keeps

    kept-short : (waiting : Waiting) (word : Text) (flags : Option Text) (h : Held) → option_map_or (λ fs. bundle_fault c false fs h) flags [] ≡ [] → Keeps h
        → Keeps (short_or_plain c waiting word flags h).0
    kept-short waiting word None h e keeps = kept-plain waiting word h keeps
    kept-short waiting word (Some flags) h e keeps = kept-after waiting word (bundle c flags h).0 (bundle c flags h).1 (at-skip h.skip keeps.1 e)
      where
        at-skip : (skip : ℕ) → skip ≡ 0 → flags_fault c false (length flags) flags skip (record h { skip = 0 }) ≡ [] → Keeps (bundle_met c (length flags) flags skip plain (record h { skip = 0 })).0
        at-skip skip is =
            subst (λ n. flags_fault c false (length flags) flags n (record h { skip = 0 }) ≡ [] → Keeps (bundle_met c (length flags) flags n plain (record h { skip = 0 })).0) (sym is)
            (λ e. kept-bundle (length flags) flags plain (record h { skip = 0 }) e (keeps.0, refl))

    kept-dashed : (waiting : Waiting) (word : Text) (long : Option (Text × Option Text)) (h : Held) → flag_word_fault c false long word h ≡ [] → Keeps h
        → Keeps (long_or_other c waiting word long h).0
    kept-dashed waiting word (Some p) h e keeps =
        let o = arg_by_long c p.0 in
        kept-after waiting word (long_met c o p.1 h).0 (long_met c o p.1 h).1
        (kept-long o (found-plain (λ a. not (is_some a.index) && has_long a p.0)) p.1 h e keeps)
    kept-dashed waiting word None h e keeps = kept-short waiting word (short_of word) h e keeps

    kept-positional : (o : Option Rule) (word : Text) (w : Walk) (h : Held) (none : Kinds) → option_map_or (λ a. positional_fault c false a h) o none ≡ [] → Keeps h
        → Keeps (to_positional c o word w h).held
    kept-positional None word w h none e keeps = keeps
    kept-positional (Some a) word w h none e keeps = go (is_pending a h.pending && takes_several a) e
      where
        go : (b : Bool) → (if b then [] else settle_fault c false h) ≡ [] → Keeps (pushed a.id word (if b then h else settled c h))
        go true e = keeps
        go false e = (kept-settled h e keeps.0, keeps.1)

  -- ---- the line

  all-once : list_all is-plain RULES ≡ true
  all-once = refl

  no-subcommand : (waiting : Waiting) (word : Text) → subcommand_met [] waiting word ≡ None
  no-subcommand idle word = refl
  no-subcommand positional word = refl
  no-subcommand (option id) word = refl

  kept-word : (is_trailing : Bool) (waiting : Waiting) (position : ℕ) (word : Text) (h : Held) → word_fault SHAPE [] is_trailing waiting word h ≡ []
      → Keeps RULES all-once h → Keeps RULES all-once (word_met RULES [] is_trailing waiting position word h).0
  kept-word true waiting position word h e keeps = keeps
  kept-word false waiting position word h e keeps = go (subcommand_met [] waiting word) (no-subcommand waiting word) e
    where
      dashes : (b : Bool) → (if b then [] else flag_word_fault RULES false (long_of word) word h) ≡ []
          → Keeps RULES all-once (if b then (h, trailing position) else long_or_other RULES waiting word (long_of word) h).0
      dashes true e = keeps
      dashes false e = kept-dashed RULES all-once waiting word (long_of word) h e keeps

      go : (met : Option Text) → met ≡ None → other_fault SHAPE met word h ≡ [] → Keeps RULES all-once (subcommand_or_other RULES met waiting position word h).0
      go None is e = dashes (bytes_eq word (45 ∷ 45 ∷ [])) e
      go (Some name) is e = absurd (none≢some name (sym is))

  kept-step : (word : Text) (w : Walk) (h : Held) (step : Step) → step_fault SHAPE w.position h step ≡ [] → Keeps RULES all-once h → Keeps RULES all-once (after_step RULES word w h step).held
  kept-step word w h (next waiting) e keeps = keeps
  kept-step word w h (trailing position) e keeps = keeps
  kept-step word w h (subcommand name) e keeps = keeps
  kept-step word w h value e keeps = kept-positional RULES all-once (arg_by_index RULES w.position) word w h (stray_fault SHAPE) e keeps

  kept-turn : (w : Walk) (word : Text) → turn_fault SHAPE [] w word ≡ [] → Keeps RULES all-once w.held → Keeps RULES all-once (walked RULES [] w word).held
  unfolding walked
  kept-turn w word e keeps = go w.stopped e
    where
      go : (stopped : Option (Text × List Text))
          → (if is_some stopped then [] else or_else (word_fault SHAPE [] w.is_trailing w.waiting word w.held)
          (step_fault SHAPE w.position (word_met RULES [] w.is_trailing w.waiting w.position word w.held).0 (word_met RULES [] w.is_trailing w.waiting w.position word w.held).1)) ≡ []
          → Keeps RULES all-once (walked_from RULES [] stopped w word).held
      go (Some p) e = keeps
      go None e =
          let parts = both-none _ _ e in
          kept-step word w _ (word_met RULES [] w.is_trailing w.waiting w.position word w.held).1 parts.1 (kept-word w.is_trailing w.waiting w.position word w.held parts.0 keeps)

  kept-walk : (words : List Text) (w : Walk) → walk_fault SHAPE [] w words ≡ [] → Keeps RULES all-once w.held → Keeps RULES all-once (fold (walked RULES []) w words).held
  unfolding walk_fault
  kept-walk [] w e keeps = keeps
  kept-walk (word ∷ rest) w e keeps =
      let parts = both-none (turn_fault SHAPE [] w word) (walk_fault SHAPE [] (walked RULES [] w word) rest) e in
      kept-walk rest (walked RULES [] w word) parts.1 (kept-turn w word parts.0 keeps)

  kept-default : (rows : List Row) (a : Rule) → Named rows → Named (with_default rows a)
  kept-default rows a named = go (has_row a.id rows) refl
    where
      filled : (defaults : List Text) → has_row a.id rows ≡ false → Named (default_rows a.id (reading_by a) defaults rows)
      filled [] new = named
      filled (v ∷ vs) new = kept-new a.id (reading_by a) DefaultValue (v ∷ vs) rows new named

      go : (b : Bool) → has_row a.id rows ≡ b → Named (if b then rows else default_rows a.id (reading_by a) a.defaults rows)
      go true e = named
      go false e = filled a.defaults e

  kept-defaults : (rules : List Rule) (rows : List Row) → Named rows → Named (fold with_default rows rules)
  kept-defaults [] rows named = named
  kept-defaults (a ∷ rules) rows named = kept-defaults rules (with_default rows a) (kept-default rows a named)

  -- such a text is found, if nothing else is
  pub refused-behind : (words : List Text) (w : Walk) → Named w.held.rows → w.held.skip ≡ 0 → names_seed text ≡ false → faults-from w words ≡ [] → ⊥
  refused-behind words w named skip is e =
      let end : Walk = fold (walked RULES []) w words in
      let parts = both-none (or_else (walk_fault SHAPE [] w words) (end-faults end)) (faults_in (finished RULES end.held)) e in
      let walk = both-none (walk_fault SHAPE [] w words) (end-faults end) parts.0 in
      let settling = both-none (settle_fault RULES SHAPE.args_override_self end.held) _ (both-none (entered_fault BUILT end.stopped) _ walk.1).1 in
      let held = kept-walk words w walk.0 (named, skip) in
      let last = kept-defaults RULES (settled RULES end.held).rows (kept-settled RULES all-once end.held settling.0 held.0) in
      a-kind kind.ValueValidation [] (sym (rw (last, is) refl) ∙ parts.1)
