-- Each item of a script has one reading.
use Rattle.std.proofs.Common.{◌≡◌, ℕ, ◌≤◌, Bool, true, false, cond, List, [], ◌∷◌, ◌++◌, length, Option, Some, None, refl, sym, ap, subst, ◌∙◌, arith}
use Rattle.std.proofs.lemmas.Bool.{ltb-false, ltb-true}
use Rattle.std.proofs.lemmas.List.Elements.{All-nil, All-cons}
use Rattle.std.specs.List.{All}
use Rattle.std.specs.Prelude.{nat_lt}
use Rattle.gq_row.specs.declared.limits.Bounds.{Bounds}
use Rattle.gq_token.specs.Lexing.{tokens}
use Rattle.gq_command.specs.declared.command.Command.{Command}
use Rattle.gq_command.specs.declared.command.Command.TheVariants.{Load}
use Rattle.gq_command.specs.declared.command.Payload.{Payload}
use Rattle.gq_command.specs.declared.command.Payload.TheVariants as payload
use Rattle.gq_command.specs.declared.lines.LineRefusal.{LineRefusal}
use Rattle.gq_command.specs.declared.lines.LineRefusal.TheVariants as refusal
use Rattle.gq_command.specs.declared.reader.Item.{Item}
use Rattle.gq_command.specs.declared.reader.Item.TheVariants as item
use Rattle.gq_command.specs.Commands.{Bytes, fits}
use Rattle.gq_command.specs.Items.{Represents, IsRefusalOf, ReadsAs}
use Rattle.gq_command.specs.Lines.{Says, command_on}
use Rattle.gq_command.specs.Readings.{HasOneReading, ReadsOnce}
use Rattle.gq_script.specs.Script.{Plain, Loading, entries_by, raw_lines, content, is_skipped, is_end_mark, takes_payload, without_mark}
use Rattle.gq_command.proofs.Again.{one_command}
use Rattle.gq_command.proofs.Line.{line_sound, none_said}
use Rattle.gq_command.proofs.LoadWord.{said_load}

some_is : {A : Type 0} (x y : A) → Some x ≡ Some y → x ≡ y
some_is x y e = cc

said_once : (line : Bytes) (c d : Command) → Says line c → Says line d → c ≡ d
said_once line c d s t = one_command (tokens line) c d s t

-- what is refused is refused so, and says no command within the limits

refused_once : (b : Bounds) (line : Bytes) (r s : LineRefusal) → IsRefusalOf b line r → IsRefusalOf b line s → r ≡ s
refused_once b line refusal.LineTooLong refusal.LineTooLong h k = refl
refused_once b line refusal.LineTooLong refusal.Syntax h k = absurd (omega (arith, k.0))
refused_once b line refusal.LineTooLong refusal.Limit h k = absurd (omega (arith, k.0))
refused_once b line refusal.LineTooLong refusal.Memory h k = absurd k
refused_once b line refusal.Syntax refusal.LineTooLong h k = absurd (omega (arith, h.0))
refused_once b line refusal.Syntax refusal.Syntax h k = refl
refused_once b line refusal.Syntax refusal.Limit h k = absurd (h.1 k.1.0 k.1.1)
refused_once b line refusal.Syntax refusal.Memory h k = absurd k
refused_once b line refusal.Limit refusal.LineTooLong h k = absurd (omega (arith, h.0))
refused_once b line refusal.Limit refusal.Syntax h k = absurd (k.1 h.1.0 h.1.1)
refused_once b line refusal.Limit refusal.Limit h k = refl
refused_once b line refusal.Limit refusal.Memory h k = absurd k
refused_once b line refusal.Memory s h k = absurd h

not_refused : (b : Bounds) (line : Bytes) (c : Command) (r : LineRefusal) → length line ≤ b.line → Says line c → fits b c ≡ true → IsRefusalOf b line r → ⊥
not_refused b line c refusal.LineTooLong le s f h = omega arith
not_refused b line c refusal.Syntax le s f h = h.1 c s
not_refused b line c refusal.Limit le s f h =
    let same : h.1.0 ≡ c = said_once line h.1.0 c h.1.1 s in
    let g : false ≡ true = sym h.1.2 ∙ ap (fits b) same ∙ f in
    absurd cc
not_refused b line c refusal.Memory le s f h = h

-- a plain line

plain_once : (b : Bounds) (line : Bytes) (x y : Item) → ReadsAs b (Plain line) x → ReadsAs b (Plain line) y → x ≡ y
plain_once b line (item.Command c) (item.Command d) h k = ap item.Command (said_once line c d h.1.0 k.1.0)
plain_once b line (item.Command c) (item.Refused s) h k = absurd (not_refused b line c s h.0 h.1.0 h.1.1 k)
plain_once b line (item.Refused r) (item.Command d) h k = absurd (not_refused b line d r k.0 k.1.0 k.1.1 h)
plain_once b line (item.Refused r) (item.Refused s) h k = ap item.Refused (refused_once b line r s h k)

plain_some : (b : Bounds) (line : Bytes) → (it : Item) × ReadsAs b (Plain line) it
plain_some b line = by_length (nat_lt b.line (length line)) refl
  where
    by_fit : (c : Command) (t : Bool) → length line ≤ b.line → Says line c → fits b c ≡ t → (it : Item) × ReadsAs b (Plain line) it
    by_fit c true le s e = (item.Command c, (le, (s, e)))
    by_fit c false le s e = (item.Refused refusal.Limit, (le, (c, s, e)))

    by_command : (o : Option Command) → length line ≤ b.line → command_on line ≡ o → (it : Item) × ReadsAs b (Plain line) it
    by_command None le e = (item.Refused refusal.Syntax, (le, none_said line e))
    by_command (Some c) le e = by_fit c (fits b c) le (line_sound line c e) refl

    by_length : (t : Bool) → nat_lt b.line (length line) ≡ t → (it : Item) × ReadsAs b (Plain line) it
    by_length true e = (item.Refused refusal.LineTooLong, ltb-true b.line (length line) e)
    by_length false e = by_command (command_on line) (ltb-false b.line (length line) e) refl

plain_reads : (b : Bounds) (line : Bytes) → HasOneReading b (Plain line)
plain_reads b line =
    let some = plain_some b line in
    record { reading = some.0; reads = some.1; only = λ other h. plain_once b line other some.0 h some.1 }

-- a line with its payload

represents_once : (most : ℕ) (given : Option Bytes) (p q : Payload) → Represents most given p → Represents most given q → p ≡ q
represents_once most given (payload.Bytes x) (payload.Bytes y) h k = let e = sym h.0 ∙ k.0 in cc
represents_once most given (payload.Bytes x) payload.Open h k = let e : ◌≡◌ {A = Option Bytes} (Some x) None = sym h.0 ∙ k in absurd cc
represents_once most given (payload.Bytes x) payload.TooLong h k =
    let e : ◌≡◌ {A = Option Bytes} (Some x) (Some k.0) = sym h.0 ∙ k.1 in
    let same : length x ≡ length k.0 = ap length (some_is x k.0 e) in
    absurd (omega (arith, h.1, k.2))
represents_once most given payload.Open (payload.Bytes y) h k = let e : ◌≡◌ {A = Option Bytes} (Some y) None = sym k.0 ∙ h in absurd cc
represents_once most given payload.Open payload.Open h k = refl
represents_once most given payload.Open payload.TooLong h k = let e : ◌≡◌ {A = Option Bytes} (Some k.0) None = sym k.1 ∙ h in absurd cc
represents_once most given payload.TooLong (payload.Bytes y) h k =
    let e : ◌≡◌ {A = Option Bytes} (Some y) (Some h.0) = sym k.0 ∙ h.1 in
    let same : length y ≡ length h.0 = ap length (some_is y h.0 e) in
    absurd (omega (arith, k.1, h.2))
represents_once most given payload.TooLong payload.Open h k = let e : ◌≡◌ {A = Option Bytes} (Some h.0) None = sym h.1 ∙ k in absurd cc
represents_once most given payload.TooLong payload.TooLong h k = refl
represents_once most given payload.NoMemory q h k = absurd h
represents_once most given (payload.Bytes x) payload.NoMemory h k = absurd k
represents_once most given payload.Open payload.NoMemory h k = absurd k
represents_once most given payload.TooLong payload.NoMemory h k = absurd k

pub represents_some : (most : ℕ) (given : Option Bytes) → (p : Payload) × Represents most given p
represents_some most None = (payload.Open, refl)
represents_some most (Some bytes) = by_length (nat_lt most (length bytes)) refl
  where
    by_length : (t : Bool) → nat_lt most (length bytes) ≡ t → (p : Payload) × Represents most (Some bytes) p
    by_length true e = (payload.TooLong, (bytes, refl, ltb-true most (length bytes) e))
    by_length false e = (payload.Bytes bytes, (refl, ltb-false most (length bytes) e))

load_named : (s t : Bytes) → Load s payload.Open ≡ Load t payload.Open → s ≡ t
load_named s t e = cc

loading_once : (b : Bounds) (line : Bytes) (given : Option Bytes) (x y : Item) → ReadsAs b (Loading line given) x → ReadsAs b (Loading line given) y → x ≡ y
loading_once b line given (item.Command c) (item.Command d) h k =
    let tables : h.1.0 ≡ k.1.0 = load_named h.1.0 k.1.0 (said_once line (Load h.1.0 payload.Open) (Load k.1.0 payload.Open) h.1.3 k.1.3) in
    let payloads : h.1.1 ≡ k.1.1 = represents_once b.payload given h.1.1 k.1.1 h.1.5 k.1.5 in
    ap item.Command (h.1.2 ∙ ap (λ (t : Bytes). Load t h.1.1) tables ∙ ap (Load k.1.0) payloads ∙ sym k.1.2)
loading_once b line given (item.Command c) (item.Refused s) h k = absurd (not_refused b line (Load h.1.0 payload.Open) s h.0 h.1.3 h.1.4 k)
loading_once b line given (item.Refused r) (item.Command d) h k = absurd (not_refused b line (Load k.1.0 payload.Open) r k.0 k.1.3 k.1.4 h)
loading_once b line given (item.Refused r) (item.Refused s) h k = ap item.Refused (refused_once b line r s h k)

loading_some : (b : Bounds) (line : Bytes) (given : Option Bytes) → takes_payload b line ≡ true → (it : Item) × ReadsAs b (Loading line given) it
loading_some b line given takes = by_plain (plain_some b line).0 (plain_some b line).1
  where
    by_plain : (it : Item) → ReadsAs b (Plain line) it → (it : Item) × ReadsAs b (Loading line given) it
    by_plain (item.Refused r) h = (item.Refused r, h)
    by_plain (item.Command c) h =
        let load = said_load b line c takes h.0 h.1.0 in
        let carried = represents_some b.payload given in
        (item.Command (Load load.0 carried.0), (h.0, (load.0, carried.0, refl, subst (Says line) load.1 h.1.0, sym (ap (fits b) load.1) ∙ h.1.1, carried.1)))

loading_reads : (b : Bounds) (line : Bytes) (given : Option Bytes) → takes_payload b line ≡ true → HasOneReading b (Loading line given)
loading_reads b line given takes =
    let some = loading_some b line given takes in
    record { reading = some.0; reads = some.1; only = λ other h. loading_once b line given other some.0 h some.1 }

-- the items of lines, one after the other

module _ (b : Bounds) where
  abbrev Each : Option (Bytes × Bytes) → List Bytes → Type 0
  Each begun ls = All (HasOneReading b) (entries_by (takes_payload b) begun ls)

  -- outside of a payload, and in one
  abbrev Read : List Bytes → Type 0
  Read ls = Each None ls × ((line begun : Bytes) → takes_payload b line ≡ true → Each (Some (line, begun)) ls)

  all_read : (ls : List Bytes) → Read ls
  unfolding entries_by
  all_read [] = (All-nil (HasOneReading b), λ line begun takes. All-cons (HasOneReading b) (Loading line None) [] (loading_reads b line None takes) (All-nil (HasOneReading b)))
  all_read (l ∷ ls) =
      let rest = all_read ls in
      (by_skip (is_skipped (content l)) rest, λ line begun takes. by_mark line begun takes (is_end_mark (content l)) rest)
    where
      by_load : (t : Bool) → takes_payload b (content l) ≡ t → Read ls
          → All (HasOneReading b) (cond t (entries_by (takes_payload b) (Some (content l, [])) ls) (Plain (content l) ∷ entries_by (takes_payload b) None ls))
      by_load true e rest = rest.1 (content l) [] e
      by_load false e rest = All-cons (HasOneReading b) (Plain (content l)) (entries_by (takes_payload b) None ls) (plain_reads b (content l)) rest.0

      by_skip : (t : Bool) → Read ls
          → All (HasOneReading b) (cond t (entries_by (takes_payload b) None ls) (cond (takes_payload b (content l)) (entries_by (takes_payload b) (Some (content l, [])) ls) (Plain (content l) ∷ entries_by (takes_payload b) None ls)))
      by_skip true rest = rest.0
      by_skip false rest = by_load (takes_payload b (content l)) refl rest

      by_mark : (line begun : Bytes) → takes_payload b line ≡ true → (t : Bool) → Read ls
          → All (HasOneReading b) (cond t (Loading line (Some begun) ∷ entries_by (takes_payload b) None ls) (entries_by (takes_payload b) (Some (line, begun ++ l)) ls))
      by_mark line begun takes true rest = All-cons (HasOneReading b) (Loading line (Some begun)) (entries_by (takes_payload b) None ls) (loading_reads b line (Some begun) takes) rest.0
      by_mark line begun takes false rest = rest.1 line (begun ++ l) takes

pub reads_once : ReadsOnce
reads_once b script = (all_read b (raw_lines (without_mark script))).0
