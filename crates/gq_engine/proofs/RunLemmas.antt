-- A run goes on by one item, and ends.
use Rattle.std.proofs.Common.{◌≡◌, ◌+◌, inl, inr, ◌≤◌, ℕ, Bool, true, false, List, [], ◌∷◌, ◌++◌, length, Option, Some, None, Result, Ok, Err, refl, sym, ap, ◌∙◌, subst, append_assoc, arith, cond, add-zero, length-append}
use Rattle.std.specs.Prelude.{count_by, ⊤, IfSome, ◌||◌}
use Rattle.std.specs.List.{list_any}
use Rattle.std.specs.Io.KnownBytes.{Appends}
use Rattle.std.proofs.lemmas.List.{map-append}
use Rattle.std.proofs.lemmas.List.Sums.{fold-append, sum_by-cons}
use Rattle.gq_row.specs.declared.limits.Bounds.{Bounds}
use Rattle.gq_command.specs.declared.reader.Item.{Item}
use Rattle.gq_command.specs.declared.reader.Item.TheVariants as item
use Rattle.gq_command.specs.declared.lines.LineRefusal.TheVariants as line
use Rattle.gq_command.specs.Commands.{Bytes}
use Rattle.gq_command.specs.Script.{Entry, Numbered, entries_of, items_left, numbered, numbered_left, without_mark}
use Rattle.gq_command.specs.Items.{Gave, IsReadAs, Pending}
use Rattle.gq_command.proofs.NumberLemmas.{none_numbered}
use Rattle.gq_reply.specs.declared.refusal.Refusal.TheVariants.{Memory}
use Rattle.gq_reply.specs.declared.reply.Reply.{Reply}
use Rattle.gq_engine.specs.declared.run.Summary.{Summary}
use Rattle.gq_engine.specs.declared.run.Fault.{Fault}
use Rattle.gq_engine.specs.declared.run.Fault.TheVariants as fault
use Rattle.gq_reply.specs.Sending.{AppendsPrefix}
use Rattle.gq_engine.specs.Databases.{Database, IsKeyed}
use Rattle.gq_reply.specs.Refusals.{refused}
use Rattle.gq_reply.specs.Replies.{is_refusal}
use Rattle.gq_engine.specs.Runs.{Setting, LegalAnswer, AsListsAnswer, WantsMemory, StoreFailed, StoreLied, AnsweredAlike, LegalStep, LegalRun, SameTables, FaultsHappened, is_store_fault}
use Rattle.gq_engine.specs.Headline.{State}
use Rattle.gq_engine.specs.declared.output.Output.{Output}
use Rattle.gq_engine.specs.Outputs.{AreComplaints, RanAs, Complains, complaint, is_result, text_as, texts}
use Rattle.gq_engine.specs.Serving.{Wrote, WrotePrefix}
use Rattle.gq_engine.proofs.OutputLemmas.{Reported, any_push, complaints_push, reported_as_prefix, reported_more, reported_nothing, texts_push}
use Rattle.gq_engine.proofs.OrderLemmas.{same_tables, answer_lost, answered_from, keyed_after}
use Rattle.gq_reply.proofs.Bytes.{appends_more, appends_nothing, prefix_longer}

-- what stays the same in a run
pub record Course : Type 0 where
  pub output : Output
  pub setting : Setting
  pub old : State
  pub script : Option Bytes
  pub before : Option Bytes
  pub errors : Option Bytes

-- how far a run came: its tables and reader, what its two streams have, whether a result came and the standard error still takes bytes, and its counts
pub record Point : Type 0 where
  pub now : State
  pub reader : Pending
  pub after : Option Bytes
  pub reported : Option Bytes
  pub earlier : Bool
  pub is_open : Bool
  pub commands : ℕ
  pub refused : ℕ

-- a run so far: the entries that were answered, and the bytes that are left
pub record SoFar (c : Course) (script : Bytes) (p : Point) : Type 0 where
  pub rest : Bytes
  pub counted : p.reader.given + length rest ≡ length script
  pub left_is : p.reader.left ≡ Some rest
  pub done : List Numbered
  pub first : numbered c.setting.limits script ≡ done ++ numbered_left c.setting.limits p.reader.lines rest
  pub replies : List Reply
  pub answers : length done ≡ length replies
  pub last : Database
  pub legal : LegalRun c.setting c.old.database (entries_of done) replies last
  pub same : SameTables last p.now.database
  pub keyed : IsKeyed last
  pub faults : FaultsHappened replies c.old.failures p.now.failures
  pub written : Appends c.before p.after (texts c.output replies)
  pub earlier_is : p.earlier ≡ list_any is_result replies
  pub said : Bytes
  pub complaints : AreComplaints c.output done replies said
  pub complained : Reported p.is_open c.errors p.reported said
  pub commands : p.commands ≡ length replies
  pub refusals : p.refused ≡ count_by is_refusal replies

abbrev pub going : Course → Option Bytes → Point → Type 0
going c None p = ⊤
going c (Some script) p = SoFar c script p

abbrev pub Going : Course → Point → Type 0
Going c p = going c c.script p

run_more : (setting : Setting) (old : Database) (entries : List Entry) (replies : List Reply) (between : Database) (entry : Entry) (reply : Reply) (new : Database)
    → LegalRun setting old entries replies between → LegalStep setting between entry reply new → LegalRun setting old (entries ++ entry ∷ []) (replies ++ reply ∷ []) new
run_more setting old [] [] between entry reply new h s = (new, let P : Database → Type 0 = λ d. LegalStep setting d entry reply new in subst P h s, refl)
run_more setting old [] (a ∷ rs) between entry reply new h s = absurd h
run_more setting old (l ∷ ls) [] between entry reply new h s = absurd h
run_more setting old (l ∷ ls) (a ∷ rs) between entry reply new h s = (h.0, h.1, run_more setting h.0 ls rs between entry reply new h.2 s)

-- with one item more
entries_push : (xs : List Numbered) (x : Numbered) → entries_of (xs ++ x ∷ []) ≡ entries_of xs ++ x.entry ∷ []
entries_push xs x = map-append (λ (x : Numbered). x.entry) xs (x ∷ [])

items_more : (setting : Setting) (old : Database) (items : List Numbered) (replies : List Reply) (between : Database) (item : Numbered) (reply : Reply) (new : Database)
    → LegalRun setting old (entries_of items) replies between → LegalStep setting between item.entry reply new → LegalRun setting old (entries_of (items ++ item ∷ [])) (replies ++ reply ∷ []) new
items_more setting old items replies between item reply new h s =
    subst (λ (entries : List Entry). LegalRun setting old entries (replies ++ reply ∷ []) new) (sym (entries_push items item)) (run_more setting old (entries_of items) replies between item.entry reply new h s)

-- a refusal of a line groups nothing
no_store : (setting : Setting) (between : Database) (reply : Reply) (new : Database) → LegalAnswer setting between (item.Refused line.Memory) reply new → (new ≡ between) × (reply ≡ refused Memory)
no_store setting between reply new (AsListsAnswer said) = (ap (λ q. q.0) said, ap (λ q. q.1) said)
no_store setting between reply new (WantsMemory kept memory) = (kept, memory)
no_store setting between reply new (StoreFailed kept grouping fault) = absurd grouping
no_store setting between reply new (StoreLied kept grouping lied) = absurd grouping

-- an answer to what was read of an entry is a step of the entry
step_of : (setting : Setting) (between : Database) (entry : Entry) (it : Item) (reply : Reply) (new : Database) → IsReadAs setting.limits entry it → LegalAnswer setting between it reply new → LegalStep setting between entry reply new
step_of setting between entry it reply new r h =
    let P : Item → Type 0 = λ i. LegalAnswer setting between i reply new in
    elim r as (λ _. LegalStep setting between entry reply new) [
      | inl p ↦ inl (it, p, h)
      | inr (inl e) ↦ inr (no_store setting between reply new (subst P e h))
      | inr (inr lost) ↦ inr (answer_lost setting between new lost.table reply (subst P lost.is h))
    ]

pub begin : (c : Course) (reader : Pending) → IsKeyed c.old.database → IfSome c.script (λ bytes. reader.left ≡ Some (without_mark bytes)) → IfSome c.script (λ bytes. reader.given + length (without_mark bytes) ≡ length bytes) → reader.lines ≡ 0
    → Going c (record { now = c.old; reader = reader; after = c.before; reported = c.errors; earlier = false; is_open = true; commands = 0; refused = 0 })
begin c reader k h counted none = begin_at c.script h counted
  where
    start : Point
    start = record { now = c.old; reader = reader; after = c.before; reported = c.errors; earlier = false; is_open = true; commands = 0; refused = 0 }

    begin_at : (script : Option Bytes) → IfSome script (λ bytes. reader.left ≡ Some (without_mark bytes)) → IfSome script (λ bytes. reader.given + length (without_mark bytes) ≡ length bytes) → going c script start
    begin_at None h counted = tt
    begin_at (Some script) h counted = record {
      rest = without_mark script;
      counted = counted;
      left_is = h;
      done = [];
      first = ap (λ (n : ℕ). numbered_left c.setting.limits n (without_mark script)) (sym none);
      replies = [];
      answers = refl;
      last = c.old.database;
      legal = refl;
      same = same_tables c.old.database;
      keyed = k;
      faults = omega arith;
      written = appends_nothing c.before;
      earlier_is = refl;
      said = [];
      complaints = refl;
      complained = reported_nothing c.errors;
      commands = refl;
      refusals = refl;
    }

add_cond : (b : Bool) (n : ℕ) → n + cond b 1 0 ≡ cond b (n + 1) n
add_cond true n = refl
add_cond false n = add-zero n

count_by-push : (p : Reply → Bool) (xs : List Reply) (x : Reply) → count_by p (xs ++ x ∷ []) ≡ cond (p x) (count_by p xs + 1) (count_by p xs)
count_by-push p xs x = fold-append (λ a y. a + cond (p y) 1 0) 0 xs (x ∷ []) ∙ add_cond (p x) (count_by p xs)

pub count_by-first : (p : Reply → Bool) (xs : List Reply) (x : Reply) → count_by p (x ∷ xs) ≡ cond (p x) (count_by p xs + 1) (count_by p xs)
count_by-first p xs x = sum_by-cons (λ y. cond (p y) 1 0) x xs ∙ added (p x) (count_by p xs)
  where
    added : (b : Bool) (n : ℕ) → cond b 1 0 + n ≡ cond b (n + 1) n
    added true n = omega arith
    added false n = omega arith

one_fault_more : (b : Bool) (n before between after : ℕ) → before + n ≤ between → between + (0 + cond b 1 0) ≤ after → before + cond b (n + 1) n ≤ after
one_fault_more true n before between after h k = omega arith
one_fault_more false n before between after h k = omega arith

faults_more : (replies : List Reply) (reply : Reply) (before between after : ℕ) → FaultsHappened replies before between → FaultsHappened (reply ∷ []) between after → FaultsHappened (replies ++ reply ∷ []) before after
faults_more replies reply before between after h k =
    let P : ℕ → Type 0 = λ n. before + n ≤ after in
    subst P (sym (count_by-push is_store_fault replies reply)) (one_fault_more (is_store_fault reply) (count_by is_store_fault replies) before between after h k)

-- no byte is lost from the count
abbrev Counted : Pending → Pending → Type 0
Counted reader reader' = IfSome reader.left (λ xs. IfSome reader'.left (λ ys. reader'.given + length ys ≡ reader.given + length xs))

counted_on : (reader reader' : Pending) (xs ys : Bytes) → reader.left ≡ Some xs → reader'.left ≡ Some ys → Counted reader reader' → reader'.given + length ys ≡ reader.given + length xs
counted_on reader reader' xs ys e f counted =
    let P : Option Bytes → Type 0 = λ o. IfSome o (λ xs. IfSome reader'.left (λ ys. reader'.given + length ys ≡ reader.given + length xs)) in
    let Q : Option Bytes → Type 0 = λ o. IfSome o (λ ys. reader'.given + length ys ≡ reader.given + length xs) in
    subst Q f (subst P e counted)

-- the next item of the bytes that are left, with the number of its line
abbrev GaveNext : Bounds → Pending → Bytes → Pending → Item → Type 0
GaveNext b reader bytes reader' it = Gave b reader.lines bytes reader'.left reader'.lines reader'.line reader'.wrong it

-- one more item was answered, its text written, and a refusal reported
go_on : (c : Course) (script : Option Bytes) (p : Point) (reader' : Pending) (after' reported' : Option Bytes) (is_open' : Bool) (it : Item) (reply : Reply) (new : State)
    → going c script p → IfSome p.reader.left (λ bytes. GaveNext c.setting.limits p.reader bytes reader' it) → Counted p.reader reader' → Wrote c.output p.earlier c.setting p.now it new p.after after' reply → Complains c.setting.limits c.output reader'.line reader'.wrong reply p.is_open is_open' p.reported reported'
    → going c script (record { now = new; reader = reader'; after = after'; reported = reported'; earlier = p.earlier || is_result reply; is_open = is_open'; commands = p.commands + 1; refused = cond (is_refusal reply) (p.refused + 1) p.refused })
go_on c None p reader' after' reported' is_open' it reply new h given counted wrote reported = tt
go_on c (Some script) p reader' after' reported' is_open' it reply new h given counted wrote reported =
    let P : Option Bytes → Type 0 = λ o. IfSome o (λ bytes. GaveNext c.setting.limits p.reader bytes reader' it) in
    let gave : GaveNext c.setting.limits p.reader h.rest reader' it = subst P h.left_is given in
    let item : Numbered = record { number = reader'.line; entry = gave.entry } in
    let next : AnsweredAlike c.setting h.last it reply new.database = answered_from c.setting h.last p.now.database new.database it reply h.keyed h.same wrote.legal in
    record {
      rest = gave.rest;
      counted = counted_on p.reader reader' h.rest gave.rest h.left_is gave.left_is counted ∙ h.counted;
      left_is = gave.left_is;
      done = h.done ++ item ∷ [];
      first = h.first ∙ ap (λ l. h.done ++ l) gave.numbered ∙ sym (append_assoc h.done (item ∷ []) (numbered_left c.setting.limits reader'.lines gave.rest));
      replies = h.replies ++ reply ∷ [];
      answers = omega (arith, h.answers, length-append h.done (item ∷ []), length-append h.replies (reply ∷ []));
      last = next.last;
      legal = items_more c.setting c.old.database h.done h.replies h.last item reply next.last h.legal (step_of c.setting h.last gave.entry it reply next.last gave.reads next.legal);
      same = next.same;
      keyed = keyed_after c.setting h.last next.last it reply h.keyed next.legal;
      faults = faults_more h.replies reply c.old.failures p.now.failures new.failures h.faults wrote.faults;
      written =
          let text : Bytes = text_as c.output (list_any is_result h.replies) reply in
          let own : Appends p.after after' text = let Q : Bool → Type 0 = λ b. Appends p.after after' (text_as c.output b reply) in subst Q h.earlier_is wrote.written in
          let Q : Bytes → Type 0 = λ l. Appends c.before after' l in subst Q (sym (texts_push c.output h.replies reply)) (appends_more c.before p.after after' (texts c.output h.replies) text h.written own);
      earlier_is = ap (λ b. b || is_result reply) h.earlier_is ∙ sym (any_push h.replies reply);
      said = h.said ++ reported.text;
      complaints = complaints_push c.output h.done item h.replies reply h.said reported.text h.answers h.complaints (reported.about item refl gave.kept);
      complained = reported_more p.is_open is_open' c.errors p.reported reported' h.said reported.text h.complained reported.reported;
      commands = omega (arith, h.commands, length-append h.replies (reply ∷ []));
      refusals = ap (λ k. cond (is_refusal reply) (k + 1) k) h.refusals ∙ sym (count_by-push is_refusal h.replies reply);
    }

-- no item is left, and the reader is at its end
abbrev IsOver : Bounds → Pending → Pending → Type 0
IsOver b reader reader' = IfSome reader.left (λ bytes. (items_left b bytes ≡ []) × (reader'.left ≡ Some []))

-- the result of a run that stops here
abbrev Comes : Course → Option Bytes → Point → Result Summary Fault → Type 0
Comes c script p ended = RanAs c.output c.setting c.old script p.now c.before p.after c.errors p.reported ended

ended : (c : Course) (script : Option Bytes) (p : Point) (reader' : Pending)
    → going c script p → IsOver c.setting.limits p.reader reader' → Counted p.reader reader' → reader'.given ≤ c.setting.limits.script → Comes c script p (Ok (record { commands = p.commands; refused = p.refused }))
ended c None p reader' h none counted few = tt
ended c (Some script) p reader' h none counted few =
    let P : Option Bytes → Type 0 = λ o. IfSome o (λ bytes. (items_left c.setting.limits bytes ≡ []) × (reader'.left ≡ Some [])) in
    let there = subst P h.left_is none in
    let over : numbered_left c.setting.limits p.reader.lines h.rest ≡ [] = none_numbered c.setting.limits p.reader.lines h.rest there.0 in
    let all : reader'.given + 0 ≡ p.reader.given + length h.rest = counted_on p.reader reader' h.rest [] h.left_is there.1 counted in
    record {
      done = h.done;
      left = numbered_left c.setting.limits p.reader.lines h.rest;
      first = h.first;
      replies = h.replies;
      answered = record { last = h.last; legal = h.legal; same = h.same; faults = h.faults };
      wrote = h.written;
      said = h.said;
      complaints = h.complaints;
      complained = reported_as_prefix p.is_open c.errors p.reported h.said h.complained;
      ends = record {
        within = omega (arith, all, h.counted, few);
        nothing_left = over;
        commands = h.commands;
        refused = h.refusals;
      };
    }

-- a read failed
stopped : (c : Course) (script : Option Bytes) (p : Point) → going c script p → Comes c script p (Err fault.Read)
stopped c None p h = tt
stopped c (Some script) p h = record {
  done = h.done;
  left = numbered_left c.setting.limits p.reader.lines h.rest;
  first = h.first;
  replies = h.replies;
  answered = record { last = h.last; legal = h.legal; same = h.same; faults = h.faults };
  wrote = h.written;
  said = h.said;
  complaints = h.complaints;
  complained = reported_as_prefix p.is_open c.errors p.reported h.said h.complained;
  ends = tt;
}

pub stopped_reading : (c : Course) (p : Point) → Going c p → Comes c c.script p (Err fault.Read)
stopped_reading c p h = stopped c c.script p h

-- a write failed
cut : (c : Course) (script : Option Bytes) (p : Point) (reader' : Pending) (after' : Option Bytes) (it : Item) (new : State)
    → going c script p → IfSome p.reader.left (λ bytes. GaveNext c.setting.limits p.reader bytes reader' it) → WrotePrefix c.output p.earlier c.setting p.now it new p.after after'
    → RanAs c.output c.setting c.old script new c.before after' c.errors p.reported (Err fault.Write)
cut c None p reader' after' it new h given wrote = tt
cut c (Some script) p reader' after' it new h given wrote =
    let P : Option Bytes → Type 0 = λ o. IfSome o (λ bytes. GaveNext c.setting.limits p.reader bytes reader' it) in
    let gave : GaveNext c.setting.limits p.reader h.rest reader' it = subst P h.left_is given in
    let item : Numbered = record { number = reader'.line; entry = gave.entry } in
    let next : AnsweredAlike c.setting h.last it wrote.answer new.database = answered_from c.setting h.last p.now.database new.database it wrote.answer h.keyed h.same wrote.legal in
    let own : AppendsPrefix p.after after' (text_as c.output (list_any is_result h.replies) wrote.answer) = let Q : Bool → Type 0 = λ b. AppendsPrefix p.after after' (text_as c.output b wrote.answer) in subst Q h.earlier_is wrote.written in
    record {
      done = h.done ++ item ∷ [];
      left = numbered_left c.setting.limits reader'.lines gave.rest;
      first = h.first ∙ ap (λ l. h.done ++ l) gave.numbered ∙ sym (append_assoc h.done (item ∷ []) (numbered_left c.setting.limits reader'.lines gave.rest));
      replies = h.replies ++ wrote.answer ∷ [];
      answered = record {
        last = next.last;
        legal = items_more c.setting c.old.database h.done h.replies h.last item wrote.answer next.last h.legal (step_of c.setting h.last gave.entry it wrote.answer next.last gave.reads next.legal);
        same = next.same;
        faults = faults_more h.replies wrote.answer c.old.failures p.now.failures new.failures h.faults wrote.faults;
      };
      wrote = record {
        first = h.replies;
        last = wrote.answer;
        is = refl;
        prefix = own.prefix;
        rest = own.rest;
        cut = own.is;
        written = appends_more c.before p.after after' (texts c.output h.replies) own.prefix h.written own.appends;
      };
      said = h.said ++ complaint c.output reader'.line wrote.answer;
      complaints = complaints_push c.output h.done item h.replies wrote.answer h.said (complaint c.output reader'.line wrote.answer) h.answers h.complaints (inl refl);
      complained = prefix_longer c.errors p.reported h.said (complaint c.output reader'.line wrote.answer) (reported_as_prefix p.is_open c.errors p.reported h.said h.complained);
      ends = tt;
    }

-- the same, if the run's setting and limits are known at this item
pub ended_at : (c : Course) (p : Point) (here : Setting) (b : Bounds) (reader' : Pending) → here ≡ c.setting → b ≡ here.limits
    → Going c p → IsOver b p.reader reader' → Counted p.reader reader' → reader'.given ≤ b.script → Comes c c.script p (Ok (record { commands = p.commands; refused = p.refused }))
ended_at c p here b reader' e f h none counted few =
    let P : Bounds → Type 0 = λ k. IsOver k p.reader reader' in
    let Q : Bounds → Type 0 = λ k. reader'.given ≤ k.script in
    let g : b ≡ c.setting.limits = f ∙ ap (λ (s : Setting). s.limits) e in
    ended c c.script p reader' h (subst P g none) counted (subst Q g few)

pub go_on_at : (c : Course) (p : Point) (here : Setting) (b : Bounds) (reader' : Pending) (after' reported' : Option Bytes) (earlier' is_open' : Bool) (n' m' : ℕ) (it : Item) (output : Output) (there : Bounds) (reply : Reply) (new : State) → here ≡ c.setting → b ≡ here.limits
    → n' ≡ p.commands + 1 → m' ≡ cond (is_refusal reply) (p.refused + 1) p.refused → earlier' ≡ (p.earlier || is_result reply)
    → output ≡ c.output → there ≡ c.setting.limits → Going c p → IfSome p.reader.left (λ bytes. GaveNext b p.reader bytes reader' it) → Counted p.reader reader' → Wrote c.output p.earlier here p.now it new p.after after' reply → Complains there output reader'.line reader'.wrong reply p.is_open is_open' p.reported reported'
    → Going c (record { now = new; reader = reader'; after = after'; reported = reported'; earlier = earlier'; is_open = is_open'; commands = n'; refused = m' })
go_on_at c p here b reader' after' reported' earlier' is_open' n' m' it output there reply new e f q r t o at h given counted wrote reported =
    let P : Bounds → Type 0 = λ k. IfSome p.reader.left (λ bytes. GaveNext k p.reader bytes reader' it) in
    let O : Output → Type 0 = λ k. Complains there k reader'.line reader'.wrong reply p.is_open is_open' p.reported reported' in
    let A : Bounds → Type 0 = λ k. Complains k c.output reader'.line reader'.wrong reply p.is_open is_open' p.reported reported' in
    let Q : Setting → Type 0 = λ s. Wrote c.output p.earlier s p.now it new p.after after' reply in
    let N : ℕ → Type 0 = λ k. Going c (record { now = new; reader = reader'; after = after'; reported = reported'; earlier = p.earlier || is_result reply; is_open = is_open'; commands = k; refused = cond (is_refusal reply) (p.refused + 1) p.refused }) in
    let M : ℕ → Type 0 = λ k. Going c (record { now = new; reader = reader'; after = after'; reported = reported'; earlier = p.earlier || is_result reply; is_open = is_open'; commands = n'; refused = k }) in
    let B : Bool → Type 0 = λ k. Going c (record { now = new; reader = reader'; after = after'; reported = reported'; earlier = k; is_open = is_open'; commands = n'; refused = m' }) in
    subst B (sym t) (subst M (sym r) (subst N (sym q) (go_on c c.script p reader' after' reported' is_open' it reply new h (subst P (f ∙ ap (λ (s : Setting). s.limits) e) given) counted (subst Q e wrote) (subst A at (subst O o reported)))))

pub stopped_writing_at : (c : Course) (p : Point) (here : Setting) (b : Bounds) (reader' : Pending) (after' : Option Bytes) (it : Item) (new : State) → here ≡ c.setting → b ≡ here.limits
    → Going c p → IfSome p.reader.left (λ bytes. GaveNext b p.reader bytes reader' it) → WrotePrefix c.output p.earlier here p.now it new p.after after' → RanAs c.output c.setting c.old c.script new c.before after' c.errors p.reported (Err fault.Write)
stopped_writing_at c p here b reader' after' it new e f h given wrote =
    let P : Bounds → Type 0 = λ k. IfSome p.reader.left (λ bytes. GaveNext k p.reader bytes reader' it) in
    let Q : Setting → Type 0 = λ s. WrotePrefix c.output p.earlier s p.now it new p.after after' in
    cut c c.script p reader' after' it new h (subst P (f ∙ ap (λ (s : Setting). s.limits) e) given) (subst Q e wrote)

pub few_refused : (b : Bool) (m n : ℕ) → m ≤ n → cond b (m + 1) m ≤ n + 1
few_refused true m n h = omega arith
few_refused false m n h = omega arith
