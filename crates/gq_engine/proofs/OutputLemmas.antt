-- Texts and complaints with one reply more, and what streams have of them.
use Rattle.std.proofs.Common.{◌≡◌, ℕ, Bool, true, false, List, [], ◌∷◌, ◌++◌, length, Option, Some, None, Result, Ok, Err, refl, sym, ap, ◌∙◌, subst, append_assoc, arith, inl}
use Rattle.std.specs.Prelude.{◌||◌, flat_map, IfErr, OnOk}
use Rattle.std.specs.Result.{is_ok}
use Rattle.std.specs.List.{list_any}
use Rattle.std.specs.Io.KnownBytes.{Appends}
use Rattle.std.proofs.Math.Bool.{or_assoc}
use Rattle.std.proofs.lemmas.List.{append-nil, map-append}
use Rattle.std.proofs.lemmas.List.Folds.{list_any-append}
use Rattle.gq_command.specs.Commands.{Bytes}
use Rattle.gq_row.specs.declared.limits.Bounds.{Bounds}
use Rattle.gq_command.specs.Script.{Entry, Numbered, OpenLine, entries_of, items, numbered, without_mark}
use Rattle.gq_command.proofs.NumberLemmas.{numbered_items}
use Rattle.gq_reply.specs.declared.reply.Reply.{Reply}
use Rattle.gq_reply.specs.declared.reply.Reply.TheVariants as reply
use Rattle.gq_reply.specs.Replies.{is_refusal, text}
use Rattle.gq_engine.specs.declared.output.Output.{Output}
use Rattle.gq_engine.specs.declared.output.Output.TheVariants.{Replies, Results}
use Rattle.gq_engine.specs.declared.run.Summary.{Summary}
use Rattle.gq_engine.specs.declared.run.Fault.{Fault}
use Rattle.gq_reply.specs.declared.sending.WriteFault.{WriteFault}
use Rattle.gq_engine.specs.declared.run.Fault.TheVariants as fault
use Rattle.gq_engine.specs.Headline.{Answered, Ran, State}
use Rattle.gq_engine.specs.Outputs.{AreComplaints, IsComplaint, IsResultIn, RanAs, Complains, ComplainsOn, between, complaint, is_result, result_in, text_as, texts, texts_after}
use Rattle.gq_engine.specs.Runs.{Setting}
use Rattle.gq_reply.specs.Sending.{AppendsPrefix}
use Rattle.gq_reply.proofs.Bytes.{appends_more, appends_nothing, prefix_after, prefix_longer, whole_prefix}

or_false : (b : Bool) → (b || false) ≡ b
or_false true = refl
or_false false = refl

pub any_push : (rs : List Reply) (r : Reply) → list_any is_result (rs ++ r ∷ []) ≡ (list_any is_result rs || is_result r)
any_push rs r = list_any-append is_result rs (r ∷ []) ∙ ap (λ b. list_any is_result rs || b) (or_false (is_result r))

texts_more : (output : Output) (earlier : Bool) (rs : List Reply) (r : Reply) → texts_after output earlier (rs ++ r ∷ []) ≡ texts_after output earlier rs ++ text_as output (earlier || list_any is_result rs) r
texts_more output earlier [] r = append-nil (text_as output earlier r) ∙ ap (λ b. text_as output b r) (sym (or_false earlier))
texts_more output earlier (x ∷ xs) r =
    ap (λ l. text_as output earlier x ++ l) (texts_more output (earlier || is_result x) xs r ∙ ap (λ b. texts_after output (earlier || is_result x) xs ++ text_as output b r) (or_assoc earlier (is_result x) (list_any is_result xs)))
    ∙ sym (append_assoc (text_as output earlier x) (texts_after output (earlier || is_result x) xs) (text_as output (earlier || (is_result x || list_any is_result xs)) r))

pub texts_push : (output : Output) (rs : List Reply) (r : Reply) → texts output (rs ++ r ∷ []) ≡ texts output rs ++ text_as output (list_any is_result rs) r
texts_push output rs r = texts_more output false rs r

pub complaints_push : (output : Output) (items : List Numbered) (item : Numbered) (rs : List Reply) (r : Reply) (said text : Bytes) → length items ≡ length rs → AreComplaints output items rs said → IsComplaint output item r text → AreComplaints output (items ++ item ∷ []) (rs ++ r ∷ []) (said ++ text)
complaints_push output [] item [] r said text e h k = (text, [], ap (λ (l : Bytes). l ++ text) h ∙ sym (append-nil text), k, refl)
complaints_push output [] item (x ∷ xs) r said text e h k = absurd (omega (arith, e))
complaints_push output (n ∷ ns) item [] r said text e h k = absurd (omega (arith, e))
complaints_push output (n ∷ ns) item (x ∷ xs) r said text e h k =
    (h.0, h.1 ++ text, ap (λ (l : Bytes). l ++ text) h.2 ∙ append_assoc h.0 h.1 text, h.3, complaints_push output ns item xs r h.1 text (omega (arith, e)) h.4 k)

-- a stream has all of the bytes while it takes them, and a prefix once it has failed
abbrev pub Reported : Bool → Option Bytes → Option Bytes → Bytes → Type 0
Reported true before after bytes = Appends before after bytes
Reported false before after bytes = AppendsPrefix before after bytes

pub reported_nothing : (a : Option Bytes) → Reported true a a []
reported_nothing a = appends_nothing a

-- a result's text after what comes before it: a prefix of the latter was written, or all of it and a prefix of the text
pub result_prefix : (output : Output) (earlier : Bool) (r : Reply) (a b : Option Bytes) (bytes : Bytes) → IsResultIn output r bytes → AppendsPrefix a b (between output earlier) → AppendsPrefix a b (text_as output earlier r)
result_prefix output earlier (reply.Done n) a b bytes is h = absurd is
result_prefix output earlier (reply.Rows header rows) a b bytes is h = prefix_longer a b (between output earlier) (result_in output header rows) h
result_prefix output earlier (reply.Refused why number) a b bytes is h = absurd is

pub result_cut : (output : Output) (earlier : Bool) (r : Reply) (a b c : Option Bytes) (bytes : Bytes) → IsResultIn output r bytes → Appends a b (between output earlier) → AppendsPrefix b c bytes → AppendsPrefix a c (text_as output earlier r)
result_cut output earlier (reply.Done n) a b c bytes is h k = absurd is
result_cut output earlier (reply.Rows header rows) a b c bytes is h k = let P : Bytes → Type 0 = λ l. AppendsPrefix a c (between output earlier ++ l) in subst P is (prefix_after a b c (between output earlier) bytes h k)
result_cut output earlier (reply.Refused why number) a b c bytes is h k = absurd is

pub reported_as_prefix : (is_open : Bool) (a b : Option Bytes) (x : Bytes) → Reported is_open a b x → AppendsPrefix a b x
reported_as_prefix true a b x h = whole_prefix a b x h
reported_as_prefix false a b x h = h

pub reported_more : (is_open is_open' : Bool) (a b c : Option Bytes) (x y : Bytes) → Reported is_open a b x → ComplainsOn is_open is_open' b c y → Reported is_open' a c (x ++ y)
reported_more true true a b c x y h k = appends_more a b c x y h k
reported_more true false a b c x y h k = prefix_after a b c x y h k
reported_more false true a b c x y h k = absurd k
reported_more false false a b c x y h k = let P : Option Bytes → Type 0 = λ o. AppendsPrefix a o (x ++ y) in subst P (sym k) (prefix_longer a b x y h)

-- bytes that were sent, by whether all were
pub sent : (r : Result (Unit {0}) WriteFault) (ok : Bool) (a b : Option Bytes) (x : Bytes) → ok ≡ is_ok r → OnOk r (Appends a b x) → IfErr r (λ _. AppendsPrefix a b x) → ComplainsOn true ok a b x
sent (Ok done) ok a b x e h k = let P : Bool → Type 0 = λ o. ComplainsOn true o a b x in subst P (sym e) h
sent (Err why) ok a b x e h k = let P : Bool → Type 0 = λ o. ComplainsOn true o a b x in subst P (sym e) k

pub reported_fixed : (b : Bounds) (output : Output) (line : ℕ) (wrong : Option OpenLine) (r : Reply) (was_open is_open : Bool) (before after : Option Bytes) (text : Bytes) → text ≡ complaint output line r → ComplainsOn was_open is_open before after text
    → Complains b output line wrong r was_open is_open before after
reported_fixed b output line wrong r was_open is_open before after text e t = record { text = text; about = λ item num kept. inl (e ∙ ap (λ (n : ℕ). complaint output n r) (sym num)); reported = t }

pub silent : (b : Bounds) (output : Output) (line : ℕ) (wrong : Option OpenLine) (r : Reply) (is_open : Bool) (before : Option Bytes) → is_open ≡ false → Complains b output line wrong r is_open is_open before before
silent b output line wrong r is_open before e =
    let P : Bool → Type 0 = λ o. ComplainsOn o o before before (complaint output line r) in
    reported_fixed b output line wrong r is_open is_open before before (complaint output line r) refl (subst P (sym e) refl)

pub unrefused : (b : Bounds) (output : Output) (line : ℕ) (wrong : Option OpenLine) (r : Reply) (is_open : Bool) (before : Option Bytes) → is_open ≡ true → is_refusal r ≡ false → Complains b output line wrong r is_open is_open before before
unrefused b output line wrong r is_open before e f =
    let P : Bool → Type 0 = λ o. ComplainsOn o o before before [] in
    reported_fixed b output line wrong r is_open is_open before before [] (sym (nothing output r f)) (subst P (sym e) (appends_nothing before))
  where
    nothing : (output : Output) (r : Reply) → is_refusal r ≡ false → complaint output line r ≡ []
    nothing Replies r f = refl
    nothing (Results format) (reply.Done n) f = refl
    nothing (Results format) (reply.Rows header rows) f = refl
    nothing (Results format) (reply.Refused why number) f = absurd cc

-- as replies, each adds its text
plain : (earlier : Bool) (r : Reply) → text_as Replies earlier r ≡ text r
plain earlier (reply.Done n) = refl
plain earlier (reply.Rows header rows) = refl
plain earlier (reply.Refused why number) = refl

plain_after : (earlier : Bool) (rs : List Reply) → texts_after Replies earlier rs ≡ flat_map text rs
plain_after earlier [] = refl
plain_after earlier (r ∷ rs) = ap (λ l. l ++ texts_after Replies (earlier || is_result r) rs) (plain earlier r) ∙ ap (λ l. text r ++ l) (plain_after (earlier || is_result r) rs)

-- the items of a script, of which the first were answered
items_done : (limits : Bounds) (script : Bytes) (done left : List Numbered) → numbered limits script ≡ done ++ left → items limits script ≡ entries_of done ++ entries_of left
items_done limits script done left e = sym (numbered_items limits 0 (without_mark script)) ∙ ap entries_of e ∙ map-append (λ (x : Numbered). x.entry) done left

-- a run that writes replies
pub ran_plainly : (setting : Setting) (old : State) (script : Option Bytes) (new : State) (before after errors reported : Option Bytes) (ended : Result Summary Fault) → RanAs Replies setting old script new before after errors reported ended → Ran setting old script new before after ended
ran_plainly setting old None new before after errors reported ended h = tt
ran_plainly setting old (Some script) new before after errors reported (Ok summary) h =
    let Q : List Entry → Type 0 = λ entries. Answered setting old entries new h.replies in
    let P : Bytes → Type 0 = λ l. Appends before after l in
    record {
      within = h.ends.within;
      replies = h.replies;
      answered = subst Q (sym (items_done setting.limits script h.done h.left h.first ∙ ap (λ (l : List Numbered). entries_of h.done ++ entries_of l) h.ends.nothing_left ∙ append-nil (entries_of h.done))) h.answered;
      written = subst P (plain_after false h.replies) h.wrote;
      commands = h.ends.commands;
      refused = h.ends.refused;
    }
ran_plainly setting old (Some script) new before after errors reported (Err fault.Read) h =
    let P : Bytes → Type 0 = λ l. Appends before after l in
    record {
      done = entries_of h.done;
      left = entries_of h.left;
      first = items_done setting.limits script h.done h.left h.first;
      replies = h.replies;
      answered = h.answered;
      written = subst P (plain_after false h.replies) h.wrote;
    }
ran_plainly setting old (Some script) new before after errors reported (Err fault.Write) h =
    let P : Bytes → Type 0 = λ l. Appends before after (l ++ h.wrote.prefix) in
    let A : List Reply → Type 0 = λ l. Answered setting old (entries_of h.done) new l in
    record {
      done = entries_of h.done;
      left = entries_of h.left;
      first = items_done setting.limits script h.done h.left h.first;
      replies = h.wrote.first;
      last = h.wrote.last;
      answered = subst A h.wrote.is h.answered;
      prefix = h.wrote.prefix;
      rest = h.wrote.rest;
      cut = sym (plain (list_any is_result h.wrote.first) h.wrote.last) ∙ h.wrote.cut;
      written = subst P (plain_after false h.wrote.first) h.wrote.written;
    }
