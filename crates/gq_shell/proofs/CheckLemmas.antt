-- The reports of a script, as they are written.
use Rattle.std.proofs.Common.{◌≡◌, ℕ, Bool, true, List, [], ◌∷◌, ◌++◌, Option, Some, None, refl, sym, ap, subst, ◌∙◌, append_assoc}
use Rattle.std.proofs.lemmas.List.{append-nil}
use Rattle.std.specs.Prelude.{IfSome}
use Rattle.std.specs.Io.KnownBytes.{Appends}
use Rattle.gq_row.specs.Limits.{GREATEST}
use Rattle.gq_token.specs.Texts.{some}
use Rattle.gq_command.specs.Commands.{Bytes}
use Rattle.gq_command.specs.Script.{Numbered, numbered_left, without_mark}
use Rattle.gq_reply.specs.Sending.{AppendsPrefix}
use Rattle.gq_reply.proofs.Bytes.{appends_more}
use Rattle.gq_check.specs.declared.report.Report.{Report}
use Rattle.gq_check.specs.Reports.{Between, Place, Reports, report_text}
use Rattle.gq_check.proofs.Steps.{end-from, on-from}
use Rattle.gq_shell.specs.Checking.{Begins, ReportedAll, ReportedPrefix, texts}
use Rattle.gq_shell.specs.Streams.{Stream, GotPrefix}

abbrev Known : Type 0
Known = Option Bytes

-- the reports so far, and what was written of them
pub record ReportedSoFar (name : Bytes) (start now : Place) (before after : Known) (any : Bool) (reports : List Report) : Type 0 where
  pub between : Between GREATEST start now reports
  pub written : Appends before after (texts name reports)
  pub any_is : any ≡ some reports

texts-append : (name : Bytes) (xs ys : List Report) → texts name (xs ++ ys) ≡ texts name xs ++ texts name ys
texts-append name [] ys = refl
texts-append name (x ∷ xs) ys = ap (λ (t : Bytes). report_text name x ++ t) (texts-append name xs ys) ∙ sym (append_assoc (report_text name x) (texts name xs) (texts name ys))

some-push : (xs : List Report) (r : Report) → true ≡ some (xs ++ r ∷ [])
some-push [] r = refl
some-push (x ∷ xs) r = refl

-- one more
pub reports-more : (name : Bytes) (start now next : Place) (before mid after : Known) (any : Bool) (reports : List Report) (r : Report) → ReportedSoFar name start now before mid any reports → Between GREATEST now next (r ∷ []) → Appends mid after (report_text name r)
    → ReportedSoFar name start next before after true (reports ++ r ∷ [])
reports-more name start now next before mid after any reports r t step wrote = record {
  between = on-from GREATEST start now next reports (r ∷ []) t.between step;
  written = subst (Appends before after) (ap (λ (l : Bytes). texts name reports ++ l) (sym (append-nil (report_text name r))) ∙ sym (texts-append name reports (r ∷ []))) (appends_more before mid after (texts name reports) (report_text name r) t.written wrote);
  any_is = some-push reports r;
}

-- all of them
pub reported-all : (name : Bytes) (script : Known) (start now : Place) (before after : Known) (any : Bool) (reports : List Report) → Begins script start → ReportedSoFar name start now before after any reports
    → IfSome now.left (λ bytes. Reports GREATEST (numbered_left GREATEST now.lines bytes) []) → IfSome script (λ bytes. ReportedAll name bytes (record { before = before; after = after }) any)
reported-all name script start now before after any reports begins t end = by-known script begins.left
  where
    whole : IfSome start.left (λ bytes. Reports GREATEST (numbered_left GREATEST start.lines bytes) reports)
    whole = end-from GREATEST start now reports t.between end

    by-known : (k : Known) → IfSome k (λ bytes. start.left ≡ Some (without_mark bytes)) → IfSome k (λ bytes. ReportedAll name bytes (record { before = before; after = after }) any)
    by-known None left = tt
    by-known (Some bytes) left =
        let here : Reports GREATEST (numbered_left GREATEST start.lines (without_mark bytes)) reports = subst (λ (k : Known). IfSome k (λ b. Reports GREATEST (numbered_left GREATEST start.lines b) reports)) left whole in
        record {
          reports = reports;
          are = subst (λ (n : ℕ). Reports GREATEST (numbered_left GREATEST n (without_mark bytes)) reports) begins.lines here;
          reported = t.written;
          any_is = t.any_is;
        }

-- a prefix of them
prefix-of : (name : Bytes) (script : Known) (start now : Place) (replies : Stream) (reports : List Report) → Begins script start → Between GREATEST start now reports → GotPrefix replies (texts name reports) → IfSome script (λ bytes. ReportedPrefix name bytes replies)
prefix-of name script start now replies reports begins between reported = by-known script begins.left
  where
    by-known : (k : Known) → IfSome k (λ bytes. start.left ≡ Some (without_mark bytes)) → IfSome k (λ bytes. ReportedPrefix name bytes replies)
    by-known None left = tt
    by-known (Some bytes) left =
        let h = subst (λ (k : Known). IfSome k (λ b. (rest : Bytes) × (now.left ≡ Some rest) × (passed : List Numbered) × (numbered_left GREATEST start.lines b ≡ passed ++ numbered_left GREATEST now.lines rest) × Reports GREATEST passed reports)) left between in
        record {
          done = h.2;
          left = numbered_left GREATEST now.lines h.0;
          first = ap (λ (n : ℕ). numbered_left GREATEST n (without_mark bytes)) (sym begins.lines) ∙ h.3;
          reports = reports;
          are = h.4;
          reported = reported;
        }

pub reported-prefix : (name : Bytes) (script : Known) (start now : Place) (before after : Known) (any : Bool) (reports : List Report) → Begins script start → ReportedSoFar name start now before after any reports → IfSome script (λ bytes. ReportedPrefix name bytes (record { before = before; after = after }))
reported-prefix name script start now before after any reports begins t = prefix-of name script start now (record { before = before; after = after }) reports begins t.between (record { prefix = texts name reports; rest = []; is = sym (append-nil (texts name reports)); appends = t.written })

-- the last of them cut short
pub reported-cut : (name : Bytes) (script : Known) (start now next : Place) (before mid after : Known) (any : Bool) (reports : List Report) (r : Report) → Begins script start → ReportedSoFar name start now before mid any reports → Between GREATEST now next (r ∷ [])
    → AppendsPrefix mid after (report_text name r) → IfSome script (λ bytes. ReportedPrefix name bytes (record { before = before; after = after }))
reported-cut name script start now next before mid after any reports r begins t step cut =
    prefix-of name script start next (record { before = before; after = after }) (reports ++ r ∷ []) begins (on-from GREATEST start now next reports (r ∷ []) t.between step) (record {
      prefix = texts name reports ++ cut.prefix;
      rest = cut.rest;
      is = texts-append name reports (r ∷ []) ∙ ap (λ (l : Bytes). texts name reports ++ l) (append-nil (report_text name r) ∙ cut.is) ∙ sym (append_assoc (texts name reports) cut.prefix cut.rest);
      appends = appends_more before mid after (texts name reports) cut.prefix t.written cut.appends;
    })
