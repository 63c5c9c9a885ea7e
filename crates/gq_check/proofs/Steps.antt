-- A step over a line, among the reports of what is left.
use Rattle.std.proofs.Common.{◌≡◌, ◌≤◌, ℕ, suc, ◌+◌, Bool, true, false, cond, List, [], ◌∷◌, ◌++◌, length, Option, Some, None, refl, sym, ap, subst, ◌∙◌, inl, inr, append_assoc}
use Rattle.std.proofs.lemmas.List.{append-nil}
use Rattle.std.specs.Prelude.{IfSome, ◌≢◌, string_bytes}
use Rattle.std.specs.Io.KnownBytes.{Consumes, IsAtEnd}
use Rattle.gq_row.specs.declared.limits.Bounds.{Bounds}
use Rattle.gq_token.specs.Texts.{Bytes}
use Rattle.gq_script.specs.Script.{Loading, Plain, Stream, content, is_skipped, line_of, raw_lines, takes_payload}
use Rattle.gq_script.proofs.Front.{Known}
use Rattle.gq_check.specs.declared.fault.Fault.{Fault}
use Rattle.gq_check.specs.declared.fault.Fault.TheVariants as why
use Rattle.gq_check.specs.declared.report.Report.{Report}
use Rattle.gq_check.specs.Findings.{IsFaultOf}
use Rattle.gq_check.specs.Passing.{IsPassed, PassedPayload}
use Rattle.gq_script.specs.Numbering.{Numbered, numbered_by, numbered_left}
use Rattle.gq_check.specs.Reports.{Between, IsOneLine, IsReportOf, Place, Reports, limit_message}
use Rattle.gq_check.specs.Stepping.{IsTaken, TookItem, items_from}
use Rattle.gq_check.proofs.Faults.{either, with-payload}
use Rattle.gq_command.proofs.NumberLemmas.{item_line, no_items, skipped_line}

abbrev place : Known → ℕ → Place
place left lines = record { left = left; lines = lines }

-- the end
pub at-end : (b : Bounds) (n : ℕ) (k : Known) → IsAtEnd k → IfSome k (λ bytes. Reports b (numbered_left b n bytes) [])
at-end b n None e = tt
at-end b n (Some xs) e =
    subst (λ (items : List Numbered). Reports b items []) (sym (ap (λ (l : Bytes). numbered_by (takes_payload b) n None (raw_lines l)) e ∙ no_items (takes_payload b) n)) refl

-- a blank line or a comment
pub passed-over : (b : Bounds) (n m : ℕ) (k after : Known) (raw : Bytes) → m ≡ suc n → Consumes k after raw → IfSome k (λ xs. IfSome after (λ ys. raw_lines xs ≡ raw ∷ raw_lines ys)) → is_skipped (content raw) ≡ true
    → Between b (place k n) (place after m) []
passed-over b n m None after raw num c f e = tt
passed-over b n m (Some xs) None raw num c f e = absurd c
passed-over b n m (Some xs) (Some ys) raw num c f e =
    let same : numbered_left b n xs ≡ numbered_left b m ys =
    ap (numbered_by (takes_payload b) n None) f ∙ skipped_line (takes_payload b) n raw (raw_lines ys) e ∙ ap (λ (j : ℕ). numbered_left b j ys) (sym num) in
    (ys, refl, [], same, refl)

abbrev one : Option Report → List Report
one None = []
one (Some r) = r ∷ []

-- nothing is reported of an item without a fault, and of others a report
abbrev pub Tells : Bounds → Numbered → Option Fault → Option Report → Type 0
Tells b x None None = Unit {0}
Tells b x None (Some r) = ⊥
Tells b x (Some f) None = ⊥
Tells b x (Some f) (Some r) = IsReportOf b x r

single : (b : Bounds) (x : Numbered) (f : Option Fault) (o : Option Report) → IsFaultOf b x.entry f → Tells b x f o → Reports b (x ∷ []) (one o)
single b x None None fault t = inl (fault, refl)
single b x None (Some r) fault t = absurd t
single b x (Some f) None fault t = absurd t
single b x (Some f) (Some r) fault t = inr (r, [], refl, t, refl)

pub item-taken : (b : Bounds) (n m number : ℕ) (k mid after : Known) (raw : Bytes) (f : Option Fault) (o : Option Report) → number ≡ suc n → Consumes k mid raw → IfSome k (λ xs. IfSome mid (λ ys. raw_lines xs ≡ raw ∷ raw_lines ys)) → is_skipped (content raw) ≡ false
    → IfSome mid (λ bytes. (rest : Bytes) × (after ≡ Some rest) × IsTaken b number (content raw) bytes f m rest)
    → ((x : Numbered) → x.number ≡ number → line_of x.entry ≡ content raw → IsFaultOf b x.entry f → Tells b x f o)
    → Between b (place k n) (place after m) (one o)
item-taken b n m number None mid after raw f o num c h e taken tells = tt
item-taken b n m number (Some xs) None after raw f o num c h e taken tells = absurd c
item-taken b n m number (Some xs) (Some ys) after raw f o num c h e taken tells =
    let t = taken.2 in
    let x : Numbered = record { number = number; entry = t.entry } in
    let same : numbered_left b n xs ≡ x ∷ numbered_left b m taken.0 =
    ap (numbered_by (takes_payload b) n None) h ∙ item_line (takes_payload b) n raw (raw_lines ys) e ∙ ap (λ (j : ℕ). items_from b j (content raw) ys) (sym num) ∙ t.items in
    (taken.0, taken.1, x ∷ [], same, single b x f o t.fault (tells x refl t.line_is t.fault))

-- one place after the other

reports-append : (b : Bounds) (xs ys : List Numbered) (rs ss : List Report) → Reports b xs rs → Reports b ys ss → Reports b (xs ++ ys) (rs ++ ss)
reports-append b [] ys rs ss h k = subst (λ (l : List Report). Reports b ys (l ++ ss)) (sym h) k
reports-append b (x ∷ xs) ys rs ss (inl h) k = inl (h.0, reports-append b xs ys rs ss h.1 k)
reports-append b (x ∷ xs) ys rs ss (inr h) k = inr (h.0, h.1 ++ ss, ap (λ (l : List Report). l ++ ss) h.2, h.3, reports-append b xs ys h.1 ss h.4 k)

some-is : {A : Type 0} (x y : A) → Some x ≡ Some y → x ≡ y
some-is x y e = cc

-- between places whose bytes are known so
abbrev BetweenKnown : Bounds → ℕ → ℕ → Known → Known → List Report → Type 0
BetweenKnown b n m l k found = IfSome l (λ bytes. (rest : Bytes) × (k ≡ Some rest) × (passed : List Numbered) × (numbered_left b n bytes ≡ passed ++ numbered_left b m rest) × Reports b passed found)

on-known : (b : Bounds) (n m j : ℕ) (l k o : Known) (xs ys : List Report) → BetweenKnown b n m l k xs → BetweenKnown b m j k o ys → BetweenKnown b n j l o (xs ++ ys)
on-known b n m j None k o xs ys f g = tt
on-known b n m j (Some us) None o xs ys f g = let e = f.1 in absurd cc
on-known b n m j (Some us) (Some vs) o xs ys f g =
    let same : vs ≡ f.0 = some-is vs f.0 f.1 in (
      g.0,
      g.1,
      f.2 ++ g.2,
      f.3 ∙ ap (λ (y : Bytes). f.2 ++ numbered_left b m y) (sym same) ∙ ap (λ (l : List Numbered). f.2 ++ l) g.3 ∙ sym (append_assoc f.2 g.2 (numbered_left b j g.0)),
      reports-append b f.2 g.2 xs ys f.4 g.4,
    )

pub on-from : (b : Bounds) (p q r : Place) (xs ys : List Report) → Between b p q xs → Between b q r ys → Between b p r (xs ++ ys)
on-from b p q r xs ys f g = on-known b p.lines q.lines r.lines p.left q.left r.left xs ys f g

none-known : (b : Bounds) (n : ℕ) (l : Known) → BetweenKnown b n n l l []
none-known b n None = tt
none-known b n (Some xs) = (xs, refl, [], refl, refl)

pub nothing-between : (b : Bounds) (p : Place) → Between b p p []
nothing-between b p = none-known b p.lines p.left

-- a line without a payload is taken alone
pub taken-plain : (b : Bounds) (number : ℕ) (text : Bytes) (old : Stream) (f : Option Fault) → takes_payload b text ≡ false → IsFaultOf b (Plain text) f → TookItem b number text old old f number
taken-plain b number text old f takes fault = by-known old.left refl
  where
    by-known : (k : Known) → old.left ≡ k → IfSome k (λ bytes. (rest : Bytes) × (old.left ≡ Some rest) × IsTaken b number text bytes f number rest)
    by-known None is = tt
    by-known (Some xs) is = (
      xs,
      is,
      record {
        entry = Plain text;
        line_is = refl;
        items = ap (λ (t : Bool). cond t (numbered_by (takes_payload b) number (Some (record { number = number; line = text; payload = [] })) (raw_lines xs)) ((record { number = number; entry = Plain text }) ∷ numbered_left b number xs)) takes;
        fault = fault;
      },
    )

-- a load is taken with its payload
pub taken-loading : (b : Bounds) (number m : ℕ) (text : Bytes) (old new : Stream) (f p : Option Fault) → takes_payload b text ≡ true → IsFaultOf b (Plain text) f → PassedPayload b number old new p m → TookItem b number text old new (either f p) m
taken-loading b number m text old new f p takes fault passed = by-known old.left passed
  where
    by-known : (k : Known) → IfSome k (λ bytes. (rest : Bytes) × (new.left ≡ Some rest) × ((n : ℕ) (line : Bytes) → IsPassed b (record { number = n; line = line; payload = [] }) number bytes p m rest))
        → IfSome k (λ bytes. (rest : Bytes) × (new.left ≡ Some rest) × IsTaken b number text bytes (either f p) m rest)
    by-known None h = tt
    by-known (Some xs) h =
        let is = h.2 number text in (
          h.0,
          h.1,
          record {
            entry = Loading text is.given;
            line_is = refl;
            items = ap (λ (t : Bool). cond t (numbered_by (takes_payload b) number (Some (record { number = number; line = text; payload = [] })) (raw_lines xs)) ((record { number = number; entry = Plain text }) ∷ numbered_left b number xs)) takes ∙ is.items;
            fault = subst (λ (q : Option Fault). IsFaultOf b (Loading text is.given) (either f q)) is.fault (with-payload b text is.given f takes fault);
          },
        )

-- a report that was made of an item's line
pub made-report : (b : Bounds) (x : Numbered) (r : Report) (number : ℕ) (text : Bytes) (fault : Fault) (f : Option Fault) → f ≡ Some fault → (r.line ≡ number) × (r.fault ≡ fault) → (1 ≤ r.column) × (r.column ≤ length text + 1) → IsOneLine (string_bytes r.message)
    → (fault ≢ why.Syntax → string_bytes r.message ≡ limit_message fault) → x.number ≡ number → line_of x.entry ≡ text → IsFaultOf b x.entry f → Tells b x f (Some r)
made-report b x r number text fault f f_is is column one limit num line h =
    subst (λ (g : Option Fault). Tells b x g (Some r)) (sym f_is) (record {
      line = is.0 ∙ sym num;
      fault = subst (IsFaultOf b x.entry) (f_is ∙ ap Some (sym is.1)) h;
      column = subst (λ (t : Bytes). (1 ≤ r.column) × (r.column ≤ length t + 1)) (sym line) column;
      one_line = one;
      limit = subst (λ (g : Fault). g ≢ why.Syntax → string_bytes r.message ≡ limit_message g) (sym is.1) limit;
    })

-- the reports up to a place after which no report follows
end-known : (b : Bounds) (n m : ℕ) (l k : Known) (xs : List Report) → BetweenKnown b n m l k xs → IfSome k (λ bytes. Reports b (numbered_left b m bytes) []) → IfSome l (λ bytes. Reports b (numbered_left b n bytes) xs)
end-known b n m None k xs f g = tt
end-known b n m (Some us) None xs f g = let e = f.1 in absurd cc
end-known b n m (Some us) (Some vs) xs f g =
    let same : vs ≡ f.0 = some-is vs f.0 f.1 in
    let items : numbered_left b n us ≡ f.2 ++ numbered_left b m vs = f.3 ∙ ap (λ (y : Bytes). f.2 ++ numbered_left b m y) (sym same) in
    subst (λ (is : List Numbered). Reports b is xs) (sym items)
    (subst (λ (l : List Report). Reports b (f.2 ++ numbered_left b m vs) l) (append-nil xs) (reports-append b f.2 (numbered_left b m vs) xs [] f.4 g))

pub end-from : (b : Bounds) (p q : Place) (xs : List Report) → Between b p q xs → IfSome q.left (λ bytes. Reports b (numbered_left b q.lines bytes) []) → IfSome p.left (λ bytes. Reports b (numbered_left b p.lines bytes) xs)
end-from b p q xs f g = end-known b p.lines q.lines p.left q.left xs f g
