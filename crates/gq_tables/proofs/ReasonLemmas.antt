-- Faults of words and of their files.
use Rattle.std.proofs.Common.{◌≡◌, ◌∙◌, ◌⊎◌, inl, inr, get_or, ℕ, zero, suc, true, false, List, [], ◌∷◌, ◌++◌, Option, Some, refl, sym, ap, subst}
use Rattle.std.specs.Prelude.{Result, Ok, Err, IfErr, IfSome}
use Rattle.std.specs.Result.{IsErrAnd}
use Rattle.std.specs.declared.io.Error.{Error}
use Rattle.std.proofs.lemmas.Bool.{true≢false}
use Rattle.std.proofs.lemmas.Result.{IfErr-at_err, err_from_is_err_and}
use Rattle.gq_row.specs.declared.limits.Bounds.{Bounds}
use Rattle.gq_row.specs.declared.schema.Column.{Column}
use Rattle.gq_load.specs.declared.short_records.Short.{Short}
use Rattle.gq_command.specs.Commands.{Bytes}
use Rattle.gq_command.specs.declared.command.Command.TheVariants.{Create}
use Rattle.gq_command.specs.declared.command.Payload.TheVariants as payload
use Rattle.gq_command.specs.declared.reader.Item.TheVariants as item
use Rattle.gq_reply.specs.declared.refusal.Refusal.TheVariants.{Memory}
use Rattle.gq_reply.specs.declared.refusal.Refused.{Refused}
use Rattle.gq_reply.specs.declared.reply.Reply.{Reply}
use Rattle.gq_reply.specs.declared.reply.Reply.TheVariants as reply
use Rattle.gq_reply.specs.Outcomes.{◌>>=◌}
use Rattle.gq_reply.specs.Refusals.{of_refused, unnumbered}
use Rattle.gq_reply.specs.Replies.{is_refusal}
use Rattle.gq_engine.specs.declared.csv_fault.CsvFault.{CsvFault}
use Rattle.gq_engine.specs.declared.csv_fault.CsvFault.TheVariants as csv
use Rattle.gq_engine.specs.Databases.{Database}
use Rattle.gq_engine.specs.Runs.{LegalAnswer, AsListsAnswer, WantsMemory, StoreFailed, StoreLied, Setting}
use Rattle.gq_engine.specs.Staging.{HasLoaded}
use Rattle.gq_engine.specs.Steps.{Outcome, create, load_table, settle}
use Rattle.gq_infer.specs.declared.fault.InferFault.{InferFault}
use Rattle.gq_infer.specs.declared.fault.InferFault.TheVariants as infer
use Rattle.gq_infer.specs.declared.word.TableWord.{TableWord}
use Rattle.gq_infer.specs.Files.{IsFailure, header_fault, same_columns}
use Rattle.gq_tables.specs.declared.fault.TableFault.{TableFault}
use Rattle.gq_tables.specs.declared.fault.Why.{Why}
use Rattle.gq_tables.specs.declared.fault.Why.TheVariants as why
use Rattle.gq_tables.specs.declared.files.Files.{Files}
use Rattle.gq_tables.specs.declared.source.Source.{Source}
use Rattle.gq_tables.specs.declared.source.Source.TheVariants.{Path}
use Rattle.gq_tables.specs.Files.{AreFiles, HasBytes, HaveBytes}
use Rattle.gq_tables.specs.Reasons.{BadHeader, IfRefused, IsFaultAt, IsFaultOf, IsReason, IsRefused, IsWhyOf, NotCreated, NotLoaded, OtherHeader, is_failure, why_of_header}
use Rattle.gq_tables.specs.Steps.{HasRefused}

-- a failure says nothing of a refusal
pub if_failed : (P : Refused → Type 0) (found : Why) → is_failure found ≡ true → IfRefused found P
if_failed P why.CannotOpen e = tt
if_failed P why.ReadFault e = tt
if_failed P why.Memory e = tt
if_failed P (why.Refused refused) e = absurd (true≢false (sym e))

-- a refusal that isn't for memory is passed on
pub if_why : (P : Refused → Type 0) (refused : Refused) (found : Why) → IsWhyOf refused found → ((refused.why ≡ Memory → ⊥) → P refused) → IfRefused found P
if_why P refused found (inl memory) h = subst (λ w. IfRefused w P) (sym memory.1) tt
if_why P refused found (inr other) h = subst (λ w. IfRefused w P) (sym other.1) (h other.0)

-- ---- a load that was refused

pub load_refused : (short : Short) (limits : Bounds) (word : TableWord) (file : Bytes) (old new : Database) (fault : CsvFault) (found : Why)
    → (fault ≡ csv.Read → found ≡ why.ReadFault) → ((refused : Refused) → fault ≡ csv.Refused refused → IsWhyOf refused found)
    → HasLoaded (load_table short limits old word.name (payload.Bytes file)) (Err fault) old new → IsReason short limits word file found
load_refused short limits word file old new csv.Read found read refused h = subst (λ w. IsReason short limits word file w) (sym (read refl)) tt
load_refused short limits word file old new (csv.Refused r) found read refused h = if_why (IsRefused short limits word file) r found (refused r refl) (by h.1)
  where
    by : (r ≡ unnumbered Memory) ⊎ (load_table short limits old word.name (payload.Bytes file) ≡ Err r) → (r.why ≡ Memory → ⊥) → IsRefused short limits word file r
    by (inl memory) other = absurd (other (ap (λ (x : Refused). x.why) memory))
    by (inr steps) other = NotLoaded old steps

-- ---- a command that was refused

abbrev refusal_in : Refused → Reply → Refused
refusal_in other (reply.Done count) = other
refusal_in other (reply.Rows header rows) = other
refusal_in other (reply.Refused found number) = record { why = found; number = number }

of_refused_same : (a b : Refused) → of_refused a ≡ of_refused b → a ≡ b
of_refused_same a b h = ap (refusal_in a) h

-- what is said to be refused was refused by the steps, if these never come to a refusal themselves
steps_refused : (old last : Database) (steps : Outcome) (refused : Refused) → ((db : Database) (answer : Reply) → steps ≡ Ok (db, answer) → is_refusal answer ≡ false) → (last, of_refused refused) ≡ settle old steps → steps ≡ Err refused
steps_refused old last (Ok done) refused never h =
    let same : of_refused refused ≡ done.1 = ap (λ (p : Database × Reply). p.1) h in
    absurd (true≢false (ap is_refusal same ∙ never done.0 done.1 refl))
steps_refused old last (Err found) refused never h = ap Err (sym (of_refused_same refused found (ap (λ (p : Database × Reply). p.1) h)))

ok_same : {A : Type 0} (x y : A) → ◌≡◌ {A = Result A Refused} (Ok x) (Ok y) → x ≡ y
ok_same x y h = ap (λ r. elim r [ Ok z ↦ z | Err e ↦ x ]) h

abbrev made : Database → Bytes → List Column → List ℕ → Outcome
made old name columns positions = Ok (old ++ (name, record { schema = record { columns = columns; key = positions }; rows = [] }) ∷ [], reply.Done 0)

create_done : (limits : Bounds) (old : Database) (name : Bytes) (columns : List Column) (key : List Bytes) (db : Database) (answer : Reply) → create limits old name columns key ≡ Ok (db, answer) → is_refusal answer ≡ false
create_done limits old name columns key db answer h = by _ _ _ h
  where
    by : (a : Result (Unit {0}) Refused) (b : Result (List ℕ) Refused) (c : Result (Unit {0}) Refused)
        → (a >>= λ absent. b >>= λ positions. c >>= λ room. made old name columns positions) ≡ Ok (db, answer) → is_refusal answer ≡ false
    by (Err w) b c h = let none : ⊥ = cc in absurd none
    by (Ok x) (Err w) c h = let none : ⊥ = cc in absurd none
    by (Ok x) (Ok y) (Err w) h = let none : ⊥ = cc in absurd none
    by (Ok x) (Ok y) (Ok z) h = ap is_refusal (sym (ap (λ (p : Database × Reply). p.1) (ok_same _ (db, answer) h)))

pub create_refused : (short : Short) (file : Bytes) (word : TableWord) (setting : Setting) (old new : Database) (columns : List Column) (key : List Bytes) (found : Why)
    → HasRefused setting old (Create word.name columns key) new found → IsReason short setting.limits word file found
create_refused short file word setting old new columns key why.CannotOpen h = tt
create_refused short file word setting old new columns key why.ReadFault h = tt
create_refused short file word setting old new columns key why.Memory h = tt
create_refused short file word setting old new columns key (why.Refused refused) h = by h.0.legal
  where
    by : LegalAnswer setting old (item.Command (Create word.name columns key)) (of_refused refused) h.0.last → IsRefused short setting.limits word file refused
    by (AsListsAnswer e) = NotCreated old columns key (steps_refused old h.0.last (create setting.limits old word.name columns key) refused (create_done setting.limits old word.name columns key) e)
    by (WantsMemory e m) = absurd (h.1 (ap (λ (x : Refused). x.why) (of_refused_same refused (unnumbered Memory) m)))
    by (StoreFailed e g m) = absurd (true≢false (sym g.0))
    by (StoreLied e g l) = absurd (true≢false (sym g.0))

-- ---- headers that were refused

pub header_refused : (short : Short) (limits : Bounds) (word : TableWord) (file : Bytes) (bounds : Bounds) (fault : InferFault) (found : Why) (left : Option Bytes)
    → left ≡ Some file → found ≡ why_of_header fault → IsFailure fault ⊎ IfSome left (λ bytes. header_fault bounds bytes ≡ Some fault) → IsReason short limits word file found
header_refused short limits word file bounds fault found left known is h = subst (λ w. IsReason short limits word file w) (sym is) (by fault (of h))
  where
    of : IsFailure fault ⊎ IfSome left (λ bytes. header_fault bounds bytes ≡ Some fault) → IsFailure fault ⊎ (header_fault bounds file ≡ Some fault)
    of (inl failed) = inl failed
    of (inr faulty) = inr (subst (λ (o : Option Bytes). IfSome o (λ bytes. header_fault bounds bytes ≡ Some fault)) known faulty)

    by : (fault : InferFault) → IsFailure fault ⊎ (header_fault bounds file ≡ Some fault) → IsReason short limits word file (why_of_header fault)
    by infer.Header (inl (inl e)) = let none : ⊥ = cc in absurd none
    by infer.Header (inl (inr e)) = let none : ⊥ = cc in absurd none
    by infer.Header (inr faulty) = BadHeader bounds infer.Header faulty refl
    by infer.Limit (inl (inl e)) = let none : ⊥ = cc in absurd none
    by infer.Limit (inl (inr e)) = let none : ⊥ = cc in absurd none
    by infer.Limit (inr faulty) = BadHeader bounds infer.Limit faulty refl
    by infer.Memory h = tt
    by infer.Read h = tt

pub other_refused : (short : Short) (limits : Bounds) (word : TableWord) (file : Bytes) (names : List Bytes) (fault : InferFault) (found : Why) (left : Option Bytes)
    → left ≡ Some file → found ≡ why_of_header fault → IsFailure fault ⊎ ((fault ≡ infer.Header) × IfSome left (λ bytes. same_columns names bytes ≡ false)) → IsReason short limits word file found
other_refused short limits word file names fault found left known is h = subst (λ w. IsReason short limits word file w) (sym is) (by h)
  where
    by : IsFailure fault ⊎ ((fault ≡ infer.Header) × IfSome left (λ bytes. same_columns names bytes ≡ false)) → IsReason short limits word file (why_of_header fault)
    by (inl (inl e)) = subst (λ f. IsReason short limits word file (why_of_header f)) (sym e) tt
    by (inl (inr e)) = subst (λ f. IsReason short limits word file (why_of_header f)) (sym e) tt
    by (inr other) = subst (λ f. IsReason short limits word file (why_of_header f)) (sym other.0)
        (OtherHeader names (subst (λ (o : Option Bytes). IfSome o (λ bytes. same_columns names bytes ≡ false)) known other.1) refl)

-- ---- faults that are passed on

pub passed : {T E : Type 0} (r : Result T E) (e : E) (P : E → Type 0) → IsErrAnd r (λ f. f ≡ e) → P e → IfErr r P
passed {T} {E} r e P h p =
    let q = err_from_is_err_and r h in
    let R : Result T E → Type 0 = λ s. IfErr s P in
    subst R (sym q.1) (subst P (sym q.2) p)

-- the fault of a word
pub word_fault : {T : Type 0} (outcome : Result T Why) (fault : TableFault) (at : ℕ) (P : ℕ → Why → Type 0) → (outcome ≡ Err fault.why) × (fault.word ≡ at) → IfErr outcome (P at) → P fault.word fault.why
word_fault outcome fault at P e h = subst (λ (n : ℕ). P n fault.why) (sym e.1) (IfErr-at_err (P at) e.0 h)

-- ---- faults of words whose files are known

module _ {S : Type 0} (remaining : S → Option Bytes) (opens : Bytes → Result S Error → Type 0) (contents : Bytes → Bytes) where
  -- the bytes of the source at a position, or of the word's path if it has no source
  bytes_or_path : (words : List TableWord) (sources : List Source) (at : ℕ) (d : TableWord) → HaveBytes remaining opens contents words sources
      → ((path : Bytes) (file : S) → opens path (Ok file) → remaining file ≡ Some (contents path))
      → HasBytes remaining opens (get_or words at d).file.now (get_or sources at Path) (contents (get_or words at d).file.now)
  bytes_or_path [] [] at d h opened = λ file o. opened d.file.now file o
  bytes_or_path [] (source ∷ sources) at d h opened = absurd h
  bytes_or_path (word ∷ words) [] at d h opened = λ file o. opened (get_or (word ∷ words) at d).file.now file o
  bytes_or_path (word ∷ words) (source ∷ sources) zero d h opened = h.0
  bytes_or_path (word ∷ words) (source ∷ sources) (suc at) d h opened = bytes_or_path words sources at d h.1 opened

  pub fault_of : {F : Type 0} (input : Option Bytes) (files : Files F) (limits : Bounds) (fault : TableFault) → AreFiles remaining opens input files.words.now contents → HaveBytes remaining opens contents files.words.now files.sources.now
      → IsFaultAt remaining opens files limits fault.word fault.why → IsFaultOf contents files.short limits files.words.now fault
  fault_of input files limits fault are have reason = λ d. reason d Path (contents (get_or files.words.now fault.word d).file.now) (bytes_or_path files.words.now files.sources.now fault.word d have are.opened)
