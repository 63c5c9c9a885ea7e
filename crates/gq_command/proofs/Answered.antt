-- What a line gives, by what was kept of it.
use Rattle.std.proofs.Common.{◌≡◌, ℕ, ◌<◌, ◌≤◌, true, false, refl, sym, ap, subst, ◌∙◌, arith, length, inl, inr}
use Rattle.std.proofs.lemmas.Bool.{ltb-false, ltb-true}
use Rattle.std.specs.Prelude.{Err, IsErrOf}
use Rattle.gq_row.specs.declared.limits.Bounds.{Bounds}
use Rattle.gq_command.specs.declared.command.Command.{Command}
use Rattle.gq_script.specs.declared.gather.Opening.{Opening}
use Rattle.gq_script.specs.declared.gather.Opening.TheVariants as opening
use Rattle.gq_script.specs.declared.gather.OpenLine.{OpenLine}
use Rattle.gq_command.specs.declared.lines.LineRefusal.{LineRefusal}
use Rattle.gq_command.specs.declared.lines.LineRefusal.TheVariants as refusal
use Rattle.gq_command.specs.declared.reader.Item.TheVariants as item
use Rattle.gq_command.specs.Commands.{Bytes, fits}
use Rattle.gq_script.specs.Gathering.{Gathers, is_skippable, opening_of}
use Rattle.gq_command.specs.Items.{IsReadAs}
use Rattle.gq_token.specs.Lexing.{skip_blanks}
use Rattle.gq_command.specs.Lines.{Says}
use Rattle.gq_script.specs.Script.{Plain, is_skipped}
use Rattle.gq_script.proofs.Gathered.{kept_blank, dash_line, opening_tells}
use Rattle.gq_token.proofs.Trimmed.{trimmed_shorter}
use Rattle.gq_command.proofs.Trimmed.{says_trimmed, says_whole, dash_says_none}

short : (most : ℕ) (line : OpenLine) (text : Bytes) → Gathers most line text → line.too_long ≡ false → length text ≤ most
short most line text h e = ltb-false most (length text) (sym h.too_long ∙ e)

pub too_long : (b : Bounds) (line : OpenLine) (text : Bytes) → Gathers b.line line text → line.too_long ≡ true → IsReadAs b (Plain text) (item.Refused refusal.LineTooLong)
too_long b line text h e = inl (ltb-true b.line (length text) (sym h.too_long ∙ e))

pub dash : (b : Bounds) (line : OpenLine) (text : Bytes) → Gathers b.line line text → line.too_long ≡ false → line.opening ≡ opening.Dash → IsReadAs b (Plain text) (item.Refused refusal.Syntax)
dash b line text h e o = inl (short b.line line text h e, dash_says_none text (dash_line text (sym h.opening ∙ o)))

a_word : (o : Opening) → is_skippable o ≡ false → (o ≡ opening.Dash → ⊥) → o ≡ opening.Word
a_word opening.Blank e never = absurd cc
a_word opening.Dash e never = absurd (never refl)
a_word opening.Comment e never = absurd cc
a_word opening.Word e never = refl

-- what was kept of a line that is no dash alone
kept_is : (most : ℕ) (line : OpenLine) (text : Bytes) → Gathers most line text → is_skipped text ≡ false → line.too_long ≡ false → line.lost ≡ false → (line.opening ≡ opening.Dash → ⊥) → line.kept.items ≡ skip_blanks text
kept_is most line text h skipped long lost never =
    h.kept lost long ∙ kept_blank text (a_word (opening_of opening.Blank text) (opening_tells text ∙ skipped) (λ e. never (h.opening ∙ e)))

pub command : (b : Bounds) (line : OpenLine) (text : Bytes) → Gathers b.line line text → is_skipped text ≡ false → line.too_long ≡ false → line.lost ≡ false → (line.opening ≡ opening.Dash → ⊥)
    → (c : Command) → Says line.kept.items c → fits b c ≡ true → IsReadAs b (Plain text) (item.Command c)
command b line text h skipped long lost never c said within =
    inl (short b.line line text h long, (says_trimmed text c (subst (λ (l : Bytes). Says l c) (kept_is b.line line text h skipped long lost never) said), within))

pub refused : (b : Bounds) (line : OpenLine) (text : Bytes) → Gathers b.line line text → is_skipped text ≡ false → line.too_long ≡ false → line.lost ≡ false → (line.opening ≡ opening.Dash → ⊥)
    → (r : LineRefusal) → (IsErrOf {T = Command} {E = LineRefusal} (Err r) refusal.Syntax → (c : Command) → Says line.kept.items c → ⊥) → (IsErrOf {T = Command} {E = LineRefusal} (Err r) refusal.Limit → (c : Command) × Says line.kept.items c × (fits b c ≡ false)) → (IsErrOf {T = Command} {E = LineRefusal} (Err r) refusal.LineTooLong → b.line < length line.kept.items)
    → IsReadAs b (Plain text) (item.Refused r)
refused b line text h skipped long lost never refusal.Memory syntax limit too = inr (inl refl)
refused b line text h skipped long lost never refusal.LineTooLong syntax limit too =
    let is = kept_is b.line line text h skipped long lost never in
    let le = short b.line line text h long in
    absurd (omega (arith, too refl, ap length is, trimmed_shorter text, le))
refused b line text h skipped long lost never refusal.Syntax syntax limit too =
    let is = kept_is b.line line text h skipped long lost never in
    inl (short b.line line text h long, λ c said. syntax refl c (subst (λ (l : Bytes). Says l c) (sym is) (says_whole text c said)))
refused b line text h skipped long lost never refusal.Limit syntax limit too =
    let is = kept_is b.line line text h skipped long lost never in
    let x = limit refl in
    inl (short b.line line text h long, (x.0, says_trimmed text x.0 (subst (λ (l : Bytes). Says l x.0) is x.1), x.2))
