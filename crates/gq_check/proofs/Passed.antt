-- A payload, line by line, among items with numbers.
use Rattle.std.proofs.Common.{◌≡◌, ℕ, suc, Bool, true, false, List, [], ◌∷◌, ◌++◌, Option, Some, None, refl, sym, ap, ◌∙◌}
use Rattle.std.specs.Prelude.{IfSome}
use Rattle.std.specs.Io.KnownBytes.{Consumes}
use Rattle.gq_row.specs.declared.limits.Bounds.{Bounds}
use Rattle.gq_token.specs.Texts.{Bytes}
use Rattle.gq_script.specs.Script.{Stream, Loading, content, is_end_mark, payload_of, raw_lines, takes_payload}
use Rattle.gq_script.specs.Payloads.{TookPayloadLine, Unclosed}
use Rattle.gq_script.specs.declared.payload.Kept.{Kept}
use Rattle.gq_script.proofs.Front.{Known}
use Rattle.gq_command.proofs.NumberLemmas.{ends_here, goes_on, left_open, no_items}
use Rattle.gq_check.specs.declared.fault.Fault.{Fault}
use Rattle.gq_check.specs.declared.fault.Fault.TheVariants as why
use Rattle.gq_check.specs.Findings.{payload_fault}
use Rattle.gq_script.specs.Numbering.{Begun, Numbered, numbered_by}
use Rattle.gq_check.specs.Passing.{IsPassed, PassedPayload}

abbrev begun-with : ℕ → Bytes → Bytes → Begun
begun-with number line front = record { number = number; line = line; payload = front }

-- lines of the payload were passed, of these bytes
abbrev pub WalkedBy : Bounds → ℕ → Known → Known → ℕ → Bytes → Type 0
WalkedBy b n k now m front = IfSome k (λ xs. (ys : Bytes) × (now ≡ Some ys) × ((number : ℕ) (line : Bytes) → numbered_by (takes_payload b) n (Some (begun-with number line [])) (raw_lines xs) ≡ numbered_by (takes_payload b) m (Some (begun-with number line front)) (raw_lines ys)))

pub walked-none : (b : Bounds) (n : ℕ) (k : Known) → WalkedBy b n k k n []
walked-none b n None = tt
walked-none b n (Some xs) = (xs, refl, λ number line. refl)

some-is : {A : Type 0} (x y : A) → Some x ≡ Some y → x ≡ y
some-is x y e = cc

by-line : (b : Bounds) (n m m1 : ℕ) (k now after : Known) (front raw : Bytes) → m1 ≡ suc m → WalkedBy b n k now m front → Consumes now after raw → IfSome now (λ xs. IfSome after (λ ys. raw_lines xs ≡ raw ∷ raw_lines ys)) → is_end_mark (content raw) ≡ false
    → WalkedBy b n k after m1 (front ++ raw)
by-line b n m m1 None now after front raw num w c f e = tt
by-line b n m m1 (Some xs) None after front raw num w c f e = let q = w.1 in absurd cc
by-line b n m m1 (Some xs) (Some zs) None front raw num w c f e = absurd c
by-line b n m m1 (Some xs) (Some zs) (Some ws) front raw num w c f e =
    let same : zs ≡ w.0 = some-is zs w.0 w.1 in (
      ws,
      refl,
      λ number line.
          w.2 number line
          ∙ ap (λ (y : Bytes). numbered_by (takes_payload b) m (Some (begun-with number line front)) (raw_lines y)) (sym same)
          ∙ ap (numbered_by (takes_payload b) m (Some (begun-with number line front))) f
          ∙ goes_on (takes_payload b) m (begun-with number line front) raw (raw_lines ws) e
          ∙ ap (λ (j : ℕ). numbered_by (takes_payload b) j (Some (begun-with number line (front ++ raw))) (raw_lines ws)) (sym num),
    )

pub walked-line : (b : Bounds) (n m m1 : ℕ) (old now after : Stream) (most : ℕ) (p q : Kept) (ends : Bool) (front : Bytes) (t : TookPayloadLine most now after p q ends) → m1 ≡ suc m → ends ≡ false → WalkedBy b n old.left now.left m front
    → WalkedBy b n old.left after.left m1 (front ++ t.raw)
walked-line b n m m1 old now after most p q ends front t num e w = by-line b n m m1 old.left now.left after.left front t.raw num w t.taken.bytes_are t.first (sym t.told ∙ e)

by-mark : (b : Bounds) (n m m1 : ℕ) (k now after : Known) (front raw : Bytes) (f : Option Fault) → m1 ≡ suc m → payload_fault b.payload (Some front) ≡ f → WalkedBy b n k now m front → Consumes now after raw → IfSome now (λ xs. IfSome after (λ ys. raw_lines xs ≡ raw ∷ raw_lines ys)) → is_end_mark (content raw) ≡ true
    → IfSome k (λ bytes. (rest : Bytes) × (after ≡ Some rest) × ((number : ℕ) (line : Bytes) → IsPassed b (begun-with number line []) n bytes f m1 rest))
by-mark b n m m1 None now after front raw f num fault w c h e = tt
by-mark b n m m1 (Some xs) None after front raw f num fault w c h e = let q = w.1 in absurd cc
by-mark b n m m1 (Some xs) (Some zs) None front raw f num fault w c h e = absurd c
by-mark b n m m1 (Some xs) (Some zs) (Some ws) front raw f num fault w c h e =
    let same : zs ≡ w.0 = some-is zs w.0 w.1 in (
      ws,
      refl,
      λ number line. record {
        given = Some front;
        items =
            w.2 number line
            ∙ ap (λ (y : Bytes). numbered_by (takes_payload b) m (Some (begun-with number line front)) (raw_lines y)) (sym same)
            ∙ ap (numbered_by (takes_payload b) m (Some (begun-with number line front))) h
            ∙ ends_here (takes_payload b) m (begun-with number line front) raw (raw_lines ws) e
            ∙ ap (λ (j : ℕ). (record { number = number; entry = Loading line (Some front) }) ∷ numbered_by (takes_payload b) j None (raw_lines ws)) (sym num);
        fault = fault;
      },
    )

pub passed-mark : (b : Bounds) (n m m1 : ℕ) (old now after : Stream) (most : ℕ) (p q : Kept) (ends : Bool) (front : Bytes) (f : Option Fault) (t : TookPayloadLine most now after p q ends) → m1 ≡ suc m → ends ≡ true → payload_fault b.payload (Some front) ≡ f → WalkedBy b n old.left now.left m front
    → PassedPayload b n old after f m1
passed-mark b n m m1 old now after most p q ends front f t num e fault w = by-mark b n m m1 old.left now.left after.left front t.raw f num fault w t.taken.bytes_are t.first (sym t.told ∙ e)

-- a payload that no line ends

by-open : (b : Bounds) (n m : ℕ) (k now after : Known) (front : Bytes) → WalkedBy b n k now m front → IfSome now (λ xs. (payload_of (raw_lines xs) ≡ None) × (after ≡ Some []))
    → IfSome k (λ bytes. (rest : Bytes) × (after ≡ Some rest) × ((number : ℕ) (line : Bytes) → IsPassed b (begun-with number line []) n bytes (Some why.LoadOpen) m rest))
by-open b n m None now after front w h = tt
by-open b n m (Some xs) None after front w h = let q = w.1 in absurd cc
by-open b n m (Some xs) (Some zs) after front w h =
    let same : zs ≡ w.0 = some-is zs w.0 w.1 in (
      [],
      h.1,
      λ number line. record {
        given = None;
        items =
            w.2 number line
            ∙ ap (λ (y : Bytes). numbered_by (takes_payload b) m (Some (begun-with number line front)) (raw_lines y)) (sym same)
            ∙ left_open (takes_payload b) m (begun-with number line front) (raw_lines zs) h.0
            ∙ ap (λ (xs : List Numbered). (record { number = number; entry = Loading line None }) ∷ xs) (sym (no_items (takes_payload b) m));
        fault = refl;
      },
    )

pub passed-open : (b : Bounds) (n m : ℕ) (old now after : Stream) (front : Bytes) → Unclosed now after → WalkedBy b n old.left now.left m front → PassedPayload b n old after (Some why.LoadOpen) m
passed-open b n m old now after front u w = by-open b n m old.left now.left after.left front w u.open_is
