use Rattle.std.proofs.Common.{◌≡◌, ◌-◌, arith, sym, ap, ◌∙◌, take, drop, length}
use Rattle.std.proofs.lemmas.Bool.{eqb-true, eq-eqb}
use Rattle.std.proofs.lemmas.List.{take_all, length-drop}
use Rattle.std.proofs.lemmas.Nat.{from_le_bytes-to_le_bytes_8}
use Rattle.std.specs.Int.{w64, to_le_bytes, from_le_bytes}
use Rattle.sw_probe.proofs.Overlap.{same_by_ends}
use Rattle.sw_probe.proofs.byte_strings.same_bytes.Goals as goal

pub returns-then-first_word : goal.returns-then-first_word
returns-then-first_word c =
    let a = c.args.a.now in let b = c.args.b.now in let last = length a - 8 in
    let x = c.first_word-then-first_word.result in let y = c.first_word-then-first_word-2.result in
    let front : take 8 a ≡ take 8 b = sym c.first_word.ensures ∙ ap (to_le_bytes w64) c.if-first_word.true ∙ c.first_word-2.ensures in
    let x_is : to_le_bytes w64 x ≡ take 8 (drop last a) = c.first_word-then-first_word.ensures ∙ ap (take 8) (take_all _ (drop last a) (omega (arith, length-drop last a))) in
    let y_is : to_le_bytes w64 y ≡ take 8 (drop last b) = c.first_word-then-first_word-2.ensures ∙ ap (take 8) (take_all _ (drop last b) (omega (arith, length-drop last b))) in (
      λ h. same_by_ends a b last (omega arith) (omega arith) (omega arith) front (sym x_is ∙ ap (to_le_bytes w64) (eqb-true x y h) ∙ y_is),
      λ e. eq-eqb x y
          (sym (from_le_bytes-to_le_bytes_8 x c.first_word-then-first_word.type_inv)
          ∙ ap (from_le_bytes w64) (x_is ∙ ap (λ s. take 8 (drop last s)) e ∙ sym y_is)
          ∙ from_le_bytes-to_le_bytes_8 y c.first_word-then-first_word-2.type_inv),
    )
