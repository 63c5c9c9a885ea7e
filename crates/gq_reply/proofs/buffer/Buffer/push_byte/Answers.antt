use Rattle.std.proofs.Common.{◌≡◌, ◌∷◌, [], ◌∙◌, ap, refl, arith}
use Rattle.csv.specs.Writing.{default_writer, escaped}
use Rattle.csv.proofs.WriteFacts.{escaped-double, escaped-other}
use Rattle.gq_reply.proofs.buffer.Buffer.push_byte.Goals as goal

pub returns-then-byte-eq34-clause-ok : goal.returns-then-byte-eq34-clause-ok
returns-then-byte-eq34-clause-ok g c =
    let is : c.args.byte ≡ 34 = omega (arith, c.if-byte-eq34.true) in
    let same : escaped default_writer (c.args.byte ∷ []) ≡ 34 ∷ 34 ∷ [] = escaped-double default_writer c.args.byte is refl ∙ ap (λ b. b ∷ b ∷ []) is in
    rw same c.push.ensures.ok

pub returns-then-byte-eq34-clause-err : goal.returns-then-byte-eq34-clause-err
returns-then-byte-eq34-clause-err g c =
    let is : c.args.byte ≡ 34 = omega (arith, c.if-byte-eq34.true) in
    let same : escaped default_writer (c.args.byte ∷ []) ≡ 34 ∷ 34 ∷ [] = escaped-double default_writer c.args.byte is refl ∙ ap (λ b. b ∷ b ∷ []) is in
    rw same c.push.ensures.err

pub returns-else-byte-eq34-clause-ok : goal.returns-else-byte-eq34-clause-ok
returns-else-byte-eq34-clause-ok g c =
    let other : c.args.byte ≡ 34 → ⊥ = λ e. omega (arith, c.if-byte-eq34.false, e) in
    rw (escaped-other default_writer c.args.byte other) c.push-else-byte-eq34.ensures.ok

pub returns-else-byte-eq34-clause-err : goal.returns-else-byte-eq34-clause-err
returns-else-byte-eq34-clause-err g c =
    let other : c.args.byte ≡ 34 → ⊥ = λ e. omega (arith, c.if-byte-eq34.false, e) in
    rw (escaped-other default_writer c.args.byte other) c.push-else-byte-eq34.ensures.err
