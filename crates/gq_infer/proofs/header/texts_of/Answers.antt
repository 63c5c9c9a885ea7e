use Rattle.std.proofs.Common.{◌∙◌, ◌<◌, length, inr, refl, subst, arith}
use Rattle.std.specs.Str.{IsUtf8}
use Rattle.gq_infer.proofs.HeaderLemmas.{all_more, one_bad, one_more}
use Rattle.gq_infer.proofs.header.texts_of.Goals as goal

pub returns-in-Err-clause-refused : goal.returns-in-Err-clause-refused
returns-in-Err-clause-refused c =
    let h : c.loop-i.i < length c.args.record.now = omega (arith, c.loop-i-test.true, c.len-i-end.ensures) in
    inr (refl, one_bad c.args.record.now c.loop-i.i h (subst (λ field. IsUtf8 field → ⊥) c.field_of.ensures c.in-Err.ensures.cases.0))

pub loop-i-preserved : goal.loop-i-preserved
loop-i-preserved c =
    let fields = c.args.record.now in
    let h : c.loop-i.i < length fields = omega (arith, c.loop-i-test.true, c.len-i-end.ensures) in
    record {
      texts = one_more fields c.loop-i.texts.items c.push.new.self.items c.loop-i.i c.in_ok-of-in-Ok.field-0 h c.loop-i.invariant.texts c.in_ok-push-in-Ok.ensures.items
          (c.in_ok-of-in-Ok.ensures.copied ∙ c.in-Ok.ensures.cases.0 ∙ c.field_of.ensures);
      utf8 = all_more fields c.loop-i.i h c.loop-i.invariant.utf8 (subst IsUtf8 c.field_of.ensures c.in-Ok.ensures.cases.1);
    }
