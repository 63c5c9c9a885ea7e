use Rattle.std.proofs.Common.{◌≡◌, ◌<◌, List, ℕ, length, take, refl, ap, sym, subst, ◌∙◌, arith}
use Rattle.std.proofs.lemmas.Result.{IfOk-from_err}
use Rattle.std.proofs.lemmas.List.{take_all}
use Rattle.std.proofs.lemmas.Grind.{common_steps}
use Rattle.gq_record.specs.Putting.{IsPut}
use Rattle.gq_record.specs.Records.{body_of}
use Rattle.gq_record.proofs.PutLemmas.{put_none, put_more, put_keeps}
use Rattle.gq_record.proofs.RecordLemmas.{body_push}
use Rattle.gq_record.proofs.encoding.put_body.Goals as goal

pub loop-value-init : goal.loop-value-init
loop-value-init c = put_none c.args.out.now.items c.args.at c.requires.within

pub put_value-requires-clause-cell : goal.put_value-requires-clause-cell
put_value-requires-clause-cell c = grind (arith, common_steps)

pub put_value-requires-clause-within : goal.put_value-requires-clause-within
put_value-requires-clause-within c = c.loop-value.invariant.within

pub returns-in_err-end-clause-ok : goal.returns-in_err-end-clause-ok
returns-in_err-end-clause-ok c = IfOk-from_err c.from_residual.result _ c.from_residual.ensures.0

pub returns-in_err-end-clause-keeps : goal.returns-in_err-end-clause-keeps
returns-in_err-end-clause-keeps c =
    put_keeps c.args.out.now.items c.args.at _ c.loop-value.out.items c.loop-value.end c.loop-value.invariant c.put_value.new.out.items c.requires.within c.put_value.ensures.keeps

pub loop-value-preserved : goal.loop-value-preserved
loop-value-preserved c =
    let cells = c.cells-value-items.result.now in
    let i = c.loop-value.value-index in
    let lt : i < length cells = omega arith in
    subst (λ (field : List ℕ). IsPut c.args.out.now.items c.args.at field c.put_value.new.out.items c.in_ok-end.end) (sym (body_push i cells c.value-item.result lt c.value-item.is))
    (put_more c.args.out.now.items c.args.at _ c.loop-value.out.items c.loop-value.end c.loop-value.invariant _ c.put_value.new.out.items c.in_ok-end.end c.in_ok-end.ensures.ok)

pub returns-clause-ok : goal.returns-clause-ok
returns-clause-ok c =
    let cells = c.cells-value-items.result.now in
    let all : take c.loop-value.value-index cells ≡ cells = take_all c.loop-value.value-index cells (omega arith) in
    subst (λ (field : List ℕ). IsPut c.args.out.now.items c.args.at field c.loop-value.out.items c.loop-value.end) (ap body_of (all ∙ c.cells-value-items.ensures)) c.loop-value.invariant

pub returns-clause-keeps : goal.returns-clause-keeps
returns-clause-keeps c = put_keeps c.args.out.now.items c.args.at _ c.loop-value.out.items c.loop-value.end c.loop-value.invariant c.loop-value.out.items c.requires.within refl
