use Rattle.std.proofs.Common.{◌≡◌, refl, subst, take, ℕ, arith, ap}
use Rattle.std.proofs.lemmas.Result.{IfErr-at_err, err_from_is_err_and}
use Rattle.gq_engine.specs.Engines.{database, setting_of}
use Rattle.gq_engine.specs.Runs.{SameTables}
use Rattle.gq_engine.proofs.OrderLemmas.{tables_trans}
use Rattle.gq_tables.specs.Made.{of_name}
use Rattle.gq_tables.specs.Steps.{IsFilled, IsWith}
use Rattle.gq_tables.proofs.TableLemmas.{match_err}
use Rattle.gq_tables.proofs.WordLemmas.{filled_start, none_of_name}
use Rattle.gq_tables.proofs.ReasonLemmas.{passed, word_fault}
use Rattle.gq_tables.specs.Reasons.{IsFaultAt}
use Rattle.gq_tables.specs.declared.fault.TableFault.{TableFault}
use Rattle.gq_tables.specs.declared.fault.Why.{Why}
use Rattle.gq_row.specs.declared.limits.Bounds.{Bounds}
use Rattle.std.specs.Fn.{FnReturnsAt}
use Rattle.gq_tables.proofs.table.load_files.Goals as goal

pub loop-word-init : goal.loop-word-init
loop-word-init g c = record {
  setting = refl;
  filled = λ contents first before columns key knows none start.
      filled_start contents c.args.files.now.short (setting_of g.S.RunStore.runs c.args.engine.now).limits before first.name columns key (database c.args.engine.now) (of_name first.name (take c.args.at c.args.files.now.words.now))
      (none_of_name first.name (take c.args.at c.args.files.now.words.now) knows.earliest) start;
}

pub returns-in_err-at_word-clause-filled : goal.returns-in_err-at_word-clause-filled
returns-in_err-at_word-clause-filled g c = λ contents first before columns key knows none start.
    let f = c.loop-word.invariant.filled contents first before columns key knows none start in
    let kept = IfErr-at_err (λ _. SameTables (database c.loop-word.engine) (database c.load_word.new.engine)) c.in_err-at_word.ensures.err.0 c.load_word.ensures.kept in
    let p = err_from_is_err_and c.from_residual.result c.from_residual.ensures.1 in
    match_err c.from_residual.result p.0 _ _ p.1 (record { table = f.table; is = tt; same = tables_trans _ _ _ f.same kept })

pub returns-clause-filled : goal.returns-clause-filled
returns-clause-filled g c = λ contents first before columns key knows none start.
    let words = c.args.files.now.words.now in
    let whole : c.loop-word.word ≡ c.args.end = omega (arith, c.loop-word-test.false, c.loop-word.auto.word, c.loop-word.auto.word-end, c.requires.at) in
    subst (λ (n : ℕ). IsWith before first.name (IsFilled contents c.args.files.now.short (setting_of g.S.RunStore.runs c.args.engine.now).limits columns key (of_name first.name (take n words))) (database c.loop-word.engine)) whole
    (c.loop-word.invariant.filled contents first before columns key knows none start)

pub returns-in_err-at_word-clause-refused : goal.returns-in_err-at_word-clause-refused
returns-in_err-at_word-clause-refused g c =
    let P : Bounds → ℕ → Why → Type 0 = λ limits n why. IsFaultAt g.R.Read.remaining (λ name opened. FnReturnsAt g.F.Fn c.args.files.now.opener.now name opened) c.args.files.now limits n why in
    let fault = c.in_err-at_word.field-0.0 in
    passed c.from_residual.result fault (λ (fault : TableFault). P (setting_of g.S.RunStore.runs c.args.engine.now).limits fault.word fault.why) c.from_residual.ensures.1
    (subst (λ (limits : Bounds). P limits fault.word fault.why) (ap (λ s. s.limits) c.loop-word.invariant.setting)
    (word_fault c.load_word.result fault c.loop-word.word (P (setting_of g.S.RunStore.runs c.loop-word.engine).limits) c.in_err-at_word.ensures.err c.load_word.ensures.refused))
