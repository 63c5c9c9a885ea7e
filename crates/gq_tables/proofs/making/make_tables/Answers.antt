use Rattle.std.proofs.Common.{◌≡◌, ◌∙◌, ◌+◌, List, Option, ap, subst, sym, length, take, arith}
use Rattle.std.specs.Prelude.{IfSome}
use Rattle.std.specs.Fn.{FnReturnsAt}
use Rattle.std.proofs.lemmas.List.{take_all}
use Rattle.gq_row.specs.declared.limits.Bounds.{Bounds}
use Rattle.gq_engine.specs.Engines.{database, setting_of}
use Rattle.gq_tables.specs.declared.files.Files.{Files}
use Rattle.gq_tables.specs.declared.source.Source.{Source}
use Rattle.gq_tables.specs.declared.fault.TableFault.{TableFault}
use Rattle.gq_tables.specs.Files.{HaveBytes}
use Rattle.gq_tables.specs.Reasons.{IsFaultAt}
use Rattle.gq_tables.specs.Steps.{MadeUpTo}
use Rattle.gq_tables.proofs.MadeLemmas.{made_all}
use Rattle.gq_tables.proofs.ReasonLemmas.{fault_of}
use Rattle.gq_tables.proofs.making.make_tables.Goals as goal

pub loop-at-preserved : goal.loop-at-preserved
loop-at-preserved g c = record {
  setting = c.make_next-fault.ensures.setting ∙ c.loop-at.invariant.setting;
  before = λ fine. c.loop-at.invariant.before (c.make_next-fault.ensures.before fine);
  made = λ fine contents files empty.
      let words = c.args.words.now in
      let was = c.make_next-fault.ensures.before fine in
      let same = ap (λ s. s.limits) c.loop-at.invariant.setting in
      let have = subst (λ (sources : List Source). HaveBytes g.R.Read.remaining (λ name opened. FnReturnsAt g.F.Fn c.args.opener.now name opened) contents words sources) (sym c.as_slice.ensures.value) (c.find_sources-sources.ensures.have contents files) in
      let whole = ap length c.as_slice.ensures.value ∙ c.find_sources-sources.ensures.all (c.loop-at.invariant.before was) in
      subst (λ (b : Bounds). MadeUpTo contents c.args.short b words (c.loop-at.at + 1) (database c.make_next-fault.new.engine)) same
      (c.make_next-fault.ensures.made fine contents have whole
      (subst (λ (b : Bounds). MadeUpTo contents c.args.short b words c.loop-at.at (database c.loop-at.engine)) (sym same) (c.loop-at.invariant.made was contents files empty)));
  within = c.make_next-fault.ensures.within c.loop-at.invariant.within;
  reasons =
      let same = ap (λ s. s.limits) c.loop-at.invariant.setting in
      let files : Files g.row.F.Denot = record { words = c.args.words; sources = c.as_slice.result; opener = c.args.opener; short = c.args.short } in
      let P : Bounds → Option TableFault → Type 0 = λ limits fault.
      IfSome fault (λ (found : TableFault). IsFaultAt g.R.Read.remaining (λ name opened. FnReturnsAt g.F.Fn c.args.opener.now name opened) files limits found.word found.why) in
      subst (λ (b : Bounds). P b c.make_next-fault.result) same
      (c.make_next-fault.ensures.refused (subst (λ (b : Bounds). P b c.loop-at.fault) (sym same) c.loop-at.invariant.reasons));
}

pub returns-in-None-clause-made : goal.returns-in-None-clause-made
returns-in-None-clause-made g c = λ contents files empty.
    let words = c.args.words.now in
    let whole = c.find_sources-sources.ensures.all (c.loop-at.invariant.before c.in-None.is) in
    let all : take c.loop-at.at words ≡ words = take_all c.loop-at.at words (omega (arith, whole, c.loop-at-test.false, c.len-at-end.ensures)) in
    made_all contents c.args.short (setting_of g.S.RunStore.runs c.args.engine.now).limits words c.loop-at.at (database c.loop-at.engine) all (c.loop-at.invariant.made c.in-None.is contents files empty)

pub returns-clause-refused : goal.returns-clause-refused
returns-clause-refused g c = λ contents are.
    let files : Files g.row.F.Denot = record { words = c.args.words; sources = c.as_slice.result; opener = c.args.opener; short = c.args.short } in
    let limits = (setting_of g.S.RunStore.runs c.args.engine.now).limits in
    let have = subst (λ (sources : List Source). HaveBytes g.R.Read.remaining (λ name opened. FnReturnsAt g.F.Fn c.args.opener.now name opened) contents c.args.words.now sources) (sym c.as_slice.ensures.value) (c.find_sources-sources.ensures.have contents are) in
    let reason = subst (λ (o : Option TableFault). IfSome o (λ (found : TableFault). IsFaultAt g.R.Read.remaining (λ name opened. FnReturnsAt g.F.Fn c.args.opener.now name opened) files limits found.word found.why)) c.in-Some.is c.loop-at.invariant.reasons in
    fault_of g.R.Read.remaining (λ name opened. FnReturnsAt g.F.Fn c.args.opener.now name opened) contents (g.I.Read.remaining c.args.input.now) files limits c.in-Some.found are have reason
