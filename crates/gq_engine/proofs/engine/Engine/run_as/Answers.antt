use Rattle.std.proofs.Common.{◌+◌, ◌∙◌, ap, refl, arith}
use Rattle.gq_engine.specs.Runs.{Setting}
use Rattle.gq_engine.specs.Engines.{setting_of, state_of}
use Rattle.gq_engine.proofs.RunLemmas.{begin, go_on_at, ended_at, stopped_reading, stopped_writing_at, few_refused}
use Rattle.gq_engine.proofs.engine.Engine.run_as.Goals as goal

pub loop-turn-init : goal.loop-turn-init
loop-turn-init g c = record {
  setting = refl;
  budget = refl;
  count = refl;
  few = omega arith;
  output = refl;
  quiet = λ _. refl;
  going = begin _ c.new-script.result c.tables-tables.ensures c.new-script.ensures.left c.new-script.ensures.given c.new-script.ensures.lines;
}

pub returns-in-Ok-None-clause-ran : goal.returns-in-Ok-None-clause-ran
returns-in-Ok-None-clause-ran g c =
    let given = rw c.in-Ok-None.field-0-is at c.in-Ok-None.ensures in
    ended_at _ _ (setting_of g.S.RunStore.runs c.loop-turn.self) c.limits.result.now.bounds c.next.new.self c.loop-turn.invariant.setting c.limits.ensures c.loop-turn.invariant.going given.end given.counted given.within

pub returns-in-Err-clause-ran : goal.returns-in-Err-clause-ran
returns-in-Err-clause-ran g c = stopped_reading _ _ c.loop-turn.invariant.going

pub returns-in-Err-serve-clause-ran : goal.returns-in-Err-serve-clause-ran
returns-in-Err-serve-clause-ran g c =
    let given = rw c.in-Ok-Some.field-0-is at c.in-Ok-Some.ensures in
    stopped_writing_at _ _ (setting_of g.S.RunStore.runs c.loop-turn.self) c.limits.result.now.bounds c.next.new.self (g.W.Write.contents c.serve.new.writer) c.in-Ok-Some.item (state_of g.S.RunStore.runs c.serve.new.self)
    c.loop-turn.invariant.setting c.limits.ensures c.loop-turn.invariant.going given.item c.in-Err-serve.ensures.served

pub returns-clause-ran : goal.returns-clause-ran
returns-clause-ran g c = stopped_reading _ _ c.loop-turn.invariant.going

pub loop-turn-preserved : goal.loop-turn-preserved
loop-turn-preserved g c =
    let given = rw c.in-Ok-Some.field-0-is at c.in-Ok-Some.ensures in
    record {
      setting = c.serve.ensures.setting ∙ c.loop-turn.invariant.setting;
      budget = c.serve.ensures.budget ∙ c.loop-turn.invariant.budget;
      count = c.add.ensures.commands ∙ ap (λ k. k + 1) c.loop-turn.invariant.count;
      few = rw c.add.ensures.refused (few_refused _ _ _ c.loop-turn.invariant.few);
      output = c.report.ensures.output ∙ c.loop-turn.invariant.output;
      quiet = λ is. c.report.ensures.quiet (c.loop-turn.invariant.output ∙ is) ∙ c.loop-turn.invariant.quiet is;
      going = go_on_at _ _ (setting_of g.S.RunStore.runs c.loop-turn.self) c.limits.result.now.bounds c.next.new.self (g.W.Write.contents c.serve.new.writer) (g.E.Write.contents c.report.new.errors) c.had_result-earlier.result c.report.new.self.is_open c.add.new.self.commands c.add.new.self.refused
          c.in-Ok-Some.item c.loop-turn.complaints.output c.limits-in-Ok.result.now.bounds c.in-Ok.reply (state_of g.S.RunStore.runs c.serve.new.self)
          c.loop-turn.invariant.setting c.limits.ensures c.add.ensures.commands c.add.ensures.refused c.had_result-earlier.ensures c.loop-turn.invariant.output
          (c.limits-in-Ok.ensures ∙ ap (λ (s : Setting). s.limits) (c.serve.ensures.setting ∙ c.loop-turn.invariant.setting)) c.loop-turn.invariant.going given.item given.counted c.in-Ok.ensures.served c.report.ensures.reported;
    }
