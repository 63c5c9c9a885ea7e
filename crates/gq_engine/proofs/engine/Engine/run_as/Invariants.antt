use Rattle.std.proofs.Common.{◌≡◌, ◌≤◌}
use Rattle.gq_engine.specs.declared.output.Output.TheVariants.{Replies}
use Rattle.gq_engine.specs.Engines.{budget_of, setting_of, state_of}
use Rattle.gq_engine.proofs.RunLemmas.{Going}
use Rattle.gq_engine.proofs.engine.Engine.run_as.Given as goal

abbrev pub invariant-loop-turn : goal.invariant-loop-turn
invariant-loop-turn g l = record {
  setting : setting_of g.S.RunStore.runs l.self ≡ setting_of g.S.RunStore.runs l.fn.self;
  budget : budget_of l.self ≡ budget_of l.fn.self;
  count : l.summary.commands ≡ l._turn;
  few : l.summary.refused ≤ l._turn;
  output : l.complaints.output ≡ l.fn.output;
  quiet : l.fn.output ≡ Replies → l.errors ≡ l.fn.errors;
  going : Going
      (record { output = l.fn.output; setting = setting_of g.S.RunStore.runs l.fn.self; old = state_of g.S.RunStore.runs l.fn.self; script = g.R.Read.remaining l.fn.reader; before = g.W.Write.contents l.fn.writer; errors = g.E.Write.contents l.fn.errors })
      (record { now = state_of g.S.RunStore.runs l.self; reader = l.script; after = g.W.Write.contents l.writer; reported = g.E.Write.contents l.errors; earlier = l.earlier; is_open = l.complaints.is_open; commands = l.summary.commands; refused = l.summary.refused });
}
