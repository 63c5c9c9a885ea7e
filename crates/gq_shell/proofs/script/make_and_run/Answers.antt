use Rattle.std.proofs.Common.{ℕ, List, Option, ap, inl, inr, refl, subst}
use Rattle.std.specs.Fn.{FnReturnsAt}
use Rattle.gq_engine.specs.Engines.{state_of}
use Rattle.gq_options.specs.Words.{asked_by}
use Rattle.gq_shell.specs.Program.{RanGiven, sources_of}
use Rattle.gq_shell.specs.Streams.{stream}
use Rattle.gq_shell.proofs.InputLemmas.{by-commands}
use Rattle.gq_shell.proofs.script.make_and_run.Goals as goal

pub returns-in-Err : goal.returns-in-Err
returns-in-Err g c = let stopped = c.in-Err.ensures.stopped in inr (stopped.0, refl, stopped.1)

pub returns-in-Ok : goal.returns-in-Ok
returns-in-Ok g c =
    let made = c.in-Ok.ensures in
    let old = state_of g.T.RunStore.runs c.make_asked.new.engine in
    let P : Option (List ℕ) → Type 0 = λ before. RanGiven (sources_of (g.R.Read.remaining c.make_asked.new.input) g.S.Read.remaining (λ name opened. FnReturnsAt g.F.Fn c.args.opener name opened)) old (asked_by c.args.options.now) c.args.seed (asked_by c.args.options.now).commands
    (stream g.W.Write.contents c.args.streams.now.replies c.run_in.new.streams.replies) (record { before = before; after = g.E.Write.contents c.run_in.new.streams.errors }) c.run_in.result in
    inl (old, made.started, by-commands _ _ _ _ old _ _ _ _ _ _ (λ none script. ap g.R.Read.remaining (made.input none script)) (subst P (ap g.E.Write.contents made.quiet) c.run_in.ensures))
