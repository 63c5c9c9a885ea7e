use Rattle.std.proofs.Common.{subst, ℕ, Option, ◌≡◌}
use Rattle.gq_group.specs.declared.grouping.Spent.{Spent}
use Rattle.gq_command.specs.Commands.{Bytes}
use Rattle.gq_engine.specs.declared.output.Output.{Output}
use Rattle.gq_engine.specs.Engines.{spent_of, state_of}
use Rattle.gq_engine.specs.Headline.{State}
use Rattle.gq_engine.specs.Runs.{Setting}
use Rattle.gq_options.specs.CommandLine.{Asked}
use Rattle.gq_shell.specs.Program.{RanScript, output_of, setting_by}
use Rattle.gq_shell.specs.Session.{EndedWith, report_of}
use Rattle.gq_shell.specs.Streams.{Stream}
use Rattle.gq_shell.specs.declared.seeding.RunSeed.{RunSeed}
use Rattle.gq_shell.proofs.script.run_open.Goals as goal

-- a session of an engine under the program's setting
ran : (asked : Asked) (script : Option Bytes) (replies errors : Stream) (status : ℕ) (new : State) (seed : RunSeed) (spent : Spent) (output : Output) (setting : Setting) (old : State)
    → output ≡ output_of asked.output → setting ≡ setting_by asked.spill → EndedWith output setting old script new (report_of asked.stats seed spent) replies errors status
    → RanScript old asked seed script replies errors status
ran asked script replies errors status new seed spent output setting old output_is setting_is ended =
    let of_output : EndedWith (output_of asked.output) setting old script new (report_of asked.stats seed spent) replies errors status =
    subst (λ (o : Output). EndedWith o setting old script new (report_of asked.stats seed spent) replies errors status) output_is ended in
    record {
      new = new;
      spent = spent;
      ended = subst (λ (s : Setting). EndedWith (output_of asked.output) s old script new (report_of asked.stats seed spent) replies errors status) setting_is of_output;
    }

pub returns : goal.returns
returns g c = ran _ _ _ _ _ (state_of g.T.RunStore.runs c.session.new.engine) c.args.seed (spent_of c.session.new.engine) _ _ _ c.output_of.ensures c.requires.setting c.session.ensures.ended
