use Rattle.std.proofs.Common.{◌∙◌, ◌++◌, ap}
use Rattle.std.specs.Prelude.{◌==◌, codes, flat_map}
use Rattle.std.specs.Borrow.{Bor}
use Rattle.gq_options.specs.CommandLine.{Text}
use Rattle.gq_shell.proofs.InputLemmas.{given_run}
use Rattle.gq_shell.proofs.script.run_in.Goals as goal

pub returns-in-Ok : goal.returns-in-Ok
returns-in-Ok g c =
    given_run _ _ _ _ _ _ _ c.args.options.now.commands.items _ _ (c.is_empty.ensures ∙ ap (λ n. n == 0) c.args.options.now.commands.ok.0) c.if-is_empty.false
    (c.as_bytes.ensures.value ∙ c.in-Ok.ensures ∙ ap (flat_map (λ (lines : Bor Text). lines.now ++ codes "\n")) c.as_slice.ensures.value) c.run_open.ensures
