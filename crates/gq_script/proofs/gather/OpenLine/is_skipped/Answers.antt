use Rattle.std.proofs.Common.{ap, ◌∙◌}
use Rattle.gq_script.specs.Gathering.{is_skippable}
use Rattle.gq_script.proofs.Gathered.{opening_tells}
use Rattle.gq_script.proofs.gather.OpenLine.is_skipped.Goals as goal

pub returns : goal.returns
returns c = λ most line h. c.is_skippable.ensures ∙ ap is_skippable h.opening ∙ opening_tells line
