use Rattle.std.proofs.Common.{ap, take, ◌∙◌}
use Rattle.gq_script.specs.FirstWords.{is_load}
use Rattle.gq_script.proofs.LoadWord.{word_tells}
use Rattle.gq_script.proofs.gather.OpenLine.takes_payload.Goals as goal

pub returns : goal.returns
returns c = λ bounds line h. c.is_load.ensures ∙ ap is_load h.word ∙ word_tells (take bounds.line line)
