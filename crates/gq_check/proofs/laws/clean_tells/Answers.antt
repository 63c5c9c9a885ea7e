use Rattle.gq_script.specs.Numbering.{numbered}
use Rattle.gq_check.proofs.NumberLemmas.{all-clean, none-given}
use Rattle.gq_check.proofs.laws.clean_tells.Goals as goal

pub returns : goal.returns
returns c = λ b script. (all-clean b (numbered b script), none-given b (numbered b script))
