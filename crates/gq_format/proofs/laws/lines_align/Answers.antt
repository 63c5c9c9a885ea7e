use Rattle.gq_format.proofs.AlignLemmas.{aligned_lines}
use Rattle.gq_format.proofs.laws.lines_align.Goals as goal

pub returns : goal.returns
returns c = aligned_lines
