use Rattle.gq_load.proofs.Texts.{marked, empty_int, empty_text, empty_no_case}
use Rattle.gq_load.proofs.laws.reads_nulls.Goals as goal

pub returns : goal.returns
returns c = record { marked = marked; empty_int = empty_int; empty_text = empty_text; empty_no_case = empty_no_case }
