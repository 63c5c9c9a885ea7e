use Rattle.gq_select.proofs.KeySetLemmas.{null_here, null_there, else_by_key}
use Rattle.gq_select.proofs.laws.null_has_no_match.Goals as goal

pub returns : goal.returns
returns c = record { here = null_here; there = null_there; else_by_key = else_by_key }
