use Rattle.std.proofs.Common.{sym, ap, ◌∙◌}
use Rattle.std.specs.Ordering.{is_eq}
use Rattle.gq_row.proofs.OrderLemmas.{same_value_ties}
use Rattle.gq_row.proofs.value.same.Goals as goal

pub returns : goal.returns
returns c = c.is_eq.ensures ∙ ap is_eq c.compare_folded.ensures ∙ sym (same_value_ties c.args.a.now c.args.b.now)
