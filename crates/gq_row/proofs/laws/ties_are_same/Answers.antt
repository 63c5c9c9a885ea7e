use Rattle.gq_row.proofs.OrderLemmas.{same_value_ties, equal_value_ties, same_key_ties}
use Rattle.gq_row.proofs.laws.ties_are_same.Goals as goal

pub returns : goal.returns
returns c = record { values = same_value_ties; equal = equal_value_ties; keys = same_key_ties }
