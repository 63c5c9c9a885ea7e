use Rattle.gq_options.proofs.BudgetLemmas.{budgets-worked, takes-one-budget}
use Rattle.gq_options.proofs.laws.takes_one_budget.Goals as goal

pub returns : goal.returns
returns c = record { vary = takes-one-budget; worked = budgets-worked }
