use Rattle.std.proofs.Common.{rules, ◌≡◌}
use Rattle.clap.specs.declared.builder.value_parser.ValueParser.TheVariants.{Unsigned}
use Rattle.gq_options.proofs.BudgetLemmas.{narrowed-to}
use Rattle.gq_options.proofs.options.budget_option.Goals as goal

pub returns-clause-rule : goal.returns-clause-rule
returns-clause-rule c =
    let narrowed : c.range.result ≡ Unsigned 1 1048576 =
    narrowed-to c.value_parser.result c.range.result c.new.result.start c.new.result.end c.value_parser.ensures c.new.ensures.start c.new.ensures.end c.range.ensures in
    search rules
