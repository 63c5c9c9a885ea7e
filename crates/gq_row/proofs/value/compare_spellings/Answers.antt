use Rattle.std.proofs.Common.{sym, ◌∙◌}
use Rattle.std.proofs.lemmas.Slice.Eq.{bytes_eq-Decides}
use Rattle.gq_row.proofs.OrderLemmas.{alike_tie}
use Rattle.gq_row.proofs.value.compare_spellings.Goals as goal

pub returns-then-eq : goal.returns-then-eq
returns-then-eq c = alike_tie c.args.a.now c.args.b.now ((bytes_eq-Decides c.args.a.now c.args.b.now).0 (sym c.eq.ensures ∙ c.if-eq.true))
