use Rattle.std.proofs.Common.{◌∙◌, sym, ap}
use Rattle.gq_row.specs.Classes.{class_of}
use Rattle.gq_row.specs.Rows.{key_of}
use Rattle.gq_select.proofs.KeySetLemmas.{some_found}
use Rattle.gq_select.proofs.join.semi_join_at.Goals as goal

pub returns : goal.returns
returns g c =
    let there = c.is_at.ensures.0 c.if-is_at.true in
    sym (some_found c.args.keys.now.index.keys (key_of c.args.columns.now c.args.row.now) c.in-Some.number there.0 there.1 (there.2 ∙ ap class_of c.new.ensures))
