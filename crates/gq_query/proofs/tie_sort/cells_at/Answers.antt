use Rattle.std.proofs.Common.{◌<◌, ◌∙◌, length, ap, arith, rules}
use Rattle.std.proofs.lemmas.List.{get_or_default, length-set}
use Rattle.gq_row.specs.Rows.{cell}
use Rattle.gq_query.specs.GroupSpans.{key_at}
use Rattle.gq_query.proofs.TieLemmas.{IsCellAt, set_more}
use Rattle.gq_query.proofs.tie_sort.cells_at.Goals as goal

pub loop-i-preserved : goal.loop-i-preserved
loop-i-preserved c =
    let some : c.loop-i.i < length c.args.groups.now = search rules in
    record {
      size = length-set c.loop-i.found c.loop-i.i _ ∙ c.loop-i.invariant.size;
      found = set_more (IsCellAt c.args.cells.now c.args.groups.now c.args.position) c.loop-i.found c.loop-i.i _
          (omega (arith, some, c.requires, c.loop-i.invariant.size)) (λ d. c.cell_at.ensures ∙ ap (λ s. cell (key_at c.args.cells.now s) c.args.position) (get_or_default c.args.groups.now c.loop-i.i _ d some)) c.loop-i.invariant.found;
    }

pub returns : goal.returns
returns c = λ k d e lt. c.loop-i.invariant.found k e (search rules) d
