use Rattle.std.proofs.Common.{◌<◌, ◌∙◌, length, ap, refl, rules, sym}
use lib.Seq.{map-set_same}
use Rattle.gq_row.specs.Rows.{cell}
use Rattle.gq_query.specs.declared.group_list.GroupSpan.{GroupSpan}
use Rattle.gq_query.specs.GroupSpans.{with_prefix}
use Rattle.gq_query.specs.Ties.{HasRestPrefix}
use Rattle.gq_query.proofs.TieLemmas.{key_kept, set_more}
use Rattle.gq_query.proofs.tie_sort.write_prefixes.Goals as goal

pub rest_prefix-requires : goal.rest_prefix-requires
rest_prefix-requires c =
    let none : GroupSpan = record { prefix = record { high = 0; low = 0 }; start = 0; key = 0; values = 0 } in
    let there : c.loop-i.i < length c.args.groups.now = search rules in
    let within : c.loop-i.i < length c.loop-i.groups = search rules in
    let same = key_kept c.args.cells.now none.prefix c.loop-i.groups c.args.groups.now c.loop-i.i none (c.loop-i.invariant.kept none.prefix) within in
    c.cells_at-found.ensures c.loop-i.i none c.index-found-i.result there ∙ ap (λ key. cell key c.args.tie.cell) (sym same)

pub loop-i-preserved : goal.loop-i-preserved
loop-i-preserved c =
    let none : GroupSpan = record { prefix = record { high = 0; low = 0 }; start = 0; key = 0; values = 0 } in
    let within : c.loop-i.i < length c.loop-i.groups = search rules in
    record {
      kept = λ p. map-set_same (with_prefix p) c.loop-i.groups c.loop-i.i _ none refl ∙ c.loop-i.invariant.kept p;
      prefixed = set_more (λ k s. HasRestPrefix c.args.cells.now c.args.tie s) c.loop-i.groups c.loop-i.i _ within c.rest_prefix.ensures c.loop-i.invariant.prefixed;
    }

pub returns : goal.returns
returns c = record {
  kept = c.loop-i.invariant.kept;
  prefixed = λ k d lt. c.loop-i.invariant.prefixed k d (search rules);
}
