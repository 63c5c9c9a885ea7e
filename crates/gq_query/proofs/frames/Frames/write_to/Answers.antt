use Rattle.std.proofs.Common.{◌<◌, ◌∙◌, length, refl, rules}
use lib.Seq.{map-set_same}
use Rattle.gq_query.specs.declared.group_list.GroupSpan.{GroupSpan}
use Rattle.gq_query.specs.GroupSpans.{with_prefix}
use Rattle.gq_query.specs.Frames.{HasFramePrefix}
use Rattle.gq_query.proofs.TieLemmas.{set_more}
use Rattle.gq_query.proofs.frames.Frames.write_to.Goals as goal

pub loop-i-preserved : goal.loop-i-preserved
loop-i-preserved c =
    let none : GroupSpan = record { prefix = record { high = 0; low = 0 }; start = 0; key = 0; values = 0 } in
    let within : c.loop-i.i < length c.loop-i.groups = search rules in
    record {
      kept = λ p. map-set_same (with_prefix p) c.loop-i.groups c.loop-i.i _ none refl ∙ c.loop-i.invariant.kept p;
      prefixed = set_more (λ k s. HasFramePrefix c.args.cells.now c.args.self.now s) c.loop-i.groups c.loop-i.i _ within c.prefix.ensures c.loop-i.invariant.prefixed;
    }

pub returns : goal.returns
returns c = record {
  kept = c.loop-i.invariant.kept;
  prefixed = λ k d lt. c.loop-i.invariant.prefixed k d (search rules);
}
