use Rattle.std.proofs.Common.{length, drop, sym, ap, ◌∙◌}
use Rattle.sw_table.specs.Walks.{filled}
use Rattle.sw_table.proofs.Filled.{length_of_filled}
use Rattle.sw_table.proofs.Found.{filled_where_full}
use Rattle.sw_table.proofs.GroupLanes.{same_counts}
use Rattle.sw_table.proofs.table.Table.iter.Goals as goal

pub invariant_of-result : goal.invariant_of-result
invariant_of-result g c =
    let t = c.self.inside in
    let laid = c.self.invariant.laid in (
      c.new.ensures.walking c.args.self.now.bytes,
      c.self.invariant.full_is ∙ sym (same_counts t.slots t.ctrl laid.size.0 (filled_where_full _ _ t.slots t.ctrl laid)) ∙ sym (length_of_filled t.slots)
          ∙ ap (λ v. length (filled v.places)) c.self.view_is ∙ ap (λ n. length (filled (drop n c.args.self.now.places))) (sym c.new.ensures.start),
    )
