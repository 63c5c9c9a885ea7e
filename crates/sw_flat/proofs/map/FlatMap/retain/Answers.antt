use Rattle.std.proofs.Common.{◌+◌, ◌<◌, length, drop, sym, subst, ap, ◌∙◌, arith}
use Rattle.sw_table.specs.View.{slot_count}
use Rattle.sw_table.specs.Walks.{filled}
use Rattle.sw_table.proofs.Emptied.{others_kept}
use Rattle.sw_table.proofs.Walking.{walking_kept}
use Rattle.sw_flat.specs.Retaining.{AnswersAt}
use Rattle.sw_flat.proofs.Drained.{fewer_filled, fewer_emptied}
use Rattle.sw_flat.proofs.Listed.{lists_filled}
use Rattle.sw_flat.proofs.Retained.{IsRetaining, retaining_none, retaining_kept, retaining_dropped, retained}
use Rattle.sw_flat.proofs.map.FlatMap.retain.Goals as goal

pub entries-init : goal.entries-init
entries-init g c =
    let start = retaining_none g.F.FnMut c.args.keep (filled c.args.self.now.places) c.self.inside.table.places (ap (λ v. filled v.places) c.self.view_is) in (
      c.requires,
      c.new-walk.ensures.walking c.self.inside.table.bytes,
      record { slots = ap (λ v. slot_count v) c.self.view_is; hasher = ap (λ v. v.hasher) c.self.view_is },
      subst (λ k. IsRetaining g.F.FnMut c.args.keep (filled c.args.self.now.places) c.args.keep c.self.inside.table.places k) (sym c.new-walk.ensures.start) start,
    )

pub entries-smaller-then-not-keeps : goal.entries-smaller-then-not-keeps
entries-smaller-then-not-keeps g c =
    let old = c.entries.self-inside.table.places in
    subst (λ k. length (filled (drop k c.remove-entry.new.self.places)) < length (filled (drop c.entries.walk.from old))) (sym c.in-Some.ensures.moved)
    (subst (λ ps. length (filled (drop (c.in-Some.slot.index + 1) ps)) < length (filled (drop c.entries.walk.from old))) (sym c.remove-entry.ensures.places)
    (fewer_emptied old c.entries.walk.from c.in-Some.slot.index c.remove-entry.result c.in-Some.ensures.full.0 c.in-Some.ensures.first c.remove-entry.ensures.entry))

pub entries-preserved-then-not-keeps : goal.entries-preserved-then-not-keeps
entries-preserved-then-not-keeps g c =
    let x : g.row.K.Denot × g.row.V.Denot = (c.at.result.0.now, c.at.result.1.now) in
    let i = c.entries.invariant in
    let at = c.in-Some.slot.index in
    let t = c.entries.self-inside.table in
    let moved = c.in-Some.ensures.moved in
    let said = subst (λ b. AnswersAt g.F.FnMut c.entries.keep x b c.keeps.new.keep) c.if-not-keeps.true c.keeps.ensures.answer in
    let dropped = retaining_dropped g.F.FnMut c.args.keep (filled c.args.self.now.places) c.entries.keep t.places c.entries.walk.from at x i.3 c.in-Some.ensures.full.0 c.in-Some.ensures.first c.at.ensures
    c.keeps.new.keep said c.remove-entry.new.self.places c.remove-entry.ensures.places in (
      c.keeps.ensures.callable,
      walking_kept t.bytes c.remove-entry.new.self.bytes c.advance.new.walk c.remove-entry.ensures.slots
          (λ k past. others_kept t.bytes c.remove-entry.new.self.bytes at c.remove-entry.ensures.emptied c.remove-entry.ensures.deleted k (omega (arith, past, moved))) c.in-Some.ensures.walking,
      record { slots = c.remove-entry.ensures.slots ∙ i.2.slots; hasher = c.remove-entry.ensures.hasher ∙ i.2.hasher },
      subst (λ k. IsRetaining g.F.FnMut c.args.keep (filled c.args.self.now.places) c.keeps.new.keep c.remove-entry.new.self.places k) (sym moved) dropped,
    )

pub entries-smaller : goal.entries-smaller
entries-smaller g c =
    let ps = c.entries.self-inside.table.places in
    subst (λ k. length (filled (drop k ps)) < length (filled (drop c.entries.walk.from ps))) (sym c.in-Some.ensures.moved)
    (fewer_filled ps c.entries.walk.from c.in-Some.slot.index (c.at.result.0.now, c.at.result.1.now) c.in-Some.ensures.full.0 c.in-Some.ensures.first c.at.ensures)

pub entries-preserved : goal.entries-preserved
entries-preserved g c =
    let x : g.row.K.Denot × g.row.V.Denot = (c.at.result.0.now, c.at.result.1.now) in
    let i = c.entries.invariant in
    let t = c.entries.self-inside.table in
    let said = subst (λ b. AnswersAt g.F.FnMut c.entries.keep x b c.keeps.new.keep) c.if-not-keeps.false c.keeps.ensures.answer in
    let stays = retaining_kept g.F.FnMut c.args.keep (filled c.args.self.now.places) c.entries.keep t.places c.entries.walk.from c.in-Some.slot.index x i.3 c.in-Some.ensures.full.0 c.in-Some.ensures.first c.at.ensures
    c.keeps.new.keep said in (
      c.keeps.ensures.callable,
      c.in-Some.ensures.walking,
      i.2,
      subst (λ k. IsRetaining g.F.FnMut c.args.keep (filled c.args.self.now.places) c.keeps.new.keep t.places k) (sym c.in-Some.ensures.moved) stays,
    )

pub returns-clause-kept : goal.returns-clause-kept
returns-clause-kept g c = retained g.F.FnMut c.args.keep (filled c.args.self.now.places) c.entries.keep c.entries.self-inside.table.places c.entries.walk.from c.entries.invariant.3 c.in_default.ensures.none

pub returns-clause-all : goal.returns-clause-all
returns-clause-all g c = lists_filled g.K.Keyed.class c.entries.self-inside.table.places c.capacity.ensures.laid_out.apart
