use Rattle.std.proofs.Common.{sym, ◌∙◌, false}
use Rattle.std.proofs.lemmas.List.Quantifiers.{position-Some}
use Rattle.sw_table.proofs.Masks.{none_set, fewer}
use Rattle.sw_table.proofs.lookup.find_in.Goals as goal

pub get-requires : goal.get-requires
get-requires g c =
    let i = c.loop-lane.invariant in let lane = c.in-Some.lane in
    c.requires.full lane (i.part lane (position-Some (λ b. b) c.loop-lane.matches lane false (sym c.in-Some.ensures)).1)

pub returns-then-same-clause-found : goal.returns-then-same-clause-found
returns-then-same-clause-found g c = (c.get.result.now, c.get.ensures, c.same.ensures.0 c.if-same.true)

pub loop-lane-smaller : goal.loop-lane-smaller
loop-lane-smaller g c = rw c.without_lowest-matches.ensures (fewer c.loop-lane.matches c.in-Some.lane (sym c.in-Some.ensures))

pub returns-clause-absent : goal.returns-clause-absent
returns-clause-absent g c l p was there = c.loop-lane.invariant.tested l p was (none_set c.loop-lane.matches (sym c.lowest.ensures ∙ c.in_default.is) l) there
