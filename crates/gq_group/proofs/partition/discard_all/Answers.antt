use Rattle.std.proofs.Common.{ℕ, sym, ap, subst, arith}
use Rattle.std.proofs.lemmas.Grind.{common_steps}
use Rattle.gq_spill.specs.declared.run_mark.RunMark.{RunMark}
use Rattle.gq_group.specs.RunSources.{only}
use Rattle.gq_group.specs.Partitions.{Gone, is_run}
use Rattle.gq_group.proofs.GoneLemmas.{discarded-none, discarded-step, gone-one, gone-none}
use Rattle.gq_group.proofs.partition.discard_all.Goals as goal

pub partitions-init : goal.partitions-init
partitions-init g c = discarded-none c.args.partitions.items _ c.requires.ours

pub partitions-preserved-in-Some-writer : goal.partitions-preserved-in-Some-writer
partitions-preserved-in-Some-writer g c =
    let s = g.S.RunStore.runs c.partitions.store in
    let t = g.S.RunStore.runs c.discard.new.self in
    let one = subst (λ (n : ℕ). Gone (only n) s t) (ap (λ (m : RunMark). m.id.number) c.finish.ensures) (gone-one _ s t c.discard.ensures) in
    discarded-step c.args.partitions.items c.partitions.left.items c.pop.new.self.items c.in-Some.partition _ s t c.partitions.invariant c.in-Some.ensures.items
    (subst (λ o. Gone (is_run o) s t) (sym c.in-Some-writer.is) one)

pub partitions-preserved : goal.partitions-preserved
partitions-preserved g c =
    let s = g.S.RunStore.runs c.partitions.store in
    discarded-step c.args.partitions.items c.partitions.left.items c.pop.new.self.items c.in-Some.partition _ s s c.partitions.invariant c.in-Some.ensures.items
    (subst (λ o. Gone (is_run o) s s) (sym c.in_default-writer.is) (gone-none s))

pub discard-requires : goal.discard-requires
discard-requires g c = grind (arith, common_steps)
