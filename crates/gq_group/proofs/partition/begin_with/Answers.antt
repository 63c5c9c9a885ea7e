use Rattle.std.proofs.Common.{◌≡◌, ◌∙◌, [], sym, ap, subst}
use Rattle.std.specs.Prelude.{IsTrue}
use Rattle.gq_spill.specs.Writing.{Writing, Wrote}
use Rattle.gq_group.proofs.PartitionLemmas.{more-held}
use Rattle.gq_group.proofs.partition.begin_with.Goals as goal

pub returns-in-Ok-write-clause-holds : goal.returns-in-Ok-write-clause-holds
returns-in-Ok-write-clause-holds g c =
    let r = g.S.RunStore.runs c.begin.new.store in
    let w = c.insert.result.now in
    let made = c.in-Ok.ensures in
    let told = c.in-Ok-write.ensures in
    let count : w.mark.records ≡ 0 = ap (λ (x : Writing). x.mark.records) (c.insert.ensures.value ∙ made.begun) in
    let wrote : IsTrue r.honest → Wrote w r [] = λ h. subst (λ x. Wrote x r []) (sym c.insert.ensures.value) (made.wrote (sym made.made.others.honest ∙ h)) in
    more-held w c.write.new.self r (g.S.RunStore.runs c.write.new.store) [] c.args.row.now count told.going c.write.ensures.store.others.honest told.ok wrote (λ h. told.wrote h [])
