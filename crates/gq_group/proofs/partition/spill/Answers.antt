use Rattle.std.proofs.Common.{◌≡◌, ◌+◌, ◌++◌, ◌∷◌, [], List, get_or, sym, ap, subst, ◌∙◌}
use Rattle.std.proofs.lemmas.List.{get_or_default}
use Rattle.gq_row.specs.declared.value.Value.{Value}
use Rattle.gq_group.specs.Access.{LeavesOthers}
use Rattle.gq_group.specs.Partitioning.{one_if_some}
use Rattle.gq_group.specs.Partitions.{is_run, PartitionHolds}
use Rattle.gq_group.specs.declared.partition.Partition.{Partition}
use Rattle.gq_group.proofs.MapGroups.{on_ok, if_ok}
use Rattle.gq_group.proofs.PartitionLemmas.{held-set, ours-set, others-set, began-set, held-one}
use Rattle.gq_group.proofs.partition.spill.Goals as goal

pub returns-clause-holds : goal.returns-clause-holds
returns-clause-holds g c =
    let r = g.S.RunStore.runs c.args.store.now in
    let s = g.S.RunStore.runs c.write_to.new.store in
    let partitions : List Partition = c.args.partitions.now.items in
    let x : Partition = record { depth = c.index_mut.result.now.depth; writer = c.write_to.new.held } in
    let old : c.index_mut.result.now.writer ≡ (get_or partitions c.args.place x).writer
    = ap (λ (s : Partition). s.writer) (c.index_mut.ensures.value ∙ get_or_default partitions c.args.place c.index_mut.result.now x c.requires.within) in
    let step : LeavesOthers (is_run (get_or partitions c.args.place x).writer) (is_run x.writer) r s = subst (λ o. LeavesOthers (is_run o) (is_run x.writer) r s) old c.write_to.ensures.others in
    on_ok _ _ c.write_to.result
    (λ told parts held. held-set r s partitions c.args.place x parts c.args.row.now c.requires.within (subst (λ o. (rows : List (List Value)) → PartitionHolds r o rows → PartitionHolds s x.writer (rows ++ c.args.row.now ∷ [])) old told) step c.requires.ours held)
    c.write_to.ensures.holds

pub returns-clause-began : goal.returns-clause-began
returns-clause-began g c =
    let r = g.S.RunStore.runs c.args.store.now in
    let partitions : List Partition = c.args.partitions.now.items in
    let x : Partition = record { depth = c.index_mut.result.now.depth; writer = c.write_to.new.held } in
    let old : c.index_mut.result.now.writer ≡ (get_or partitions c.args.place x).writer
    = ap (λ (s : Partition). s.writer) (c.index_mut.ensures.value ∙ get_or_default partitions c.args.place c.index_mut.result.now x c.requires.within) in
    if_ok _ _ c.write_to.result
    (λ began told parts held. began-set r partitions c.args.place x parts c.args.row.now began c.requires.within (subst (λ o. (rows : List (List Value)) → PartitionHolds r o rows → one_if_some rows + began ≡ 1) old told) held)
    c.write_to.ensures.began

pub returns-clause-ours : goal.returns-clause-ours
returns-clause-ours g c =
    let r = g.S.RunStore.runs c.args.store.now in
    let s = g.S.RunStore.runs c.write_to.new.store in
    let partitions : List Partition = c.args.partitions.now.items in
    let x : Partition = record { depth = c.index_mut.result.now.depth; writer = c.write_to.new.held } in
    let old : c.index_mut.result.now.writer ≡ (get_or partitions c.args.place x).writer
    = ap (λ (s : Partition). s.writer) (c.index_mut.ensures.value ∙ get_or_default partitions c.args.place c.index_mut.result.now x c.requires.within) in
    let step : LeavesOthers (is_run (get_or partitions c.args.place x).writer) (is_run x.writer) r s = subst (λ o. LeavesOthers (is_run o) (is_run x.writer) r s) old c.write_to.ensures.others in
    ours-set r s partitions c.args.place x c.requires.within step c.write_to.ensures.live c.requires.ours

pub returns-clause-others : goal.returns-clause-others
returns-clause-others g c =
    let r = g.S.RunStore.runs c.args.store.now in
    let s = g.S.RunStore.runs c.write_to.new.store in
    let partitions : List Partition = c.args.partitions.now.items in
    let x : Partition = record { depth = c.index_mut.result.now.depth; writer = c.write_to.new.held } in
    let old : c.index_mut.result.now.writer ≡ (get_or partitions c.args.place x).writer
    = ap (λ (s : Partition). s.writer) (c.index_mut.ensures.value ∙ get_or_default partitions c.args.place c.index_mut.result.now x c.requires.within) in
    let step : LeavesOthers (is_run (get_or partitions c.args.place x).writer) (is_run x.writer) r s = subst (λ o. LeavesOthers (is_run o) (is_run x.writer) r s) old c.write_to.ensures.others in
    others-set r s partitions c.args.place x c.requires.within step

pub returns-clause-cause : goal.returns-clause-cause
returns-clause-cause g c parts held =
    let r = g.S.RunStore.runs c.args.store.now in
    let partitions : List Partition = c.args.partitions.now.items in
    let x : Partition = c.index_mut.result.now in
    let old : (get_or partitions c.args.place x).writer ≡ c.index_mut.result.now.writer
    = sym (ap (λ (s : Partition). s.writer) c.index_mut.ensures.value) in
    let one = held-one r partitions c.args.place x parts c.requires.within held in
    c.write_to.ensures.cause one.0 (subst (λ o. PartitionHolds r o one.0) old one.1)
