use Rattle.std.proofs.Common.{◌≡◌, ◌++◌, ◌∷◌, ◌∙◌, [], ℕ, List, length, ap, sym, refl, arith}
use Rattle.std.specs.FinMap.{insert, empty}
use Rattle.std.specs.List.{slice_get}
use Rattle.std.proofs.lemmas.Result.{IfOk-from_err}
use Rattle.sw_flat.proofs.Classes.{none_some}
use Rattle.gq_row.specs.declared.value.Value.{Value}
use Rattle.gq_row.specs.Classes.{class_of}
use Rattle.gq_agg.specs.declared.kind.AggKind.{AggKind}
use Rattle.gq_agg.specs.Running.{Running}
use Rattle.gq_group.specs.Entries.{tallies}
use Rattle.gq_group.proofs.AggLemmas.{length-tallies}
use Rattle.gq_group.proofs.KeptLemmas.{kept_alone, listed_alone}
use Rattle.gq_group.proofs.group_map.GroupMap.start_alone.Goals as goal

-- the aggregates and the key that came first
record First (aggs again : List (AggKind × ℕ)) (running : List Running) (keys : List (List Value)) : Type 0 where
  tallied : running ≡ tallies aggs []
  alone : keys ≡ [] ∷ []
  long : length running ≡ length again

first : (aggs asked again : List (AggKind × ℕ)) (before running : List Running) (none keys : List (List Value)) (key : List Value)
    → asked ≡ aggs → again ≡ aggs → before ≡ [] → running ≡ before ++ tallies asked [] → none ≡ [] → keys ≡ none ++ key ∷ [] → key ≡ []
    → First aggs again running keys
first aggs asked again before running none keys key asked_is again_is before_is more none_is added key_is =
    let tallied : running ≡ tallies aggs [] = more ∙ (λ k. before_is k ++ tallies (asked_is k) []) in
    record {
      tallied = tallied;
      alone = added ∙ (λ k. none_is k ++ key_is k ∷ []);
      long = ap length tallied ∙ length-tallies aggs [] ∙ sym (ap length again_is);
    }

pub slice_bounds-new-end : goal.slice_bounds-new-end
slice_bounds-new-end g c = refl

pub new-key-requires : goal.new-key-requires
new-key-requires g c = λ k d less. omega (arith, less)

pub unreachable-requires : goal.unreachable-requires
unreachable-requires g c =
    let found = c.in_default.ensures.found in
    none_some found.0 (sym (ap (λ ks. slice_get ks c.in_default.field-0) c.new-index.ensures.keys) ∙ found.1)

pub unreachable-unreachable : goal.unreachable-unreachable
unreachable-unreachable g c =
    let found = c.in_default.ensures.found in
    none_some found.0 (sym (ap (λ ks. slice_get ks c.in_default.field-0) c.new-index.ensures.keys) ∙ found.1)

pub same-index : goal.same-index
same-index g c = refl

pub add-requires : goal.add-requires
add-requires g c = c.in-Absent.ensures.absent

pub same-index-2 : goal.same-index-2
same-index-2 g c = refl

pub invariant_of-result : goal.invariant_of-result
invariant_of-result g c =
    let it = first c.args.spec.now.aggs c.aggs.result.now c.aggs-2.result.now c.new-running.result.items c.start_aggs.new.running.items c.new-index.result.keys c.add.new.self.keys c.new-key.result
    c.aggs.ensures c.aggs-2.ensures c.new-running.ensures.items c.in_ok-start_aggs.ensures.ok c.new-index.ensures.keys c.in_ok-add.ensures.added c.new-key.ensures in
    kept_alone (length c.aggs-2.result.now) c.start_aggs.new.running.items c.add.new.self.keys [] it.alone it.long

pub returns-clause-entries : goal.returns-clause-entries
returns-clause-entries g c =
    let it = first c.args.spec.now.aggs c.aggs.result.now c.aggs-2.result.now c.new-running.result.items c.start_aggs.new.running.items c.new-index.result.keys c.add.new.self.keys c.new-key.result
    c.aggs.ensures c.aggs-2.ensures c.new-running.ensures.items c.in_ok-start_aggs.ensures.ok c.new-index.ensures.keys c.in_ok-add.ensures.added c.new-key.ensures in
    listed_alone (length c.aggs-2.result.now) c.start_aggs.new.running.items c.add.new.self.keys [] it.alone it.long ∙ ap (λ l. insert empty (class_of []) ([], l)) it.tallied

pub returns-clause-each : goal.returns-clause-each
returns-clause-each g c = ap length c.aggs-2.ensures

pub returns-clause-hasher : goal.returns-clause-hasher
returns-clause-hasher g c = c.add.ensures.hasher ∙ c.new-index.ensures.hasher

pub returns-in_err-start_aggs-clause-entries : goal.returns-in_err-start_aggs-clause-entries
returns-in_err-start_aggs-clause-entries g c = IfOk-from_err c.from_residual.result _ c.from_residual.ensures.0

pub returns-in_err-start_aggs-clause-each : goal.returns-in_err-start_aggs-clause-each
returns-in_err-start_aggs-clause-each g c = IfOk-from_err c.from_residual.result _ c.from_residual.ensures.0

pub returns-in_err-start_aggs-clause-hasher : goal.returns-in_err-start_aggs-clause-hasher
returns-in_err-start_aggs-clause-hasher g c = IfOk-from_err c.from_residual.result _ c.from_residual.ensures.0

pub returns-in_err-add-clause-entries : goal.returns-in_err-add-clause-entries
returns-in_err-add-clause-entries g c = IfOk-from_err c.from_residual-in_err-add.result _ c.from_residual-in_err-add.ensures.0

pub returns-in_err-add-clause-each : goal.returns-in_err-add-clause-each
returns-in_err-add-clause-each g c = IfOk-from_err c.from_residual-in_err-add.result _ c.from_residual-in_err-add.ensures.0

pub returns-in_err-add-clause-hasher : goal.returns-in_err-add-clause-hasher
returns-in_err-add-clause-hasher g c = IfOk-from_err c.from_residual-in_err-add.result _ c.from_residual-in_err-add.ensures.0
