use Rattle.std.proofs.Common.{arith, ◌≡◌, ◌∙◌, List, Some, map, refl, sym, subst, rules, true}
use Rattle.std.proofs.lemmas.Bool.Decides.{nat_tests}
use Rattle.std.specs.List.{list_any}
use Rattle.gq_row.specs.declared.value.Value.{Value}
use Rattle.gq_group.proofs.Results.{on_ok_err}
use Rattle.std.proofs.lemmas.Result.{IfOk-from_err}
use Rattle.gq_group.specs.Access.{LeavesOthers}
use Rattle.gq_group.specs.Entries.{Sent, tallies}
use Rattle.gq_group.specs.Groups.{answers, is_none}
use Rattle.gq_group.specs.KeptAggs.{kept_aggs}
use Rattle.gq_group.proofs.AccessLemmas.{leaves-trans, leaves-refl}
use Rattle.gq_group.proofs.Sending.{sent-none, sent-step, sent-groups, sent-fine, count_groups, refused_one}
use Rattle.gq_group.proofs.KeyIndexLemmas.{none_left}
use Rattle.gq_group.proofs.grouping.push_all.Goals as goal

pub groups-init : goal.groups-init
groups-init g c =
    let same = sym c.make_room.ensures in
    let sink = c.args.sink.now in
    let runs = g.S.RunStore.runs c.args.store.now in
    let all = c.drain-left.result.pairs in
    let spec = c.args.spec.now in
    record {
      ready = subst (λ s. g.K.GroupSink.is_ready s runs) same c.requires.sink;
      sent = (
        all,
        c.drain-left.ensures.groups,
        subst (λ s. Sent spec runs.honest (g.K.GroupSink.holds sink runs) (g.K.GroupSink.holds s runs) all all) same (sent-none spec runs.honest (g.K.GroupSink.holds sink runs) all),
      );
      asked = c.drain-left.ensures.asked ∙ c.aggs.ensures;
      others = subst (λ s. LeavesOthers (g.K.GroupSink.owns sink) (g.K.GroupSink.owns s) runs runs) same (leaves-refl (g.K.GroupSink.owns sink) runs);
      made = λ none. refl;
    }

pub returns-in_err-send-clause-overflow : goal.returns-in_err-send-clause-overflow
returns-in_err-send-clause-overflow g c = λ e rows grouped.
    let it = c.in_err-send.ensures.overflow (search rules) in
    let sent = c.groups.invariant.sent in
    refused_one c.args.spec.now _ _ _ sent.0 c.groups.left.pairs it.rest it.pair c.args.all.pairs rows sent.2 it.first sent.1 grouped
    (subst (λ asked. (its : List (List Value)) → it.pair.1 ≡ tallies (kept_aggs asked) its → list_any is_none (answers asked its) ≡ true) c.groups.invariant.asked it.refused)

pub groups-preserved : goal.groups-preserved
groups-preserved g c =
    let it = c.in_ok-send.ensures.sent in
    let takes = it.2 in
    let sent = c.groups.invariant.sent in
    record {
      ready = c.in_ok-send.ensures.ready;
      sent = (
        sent.0,
        sent.1,
        sent-step c.args.spec.now _ _ _ _ sent.0 c.groups.left.pairs c.send.new.self.pairs (it.0, takes.running) it.1 sent.2 takes.first
            (subst (λ asked. (rows : List (List Value)) → takes.running ≡ tallies (kept_aggs asked) rows → answers asked rows ≡ map Some it.1) c.groups.invariant.asked takes.answered)
            (λ h. it.3 (c.groups.invariant.others.same_honest ∙ h)),
      );
      asked = takes.same_asked ∙ c.groups.invariant.asked;
      others = leaves-trans _ _ _ _ _ _ c.groups.invariant.others c.in_ok-send.ensures.others;
      made = λ none. c.in_ok-send.ensures.made none ∙ c.groups.invariant.made none;
    }

pub returns-clause-sent : goal.returns-clause-sent
returns-clause-sent g c = λ rows grouped.
    let none = none_left c.groups.left.pairs (let empty = c.is_empty.ensures in let test = c.groups-test.false in grind (arith, nat_tests)) in
    let sent = c.groups.invariant.sent in
    let it = sent-groups c.args.spec.now _ _ _ sent.0 c.args.all.pairs rows (rw none at sent.2) sent.1 grouped in
    (it.0, it.1, it.2)

pub returns-clause-count : goal.returns-clause-count
returns-clause-count g c = λ rows grouped. let sent = c.groups.invariant.sent in c.len-groups.ensures ∙ sym sent.1.once ∙ count_groups sent.0 c.args.all.pairs c.args.spec.now rows sent.1 grouped

pub returns-clause-no_overflow : goal.returns-clause-no_overflow
returns-clause-no_overflow g c = λ rows grouped.
    let none = none_left c.groups.left.pairs (let empty = c.is_empty.ensures in let test = c.groups-test.false in grind (arith, nat_tests)) in
    let sent = c.groups.invariant.sent in
    sent-fine c.args.spec.now _ _ _ sent.0 c.args.all.pairs rows (rw none at sent.2) sent.1 grouped

pub returns-in_err-send-clause-count : goal.returns-in_err-send-clause-count
returns-in_err-send-clause-count g c = IfOk-from_err c.from_residual.result _ c.from_residual.ensures.0

pub returns-in_err-send-clause-entries : goal.returns-in_err-send-clause-entries
returns-in_err-send-clause-entries g c = IfOk-from_err c.from_residual.result _ c.from_residual.ensures.0

pub returns-in_err-send-clause-sent : goal.returns-in_err-send-clause-sent
returns-in_err-send-clause-sent g c = on_ok_err _ c.from_residual.result c.from_residual.ensures.0

pub returns-in_err-send-clause-no_overflow : goal.returns-in_err-send-clause-no_overflow
returns-in_err-send-clause-no_overflow g c = on_ok_err _ c.from_residual.result c.from_residual.ensures.0

pub returns-in_err-send-clause-sink : goal.returns-in_err-send-clause-sink
returns-in_err-send-clause-sink g c = on_ok_err _ c.from_residual.result c.from_residual.ensures.0

pub returns-in_err-send-clause-others : goal.returns-in_err-send-clause-others
returns-in_err-send-clause-others g c = leaves-trans _ _ _ _ _ _ c.groups.invariant.others c.in_err-send.ensures.others

pub returns-in_err-send-clause-made : goal.returns-in_err-send-clause-made
returns-in_err-send-clause-made g c = λ none. c.in_err-send.ensures.made none ∙ c.groups.invariant.made none

pub returns-clause-entries : goal.returns-clause-entries
returns-clause-entries g c = c.len-groups.ensures

pub returns-clause-sink : goal.returns-clause-sink
returns-clause-sink g c = c.groups.invariant.ready

pub returns-clause-others : goal.returns-clause-others
returns-clause-others g c = c.groups.invariant.others

pub returns-clause-made : goal.returns-clause-made
returns-clause-made g c = c.groups.invariant.made
