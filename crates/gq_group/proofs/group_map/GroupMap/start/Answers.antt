use Rattle.std.proofs.Common.{◌==◌, ◌∙◌, ap, sym, length, arith, []}
use Rattle.std.specs.FinMap.{len, len-empty}
use Rattle.gq_group.specs.Entries.{listed, tallies}
use Rattle.gq_group.specs.Maps.{MapView, pairs_from}
use Rattle.gq_group.proofs.KeptLemmas.{kept-none}
use Rattle.gq_group.proofs.MapGroups.{grouped-start, grouped-start_alone, if_ok}
use Rattle.gq_group.proofs.ResidentLemmas.{len-alone}
use Rattle.gq_group.proofs.group_map.GroupMap.start.Goals as goal

pub returns-then-is_empty-clause-grouped : goal.returns-then-is_empty-clause-grouped
returns-then-is_empty-clause-grouped g c =
    if_ok _ _ c.start_alone.result (λ (groups : MapView _) put. grouped-start_alone c.args.spec.now groups.pairs (sym (c.is_empty.ensures ∙ ap (λ by. length by == 0) c.by.ensures) ∙ c.if-is_empty.true) put) c.start_alone.ensures.entries

pub returns-then-is_empty-clause-few : goal.returns-then-is_empty-clause-few
returns-then-is_empty-clause-few g c =
    if_ok _ _ c.start_alone.result (λ groups put. let one = ap (λ m. len m) put ∙ len-alone ([], tallies c.args.spec.now.aggs []) in omega (arith, one)) c.start_alone.ensures.entries

pub invariant_of-result : goal.invariant_of-result
invariant_of-result g c = kept-none _ _ c.new.result.keys c.new.ensures.keys c.new-2.ensures.items

pub returns-clause-grouped : goal.returns-clause-grouped
returns-clause-grouped g c =
    grouped-start c.args.spec.now (pairs_from (length c.aggs.result.now) 0 c.new-2.result.items c.new.result.keys) (sym (c.is_empty.ensures ∙ ap (λ by. length by == 0) c.by.ensures) ∙ c.if-is_empty.false)
    (ap (λ ks. listed (pairs_from (length c.aggs.result.now) 0 c.new-2.result.items ks)) c.new.ensures.keys)

pub returns-clause-few : goal.returns-clause-few
returns-clause-few g c =
    let none = ap (λ ks. len (listed (pairs_from (length c.aggs.result.now) 0 c.new-2.result.items ks))) c.new.ensures.keys ∙ len-empty _ _ in
    omega (arith, none)
