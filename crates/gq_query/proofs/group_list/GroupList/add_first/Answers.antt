use Rattle.std.proofs.Common.{◌≡◌, ◌++◌, ◌∷◌, ◌∙◌, [], append_assoc, drop, length, refl, ap, arith, rules}
use Rattle.std.specs.Prelude.{slice_index_or}
use Rattle.std.proofs.lemmas.List.{length-append}
use Rattle.gq_query.proofs.GroupSpanLemmas.{kept_on, not_put, put_groups, put_is, span_as}
use Rattle.gq_query.proofs.group_list.GroupList.add_first.Goals as goal

pub invariant_of-self-in_err-span : goal.invariant_of-self-in_err-span
invariant_of-self-in_err-span c =
    let groups = c.self.inside.groups.items in
    kept_on c.self.inside.cells c.push_key.new.self (slice_index_or c.args.keys.now 0 []) groups groups c.in_ok-push_key.ensures.pushed refl c.self.invariant

pub invariant_of-self-in_err-push_all : goal.invariant_of-self-in_err-push_all
invariant_of-self-in_err-push_all c =
    let xs = c.self.inside.cells in
    let key = slice_index_or c.args.keys.now 0 [] in
    let more = drop (length c.push_key.new.self) c.push_all.new.self in
    kept_on xs c.push_all.new.self (key ++ more) c.self.inside.groups.items c.self.inside.groups.items
    (c.push_all.ensures.kept ∙ ap (λ l. l ++ more) c.in_ok-push_key.ensures.pushed ∙ append_assoc xs key more) refl c.self.invariant

pub invariant_of-self-in_err-push : goal.invariant_of-self-in_err-push
invariant_of-self-in_err-push c =
    let xs = c.self.inside.cells in
    let key = slice_index_or c.args.keys.now 0 [] in
    let values = c.args.values.now.items in
    let whole : c.push_all.new.self ≡ (xs ++ key) ++ values = c.in_ok-push_all.ensures.pushed ∙ ap (λ l. c.push_key.new.self ++ l) c.as_mut_slice.ensures.value ∙ ap (λ l. l ++ values) c.in_ok-push_key.ensures.pushed in
    not_put xs key values c.push_all.new.self c.in_ok-span.span c.self.inside.groups.items c.push.new.self.items whole c.self.invariant (search rules)

pub invariant_of-self-2 : goal.invariant_of-self-2
invariant_of-self-2 c =
    let xs = c.self.inside.cells in
    let key = slice_index_or c.args.keys.now 0 [] in
    let values = c.args.values.now.items in
    let span = c.in_ok-span.span in
    let whole : c.push_all.new.self ≡ (xs ++ key) ++ values = c.in_ok-push_all.ensures.pushed ∙ ap (λ l. c.push_key.new.self ++ l) c.as_mut_slice.ensures.value ∙ ap (λ l. l ++ values) c.in_ok-push_key.ensures.pushed in
    let begins = c.len-start.ensures in
    let both = length-append xs key in
    let more = ap length c.in_ok-push_key.ensures.pushed in
    let all = c.len.ensures in
    let is = span_as begins (omega (arith, begins, both, more, all)) (search rules) c.in_ok-span.ensures.made in
    put_groups xs key values c.push_all.new.self span c.self.inside.groups.items c.push.new.self.items whole c.self.invariant is c.in_ok-push.ensures.items

pub returns-clause-added : goal.returns-clause-added
returns-clause-added c =
    let xs = c.self.inside.cells in
    let key = slice_index_or c.args.keys.now 0 [] in
    let values = c.args.values.now.items in
    let span = c.in_ok-span.span in
    let whole : c.push_all.new.self ≡ (xs ++ key) ++ values = c.in_ok-push_all.ensures.pushed ∙ ap (λ l. c.push_key.new.self ++ l) c.as_mut_slice.ensures.value ∙ ap (λ l. l ++ values) c.in_ok-push_key.ensures.pushed in
    let begins = c.len-start.ensures in
    let both = length-append xs key in
    let more = ap length c.in_ok-push_key.ensures.pushed in
    let all = c.len.ensures in
    let is = span_as begins (omega (arith, begins, both, more, all)) (search rules) c.in_ok-span.ensures.made in
    c.make_room.ensures ∙ put_is xs key values c.push_all.new.self span c.self.inside.groups.items c.push.new.self.items whole c.self.invariant is c.in_ok-push.ensures.items
    ∙ ap (λ l. l ++ (key, values) ∷ []) c.self.view_is
