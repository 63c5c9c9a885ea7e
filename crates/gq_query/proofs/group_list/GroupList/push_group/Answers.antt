use Rattle.std.proofs.Common.{◌≡◌, ◌++◌, ◌∷◌, ◌∙◌, [], append_assoc, drop, length, refl, ap, rules}
use Rattle.gq_query.proofs.GroupSpanLemmas.{kept_on, not_put, put_groups, put_is}
use Rattle.gq_query.proofs.group_list.GroupList.push_group.Goals as goal

pub invariant_of-self-in_err-push_all-2 : goal.invariant_of-self-in_err-push_all-2
invariant_of-self-in_err-push_all-2 c =
    let xs = c.self.inside.cells in
    let key = c.args.key.now.items in
    let more = drop (length c.push_all.new.self) c.push_all-2.new.self in
    kept_on xs c.push_all-2.new.self (key ++ more) c.self.inside.groups.items c.self.inside.groups.items
    (c.push_all-2.ensures.kept ∙ ap (λ l. l ++ more) (c.in_ok-push_all.ensures.pushed ∙ ap (λ l. xs ++ l) c.as_mut_slice.ensures.value) ∙ append_assoc xs key more) refl c.self.invariant

pub invariant_of-self-in_err-push : goal.invariant_of-self-in_err-push
invariant_of-self-in_err-push c =
    let xs = c.self.inside.cells in
    let key = c.args.key.now.items in
    let values = c.args.values.now.items in
    let whole : c.push_all-2.new.self ≡ (xs ++ key) ++ values = c.in_ok-push_all-2.ensures.pushed ∙ ap (λ l. c.push_all.new.self ++ l) c.as_mut_slice-2.ensures.value ∙ ap (λ l. l ++ values) (c.in_ok-push_all.ensures.pushed ∙ ap (λ l. xs ++ l) c.as_mut_slice.ensures.value) in
    not_put xs key values c.push_all-2.new.self c.in_ok-span.span c.self.inside.groups.items c.push.new.self.items whole c.self.invariant (search rules)

pub invariant_of-self-2 : goal.invariant_of-self-2
invariant_of-self-2 c =
    let xs = c.self.inside.cells in
    let key = c.args.key.now.items in
    let values = c.args.values.now.items in
    let span = c.in_ok-span.span in
    let whole : c.push_all-2.new.self ≡ (xs ++ key) ++ values = c.in_ok-push_all-2.ensures.pushed ∙ ap (λ l. c.push_all.new.self ++ l) c.as_mut_slice-2.ensures.value ∙ ap (λ l. l ++ values) (c.in_ok-push_all.ensures.pushed ∙ ap (λ l. xs ++ l) c.as_mut_slice.ensures.value) in
    put_groups xs key values c.push_all-2.new.self span c.self.inside.groups.items c.push.new.self.items whole c.self.invariant (search rules) c.in_ok-push.ensures.items

pub returns : goal.returns
returns c =
    let xs = c.self.inside.cells in
    let key = c.args.key.now.items in
    let values = c.args.values.now.items in
    let span = c.in_ok-span.span in
    let whole : c.push_all-2.new.self ≡ (xs ++ key) ++ values = c.in_ok-push_all-2.ensures.pushed ∙ ap (λ l. c.push_all.new.self ++ l) c.as_mut_slice-2.ensures.value ∙ ap (λ l. l ++ values) (c.in_ok-push_all.ensures.pushed ∙ ap (λ l. xs ++ l) c.as_mut_slice.ensures.value) in
    put_is xs key values c.push_all-2.new.self span c.self.inside.groups.items c.push.new.self.items whole c.self.invariant (search rules) c.in_ok-push.ensures.items
    ∙ ap (λ l. l ++ (key, values) ∷ []) c.self.view_is
