use Rattle.std.proofs.Common.{◌≡◌, ◌<◌, ◌∙◌, ◌++◌, ◌∷◌, [], get_or, length, min, sym, ap, arith, rules}
use Rattle.std.specs.Prelude.{insert}
use Rattle.gq_row.specs.declared.value.Value.TheVariants.{Null}
use Rattle.gq_query.specs.Joining.{first_of}
use Rattle.gq_query.proofs.Joined.{inserted_within, joined_more}
use Rattle.gq_query.proofs.grouping.join_counts.Goals as goal

pub loop-i-preserved : goal.loop-i-preserved
loop-i-preserved c =
    let gs = c.args.groups.now in
    let cs = c.args.counts.now in
    let i = c.loop-i.i in
    let same = c.requires in
    let there : i < length cs = omega arith in
    let less : i < length gs = omega (arith, there, same) in
    let shown = (get_or gs i ([], [])).1 in
    let all = c.copy_values.new.values.items in
    let count = first_of (get_or cs i ([], [])) in
    let at : c.min-place.result ≡ min c.args.place (length all) = search rules in
    let taken : c.take_first.result ≡ count = c.take_first.ensures ∙ ap (λ l. get_or l 0 Null) c.in_ok-copy_values-2.ensures in
    let values : c.insert.new.self.items ≡ insert shown c.args.place count =
    c.in_ok-insert.ensures.items ∙ (λ j. insert all (at j) (taken j)) ∙ inserted_within all c.args.place count ∙ ap (λ l. insert l c.args.place count) c.in_ok-copy_values.ensures in
    c.in_ok-push_group.ensures
    ∙ (λ j. c.loop-i.invariant j ++ (c.in_ok-copy_key.ensures j, values j) ∷ [])
    ∙ sym (joined_more c.args.place gs cs i ([], []) ([], []) less there)
