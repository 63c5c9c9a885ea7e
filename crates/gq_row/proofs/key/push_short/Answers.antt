use Rattle.std.proofs.Common.{◌++◌, ◌∷◌, [], slice_set, ap, sym, ◌∙◌}
use Rattle.std.proofs.lemmas.List.{set_at}
use Rattle.gq_row.specs.declared.value.Value.{Value}
use Rattle.gq_row.specs.declared.value.Value.TheVariants as variant
use Rattle.gq_row.proofs.key.push_short.Goals as goal

pub returns-clause-pushed : goal.returns-clause-pushed
returns-clause-pushed c =
    let last : Value = variant.Text c.copy_short_from.new.self in
    λ _. ap (λ xs. slice_set xs c.len-place.result last) c.push_reserved.ensures.items
    ∙ set_at c.args.folds.now.items (variant.Text c.empty.result) [] last c.len-place.result (sym (c.len-place.ensures ∙ c.args.folds.now.ok.0))
    ∙ ap (λ t. c.args.folds.now.items ++ variant.Text t ∷ []) (c.copy_short_from.ensures.copied c.if-copy_short_from.true)
