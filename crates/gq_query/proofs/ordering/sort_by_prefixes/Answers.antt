use Rattle.std.proofs.Common.{sym, ap, subst, IsPermutation}
use Rattle.std.proofs.lemmas.List.Sorted.{IsPermutation-refl, IsPermutation-trans}
use Rattle.gq_query.proofs.ordering.sort_by_prefixes.Goals as goal
use Rattle.gq_query.proofs.ordering.sort_by_prefixes.Goals.{then-columns-ne1+in_ok-sort_by_cached_key, else-columns-ne1}

pub returns : goal.returns
returns c =
    let old = c.args.spans.now.items in
    let first : IsPermutation old c.if-columns-ne1.spans.items = elim c.if-columns-ne1.branch [
      | then-columns-ne1+in_ok-sort_by_cached_key w ↦ subst (IsPermutation old) (sym (ap (λ s. s.items) w.spans-is)) w.sort_by_cached_key.ensures.permutation
      | else-columns-ne1 w ↦ subst (IsPermutation old) (sym (ap (λ s. s.items) w.spans-is)) (IsPermutation-refl old)
    ] in
    IsPermutation-trans _ _ _ first c.sort_by_cached_key-2.ensures.permutation
