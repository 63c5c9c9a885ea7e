use Rattle.std.proofs.Common.{◌≡◌, ◌∙◌, All, map, sym, ap, subst, arith}
use Rattle.std.proofs.lemmas.Grind.{common_steps}
use Rattle.gq_group.specs.Groups.{Group}
use Rattle.gq_cells.specs.Lists.{IsPart, row_at}
use Rattle.gq_query.specs.declared.group_list.GroupSpan.{GroupSpan}
use Rattle.gq_query.specs.GroupSpans.{end_of, middle_of}
use Rattle.gq_query.proofs.GroupSpanLemmas.{values_are, values_within}
use Rattle.gq_query.proofs.group_list.GroupList.into_values.Goals as goal

pub of-requires : goal.of-requires
of-requires c =
    let spans : c.loop-group.spans.items ≡ map (λ (s : GroupSpan). record { start = middle_of s; end = end_of s }) c.self.inside.groups.items = grind (arith, common_steps) in
    subst (All (IsPart c.self.inside.cells)) (sym spans) (values_within c.self.inside.cells c.self.inside.groups.items c.self.invariant)

pub returns : goal.returns
returns c =
    let spans : c.loop-group.spans.items ≡ map (λ (s : GroupSpan). record { start = middle_of s; end = end_of s }) c.self.inside.groups.items = grind (arith, common_steps) in
    c.of.ensures
    ∙ ap (map (row_at c.self.inside.cells)) spans
    ∙ values_are c.self.inside.cells c.self.inside.groups.items
    ∙ ap (map (λ (g : Group). g.1)) c.self.view_is
