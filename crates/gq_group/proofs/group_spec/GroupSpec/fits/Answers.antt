use Rattle.std.proofs.Common.{◌≡◌, ◌&&◌, ◌∙◌, true, false, take, sym, ap, rules}
use Rattle.std.specs.List.{list_all}
use Rattle.std.proofs.lemmas.Bool.{and_parts}
use Rattle.gq_group.specs.Fitting.{has_all_asked}
use Rattle.gq_group.specs.Groups.{Spec, fits_cell, fits_spec, has_columns}
use Rattle.gq_group.proofs.FittingLemmas.{first_asked, lacks_column, sums_decide}
use Rattle.gq_group.proofs.group_spec.GroupSpec.fits.Goals as goal

pub returns-else-reaches : goal.returns-else-reaches
returns-else-reaches c =
    let row = c.args.row.now in
    let there : Spec = record { by = c.self.inside.by.items; aggs = c.self.inside.aggs.items } in
    let lacks : (has_columns there.by row && has_all_asked there.aggs row) ≡ false =
    sym (c.self.invariant.0 row) ∙ sym (search rules) ∙ c.if-reaches.false in
    c.if-reaches.false ∙ sym (lacks_column there row lacks) ∙ ap (λ spec. fits_spec spec row) c.self.view_is

pub fit_cells-requires : goal.fit_cells-requires
fit_cells-requires c =
    let row = c.args.row.now in
    let own = c.self.inside in
    let all : (has_columns own.by.items row && has_all_asked own.aggs.items row) ≡ true =
    sym (c.self.invariant.0 row) ∙ sym (search rules) ∙ c.if-reaches.true in
    let has = and_parts (has_columns own.by.items row) (has_all_asked own.aggs.items row) all in
    let same = c.aggs.ensures ∙ sym (ap (λ (s : Spec). s.aggs) c.self.view_is) in
    ap (λ aggs. has_all_asked (take own.sums aggs) row) same ∙ first_asked row own.sums own.aggs.items has.1

pub returns-then-reaches : goal.returns-then-reaches
returns-then-reaches c =
    let row = c.args.row.now in
    let own = c.self.inside in
    let all : (has_columns own.by.items row && has_all_asked own.aggs.items row) ≡ true =
    sym (c.self.invariant.0 row) ∙ sym (search rules) ∙ c.if-reaches.true in
    let has = and_parts (has_columns own.by.items row) (has_all_asked own.aggs.items row) all in
    let same = c.aggs.ensures ∙ sym (ap (λ (s : Spec). s.aggs) c.self.view_is) in
    c.fit_cells.ensures
    ∙ ap (λ aggs. list_all (fits_cell row) (take own.sums aggs)) same
    ∙ sums_decide row own.sums own.aggs.items c.self.invariant.2 has.1
    ∙ ap (λ b. b && list_all (fits_cell row) own.aggs.items) (sym has.0)
    ∙ ap (λ spec. fits_spec spec row) c.self.view_is
