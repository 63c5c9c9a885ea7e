use Rattle.std.proofs.Common.{◌≡◌, ◌∙◌, [], ◌∷◌, map, List, refl, sym, ap, subst, Some}
use Rattle.std.specs.List.{list_all}
use Rattle.gq_group.specs.Groups.{Group}
use Rattle.gq_select.specs.Asking.{is_valid_for}
use Rattle.gq_select.specs.declared.output_column.OutputColumn.{OutputColumn}
use Rattle.gq_query.specs.Joining.{AreShown, folded_answer, row_of}
use Rattle.gq_query.specs.Keeping.{kept_rows}
use Rattle.gq_query.proofs.OutcomeLemmas.{grouped_ok, grouped_passed}
use Rattle.gq_query.proofs.SpellingLemmas.{all_may, no_spelled_answer, spelled_answer}
use Rattle.gq_query.proofs.query.Query.rows_spelled.Goals as goal

pub show-requires-clause-shown : goal.show-requires-clause-shown
show-requires-clause-shown g c =
    let columns = c.args.self.now.table.now.schema.columns in
    ap (list_all (is_valid_for columns)) (c.as_slice.ensures.value ∙ c.in-Ok.ensures) ∙ all_may columns c.args.shown.now c.args.self.now.by.now c.requires.shown c.requires.columns.by

pub returns-in_err-groups : goal.returns-in_err-groups
returns-in_err-groups g c =
    let by = c.args.self.now.by.now in
    let mine = kept_rows c.args.self.now in
    grouped_passed c.from_residual.result c.from_residual.ensures.1
    (λ none. no_spelled_answer by c.args.shown.now mine (sym (ap (λ (all : List OutputColumn). folded_answer by all mine) (c.as_slice.ensures.value ∙ c.in-Ok.ensures)) ∙ none)) c.in_err-groups.ensures

pub returns-in-Ok-into_values : goal.returns-in-Ok-into_values
returns-in-Ok-into_values g c =
    let by = c.args.self.now.by.now in
    let mine = kept_rows c.args.self.now in
    let gs = c.in_ok-groups.groups in
    let earlier = c.in_ok-groups.ensures in
    grouped_ok
    (λ h. spelled_answer by c.args.shown.now mine gs (subst (λ (all : List OutputColumn). AreShown by all mine gs) (c.as_slice.ensures.value ∙ c.in-Ok.ensures) (earlier.found h))
    ∙ ap Some (left_out gs ∙ sym c.in-Ok-into_values.ensures))
    earlier.spent earlier.others
  where
    left_out : (gs : List Group) → map row_of (map (λ (k : Group). ([], k.1)) gs) ≡ map (λ (k : Group). k.1) gs
    left_out [] = refl
    left_out (k ∷ gs) = ap (λ l. k.1 ∷ l) (left_out gs)
