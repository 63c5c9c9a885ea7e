use Rattle.std.proofs.Common.{◌∙◌, ◌<◌, ◌++◌, ◌∷◌, ℕ, All, List, [], length, sym, ap, subst, append_assoc}
use Rattle.std.proofs.lemmas.List.Elements.{All-head, All-tail}
use Rattle.gq_row.specs.declared.value.Value.{Value}
use Rattle.gq_query.specs.Keeping.{AreLong}
use Rattle.gq_query.proofs.KeepingLemmas.{keys_read, long_read}
use Rattle.gq_query.proofs.Placing.{rows_ready}
use Rattle.gq_query.proofs.selection.keys_of.Goals as goal

-- a row has these columns
abbrev Long : List ℕ → List Value → Type 0
Long columns row = All (λ column. column < length row) columns

pub rows-init : goal.rows-init
rows-init g c =
    let table = c.args.table.now in
    let columns = c.args.columns.now in
    let start = c.rows-rows.ensures.rows in
    record {
      keys = ([], start, c.new-keys.ensures columns);
      long = subst (AreLong columns) (sym start) (rows_ready table.schema.columns columns table.rows c.rows-rows.ensures.valid.fitting c.requires);
    }

pub add_at-requires : goal.add_at-requires
add_at-requires g c =
    let columns = c.args.columns.now in
    let at = c.advance.new.self in
    long_read columns at.row c.in_ok-read_columns.ensures.read c.row.ensures
    (All-head (Long columns) at.row at.rest (subst (All (Long columns)) (c.advance.ensures.next c.rows-test.true) c.rows.invariant.long))

pub rows-preserved : goal.rows-preserved
rows-preserved g c =
    let columns = c.args.columns.now in
    let at = c.advance.new.self in
    let steps = c.advance.ensures.next c.rows-test.true in
    let same = c.in_ok-read_columns.ensures.rest in
    let before = c.rows.invariant.keys in
    let done : List (List Value) = before.0 in
    record {
      keys = (
        done ++ at.row ∷ [],
        ap (λ l. (done ++ at.row ∷ []) ++ l) same ∙ append_assoc done (at.row ∷ []) at.rest ∙ ap (λ l. done ++ l) (sym steps) ∙ before.1,
        keys_read columns done at.row c.add_at.new.self c.in_ok-read_columns.ensures.read c.row.ensures (c.in_ok-add_at.ensures.keys done before.2),
      );
      long = subst (AreLong columns) (sym same) (All-tail (Long columns) at.row at.rest (subst (All (Long columns)) steps c.rows.invariant.long));
    }
