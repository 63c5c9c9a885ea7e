use Rattle.std.proofs.Common.{◌≡◌, ◌+◌, ◌++◌, ◌∷◌, [], List, take, drop, bytes_eq, sym, ap, subst, ◌∙◌}
use Rattle.std.proofs.lemmas.List.{take_more, take-append-drop, map_push, map-append}
use Rattle.gq_row.specs.Repeats.{no_repeats}
use Rattle.gq_row.specs.declared.schema.Column.{Column}
use Rattle.gq_command.specs.Commands.{Bytes, column_names}
use Rattle.gq_command.proofs.Names.{Seen, more, repeats, differs}
use Rattle.gq_command.proofs.parsing.columns_differ.Goals as goal

pub returns-then-not-branch-clause-ok : goal.returns-then-not-branch-clause-ok
returns-then-not-branch-clause-ok c =
    let columns = c.args.columns.now in
    let i = c.loop-column.column-index in
    let k = c.as_str.result in
    let x = c.column-item.result in
    let front : column_names (take i columns) ++ k.now ∷ [] ≡ column_names (take (i + 1) columns) =
    ap (λ (n : Bytes). column_names (take i columns) ++ n ∷ []) c.as_str.ensures ∙ sym (map_push (λ (c : Column). c.name) (take i columns) x)
    ∙ ap (λ (d : Column). column_names (take i columns ++ d ∷ [])) c.column-item.is ∙ ap column_names (sym (take_more columns i x c.loop-column-test.true)) in
    let whole : (column_names (take i columns) ++ k.now ∷ []) ++ column_names (drop (i + 1) columns) ≡ column_names columns =
    ap (λ (l : List Bytes). l ++ column_names (drop (i + 1) columns)) front ∙ sym (map-append (λ (c : Column). c.name) (take (i + 1) columns) (drop (i + 1) columns)) ∙ ap column_names (take-append-drop (i + 1) columns) in
    sym (ap (no_repeats bytes_eq) (sym whole) ∙ repeats c.loop-column.seen k (column_names (take i columns)) (column_names (drop (i + 1) columns)) c.in_ok-insert.field-0 c.loop-column.invariant.seen c.in_ok-insert.ensures.added c.if-not-branch.true)

pub loop-column-preserved : goal.loop-column-preserved
loop-column-preserved c =
    let columns = c.args.columns.now in
    let i = c.loop-column.column-index in
    let k = c.as_str.result in
    let x = c.column-item.result in
    let front : column_names (take i columns) ++ k.now ∷ [] ≡ column_names (take (i + 1) columns) =
    ap (λ (n : Bytes). column_names (take i columns) ++ n ∷ []) c.as_str.ensures ∙ sym (map_push (λ (c : Column). c.name) (take i columns) x)
    ∙ ap (λ (d : Column). column_names (take i columns ++ d ∷ [])) c.column-item.is ∙ ap column_names (sym (take_more columns i x c.loop-column-test.true)) in
    record {
      seen = subst (Seen c.insert.new.self) front (more c.loop-column.seen c.insert.new.self k (column_names (take i columns)) c.loop-column.invariant.seen c.in_ok-insert.ensures.updates);
      differ = ap (no_repeats bytes_eq) (sym front) ∙ differs c.loop-column.seen k (column_names (take i columns)) c.in_ok-insert.field-0 c.loop-column.invariant.seen c.in_ok-insert.ensures.added c.if-not-branch.false c.loop-column.invariant.differ;
    }
