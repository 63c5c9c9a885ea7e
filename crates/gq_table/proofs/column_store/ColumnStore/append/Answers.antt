use Rattle.std.proofs.Common.{◌≡◌, ◌∙◌, ◌++◌, ◌+◌, [], length, sym, ap, arith, rules}
use Rattle.std.proofs.lemmas.List.{append-nil}
use Rattle.gq_table.specs.Columns.{columns_behind, rows_across}
use Rattle.gq_table.proofs.ColumnStoreLemmas.{appended, both_wide, none_across, written}
use Rattle.gq_table.proofs.column_store.ColumnStore.append.Goals as goal

pub returns-then-self-eq0-clause-appended : goal.returns-then-self-eq0-clause-appended
returns-then-self-eq0-clause-appended c =
    let none : c.args.self.now ≡ [] = sym c.self.view_is ∙ ap (λ n. rows_across n c.self.inside.columns.items) c.if-self-eq0.true ∙ none_across c.self.inside.columns.items in
    c.more.view_is ∙ ap (λ l. l ++ c.args.more) (sym none)

pub returns-then-rows-eq0-clause-appended : goal.returns-then-rows-eq0-clause-appended
returns-then-rows-eq0-clause-appended c =
    let none : c.args.more ≡ [] = sym c.more.view_is ∙ ap (λ n. rows_across n c.more.inside.columns.items) c.if-rows-eq0.true ∙ none_across c.more.inside.columns.items in
    sym (append-nil c.args.self.now) ∙ ap (λ l. c.args.self.now ++ l) (sym none)

pub append_columns-requires : goal.append_columns-requires
append_columns-requires c =
    let g = c.self.inside in
    let m = c.more.inside in
    let same = both_wide g.rows m.rows g.columns.items m.columns.items c.args.self.now c.args.more
    c.self.view_is c.self.invariant (omega (arith, c.if-self-eq0.false)) c.more.view_is c.more.invariant (omega (arith, c.if-rows-eq0.false)) c.requires in
    record { all = ap length c.as_mut_slice-2.ensures.value ∙ same ∙ sym (ap length c.as_mut_slice.ensures.value) }

pub invariant_of-self-in-Ok : goal.invariant_of-self-in-Ok
invariant_of-self-in-Ok c =
    let g = c.self.inside in
    let m = c.more.inside in
    let same = both_wide g.rows m.rows g.columns.items m.columns.items c.args.self.now c.args.more
    c.self.view_is c.self.invariant (omega (arith, c.if-self-eq0.false)) c.more.view_is c.more.invariant (omega (arith, c.if-rows-eq0.false)) c.requires in
    let count : c.in-Some.rows ≡ g.rows + m.rows = search rules in
    let is : c.append_columns.new.columns ≡ columns_behind g.columns.items m.columns.items = search rules in
    (written g.columns.items c.append_columns.new.columns g.columns.len (omega (arith, c.append_columns.auto.columns, c.as_mut_slice.ensures.len)) c.in-Some.rows (c.args.self.now ++ c.args.more)
    (appended g.rows m.rows c.in-Some.rows g.columns.items m.columns.items c.append_columns.new.columns c.args.self.now c.args.more c.self.view_is c.self.invariant c.more.view_is c.more.invariant same count is)).0

pub returns-in-Ok-clause-appended : goal.returns-in-Ok-clause-appended
returns-in-Ok-clause-appended c =
    let g = c.self.inside in
    let m = c.more.inside in
    let same = both_wide g.rows m.rows g.columns.items m.columns.items c.args.self.now c.args.more
    c.self.view_is c.self.invariant (omega (arith, c.if-self-eq0.false)) c.more.view_is c.more.invariant (omega (arith, c.if-rows-eq0.false)) c.requires in
    let count : c.in-Some.rows ≡ g.rows + m.rows = search rules in
    let is : c.append_columns.new.columns ≡ columns_behind g.columns.items m.columns.items = search rules in
    (written g.columns.items c.append_columns.new.columns g.columns.len (omega (arith, c.append_columns.auto.columns, c.as_mut_slice.ensures.len)) c.in-Some.rows (c.args.self.now ++ c.args.more)
    (appended g.rows m.rows c.in-Some.rows g.columns.items m.columns.items c.append_columns.new.columns c.args.self.now c.args.more c.self.view_is c.self.invariant c.more.view_is c.more.invariant same count is)).1
