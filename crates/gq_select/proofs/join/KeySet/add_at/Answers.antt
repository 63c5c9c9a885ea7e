use Rattle.std.proofs.Common.{◌≡◌, false, ◌∙◌, ◌++◌, ◌∷◌, [], sym, ap, subst, true≢false}
use Rattle.std.proofs.lemmas.Result.{on_ok_weaker}
use Rattle.sw_index.specs.Index.{HasNone}
use Rattle.gq_row.specs.Classes.{class_of}
use Rattle.gq_row.specs.Fitting.{has_null}
use Rattle.gq_row.specs.Rows.{key_of}
use Rattle.gq_select.proofs.KeySetLemmas.{among-null, among-known, among-new, none_found, some_found}
use Rattle.gq_select.proofs.join.KeySet.add_at.Goals as goal

pub returns-then-has_null-clause-keys : goal.returns-then-has_null-clause-keys
returns-then-has_null-clause-keys g c = λ rows are key.
    are key ∙ sym (among-null c.args.columns.now rows c.args.row.now key (sym c.has_null.ensures ∙ c.if-has_null.true))

pub returns-in-At-clause-keys : goal.returns-in-At-clause-keys
returns-in-At-clause-keys g c = λ rows are key.
    let mine = key_of c.args.columns.now c.args.row.now in
    let there = c.in-At.ensures.found in
    let found = some_found c.args.self.now.index.keys mine c.in-At.field-0 there.0 there.1 (there.2 ∙ ap class_of c.new-key.ensures) in
    are key ∙ sym (among-known c.args.columns.now rows c.args.row.now key (sym (are mine) ∙ found))

pub returns-in-Absent-clause-keys : goal.returns-in-Absent-clause-keys
returns-in-Absent-clause-keys g c =
    let keys = c.args.self.now.index.keys in
    let columns = c.args.columns.now in
    let row = c.args.row.now in
    let none : has_null columns row ≡ false = sym c.has_null.ensures ∙ c.if-has_null.false in
    on_ok_weaker c.add.result
    (λ added rows are key. among-new columns rows keys c.add.new.self.keys row key none (added ∙ ap (λ k. keys ++ k ∷ []) c.new-key.ensures) (are key))
    c.add.ensures.added

pub returns-in-Absent-clause-known : goal.returns-in-Absent-clause-known
returns-in-Absent-clause-known g c = λ there.
    let keys = c.args.self.now.index.keys in
    let none = subst (λ k. HasNone class_of keys (class_of k)) c.new-key.ensures c.in-Absent.ensures.absent.none in
    absurd (true≢false (sym there ∙ none_found keys (key_of c.args.columns.now c.args.row.now) none))

pub returns-clause-keys : goal.returns-clause-keys
returns-clause-keys g c = λ rows are key.
    let mine = key_of c.args.columns.now c.args.row.now in
    let there = c.is_at.ensures.0 c.if-is_at.true in
    let found = some_found c.args.self.now.index.keys mine c.in-Some.number there.0 there.1 (there.2 ∙ ap class_of c.new-key.ensures) in
    are key ∙ sym (among-known c.args.columns.now rows c.args.row.now key (sym (are mine) ∙ found))
