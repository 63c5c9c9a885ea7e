use Rattle.std.proofs.Common.{◌<◌, ◌≤◌, ◌++◌, ◌∷◌, [], inl, inr, refl, ap, sym, subst, ◌∙◌, arith}
use Rattle.gq_row.specs.Rows.{key_of}
use Rattle.gq_table.proofs.KeyedLemmas.{lacks_absent, put_new, rows_with_more}
use Rattle.gq_table.proofs.keyed.KeyedRows.add.Goals as goal

pub returns-then-most-len-clause-why : goal.returns-then-most-len-clause-why
returns-then-most-len-clause-why g c =
    let rows = c.args.self.now.rows in
    let row = c.args.row.now in
    let lacks = lacks_absent c.args.positions.now rows c.args.self.now.index.keys (key_of c.args.positions.now row) c.requires.own c.requires.absent.none in
    inl (refl, subst (λ n. c.args.most < n) (sym (rows_with_more c.args.positions.now rows row lacks)) (let over = c.if-most-len.true in let long = c.len.ensures in omega arith))

pub returns-in_default-clause-why : goal.returns-in_default-clause-why
returns-in_default-clause-why g c =
    let rows = c.args.self.now.rows in
    let row = c.args.row.now in
    let lacks = lacks_absent c.args.positions.now rows c.args.self.now.index.keys (key_of c.args.positions.now row) c.requires.own c.requires.absent.none in
    inr (refl, subst (λ n. n ≤ c.args.most) (sym (rows_with_more c.args.positions.now rows row lacks)) (let few = c.if-most-len.false in let long = c.len.ensures in omega arith), lacks)

pub returns-in-Ok-push-clause-ok : goal.returns-in-Ok-push-clause-ok
returns-in-Ok-push-clause-ok g c =
    let rows = c.args.self.now.rows in
    let row = c.args.row.now in
    let lacks = lacks_absent c.args.positions.now rows c.args.self.now.index.keys (key_of c.args.positions.now row) c.requires.own c.requires.absent.none in
    c.in-Ok-push.ensures.rows ∙ ap (λ r. rows ++ r ∷ []) c.cells_mut.ensures.value
    ∙ sym (put_new c.args.positions.now rows row lacks)

pub returns-in-Err-clause-why : goal.returns-in-Err-clause-why
returns-in-Err-clause-why g c =
    let rows = c.args.self.now.rows in
    let row = c.args.row.now in
    let lacks = lacks_absent c.args.positions.now rows c.args.self.now.index.keys (key_of c.args.positions.now row) c.requires.own c.requires.absent.none in
    inr (refl, subst (λ n. n ≤ c.args.most) (sym (rows_with_more c.args.positions.now rows row lacks)) (let few = c.if-most-len.false in let long = c.len.ensures in omega arith), lacks)
