use Rattle.std.proofs.Common.{◌≡◌, ◌∙◌, ap, arith, length, length-set, refl, sym, take}
use Rattle.std.proofs.lemmas.List.{length-take-le, take-set, take_more_set}
use Rattle.gq_group.proofs.BlockLemmas.{ahead-none, ahead-stopped, ahead-over, ahead-more, ahead-full, known_rest}
use Rattle.gq_group.proofs.row_block.read_ahead.Goals as goal

pub rows-init : goal.rows-init
rows-init g c = record {
  read = ahead-none c.args.pass.now.spec.now _ _ _ _ _ _ _ c.requires.source;
  long = refl;
}

pub read_row-requires-clause-source : goal.read_row-requires-clause-source
read_row-requires-clause-source g c = c.rows.invariant.read.came.ready

pub read_row-requires-clause-rows : goal.read_row-requires-clause-rows
read_row-requires-clause-rows g c = λ h.
    let came = c.rows.invariant.read.came in
    let before = sym c.rows.invariant.read.others.same_honest ∙ h in
    let known = c.requires.rows before in
    let rest = came.rest before known.0 known.1 in
    (rest.0, rest.2, known_rest c.args.pass.now.spec.now _ known.0 rest.0 rest.1 known.2)

pub returns-in_err-more-clause-read : goal.returns-in_err-more-clause-read
returns-in_err-more-clause-read g c =
    let told = c.in_err-more.ensures.comes in
    ahead-stopped c.args.pass.now.spec.now _ (take c.rows.i c.rows.rows) _ _ _ _ _ _ _ _ _ _ _ _ c.rows.invariant.read told.others told.owned told.made _ _ _ _ c.from_residual.result c.in_err-more.field-0.0 c.from_residual.ensures.1 told.cause

pub returns-then-not-more-clause-read : goal.returns-then-not-more-clause-read
returns-then-not-more-clause-read g c =
    let told = c.in_ok-more.ensures.comes in
    let i = c.rows.i in
    ahead-over c.args.pass.now.spec.now _ (take i c.rows.rows) _ _ _ _ _ _ _ _ _ _ _ _ c.rows.invariant.read told.others told.owned told.made _ _ _ _ i
    (take-set c.rows.rows i c.read_row.new.over) (sym (length-take-le i c.rows.rows (omega (arith, c.rows.invariant.long)))) told.ready (omega (arith, rw c.if-not-more.true at told.bound)) (rw c.if-not-more.true at told.rows)

pub rows-preserved : goal.rows-preserved
rows-preserved g c =
    let told = c.in_ok-more.ensures.comes in
    let i = c.rows.i in
    record {
      read = rw (take_more_set c.rows.rows i c.read_row.new.over (omega (arith, c.rows.invariant.long)))
          (ahead-more c.args.pass.now.spec.now _ (take i c.rows.rows) _ _ _ _ _ _ _ _ _ _ _ _ c.rows.invariant.read told.others told.owned told.made c.read_row.new.over _ _ _
          told.ready (rw c.if-not-more.false at told.bound) (c.in_ok-more.ensures.hashed c.if-not-more.false) (rw c.if-not-more.false at told.rows));
      long = length-set c.rows.rows i c.read_row.new.over ∙ c.rows.invariant.long;
    }

pub returns-clause-read : goal.returns-clause-read
returns-clause-read g c =
    let rows = c.rows.rows in
    let all : length rows ≡ c.rows.i = omega (arith, c.rows.invariant.long, c.rows-test.false, c.rows.auto.i-end) in
    ahead-full c.args.pass.now.spec.now _ (take c.rows.i rows) rows _ _ _ _ _ _ _ _ _ _ (length rows) (ap (λ n. take n rows) all) (λ none. omega (arith, none, c.rows.invariant.long, c.requires.some)) c.rows.invariant.read
