use Rattle.std.proofs.Common.{◌∙◌, sym}
use Rattle.gq_group.proofs.BlockLemmas.{comes_err, not_fit}
use Rattle.gq_group.proofs.row_block.read_row.Goals as goal

pub hash-over-requires : goal.hash-over-requires
hash-over-requires g c = sym c.fits.ensures ∙ c.if-not-fits.false

pub returns-in_err-more-clause-comes : goal.returns-in_err-more-clause-comes
returns-in_err-more-clause-comes g c =
    let told = c.in_err-more.ensures in
    comes_err _ _ _ _ _ _ _ _ _ _ _ c.from_residual.result c.in_err-more.field-0.0 c.from_residual.ensures.1 told.others told.owned told.made told.cause

pub returns-then-not-more-clause-comes : goal.returns-then-not-more-clause-comes
returns-then-not-more-clause-comes g c =
    let told = c.in_ok-more.ensures in
    record {
      rows = rw c.if-not-more.true at told.rows;
      bound = rw c.if-not-more.true at told.bound;
      ready = told.ready;
      others = told.others;
      owned = told.owned;
      made = told.made;
      cause = tt;
    }

pub returns-then-not-fits-clause-comes : goal.returns-then-not-fits-clause-comes
returns-then-not-fits-clause-comes g c =
    let told = c.in_ok-more.ensures in
    record {
      rows = λ h. tt;
      bound = tt;
      ready = tt;
      others = told.others;
      owned = told.owned;
      made = told.made;
      cause = λ h.
          let known = c.requires.rows h in
          let came = (rw c.if-not-more.false at told.rows) h known.0 known.1 in
          not_fit c.args.pass.now.spec.now c.next.new.row came.0 known.0 came.1 (sym c.fits.ensures ∙ c.if-not-fits.true) known.2;
    }

pub returns-clause-comes : goal.returns-clause-comes
returns-clause-comes g c =
    let told = c.in_ok-more.ensures in
    record {
      rows = rw c.if-not-more.false at told.rows;
      bound = rw c.if-not-more.false at told.bound;
      ready = told.ready;
      others = told.others;
      owned = told.owned;
      made = told.made;
      cause = tt;
    }

pub returns-clause-hashed : goal.returns-clause-hashed
returns-clause-hashed g c = λ h. record { fits = sym c.fits.ensures ∙ c.if-not-fits.false; hashed = c.hash-over.ensures }
