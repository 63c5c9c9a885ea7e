use Rattle.std.proofs.Common.{◌≡◌, ◌<◌, All, IsTrue, length, true, false, sym, ap, subst, ◌∙◌, None, arith}
use Rattle.std.specs.Prelude.{OnOk, OnErr, IfErr}
use Rattle.std.proofs.lemmas.Grind.{common_steps}
use Rattle.gq_row.specs.Fitting.{fits_columns, has_null}
use Rattle.gq_row.proofs.FittingLemmas.{all_as_long, as_long}
use Rattle.gq_table.specs.Changes.{IsPut}
use Rattle.gq_table.specs.Keyed.{OwnKeys, AreApart}
use Rattle.gq_table.specs.Refusing.{row_refusal, WhyNotPut}
use Rattle.gq_table.specs.Stored.{IsStored, rows_of}
use Rattle.gq_table.specs.declared.rows.Storage.TheVariants.{Columnar}
use Rattle.gq_table.proofs.ValidTableLemmas.{table, key_in_range}
use Rattle.gq_table.proofs.StoredLemmas.{apart_of, upserted_keyed, upserted_columnar, keyed_own, keyed_some, IsColumnar, PutColumnar}
use Rattle.gq_table.proofs.table.Table.put.Goals as goal

pub put-requires : goal.put-requires
put-requires g c =
    let stored = (subst (IsStored c.self.inside.schema) c.in-Keyed.is c.self.invariant) in
    let fits = subst (λ t. fits_columns t.schema.columns c.args.row.now ≡ true) (sym c.self.view_is) c.requires.fits in
    record {
      columns = subst (All (λ position. position < length c.args.row.now)) (sym c.key.ensures.positions) (key_in_range c.self.inside.schema c.args.row.now c.key.ensures.schema fits);
      even = all_as_long c.self.inside.schema.columns c.in-Keyed.rows.rows (length c.args.row.now) stored.valid.fitting (as_long c.self.inside.schema.columns c.args.row.now fits);
      own = subst (λ k. OwnKeys k c.in-Keyed.rows) (sym c.key.ensures.positions) (keyed_own c.self.inside.schema.key c.in-Keyed.rows stored.placed);
      apart = subst (λ k. IsTrue (AreApart k c.in-Keyed.rows.rows)) (sym c.key.ensures.positions) (apart_of c.self.inside.schema.key c.in-Keyed.rows.rows (keyed_some c.self.inside.schema.key c.in-Keyed.rows stored.placed) stored.valid.keyed);
    }

pub put_columnar-requires : goal.put_columnar-requires
put_columnar-requires g c =
    let columns = c.self.inside.schema.columns in
    let fits = subst (λ t. fits_columns t.schema.columns c.args.row.now ≡ true) (sym c.self.view_is) c.requires.fits in
    all_as_long columns c.in-Columnar.rows (length c.args.row.now) (subst (IsStored c.self.inside.schema) c.in-Columnar.is c.self.invariant).valid.fitting (as_long columns c.args.row.now fits)

pub invariant_of-self : goal.invariant_of-self
invariant_of-self g c =
    (upserted_keyed c.args.limits.now.bounds c.args.limits.now.in_range c.self.inside.schema c.args.row.now (subst (λ t. fits_columns t.schema.columns c.args.row.now ≡ true) (sym c.self.view_is) c.requires.fits) (subst (λ t. has_null t.schema.key c.args.row.now ≡ false) (sym c.self.view_is) c.requires.keyed)
    c.in-Keyed.rows c.put.new.self c.put.result c.key.result.now c.key.ensures.positions (subst (IsStored c.self.inside.schema) c.in-Keyed.is c.self.invariant)
    (record { own = c.put.ensures.own; ok = c.put.ensures.ok; few = c.put.ensures.few; err = c.put.ensures.err; why = c.put.ensures.why })).stored

pub invariant_of-self-in-Columnar : goal.invariant_of-self-in-Columnar
invariant_of-self-in-Columnar g c =
    (upserted_columnar c.args.limits.now.bounds c.args.limits.now.in_range c.self.inside.schema c.args.row.now (subst (λ t. fits_columns t.schema.columns c.args.row.now ≡ true) (sym c.self.view_is) c.requires.fits) (subst (λ t. has_null t.schema.key c.args.row.now ≡ false) (sym c.self.view_is) c.requires.keyed)
    c.self.inside.rows (Columnar c.put_columnar.new.rows) c.put_columnar.result (subst IsColumnar (sym c.in-Columnar.is) tt) tt c.self.invariant
    (subst (λ r. PutColumnar c.args.limits.now.bounds.rows c.args.row.now (rows_of r) c.put_columnar.new.rows c.put_columnar.result) (sym c.in-Columnar.is)
    (record { ok = c.put_columnar.ensures.ok; few = c.put_columnar.ensures.few; err = c.put_columnar.ensures.err; why = c.put_columnar.ensures.why }))).stored

pub returns-in-Keyed-clause-ok : goal.returns-in-Keyed-clause-ok
returns-in-Keyed-clause-ok g c =
    subst (λ t. OnOk c.put.result (IsPut t c.args.row.now (table c.self.inside.schema c.put.new.self.rows))) (ap (λ r. table c.self.inside.schema (rows_of r)) (sym c.in-Keyed.is) ∙ c.self.view_is)
    (upserted_keyed c.args.limits.now.bounds c.args.limits.now.in_range c.self.inside.schema c.args.row.now (subst (λ t. fits_columns t.schema.columns c.args.row.now ≡ true) (sym c.self.view_is) c.requires.fits) (subst (λ t. has_null t.schema.key c.args.row.now ≡ false) (sym c.self.view_is) c.requires.keyed)
    c.in-Keyed.rows c.put.new.self c.put.result c.key.result.now c.key.ensures.positions (subst (IsStored c.self.inside.schema) c.in-Keyed.is c.self.invariant)
    (record { own = c.put.ensures.own; ok = c.put.ensures.ok; few = c.put.ensures.few; err = c.put.ensures.err; why = c.put.ensures.why })).ok

pub returns-in-Keyed-clause-taken : goal.returns-in-Keyed-clause-taken
returns-in-Keyed-clause-taken g c =
    subst (λ t. OnOk c.put.result (row_refusal c.args.limits.now.bounds t c.args.row.now ≡ None)) (ap (λ r. table c.self.inside.schema (rows_of r)) (sym c.in-Keyed.is) ∙ c.self.view_is)
    (upserted_keyed c.args.limits.now.bounds c.args.limits.now.in_range c.self.inside.schema c.args.row.now (subst (λ t. fits_columns t.schema.columns c.args.row.now ≡ true) (sym c.self.view_is) c.requires.fits) (subst (λ t. has_null t.schema.key c.args.row.now ≡ false) (sym c.self.view_is) c.requires.keyed)
    c.in-Keyed.rows c.put.new.self c.put.result c.key.result.now c.key.ensures.positions (subst (IsStored c.self.inside.schema) c.in-Keyed.is c.self.invariant)
    (record { own = c.put.ensures.own; ok = c.put.ensures.ok; few = c.put.ensures.few; err = c.put.ensures.err; why = c.put.ensures.why })).taken

pub returns-in-Keyed-clause-refused : goal.returns-in-Keyed-clause-refused
returns-in-Keyed-clause-refused g c =
    subst (λ t. IfErr c.put.result (WhyNotPut c.args.limits.now.bounds t c.args.row.now)) (ap (λ r. table c.self.inside.schema (rows_of r)) (sym c.in-Keyed.is) ∙ c.self.view_is)
    (upserted_keyed c.args.limits.now.bounds c.args.limits.now.in_range c.self.inside.schema c.args.row.now (subst (λ t. fits_columns t.schema.columns c.args.row.now ≡ true) (sym c.self.view_is) c.requires.fits) (subst (λ t. has_null t.schema.key c.args.row.now ≡ false) (sym c.self.view_is) c.requires.keyed)
    c.in-Keyed.rows c.put.new.self c.put.result c.key.result.now c.key.ensures.positions (subst (IsStored c.self.inside.schema) c.in-Keyed.is c.self.invariant)
    (record { own = c.put.ensures.own; ok = c.put.ensures.ok; few = c.put.ensures.few; err = c.put.ensures.err; why = c.put.ensures.why })).refused

pub returns-in-Keyed-clause-unchanged : goal.returns-in-Keyed-clause-unchanged
returns-in-Keyed-clause-unchanged g c =
    subst (λ t. OnErr c.put.result ((table c.self.inside.schema c.put.new.self.rows) ≡ t)) (ap (λ r. table c.self.inside.schema (rows_of r)) (sym c.in-Keyed.is) ∙ c.self.view_is)
    (upserted_keyed c.args.limits.now.bounds c.args.limits.now.in_range c.self.inside.schema c.args.row.now (subst (λ t. fits_columns t.schema.columns c.args.row.now ≡ true) (sym c.self.view_is) c.requires.fits) (subst (λ t. has_null t.schema.key c.args.row.now ≡ false) (sym c.self.view_is) c.requires.keyed)
    c.in-Keyed.rows c.put.new.self c.put.result c.key.result.now c.key.ensures.positions (subst (IsStored c.self.inside.schema) c.in-Keyed.is c.self.invariant)
    (record { own = c.put.ensures.own; ok = c.put.ensures.ok; few = c.put.ensures.few; err = c.put.ensures.err; why = c.put.ensures.why })).unchanged

pub returns-in-Columnar-clause-taken : goal.returns-in-Columnar-clause-taken
returns-in-Columnar-clause-taken g c = grind (arith, common_steps)
