use Rattle.std.proofs.Common.{◌≡◌, IsTrue, length, refl, sym, ap, subst, ◌∙◌, None}
use Rattle.std.specs.Prelude.{OnOk, OnErr, IfErr}
use Rattle.gq_row.specs.Tables.{PlainTable}
use Rattle.gq_row.proofs.FittingLemmas.{all_as_long, each_as_long}
use Rattle.gq_table.specs.Changes.{IsLoaded}
use Rattle.gq_table.specs.Keyed.{OwnKeys, AreApart}
use Rattle.gq_table.specs.Refusing.{load_refusal, WhyNotLoaded}
use Rattle.gq_table.specs.Stored.{IsStored, rows_of}
use Rattle.gq_table.specs.declared.rows.Storage.TheVariants.{Keyed, Columnar}
use Rattle.gq_table.proofs.ValidTableLemmas.{table, rows_limit}
use Rattle.gq_table.proofs.StoredLemmas.{apart_of, loaded_keyed, loaded_columnar, keyed_own, keyed_some, staged_fit, IsColumnar, LoadKeyed, LoadColumnar}
use Rattle.gq_table.proofs.table.Table.load.Goals as goal

pub load-requires : goal.load-requires
load-requires g c =
    let stored = subst (IsStored c.self.inside.schema) c.in-Keyed.is c.self.invariant in
    let staged = subst (IsStored c.args.staged.schema) c.in-Keyed-rows.is c.into_rows-rows.ensures.stored in
    let same : c.args.staged.schema ≡ c.self.inside.schema = c.requires ∙ sym (ap (λ (t : PlainTable). t.schema) c.self.view_is) in
    let mine : IsStored c.self.inside.schema (Keyed c.in-Keyed-rows.staged) = subst (λ h. IsStored h (Keyed c.in-Keyed-rows.staged)) same staged in
    let key = c.self.inside.schema.key in
    let some = keyed_some key c.in-Keyed.keyed stored.placed in
    record {
      even = (length c.self.inside.schema.columns, all_as_long c.self.inside.schema.columns c.in-Keyed.keyed.rows (length c.self.inside.schema.columns) stored.valid.fitting refl, all_as_long c.self.inside.schema.columns c.in-Keyed-rows.staged.rows (length c.self.inside.schema.columns) mine.valid.fitting refl);
      own = subst (λ k. OwnKeys k c.in-Keyed.keyed) (sym c.key.ensures.positions) (keyed_own key c.in-Keyed.keyed stored.placed);
      mine = subst (λ k. OwnKeys k c.in-Keyed-rows.staged) (sym c.key.ensures.positions) (keyed_own key c.in-Keyed-rows.staged mine.placed);
      apart = subst (λ k. IsTrue (AreApart k c.in-Keyed.keyed.rows)) (sym c.key.ensures.positions) (apart_of key c.in-Keyed.keyed.rows some stored.valid.keyed);
      all_apart = subst (λ k. IsTrue (AreApart k c.in-Keyed-rows.staged.rows)) (sym c.key.ensures.positions) (apart_of key c.in-Keyed-rows.staged.rows some mine.valid.keyed);
      few = rows_limit c.args.limits.now.bounds c.args.limits.now.in_range;
    }

pub invariant_of-self : goal.invariant_of-self
invariant_of-self g c =
    (loaded_keyed c.args.limits.now.bounds c.args.limits.now.in_range c.self.inside.schema c.args.staged.rows (staged_fit c.self.inside.schema c.args.staged.schema c.into_rows-rows.result c.args.staged.rows (c.requires ∙ sym (ap (λ (t : PlainTable). t.schema) c.self.view_is)) c.into_rows-rows.ensures.stored c.into_rows-rows.ensures.rows)
    c.in-Keyed.keyed c.load.new.self c.load.result c.key.result.now c.key.ensures.positions (subst (IsStored c.self.inside.schema) c.in-Keyed.is c.self.invariant)
    (subst (λ l. LoadKeyed c.args.limits.now.bounds.rows l c.in-Keyed.keyed c.load.new.self c.load.result c.key.result.now) (ap rows_of (sym c.in-Keyed-rows.is) ∙ c.into_rows-rows.ensures.rows) (record { own = c.load.ensures.own; ok = c.load.ensures.ok; few = c.load.ensures.few; err = c.load.ensures.err; why = c.load.ensures.why }))).stored

pub invariant_of-self-in-Columnar : goal.invariant_of-self-in-Columnar
invariant_of-self-in-Columnar g c =
    (loaded_columnar c.args.limits.now.bounds c.args.limits.now.in_range c.self.inside.schema c.args.staged.rows (staged_fit c.self.inside.schema c.args.staged.schema c.into_rows-rows.result c.args.staged.rows (c.requires ∙ sym (ap (λ (t : PlainTable). t.schema) c.self.view_is)) c.into_rows-rows.ensures.stored c.into_rows-rows.ensures.rows)
    c.self.inside.rows (Columnar c.load_columnar.new.list) c.load_columnar.result (subst IsColumnar (sym c.in-Columnar.is) tt) tt c.self.invariant
    (subst (λ r. LoadColumnar c.args.limits.now.bounds.rows c.args.staged.rows (rows_of r) c.load_columnar.new.list c.load_columnar.result) (sym c.in-Columnar.is)
    (subst (λ l. LoadColumnar c.args.limits.now.bounds.rows l c.in-Columnar.list c.load_columnar.new.list c.load_columnar.result) (ap rows_of (sym c.in-Columnar-rows.is) ∙ c.into_rows-rows.ensures.rows)
    (record { ok = c.load_columnar.ensures.ok; few = c.load_columnar.ensures.few; err = c.load_columnar.ensures.err; why = c.load_columnar.ensures.why })))).stored

pub returns-in-Keyed-clause-ok : goal.returns-in-Keyed-clause-ok
returns-in-Keyed-clause-ok g c =
    subst (λ t. OnOk c.load.result (IsLoaded t c.args.staged.rows (table c.self.inside.schema c.load.new.self.rows))) (ap (λ r. table c.self.inside.schema (rows_of r)) (sym c.in-Keyed.is) ∙ c.self.view_is)
    (loaded_keyed c.args.limits.now.bounds c.args.limits.now.in_range c.self.inside.schema c.args.staged.rows (staged_fit c.self.inside.schema c.args.staged.schema c.into_rows-rows.result c.args.staged.rows (c.requires ∙ sym (ap (λ (t : PlainTable). t.schema) c.self.view_is)) c.into_rows-rows.ensures.stored c.into_rows-rows.ensures.rows)
    c.in-Keyed.keyed c.load.new.self c.load.result c.key.result.now c.key.ensures.positions (subst (IsStored c.self.inside.schema) c.in-Keyed.is c.self.invariant)
    (subst (λ l. LoadKeyed c.args.limits.now.bounds.rows l c.in-Keyed.keyed c.load.new.self c.load.result c.key.result.now) (ap rows_of (sym c.in-Keyed-rows.is) ∙ c.into_rows-rows.ensures.rows) (record { own = c.load.ensures.own; ok = c.load.ensures.ok; few = c.load.ensures.few; err = c.load.ensures.err; why = c.load.ensures.why }))).ok

pub returns-in-Keyed-clause-taken : goal.returns-in-Keyed-clause-taken
returns-in-Keyed-clause-taken g c =
    subst (λ t. OnOk c.load.result (load_refusal c.args.limits.now.bounds t c.args.staged.rows ≡ None)) (ap (λ r. table c.self.inside.schema (rows_of r)) (sym c.in-Keyed.is) ∙ c.self.view_is)
    (loaded_keyed c.args.limits.now.bounds c.args.limits.now.in_range c.self.inside.schema c.args.staged.rows (staged_fit c.self.inside.schema c.args.staged.schema c.into_rows-rows.result c.args.staged.rows (c.requires ∙ sym (ap (λ (t : PlainTable). t.schema) c.self.view_is)) c.into_rows-rows.ensures.stored c.into_rows-rows.ensures.rows)
    c.in-Keyed.keyed c.load.new.self c.load.result c.key.result.now c.key.ensures.positions (subst (IsStored c.self.inside.schema) c.in-Keyed.is c.self.invariant)
    (subst (λ l. LoadKeyed c.args.limits.now.bounds.rows l c.in-Keyed.keyed c.load.new.self c.load.result c.key.result.now) (ap rows_of (sym c.in-Keyed-rows.is) ∙ c.into_rows-rows.ensures.rows) (record { own = c.load.ensures.own; ok = c.load.ensures.ok; few = c.load.ensures.few; err = c.load.ensures.err; why = c.load.ensures.why }))).taken

pub returns-in-Keyed-clause-refused : goal.returns-in-Keyed-clause-refused
returns-in-Keyed-clause-refused g c =
    subst (λ t. IfErr c.load.result (WhyNotLoaded c.args.limits.now.bounds t c.args.staged.rows)) (ap (λ r. table c.self.inside.schema (rows_of r)) (sym c.in-Keyed.is) ∙ c.self.view_is)
    (loaded_keyed c.args.limits.now.bounds c.args.limits.now.in_range c.self.inside.schema c.args.staged.rows (staged_fit c.self.inside.schema c.args.staged.schema c.into_rows-rows.result c.args.staged.rows (c.requires ∙ sym (ap (λ (t : PlainTable). t.schema) c.self.view_is)) c.into_rows-rows.ensures.stored c.into_rows-rows.ensures.rows)
    c.in-Keyed.keyed c.load.new.self c.load.result c.key.result.now c.key.ensures.positions (subst (IsStored c.self.inside.schema) c.in-Keyed.is c.self.invariant)
    (subst (λ l. LoadKeyed c.args.limits.now.bounds.rows l c.in-Keyed.keyed c.load.new.self c.load.result c.key.result.now) (ap rows_of (sym c.in-Keyed-rows.is) ∙ c.into_rows-rows.ensures.rows) (record { own = c.load.ensures.own; ok = c.load.ensures.ok; few = c.load.ensures.few; err = c.load.ensures.err; why = c.load.ensures.why }))).refused

pub returns-in-Keyed-clause-unchanged : goal.returns-in-Keyed-clause-unchanged
returns-in-Keyed-clause-unchanged g c =
    subst (λ t. OnErr c.load.result ((table c.self.inside.schema c.load.new.self.rows) ≡ t)) (ap (λ r. table c.self.inside.schema (rows_of r)) (sym c.in-Keyed.is) ∙ c.self.view_is)
    (loaded_keyed c.args.limits.now.bounds c.args.limits.now.in_range c.self.inside.schema c.args.staged.rows (staged_fit c.self.inside.schema c.args.staged.schema c.into_rows-rows.result c.args.staged.rows (c.requires ∙ sym (ap (λ (t : PlainTable). t.schema) c.self.view_is)) c.into_rows-rows.ensures.stored c.into_rows-rows.ensures.rows)
    c.in-Keyed.keyed c.load.new.self c.load.result c.key.result.now c.key.ensures.positions (subst (IsStored c.self.inside.schema) c.in-Keyed.is c.self.invariant)
    (subst (λ l. LoadKeyed c.args.limits.now.bounds.rows l c.in-Keyed.keyed c.load.new.self c.load.result c.key.result.now) (ap rows_of (sym c.in-Keyed-rows.is) ∙ c.into_rows-rows.ensures.rows) (record { own = c.load.ensures.own; ok = c.load.ensures.ok; few = c.load.ensures.few; err = c.load.ensures.err; why = c.load.ensures.why }))).unchanged

pub returns-in-Columnar-clause-ok : goal.returns-in-Columnar-clause-ok
returns-in-Columnar-clause-ok g c =
    subst (λ t. OnOk c.load_columnar.result (IsLoaded t c.args.staged.rows (table c.self.inside.schema c.load_columnar.new.list))) c.self.view_is
    (loaded_columnar c.args.limits.now.bounds c.args.limits.now.in_range c.self.inside.schema c.args.staged.rows (staged_fit c.self.inside.schema c.args.staged.schema c.into_rows-rows.result c.args.staged.rows (c.requires ∙ sym (ap (λ (t : PlainTable). t.schema) c.self.view_is)) c.into_rows-rows.ensures.stored c.into_rows-rows.ensures.rows)
    c.self.inside.rows (Columnar c.load_columnar.new.list) c.load_columnar.result (subst IsColumnar (sym c.in-Columnar.is) tt) tt c.self.invariant
    (subst (λ r. LoadColumnar c.args.limits.now.bounds.rows c.args.staged.rows (rows_of r) c.load_columnar.new.list c.load_columnar.result) (sym c.in-Columnar.is)
    (subst (λ l. LoadColumnar c.args.limits.now.bounds.rows l c.in-Columnar.list c.load_columnar.new.list c.load_columnar.result) (ap rows_of (sym c.in-Columnar-rows.is) ∙ c.into_rows-rows.ensures.rows)
    (record { ok = c.load_columnar.ensures.ok; few = c.load_columnar.ensures.few; err = c.load_columnar.ensures.err; why = c.load_columnar.ensures.why })))).ok

pub returns-in-Columnar-clause-taken : goal.returns-in-Columnar-clause-taken
returns-in-Columnar-clause-taken g c =
    subst (λ t. OnOk c.load_columnar.result (load_refusal c.args.limits.now.bounds t c.args.staged.rows ≡ None)) c.self.view_is
    (loaded_columnar c.args.limits.now.bounds c.args.limits.now.in_range c.self.inside.schema c.args.staged.rows (staged_fit c.self.inside.schema c.args.staged.schema c.into_rows-rows.result c.args.staged.rows (c.requires ∙ sym (ap (λ (t : PlainTable). t.schema) c.self.view_is)) c.into_rows-rows.ensures.stored c.into_rows-rows.ensures.rows)
    c.self.inside.rows (Columnar c.load_columnar.new.list) c.load_columnar.result (subst IsColumnar (sym c.in-Columnar.is) tt) tt c.self.invariant
    (subst (λ r. LoadColumnar c.args.limits.now.bounds.rows c.args.staged.rows (rows_of r) c.load_columnar.new.list c.load_columnar.result) (sym c.in-Columnar.is)
    (subst (λ l. LoadColumnar c.args.limits.now.bounds.rows l c.in-Columnar.list c.load_columnar.new.list c.load_columnar.result) (ap rows_of (sym c.in-Columnar-rows.is) ∙ c.into_rows-rows.ensures.rows)
    (record { ok = c.load_columnar.ensures.ok; few = c.load_columnar.ensures.few; err = c.load_columnar.ensures.err; why = c.load_columnar.ensures.why })))).taken

pub returns-in-Columnar-clause-refused : goal.returns-in-Columnar-clause-refused
returns-in-Columnar-clause-refused g c =
    subst (λ t. IfErr c.load_columnar.result (WhyNotLoaded c.args.limits.now.bounds t c.args.staged.rows)) c.self.view_is
    (loaded_columnar c.args.limits.now.bounds c.args.limits.now.in_range c.self.inside.schema c.args.staged.rows (staged_fit c.self.inside.schema c.args.staged.schema c.into_rows-rows.result c.args.staged.rows (c.requires ∙ sym (ap (λ (t : PlainTable). t.schema) c.self.view_is)) c.into_rows-rows.ensures.stored c.into_rows-rows.ensures.rows)
    c.self.inside.rows (Columnar c.load_columnar.new.list) c.load_columnar.result (subst IsColumnar (sym c.in-Columnar.is) tt) tt c.self.invariant
    (subst (λ r. LoadColumnar c.args.limits.now.bounds.rows c.args.staged.rows (rows_of r) c.load_columnar.new.list c.load_columnar.result) (sym c.in-Columnar.is)
    (subst (λ l. LoadColumnar c.args.limits.now.bounds.rows l c.in-Columnar.list c.load_columnar.new.list c.load_columnar.result) (ap rows_of (sym c.in-Columnar-rows.is) ∙ c.into_rows-rows.ensures.rows)
    (record { ok = c.load_columnar.ensures.ok; few = c.load_columnar.ensures.few; err = c.load_columnar.ensures.err; why = c.load_columnar.ensures.why })))).refused

pub returns-in-Columnar-clause-unchanged : goal.returns-in-Columnar-clause-unchanged
returns-in-Columnar-clause-unchanged g c =
    subst (λ t. OnErr c.load_columnar.result ((table c.self.inside.schema c.load_columnar.new.list) ≡ t)) c.self.view_is
    (loaded_columnar c.args.limits.now.bounds c.args.limits.now.in_range c.self.inside.schema c.args.staged.rows (staged_fit c.self.inside.schema c.args.staged.schema c.into_rows-rows.result c.args.staged.rows (c.requires ∙ sym (ap (λ (t : PlainTable). t.schema) c.self.view_is)) c.into_rows-rows.ensures.stored c.into_rows-rows.ensures.rows)
    c.self.inside.rows (Columnar c.load_columnar.new.list) c.load_columnar.result (subst IsColumnar (sym c.in-Columnar.is) tt) tt c.self.invariant
    (subst (λ r. LoadColumnar c.args.limits.now.bounds.rows c.args.staged.rows (rows_of r) c.load_columnar.new.list c.load_columnar.result) (sym c.in-Columnar.is)
    (subst (λ l. LoadColumnar c.args.limits.now.bounds.rows l c.in-Columnar.list c.load_columnar.new.list c.load_columnar.result) (ap rows_of (sym c.in-Columnar-rows.is) ∙ c.into_rows-rows.ensures.rows)
    (record { ok = c.load_columnar.ensures.ok; few = c.load_columnar.ensures.few; err = c.load_columnar.ensures.err; why = c.load_columnar.ensures.why })))).unchanged

pub load_columnar-requires : goal.load_columnar-requires
load_columnar-requires g c =
    let staged = c.in-Columnar-rows.staged in
    let fits = staged_fit c.self.inside.schema c.args.staged.schema (Columnar staged) staged (c.requires ∙ sym (ap (λ (t : PlainTable). t.schema) c.self.view_is)) (subst (IsStored c.args.staged.schema) c.in-Columnar-rows.is c.into_rows-rows.ensures.stored) refl in
    record {
      few = rows_limit c.args.limits.now.bounds c.args.limits.now.in_range;
      even = each_as_long c.self.inside.schema.columns c.in-Columnar.list staged (subst (IsStored c.self.inside.schema) c.in-Columnar.is c.self.invariant).valid.fitting fits;
    }
