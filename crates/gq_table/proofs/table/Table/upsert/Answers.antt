use Rattle.std.proofs.Common.{◌<◌, All, length, sym, subst, ◌∙◌}
use Rattle.gq_table.proofs.ValidTableLemmas.{key_in_range}
use Rattle.gq_table.proofs.table.Table.upsert.Goals as goal

pub has_null-requires : goal.has_null-requires
has_null-requires g c = subst (All (λ position. position < length c.args.row)) (sym c.key.ensures.positions) (key_in_range c.self.inside.schema c.args.row c.key.ensures.schema (sym c.fits.ensures ∙ c.if-not-fits.false))
