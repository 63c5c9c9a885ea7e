use Rattle.std.proofs.Common.{length, sym, ap, ◌∙◌, arith}
use Rattle.std.proofs.lemmas.Grind.{common_steps}
use Rattle.sw_table.specs.Entries.{entries, entries_in}
use Rattle.sw_table.specs.View.{fresh, slot_count, table_view}
use Rattle.sw_table.proofs.Emptied.{unused_places, unused_bytes}
use Rattle.sw_table.proofs.MovedEntries.{no_entries}
use Rattle.sw_table.proofs.table.Table.clear.Goals as goal

pub returns-then-self-eq0-clause-table : goal.returns-then-self-eq0-clause-table
returns-then-self-eq0-clause-table g c =
    let t = c.self.inside in
    let ps = unused_places _ _ t.slots t.ctrl t.len t.used c.self.invariant c.if-self-eq0.true in
    let bs = unused_bytes _ _ t.slots t.ctrl t.len t.used c.self.invariant c.if-self-eq0.true in
    sym c.self.view_is ∙ (λ j. table_view (ps j) (bs j) t.hasher) ∙ ap (λ v. fresh (slot_count v) v.hasher) c.self.view_is

pub returns-then-self-eq0-clause-entries : goal.returns-then-self-eq0-clause-entries
returns-then-self-eq0-clause-entries g c =
    let t = c.self.inside in
    let ps = unused_places _ _ t.slots t.ctrl t.len t.used c.self.invariant c.if-self-eq0.true in
    ap (λ v. entries g.K.Keyed.class v) (sym c.self.view_is) ∙ ap (entries_in g.K.Keyed.class) ps ∙ no_entries g.K.Keyed.class (length t.ctrl)

pub returns-clause-entries : goal.returns-clause-entries
returns-clause-entries g c = ap (entries_in g.K.Keyed.class) c.empty_out.ensures ∙ no_entries g.K.Keyed.class (length c.self.inside.ctrl)

pub invariant_of-self : goal.invariant_of-self
invariant_of-self g c = grind (arith, common_steps)
