use Rattle.std.proofs.Common.{sym, ap, ◌∙◌}
use Rattle.std.specs.FinMap.{len}
use Rattle.sw_table.specs.Entries.{entries}
use Rattle.sw_table.proofs.Found.{len_is}
use Rattle.sw_table.proofs.table.Table.rehash.Goals as goal

pub invariant_of-self : goal.invariant_of-self
invariant_of-self g c =
    let t = c.self.inside in let i = c.self.invariant in let e = c.settle_all.ensures in
    record {
      laid = e.laid;
      full_is = i.full_is ∙ sym (len_is _ _ t.slots t.ctrl i.laid) ∙ sym (ap len e.entries) ∙ len_is _ _ c.settle_all.new.slots c.settle_all.new.ctrl e.laid;
      used_is = i.full_is ∙ sym e.used;
    }

pub returns-clause-load : goal.returns-clause-load
returns-clause-load g c =
    let t = c.self.inside in
    c.settle_all.ensures.used ∙ sym (len_is _ _ t.slots t.ctrl c.self.invariant.laid) ∙ ap (λ v. len (entries g.K.Keyed.class v)) c.self.view_is
