use Rattle.std.proofs.Common.{subst, sym, IsTrue}
use Rattle.gq_spill.specs.declared.store.RunId.{RunId}
use Rattle.gq_spill_tests.proofs.whole.read_rows.Goals as goal

pub next-requires : goal.next-requires
next-requires g c = record { live = subst (λ (id : RunId). IsTrue ((g.S.RunStore.runs c.loop.store).live id.number)) (sym c.loop.invariant.run) c.loop.invariant.live }

pub returns-in_err-more-clause-live : goal.returns-in_err-more-clause-live
returns-in_err-more-clause-live g c = subst IsTrue (sym (c.next.ensures.store.kept.same c.args.mark.id.number).live) c.loop.invariant.live

pub returns-then-is_err-clause-live : goal.returns-then-is_err-clause-live
returns-then-is_err-clause-live g c = subst IsTrue (sym (c.next.ensures.store.kept.same c.args.mark.id.number).live) c.loop.invariant.live
