use Rattle.std.proofs.Common.{◌≡◌, ◌+◌, ℕ, suc, sym, subst, arith}
use Rattle.std.proofs.lemmas.Grind.{common_steps}
use Rattle.gq_group.proofs.AccessLemmas.{leaves-refl}
use Rattle.gq_query.specs.Joining.{AreShown, so_far, joined}
use Rattle.gq_query.specs.Keeping.{kept_rows}
use Rattle.gq_query.specs.Sources.{no_runs}
use Rattle.gq_query.proofs.Joined.{joined_shown}
use Rattle.gq_query.proofs.query.Query.show_next.Goals as goal

pub returns-in-Ok : goal.returns-in-Ok
returns-in-Ok g c =
    let by = c.args.self.now.by.now in
    let rows = kept_rows c.args.self.now in
    let shown = c.args.shown.now in
    let place : ℕ = c.args.place in
    let gs = c.args.groups.now in
    let cs = c.in_ok-counts.counts in
    let earlier = c.in_ok-counts.ensures in
    let more : suc place ≡ place + 1 = omega arith in
    record {
      found = λ h.
          let done : AreShown by (so_far (suc place) shown) rows (joined place gs cs) = joined_shown by rows shown place _ c.in-CountDistinct.column gs cs c.requires.within c.in-CountDistinct.is (c.requires.groups h) (earlier.found h) in
          let put : AreShown by (so_far (suc place) shown) rows c.in-Ok.joined = subst (λ l. AreShown by (so_far (suc place) shown) rows l) (sym c.in-Ok.ensures) done in
          subst (λ n. AreShown by (so_far n shown) rows c.in-Ok.joined) more put;
      others = earlier.others;
      cause = tt;
    }

pub returns-then-len : goal.returns-then-len
returns-then-len g c = record { found = λ h. tt; others = c.in_ok-counts.ensures.others; cause = grind (arith, common_steps) }

pub returns-in_default : goal.returns-in_default
returns-in_default g c = record { found = grind (arith, common_steps); others = leaves-refl no_runs _; cause = tt }

pub counts-requires-clause-columns : goal.counts-requires-clause-columns
counts-requires-clause-columns g c = grind (arith, common_steps)

pub counts-requires-clause-column : goal.counts-requires-clause-column
counts-requires-clause-column g c = grind (arith, common_steps)
