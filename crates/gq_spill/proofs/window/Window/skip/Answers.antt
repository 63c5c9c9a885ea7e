use Rattle.std.proofs.Common.{◌≤◌, List, ℕ, length, drop, ap, subst, sym, ◌∙◌}
use Rattle.gq_spill.proofs.WindowLemmas.{drop-part}
use Rattle.gq_spill.proofs.window.Window.skip.Goals as goal

pub returns : goal.returns
returns c =
    let own = c.self.inside in
    drop-part own.bytes.items own.start own.end c.args.count (subst (λ (l : List ℕ). c.args.count ≤ length l) (sym c.self.view_is) c.requires) ∙ ap (drop c.args.count) c.self.view_is
