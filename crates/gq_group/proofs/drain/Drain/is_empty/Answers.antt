use Rattle.std.proofs.Common.{◌==◌, ◌∙◌, ap, sym, length}
use Rattle.gq_group.specs.Maps.{Leaving}
use Rattle.gq_group.proofs.KeyIndexLemmas.{length_left}
use Rattle.gq_group.proofs.drain.Drain.is_empty.Goals as goal

pub returns : goal.returns
returns c =
    let own = c.self.inside in
    ap (λ n. n == 0) (c.len.ensures ∙ sym (length_left own.each own.start own.running.items own.keys) ∙ ap (λ (l : Leaving). length l.pairs) c.self.view_is)
