use Rattle.std.proofs.Common.{◌∙◌, ap}
use Rattle.std.specs.FinMap.{len}
use Rattle.gq_group.specs.Entries.{listed}
use Rattle.gq_group.specs.Maps.{MapView}
use Rattle.gq_group.proofs.KeptLemmas.{len_kept}
use Rattle.gq_group.proofs.group_map.GroupMap.len.Goals as goal

pub returns : goal.returns
returns g c =
    let own = c.self.inside in
    c.len.ensures ∙ len_kept own.each own.running.items own.index.keys c.self.invariant.different ∙ ap (λ (v : MapView _). len (listed v.pairs)) c.self.view_is
