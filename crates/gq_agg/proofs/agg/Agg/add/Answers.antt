use Rattle.std.proofs.Common.{◌+◌, refl, ◌∙◌}
use Rattle.gq_agg.proofs.Kept.{added}
use Rattle.gq_agg.proofs.agg.Agg.add.Goals as goal

pub returns-clause-added : goal.returns-clause-added
returns-clause-added c = λ kind values held.
    added kind values c.args.value.now (record { adds = c.self.inside.adds; state = c.self.inside.state }) (record { adds = c.self.inside.adds + 1; state = c.take_in.new.self }) (c.self.view_is ∙ held) refl c.in_ok-take_in.ensures.ok
