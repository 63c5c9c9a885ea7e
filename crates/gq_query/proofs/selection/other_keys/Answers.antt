use Rattle.std.proofs.Common.{◌∙◌, sym, ap}
use Rattle.std.specs.Prelude.{option_copied}
use Rattle.gq_select.specs.Matches.{is_key_among}
use Rattle.gq_query.specs.Selecting.{other_rows}
use Rattle.gq_query.proofs.selection.other_keys.Goals as goal

pub returns-in_default-others : goal.returns-in_default-others
returns-in_default-others g c = λ matching e key.
    c.new-in_default-others.ensures matching.theirs key ∙ ap (λ o. is_key_among matching.theirs (other_rows (option_copied o)) key) (sym c.in_default-others.is)
