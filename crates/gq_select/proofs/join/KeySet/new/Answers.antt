use Rattle.std.proofs.Common.{◌∙◌, ap, sym}
use Rattle.std.specs.List.{list_any}
use Rattle.gq_row.specs.Order.{same_key}
use Rattle.gq_select.proofs.KeySetLemmas.{none_among}
use Rattle.gq_select.proofs.join.KeySet.new.Goals as goal

pub returns : goal.returns
returns g c = λ columns key. ap (list_any (same_key key)) c.new.ensures.keys ∙ sym (none_among columns key)
