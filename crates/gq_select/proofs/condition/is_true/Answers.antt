use Rattle.std.proofs.Common.{◌∙◌, sym, ap}
use Rattle.std.specs.List.{list_all}
use Rattle.gq_select.specs.Truths.{is_true_in}
use Rattle.gq_select.proofs.TruthLemmas.{each_is_true}
use Rattle.gq_select.proofs.condition.is_true.Goals as goal

pub returns : goal.returns
returns c =
    c.all_true.ensures ∙ ap (list_all (is_true_in c.args.row.now)) c.as_slice.ensures ∙ sym (each_is_true c.args.condition.now.tests c.args.row.now)
