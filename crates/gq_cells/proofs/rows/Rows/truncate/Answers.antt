use Rattle.std.proofs.Common.{◌∙◌, sym, ap, map, take}
use Rattle.std.proofs.lemmas.List.{take-map}
use Rattle.gq_cells.specs.Lists.{row_at}
use Rattle.gq_cells.proofs.rows.Rows.truncate.Goals as goal

pub returns : goal.returns
returns c =
    ap (map (row_at c.self.inside.cells)) c.truncate.ensures.items
    ∙ sym (take-map (row_at c.self.inside.cells) c.args.rows c.self.inside.spans.items)
    ∙ ap (take c.args.rows) c.self.view_is
