use Rattle.std.proofs.Common.{◌∙◌}
use Rattle.gq_row.specs.Fitting.{fits_columns}
use Rattle.gq_query.specs.Keeping.{is_kept, kept_rows}
use Rattle.gq_query.proofs.Joined.{distinct_shown}
use Rattle.gq_query.proofs.KeepingLemmas.{all_kept}
use Rattle.gq_query.proofs.SpellingLemmas.{distinct_alone, plain_rows}
use Rattle.gq_query.proofs.query.Query.different_alone.Goals as goal

pub returns-in-Ok : goal.returns-in-Ok
returns-in-Ok g c =
    let by = c.args.self.now.by.now in
    let table = c.args.self.now.table.now in
    let mine = kept_rows c.args.self.now in
    let fit = all_kept (fits_columns table.schema.columns) (is_kept c.args.self.now.kept.now) table.rows c.requires.fitting in
    let earlier = c.in_ok-groups.ensures in
    record {
      found = λ h. c.in-Ok.ensures
          ∙ distinct_shown by mine c.in_ok-groups.groups c.sort.new.self (earlier.found h) c.sort.ensures.moved c.sort.ensures.ascending
          ∙ distinct_alone by mine c.requires.some (plain_rows table.schema.columns by mine fit c.requires.alone);
      others = earlier.others;
      cause = tt;
    }
