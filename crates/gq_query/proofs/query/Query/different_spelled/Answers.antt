use Rattle.std.proofs.Common.{◌∙◌, sym, subst, rules}
use Rattle.gq_group.specs.Access.{HasCause}
use Rattle.gq_group.specs.declared.refusal.Refusal.{Refusal}
use Rattle.gq_query.specs.Keeping.{kept_rows}
use Rattle.gq_query.proofs.SpellingLemmas.{damaged_cause, distinct_answer, never_none, some_rows}
use Rattle.gq_query.proofs.query.Query.different_spelled.Goals as goal

pub returns-in-Ok : goal.returns-in-Ok
returns-in-Ok g c =
    let by = c.args.self.now.by.now in
    let mine = kept_rows c.args.self.now in
    record {
      found = λ h. some_rows (sym (c.in-Ok.ensures.found h) ∙ distinct_answer by mine c.requires.some);
      others = c.in-Ok.ensures.others;
      cause = tt;
    }

pub returns-in-Err : goal.returns-in-Err
returns-in-Err g c =
    let by = c.args.self.now.by.now in
    let mine = kept_rows c.args.self.now in
    let old = g.S.RunStore.runs c.args.store.now in
    let new = g.S.RunStore.runs c.rows_spelled.new.store in
    record {
      found = λ h. tt;
      others = c.in-Err.ensures.others;
      cause = subst (λ (why : Refusal). HasCause why old new) (sym c.as_damaged.ensures)
          (damaged_cause c.in-Err.why old new c.in-Err.ensures.cause (λ is honest. never_none by mine c.requires.some (c.in-Err.ensures.overflow honest (search rules))));
    }
