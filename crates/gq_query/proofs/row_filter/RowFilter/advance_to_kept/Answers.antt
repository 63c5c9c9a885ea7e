use Rattle.std.proofs.Common.{◌≡◌, ◌∙◌, ◌<◌, ℕ, false, All, List, filter, length, sym, ap, subst, arith}
use Rattle.std.specs.Prelude.{option_copied}
use Rattle.std.proofs.lemmas.List.Elements.{All-head, All-tail}
use Rattle.gq_row.specs.declared.value.Value.{Value}
use Rattle.gq_query.specs.Keeping.{AreLong, is_kept, ours_of}
use Rattle.gq_query.proofs.KeepingLemmas.{passed_first}
use Rattle.gq_query.proofs.row_filter.RowFilter.advance_to_kept.Goals as goal

-- a row has these columns
abbrev Long : List ℕ → List Value → Type 0
Long columns row = All (λ column. column < length row) columns

pub keeps_here-requires-clause-ours : goal.keeps_here-requires-clause-ours
keeps_here-requires-clause-ours g c =
    let ours : List ℕ = ours_of (option_copied c.args.self.now.matching) in
    let at = c.advance.new.self in
    All-head (Long ours) at.row at.rest (subst (All (Long ours)) (c.advance.ensures.next c.rows-test.true) (c.rows.invariant.long ours c.requires.ours))

pub returns-in_err-keeps_here-clause-left : goal.returns-in_err-keeps_here-clause-left
returns-in_err-keeps_here-clause-left g c = λ columns h.
    let at = c.advance.new.self in
    subst (AreLong columns) (sym c.in_err-keeps_here.ensures.rest)
    (All-tail (Long columns) at.row at.rest (subst (All (Long columns)) (c.advance.ensures.next c.rows-test.true) (c.rows.invariant.long columns h)))

pub returns-then-branch-clause-long : goal.returns-then-branch-clause-long
returns-then-branch-clause-long g c = λ columns h found.
    let at = c.advance.new.self in
    subst (Long columns) (sym c.in_ok-keeps_here.ensures.row)
    (All-head (Long columns) at.row at.rest (subst (All (Long columns)) (c.advance.ensures.next c.rows-test.true) (c.rows.invariant.long columns h)))

pub returns-then-branch-clause-left : goal.returns-then-branch-clause-left
returns-then-branch-clause-left g c = λ columns h.
    let at = c.advance.new.self in
    subst (AreLong columns) (sym c.in_ok-keeps_here.ensures.rest)
    (All-tail (Long columns) at.row at.rest (subst (All (Long columns)) (c.advance.ensures.next c.rows-test.true) (c.rows.invariant.long columns h)))

pub rows-preserved : goal.rows-preserved
rows-preserved g c =
    let keep = is_kept c.args.self.now in
    let at = c.advance.new.self in
    let steps = c.advance.ensures.next c.rows-test.true in
    let same = c.in_ok-keeps_here.ensures.rest in
    let passed : keep at.row ≡ false = sym c.in_ok-keeps_here.ensures.kept ∙ c.if-branch.false in
    let many = ap length steps in
    let size = ap length same in
    record {
      kept = ap (filter keep) same ∙ sym (passed_first keep at.row at.rest passed) ∙ ap (filter keep) (sym steps) ∙ c.rows.invariant.kept;
      fewer = omega (arith, many, size, c.rows.invariant.fewer);
      long = λ columns h. subst (AreLong columns) (sym same) (All-tail (Long columns) at.row at.rest (subst (All (Long columns)) steps (c.rows.invariant.long columns h)));
    }
