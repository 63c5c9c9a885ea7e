use Rattle.std.proofs.Common.{◌≡◌, ◌+◌, ◌-◌, ◌++◌, ◌∷◌, ◌∙◌, [], length, take, drop, sym, ap, append-nil, append_assoc, arith}
use Rattle.std.specs.Prelude.{replicate}
use Rattle.std.proofs.Math.Nat.{min_comm}
use Rattle.std.proofs.lemmas.List.{drop_min, replicate_more, take_min}
use Rattle.gq_row.specs.declared.value.Value.TheVariants.{Null}
use Rattle.std.proofs.lemmas.Result.{on_ok_weaker}
use Rattle.gq_query.proofs.rollup.write_filled.Goals as goal

pub loop-init : goal.loop-init
loop-init c =
    let old = c.args.cells.now.items in
    let row = c.args.row.now in
    let none : c.args.level - c.args.level ≡ 0 = omega arith in
    c.in_ok-copy_cells.ensures
    ∙ ap (λ l. old ++ l) (c.split_at.ensures.front ∙ ap (λ n. take n row) (c.min.ensures ∙ min_comm (length row) c.args.level) ∙ take_min c.args.level row)
    ∙ sym (append-nil (old ++ take c.args.level row))
    ∙ ap (λ n. (old ++ take c.args.level row) ++ replicate n Null) (sym none)

pub loop-preserved : goal.loop-preserved
loop-preserved c =
    let old = c.args.cells.now.items in
    let key = take c.args.level c.args.row.now in
    let nulls = c.loop.counter - c.args.level in
    let more : nulls + 1 ≡ (c.loop.counter + 1) - c.args.level = omega arith in
    c.in_ok-push.ensures.items ∙ ap (λ l. l ++ Null ∷ []) c.loop.invariant
    ∙ append_assoc (old ++ key) (replicate nulls Null) (Null ∷ [])
    ∙ ap (λ l. (old ++ key) ++ l) (replicate_more nulls Null ∙ ap (λ n. replicate n Null) more)

pub returns : goal.returns
returns c =
    let old = c.args.cells.now.items in
    let row = c.args.row.now in
    let level = c.args.level in
    let nulls = replicate (c.args.columns - level) Null in
    let all : c.loop.counter ≡ c.args.columns = omega (arith, c.requires) in
    let behind : c.split_at.result.1.now ≡ drop level row =
    c.split_at.ensures.back ∙ ap (λ n. drop n row) (c.min.ensures ∙ min_comm (length row) level) ∙ drop_min level row in
    let before : c.loop.cells.items ≡ (old ++ take level row) ++ nulls = c.loop.invariant ∙ ap (λ n. (old ++ take level row) ++ replicate (n - level) Null) all in
    on_ok_weaker c.copy_cells-2.result
    (λ copied. copied ∙ (λ i. before i ++ behind i) ∙ append_assoc (old ++ take level row) nulls (drop level row) ∙ append_assoc old (take level row) (nulls ++ drop level row))
    c.copy_cells-2.ensures
