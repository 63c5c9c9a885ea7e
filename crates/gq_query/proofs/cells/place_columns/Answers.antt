use Rattle.std.proofs.Common.{◌≡◌, ◌+◌, ◌<◌, ◌++◌, ◌∷◌, [], ◌∙◌, ℕ, List, length, map, drop, get_or, sym, ap, append_assoc, arith}
use Rattle.std.proofs.lemmas.List.{drop_more}
use Rattle.std.proofs.lemmas.Grind.{common_steps}
use Rattle.gq_query.specs.Cells.{place_of}
use Rattle.gq_query.proofs.cells.place_columns.Goals as goal

one_more : (f : ℕ → ℕ) (done asked : List ℕ) (i : ℕ) → i < length asked → done ++ map f (drop i asked) ≡ map f asked → (done ++ f (get_or asked i 0) ∷ []) ++ map f (drop (i + 1) asked) ≡ map f asked
one_more f done asked i less h = append_assoc done (f (get_or asked i 0) ∷ []) (map f (drop (i + 1) asked)) ∙ ap (λ l. done ++ map f l) (sym (drop_more asked i 0 less)) ∙ h

pub loop-column-preserved : goal.loop-column-preserved
loop-column-preserved c =
    rw (c.in_ok-push.ensures.items, c.place_of.ensures) (one_more (λ column. place_of c.args.columns.now column) c.loop-column.places.items c.args.asked.now c.loop-column.column-index (omega arith) c.loop-column.invariant)

pub returns : goal.returns
returns c = grind (arith, common_steps)
