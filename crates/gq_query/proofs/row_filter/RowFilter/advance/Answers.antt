use Rattle.std.proofs.Common.{◌≡◌, ◌∙◌, ◌<◌, ◌∷◌, [], ℕ, Bool, true, false, All, List, length, refl, sym, subst}
use Rattle.std.proofs.lemmas.List.Elements.{All-head, All-tail}
use Rattle.gq_row.specs.declared.value.Value.{Value}
use Rattle.gq_query.specs.Keeping.{AreLong}
use Rattle.gq_query.proofs.row_filter.RowFilter.advance.Goals as goal

-- a row has these columns
abbrev Long : List ℕ → List Value → Type 0
Long columns row = All (λ column. column < length row) columns

-- the rows after the next one, or after the end, are among those before
still_long : (columns : List ℕ) (before rest : List (List Value)) (row : List Value) (found : Bool) → (found ≡ true → before ≡ row ∷ rest) → (found ≡ false → (before ≡ []) × (rest ≡ [])) → AreLong columns before → AreLong columns rest
still_long columns before rest row true next end h = All-tail (Long columns) row rest (subst (All (Long columns)) (next refl) h)
still_long columns before rest row false next end h = subst (AreLong columns) ((end refl).0 ∙ sym (end refl).1) h

pub returns-then-keeps_all-clause-long : goal.returns-then-keeps_all-clause-long
returns-then-keeps_all-clause-long g c = λ columns h found.
    let at = c.advance.new.self in
    All-head (Long columns) at.row at.rest (subst (All (Long columns)) (c.advance.ensures.next found) h)

pub returns-then-keeps_all-clause-left : goal.returns-then-keeps_all-clause-left
returns-then-keeps_all-clause-left g c = λ columns h.
    let at = c.advance.new.self in
    still_long columns c.args.rows.now.rest at.rest at.row c.advance.result c.advance.ensures.next c.advance.ensures.end h
