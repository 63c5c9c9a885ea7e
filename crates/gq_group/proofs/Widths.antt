-- Rows that are all of one length.
use Rattle.std.proofs.Common.{◌≡◌, ◌==◌, ℕ, true, List, [], ◌∷◌, length, map, sym, ◌∙◌, arith}
use Rattle.std.specs.List.{AllByRecursion, list_all}
use Rattle.std.proofs.lemmas.Bool.{and_parts}
use Rattle.std.proofs.lemmas.Bool.Decides.{nat_tests}
use Rattle.std.proofs.lemmas.List.{length-map}
use Rattle.std.proofs.lemmas.List.Elements.{All-from_recursion}
use Rattle.gq_row.specs.declared.value.Value.{Value}
use Rattle.gq_row.specs.Rows.{cell, cells_in}
use Rattle.gq_group.specs.Groups.{OneWidth}
use Rattle.gq_group.proofs.OpenLemmas.{one_width}

-- those of the cells in some columns
each_width : (columns : List ℕ) (row : List Value) (rows : List (List Value)) → AllByRecursion (λ other. length other ≡ length (cells_in columns row)) (map (cells_in columns) rows)
each_width columns row [] = tt
each_width columns row (other ∷ rows) = (length-map columns (cell other) ∙ sym (length-map columns (cell row)), each_width columns row rows)

pub one_width-cells : (columns : List ℕ) (rows : List (List Value)) → OneWidth (map (cells_in columns) rows)
one_width-cells columns [] = tt
one_width-cells columns (row ∷ rows) = All-from_recursion (λ other. length other ≡ length (cells_in columns row)) (map (cells_in columns) rows) (each_width columns row rows)

same_length : (m n : ℕ) → (m == n) ≡ true → m ≡ n
same_length m n h = grind (arith, nat_tests)

each_told : (columns : ℕ) (rows : List (List Value)) → list_all (λ row. length row == columns) rows ≡ true → AllByRecursion (λ row. length row ≡ columns) rows
each_told columns [] h = tt
each_told columns (row ∷ rows) h = let both = and_parts (length row == columns) (list_all (λ other. length other == columns) rows) h in (same_length (length row) columns both.0, each_told columns rows both.1)

-- those that a test found so
pub width_told : (columns : ℕ) (rows : List (List Value)) → list_all (λ row. length row == columns) rows ≡ true → OneWidth rows
width_told columns rows h = one_width columns rows (each_told columns rows h)
