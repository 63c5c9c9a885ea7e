-- Columns that can be those of a table.
use Rattle.std.proofs.Common.{◌≡◌, ◌∙◌, ℕ, Bool, true, false, List, [], ◌∷◌, length, eqb, bytes_eq, None, refl, ap, arith}
use Rattle.std.specs.Prelude.{◌&&◌, not, nat_lt}
use Rattle.std.specs.List.{list_all}
use Rattle.std.specs.Str.{is_utf8}
use Rattle.gq_row.specs.declared.limits.Bounds.{Bounds}
use Rattle.gq_row.specs.Repeats.{no_repeats}
use Rattle.gq_command.specs.Commands.{column_names, is_command}
use Rattle.gq_command.specs.declared.command.Command.TheVariants.{Create}
use Rattle.gq_infer.specs.declared.seen.Seen.{Seen}
use Rattle.gq_infer.specs.Files.{are_names, can_name, names_fault}
use Rattle.gq_infer.specs.Scanning.{columns_of}

and_last : (a b : Bool) → a && b ≡ true → b ≡ true
and_last true b e = e
and_last false b e = let none : ⊥ = cc in absurd none

last_of : (a b c : Bool) → a && (b && c) ≡ true → c ≡ true
last_of true true c e = e
last_of true false c e = let none : ⊥ = cc in absurd none
last_of false b c e = let none : ⊥ = cc in absurd none

names_of_columns : (names : List (List ℕ)) (seen : List Seen) → length names ≡ length seen → column_names (columns_of names seen) ≡ names
names_of_columns [] seen e = refl
names_of_columns (name ∷ names) [] e = absurd (omega (arith, e))
names_of_columns (name ∷ names) (one ∷ seen) e = ap (λ ns. name ∷ ns) (names_of_columns names seen (omega (arith, e)))

pub a_table : (names : List (List ℕ)) (seen : List Seen) (table : List ℕ) → length names ≡ length seen → can_name names ≡ true → is_command (Create table (columns_of names seen) []) ≡ true
a_table [] seen table e can = let none : ⊥ = cc in absurd none
a_table (name ∷ names) [] table e can = absurd (omega (arith, e))
a_table (name ∷ names) (one ∷ seen) table e can =
    let distinct : no_repeats bytes_eq (column_names (columns_of (name ∷ names) (one ∷ seen))) ≡ true =
    ap (no_repeats bytes_eq) (names_of_columns (name ∷ names) (one ∷ seen) e)
    ∙ last_of (not (eqb (length (name ∷ names)) 0)) (list_all (λ name. not (eqb (length name) 0)) (name ∷ names)) (no_repeats bytes_eq (name ∷ names)) can in
    ap (λ b. b && true) distinct

-- names without a fault are names of columns
pub can_be_named : (bounds : Bounds) (names : List (List ℕ)) → names_fault bounds names ≡ None → can_name names ≡ true
unfolding names_fault
can_be_named bounds names h = by (nat_lt bounds.columns (length names)) (are_names names) refl refl
  where
    by : (more good : Bool) → nat_lt bounds.columns (length names) ≡ more → are_names names ≡ good → can_name names ≡ true
    by true good m e = let none : ⊥ = cc (rw m at h) in absurd none
    by false false m e = let none : ⊥ = cc (rw (m, e) at h) in absurd none
    by false true m e = and_last (list_all is_utf8 names) (can_name names) e
