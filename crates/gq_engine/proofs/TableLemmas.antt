-- Tables by their names.
use Rattle.std.proofs.Common.{◌≡◌, ◌+◌, ◌<◌, ℕ, true, cond, List, ◌∷◌, ◌++◌, length, get_or, take, drop, Some, sym, ap, ◌∙◌, add-one}
use Rattle.std.specs.Prelude.{bytes_eq}
use Rattle.std.proofs.lemmas.List.{drop_more, set_split}
use Rattle.gq_row.specs.Tables.{PlainTable}
use Rattle.gq_engine.specs.Databases.{Database, table_at, with_table, IsTableAt}

pub is_table_at : (db : Database) (name : List ℕ) (i : ℕ) (old : List ℕ × PlainTable) → i < length db → old ≡ get_or db i old → bytes_eq old.0 name ≡ true
    → table_at db name ≡ table_at (drop i db) name → ((t : PlainTable) → with_table db name t ≡ take i db ++ with_table (drop i db) name t) → IsTableAt db name i
is_table_at db name i old lt is same there after = record {
  within = lt;
  entry = old;
  here = is;
  named = same;
  table = there ∙ ap (λ l. table_at l name) (drop_more db i old lt)
      ∙ ap (λ (x : List ℕ × PlainTable). cond (bytes_eq x.0 name) (Some x.1) (table_at (drop (i + 1) db) name)) (sym is)
      ∙ ap (λ b. cond b (Some old.1) (table_at (drop (i + 1) db) name)) same;
  changed = λ t. after t ∙ ap (λ l. take i db ++ with_table l name t) (drop_more db i old lt)
      ∙ ap (λ (x : List ℕ × PlainTable). take i db ++ cond (bytes_eq x.0 name) ((x.0, t) ∷ drop (i + 1) db) (x ∷ with_table (drop (i + 1) db) name t)) (sym is)
      ∙ ap (λ b. take i db ++ cond b ((old.0, t) ∷ drop (i + 1) db) (old ∷ with_table (drop (i + 1) db) name t)) same
      ∙ ap (λ n. take i db ++ (old.0, t) ∷ drop n db) (add-one i) ∙ sym (set_split db i (old.0, t) lt);
}
