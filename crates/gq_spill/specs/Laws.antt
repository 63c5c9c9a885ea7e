-- What the definitions imply, in the subject's own words.
use Rattle.std.specs.Prelude.{◌≡◌, ℕ, All, IsTrue, List, length}
use Rattle.gq_row.specs.declared.value.Value.{Value}
use Rattle.gq_spill.specs.Runs.{Runs, SameRun}
use Rattle.gq_spill.specs.Reading.{Reading, Left, opened}
use Rattle.gq_spill.specs.Writing.{Writing, Wrote}

-- a reader that is opened on a run has all rows left that were written, and they stay left while the run stays
-- the same
pub record ReadsBack : Type 0 where
  pub opens : (w : Writing) (runs : Runs) (rows : List (List Value)) (columns : ℕ) → Wrote w runs rows → All (λ row. length row ≡ columns) rows
      → Left (opened w.mark columns) runs rows
  pub outlasts : (r : Reading) (old new : Runs) (rows : List (List Value)) → SameRun old new r.tail.id.number → IsTrue old.honest → IsTrue (old.live r.tail.id.number)
      → Left r old rows → Left r new rows
  pub same_written : (w : Writing) (old new : Runs) (rows : List (List Value)) → SameRun old new w.mark.id.number → IsTrue old.honest → IsTrue (old.live w.mark.id.number)
      → Wrote w old rows → Wrote w new rows
