-- A run that was written is read.
use Rattle.std.proofs.Common.{◌≡◌, ℕ, List, [], ◌∷◌, length, refl, sym, ◌∙◌}
use Rattle.std.specs.Prelude.{IsTrue}
use Rattle.std.specs.List.{AllByRecursion}
use Rattle.std.proofs.lemmas.List.Elements.{All-from_recursion, recursion_from_All}
use Rattle.gq_row.specs.declared.value.Value.{Value}
use Rattle.gq_spill.specs.Runs.{Runs}
use Rattle.gq_spill.specs.Reading.{Left, opened}
use Rattle.gq_spill.specs.Writing.{Writing}
use Rattle.gq_spill.proofs.ReadingLemmas.{reads_back}
use Rattle.gq_group.specs.Groups.{Spec, Group, OneWidth}
use Rattle.gq_group.specs.Passes.{AreRows, Fit, Parted}
use Rattle.gq_group.specs.RunSources.{IsReady}
use Rattle.gq_group.specs.Partitions.{HasRun, AllHeld}
use Rattle.gq_group.specs.declared.pass.PassStats.{PassStats}
use Rattle.gq_group.specs.declared.partition.Partition.{Partition}

pub left-open : (spec : Spec) (w : Writing) (columns : ℕ) (runs : Runs) (rows : List (List Value)) → IsTrue runs.honest → HasRun w runs rows → Fit spec columns rows → Left (opened w.mark columns) runs rows
left-open spec w columns runs rows honest has fit = (reads_back).opens w runs rows columns (has.wrote honest) fit.widths

same_widths : (columns n : ℕ) (rows : List (List Value)) → n ≡ columns → AllByRecursion (λ row. length row ≡ columns) rows → AllByRecursion (λ row. length row ≡ n) rows
same_widths columns n [] e h = tt
same_widths columns n (row ∷ rows) e h = (h.0 ∙ sym e, same_widths columns n rows e h.1)

pub one_width : (columns : ℕ) (rows : List (List Value)) → AllByRecursion (λ row. length row ≡ columns) rows → OneWidth rows
one_width columns [] h = tt
one_width columns (row ∷ rows) h = All-from_recursion (λ other. length other ≡ length row) rows (same_widths columns (length row) rows h.0 h.1)

pub rows-fit : (spec : Spec) (columns : ℕ) (rows : List (List Value)) → Fit spec columns rows → AreRows spec rows
rows-fit spec columns rows fit = (fit.fits, one_width columns rows (recursion_from_All (λ row. length row ≡ columns) rows fit.widths))

pub ready-open : (spec : Spec) (w : Writing) (columns : ℕ) (runs : Runs) → IsTrue (runs.live w.mark.id.number) → (IsTrue runs.honest → (rows : List (List Value)) × HasRun w runs rows × Fit spec columns rows) → IsReady (opened w.mark columns) runs
ready-open spec w columns runs live known = record {
  live = live;
  going = refl;
  rows = λ h. let k = known h in (k.0, left-open spec w columns runs k.0 h k.1 k.2);
}

-- what a pass did stays once its run is discarded
pub parted-later : (spec : Spec) (budget : ℕ) (rows : List (List Value)) (partitions : List Partition) (s t : Runs) (stats : PassStats) (now after : List Group → Type 0)
    → ((out : List Group) → now out → after out) → ((parts : List (List (List Value))) → AllHeld s partitions parts → AllHeld t partitions parts)
    → Parted spec budget rows partitions s stats now → Parted spec budget rows partitions t stats after
parted-later spec budget rows partitions s t stats now after holds stays p = record {
  out = p.out;
  parts = p.parts;
  pushed = holds p.out p.pushed;
  held = stays p.parts p.held;
  whole = p.whole;
  wide = p.wide;
  fit = p.fit;
  read = p.read;
  sent = p.sent;
  few = p.few;
  full = p.full;
  written = p.written;
  fewer = p.fewer;
  began = p.began;
}
