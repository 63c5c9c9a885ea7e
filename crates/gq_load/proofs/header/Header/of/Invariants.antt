use Rattle.std.proofs.Common.{◌≡◌, ◌<◌, true, length, All}
use Rattle.std.specs.Prelude.{nat_eq}
use Rattle.gq_row.specs.Repeats.{no_repeats}
use Rattle.gq_load.proofs.Places.{Named}
use Rattle.gq_load.proofs.header.Header.of.Given as goal

abbrev pub invariant-loop-i : goal.invariant-loop-i
invariant-loop-i l = record {
  named : Named l.columns l.byte_record l.places.items l.i;
  apart : no_repeats nat_eq l.places.items ≡ true;
  within : All (λ place. place < length l.columns) l.places.items;
}
