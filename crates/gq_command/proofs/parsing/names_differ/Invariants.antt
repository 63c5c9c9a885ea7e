use Rattle.std.proofs.Common.{◌≡◌, true, take, bytes_eq}
use Rattle.gq_row.specs.Repeats.{no_repeats}
use Rattle.gq_command.proofs.Names.{Seen}
use Rattle.gq_command.proofs.parsing.names_differ.Given as goal

abbrev pub invariant-loop-name : goal.invariant-loop-name
invariant-loop-name l = record {
  seen : Seen l.seen (take l.name-index l.names);
  differ : no_repeats bytes_eq (take l.name-index l.names) ≡ true;
}
