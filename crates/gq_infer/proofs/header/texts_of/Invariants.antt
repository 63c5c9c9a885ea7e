use Rattle.std.proofs.Common.{◌≡◌, true, take}
use Rattle.std.specs.List.{list_all}
use Rattle.std.specs.Str.{is_utf8}
use Rattle.gq_infer.proofs.header.texts_of.Given as goal

abbrev pub invariant-loop-i : goal.invariant-loop-i
invariant-loop-i l = record {
  texts : l.texts.items ≡ take l.i l.record;
  utf8 : list_all is_utf8 (take l.i l.record) ≡ true;
}
