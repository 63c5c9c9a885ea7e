use Rattle.std.proofs.Common.{◌≡◌, ◌<◌, ◌^◌, true, drop}
use Rattle.std.specs.Str.{all_ascii_digits}
use Rattle.std.specs.Str.Parse.{digits_value, digits_value_after}
use Rattle.gq_load.specs.Numbers.{is_filled}
use Rattle.gq_load.proofs.number.few_digits.Given as goal

abbrev pub invariant-loop-byte : goal.invariant-loop-byte
invariant-loop-byte l = record {
  filled : is_filled l.digits ≡ true;
  all : all_ascii_digits (drop l.byte-index l.digits) ≡ all_ascii_digits l.digits;
  value : digits_value_after 10 l.value (drop l.byte-index l.digits) ≡ digits_value 10 l.digits;
  small : l.value < 10 ^ l.byte-index;
}
