use Rattle.std.proofs.Common.{◌≡◌, ◌++◌, ◌-◌, replicate, string_bytes, encode_utf8_all}
use Rattle.gq_format.proofs.shown.push_repeated.Given as goal

abbrev pub invariant-loop : goal.invariant-loop
invariant-loop l = string_bytes l.text ++ encode_utf8_all (replicate (l.n - l.counter) l.c) ≡ string_bytes l.fn.text ++ encode_utf8_all (replicate l.n l.c)
