use Rattle.std.proofs.Common.{◌≡◌, ◌++◌, codes, take, flat_map, string_bytes}
use Rattle.gq_shell.proofs.script.script_of.Given as goal

abbrev pub invariant-loop-i : goal.invariant-loop-i
invariant-loop-i l = string_bytes l.script ≡ flat_map (λ lines. lines.now ++ codes "\n") (take l.i l.commands)
