use Rattle.std.proofs.Common.{◌≡◌, drop, map}
use Rattle.gq_token.specs.Lexing.{lookup_word, lower}
use Rattle.gq_token.proofs.lexing.lookup.Given as goal

abbrev pub invariant-loop-spelled : goal.invariant-loop-spelled
invariant-loop-spelled l = lookup_word (map (λ e. (lower e.0.now, e.1)) (drop l.spelled-index l.table)) (lower l.word) ≡ lookup_word (map (λ e. (lower e.0.now, e.1)) l.table) (lower l.word)
