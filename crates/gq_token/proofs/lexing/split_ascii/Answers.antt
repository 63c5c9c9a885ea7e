use Rattle.std.proofs.Common.{◌≡◌, ◌+◌, ◌-◌, ◌≤◌, ◌<◌, subst, ⊎_elim, arith}
use Rattle.std.specs.Str.{IsCharBoundary}
use Rattle.std.proofs.lemmas.Str.{IsCharBoundary-after_ascii, IsCharBoundary-start}
use Rattle.std.proofs.str.Laws.{order}
use Rattle.gq_token.proofs.lexing.split_ascii.Goals as goal

pub split_at-requires : goal.split_at-requires
split_at-requires c =
    let bs = c.args.text.now in
    ⊎_elim
    (λ (some : 0 < c.args.len).
    let e : c.args.len - 1 + 1 ≡ c.args.len = omega arith in
    subst (IsCharBoundary bs) e (IsCharBoundary-after_ascii bs (c.args.len - 1) c.utf8.text (omega (arith, c.requires.within)) (c.requires.ascii some)))
    (λ (none : c.args.len ≤ 0). let e : 0 ≡ c.args.len = omega arith in subst (IsCharBoundary bs) e (IsCharBoundary-start bs c.utf8.text))
    (order 0 c.args.len)
