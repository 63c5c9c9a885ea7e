use Rattle.std.proofs.Common.{◌≡◌, ◌+◌, ◌<◌, ◌++◌, ◌∙◌, true, false, not, length, sym, ap, arith}
use Rattle.gq_format.specs.Names.{free_name, is_taken, numbered}
use Rattle.gq_format.proofs.NameLemmas.{found, passed}
use Rattle.gq_format.proofs.names.free_name.Goals as goal

pub returns-then-is_free : goal.returns-then-is_free
returns-then-is_free c =
    let taken = c.args.header.now ++ c.args.given.now in
    let name = c.args.name.now in
    let n = c.loop-n.n in
    let end = length c.args.header.now + length c.args.given.now + 3 in
    let lt : n < end = omega (arith, c.loop-n-test.true) in
    let passes : not (is_taken taken (numbered name n)) ≡ true = ap (λ own. not (is_taken taken own)) (sym c.in_ok-own.ensures) ∙ sym c.is_free.ensures ∙ c.if-is_free.true in
    c.in_ok-own.ensures ∙ found (λ own. not (is_taken taken own)) (numbered name) name (free_name taken name) n end lt passes c.loop-n.invariant

pub loop-n-preserved : goal.loop-n-preserved
loop-n-preserved c =
    let taken = c.args.header.now ++ c.args.given.now in
    let name = c.args.name.now in
    let n = c.loop-n.n in
    let end = length c.args.header.now + length c.args.given.now + 3 in
    let lt : n < end = omega (arith, c.loop-n-test.true) in
    let fails : not (is_taken taken (numbered name n)) ≡ false = ap (λ own. not (is_taken taken own)) (sym c.in_ok-own.ensures) ∙ sym c.is_free.ensures ∙ c.if-is_free.false in
    passed (λ own. not (is_taken taken own)) (numbered name) name (free_name taken name) n end lt fails c.loop-n.invariant
