use Rattle.std.proofs.Common.{◌≡◌, ◌+◌, ◌++◌, ◌∷◌, [], List, take, drop, bytes_eq, sym, ap, subst, ◌∙◌}
use Rattle.std.proofs.lemmas.List.{take_more, take-append-drop}
use Rattle.gq_row.specs.Repeats.{no_repeats}
use Rattle.gq_command.specs.Commands.{Bytes}
use Rattle.gq_command.proofs.Names.{Seen, more, repeats, differs}
use Rattle.gq_command.proofs.parsing.names_differ.Goals as goal

pub returns-then-not-branch-clause-ok : goal.returns-then-not-branch-clause-ok
returns-then-not-branch-clause-ok c =
    let names = c.args.names.now in
    let i = c.loop-name.name-index in
    let k = c.as_str.result in
    let front : take i names ++ k.now ∷ [] ≡ take (i + 1) names = ap (λ (n : Bytes). take i names ++ n ∷ []) (c.as_str.ensures ∙ c.name-item.is) ∙ sym (take_more names i c.name-item.result c.loop-name-test.true) in
    let whole : (take i names ++ k.now ∷ []) ++ drop (i + 1) names ≡ names = ap (λ (l : List Bytes). l ++ drop (i + 1) names) front ∙ take-append-drop (i + 1) names in
    sym (ap (no_repeats bytes_eq) (sym whole) ∙ repeats c.loop-name.seen k (take i names) (drop (i + 1) names) c.in_ok-insert.field-0 c.loop-name.invariant.seen c.in_ok-insert.ensures.added c.if-not-branch.true)

pub loop-name-preserved : goal.loop-name-preserved
loop-name-preserved c =
    let names = c.args.names.now in
    let i = c.loop-name.name-index in
    let k = c.as_str.result in
    let front : take i names ++ k.now ∷ [] ≡ take (i + 1) names = ap (λ (n : Bytes). take i names ++ n ∷ []) (c.as_str.ensures ∙ c.name-item.is) ∙ sym (take_more names i c.name-item.result c.loop-name-test.true) in
    record {
      seen = subst (Seen c.insert.new.self) front (more c.loop-name.seen c.insert.new.self k (take i names) c.loop-name.invariant.seen c.in_ok-insert.ensures.updates);
      differ = ap (no_repeats bytes_eq) (sym front) ∙ differs c.loop-name.seen k (take i names) c.in_ok-insert.field-0 c.loop-name.invariant.seen c.in_ok-insert.ensures.added c.if-not-branch.false c.loop-name.invariant.differ;
    }
