use Rattle.std.proofs.Common.{◌≡◌, ◌∙◌, ◌∷◌, ◌++◌, ◌<◌, [], true, false, None, Some, length, get_or, inr, ap, sym, arith}
use Rattle.std.specs.Prelude.{nat_eq}
use Rattle.std.specs.List.{list_any}
use Rattle.std.proofs.lemmas.Bool.Decides.{nat_tests}
use Rattle.std.proofs.lemmas.List.Elements.{All-push}
use Rattle.std.proofs.lemmas.Grind.{common_steps}
use Rattle.gq_row.specs.Schemas.{position_of}
use Rattle.gq_load.proofs.Places.{named_none, named_repeats, named_more, named_all, found_all, too_few, differs}
use Rattle.gq_load.proofs.header.Header.of.Goals as goal

pub returns-in-None-clause-places : goal.returns-in-None-clause-places
returns-in-None-clause-places c =
    let names = c.args.byte_record.now in
    let found : position_of c.args.columns.now (get_or names c.loop-i.i []) ≡ None = ap (position_of c.args.columns.now) (sym c.field.ensures) ∙ sym c.position.ensures.position ∙ c.in-None.is in
    inr (named_none c.args.columns.now names c.loop-i.places.items c.loop-i.i c.loop-i.invariant.named (omega (arith, c.loop-i-test.true, c.len-i-end.ensures)) found)

pub returns-then-contains-clause-places : goal.returns-then-contains-clause-places
returns-then-contains-clause-places c =
    let names = c.args.byte_record.now in
    let p = c.in-Some.place in
    let found : position_of c.args.columns.now (get_or names c.loop-i.i []) ≡ Some p = ap (position_of c.args.columns.now) (sym c.field.ensures) ∙ sym c.position.ensures.position ∙ c.in-Some.is in
    let among : list_any (λ y. nat_eq y p) c.loop-i.places.items ≡ true = ap (list_any (λ y. nat_eq y p)) (sym c.deref.ensures.value) ∙ sym c.contains.ensures.value ∙ c.if-contains.true in
    inr (named_repeats c.args.columns.now names c.loop-i.places.items c.loop-i.i p c.loop-i.invariant.named (omega (arith, c.loop-i-test.true, c.len-i-end.ensures)) found among)

pub loop-i-preserved : goal.loop-i-preserved
loop-i-preserved c =
    let names = c.args.byte_record.now in
    let p = c.in-Some.place in
    let found : position_of c.args.columns.now (get_or names c.loop-i.i []) ≡ Some p = ap (position_of c.args.columns.now) (sym c.field.ensures) ∙ sym c.position.ensures.position ∙ c.in-Some.is in
    let none : list_any (λ y. nat_eq y p) c.loop-i.places.items ≡ false = ap (list_any (λ y. nat_eq y p)) (sym c.deref.ensures.value) ∙ sym c.contains.ensures.value ∙ c.if-contains.false in
    let grown : c.push.new.self.items ≡ c.loop-i.places.items ++ p ∷ [] = c.in_ok-push-in-Some.ensures.items in
    rw grown (record {
      named = named_more c.args.columns.now names c.loop-i.places.items c.loop-i.i p c.loop-i.invariant.named (omega (arith, c.loop-i-test.true, c.len-i-end.ensures)) found;
      apart = differs c.loop-i.places.items p c.loop-i.invariant.apart none;
      within = All-push (λ place. place < length c.args.columns.now) c.loop-i.places.items p c.loop-i.invariant.within c.in-Some.ensures.within;
    })

pub returns-then-len-columns-clause-places : goal.returns-then-len-columns-clause-places
returns-then-len-columns-clause-places c =
    let names = c.args.byte_record.now in
    let all = named_all c.args.columns.now names c.loop-i.places.items c.loop-i.i c.loop-i.invariant.named (omega (arith, c.loop-i-test.false, c.len-i-end.ensures)) in
    let same : length c.loop-i.places.items ≡ length c.args.columns.now = grind (arith, nat_tests, c.if-len-columns.true, c.len.ensures) in
    found_all c.args.columns.now names c.loop-i.places.items all c.loop-i.invariant.apart same

pub returns-else-len-columns-clause-places : goal.returns-else-len-columns-clause-places
returns-else-len-columns-clause-places c =
    let names = c.args.byte_record.now in
    let all = named_all c.args.columns.now names c.loop-i.places.items c.loop-i.i c.loop-i.invariant.named (omega (arith, c.loop-i-test.false, c.len-i-end.ensures)) in
    let other : nat_eq (length c.loop-i.places.items) (length c.args.columns.now) ≡ false = grind (arith, nat_tests, c.if-len-columns.false, c.len.ensures) in
    inr (too_few c.args.columns.now names c.loop-i.places.items all other)

pub returns-in_err-push-in-Some-clause-whole : goal.returns-in_err-push-in-Some-clause-whole
returns-in_err-push-in-Some-clause-whole c = grind (arith, common_steps)

pub returns-in_err-push-in-Some-clause-places : goal.returns-in_err-push-in-Some-clause-places
returns-in_err-push-in-Some-clause-places c = grind (arith, common_steps)
