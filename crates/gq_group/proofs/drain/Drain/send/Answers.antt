use Rattle.std.proofs.Common.{◌∷◌, ◌++◌, ◌≡◌, ◌∙◌, ◌+◌, ◌-◌, ◌*◌, ◌<◌, [], Some, true, ap, sym, subst, length, map, take, drop, arith}
use Rattle.std.specs.List.{list_any}
use Rattle.std.proofs.lemmas.List.{take-append-le, take_all}
use Rattle.std.specs.Prelude.{slice_index_or}
use Rattle.gq_group.specs.Entries.{tallies}
use Rattle.gq_group.specs.Groups.{answers, is_none}
use Rattle.gq_group.specs.KeptAggs.{kept_aggs}
use Rattle.gq_group.specs.Maps.{Leaving, chunk, pairs_from}
use Rattle.gq_group.proofs.ChunkLemmas.{back, length-chunk, written}
use Rattle.gq_group.proofs.KeptLemmas.{some_first, first_within, whole_behind, pairs_behind}
use Rattle.gq_group.proofs.KeyIndexLemmas.{first_of, length_left, on_ok_both}
use Rattle.gq_group.proofs.drain.Drain.send.Goals as goal

pub returns-in_default-take_values-clause-overflow : goal.returns-in_default-take_values-clause-overflow
returns-in_default-take_values-clause-overflow g c = λ e.
    let own = c.self.inside in
    let items = own.running.items in
    let n = own.start in
    let some : 0 < length own.keys = let long = length_left own.each own.start own.running.items own.keys in let seen = ap (λ (l : Leaving). length l.pairs) c.self.view_is in omega (arith, c.requires.some, long, seen) in
    let it = some_first own.keys some in
    let k_is : n + own.each - n ≡ own.each = omega arith in
    let its : take (n + own.each - n) (drop n c.deref_mut.result.now) ≡ chunk own.each items n = λ i. take (k_is i) (drop n (c.deref_mut.ensures.value i)) in
    let asked = ap (λ (l : Leaving). l.asked) c.self.view_is in
    record {
      pair = (it.0, chunk own.each items n);
      rest = pairs_from own.each (n + own.each) items it.1;
      first = sym (ap (λ (l : Leaving). l.pairs) c.self.view_is) ∙ ap (pairs_from own.each n items) it.2;
      refused = λ rows is.
          subst (λ a. list_any is_none (answers a rows) ≡ true) asked (c.in_default-take_values.ensures.overflow rows (its ∙ is ∙ ap (λ a. tallies (kept_aggs a) rows) (sym asked)));
    }

pub invariant_of-self-2 : goal.invariant_of-self-2
invariant_of-self-2 g c =
    let own = c.self.inside in
    let items = own.running.items in
    let n = own.start in
    let key = slice_index_or own.keys 0 [] in
    let rest = drop 1 own.keys in
    let some : 0 < length own.keys = let long = length_left own.each own.start own.running.items own.keys in let seen = ap (λ (l : Leaving). length l.pairs) c.self.view_is in omega (arith, c.requires.some, long, seen) in
    let first : own.keys ≡ key ∷ rest = first_of own.keys some in
    let within = first_within own.each n items own.keys rest key first c.self.invariant.1 in
    let k_is : n + own.each - n ≡ own.each = omega arith in
    let lent = c.deref_mut.ensures.value in
    let its : take (n + own.each - n) (drop n c.deref_mut.result.now) ≡ chunk own.each items n = λ i. take (k_is i) (drop n (lent i)) in
    let long : length c.take_values.new.aggs ≡ own.each = c.take_values.auto.aggs ∙ ap length its ∙ length-chunk own.each n items within in
    let put = written own.each n (n + own.each - n) own.running.len items c.deref_mut.result.now c.take_values.new.aggs k_is lent own.running.ok.0 within long in
    let items' = back n (n + own.each - n) own.running.len items c.deref_mut.result.now c.take_values.new.aggs in
    let as_many : length rest ≡ length c.push_first.new.keys = let all = ap length first in let fewer = c.push_first.ensures.fewer in omega (arith, all, fewer) in
    (c.self.invariant.0, whole_behind own.each n items own.keys rest key items' first c.self.invariant.1 put.long ∙ ap (λ m. n + own.each + m * own.each) as_many)

pub returns-clause-sent : goal.returns-clause-sent
returns-clause-sent g c = on_ok_both c.push_first.result (λ left push.
    let own = c.self.inside in
    let items = own.running.items in
    let n = own.start in
    let key = slice_index_or own.keys 0 [] in
    let rest = c.push_first.new.keys in
    let some : 0 < length own.keys = let long = length_left own.each own.start own.running.items own.keys in let seen = ap (λ (l : Leaving). length l.pairs) c.self.view_is in omega (arith, c.requires.some, long, seen) in
    let first : own.keys ≡ key ∷ rest = first_of own.keys some ∙ ap (λ l. key ∷ l) (sym left) in
    let within = first_within own.each n items own.keys rest key first c.self.invariant.1 in
    let k_is : n + own.each - n ≡ own.each = omega arith in
    let lent = c.deref_mut.ensures.value in
    let its : take (n + own.each - n) (drop n c.deref_mut.result.now) ≡ chunk own.each items n = λ i. take (k_is i) (drop n (lent i)) in
    let long : length c.take_values.new.aggs ≡ own.each = c.take_values.auto.aggs ∙ ap length its ∙ length-chunk own.each n items within in
    let put = written own.each n (n + own.each - n) own.running.len items c.deref_mut.result.now c.take_values.new.aggs k_is lent own.running.ok.0 within long in
    let items' = back n (n + own.each - n) own.running.len items c.deref_mut.result.now c.take_values.new.aggs in
    let asked = ap (λ (l : Leaving). l.asked) c.self.view_is in
    let values = c.take_values.new.values in
    let list = c.if-len-self.values in
    let as_long : length values ≡ list.len = c.take_values.auto.values ∙ ap length c.as_mut_slice-over.ensures.value ∙ sym list.ok.0 in
    let there = take list.len (values ++ drop (length values) list.items) in
    let whole : there ≡ values = take-append-le list.len values (drop (length values) list.items) (omega (arith, as_long)) ∙ take_all list.len values (omega (arith, as_long)) in (
      key,
      there,
      record {
        running = chunk own.each items n;
        first = sym (ap (λ (l : Leaving). l.pairs) c.self.view_is) ∙ pairs_behind own.each n items own.keys rest key items' c.take_values.new.aggs first put;
        answered = λ rows are. subst (λ a. answers a rows ≡ map Some values) asked (c.in-Ok-take_values.ensures.ok rows (its ∙ are ∙ ap (λ a. tallies (kept_aggs a) rows) (sym asked))) ∙ ap (map Some) (sym whole);
        same_asked = asked;
      },
      push,
    )) c.push_first.ensures.left c.push_first.ensures.groups
