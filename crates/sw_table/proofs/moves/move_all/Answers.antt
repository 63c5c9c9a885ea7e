use Rattle.std.proofs.Common.{◌≡◌, ◌+◌, ◌%◌, ◌<◌, ◌≤◌, length, take, get_or, slice_index, nat_lt, cond, None, Some, sym, ap, subst, ◌∙◌, arith, inl, inr, length-set, get_or-set_other}
use Rattle.std.proofs.lemmas.Bool.{lt-ltb, le-ltb, ltb-true, ltb-false}
use Rattle.std.proofs.lemmas.Grind.{get_or-set_at}
use Rattle.std.proofs.lemmas.List.Sums.{count_by_more_yes, count_by_more_no, sum_by-take-le}
use Rattle.std.proofs.lemmas.Grind.{common_steps}
use native.Mathlib.Nat.{mod-lt}
use Rattle.sw_table.specs.Free.{used_then, KeepsLoad}
use Rattle.sw_table.specs.LaidOut.{full_count, Reached}
use Rattle.sw_table.proofs.Places.{which, all_vacant}
use Rattle.sw_table.proofs.SlotChanges.{IsTable-filled}
use Rattle.sw_table.proofs.MovedEntries.{moved_vacant, moved_one, moved_all, next_absent, full-le-used, one_used}
use Rattle.sw_table.proofs.moves.move_all.Goals as goal
use Rattle.sw_table.proofs.moves.move_all.Goals.{then-is_full, else-is_full}

pub loop-i-preserved : goal.loop-i-preserved
loop-i-preserved g c =
    let v = c.loop-i.invariant in let i = c.loop-i.i in let bytes = c.args.bytes.now in let from = c.args.from.now in let laid = c.requires.laid in
    let lt : i < length bytes = omega (arith, c.loop-i-test.true, c.len-i-end.ensures.len) in
    let class = g.K.Keyed.class in let hash = g.H.KeyHash.hash_of c.args.hasher.now in
    elim c.if-is_full.branch [
      | then-is_full w ↦
          let low : slice_index bytes i < 128 = omega (arith, ltb-true c.get.result 128 (sym c.is_full.ensures ∙ w.if-is_full.true), c.get.ensures.value) in
          let p = w.take-pair.result in let at = w.first_free-at.result in let free = w.first_free-at.ensures.free in
          let there : get_or from i None ≡ Some p = sym (v.kept i (omega arith)) ∙ w.take-pair.ensures.value in
          let one : full_count (take (i + 1) bytes) ≡ full_count (take i bytes) + 1 = count_by_more_yes (λ b. nat_lt b 128) bytes i 0 lt (lt-ltb _ _ low) in
          let hashed : w.hash-hash.result ≡ hash (class p.0) = w.hash-hash.ensures in
          let fits : KeepsLoad c.loop-i.ctrl at = omega (arith, one_used (full_count (take i bytes)) (slice_index c.loop-i.ctrl at), ap (λ u. used_then u (slice_index c.loop-i.ctrl at)) v.table.used_is, one, sum_by-take-le (λ b. cond (nat_lt b 128) 1 0) bytes (i + 1), full-le-used bytes, laid.load, c.requires.size.1, v.size) in
          let room : at < length c.loop-i.to = omega (arith, free.0, v.table.laid.size.0) in
          let vacant = v.table.laid.vacant at free.1 in
          let absent = next_absent class from c.loop-i.to i p laid.apart there v.moved in
          let byte = v.fresh at free.0 free.1 in
          let table = IsTable-filled class hash c.loop-i.to c.loop-i.ctrl _ _ v.table at p free.0 free.1 (subst (λ h. Reached c.loop-i.ctrl h at) hashed free.2) fits absent _
          (w.h2.ensures ∙ ap (λ x. x % 128) hashed) (full_count (take i bytes) + 1) (sym (ap (used_then (full_count (take i bytes))) byte)) in
          let y = w.h2.result in
          rw (w.from-is, w.to-is, w.ctrl-is, w.take-pair.ensures.places, w.put.ensures, w.set.ensures, one)
          (record {
            len = length-set c.loop-i.from i None ∙ v.len;
            kept = λ k le. get_or-set_other c.loop-i.from i k None None (λ e. omega (arith, e, le)) ∙ v.kept k (omega (arith, le));
            left = λ k less. elim (which k i) [
              | inl here ↦ get_or-set_at c.loop-i.from i k None None here (omega (arith, lt, v.len))
              | inr other ↦ get_or-set_other c.loop-i.from i k None None other ∙ v.left k (omega (arith, less, other))
            ];
            size = length-set c.loop-i.ctrl at y ∙ v.size;
            table = table;
            fresh = λ k less high. elim (which k at) [
              | inl here ↦ absurd (omega (arith, high, get_or-set_at c.loop-i.ctrl at k y 0 here free.0, w.h2.ensures, mod-lt w.hash-hash.result {m = 128} (omega arith)))
              | inr other ↦ get_or-set_other c.loop-i.ctrl at k y 0 other ∙ v.fresh k (omega (arith, less, length-set c.loop-i.ctrl at y)) (omega (arith, high, get_or-set_other c.loop-i.ctrl at k y 0 other))
            ];
            moved = moved_one class from c.loop-i.to i at p there room vacant v.moved;
          })
      | else-is_full w ↦
          let high : 128 ≤ slice_index bytes i = omega (arith, ltb-false c.get.result 128 (sym c.is_full.ensures ∙ w.if-is_full.false), c.get.ensures.value) in
          let none = laid.vacant i high in
          let same : full_count (take (i + 1) bytes) ≡ full_count (take i bytes) = count_by_more_no (λ b. nat_lt b 128) bytes i 0 lt (le-ltb _ _ high) in
          rw (w.from-is, w.to-is, w.ctrl-is, same)
          (record {
            len = v.len;
            kept = λ k le. v.kept k (omega (arith, le));
            left = λ k less. elim (which k i) [
              | inl here ↦ ap (λ x. get_or c.loop-i.from x None) here ∙ v.kept i (omega arith) ∙ none
              | inr other ↦ v.left k (omega (arith, less, other))
            ];
            size = v.size;
            table = v.table;
            fresh = v.fresh;
            moved = moved_vacant class from c.loop-i.to i none v.moved;
          })
    ]

pub returns-clause-left : goal.returns-clause-left
returns-clause-left g c =
    let v = c.loop-i.invariant in
    all_vacant c.loop-i.from (λ k lt. v.left k (omega (arith, lt, v.len, c.loop-i-test.false, c.len-i-end.ensures.len)))

pub returns-clause-entries : goal.returns-clause-entries
returns-clause-entries g c =
    let v = c.loop-i.invariant in
    moved_all g.K.Keyed.class c.args.from.now c.loop-i.to c.loop-i.i (omega (arith, c.requires.laid.size.0, c.loop-i-test.false, c.len-i-end.ensures.len)) c.requires.laid.apart v.moved

pub loop-i-init : goal.loop-i-init
loop-i-init g c = grind (arith, common_steps)

pub returns-clause-laid : goal.returns-clause-laid
returns-clause-laid g c = grind (arith, common_steps)
