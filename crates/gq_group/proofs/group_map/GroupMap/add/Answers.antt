use Rattle.std.proofs.Common.{◌≡◌, ◌≤◌, ◌∙◌, ◌+◌, ◌-◌, ◌*◌, ◌++◌, ◌∷◌, [], ap, sym, subst, length, take, drop, arith, List, Some, refl}
use Rattle.std.specs.FinMap.{insert, len}
use Rattle.std.specs.List.{slice_get}
use Rattle.gq_row.specs.Classes.{class_of}
use Rattle.gq_row.specs.Rows.{key_of}
use Rattle.gq_agg.specs.Running.{Running}
use Rattle.gq_group.specs.Entries.{Pair, listed, tallies}
use Rattle.gq_group.specs.Maps.{MapView, pairs_from}
use Rattle.gq_group.proofs.AggLemmas.{length-tallies}
use Rattle.gq_group.proofs.ChunkLemmas.{back, length-back, length-chunk, written}
use Rattle.gq_group.proofs.KeptLemmas.{reads_at, len_kept, listed_changed}
use Rattle.gq_group.proofs.MapGroups.{on_ok}
use Rattle.gq_group.proofs.group_map.GroupMap.add.Goals as goal

pub overflow_mul-start : goal.overflow_mul-start
overflow_mul-start g c =
    let own = c.self.inside in
    let p : Pair = (key_of c.args.spec.now.by c.args.row.now, tallies c.args.spec.now.aggs c.requires.tallied.0) in
    let there = subst (λ (v : MapView _). slice_get v.pairs c.args.number ≡ Some p) (sym c.self.view_is) c.requires.tallied.2 in
    let it = reads_at own.each own.running.items own.index.keys c.args.number p c.self.invariant there in
    omega (arith, it.within, own.running.ok, own.running.small)

pub overflow_add-end : goal.overflow_add-end
overflow_add-end g c =
    let own = c.self.inside in
    let p : Pair = (key_of c.args.spec.now.by c.args.row.now, tallies c.args.spec.now.aggs c.requires.tallied.0) in
    let there = subst (λ (v : MapView _). slice_get v.pairs c.args.number ≡ Some p) (sym c.self.view_is) c.requires.tallied.2 in
    let it = reads_at own.each own.running.items own.index.keys c.args.number p c.self.invariant there in
    omega (arith, it.within, own.running.ok, own.running.small)

pub offset_bounds-deref_mut-start : goal.offset_bounds-deref_mut-start
offset_bounds-deref_mut-start g c =
    let own = c.self.inside in
    let p : Pair = (key_of c.args.spec.now.by c.args.row.now, tallies c.args.spec.now.aggs c.requires.tallied.0) in
    let there = subst (λ (v : MapView _). slice_get v.pairs c.args.number ≡ Some p) (sym c.self.view_is) c.requires.tallied.2 in
    let it = reads_at own.each own.running.items own.index.keys c.args.number p c.self.invariant there in
    let long = ap length c.deref_mut.ensures.value in
    omega (arith, it.within, long, c.deref_mut.type_inv)

pub slice_bounds-add_cells-end : goal.slice_bounds-add_cells-end
slice_bounds-add_cells-end g c =
    let own = c.self.inside in
    let p : Pair = (key_of c.args.spec.now.by c.args.row.now, tallies c.args.spec.now.aggs c.requires.tallied.0) in
    let there = subst (λ (v : MapView _). slice_get v.pairs c.args.number ≡ Some p) (sym c.self.view_is) c.requires.tallied.2 in
    let it = reads_at own.each own.running.items own.index.keys c.args.number p c.self.invariant there in
    subst (λ (l : List Running). c.args.number * own.each + own.each ≤ length l) (sym c.deref_mut.ensures.value) it.within

pub add_cells-requires-clause-tallied : goal.add_cells-requires-clause-tallied
add_cells-requires-clause-tallied g c =
    let own = c.self.inside in
    let n = c.args.number * own.each in
    let p : Pair = (key_of c.args.spec.now.by c.args.row.now, tallies c.args.spec.now.aggs c.requires.tallied.0) in
    let there = subst (λ (v : MapView _). slice_get v.pairs c.args.number ≡ Some p) (sym c.self.view_is) c.requires.tallied.2 in
    let it = reads_at own.each own.running.items own.index.keys c.args.number p c.self.invariant there in
    let k_is : n + own.each - n ≡ own.each = omega arith in (
      c.requires.tallied.0,
      c.requires.tallied.1,
      (λ i. take (k_is i) (drop n (c.deref_mut.ensures.value i))) ∙ it.its ∙ ap (λ asked. tallies asked c.requires.tallied.0) (sym c.aggs.ensures),
    )

pub invariant_of-self : goal.invariant_of-self
invariant_of-self g c =
    let own = c.self.inside in
    record {
      different = c.self.invariant.different;
      whole = length-back own.running.len own.running.items _ own.running.ok.0 ∙ c.self.invariant.whole;
    }

pub returns-clause-entries : goal.returns-clause-entries
returns-clause-entries g c = on_ok _ _ c.add_cells.result (λ adds rows e.
    let own = c.self.inside in
    let aggs = c.args.spec.now.aggs in
    let row = c.args.row.now in
    let key = key_of c.args.spec.now.by row in
    let p : Pair = (key, tallies aggs rows) in
    let n = c.args.number * own.each in
    let there = subst (λ (v : MapView _). slice_get v.pairs c.args.number ≡ Some p) (sym c.self.view_is) e in
    let it = reads_at own.each own.running.items own.index.keys c.args.number p c.self.invariant there in
    let k_is : n + own.each - n ≡ own.each = omega arith in
    let was : take (n + own.each - n) (drop n c.deref_mut.result.now) ≡ tallies c.aggs.result.now rows
    = (λ i. take (k_is i) (drop n (c.deref_mut.ensures.value i))) ∙ it.its ∙ ap (λ asked. tallies asked rows) (sym c.aggs.ensures) in
    let now : c.add_cells.new.aggs ≡ tallies aggs (rows ++ row ∷ []) = adds rows was ∙ ap (λ asked. tallies asked (rows ++ row ∷ [])) c.aggs.ensures in
    let long : length c.add_cells.new.aggs ≡ own.each = ap length now ∙ length-tallies aggs (rows ++ row ∷ []) ∙ sym (length-tallies aggs rows) ∙ ap length (sym it.its) ∙ length-chunk own.each n own.running.items it.within in
    let put = written own.each n (n + own.each - n) own.running.len own.running.items c.deref_mut.result.now c.add_cells.new.aggs k_is c.deref_mut.ensures.value own.running.ok.0 it.within long in
    let items = back n (n + own.each - n) own.running.len own.running.items c.deref_mut.result.now c.add_cells.new.aggs in
    listed_changed own.each own.index.keys own.running.items items c.add_cells.new.aggs c.args.number n key c.self.invariant.different it.key refl put
    ∙ ap (λ l. insert (listed (pairs_from own.each 0 own.running.items own.index.keys)) (class_of key) (key, l)) now
    ∙ ap (λ (v : MapView _). insert (listed v.pairs) (class_of key) (key, tallies aggs (rows ++ row ∷ []))) c.self.view_is) c.add_cells.ensures

pub returns-clause-count : goal.returns-clause-count
returns-clause-count g c =
    let own = c.self.inside in
    let different = c.self.invariant.different in
    sym (len_kept own.each _ own.index.keys different)
    ∙ len_kept own.each own.running.items own.index.keys different
    ∙ ap (λ (v : MapView _). len (listed v.pairs)) c.self.view_is
