use Rattle.std.proofs.Common.{◌≡◌, ◌+◌, ◌++◌, ◌∷◌, [], All, List, length, map, refl, ap, sym, subst, arith, true, false, true≢false, ◌∙◌}
use Rattle.std.specs.Prelude.{slice_index_or, slice_set}
use Rattle.std.proofs.lemmas.List.{map-append}
use Rattle.std.specs.Vec.Iter.{into_iter_items, into_iter_len}
use Rattle.sw_index.specs.Index.{IsAbsence}
use Rattle.gq_row.specs.declared.value.Value.{Value}
use Rattle.gq_row.specs.Classes.{class_of}
use Rattle.gq_row.specs.Rows.{key_of}
use Rattle.gq_table.specs.Places.{is_absent}
use Rattle.gq_table.proofs.PlaceLemmas.{Adding, adding_absent, adding_all, adding_found, adding_none, key_next, keys_left, row_absent, row_even, still_staged}
use Rattle.gq_table.proofs.keyed.KeyedRows.add_each.Goals as goal
use Rattle.gq_table.proofs.keyed.KeyedRows.add_each.Goals.{in-Absent+in_ok-push-in-Absent, in-At}

pub rows-init : goal.rows-init
rows-init g c = record {
  adding = adding_none c.args.self.now.rows c.args.staged.now c.args.places.now;
  own = c.requires.own;
  keys = c.into_iter-keys.ensures.rest ∙ c.requires.keys;
  hasher = refl;
}

pub unreachable-requires : goal.unreachable-requires
unreachable-requires g c =
    let some = keys_left (g.H.KeyHash.hash_of c.args.self.now.index.hasher) c.args.positions.now c.args.self.now.rows c.args.staged.now c.args.places.now c.requires.places c.rows.i c.rows-test.true c.rows.self.rows c.rows.staged c.rows.invariant.adding (into_iter_items c.rows.keys) c.rows.invariant.keys in
    let long : into_iter_len c.rows.keys ≡ length (into_iter_items c.rows.keys) = c.rows.keys.rest.ok.0 in
    let none : false ≡ true = c.in_default.ensures.variant.1 (omega (arith, some, long)) in
    absurd (true≢false (sym none))

pub row_mut-requires : goal.row_mut-requires
row_mut-requires g c =
    still_staged (g.H.KeyHash.hash_of c.args.self.now.index.hasher) c.args.positions.now c.args.self.now.rows c.args.staged.now c.args.places.now c.requires.places c.rows.i c.rows-test.true c.rows.self.rows c.rows.staged c.rows.invariant.adding

pub push-requires-clause-even : goal.push-requires-clause-even
push-requires-clause-even g c =
    subst (λ (row : List Value). All (λ other. length other ≡ length row) c.rows.self.rows) (sym c.row_mut.ensures.value)
    (row_even (g.H.KeyHash.hash_of c.args.self.now.index.hasher) c.args.positions.now c.args.self.now.rows c.args.staged.now c.args.places.now c.requires.places c.rows.i c.rows-test.true c.rows.self.rows c.rows.staged c.rows.invariant.adding c.requires.even)

pub push-requires-clause-absent : goal.push-requires-clause-absent
push-requires-clause-absent g c =
    subst (λ h. IsAbsence class_of (g.H.KeyHash.hash_of h) c.rows.self.index.keys (class_of c.in-Some.key) c.in-Absent.absence) (sym c.rows.invariant.hasher)
    (row_absent (g.H.KeyHash.hash_of c.args.self.now.index.hasher) c.args.positions.now c.args.self.now.rows c.args.staged.now c.args.places.now c.requires.places c.rows.i c.rows-test.true c.rows.self.rows c.rows.staged c.rows.invariant.adding
    c.rows.self.index.keys c.in-Some.key c.in-Absent.absence _ c.rows.invariant.own (key_next (g.H.KeyHash.hash_of c.args.self.now.index.hasher) c.args.positions.now c.args.self.now.rows c.args.staged.now c.args.places.now c.requires.places c.rows.i c.rows-test.true c.rows.self.rows c.rows.staged c.rows.invariant.adding (into_iter_items c.rows.keys) (into_iter_items c.next.new.self) c.in-Some.key c.rows.invariant.keys c.in-Some.ensures.items).0 c.requires.apart c.in-Absent.is)

pub rows-preserved : goal.rows-preserved
rows-preserved g c = elim c.match-places-i.branch [
  | in-Absent+in_ok-push-in-Absent w ↦
      let positions = c.args.positions.now in
      let row = slice_index_or c.rows.staged c.rows.i [] in
      let so_far = adding_absent (g.H.KeyHash.hash_of c.args.self.now.index.hasher) positions c.args.self.now.rows c.args.staged.now c.args.places.now c.requires.places c.rows.i c.rows-test.true c.rows.self.rows c.rows.staged c.rows.invariant.adding w.in-Absent.absence _ w.push.new.cells (sym (w.push.auto.cells ∙ ap (λ (l : List Value). length l) w.row_mut.ensures.value)) w.in-Absent.is in
      let rows : c.match-places-i.self.rows ≡ c.rows.self.rows ++ row ∷ [] = ap (λ s. s.rows) w.self-is ∙ w.in_ok-push-in-Absent.ensures.rows ∙ ap (λ r. c.rows.self.rows ++ r ∷ []) w.row_mut.ensures.value in
      let staged : c.match-places-i.staged ≡ slice_set c.rows.staged c.rows.i w.push.new.cells = w.staged-is ∙ w.row_mut.ensures.written w.push.new.cells w.push.auto.cells in
      let next = key_next (g.H.KeyHash.hash_of c.args.self.now.index.hasher) c.args.positions.now c.args.self.now.rows c.args.staged.now c.args.places.now c.requires.places c.rows.i c.rows-test.true c.rows.self.rows c.rows.staged c.rows.invariant.adding (into_iter_items c.rows.keys) (into_iter_items c.next.new.self) c.in-Some.key c.rows.invariant.keys c.in-Some.ensures.items in
      record {
        adding =
            subst (λ l. Adding c.args.self.now.rows c.args.staged.now c.args.places.now (c.rows.i + 1) c.match-places-i.self.rows l) (sym staged)
            (subst (λ l. Adding c.args.self.now.rows c.args.staged.now c.args.places.now (c.rows.i + 1) l (slice_set c.rows.staged c.rows.i w.push.new.cells)) (sym rows) so_far);
        own =
            ap (λ s. s.index.keys) w.self-is ∙ w.in_ok-push-in-Absent.ensures.keys ∙ (λ z. c.rows.invariant.own z ++ next.0 z ∷ [])
            ∙ sym (map-append (key_of positions) c.rows.self.rows (row ∷ [])) ∙ ap (map (key_of positions)) (sym rows);
        keys = next.1;
        hasher = ap (λ s. s.index.hasher) w.self-is ∙ w.in_ok-push-in-Absent.ensures.hasher ∙ c.rows.invariant.hasher;
      }
  | in-At w ↦
      let so_far = adding_found (g.H.KeyHash.hash_of c.args.self.now.index.hasher) c.args.positions.now c.args.self.now.rows c.args.staged.now c.args.places.now c.requires.places c.rows.i c.rows-test.true c.rows.self.rows c.rows.staged c.rows.invariant.adding _ (ap is_absent w.in-At.is) in
      record {
        adding =
            subst (λ l. Adding c.args.self.now.rows c.args.staged.now c.args.places.now (c.rows.i + 1) c.match-places-i.self.rows l) (sym w.staged-is)
            (subst (λ l. Adding c.args.self.now.rows c.args.staged.now c.args.places.now (c.rows.i + 1) l c.rows.staged) (sym (ap (λ s. s.rows) w.self-is)) so_far);
        own = ap (λ s. s.index.keys) w.self-is ∙ c.rows.invariant.own ∙ ap (λ s. map (key_of c.args.positions.now) s.rows) (sym w.self-is);
        keys = (key_next (g.H.KeyHash.hash_of c.args.self.now.index.hasher) c.args.positions.now c.args.self.now.rows c.args.staged.now c.args.places.now c.requires.places c.rows.i c.rows-test.true c.rows.self.rows c.rows.staged c.rows.invariant.adding (into_iter_items c.rows.keys) (into_iter_items c.next.new.self) c.in-Some.key c.rows.invariant.keys c.in-Some.ensures.items).1;
        hasher = ap (λ s. s.index.hasher) w.self-is ∙ c.rows.invariant.hasher;
      }
]

pub returns-clause-rows : goal.returns-clause-rows
returns-clause-rows g c =
    adding_all (g.H.KeyHash.hash_of c.args.self.now.index.hasher) c.args.positions.now c.args.self.now.rows c.args.staged.now c.args.places.now c.requires.places c.rows.i c.rows.self.rows c.rows.staged c.rows-test.false c.rows.invariant.adding
