use Rattle.std.proofs.Common.{◌≡◌, ◌+◌, [], List, length, fold, refl, ap, sym, subst, ◌∙◌}
use Rattle.std.specs.Prelude.{slice_index_or, slice_set}
use Rattle.gq_row.specs.declared.value.Value.{Value}
use Rattle.gq_row.specs.Tables.{put_by_key}
use Rattle.gq_table.specs.Places.{is_absent}
use Rattle.gq_table.specs.RowStores.{with_row}
use Rattle.gq_table.proofs.PlaceLemmas.{Placing, as_long_there, found_in, in_staged, place_none, placing_found, placing_past}
use Rattle.gq_table.proofs.keyed.KeyedRows.place_found.Goals as goal
use Rattle.gq_table.proofs.keyed.KeyedRows.place_found.Goals.{in-At, in_default}

pub rows-init : goal.rows-init
rows-init g c = record {
  placing = record { put = refl; keys = refl; left = refl; long = refl; even = c.requires.even };
  index = refl;
}

pub row_mut-requires : goal.row_mut-requires
row_mut-requires g c =
    in_staged c.args.positions.now c.args.self.now.rows c.args.staged.now c.args.places.now c.requires.there c.rows.i c.rows-test.true c.rows.self.rows c.rows.staged c.rows.invariant.placing

pub exchange-requires-clause-within : goal.exchange-requires-clause-within
exchange-requires-clause-within g c =
    (found_in c.args.positions.now c.args.self.now.rows c.args.staged.now c.args.places.now c.requires.there c.rows.i c.rows-test.true c.rows.self.rows c.rows.staged c.rows.invariant.placing c.in-At.number _ c.in-At.is).0

pub exchange-requires-clause-long : goal.exchange-requires-clause-long
exchange-requires-clause-long g c =
    ap (λ (l : List Value). length l) c.row_mut.ensures.value
    ∙ as_long_there c.args.positions.now c.args.self.now.rows c.args.staged.now c.args.places.now c.requires.there c.rows.i c.rows-test.true c.rows.self.rows c.rows.staged c.rows.invariant.placing c.in-At.number _ c.in-At.is

pub rows-preserved : goal.rows-preserved
rows-preserved g c = elim c.match-places-i.branch [
  | in-At w ↦ record {
    placing =
        let so_far = placing_found c.args.positions.now c.args.self.now.rows c.args.staged.now c.args.places.now c.requires.there c.rows.i c.rows-test.true c.rows.self.rows c.rows.staged c.rows.invariant.placing c.requires.apart w.in-At.number _ w.in-At.is in
        let rows : c.match-places-i.self.rows ≡ slice_set c.rows.self.rows w.in-At.number (slice_index_or c.rows.staged c.rows.i []) =
        ap (λ s. s.rows) w.self-is ∙ w.exchange.ensures.put ∙ ap (slice_set c.rows.self.rows w.in-At.number) w.row_mut.ensures.value in
        let staged : c.match-places-i.staged ≡ slice_set c.rows.staged c.rows.i (slice_index_or c.rows.self.rows w.in-At.number []) =
        w.staged-is ∙ ap (with_row c.rows.staged c.rows.i) w.exchange.ensures.taken
        ∙ w.row_mut.ensures.written (slice_index_or c.rows.self.rows w.in-At.number []) (sym (ap (λ (l : List Value). length l) w.row_mut.ensures.value
        ∙ as_long_there c.args.positions.now c.args.self.now.rows c.args.staged.now c.args.places.now c.requires.there c.rows.i c.rows-test.true c.rows.self.rows c.rows.staged c.rows.invariant.placing w.in-At.number _ w.in-At.is)) in
        subst (λ l. Placing c.args.positions.now c.args.self.now.rows c.args.staged.now c.args.places.now (c.rows.i + 1) c.match-places-i.self.rows l) (sym staged)
        (subst (λ l. Placing c.args.positions.now c.args.self.now.rows c.args.staged.now c.args.places.now (c.rows.i + 1) l (slice_set c.rows.staged c.rows.i (slice_index_or c.rows.self.rows w.in-At.number []))) (sym rows) so_far);
    index = ap (λ s. s.index) w.self-is ∙ c.rows.invariant.index;
  }
  | in_default w ↦ record {
    placing =
        let so_far = placing_past c.args.positions.now c.args.self.now.rows c.args.staged.now c.args.places.now c.requires.there c.rows.i c.rows-test.true c.rows.self.rows c.rows.staged c.rows.invariant.placing _ (ap is_absent w.in_default.is) in
        subst (λ l. Placing c.args.positions.now c.args.self.now.rows c.args.staged.now c.args.places.now (c.rows.i + 1) c.match-places-i.self.rows l) (sym w.staged-is)
        (subst (λ l. Placing c.args.positions.now c.args.self.now.rows c.args.staged.now c.args.places.now (c.rows.i + 1) l c.rows.staged) (sym (ap (λ s. s.rows) w.self-is)) so_far);
    index = ap (λ s. s.index) w.self-is ∙ c.rows.invariant.index;
  }
]

pub returns-clause-rows : goal.returns-clause-rows
returns-clause-rows g c =
    ap (fold (put_by_key c.args.positions.now) c.rows.self.rows) (sym (place_none c.rows.staged c.args.places.now c.rows.i c.rows-test.false)) ∙ c.rows.invariant.placing.put
