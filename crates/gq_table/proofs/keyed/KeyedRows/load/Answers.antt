use Rattle.std.proofs.Common.{◌≡◌, ◌<◌, ◌≤◌, List, inl, refl, length, map, fold, count_by, ap, sym, subst, ◌∙◌, arith, All}
use Rattle.std.proofs.lemmas.Bool.Decides.{nat_tests}
use Rattle.std.proofs.lemmas.List.Elements.{All-append}
use Rattle.gq_row.specs.declared.value.Value.{Value}
use Rattle.gq_row.specs.Order.{same_key}
use Rattle.gq_row.specs.Repeats.{no_repeats}
use Rattle.gq_row.specs.Rows.{key_of}
use Rattle.gq_row.specs.Tables.{put_by_key}
use Rattle.gq_table.specs.Places.{ArePlaces, AreThere, is_absent, with_place, without_place}
use Rattle.gq_table.proofs.PlaceLemmas.{added_apart, all_without, even_still, length-placed, placed, put_apart, there_still}
use Rattle.gq_table.proofs.keyed.KeyedRows.load.Goals as goal

pub returns-then-most-len-clause-why : goal.returns-then-most-len-clause-why
returns-then-most-len-clause-why g c =
    let empty : length c.args.self.now.rows ≡ 0 = (let is = c.if-is_empty.ensures in grind (arith, nat_tests)) in
    inl (refl, subst (λ n. c.args.most < n) (c.len.ensures ∙ ap (λ (l : List (List Value)). length l) (sym (put_apart c.args.positions.now c.args.self.now.rows c.args.staged.rows empty c.requires.all_apart))) c.if-most-len.true)

pub returns-then-is_empty-clause-ok : goal.returns-then-is_empty-clause-ok
returns-then-is_empty-clause-ok g c =
    let empty : length c.args.self.now.rows ≡ 0 = (let is = c.if-is_empty.ensures in grind (arith, nat_tests)) in
    sym (put_apart c.args.positions.now c.args.self.now.rows c.args.staged.rows empty c.requires.all_apart)

pub returns-then-is_empty-clause-few : goal.returns-then-is_empty-clause-few
returns-then-is_empty-clause-few g c =
    let empty : length c.args.self.now.rows ≡ 0 = (let is = c.if-is_empty.ensures in grind (arith, nat_tests)) in
    subst (λ (l : List (List Value)). length l ≤ c.args.most) (sym (put_apart c.args.positions.now c.args.self.now.rows c.args.staged.rows empty c.requires.all_apart))
    (let few = c.if-most-len.false in let long = c.len.ensures in omega arith)

pub returns-then-most-saturating_add-clause-why : goal.returns-then-most-saturating_add-clause-why
returns-then-most-saturating_add-clause-why g c =
    let hash = g.H.KeyHash.hash_of c.args.self.now.index.hasher in
    let long = length-placed c.args.positions.now hash c.args.self.now.rows c.requires.apart c.args.staged.rows c.in-Ok.places.items c.requires.all_apart c.in-Ok.ensures in
    let new = c.count_absent-new.ensures ∙ ap (count_by is_absent) c.as_slice.ensures.value in
    let rows = c.len-2.ensures in
    let total = c.saturating_add.ensures in
    let over = c.if-most-saturating_add.true in
    inl (refl, omega arith)

pub place_found-requires-clause-even : goal.place_found-requires-clause-even
place_found-requires-clause-even g c =
    let width = c.requires.even.0 in (
      width,
      subst (All (λ row. length row ≡ width)) (sym c.in-Ok-add_absent.ensures.rows)
          (All-append (λ row. length row ≡ width) c.args.self.now.rows (without_place c.args.staged.rows c.as_slice-2.result.now) c.requires.even.1 (all_without (λ row. length row ≡ width) c.args.staged.rows c.as_slice-2.result.now c.requires.even.2)),
      even_still width c.add_absent.new.staged c.args.staged.rows c.in-Ok-add_absent.ensures.there.0 c.requires.even.2,
    )

pub place_found-requires-clause-apart : goal.place_found-requires-clause-apart
place_found-requires-clause-apart g c =
    let hash = g.H.KeyHash.hash_of c.args.self.now.index.hasher in
    let are = subst (ArePlaces c.args.positions.now hash c.args.self.now.rows c.args.staged.rows) (sym c.as_slice-2.ensures.value) c.in-Ok.ensures in
    ap (λ (rows : List (List Value)). no_repeats same_key (map (key_of c.args.positions.now) rows)) c.in-Ok-add_absent.ensures.rows
    ∙ added_apart c.args.positions.now hash c.args.self.now.rows c.requires.apart c.args.staged.rows c.as_slice-2.result.now c.requires.all_apart are

pub place_found-requires-clause-there : goal.place_found-requires-clause-there
place_found-requires-clause-there g c =
    let hash = g.H.KeyHash.hash_of c.args.self.now.index.hasher in
    let same : c.as_slice-2.result.now ≡ c.as_slice-3.result.now = c.as_slice-2.ensures.value ∙ sym c.as_slice-3.ensures.value in
    subst (AreThere c.args.positions.now c.add_absent.new.self.rows c.add_absent.new.staged) same
    (subst (λ rows. AreThere c.args.positions.now rows c.add_absent.new.staged c.as_slice-2.result.now) (sym c.in-Ok-add_absent.ensures.rows)
    (there_still c.args.positions.now hash c.args.self.now.rows (without_place c.args.staged.rows c.as_slice-2.result.now) c.add_absent.new.staged c.args.staged.rows c.as_slice-2.result.now c.in-Ok-add_absent.ensures.there
    (subst (ArePlaces c.args.positions.now hash c.args.self.now.rows c.args.staged.rows) (sym c.as_slice-2.ensures.value) c.in-Ok.ensures)))

pub returns-clause-ok : goal.returns-clause-ok
returns-clause-ok g c =
    let hash = g.H.KeyHash.hash_of c.args.self.now.index.hasher in
    let places = c.as_slice-2.result.now in
    let same : c.as_slice-3.result.now ≡ places = c.as_slice-3.ensures.value ∙ sym c.as_slice-2.ensures.value in
    let are = subst (ArePlaces c.args.positions.now hash c.args.self.now.rows c.args.staged.rows) (sym c.as_slice-2.ensures.value) c.in-Ok.ensures in
    let put = fold (put_by_key c.args.positions.now) in
    c.place_found.ensures.rows ∙ ap (λ l. put c.add_absent.new.self.rows (with_place c.add_absent.new.staged l)) same
    ∙ ap (put c.add_absent.new.self.rows) c.in-Ok-add_absent.ensures.there.1
    ∙ ap (λ rows. put rows (with_place c.args.staged.rows places)) c.in-Ok-add_absent.ensures.rows
    ∙ sym (placed c.args.positions.now hash c.args.self.now.rows c.requires.apart c.args.staged.rows places c.requires.all_apart are)

pub returns-clause-few : goal.returns-clause-few
returns-clause-few g c =
    let hash = g.H.KeyHash.hash_of c.args.self.now.index.hasher in
    let long = length-placed c.args.positions.now hash c.args.self.now.rows c.requires.apart c.args.staged.rows c.in-Ok.places.items c.requires.all_apart c.in-Ok.ensures in
    let new = c.count_absent-new.ensures ∙ ap (count_by is_absent) c.as_slice.ensures.value in
    let rows = c.len-2.ensures in
    let total = c.saturating_add.ensures in
    let within = c.if-most-saturating_add.false in
    let few = c.requires.few in
    omega arith
