-- A load: rows whose keys are new are added, and the others go to the places that were found, as if each were put.
use Rattle.std.proofs.Common.{◌≡◌, ℕ, zero, suc, ◌+◌, ◌<◌, true, false, cond, not, List, [], ◌∷◌, ◌++◌, length, map, fold, refl, sym, ap, subst, ◌∙◌, arith, true≢false, take, drop, drop-cons, All, add-one, drop-drop, drop-set-lt, take_all, drop_of_length-le, ◌≤◌, append_assoc, append-nil, count_by, length-append, length-set}
use Rattle.std.specs.Prelude.{slice_set, slice_index_or, if◌then◌else◌}
use Rattle.std.specs.List.{list_any}
use Rattle.std.proofs.lemmas.Bool.{not-true, and_parts, and_from, or_parts, or_from}
use Rattle.std.proofs.lemmas.List.{get_or_append_left, length-map}
use Rattle.std.proofs.lemmas.List.Elements.{All-append, All-cons, All-head, All-nil, All-set, All-tail, All-take}
use Rattle.std.proofs.lemmas.List.Folds.{list_any-append}
use Rattle.std.proofs.lemmas.List.Sums.{sum_by-cons}
use Rattle.std.proofs.lemmas.Slice.Zip.{AllZip-long, all_zipped_more}
use Rattle.sw_index.specs.declared.found.Absence.{Absence}
use Rattle.sw_index.specs.declared.found.Found.{Found}
use Rattle.sw_index.specs.Index.{IsAbsence, IsAbsent, IsFound}
use Rattle.sw_index.specs.declared.found.Found.TheVariants.{At, Absent}
use Rattle.gq_row.specs.declared.value.Value.{Value}
use Rattle.gq_row.specs.Order.{same_key}
use Rattle.gq_row.specs.Repeats.{no_repeats}
use Rattle.gq_row.specs.Rows.{key_of}
use Rattle.gq_row.specs.Tables.{put_by_key, has_row}
use Rattle.gq_row.specs.Classes.{class_of}
use Rattle.gq_table.specs.Places.{AreEven, IsPlace, ArePlaces, IsThere, AreThere, AreStillThere, is_absent, with_place, without_place}
use Rattle.gq_cells.proofs.RowsLemmas.{left_next, left_there}
use Rattle.gq_table.proofs.ColumnStoreLemmas.{one_more}
use Rattle.gq_table.proofs.KeyedLemmas.{absent_lacked, any_at_none, found_there, has_at, has_keys, key_there, lacks_absent, length-keys, mapped_any, put_among, put_at, put_new, read_mapped, set_again}

abbrev Row : Type 0
Row = List Value

module _ (key : List ℕ) where
  abbrev keys : List Row → List (List Value)
  keys rows = map (key_of key) rows

  -- ---- many rows

  abbrev AreApart : List Row → Type 0
  AreApart rows = no_repeats same_key (keys rows) ≡ true

  -- no row has a key of another list
  NoneHas : List Row → List Row → Type 0
  NoneHas rows [] = Unit {0}
  NoneHas rows (row ∷ more) = (has_row key rows (key_of key row) ≡ false) × NoneHas rows more

  none_has : (more : List Row) → NoneHas [] more
  unfolding NoneHas
  none_has [] = tt
  none_has (row ∷ more) = (refl, none_has more)

  none_has_more : (rows more : List Row) (row : Row) → NoneHas rows more → list_any (same_key (key_of key row)) (keys more) ≡ false → NoneHas (rows ++ row ∷ []) more
  unfolding NoneHas
  none_has_more rows [] row none apart = tt
  none_has_more rows (other ∷ more) row none apart =
      let parts = or_parts (same_key (key_of key row) (key_of key other)) (list_any (same_key (key_of key row)) (keys more)) apart in
      (list_any-append (λ r. same_key (key_of key r) (key_of key other)) rows (row ∷ []) ∙ or_from _ _ none.0 (or_from _ _ parts.0 refl), none_has_more rows more row none.1 parts.1)

  module _ (hash : List ℕ → ℕ) (rows : List Row) (differ : AreApart rows) where
    -- a row that has a place goes there, whatever was added
    put_there : (own more : List Row) (row : Row) (n : ℕ) → keys own ≡ keys rows → IsPlace key hash rows row (At n)
        → (put_by_key key (own ++ more) row ≡ slice_set own n row ++ more) × (keys (slice_set own n row) ≡ keys rows)
    put_there own more row n same is =
        let long : length own ≡ length rows = length-keys key own ∙ ap length same ∙ sym (length-keys key rows) in
        let within : n < length own = subst (λ m. n < m) (sym long) is.0 in
        let there : key_of key (slice_index_or own n []) ≡ key_of key row = key_there key own rows n same ∙ is.1 in (
          put_among key own more row (has_at key own (key_of key row) n within there) ∙ ap (λ l. l ++ more) (put_at key own row n within there (ap (no_repeats same_key) same ∙ differ)),
          set_again (key_of key) own n row [] there ∙ same,
        )

    placed_from : (own added new : List Row) (places : List Found) → keys own ≡ keys rows → NoneHas added new → AreApart new → ArePlaces key hash rows new places
        → fold (put_by_key key) (own ++ added) new ≡ fold (put_by_key key) (own ++ (added ++ without_place new places)) (with_place new places)
    unfolding NoneHas
    placed_from own added [] [] same none apart are = ap (λ l. own ++ l) (sym (append-nil added))
    placed_from own added [] (place ∷ places) same none apart are = absurd are
    placed_from own added (row ∷ new) [] same none apart are = absurd are
    placed_from own added (row ∷ new) (At n ∷ places) same none apart are =
        let parts = and_parts (not (list_any (same_key (key_of key row)) (keys new))) (no_repeats same_key (keys new)) apart in
        let put = put_there own added row n same are.0 in
        ap (λ l. fold (put_by_key key) l new) put.0
        ∙ placed_from (slice_set own n row) added new places put.1 none.1 parts.1 are.1
        ∙ ap (λ l. fold (put_by_key key) l (with_place new places)) (sym (put_there own (added ++ without_place new places) row n same are.0).0)
    placed_from own added (row ∷ new) (Absent absence ∷ places) same none apart are =
        let parts = and_parts (not (list_any (same_key (key_of key row)) (keys new))) (no_repeats same_key (keys new)) apart in
        let lacks : has_row key own (key_of key row) ≡ false = has_keys key own (key_of key row) ∙ ap (list_any (λ l. same_key l (key_of key row))) same ∙ sym (has_keys key rows (key_of key row)) ∙ are.0.0 in
        ap (λ l. fold (put_by_key key) l new) (put_new key (own ++ added) row (list_any-append (λ r. same_key (key_of key r) (key_of key row)) own added ∙ or_from _ _ lacks none.0) ∙ append_assoc own added (row ∷ []))
        ∙ placed_from own (added ++ row ∷ []) new places same (none_has_more added new row none.1 (not-true _ parts.0)) parts.1 are.1
        ∙ ap (λ l. fold (put_by_key key) (own ++ l) (with_place new places)) (append_assoc added (row ∷ []) (without_place new places))

    -- rows may be put one after the other, or first those that have no place and then those that have one
    pub placed : (new : List Row) (places : List Found) → AreApart new → ArePlaces key hash rows new places
        → fold (put_by_key key) rows new ≡ fold (put_by_key key) (rows ++ without_place new places) (with_place new places)
    placed new places apart are = ap (λ l. fold (put_by_key key) l new) (sym (append-nil rows)) ∙ placed_from rows [] new places refl (none_has new) apart are

    -- those that have a place add none
    length-there : (own more new : List Row) (places : List Found) → keys own ≡ keys rows → ArePlaces key hash rows new places
        → length (fold (put_by_key key) (own ++ more) (with_place new places)) ≡ length own + length more
    length-there own more [] [] same are = length-append own more
    length-there own more [] (place ∷ places) same are = absurd are
    length-there own more (row ∷ new) [] same are = absurd are
    length-there own more (row ∷ new) (At n ∷ places) same are =
        let put = put_there own more row n same are.0 in
        ap (λ (l : List Row). length (fold (put_by_key key) l (with_place new places))) put.0 ∙ length-there (slice_set own n row) more new places put.1 are.1 ∙ ap (λ m. m + length more) (length-set own n row)
    length-there own more (row ∷ new) (Absent absence ∷ places) same are = length-there own more new places same are.1

    pub length-placed : (new : List Row) (places : List Found) → AreApart new → ArePlaces key hash rows new places
        → length (fold (put_by_key key) rows new) ≡ length rows + count_by is_absent places
    length-placed new places apart are = ap length (placed new places apart are) ∙ length-there rows (without_place new places) new places refl are ∙ ap (λ n. length rows + n) (length-without new places are)
      where
        counted : (p : Found) (ps : List Found) → count_by is_absent (p ∷ ps) ≡ cond (is_absent p) 1 0 + count_by is_absent ps
        counted p ps = sum_by-cons (λ q. cond (is_absent q) 1 0) p ps

        length-without : (more : List Row) (ps : List Found) → ArePlaces key hash rows more ps → length (without_place more ps) ≡ count_by is_absent ps
        length-without [] [] h = refl
        length-without [] (p ∷ ps) h = absurd h
        length-without (x ∷ more) [] h = absurd h
        length-without (x ∷ more) (At n ∷ ps) h = (let again = length-without more ps h.1 in let more_counted : count_by is_absent (At n ∷ ps) ≡ 0 + count_by is_absent ps = counted (At n) ps in omega arith)
        length-without (x ∷ more) (Absent a ∷ ps) h = (let again = length-without more ps h.1 in let more_counted : count_by is_absent (Absent a ∷ ps) ≡ 1 + count_by is_absent ps = counted (Absent a) ps in omega arith)

    -- a row with a key of its own
    apart_more : (own : List Row) (row : Row) → AreApart own → has_row key own (key_of key row) ≡ false → AreApart (own ++ row ∷ [])
    apart_more [] row apart lacks = refl
    apart_more (old ∷ own) row apart lacks =
        let parts = and_parts (not (list_any (same_key (key_of key old)) (keys own))) (no_repeats same_key (keys own)) apart in
        let others = or_parts (same_key (key_of key old) (key_of key row)) (has_row key own (key_of key row)) lacks in
        let none : list_any (same_key (key_of key old)) (keys (own ++ row ∷ [])) ≡ false =
        mapped_any (key_of key) (same_key (key_of key old)) (own ++ row ∷ []) ∙ list_any-append (λ r. same_key (key_of key old) (key_of key r)) own (row ∷ [])
        ∙ or_from _ _ (sym (mapped_any (key_of key) (same_key (key_of key old)) own) ∙ not-true _ parts.0) (or_from _ _ others.0 refl) in
        and_from (not (list_any (same_key (key_of key old)) (keys (own ++ row ∷ [])))) (no_repeats same_key (keys (own ++ row ∷ []))) (ap not none) (apart_more own row parts.1 others.1)

    added_apart_from : (added new : List Row) (places : List Found) → AreApart (rows ++ added) → NoneHas added new → AreApart new → ArePlaces key hash rows new places → AreApart (rows ++ (added ++ without_place new places))
    unfolding NoneHas
    added_apart_from added [] [] own none apart are = ap (λ (l : List Row). no_repeats same_key (keys (rows ++ l))) (append-nil added) ∙ own
    added_apart_from added [] (place ∷ places) own none apart are = absurd are
    added_apart_from added (row ∷ new) [] own none apart are = absurd are
    added_apart_from added (row ∷ new) (At n ∷ places) own none apart are =
        let parts = and_parts (not (list_any (same_key (key_of key row)) (keys new))) (no_repeats same_key (keys new)) apart in
        added_apart_from added new places own none.1 parts.1 are.1
    added_apart_from added (row ∷ new) (Absent absence ∷ places) own none apart are =
        let parts = and_parts (not (list_any (same_key (key_of key row)) (keys new))) (no_repeats same_key (keys new)) apart in
        let lacks = list_any-append (λ r. same_key (key_of key r) (key_of key row)) rows added ∙ or_from _ _ are.0.0 none.0 in
        let more = ap (λ (l : List Row). no_repeats same_key (keys l)) (sym (append_assoc rows added (row ∷ []))) ∙ apart_more (rows ++ added) row own lacks in
        ap (λ (l : List Row). no_repeats same_key (keys (rows ++ l))) (sym (append_assoc added (row ∷ []) (without_place new places)))
        ∙ added_apart_from (added ++ row ∷ []) new places more (none_has_more added new row none.1 (not-true _ parts.0)) parts.1 are.1

    -- the rows with those that have no place have keys of their own
    pub added_apart : (new : List Row) (places : List Found) → AreApart new → ArePlaces key hash rows new places → AreApart (rows ++ without_place new places)
    added_apart new places apart are = added_apart_from [] new places (ap (λ (l : List Row). no_repeats same_key (keys l)) (append-nil rows) ∙ differ) (none_has new) apart are

-- ---- places, one by one

module _ (hash : List ℕ → ℕ) (key : List ℕ) where
  -- what was found of each key is the row's place
  pub place_of : (rows : List Row) (row : Row) (ks : List (List Value)) (k : List Value) (found : Found) → ks ≡ map (key_of key) rows → k ≡ key_of key row
      → IsFound class_of ks (class_of k) found → IsAbsent class_of hash ks (class_of k) found → IsPlace key hash rows row found
  place_of rows row ks k (At n) own is found absent = (let there = found_there key rows ks k n own found in (there.0, there.1 ∙ is))
  place_of rows row ks k (Absent a) own is found absent = (ap (has_row key rows) (sym is) ∙ lacks_absent key rows ks k own absent.none, absent.hashed ∙ ap (λ l. hash (class_of l)) is)

  -- the places of some rows, with that of one more
  pub places_more : (rows new : List Row) (places : List Found) (i : ℕ) (d : Row) (found : Found) → i < length new → ArePlaces key hash rows (take i new) places
      → IsPlace key hash rows (slice_index_or new i d) found → ArePlaces key hash rows (take (i + 1) new) (places ++ found ∷ [])
  places_more rows new places i d found within are is = subst (λ l. ArePlaces key hash rows l (places ++ found ∷ [])) (sym (one_more new i d within)) (all_zipped_more (IsPlace key hash rows) (take i new) places (slice_index_or new i d) found are is)

  pub place_at : (rows new : List Row) (places : List Found) (i : ℕ) (d : Row) (e : Found) → i < length places → ArePlaces key hash rows new places
      → IsPlace key hash rows (slice_index_or new i d) (slice_index_or places i e)
  place_at rows [] [] i d e within are = absurd (omega arith)
  place_at rows [] (place ∷ places) i d e within are = absurd are
  place_at rows (row ∷ new) [] i d e within are = absurd are
  place_at rows (row ∷ new) (place ∷ places) zero d e within are = are.0
  place_at rows (row ∷ new) (place ∷ places) (suc i) d e within are = place_at rows new places i d e (omega arith) are.1

  pub places_long : (rows new : List Row) (places : List Found) → ArePlaces key hash rows new places → length places ≡ length new
  places_long rows new places are = AllZip-long (IsPlace key hash rows) new places are

  -- those that are added before a row have other keys
  pub none_yet : (rows new : List Row) (places : List Found) (i : ℕ) (d : Row) → i < length new → no_repeats same_key (map (key_of key) new) ≡ true
      → has_row key (without_place (take i new) (take i places)) (key_of key (slice_index_or new i d)) ≡ false
  none_yet rows [] places i d within apart = absurd (omega arith)
  none_yet rows (row ∷ new) places zero d within apart = refl
  none_yet rows (row ∷ new) [] (suc i) d within apart = refl
  none_yet rows (row ∷ new) (place ∷ places) (suc i) d within apart =
      let parts = and_parts (not (list_any (same_key (key_of key row)) (map (key_of key) new))) (no_repeats same_key (map (key_of key) new)) apart in
      let other = any_at_none (λ r. same_key (key_of key row) (key_of key r)) new i d (omega arith) (sym (mapped_any (key_of key) (same_key (key_of key row)) new) ∙ not-true _ parts.0) in
      kept place other (none_yet rows new places i d (omega arith) parts.1)
    where
      kept : (p : Found) → same_key (key_of key row) (key_of key (slice_index_or new i d)) ≡ false → has_row key (without_place (take i new) (take i places)) (key_of key (slice_index_or new i d)) ≡ false
          → has_row key (without_place (row ∷ take i new) (p ∷ take i places)) (key_of key (slice_index_or new i d)) ≡ false
      kept (At n) other rest = rest
      kept (Absent a) other rest = or_from _ _ other rest

-- ---- the rows without a place and those with one, one by one

without_more : (new : List Row) (places : List Found) (i : ℕ) (d : Row) (e : Found) → i < length new → i < length places
    → without_place (take (suc i) new) (take (suc i) places) ≡ without_place (take i new) (take i places) ++ (if is_absent (slice_index_or places i e) then slice_index_or new i d ∷ [] else [])
without_more [] places i d e in_new in_places = absurd (omega arith)
without_more (row ∷ new) [] i d e in_new in_places = absurd (omega arith)
without_more (row ∷ new) (place ∷ places) zero d e in_new in_places = first place
  where
    first : (p : Found) → without_place (row ∷ []) (p ∷ []) ≡ (if is_absent p then row ∷ [] else [])
    first (At n) = refl
    first (Absent a) = refl
without_more (row ∷ new) (place ∷ places) (suc i) d e in_new in_places = later place (without_more new places i d e (omega arith) (omega arith))
  where
    later : (p : Found) → without_place (take (suc i) new) (take (suc i) places) ≡ without_place (take i new) (take i places) ++ (if is_absent (slice_index_or places i e) then slice_index_or new i d ∷ [] else [])
        → without_place (row ∷ take (suc i) new) (p ∷ take (suc i) places) ≡ without_place (row ∷ take i new) (p ∷ take i places) ++ (if is_absent (slice_index_or places i e) then slice_index_or new i d ∷ [] else [])
    later (At n) h = h
    later (Absent a) h = ap (λ l. row ∷ l) h

-- a row that has a place adds none
pub none_more : (new : List Row) (places : List Found) (i : ℕ) (e : Found) → i < length new → i < length places → is_absent (slice_index_or places i e) ≡ false
    → without_place (take (i + 1) new) (take (i + 1) places) ≡ without_place (take i new) (take i places)
none_more new places i e in_new in_places is =
    ap (λ m. without_place (take m new) (take m places)) (add-one i) ∙ without_more new places i [] e in_new in_places
    ∙ ap (λ b. without_place (take i new) (take i places) ++ (if b then slice_index_or new i [] ∷ [] else [])) is
    ∙ append-nil (without_place (take i new) (take i places))

-- one that has none adds itself
pub itself_more : (new : List Row) (places : List Found) (i : ℕ) (e : Found) → i < length new → i < length places → is_absent (slice_index_or places i e) ≡ true
    → without_place (take (i + 1) new) (take (i + 1) places) ≡ without_place (take i new) (take i places) ++ slice_index_or new i [] ∷ []
itself_more new places i e in_new in_places is =
    ap (λ m. without_place (take m new) (take m places)) (add-one i) ∙ without_more new places i [] e in_new in_places
    ∙ ap (λ b. without_place (take i new) (take i places) ++ (if b then slice_index_or new i [] ∷ [] else [])) is

-- a row that has no place may become another
pub still_there : (rows : List Row) (places : List Found) (i : ℕ) (row : Row) (e : Found) → i < length places → is_absent (slice_index_or places i e) ≡ true
    → with_place (slice_set rows i row) places ≡ with_place rows places
still_there [] places i row e within absent = refl
still_there (old ∷ rows) [] i row e within absent = absurd (omega arith)
still_there (old ∷ rows) (At n ∷ places) zero row e within absent = absurd (true≢false (sym absent))
still_there (old ∷ rows) (Absent a ∷ places) zero row e within absent = refl
still_there (old ∷ rows) (At n ∷ places) (suc i) row e within absent = ap (λ l. old ∷ l) (still_there rows places i row e (omega arith) absent)
still_there (old ∷ rows) (Absent a ∷ places) (suc i) row e within absent = still_there rows places i row e (omega arith) absent

list_first : {X : Type 0} (x y : X) (xs ys : List X) → x ∷ xs ≡ y ∷ ys → x ≡ y
list_first x y xs ys e = ap (λ l. slice_index_or l 0 x) e

list_rest : {X : Type 0} (x y : X) (xs ys : List X) → x ∷ xs ≡ y ∷ ys → xs ≡ ys
list_rest x y xs ys e = ap (drop 1) e

-- rows placed among some rows are placed among these and more
pub there_still : (key : List ℕ) (hash : List ℕ → ℕ) (rows more now old : List Row) (places : List Found) → AreStillThere now old places → ArePlaces key hash rows old places → AreThere key (rows ++ more) now places
there_still key hash rows more [] [] [] h are = tt
there_still key hash rows more [] [] (place ∷ places) h are = are
there_still key hash rows more [] (row ∷ old) places h are = absurd (let e = ap (λ (l : List ℕ). length l) h.0 in omega arith)
there_still key hash rows more (now ∷ new) [] places h are = absurd (let e = ap (λ (l : List ℕ). length l) h.0 in omega arith)
there_still key hash rows more (now ∷ new) (row ∷ old) [] h are = are
there_still key hash rows more (now ∷ new) (row ∷ old) (At n ∷ places) h are = (
  (
    (let within = are.0.0 in let long = length-append rows more in omega arith),
    ap (key_of key) (get_or_append_left rows more [] n are.0.0) ∙ are.0.1 ∙ ap (key_of key) (sym (list_first now row (with_place new places) (with_place old places) h.1)),
  ),
  there_still key hash rows more new old places (ap (drop 1) h.0, list_rest now row (with_place new places) (with_place old places) h.1) are.1,
)
there_still key hash rows more (now ∷ new) (row ∷ old) (Absent a ∷ places) h are =
    (tt, there_still key hash rows more new old places (ap (drop 1) h.0, h.1) are.1)

-- rows that are as long as others are of one length where those are
pub even_still : (width : ℕ) (now old : List Row) → map length now ≡ map length old → All (λ row. length row ≡ width) old → All (λ row. length row ≡ width) now
even_still width now old same all k d within =
    let long : length now ≡ length old = sym (length-map now length) ∙ ap (λ (l : List ℕ). length l) same ∙ length-map old length in
    let within_old : k < length old = subst (λ n. k < n) long within in
    sym (read_mapped length now k d 0 within) ∙ ap (λ l. slice_index_or l k 0) same ∙ read_mapped length old k d 0 within_old ∙ all k d within_old

-- rows with keys of their own, appended to rows that have none of these
put_behind : (key : List ℕ) (rows new : List Row) → NoneHas key rows new → no_repeats same_key (map (key_of key) new) ≡ true → fold (put_by_key key) rows new ≡ rows ++ new
unfolding NoneHas
put_behind key rows [] none apart = sym (append-nil rows)
put_behind key rows (row ∷ new) none apart =
    let parts = and_parts (not (list_any (same_key (key_of key row)) (map (key_of key) new))) (no_repeats same_key (map (key_of key) new)) apart in
    ap (λ l. fold (put_by_key key) l new) (put_new key rows row none.0)
    ∙ put_behind key (rows ++ row ∷ []) new (none_has_more key rows new row none.1 (not-true _ parts.0)) parts.1
    ∙ append_assoc rows (row ∷ []) new

-- rows with keys of their own, put where there is none
pub put_apart : (key : List ℕ) (rows new : List Row) → length rows ≡ 0 → no_repeats same_key (map (key_of key) new) ≡ true → fold (put_by_key key) rows new ≡ new
put_apart key [] new empty apart = put_behind key [] new (none_has key new) apart
put_apart key (row ∷ rows) new empty apart = absurd (omega arith)

-- ---- what a loop over places keeps

pub left_on : {X : Type 0} (xs ys : List X) (i : ℕ) → drop i xs ≡ drop i ys → drop (i + 1) xs ≡ drop (i + 1) ys
left_on xs ys i same = sym (drop-drop 1 i xs) ∙ ap (drop 1) same ∙ drop-drop 1 i ys

pub all_without : (Q : Row → Type 0) (rows : List Row) (places : List Found) → All Q rows → All Q (without_place rows places)
all_without Q [] places all = All-nil Q
all_without Q (row ∷ rows) [] all = All-nil Q
all_without Q (row ∷ rows) (At n ∷ places) all = all_without Q rows places (All-tail Q row rows all)
all_without Q (row ∷ rows) (Absent a ∷ places) all = All-cons Q row (without_place rows places) (All-head Q row rows all) (all_without Q rows places (All-tail Q row rows all))

-- a row without a place has a key that no row has, and none that was added
pub lacked_yet : (hash : List ℕ → ℕ) (key : List ℕ) (rows new : List Row) (places : List Found) (i : ℕ) (absence : Absence) (e : Found) → i < length places → no_repeats same_key (map (key_of key) new) ≡ true
    → ArePlaces key hash rows new places → slice_index_or places i e ≡ Absent absence
    → (has_row key (rows ++ without_place (take i new) (take i places)) (key_of key (slice_index_or new i [])) ≡ false) × (absence.hash ≡ hash (class_of (key_of key (slice_index_or new i []))))
lacked_yet hash key rows new places i absence e within apart are is =
    let place = subst (IsPlace key hash rows (slice_index_or new i [])) is (place_at hash key rows new places i [] e within are) in
    let long = places_long hash key rows new places are in
    let yet = none_yet hash key rows new places i [] (let h = within in omega arith) apart in
    (list_any-append (λ r. same_key (key_of key r) (key_of key (slice_index_or new i []))) rows (without_place (take i new) (take i places)) ∙ or_from _ _ place.0 yet, place.1)

-- what is left of the rows that have a place
left_to_place : (new : List Row) (places : List Found) (i : ℕ) (e : Found) → i < length new → i < length places
    → with_place (drop i new) (drop i places) ≡ (if is_absent (slice_index_or places i e) then [] else slice_index_or new i [] ∷ []) ++ with_place (drop (i + 1) new) (drop (i + 1) places)
left_to_place new places i e in_new in_places =
    (λ z. with_place (drop-cons new i [] in_new z) (drop-cons places i e in_places z))
    ∙ first (slice_index_or places i e)
    ∙ ap (λ m. (if is_absent (slice_index_or places i e) then [] else slice_index_or new i [] ∷ []) ++ with_place (drop m new) (drop m places)) (sym (add-one i))
  where
    first : (p : Found) → with_place (slice_index_or new i [] ∷ drop (suc i) new) (p ∷ drop (suc i) places) ≡ (if is_absent p then [] else slice_index_or new i [] ∷ []) ++ with_place (drop (suc i) new) (drop (suc i) places)
    first (At n) = refl
    first (Absent a) = refl

-- the next has a place
pub place_next : (new : List Row) (places : List Found) (i : ℕ) (e : Found) → i < length new → i < length places → is_absent (slice_index_or places i e) ≡ false
    → with_place (drop i new) (drop i places) ≡ slice_index_or new i [] ∷ with_place (drop (i + 1) new) (drop (i + 1) places)
place_next new places i e in_new in_places is =
    left_to_place new places i e in_new in_places ∙ ap (λ b. (if b then [] else slice_index_or new i [] ∷ []) ++ with_place (drop (i + 1) new) (drop (i + 1) places)) is

-- the next has none
pub place_past : (new : List Row) (places : List Found) (i : ℕ) (e : Found) → i < length new → i < length places → is_absent (slice_index_or places i e) ≡ true
    → with_place (drop i new) (drop i places) ≡ with_place (drop (i + 1) new) (drop (i + 1) places)
place_past new places i e in_new in_places is =
    left_to_place new places i e in_new in_places ∙ ap (λ b. (if b then [] else slice_index_or new i [] ∷ []) ++ with_place (drop (i + 1) new) (drop (i + 1) places)) is

pub place_none : (new : List Row) (places : List Found) (i : ℕ) → length places ≤ i → with_place (drop i new) (drop i places) ≡ []
place_none new places i over = ap (with_place (drop i new)) (drop_of_length-le places over) ∙ ended (drop i new)
  where
    ended : (l : List Row) → with_place l [] ≡ []
    ended [] = refl
    ended (x ∷ l) = refl

pub there_at : (key : List ℕ) (rows new : List Row) (places : List Found) (i n : ℕ) (e : Found) → i < length places → AreThere key rows new places → slice_index_or places i e ≡ At n
    → (n < length rows) × (key_of key (slice_index_or rows n []) ≡ key_of key (slice_index_or new i []))
there_at key rows [] [] i n e within are is = absurd (omega arith)
there_at key rows [] (place ∷ places) i n e within are is = absurd are
there_at key rows (row ∷ new) [] i n e within are is = absurd are
there_at key rows (row ∷ new) (place ∷ places) zero n e within are is = subst (IsThere key rows row) is are.0
there_at key rows (row ∷ new) (place ∷ places) (suc i) n e within are is = there_at key rows new places i n e (omega arith) are.1 is

pub there_long : (key : List ℕ) (rows new : List Row) (places : List Found) → AreThere key rows new places → length places ≡ length new
there_long key rows new places are = AllZip-long (IsThere key rows) new places are

-- ---- rows that go to their places, one by one

-- after some of them: the rest, put into these rows, gives what all give, put into the first ones
pub record Placing (key : List ℕ) (first new : List Row) (places : List Found) (i : ℕ) (rows staged : List Row) : Type 0 where
  pub put : fold (put_by_key key) rows (with_place (drop i staged) (drop i places)) ≡ fold (put_by_key key) first (with_place new places)
  pub keys : map (key_of key) rows ≡ map (key_of key) first
  pub left : drop i staged ≡ drop i new
  pub long : length staged ≡ length new
  pub even : AreEven rows staged

module _ (key : List ℕ) (first new : List Row) (places : List Found) (there : AreThere key first new places) (i : ℕ) (within : i < length places) (rows staged : List Row) (so_far : Placing key first new places i rows staged) where
  pub in_staged : i < length staged
  in_staged = (let long = there_long key first new places there in let same = so_far.long in omega arith)

  pub found_in : (n : ℕ) (e : Found) → slice_index_or places i e ≡ At n → (n < length rows) × (key_of key (slice_index_or rows n []) ≡ key_of key (slice_index_or staged i []))
  found_in n e is =
      let at = there_at key first new places i n e within there is in
      let long : length rows ≡ length first = length-keys key rows ∙ ap length so_far.keys ∙ sym (length-keys key first) in
      (subst (λ m. n < m) (sym long) at.0, key_there key rows first n so_far.keys ∙ at.1 ∙ ap (key_of key) (sym (left_there staged new i [] so_far.left)))

  pub as_long_there : (n : ℕ) (e : Found) → slice_index_or places i e ≡ At n → length (slice_index_or staged i []) ≡ length (slice_index_or rows n [])
  as_long_there n e is = so_far.even.2 i [] in_staged ∙ sym (so_far.even.1 n [] (found_in n e is).0)

  pub placing_found : no_repeats same_key (map (key_of key) first) ≡ true → (n : ℕ) (e : Found) → slice_index_or places i e ≡ At n → Placing key first new places (i + 1) (slice_set rows n (slice_index_or staged i [])) (slice_set staged i (slice_index_or rows n []))
  placing_found apart n e is =
      let found = found_in n e is in
      record {
        put =
            ap (λ l. fold (put_by_key key) (slice_set rows n (slice_index_or staged i [])) (with_place l (drop (i + 1) places))) (drop-set-lt (i + 1) staged i (slice_index_or rows n []) (omega arith))
            ∙ ap (λ l. fold (put_by_key key) l (with_place (drop (i + 1) staged) (drop (i + 1) places))) (sym (put_at key rows (slice_index_or staged i []) n found.0 found.1 (ap (no_repeats same_key) so_far.keys ∙ apart)))
            ∙ ap (fold (put_by_key key) rows) (sym (place_next staged places i e in_staged within (ap is_absent is))) ∙ so_far.put;
        keys = set_again (key_of key) rows n (slice_index_or staged i []) [] found.1 ∙ so_far.keys;
        left = left_next staged new i (slice_index_or rows n []) so_far.left;
        long = length-set staged i (slice_index_or rows n []) ∙ so_far.long;
        even = (
          so_far.even.0,
          All-set (λ row. length row ≡ so_far.even.0) rows n (slice_index_or staged i []) (so_far.even.2 i [] in_staged) so_far.even.1,
          All-set (λ row. length row ≡ so_far.even.0) staged i (slice_index_or rows n []) (so_far.even.1 n [] found.0) so_far.even.2,
        );
      }

  pub placing_past : (e : Found) → is_absent (slice_index_or places i e) ≡ true → Placing key first new places (i + 1) rows staged
  placing_past e is = record {
    put = ap (fold (put_by_key key) rows) (sym (place_past staged places i e in_staged within is)) ∙ so_far.put;
    keys = so_far.keys;
    left = left_on staged new i so_far.left;
    long = so_far.long;
    even = so_far.even;
  }

-- ---- rows without a place that are added, one by one

-- after some of them: the first rows and those that were added, and the rest of the new ones
pub record Adding (first new : List Row) (places : List Found) (i : ℕ) (rows staged : List Row) : Type 0 where
  pub added : rows ≡ first ++ without_place (take i new) (take i places)
  pub there : AreStillThere staged new places
  pub left : drop i staged ≡ drop i new

pub adding_none : (first new : List Row) (places : List Found) → Adding first new places 0 first new
adding_none first new places = record { added = sym (append-nil first); there = (refl, refl); left = refl }

pub adding_all : (hash : List ℕ → ℕ) (key : List ℕ) (first new : List Row) (places : List Found) → ArePlaces key hash first new places → (i : ℕ) (rows staged : List Row) → length places ≤ i → Adding first new places i rows staged
    → rows ≡ first ++ without_place new places
adding_all hash key first new places are i rows staged over so_far =
    so_far.added ∙ (λ z. first ++ without_place (take_all i new (let long = places_long hash key first new places are in omega arith) z) (take_all i places over z))

module _ (hash : List ℕ → ℕ) (key : List ℕ) (first new : List Row) (places : List Found) (are : ArePlaces key hash first new places) (i : ℕ) (within : i < length places) (rows staged : List Row) (so_far : Adding first new places i rows staged) where
  in_new : i < length new
  in_new = (let long = places_long hash key first new places are in omega arith)

  pub still_staged : i < length staged
  still_staged = subst (λ n. i < n) (sym (sym (length-map staged length) ∙ ap (λ (l : List ℕ). length l) so_far.there.0 ∙ length-map new length)) in_new

  pub row_is : slice_index_or staged i [] ≡ slice_index_or new i []
  row_is = left_there staged new i [] so_far.left

  keys_next : map (key_of key) (drop i new) ≡ key_of key (slice_index_or new i []) ∷ map (key_of key) (drop (i + 1) new)
  keys_next = ap (map (key_of key)) (drop-cons new i [] in_new) ∙ ap (λ m. key_of key (slice_index_or new i []) ∷ map (key_of key) (drop m new)) (sym (add-one i))

  -- of the keys of the remaining rows there is one
  pub keys_left : (ks : List (List Value)) → ks ≡ map (key_of key) (drop i new) → 0 < length ks
  keys_left ks are = subst (λ (l : List (List Value)). 0 < length l) (sym (are ∙ keys_next)) (omega arith)

  -- the first is the key of the row, and those after it are of the rows after it
  pub key_next : (ks others : List (List Value)) (k : List Value) → ks ≡ map (key_of key) (drop i new) → ks ≡ k ∷ others
      → (k ≡ key_of key (slice_index_or staged i [])) × (others ≡ map (key_of key) (drop (i + 1) new))
  key_next ks others k are is =
      let same : k ∷ others ≡ key_of key (slice_index_or new i []) ∷ map (key_of key) (drop (i + 1) new) = sym is ∙ are ∙ keys_next in
      (ap (λ (l : List (List Value)). slice_index_or l 0 []) same ∙ ap (key_of key) (sym row_is), ap (drop 1) same)

  pub row_even : AreEven first new → All (λ other. length other ≡ length (slice_index_or staged i [])) rows
  row_even even =
      let wide : All (λ row. length row ≡ even.0) rows = subst (All (λ row. length row ≡ even.0)) (sym so_far.added)
      (All-append (λ row. length row ≡ even.0) first (without_place (take i new) (take i places)) even.1 (all_without (λ row. length row ≡ even.0) (take i new) (take i places) (All-take (λ row. length row ≡ even.0) i new even.2))) in
      λ k d h. wide k d h ∙ sym (ap (λ (row : Row). length row) row_is ∙ even.2 i [] in_new)

  pub row_absent : (ks : List (List Value)) (k : List Value) (absence : Absence) (e : Found) → ks ≡ map (key_of key) rows → k ≡ key_of key (slice_index_or staged i []) → no_repeats same_key (map (key_of key) new) ≡ true
      → slice_index_or places i e ≡ Absent absence → IsAbsence class_of hash ks (class_of k) absence
  row_absent ks k absence e own is apart place =
      let lacked = lacked_yet hash key first new places i absence e within apart are place in
      let same : k ≡ key_of key (slice_index_or new i []) = is ∙ ap (key_of key) row_is in
      record {
        none = absent_lacked key rows ks k own (ap (has_row key rows) same ∙ ap (λ l. has_row key l (key_of key (slice_index_or new i []))) so_far.added ∙ lacked.0);
        hashed = lacked.1 ∙ ap (λ l. hash (class_of l)) (sym same);
      }

  pub adding_absent : (absence : Absence) (e : Found) (cells : Row) → length (slice_index_or staged i []) ≡ length cells → slice_index_or places i e ≡ Absent absence → Adding first new places (i + 1) (rows ++ slice_index_or staged i [] ∷ []) (slice_set staged i cells)
  adding_absent absence e cells long is = record {
    added =
        (λ z. so_far.added z ++ row_is z ∷ []) ∙ append_assoc first (without_place (take i new) (take i places)) (slice_index_or new i [] ∷ [])
        ∙ ap (λ l. first ++ l) (sym (itself_more new places i e in_new within (ap is_absent is)));
    there = (set_again length staged i cells [] long ∙ so_far.there.0, still_there staged places i cells e within (ap is_absent is) ∙ so_far.there.1);
    left = left_next staged new i cells so_far.left;
  }

  pub adding_found : (e : Found) → is_absent (slice_index_or places i e) ≡ false → Adding first new places (i + 1) rows staged
  adding_found e is = record {
    added = so_far.added ∙ ap (λ l. first ++ l) (sym (none_more new places i e in_new within is));
    there = so_far.there;
    left = left_on staged new i so_far.left;
  }
