-- Rows are read ahead, and taken from a block one after the other.
use Rattle.std.proofs.Common.{◌≡◌, ◌≤◌, ◌<◌, ◌+◌, ◌++◌, ◌∙◌, ℕ, Bool, false, List, [], ◌∷◌, length, take, drop, Option, Some, None, Result, Ok, Err, refl, sym, ap, subst, arith, inl, inr, append_assoc, length-append, option_map, slice_get}
use Rattle.std.specs.Prelude.{IsTrue, IfOk, IfSome, IsErrAnd}
use Rattle.std.proofs.lemmas.Grind.{common_steps}
use Rattle.std.proofs.lemmas.List.{drop_more, get_or-take, length-take-le, map-append}
use Rattle.std.proofs.lemmas.Option.{slice_get_cases, get_or_from_slice_get}
use Rattle.gq_row.specs.declared.value.Value.{Value}
use Rattle.gq_spill.specs.Handing.{Gave, taken}
use Rattle.gq_spill.specs.Runs.{Runs}
use Rattle.gq_group.specs.Access.{RunSet, LeavesOthers, HasCause}
use Rattle.gq_group.specs.Blocks.{IsHashed, AreHashed, Came, Comes, ReadAhead, Then, left_of, row_at, values_of}
use Rattle.gq_group.specs.Groups.{Spec, all_fit, fits_spec}
use Rattle.gq_group.specs.declared.refusal.Refusal.{Refusal}
use Rattle.gq_group.specs.declared.row_block.Ahead.{Ahead}
use Rattle.gq_group.proofs.AccessLemmas.{leaves-refl, leaves-trans}
use Rattle.gq_group.proofs.ReadLemmas.{cause-later}

-- ---- rows of a block

hashed_more : (spec : Spec) (hash : List ℕ → ℕ) (rows : List Ahead) (a : Ahead) → AreHashed spec hash rows → IsHashed spec hash a → AreHashed spec hash (rows ++ a ∷ [])
hashed_more spec hash [] a all one = (one, tt)
hashed_more spec hash (x ∷ rows) a all one = (all.0, hashed_more spec hash rows a all.1 one)

there : (rows : List Ahead) (i : ℕ) → i < length rows → (a : Ahead) × (slice_get rows i ≡ Some a)
there rows i within = elim (slice_get_cases rows i).1 [
  | inl it ↦ (it.0, it.2)
  | inr none ↦ absurd (omega (arith, none.0, within))
]

-- the next row, and those after it
left_next : (rows : List Ahead) (done count : ℕ) (a : Ahead) → count ≤ length rows → done < count → slice_get rows done ≡ Some a → left_of done count rows ≡ a ∷ left_of (done + 1) count rows
left_next rows done count a within less at =
    drop_more (take count rows) done a (omega (arith, length-take-le count rows within, less))
    ∙ ap (λ x. x ∷ drop (done + 1) (take count rows)) (get_or-take count rows done a less ∙ get_or_from_slice_get rows done a a at)

pub left_none : (rows : List Ahead) (done count : ℕ) → count ≤ length rows → count ≤ done → left_of done count rows ≡ []
left_none rows done count within past = drop_past (take count rows) done (omega (arith, length-take-le count rows within, past))
  where
    drop_past : (xs : List Ahead) (n : ℕ) → length xs ≤ n → drop n xs ≡ []
    drop_past xs n long = grind (arith, common_steps)

-- ---- a row is taken

module _ (rows : List Ahead) (done count : ℕ) (within : count ≤ length rows) (less : done < count) where
  first : (a : Ahead) × (slice_get rows done ≡ Some a)
  first = there rows done (omega (arith, within, less))

  next : left_of done count rows ≡ first.0 ∷ left_of (done + 1) count rows
  next = left_next rows done count first.0 within less first.1

  row_is : row_at rows (Some done) ≡ Some first.0.row
  row_is = ap (option_map (λ (a : Ahead). a.row)) first.1

  pub first_gave : (gives : List (List Value) → Type 0) (all : List (List Value)) → Then (left_of done count rows) gives all → Gave (row_at rows (Some done)) all (Then (left_of (done + 1) count rows) gives)
  first_gave gives all left =
      subst (λ o. Gave o all (Then (left_of (done + 1) count rows) gives)) (sym row_is)
      (values_of (left_of (done + 1) count rows) ++ left.0, left.1 ∙ ap (λ l. values_of l ++ left.0) next, (left.0, refl, left.2))

  pub one_less : taken (row_at rows (Some done)) + length (left_of (done + 1) count rows) ≡ length (left_of done count rows)
  one_less = let one = ap taken row_is in let long = ap length next in omega (arith, one, long)

  pub first_hashed : (spec : Spec) (hash : List ℕ → ℕ) → AreHashed spec hash (left_of done count rows) → (ahead : Ahead) × (slice_get rows done ≡ Some ahead) × IsHashed spec hash ahead
  first_hashed spec hash all = (first.0, first.1, (subst (AreHashed spec hash) next all).0)

  pub others_hashed : (spec : Spec) (hash : List ℕ → ℕ) → AreHashed spec hash (left_of done count rows) → AreHashed spec hash (left_of (done + 1) count rows)
  others_hashed spec hash all = (subst (AreHashed spec hash) next all).1

  -- from those that were read ahead
  pub comes_first : (gives : List (List Value) → Type 0) (owns : RunSet) (left : ℕ) (is_ready : Type 0) (makes : Bool) (r : Runs) → is_ready
      → Comes (row_at rows) (Then (left_of done count rows) gives) (Then (left_of (done + 1) count rows) gives) owns owns (length (left_of done count rows) + left) (length (left_of (done + 1) count rows) + left) is_ready makes r r (Ok (Some done))
  comes_first gives owns left is_ready makes r ready = record {
    rows = λ h all is. first_gave gives all is;
    bound = omega (arith, one_less);
    ready = ready;
    others = leaves-refl owns r;
    owned = λ none run own. own;
    made = λ none. refl;
    cause = tt;
  }

-- from those that are read once none is left
pub comes_later : (rows now : List Ahead) (done count : ℕ) (gives later : List (List Value) → Type 0) (owned owns : RunSet) (most left : ℕ) (is_ready : Type 0) (makes : Bool) (old new : Runs) (result : Result (Option ℕ) Refusal)
    → count ≤ length rows → count ≤ done → Comes (row_at now) gives later owned owns most left is_ready makes old new result
    → Comes (row_at now) (Then (left_of done count rows) gives) later owned owns (length (left_of done count rows) + most) left is_ready makes old new result
comes_later rows now done count gives later owned owns most left is_ready makes old new result within past c = record {
  rows = λ h. if_ok (λ t told all is. told all (subst gives (sym (is.1 ∙ ap (λ l. values_of l ++ is.0) none)) is.2)) result (c.rows h);
  bound = if_ok (λ t told. omega (arith, told)) result c.bound;
  ready = c.ready;
  others = c.others;
  owned = c.owned;
  made = c.made;
  cause = c.cause;
}
  where
    none : left_of done count rows ≡ []
    none = left_none rows done count within past

    if_ok : {P Q : Option ℕ → Type 0} → ((t : Option ℕ) → P t → Q t) → (q : Result (Option ℕ) Refusal) → IfOk q P → IfOk q Q
    if_ok f (Ok t) h = f t h
    if_ok f (Err e) h = tt

-- ---- a block is read

module _ {T : Type 0} (row_of : T → Option (List Value)) (gives later : List (List Value) → Type 0) (owned owns : RunSet) (most left : ℕ) (is_ready : Type 0) (makes : Bool) (old new : Runs) where
  at_err : (P : Result T Refusal → Type 0) (q : Result T Refusal) (e : Refusal) → IsErrAnd q (λ y. y ≡ e) → P (Err e) → P q
  at_err P (Ok x) e is h = absurd is
  at_err P (Err y) e is h = subst (λ x. P (Err x)) (sym is) h

  -- it was refused
  pub comes_err : (q : Result T Refusal) (e : Refusal) → IsErrAnd q (λ y. y ≡ e) → LeavesOthers owned owns old new → (makes ≡ false → (run : ℕ) → IsTrue (owns run) → IsTrue (owned run)) → (makes ≡ false → new.made ≡ old.made) → HasCause e old new
      → Comes row_of gives later owned owns most left is_ready makes old new q
  comes_err q e is others back made cause = at_err (λ x. Comes row_of gives later owned owns most left is_ready makes old new x) q e is (record {
    rows = λ h. tt;
    bound = tt;
    ready = tt;
    others = others;
    owned = back;
    made = made;
    cause = cause;
  })

module _ (spec : Spec) (hash : List ℕ → ℕ) (rows : List Ahead) (gives later : List (List Value) → Type 0) (owned owns : RunSet) (most left : ℕ) (is_ready : Type 0) (makes : Bool) (old new : Runs) (count : ℕ)
    (read : ReadAhead spec hash rows gives later owned owns most left is_ready makes old new (Ok count)) (within : count ≤ length rows) where
  -- there was a row
  pub comes_read : 0 < count → Comes (row_at rows) gives (Then (left_of 1 count rows) later) owned owns most (length (left_of 1 count rows) + left) is_ready makes old new (Ok (Some 0))
  comes_read some = record {
    rows = λ h all is. first_gave rows 0 count within some later all (read.came.rest h all is);
    bound = omega (arith, one_less rows 0 count within some, read.came.bound);
    ready = read.came.ready;
    others = read.others;
    owned = read.owned;
    made = read.made;
    cause = tt;
  }

  -- there was none
  pub comes_none : count ≡ 0 → Comes (row_at rows) gives (Then (left_of 1 count rows) later) owned owns most (length (left_of 1 count rows) + left) is_ready makes old new (Ok None)
  comes_none no_row = record {
    rows = λ h all is.
        let none : all ≡ [] = read.none no_row h all is in
        let rest = read.came.rest h all is in
        let ends : [] ≡ rest.0 = sym none ∙ rest.1 ∙ ap (λ n. values_of (take n rows) ++ rest.0) no_row in
        (none, (rest.0, ends ∙ ap (λ l. values_of l ++ rest.0) (sym empty), rest.2));
    bound = let long = ap length empty in omega (arith, long, read.came.bound);
    ready = read.came.ready;
    others = read.others;
    owned = read.owned;
    made = read.made;
    cause = tt;
  }
    where
      empty : left_of 1 count rows ≡ []
      empty = left_none rows 1 count within (omega (arith, no_row))

-- ---- rows are read into a block

-- what was read so far
pub record AheadSoFar (spec : Spec) (hash : List ℕ → ℕ) (rows : List Ahead) (gives later : List (List Value) → Type 0) (had has : RunSet) (most left : ℕ) (is_ready : Type 0) (makes : Bool) (old new : Runs) : Type 0 where
  pub came : Came spec hash rows gives later most left is_ready old.honest
  pub others : LeavesOthers had has old new
  pub owned : makes ≡ false → (run : ℕ) → IsTrue (has run) → IsTrue (had run)
  pub made : makes ≡ false → new.made ≡ old.made

pub ahead-none : (spec : Spec) (hash : List ℕ → ℕ) (gives : List (List Value) → Type 0) (owns : RunSet) (most : ℕ) (is_ready : Type 0) (makes : Bool) (r : Runs) → is_ready → AheadSoFar spec hash [] gives gives owns owns most most is_ready makes r r
ahead-none spec hash gives owns most is_ready makes r ready = record {
  came = record {
    rest = λ h all is. (all, refl, is);
    hashed = tt;
    bound = omega arith;
    ready = ready;
  };
  others = leaves-refl owns r;
  owned = λ none run own. own;
  made = λ none. refl;
}

-- those that are still to come can be grouped
pub known_rest : (spec : Spec) (first : List (List Value)) (all rest : List (List Value)) → all ≡ first ++ rest → IsTrue (all_fit spec all) → IsTrue (all_fit spec rest)
known_rest spec first all rest is fit = later first (subst (λ l. IsTrue (all_fit spec l)) is fit)
  where
    later : (xs : List (List Value)) → IsTrue (all_fit spec (xs ++ rest)) → IsTrue (all_fit spec rest)
    later xs fits = grind (arith, common_steps)

module _ (spec : Spec) (hash : List ℕ → ℕ) (rows : List Ahead) (gives now : List (List Value) → Type 0) (a b b' : RunSet) (most left : ℕ) (ready : Type 0) (makes : Bool) (r0 r s : Runs)
    (inv : AheadSoFar spec hash rows gives now a b most left ready makes r0 r) (step : LeavesOthers b b' r s) (back : makes ≡ false → (run : ℕ) → IsTrue (b' run) → IsTrue (b run)) (same_made : makes ≡ false → s.made ≡ r.made) where
  stepped : LeavesOthers a b' r0 s
  stepped = leaves-trans a b b' r0 r s inv.others step

  -- a row was refused
  pub ahead-stopped : (over : List Ahead) (later : List (List Value) → Type 0) (few : ℕ) (is_ready : Type 0) (q : Result ℕ Refusal) (e : Refusal) → IsErrAnd q (λ y. y ≡ e) → HasCause e r s → ReadAhead spec hash over gives later a b' most few is_ready makes r0 s q
  ahead-stopped over later few is_ready (Ok x) e is cause = absurd is
  ahead-stopped over later few is_ready (Err y) e is cause = record {
    came = tt;
    none = tt;
    others = stepped;
    owned = λ none run own. inv.owned none run (back none run own);
    made = λ none. same_made none ∙ inv.made none;
    cause = cause-later y a b r0 r s inv.others (subst (λ x. HasCause x r s) (sym is) cause);
  }

  -- there was none
  pub ahead-over : (over : List Ahead) (later : List (List Value) → Type 0) (few : ℕ) (is_ready : Type 0) (count : ℕ) → take count over ≡ rows → count ≡ length rows → is_ready → few ≤ left
      → (IsTrue r.honest → (all : List (List Value)) → now all → (all ≡ []) × later []) → ReadAhead spec hash over gives later a b' most few is_ready makes r0 s (Ok count)
  ahead-over over later few is_ready count same long is fewer none = record {
    came = record {
      rest = λ h all it.
          let rest = inv.came.rest h all it in
          let over = none (inv.others.same_honest ∙ h) rest.0 rest.2 in
          ([], rest.1 ∙ (λ i. values_of (same_back i) ++ over.0 i), over.1);
      hashed = subst (AreHashed spec hash) same_back inv.came.hashed;
      bound = let is_long = ap length same_back in omega (arith, is_long, inv.came.bound, fewer);
      ready = is;
    };
    none = λ no h all it.
        let rest = inv.came.rest h all it in
        let over = none (inv.others.same_honest ∙ h) rest.0 rest.2 in
        rest.1 ∙ (λ i. values_of (no_row (sym long ∙ no) i) ++ over.0 i);
    others = stepped;
    owned = λ none run own. inv.owned none run (back none run own);
    made = λ none. same_made none ∙ inv.made none;
    cause = tt;
  }
    where
      same_back : rows ≡ take count over
      same_back = sym same

      no_row : length rows ≡ 0 → rows ≡ []
      no_row is_zero = grind (arith, common_steps)

  -- there was one more
  pub ahead-more : (row : Ahead) (later : List (List Value) → Type 0) (few : ℕ) (is_ready : Type 0) → is_ready → 1 + few ≤ left → IsHashed spec hash row
      → (IsTrue r.honest → (all : List (List Value)) → now all → (rest : List (List Value)) × (all ≡ row.row ∷ rest) × later rest) → AheadSoFar spec hash (rows ++ row ∷ []) gives later a b' most few is_ready makes r0 s
  ahead-more row later few is_ready is fewer hashed next = record {
    came = record {
      rest = λ h all it.
          let rest = inv.came.rest h all it in
          let more = next (inv.others.same_honest ∙ h) rest.0 rest.2 in
          (more.0, rest.1 ∙ ap (λ l. values_of rows ++ l) more.1 ∙ sym (ap (λ l. l ++ more.0) (map-append (λ (x : Ahead). x.row) rows (row ∷ [])) ∙ append_assoc (values_of rows) (row.row ∷ []) more.0), more.2);
      hashed = hashed_more spec hash rows row inv.came.hashed hashed;
      bound = omega (arith, length-append rows (row ∷ []), inv.came.bound, fewer);
      ready = is;
    };
    others = stepped;
    owned = λ none run own. inv.owned none run (back none run own);
    made = λ none. same_made none ∙ inv.made none;
  }

-- all places have a row
pub ahead-full : (spec : Spec) (hash : List ℕ → ℕ) (rows over : List Ahead) (gives later : List (List Value) → Type 0) (owned owns : RunSet) (most left : ℕ) (is_ready : Type 0) (makes : Bool) (old new : Runs) (count : ℕ)
    → take count over ≡ rows → (count ≡ 0 → ⊥) → AheadSoFar spec hash rows gives later owned owns most left is_ready makes old new → ReadAhead spec hash over gives later owned owns most left is_ready makes old new (Ok count)
ahead-full spec hash rows over gives later owned owns most left is_ready makes old new count same some inv = record {
  came = subst (λ l. Came spec hash l gives later most left is_ready old.honest) (sym same) inv.came;
  none = λ no. absurd (some no);
  others = inv.others;
  owned = inv.owned;
  made = inv.made;
  cause = tt;
}

-- ---- the row that was taken

module _ (spec : Spec) (hash : List ℕ → ℕ) (rows : List Ahead) (found : Option ℕ) (place : ℕ) (is : found ≡ Some place)
    (taken : IfSome found (λ (p : ℕ). (ahead : Ahead) × (slice_get rows p ≡ Some ahead) × IsHashed spec hash ahead)) where
  its : (ahead : Ahead) × (slice_get rows place ≡ Some ahead) × IsHashed spec hash ahead
  its = subst (λ o. IfSome o (λ (p : ℕ). (ahead : Ahead) × (slice_get rows p ≡ Some ahead) × IsHashed spec hash ahead)) is taken

  pub taken_there : (ahead : Ahead) × (slice_get rows place ≡ Some ahead)
  taken_there = (its.0, its.1)

  pub taken_hashed : (ahead : Ahead) → slice_get rows place ≡ Some ahead → IsHashed spec hash ahead
  taken_hashed ahead at = subst (IsHashed spec hash) (ap value (sym its.1 ∙ at)) its.2
    where
      value : Option Ahead → Ahead
      value None = ahead
      value (Some a) = a

  pub taken_row : (ahead : Ahead) → slice_get rows place ≡ Some ahead → row_at rows found ≡ Some ahead.row
  taken_row ahead at = ap (row_at rows) is ∙ ap (option_map (λ (a : Ahead). a.row)) at

-- a row that can't be grouped isn't the first of rows that can be
pub not_fit : (spec : Spec) (row : List Value) (rest all : List (List Value)) → all ≡ row ∷ rest → fits_spec spec row ≡ false → IsTrue (all_fit spec all) → ⊥
not_fit spec row rest all is unfit fit = unlike (subst (λ l. IsTrue (all_fit spec l)) is fit)
  where
    unlike : IsTrue (all_fit spec (row ∷ rest)) → ⊥
    unlike fits = grind (arith, common_steps)
