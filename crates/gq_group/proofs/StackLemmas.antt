-- Runs on a stack, and the rows that wait there.
use Rattle.std.proofs.Common.{◌≡◌, ◌≤◌, ◌<◌, ◌+◌, ◌*◌, ◌^◌, ◌++◌, ◌||◌, ℕ, zero, suc, Bool, true, false, List, [], ◌∷◌, length, map, refl, sym, ap, subst, ◌∙◌, arith, inl, inr, length-append, Option, Some, None}
use Rattle.std.specs.Prelude.{IsTrue}
use Rattle.std.specs.List.{flat_map, list_any, AllByRecursion}
use Rattle.std.proofs.lemmas.List.{append-nil}
use Rattle.std.proofs.lemmas.List.Folds.{list_any-append}
use Rattle.std.proofs.lemmas.List.Sums.{sum_by-append, sum_by_push}
use Rattle.std.proofs.lemmas.List.Sorted.{list_any-IsPermutation}
use Rattle.std.proofs.lemmas.Grind.{flat_map-append}
use Rattle.gq_row.specs.declared.value.Value.{Value}
use Rattle.gq_spill.specs.Runs.{Runs}
use Rattle.gq_spill.specs.Writing.{Writing}
use Rattle.gq_group.specs.Access.{RunSet, either, Apart, LeavesOthers, KeepsOwn, GroupCause}
use Rattle.gq_group.specs.Groups.{Spec, Group, groups, answered, is_none, out_of_range}
use Rattle.gq_group.specs.Partitioning.{row_groups}
use Rattle.gq_group.specs.Piles.{Piled}
use Rattle.gq_group.specs.Passes.{AreRows, Fit, Parted, Numbers}
use Rattle.gq_group.specs.RunSources.{only, same_number, equal_number}
use Rattle.gq_group.specs.Partitions.{is_run, among, Separate, Ours, PartitionHolds, AllHeld, HasRun, records_in, waiting, IsFilled, Filled, Gone}
use Rattle.gq_group.specs.Stacks.{OnStack, Waits}
use Rattle.gq_group.specs.declared.grouping.Spent.{Spent}
use Rattle.gq_group.specs.declared.pass.PassStats.{PassStats}
use Rattle.gq_group.specs.declared.refusal.Refusal.{Refusal}
use Rattle.gq_group.specs.declared.refusal.Refusal.TheVariants.{SumRange, Memory, StoreFault, Damaged}
use Rattle.gq_group.specs.declared.partition.Partition.{Partition}
use Rattle.gq_group.proofs.AccessLemmas.{same_run-trans, keeps-apart, or_in, or_from, or_left, or_right}
use Rattle.gq_group.proofs.GoneLemmas.{among-append, separate-front, separate-last, ours-front, leaves-read, or_false, or_assoc}
use Rattle.gq_group.proofs.PassLemmas.{fit-rows}
use Rattle.gq_group.proofs.PileLemmas.{piled-first, piled-step, piled-skip, groups-some}
use Rattle.gq_group.proofs.ReadLemmas.{apart-step, apart-flip, leaves-left}
use Rattle.gq_group.proofs.PartitionLemmas.{not_both, none_there, both_none, held-stays}

or_swap : (x y z : Bool) → ((x || y) || z) ≡ ((x || z) || y)
or_swap true y z = refl
or_swap false true true = refl
or_swap false true false = refl
or_swap false false true = refl
or_swap false false false = refl

or_between : (x y z : Bool) → (x || (y || z)) ≡ ((x || z) || y)
or_between true y z = refl
or_between false true true = refl
or_between false true false = refl
or_between false false true = refl
or_between false false false = refl

-- the same sets, written in another way
leaves-same : (a a' b b' : RunSet) (r s : Runs) → ((run : ℕ) → a' run ≡ a run) → ((run : ℕ) → b' run ≡ b run) → LeavesOthers a b r s → LeavesOthers a' b' r s
leaves-same a a' b b' r s same_a same_b step = record {
  others = λ run e. step.others run (sym (same_b run) ∙ e);
  grows = λ run h. same_b run ∙ step.grows run (sym (same_a run) ∙ h);
  fresh = λ run e h live. step.fresh run (sym (same_a run) ∙ e) (sym (same_b run) ∙ h) live;
  live = step.live;
  same_honest = step.same_honest;
  no_fewer_failures = step.no_fewer_failures;
  no_fewer_made = step.no_fewer_made;
}

-- ---- the runs

-- the runs of the first pass
pub stack-first : (a k a' k' : RunSet) (partitions : List Partition) (r s : Runs) → LeavesOthers (either a k) (either (either a' (among partitions)) k') r s → Ours partitions s → Apart (among partitions) (either a' k')
    → ((run : ℕ) → IsTrue (a run) → IsTrue (a' run)) → ((run : ℕ) → IsTrue (k run) → IsTrue (k' run)) → OnStack (either a k) (either a' k') partitions r s
stack-first a k a' k' partitions r s step ours apart grows more = record {
  ours = ours;
  apart = apart;
  others = leaves-same (either a k) (either a k) (either (either a' (among partitions)) k') (either (either a' k') (among partitions)) r s (λ run. refl) (λ run. or_swap (a' run) (k' run) (among partitions run)) step;
  grows = λ run h. or_from (a' run) (k' run) (elim (or_in (a run) (k run) h) [ inl x ↦ inl (grows run x) | inr x ↦ inr (more run x) ]);
}

among-none : (front : List Partition) (partition : Partition) (run : ℕ) → partition.writer ≡ None → among (front ++ partition ∷ []) run ≡ among front run
among-none front partition run none = among-append front (partition ∷ []) run ∙ ap (λ o. among front run || (is_run o run || false)) none ∙ or_false (among front run)

among-some : (front : List Partition) (partition : Partition) (w : Writing) (run : ℕ) → partition.writer ≡ Some w → among (front ++ partition ∷ []) run ≡ (among front run || only w.mark.id.number run)
among-some front partition w run some = among-append front (partition ∷ []) run ∙ ap (λ o. among front run || (is_run o run || false)) some ∙ ap (λ b. among front run || b) (or_false (only w.mark.id.number run))

-- an empty partition was taken away
pub stack-skip : (a b : RunSet) (stack front : List Partition) (partition : Partition) (r s : Runs) → stack ≡ front ++ partition ∷ [] → partition.writer ≡ None → OnStack a b stack r s → OnStack a b front r s
stack-skip a b stack front partition r s popped none known = let on : OnStack a b (front ++ partition ∷ []) r s = subst (λ st. OnStack a b st r s) popped known in record {
  ours = ours-front front partition s on.ours;
  apart = λ run h. on.apart run (among-none front partition run none ∙ h);
  others = leaves-same a a (either b (among (front ++ partition ∷ []))) (either b (among front)) r s (λ run. refl) (λ run. ap (λ x. b run || x) (sym (among-none front partition run none))) on.others;
  grows = on.grows;
}

separate-append : (xs ys : List Partition) → Separate xs → Separate ys → ((run : ℕ) → IsTrue (among xs run) → among ys run ≡ false) → Separate (xs ++ ys)
separate-append [] ys h i apart = i
separate-append (x ∷ xs) ys h i apart = (
  λ run own. among-append xs ys run ∙ both_none (among xs run) (among ys run) (h.0 run own) (apart run (or_from (is_run x.writer run) (among xs run) (inl own))),
  separate-append xs ys h.1 i (λ run own. apart run (or_from (is_run x.writer run) (among xs run) (inr own))),
)

-- what is apart from a run and a sink, and was there, is as it was once the run was read and discarded
pub turn-keeps : (x mine k partitions k' : RunSet) (r m t : Runs) → LeavesOthers (either mine k) (either (either mine partitions) k') r m → Gone mine m t
    → Apart x (either mine k) → ((run : ℕ) → IsTrue (x run) → IsTrue (r.live run)) → KeepsOwn x r t
turn-keeps x mine k partitions k' r m t step gone apart live =
    let kept : KeepsOwn x r m = keeps-apart (either mine k) (either (either mine partitions) k') x r m step (apart-flip x (either mine k) apart) live in
    record {
      own = λ run h. same_run-trans r m t run step.same_honest (kept.own run h) (gone.others run (or_left (mine run) (k run) (apart run h)));
      same_honest = gone.same_honest ∙ step.same_honest;
    }

-- a run was read and discarded, and those that it gave are on the stack
module _ (a src k k' : RunSet) (front partitions : List Partition) (partition : Partition) (w : Writing) (r0 r m t : Runs)
    (is : partition.writer ≡ Some w) (on : OnStack a (either src k) (front ++ partition ∷ []) r0 r)
    (step : LeavesOthers (either (only w.mark.id.number) k) (either (either (only w.mark.id.number) (among partitions)) k') r m) (gone : Gone (only w.mark.id.number) m t)
    (apart : Apart src k) (live : (run : ℕ) → IsTrue (src run) → IsTrue (r.live run)) where
  abbrev mine : RunSet
  mine = only w.mark.id.number

  in_stack : (run : ℕ) → IsTrue (mine run) → IsTrue (among (front ++ partition ∷ []) run)
  in_stack run h = among-some front partition w run is ∙ or_from (among front run) (mine run) (inr h)

  front_in : (run : ℕ) → IsTrue (among front run) → IsTrue (among (front ++ partition ∷ []) run)
  front_in run h = among-some front partition w run is ∙ or_from (among front run) (mine run) (inl h)

  mine_front : (run : ℕ) → IsTrue (mine run) → among front run ≡ false
  mine_front run h = separate-last front partition on.ours.separate run (ap (λ o. is_run o run) is ∙ h)

  front_apart : Apart (among front) (either mine k)
  front_apart run h = both_none (mine run) (k run) (none_there (mine run) (λ i. not_both (among front run) h (mine_front run i))) (or_right (src run) (k run) (on.apart run (front_in run h)))

  src_apart : Apart src (either mine k)
  src_apart run h = both_none (mine run) (k run) (none_there (mine run) (λ i. not_both (src run) h (or_left (src run) (k run) (on.apart run (in_stack run i))))) (apart run h)

  front_live : (run : ℕ) → IsTrue (among front run) → IsTrue (r.live run)
  front_live run h = on.ours.live run (front_in run h)

  front_kept : KeepsOwn (among front) r t
  front_kept = turn-keeps (among front) mine k (among partitions) k' r m t step gone front_apart front_live

  src_kept : KeepsOwn src r t
  src_kept = turn-keeps src mine k (among partitions) k' r m t step gone src_apart live

  front_later : Apart (among front) (either (either mine (among partitions)) k')
  front_later = apart-step r m (either mine k) (either (either mine (among partitions)) k') (among front) step front_apart front_live

  src_later : Apart src (either (either mine (among partitions)) k')
  src_later = apart-step r m (either mine k) (either (either mine (among partitions)) k') src step src_apart live

  front_held : (parts : List (List (List Value))) → AllHeld r front parts → AllHeld t front parts
  front_held parts h = held-stays r t front parts front_kept (ours-front front partition r on.ours) h

  -- and what the source owns is still apart from the sink
  src_sink : Apart src k'
  src_sink run h = or_right (mine run || among partitions run) (k' run) (src_later run h)

  stack-read : Ours partitions t → Apart (among partitions) (either mine k') → k' w.mark.id.number ≡ false → ((run : ℕ) → IsTrue (k run) → IsTrue (k' run)) → OnStack a (either src k') (front ++ partitions) r0 t
  stack-read ours out still more = record {
    ours = record {
      live = λ run h. elim (or_in (among front run) (among partitions run) (sym (among-append front partitions run) ∙ h)) [ inl x ↦ (front_kept.own run x).live ∙ front_live run x | inr x ↦ ours.live run x ];
      separate = separate-append front partitions (separate-front front (partition ∷ []) on.ours.separate) ours.separate
          (λ run h. or_right (mine run) (among partitions run) (or_left (mine run || among partitions run) (k' run) (front_later run h)));
    };
    apart = λ run h. elim (or_in (among front run) (among partitions run) (sym (among-append front partitions run) ∙ h)) [
      | inl x ↦ both_none (src run) (k' run) (or_left (src run) (k run) (on.apart run (front_in run x))) (or_right (mine run || among partitions run) (k' run) (front_later run x))
      | inr x ↦ both_none (src run) (k' run) (partitions_src run x) (or_right (mine run) (k' run) (out run x))
    ];
    others = leaves-same a a (either (either b' (among front)) (among partitions)) (either b' (among (front ++ partitions))) r0 t (λ run. refl)
        (λ run. ap (λ x. b' run || x) (among-append front partitions run) ∙ sym (or_assoc (b' run) (among front run) (among partitions run)))
        (leaves-read a b b' mine (among front) (among partitions) r0 r m t before turned gone on.grows b_grows mine_out);
    grows = λ run h. b_grows run (on.grows run h);
  }
    where
      b : RunSet
      b = either src k

      b' : RunSet
      b' = either src k'

      b_grows : (run : ℕ) → IsTrue (b run) → IsTrue (b' run)
      b_grows run h = or_from (src run) (k' run) (elim (or_in (src run) (k run) h) [ inl x ↦ inl x | inr x ↦ inr (more run x) ])

      partitions_src : (run : ℕ) → IsTrue (among partitions run) → src run ≡ false
      partitions_src run h = none_there (src run) (λ i. not_both (among partitions run) h (or_right (mine run) (among partitions run) (or_left (mine run || among partitions run) (k' run) (src_later run i))))

      mine_k' : (run : ℕ) → IsTrue (mine run) → k' run ≡ false
      mine_k' run h = ap k' (equal_number run w.mark.id.number h) ∙ still

      mine_out : Apart mine (either (either b' (among front)) (among partitions))
      mine_out run h = both_none (b' run || among front run) (among partitions run)
          (both_none (b' run) (among front run) (both_none (src run) (k' run) (or_left (src run) (k run) (on.apart run (in_stack run h))) (mine_k' run h)) (mine_front run h))
          (none_there (among partitions run) (λ i. not_both (mine run) h (or_left (mine run) (k' run) (out run i))))

      before : LeavesOthers a (either (either b (among front)) mine) r0 r
      before = leaves-same a a (either b (among (front ++ partition ∷ []))) (either (either b (among front)) mine) r0 r (λ run. refl)
          (λ run. or_assoc (b run) (among front run) (mine run) ∙ ap (λ x. b run || x) (sym (among-some front partition w run is))) on.others

      turned : LeavesOthers (either mine b) (either (either mine (among partitions)) b') r m
      turned = leaves-same (either (either mine k) src) (either mine b) (either (either (either mine (among partitions)) k') src) (either (either mine (among partitions)) b') r m
          (λ run. or_between (mine run) (src run) (k run)) (λ run. or_between (mine run || among partitions run) (src run) (k' run))
          (leaves-left (either mine k) (either (either mine (among partitions)) k') src r m step)

-- a stack that was taken apart, where room was made for more first
pub popped-from : (stack behind other : List Partition) → behind ≡ stack → behind ≡ other → stack ≡ other
popped-from stack behind other same is = sym same ∙ is

-- the same stack, written in another way
pub stack-same : (a b : RunSet) (stack other : List Partition) (r s : Runs) → stack ≡ other → OnStack a b stack r s → OnStack a b other r s
stack-same a b stack other r s same on = subst (λ st. OnStack a b st r s) same on

-- a run was read and discarded, and its partitions are on the stack: the stack, what the source owns, and that the earlier partitions are still held
pub record Turned (a src k' : RunSet) (front later : List Partition) (r0 r t : Runs) : Type 0 where
  pub on : OnStack a (either src k') later r0 t
  pub kept : KeepsOwn src r t
  pub both : Apart src k'
  pub held : (parts : List (List (List Value))) → AllHeld r front parts → AllHeld t front parts

pub turned : (a src k k' : RunSet) (stack front partitions later : List Partition) (partition : Partition) (w : Writing) (r0 r m t : Runs) → stack ≡ front ++ partition ∷ [] → later ≡ front ++ partitions → partition.writer ≡ Some w → OnStack a (either src k) stack r0 r
    → LeavesOthers (either (only w.mark.id.number) k) (either (either (only w.mark.id.number) (among partitions)) k') r m → Gone (only w.mark.id.number) m t
    → Apart src k → ((run : ℕ) → IsTrue (src run) → IsTrue (r.live run)) → Ours partitions t → Apart (among partitions) (either (only w.mark.id.number) k') → k' w.mark.id.number ≡ false → ((run : ℕ) → IsTrue (k run) → IsTrue (k' run))
    → Turned a src k' front later r0 r t
turned a src k k' stack front partitions later partition w r0 r m t popped joined is known step gone apart live ours out still more =
    let on : OnStack a (either src k) (front ++ partition ∷ []) r0 r = stack-same a (either src k) stack (front ++ partition ∷ []) r0 r popped known in
    record {
      on = subst (λ st. OnStack a (either src k') st r0 t) (sym joined) (stack-read a src k k' front partitions partition w r0 r m t is on step gone apart live ours out still more);
      kept = src_kept a src k k' front partitions partition w r0 r m t is on step gone apart live;
      both = src_sink a src k k' front partitions partition w r0 r m t is on step gone apart live;
      held = front_held a src k k' front partitions partition w r0 r m t is on step gone apart live;
    }

-- ---- the rows

record LastHeld (r : Runs) (front : List Partition) (partition : Partition) (pile : List (List (List Value))) : Type 0 where
  pub rest : List (List (List Value))
  pub part : List (List Value)
  pub whole : pile ≡ rest ++ part ∷ []
  pub held : AllHeld r front rest
  pub last : PartitionHolds r partition.writer part

last-held : (r : Runs) (front : List Partition) (partition : Partition) (pile : List (List (List Value))) → AllHeld r (front ++ partition ∷ []) pile → LastHeld r front partition pile
last-held r [] partition [] h = absurd h
last-held r [] partition (part ∷ []) h = record { rest = []; part = part; whole = refl; held = tt; last = h.0 }
last-held r [] partition (part ∷ other ∷ pile) h = absurd h.1
last-held r (x ∷ front) partition [] h = absurd h
last-held r (x ∷ front) partition (part ∷ pile) h =
    let it = last-held r front partition pile h.1 in
    record { rest = part ∷ it.rest; part = it.part; whole = ap (λ l. part ∷ l) it.whole; held = (h.0, it.held); last = it.last }

held-append : (r : Runs) (xs ys : List Partition) (ps qs : List (List (List Value))) → AllHeld r xs ps → AllHeld r ys qs → AllHeld r (xs ++ ys) (ps ++ qs)
held-append r [] ys [] qs h i = i
held-append r [] ys (p ∷ ps) qs h i = absurd h
held-append r (x ∷ xs) ys [] qs h i = absurd h
held-append r (x ∷ xs) ys (p ∷ ps) qs h i = (h.0, held-append r xs ys ps qs h.1 i)

each-front : {X : Type 0} (P : X → Type 0) (xs : List X) (x : X) → AllByRecursion P (xs ++ x ∷ []) → AllByRecursion P xs
each-front P [] x h = tt
each-front P (y ∷ xs) x h = (h.0, each-front P xs x h.1)

each-last : {X : Type 0} (P : X → Type 0) (xs : List X) (x : X) → AllByRecursion P (xs ++ x ∷ []) → P x
each-last P [] x h = h.0
each-last P (y ∷ xs) x h = each-last P xs x h.1

each-append : {X : Type 0} (P : X → Type 0) (xs ys : List X) → AllByRecursion P xs → AllByRecursion P ys → AllByRecursion P (xs ++ ys)
each-append P [] ys h i = i
each-append P (x ∷ xs) ys h i = (h.0, each-append P xs ys h.1 i)

-- the first pass
pub waits-first : (spec : Spec) (budget : ℕ) (rows : List (List Value)) (partitions : List Partition) (runs : Runs) (stats : PassStats) (spent : Spent) (holds : List Group → Type 0) → 0 < budget → AreRows spec rows
    → spent ≡ record { rows_read = stats.rows_read; rows_written = stats.rows_written; groups = stats.groups; runs = stats.runs }
    → Parted spec budget rows partitions runs stats holds → Waits spec budget rows stats.columns partitions runs spent holds
waits-first spec budget rows partitions runs stats spent holds some are is p = subst (λ s. Waits spec budget rows stats.columns partitions runs s holds) (sym is) (record {
  out = p.out;
  pile = p.parts;
  pushed = p.pushed;
  held = p.held;
  piled = piled-first spec budget rows p.out p.parts stats.rows_written stats.runs some p.whole p.few p.full p.fewer p.written p.began;
  fit = p.fit stats.columns (fit-rows spec stats.columns rows are p.wide);
  read = p.read;
  sent = p.sent;
})

-- the same stack, written in another way
pub waits-same : (spec : Spec) (budget : ℕ) (rows : List (List Value)) (columns : ℕ) (stack other : List Partition) (runs : Runs) (spent : Spent) (holds : List Group → Type 0)
    → stack ≡ other → Waits spec budget rows columns stack runs spent holds → Waits spec budget rows columns other runs spent holds
waits-same spec budget rows columns stack other runs spent holds same waits = subst (λ st. Waits spec budget rows columns st runs spent holds) same waits

-- an empty partition was taken away
pub waits-skip : (spec : Spec) (budget : ℕ) (rows : List (List Value)) (columns : ℕ) (stack front : List Partition) (partition : Partition) (runs : Runs) (spent : Spent) (holds : List Group → Type 0)
    → stack ≡ front ++ partition ∷ [] → partition.writer ≡ None → Waits spec budget rows columns stack runs spent holds → Waits spec budget rows columns front runs spent holds
waits-skip spec budget rows columns stack front partition runs spent holds popped none known =
    let w = waits-same spec budget rows columns stack (front ++ partition ∷ []) runs spent holds popped known in
    let it = last-held runs front partition w.pile w.held in
    let empty : it.part ≡ [] = subst (λ o. PartitionHolds runs o it.part) none it.last in
    let whole : w.pile ≡ it.rest ++ [] ∷ [] = it.whole ∙ ap (λ l. it.rest ++ l ∷ []) empty in
    record {
      out = w.out;
      pile = it.rest;
      pushed = w.pushed;
      held = it.held;
      piled = piled-skip spec budget rows w.out it.rest spent.rows_written spent.runs (subst (λ l. Piled spec budget rows w.out l spent.rows_written spent.runs) whole w.piled);
      fit = each-front (Fit spec columns) it.rest it.part (subst (AllByRecursion (Fit spec columns)) it.whole w.fit);
      read = w.read;
      sent = w.sent;
    }

-- what is known of the run on top
pub record OnTop (spec : Spec) (columns : ℕ) (w : Writing) (runs : Runs) : Type 0 where
  pub part : List (List Value)
  pub has : HasRun w runs part
  pub fit : Fit spec columns part

pub on_top : (spec : Spec) (budget : ℕ) (rows : List (List Value)) (columns : ℕ) (stack front : List Partition) (partition : Partition) (w : Writing) (runs : Runs) (spent : Spent) (holds : List Group → Type 0)
    → stack ≡ front ++ partition ∷ [] → partition.writer ≡ Some w → Waits spec budget rows columns stack runs spent holds → OnTop spec columns w runs
on_top spec budget rows columns stack front partition w runs spent holds popped is known =
    let waits = waits-same spec budget rows columns stack (front ++ partition ∷ []) runs spent holds popped known in
    let it = last-held runs front partition waits.pile waits.held in
    record {
      part = it.part;
      has = subst (λ o. PartitionHolds runs o it.part) is it.last;
      fit = each-last (Fit spec columns) it.rest it.part (subst (AllByRecursion (Fit spec columns)) it.whole waits.fit);
    }

-- it was read
pub waits-read : (spec : Spec) (budget : ℕ) (rows : List (List Value)) (columns : ℕ) (stack front partitions later : List Partition) (partition : Partition) (w : Writing) (r t : Runs) (spent next : Spent) (stats : PassStats) (holds more now : List Group → Type 0)
    → 0 < budget → stack ≡ front ++ partition ∷ [] → later ≡ front ++ partitions → partition.writer ≡ Some w
    → Waits spec budget rows columns stack r spent holds
    → ((part : List (List Value)) → HasRun w r part → Fit spec columns part → Parted spec budget part partitions t stats more)
    → ((parts : List (List (List Value))) → AllHeld r front parts → AllHeld t front parts)
    → ((out add : List Group) → holds out → more add → now (out ++ add))
    → next ≡ record { rows_read = spent.rows_read; rows_written = spent.rows_written + stats.rows_written; groups = spent.groups + stats.groups; runs = spent.runs + stats.runs }
    → Waits spec budget rows columns later t next now
waits-read spec budget rows columns stack front partitions later partition w r t spent next stats holds more now some popped appended is known reads stays joined same =
    let waits = waits-same spec budget rows columns stack (front ++ partition ∷ []) r spent holds popped known in
    let it = last-held r front partition waits.pile waits.held in
    let has : HasRun w r it.part = subst (λ o. PartitionHolds r o it.part) is it.last in
    let fits : AllByRecursion (Fit spec columns) (it.rest ++ it.part ∷ []) = subst (AllByRecursion (Fit spec columns)) it.whole waits.fit in
    let fit : Fit spec columns it.part = each-last (Fit spec columns) it.rest it.part fits in
    let p = reads it.part has fit in
    subst (λ st. Waits spec budget rows columns st t next now) (sym appended) (subst (λ s. Waits spec budget rows columns (front ++ partitions) t s now) (sym same) (record {
      out = waits.out ++ p.out;
      pile = it.rest ++ p.parts;
      pushed = joined waits.out p.out waits.pushed p.pushed;
      held = held-append t front partitions it.rest p.parts (stays it.rest it.held) p.held;
      piled = piled-step spec budget rows waits.out p.out it.rest p.parts it.part spent.rows_written spent.runs stats.rows_written stats.runs some
          (subst (λ l. Piled spec budget rows waits.out l spent.rows_written spent.runs) it.whole waits.piled) has.some p.whole p.few p.full p.fewer p.written p.began;
      fit = each-append (Fit spec columns) it.rest p.parts (each-front (Fit spec columns) it.rest it.part fits) (p.fit columns fit);
      read = waits.read;
      sent = omega (arith, waits.sent, p.sent, length-append waits.out p.out);
    }))

or_true : (b : Bool) → (b || true) ≡ true
or_true true = refl
or_true false = refl

-- a sum that is out of range among its rows is so among all
pub waits-range : (spec : Spec) (budget : ℕ) (rows : List (List Value)) (columns : ℕ) (stack front : List Partition) (partition : Partition) (w : Writing) (r : Runs) (spent : Spent) (holds : List Group → Type 0)
    → stack ≡ front ++ partition ∷ [] → partition.writer ≡ Some w → Waits spec budget rows columns stack r spent holds
    → ((part : List (List Value)) → HasRun w r part → Fit spec columns part → out_of_range spec part ≡ true) → out_of_range spec rows ≡ true
waits-range spec budget rows columns stack front partition w r spent holds popped is known far =
    let waits = waits-same spec budget rows columns stack (front ++ partition ∷ []) r spent holds popped known in
    let it = last-held r front partition waits.pile waits.held in
    let has : HasRun w r it.part = subst (λ o. PartitionHolds r o it.part) is it.last in
    let fit : Fit spec columns it.part = each-last (Fit spec columns) it.rest it.part (subst (AllByRecursion (Fit spec columns)) it.whole waits.fit) in
    let q : (List Value × List (Option Value)) → Bool = λ g. list_any is_none g.1 in
    let here : list_any q (row_groups spec it.part) ≡ true = ap (list_any q) (sym (groups-some spec it.part has.some)) ∙ far it.part has fit in
    let pile : list_any q (flat_map (row_groups spec) waits.pile) ≡ true
    = ap (λ l. list_any q (flat_map (row_groups spec) l)) it.whole
    ∙ ap (list_any q) (flat_map-append (row_groups spec) it.rest (it.part ∷ []) ∙ ap (λ l. flat_map (row_groups spec) it.rest ++ l) (append-nil (row_groups spec it.part)))
    ∙ list_any-append q (flat_map (row_groups spec) it.rest) (row_groups spec it.part)
    ∙ ap (λ b. list_any q (flat_map (row_groups spec) it.rest) || b) here
    ∙ or_true (list_any q (flat_map (row_groups spec) it.rest)) in
    list_any-IsPermutation q (groups spec rows) (map answered waits.out ++ flat_map (row_groups spec) waits.pile) waits.piled.whole
    ∙ list_any-append q (map answered waits.out) (flat_map (row_groups spec) waits.pile)
    ∙ ap (λ b. list_any q (map answered waits.out) || b) pile
    ∙ or_true (list_any q (map answered waits.out))

-- ---- the numbers

abbrev pub work_left : List Partition → ℕ
work_left partitions = 17 * waiting partitions + length partitions

pub waiting-skip : (front : List Partition) (partition : Partition) → partition.writer ≡ None → waiting (front ++ partition ∷ []) ≡ waiting front
waiting-skip front partition none = sum_by_push (λ s. records_in s.writer) front partition ∙ ap (λ o. waiting front + records_in o) none ∙ omega arith

-- what waits after a run was read, and what was written in reading it
pub record Shrinks (stack later : List Partition) (stats : PassStats) : Type 0 where
  pub waits : waiting later + 1 ≤ waiting stack
  pub wrote : stats.rows_written ≤ waiting stack
  pub lengths : length later ≤ length stack + 15

fewer : (waits written read records : ℕ) → waits ≡ written → (0 < written → written < read) → read ≤ records → 0 < records → waits < records
fewer waits zero read records is less within some = omega arith
fewer waits (suc written) read records is less within some = let l : suc written < read = less (omega arith) in omega arith

pub top-filled : (front : List Partition) (partition : Partition) (w : Writing) → partition.writer ≡ Some w → Filled (front ++ partition ∷ []) → 0 < w.mark.records
top-filled front partition w is filled = subst IsFilled is (each-last (λ (s : Partition). IsFilled s.writer) front partition filled)

pub top-waiting : (front : List Partition) (partition : Partition) (w : Writing) → partition.writer ≡ Some w → waiting (front ++ partition ∷ []) ≡ waiting front + w.mark.records
top-waiting front partition w is = sum_by_push (λ s. records_in s.writer) front partition ∙ ap (λ o. waiting front + records_in o) is

pub shrinks : (budget : ℕ) (stack front partitions later : List Partition) (partition : Partition) (w : Writing) (stats : PassStats) → stack ≡ front ++ partition ∷ [] → later ≡ front ++ partitions → partition.writer ≡ Some w → Filled stack → length partitions ≤ 16
    → Numbers budget w.mark.records partitions stats → Shrinks stack later stats
shrinks budget stack front partitions later partition w stats popped joined is filled few n =
    let less : waiting partitions < w.mark.records = fewer (waiting partitions) stats.rows_written stats.rows_read w.mark.records n.waits n.fewer n.read (top-filled front partition w is (subst Filled popped filled)) in
    let before = ap waiting popped ∙ top-waiting front partition w is in
    let after = ap waiting joined ∙ sum_by-append (λ (s : Partition). records_in s.writer) front partitions in
    record {
      waits = omega (arith, less, before, after);
      wrote = omega (arith, less, before, n.waits);
      lengths = omega (arith, few, ap length joined ∙ length-append front partitions, ap length popped ∙ length-append front (partition ∷ []));
    }

pub work-read : (stack later : List Partition) (stats : PassStats) → Shrinks stack later stats → work_left later < work_left stack
work-read stack later stats s = omega (arith, s.waits, s.lengths)

pub work-skip : (stack front : List Partition) (partition : Partition) → stack ≡ front ++ partition ∷ [] → partition.writer ≡ None → work_left front < work_left stack
work-skip stack front partition popped none = omega (arith, ap waiting popped ∙ waiting-skip front partition none, ap length popped ∙ length-append front (partition ∷ []))

-- the numbers of what was done, with what waits
pub record Counts (stack : List Partition) (written groups runs : ℕ) : Type 0 where
  pub few : waiting stack ≤ 2 ^ 31
  pub few_rows : written + 2 ^ 31 * waiting stack ≤ 2 ^ 31 + 2 ^ 62
  pub few_groups : groups + 2 ^ 20 * waiting stack ≤ 2 ^ 20 + 2 ^ 51
  pub few_runs : runs ≤ written

-- the numbers of the first pass
first-waiting : (budget bound : ℕ) (partitions : List Partition) (stats : PassStats) → Numbers budget bound partitions stats → bound ≤ 2 ^ 31 → waiting partitions ≤ 2 ^ 31
first-waiting budget bound partitions stats n few = at stats.rows_written refl
  where
    at : (written : ℕ) → stats.rows_written ≡ written → waiting partitions ≤ 2 ^ 31
    at zero e = omega (arith, n.waits, e)
    at (suc written) e = let less : stats.rows_written < stats.rows_read = n.fewer (omega (arith, e)) in omega (arith, less, n.read, n.waits, few)

pub counts-first : (budget bound : ℕ) (partitions : List Partition) (stats : PassStats) → Numbers budget bound partitions stats → bound ≤ 2 ^ 31 → budget ≤ 1048576 → Counts partitions stats.rows_written stats.groups stats.runs
counts-first budget bound partitions stats n few small =
    let waits = first-waiting budget bound partitions stats n few in
    record {
      few = waits;
      few_rows = omega (arith, waits, n.waits);
      few_groups = omega (arith, waits, n.few, small);
      few_runs = n.runs;
    }

pub counts-skip : (stack front : List Partition) (partition : Partition) (written groups runs : ℕ) → stack ≡ front ++ partition ∷ [] → partition.writer ≡ None → Counts stack written groups runs → Counts front written groups runs
counts-skip stack front partition written groups runs popped none c = record {
  few = omega (arith, c.few, same);
  few_rows = omega (arith, c.few_rows, same);
  few_groups = omega (arith, c.few_groups, same);
  few_runs = c.few_runs;
}
  where
    same : waiting stack ≡ waiting front
    same = ap waiting popped ∙ waiting-skip front partition none

pub counts-read : (budget bound : ℕ) (stack later partitions : List Partition) (written groups runs : ℕ) (stats : PassStats) → budget ≤ 1048576 → Shrinks stack later stats → Numbers budget bound partitions stats → Counts stack written groups runs
    → Counts later (written + stats.rows_written) (groups + stats.groups) (runs + stats.runs)
counts-read budget bound stack later partitions written groups runs stats small s n c = record {
  few = omega (arith, c.few, s.waits);
  few_rows = omega (arith, c.few, c.few_rows, s.waits, s.wrote);
  few_groups = omega (arith, c.few_groups, s.waits, n.few, small);
  few_runs = omega (arith, c.few_runs, n.runs);
}

-- what is read next counts among what waits, so the numbers stay far below what there is room for
pub top-waits : (stack front : List Partition) (partition : Partition) (w : Writing) → stack ≡ front ++ partition ∷ [] → partition.writer ≡ Some w → w.mark.records ≤ waiting stack
top-waits stack front partition w popped is = omega (arith, ap waiting popped, top-waiting front partition w is)

pub counts-room : (budget bound : ℕ) (stack partitions : List Partition) (written groups runs : ℕ) (stats : PassStats) → budget ≤ 1048576 → bound ≤ waiting stack → Numbers budget bound partitions stats → Counts stack written groups runs
    → (written + stats.rows_written ≤ 2 ^ 63) × (groups + stats.groups ≤ 2 ^ 63) × (runs + stats.runs ≤ 2 ^ 63)
counts-room budget bound stack partitions written groups runs stats small top n c =
    let wrote : stats.rows_written ≤ 2 ^ 31 = at stats.rows_written refl in
    (omega (arith, c.few_rows, wrote), omega (arith, c.few_groups, n.few, small), omega (arith, c.few_rows, c.few_runs, wrote, n.runs))
  where
    at : (k : ℕ) → stats.rows_written ≡ k → stats.rows_written ≤ 2 ^ 31
    at zero e = omega (arith, e)
    at (suc k) e = let less : stats.rows_written < stats.rows_read = n.fewer (omega (arith, e)) in omega (arith, less, n.read, top, c.few)

-- what was made before and since
pub made-more : (m n r k b : ℕ) → m ≡ b + r → n ≡ m + k → n ≡ b + (r + k)
made-more m n r k b had more = omega (arith, had, more)

pub filled-read : (stack front partitions later : List Partition) (partition : Partition) → stack ≡ front ++ partition ∷ [] → later ≡ front ++ partitions → Filled stack → Filled partitions → Filled later
filled-read stack front partitions later partition popped joined h i =
    subst Filled (sym joined) (each-append (λ (s : Partition). IsFilled s.writer) front partitions (each-front (λ (s : Partition). IsFilled s.writer) front partition (subst Filled popped h)) i)

pub filled-skip : (stack front : List Partition) (partition : Partition) → stack ≡ front ++ partition ∷ [] → Filled stack → Filled front
filled-skip stack front partition popped h = each-front (λ (s : Partition). IsFilled s.writer) front partition (subst Filled popped h)

-- ---- all is discarded

pub gone-kept : (x mine : RunSet) (r s : Runs) → Gone mine r s → Apart mine x → KeepsOwn x r s
gone-kept x mine r s gone apart = record {
  own = λ run h. gone.others run (none_there (mine run) (λ i. not_both (x run) h (apart run i)));
  same_honest = gone.same_honest;
}

pub gone-cause : (e : Refusal) (mine : RunSet) (r s t : Runs) → Gone mine s t → GroupCause e r s → GroupCause e r t
gone-cause SumRange mine r s t gone h = tt
gone-cause Memory mine r s t gone h = tt
gone-cause StoreFault mine r s t gone h = omega (arith, gone.same_failures, h)
gone-cause Damaged mine r s t gone h = h

-- ---- the end

no_partitions : (r : Runs) (pile : List (List (List Value))) → AllHeld r [] pile → pile ≡ []
no_partitions r [] h = refl
no_partitions r (part ∷ pile) h = absurd h

pub waits-end : (spec : Spec) (budget : ℕ) (rows : List (List Value)) (columns : ℕ) (runs : Runs) (spent : Spent) (holds : List Group → Type 0)
    → (w : Waits spec budget rows columns [] runs spent holds) → Piled spec budget rows w.out [] spent.rows_written spent.runs
waits-end spec budget rows columns runs spent holds w = subst (λ l. Piled spec budget rows w.out l spent.rows_written spent.runs) (no_partitions runs w.pile w.held) w.piled

-- ---- the run on top of the stack

top-in : (stack front : List Partition) (partition : Partition) (w : Writing) → stack ≡ front ++ partition ∷ [] → partition.writer ≡ Some w → IsTrue (among stack w.mark.id.number)
top-in stack front partition w popped is =
    let run = w.mark.id.number in
    ap (λ st. among st run) popped ∙ among-some front partition w run is ∙ or_from (among front run) (only run run) (inr (same_number run))

pub top-live : (stack front : List Partition) (partition : Partition) (w : Writing) (r : Runs) → stack ≡ front ++ partition ∷ [] → partition.writer ≡ Some w → Ours stack r → IsTrue (r.live w.mark.id.number)
top-live stack front partition w r popped is ours = ours.live w.mark.id.number (top-in stack front partition w popped is)

pub top-apart : (stack front : List Partition) (partition : Partition) (w : Writing) (src k : RunSet) → stack ≡ front ++ partition ∷ [] → partition.writer ≡ Some w → Apart (among stack) (either src k) → k w.mark.id.number ≡ false
top-apart stack front partition w src k popped is apart = or_right (src w.mark.id.number) (k w.mark.id.number) (apart w.mark.id.number (top-in stack front partition w popped is))

pub top-few : (stack front : List Partition) (partition : Partition) (w : Writing) → stack ≡ front ++ partition ∷ [] → partition.writer ≡ Some w → waiting stack ≤ 2 ^ 31 → w.mark.records ≤ 2 ^ 31
top-few stack front partition w popped is few = omega (arith, few, ap waiting popped, top-waiting front partition w is)
