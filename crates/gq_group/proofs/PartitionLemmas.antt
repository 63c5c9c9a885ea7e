-- One partition of several is written to.
use Rattle.std.proofs.Common.{◌≡◌, ◌<◌, ◌+◌, ◌++◌, ℕ, zero, suc, Bool, true, false, List, [], ◌∷◌, length, refl, sym, ◌∙◌, arith, ◌||◌, ◌⊎◌, inl, inr, get_or, set, Option, Some, None, ap, length-append}
use Rattle.std.specs.Prelude.{IsTrue}
use Rattle.std.specs.List.{sum_by}
use Rattle.std.proofs.lemmas.List.Sums.{sum_by-cons}
use Rattle.gq_row.specs.declared.value.Value.{Value}
use Rattle.gq_spill.specs.Runs.{Runs}
use Rattle.gq_spill.specs.Writing.{Writing, Wrote, with_row}
use Rattle.gq_group.specs.Access.{RunSet, Apart, LeavesOthers, KeepsOwn}
use Rattle.gq_group.specs.Partitioning.{one_if_some}
use Rattle.gq_group.specs.RunSources.{wrote_stays, same_number}
use Rattle.gq_group.specs.Partitions.{is_run, among, Separate, Ours, PartitionHolds, AllHeld, push_at, HasRun}
use Rattle.gq_group.specs.declared.partition.Partition.{Partition}
use Rattle.gq_group.proofs.AccessLemmas.{keeps-apart, or_in, or_from}

-- what others do doesn't matter to a run
pub partition-stays : (r s : Runs) (held : Option Writing) (rows : List (List Value)) → KeepsOwn (is_run held) r s → ((run : ℕ) → IsTrue (is_run held run) → IsTrue (r.live run)) → PartitionHolds r held rows → PartitionHolds s held rows
partition-stays r s None rows kept live h = h
partition-stays r s (Some w) rows kept live h = record {
  some = h.some;
  count = h.count;
  going = h.going;
  wrote = λ honest.
      let before : IsTrue r.honest = sym kept.same_honest ∙ honest in
      wrote_stays w r s kept (live w.mark.id.number (same_number w.mark.id.number)) before rows (h.wrote before);
}

in_first : (b c : Bool) → IsTrue b → IsTrue (b || c)
in_first b c h = or_from b c (inl h)

in_rest : (b c : Bool) → IsTrue c → IsTrue (b || c)
in_rest b c h = or_from b c (inr h)

pub not_both : (b : Bool) → IsTrue b → b ≡ false → ⊥
not_both b h e = let bad : true ≡ false = sym h ∙ e in cc

pub none_there : (b : Bool) → (IsTrue b → ⊥) → b ≡ false
none_there true h = absurd (h refl)
none_there false h = refl

pub both_none : (b c : Bool) → b ≡ false → c ≡ false → (b || c) ≡ false
both_none true c h i = h
both_none false c h i = i

pub keeps-less : (a b : RunSet) (r s : Runs) → ((run : ℕ) → IsTrue (b run) → IsTrue (a run)) → KeepsOwn a r s → KeepsOwn b r s
keeps-less a b r s less kept = record { own = λ run h. kept.own run (less run h); same_honest = kept.same_honest }

pub ours-rest : (s : Partition) (partitions : List Partition) (r : Runs) → Ours (s ∷ partitions) r → Ours partitions r
ours-rest s partitions r ours = record { live = λ run h. ours.live run (in_rest (is_run s.writer run) (among partitions run) h); separate = ours.separate.1 }

pub held-stays : (r s : Runs) (partitions : List Partition) (parts : List (List (List Value))) → KeepsOwn (among partitions) r s → Ours partitions r → AllHeld r partitions parts → AllHeld s partitions parts
held-stays r s [] [] kept ours h = tt
held-stays r s [] (part ∷ parts) kept ours h = absurd h
held-stays r s (x ∷ partitions) [] kept ours h = absurd h
held-stays r s (x ∷ partitions) (part ∷ parts) kept ours h = (
  partition-stays r s x.writer part (keeps-less (among (x ∷ partitions)) (is_run x.writer) r s (λ run i. in_first (is_run x.writer run) (among partitions run) i) kept) (λ run i. ours.live run (in_first (is_run x.writer run) (among partitions run) i)) h.0,
  held-stays r s partitions parts (keeps-less (among (x ∷ partitions)) (among partitions) r s (λ run i. in_rest (is_run x.writer run) (among partitions run) i) kept) (ours-rest x partitions r ours) h.1,
)

pub at-among : (partitions : List Partition) (i : ℕ) (x : Partition) (run : ℕ) → i < length partitions → IsTrue (is_run (get_or partitions i x).writer run) → IsTrue (among partitions run)
at-among [] i x run within h = absurd (omega arith)
at-among (y ∷ partitions) zero x run within h = in_first (is_run y.writer run) (among partitions run) h
at-among (y ∷ partitions) (suc i) x run within h = in_rest (is_run y.writer run) (among partitions run) (at-among partitions i x run (omega arith) h)

pub held-set : (r s : Runs) (partitions : List Partition) (i : ℕ) (x : Partition) (parts : List (List (List Value))) (row : List Value)
    → i < length partitions
    → ((rows : List (List Value)) → PartitionHolds r (get_or partitions i x).writer rows → PartitionHolds s x.writer (rows ++ row ∷ []))
    → LeavesOthers (is_run (get_or partitions i x).writer) (is_run x.writer) r s
    → Ours partitions r
    → AllHeld r partitions parts → AllHeld s (set partitions i x) (push_at i row parts)
held-set r s [] i x parts row within next step ours h = absurd (omega arith)
held-set r s (y ∷ partitions) i x [] row within next step ours h = absurd h
held-set r s (y ∷ partitions) zero x (part ∷ parts) row within next step ours h = (
  next part h.0,
  held-stays r s partitions parts (keeps-apart (is_run y.writer) (is_run x.writer) (among partitions) r s step ours.separate.0 (ours-rest y partitions r ours).live) (ours-rest y partitions r ours) h.1,
)
held-set r s (y ∷ partitions) (suc i) x (part ∷ parts) row within next step ours h =
    let mine : (run : ℕ) → IsTrue (is_run y.writer run) → IsTrue (r.live run) = λ run o. ours.live run (in_first (is_run y.writer run) (among partitions run) o) in
    let apart : Apart (is_run (get_or partitions i x).writer) (is_run y.writer)
    = λ run a. none_there (is_run y.writer run) (λ o. not_both (among partitions run) (at-among partitions i x run (omega arith) a) (ours.separate.0 run o)) in (
      partition-stays r s y.writer part (keeps-apart (is_run (get_or partitions i x).writer) (is_run x.writer) (is_run y.writer) r s step apart mine) mine h.0,
      held-set r s partitions i x parts row (omega arith) next step (ours-rest y partitions r ours) h.1,
    )

-- a run of the new partitions is in the one that was written to, or was there
pub among-set : (partitions : List Partition) (i : ℕ) (x : Partition) (run : ℕ) → IsTrue (among (set partitions i x) run) → IsTrue (is_run x.writer run) ⊎ IsTrue (among partitions run)
among-set [] i x run h = inr h
among-set (y ∷ partitions) zero x run h = elim (or_in (is_run x.writer run) (among partitions run) h) [ inl a ↦ inl a | inr b ↦ inr (in_rest (is_run y.writer run) (among partitions run) b) ]
among-set (y ∷ partitions) (suc i) x run h = elim (or_in (is_run y.writer run) (among (set partitions i x) run) h) [
  | inl a ↦ inr (in_first (is_run y.writer run) (among partitions run) a)
  | inr b ↦ elim (among-set partitions i x run b) [ inl a ↦ inl a | inr d ↦ inr (in_rest (is_run y.writer run) (among partitions run) d) ]
]

pub set-among : (partitions : List Partition) (i : ℕ) (x : Partition) (run : ℕ) → i < length partitions → IsTrue (is_run x.writer run) → IsTrue (among (set partitions i x) run)
set-among [] i x run within h = absurd (omega arith)
set-among (y ∷ partitions) zero x run within h = in_first (is_run x.writer run) (among partitions run) h
set-among (y ∷ partitions) (suc i) x run within h = in_rest (is_run y.writer run) (among (set partitions i x) run) (set-among partitions i x run (omega arith) h)

pub among-grows : (partitions : List Partition) (i : ℕ) (x : Partition) (run : ℕ) → i < length partitions → (IsTrue (is_run (get_or partitions i x).writer run) → IsTrue (is_run x.writer run)) → IsTrue (among partitions run) → IsTrue (among (set partitions i x) run)
among-grows [] i x run within grows h = absurd (omega arith)
among-grows (y ∷ partitions) zero x run within grows h = or_from (is_run x.writer run) (among partitions run) (elim (or_in (is_run y.writer run) (among partitions run) h) [ inl a ↦ inl (grows a) | inr b ↦ inr b ])
among-grows (y ∷ partitions) (suc i) x run within grows h = or_from (is_run y.writer run) (among (set partitions i x) run) (elim (or_in (is_run y.writer run) (among partitions run) h) [ inl a ↦ inl a | inr b ↦ inr (among-grows partitions i x run (omega arith) grows b) ])

-- a run that is elsewhere isn't in the partition that is written to
elsewhere : (r s : Runs) (a b k : RunSet) → LeavesOthers a b r s → ((run : ℕ) → IsTrue (k run) → a run ≡ false) → ((run : ℕ) → IsTrue (k run) → IsTrue (r.live run)) → (run : ℕ) → IsTrue (b run) → k run ≡ false
elsewhere r s a b k step apart live run new = none_there (k run) (λ h. step.fresh run (apart run h) new (live run h))

pub separate-set : (r s : Runs) (partitions : List Partition) (i : ℕ) (x : Partition) → i < length partitions → LeavesOthers (is_run (get_or partitions i x).writer) (is_run x.writer) r s → Ours partitions r → Separate (set partitions i x)
separate-set r s [] i x within step ours = absurd (omega arith)
separate-set r s (y ∷ partitions) zero x within step ours = (
  λ run h. elsewhere r s (is_run y.writer) (is_run x.writer) (among partitions) step
      (λ other o. none_there (is_run y.writer other) (λ m. not_both (among partitions other) o (ours.separate.0 other m)))
      (λ other o. ours.live other (in_rest (is_run y.writer other) (among partitions other) o)) run h,
  ours.separate.1,
)
separate-set r s (y ∷ partitions) (suc i) x within step ours =
    let less : i < length partitions = omega arith in (
      λ run h. none_there (among (set partitions i x) run) (λ m. elim (among-set partitions i x run m) [
        | inl a ↦ not_both (is_run y.writer run) h (elsewhere r s (is_run (get_or partitions i x).writer) (is_run x.writer) (is_run y.writer) step
            (λ other o. none_there (is_run (get_or partitions i x).writer other) (λ at. not_both (among partitions other) (at-among partitions i x other less at) (ours.separate.0 other o)))
            (λ other o. ours.live other (in_first (is_run y.writer other) (among partitions other) o)) run a)
        | inr b ↦ not_both (among partitions run) b (ours.separate.0 run h)
      ]),
      separate-set r s partitions i x less step (ours-rest y partitions r ours),
    )

pub ours-set : (r s : Runs) (partitions : List Partition) (i : ℕ) (x : Partition) → i < length partitions → LeavesOthers (is_run (get_or partitions i x).writer) (is_run x.writer) r s
    → ((run : ℕ) → IsTrue (is_run x.writer run) → IsTrue (s.live run)) → Ours partitions r → Ours (set partitions i x) s
ours-set r s partitions i x within step live ours = record {
  live = λ run h. elim (among-set partitions i x run h) [ inl a ↦ live run a | inr b ↦ step.live run (ours.live run b) ];
  separate = separate-set r s partitions i x within step ours;
}

pub others-set : (r s : Runs) (partitions : List Partition) (i : ℕ) (x : Partition) → i < length partitions → LeavesOthers (is_run (get_or partitions i x).writer) (is_run x.writer) r s
    → LeavesOthers (among partitions) (among (set partitions i x)) r s
others-set r s partitions i x within step = record {
  others = λ run out. step.others run (none_there (is_run x.writer run) (λ h. not_both (among (set partitions i x) run) (set-among partitions i x run within h) out));
  grows = λ run h. among-grows partitions i x run within (step.grows run) h;
  fresh = λ run out h live. elim (among-set partitions i x run h) [
    | inl a ↦ step.fresh run (none_there (is_run (get_or partitions i x).writer run) (λ m. not_both (among partitions run) (at-among partitions i x run within m) out)) a live
    | inr b ↦ not_both (among partitions run) b out
  ];
  live = step.live;
  same_honest = step.same_honest;
  no_fewer_failures = step.no_fewer_failures;
  no_fewer_made = step.no_fewer_made;
}

one_push : (part : List (List Value)) (row : List Value) → one_if_some (part ++ row ∷ []) ≡ 1
one_push [] row = refl
one_push (x ∷ part) row = refl

-- a run was begun where there was none
pub began-set : (r : Runs) (partitions : List Partition) (i : ℕ) (x : Partition) (parts : List (List (List Value))) (row : List Value) (began : ℕ)
    → i < length partitions
    → ((rows : List (List Value)) → PartitionHolds r (get_or partitions i x).writer rows → one_if_some rows + began ≡ 1)
    → AllHeld r partitions parts → sum_by one_if_some (push_at i row parts) ≡ sum_by one_if_some parts + began
began-set r [] i x parts row began within one h = absurd (omega arith)
began-set r (y ∷ partitions) i x [] row began within one h = absurd h
began-set r (y ∷ partitions) zero x (part ∷ parts) row began within one h =
    let here : one_if_some part + began ≡ 1 = one part h.0 in
    omega (arith, sum_by-cons one_if_some part parts, sum_by-cons one_if_some (part ++ row ∷ []) parts, one_push part row)
began-set r (y ∷ partitions) (suc i) x (part ∷ parts) row began within one h =
    omega (arith, sum_by-cons one_if_some part parts, sum_by-cons one_if_some part (push_at i row parts), began-set r partitions i x parts row began (omega arith) one h.1)

-- what one partition holds
pub held-one : (r : Runs) (partitions : List Partition) (i : ℕ) (x : Partition) (parts : List (List (List Value))) → i < length partitions → AllHeld r partitions parts → (rows : List (List Value)) × PartitionHolds r (get_or partitions i x).writer rows
held-one r [] i x parts within h = absurd (omega arith)
held-one r (y ∷ partitions) i x [] within h = absurd h
held-one r (y ∷ partitions) zero x (part ∷ parts) within h = (part, h.0)
held-one r (y ∷ partitions) (suc i) x (part ∷ parts) within h = held-one r partitions i x parts (omega arith) h.1

-- one row more was written to a run
pub more-held : (w new : Writing) (r s : Runs) (rows : List (List Value)) (row : List Value) → w.mark.records ≡ length rows → w.refused ≡ None → s.honest ≡ r.honest → new ≡ with_row w row
    → (IsTrue r.honest → Wrote w r rows) → (IsTrue r.honest → Wrote w r rows → Wrote new s (rows ++ row ∷ [])) → HasRun new s (rows ++ row ∷ [])
more-held w new r s rows row count going honest is had write =
    let longer = length-append rows (row ∷ []) in
    let one : new.mark.records ≡ w.mark.records + 1 = ap (λ (x : Writing). x.mark.records) is in
    record {
      some = omega (arith, longer);
      count = omega (arith, longer, one, count);
      going = ap (λ (x : Writing). x.refused) is ∙ going;
      wrote = λ h. let before : IsTrue r.honest = sym honest ∙ h in write before (had before);
    }
