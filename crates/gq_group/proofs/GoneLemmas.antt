-- Runs are discarded.
use Rattle.std.proofs.Common.{◌≡◌, ◌++◌, ◌==◌, ◌||◌, ℕ, Bool, true, false, List, [], ◌∷◌, refl, sym, ap, subst, ◌∙◌, arith, inl, inr, append_assoc}
use Rattle.std.specs.Prelude.{IsTrue}
use Rattle.std.proofs.lemmas.List.{append-nil}
use Rattle.gq_spill.specs.Runs.{Runs, SameRun, Discards}
use Rattle.gq_group.specs.Access.{RunSet, either, Apart, LeavesOthers, KeepsOwn}
use Rattle.gq_group.specs.RunSources.{only, same_number, equal_number}
use Rattle.gq_group.specs.Partitions.{is_run, among, Separate, Ours, Gone, DiscardedSome}
use Rattle.gq_group.specs.declared.partition.Partition.{Partition}
use Rattle.gq_group.proofs.AccessLemmas.{same_run-refl, same_run-trans, decide, or_in, or_from, or_left, or_right, leaves-trans}
use Rattle.gq_group.proofs.PartitionLemmas.{none_there, not_both, both_none}

pub or_false : (b : Bool) → (b || false) ≡ b
or_false true = refl
or_false false = refl

pub or_assoc : (a b c : Bool) → ((a || b) || c) ≡ (a || (b || c))
or_assoc true b c = refl
or_assoc false b c = refl

pub among-append : (xs ys : List Partition) (run : ℕ) → among (xs ++ ys) run ≡ (among xs run || among ys run)
among-append [] ys run = refl
among-append (x ∷ xs) ys run = ap (λ b. is_run x.writer run || b) (among-append xs ys run) ∙ sym (or_assoc (is_run x.writer run) (among xs run) (among ys run))

pub separate-front : (xs ys : List Partition) → Separate (xs ++ ys) → Separate xs
separate-front [] ys h = tt
separate-front (x ∷ xs) ys h = (λ run i. or_left (among xs run) (among ys run) (sym (among-append xs ys run) ∙ h.0 run i), separate-front xs ys h.1)

pub separate-last : (xs : List Partition) (x : Partition) → Separate (xs ++ x ∷ []) → (run : ℕ) → IsTrue (is_run x.writer run) → among xs run ≡ false
separate-last [] x h run i = refl
separate-last (y ∷ xs) x h run i = both_none (is_run y.writer run) (among xs run)
    (none_there (is_run y.writer run) (λ m. not_both (among (xs ++ x ∷ []) run) (sym' (among-append xs (x ∷ []) run) (or_from (among xs run) (is_run x.writer run || false) (inr (or_from (is_run x.writer run) false (inl i))))) (h.0 run m)))
    (separate-last xs x h.1 run i)
  where
    sym' : {a b : Bool} → a ≡ b → IsTrue b → IsTrue a
    sym' e t = e ∙ t

pub ours-front : (xs : List Partition) (x : Partition) (r : Runs) → Ours (xs ++ x ∷ []) r → Ours xs r
ours-front xs x r ours = record {
  live = λ run h. ours.live run (among-append xs (x ∷ []) run ∙ or_from (among xs run) (among (x ∷ []) run) (inl h));
  separate = separate-front xs (x ∷ []) ours.separate;
}

-- a run was discarded
pub gone-one : (run : ℕ) (r s : Runs) → Discards run r s → Gone (only run) r s
gone-one run r s d = record {
  others = λ other e. d.others.same other (λ same. not_both (other == run) (subst (λ n. IsTrue (other == n)) same (same_number other)) e);
  gone = λ other h. none_there (s.live other) (λ live. d.gone (subst (λ n. IsTrue (s.live n)) (equal_number other run h) live));
  same_honest = d.others.honest;
  same_made = d.made;
  same_failures = d.failures;
}

pub gone-none : (r : Runs) → Gone (λ run. false) r r
gone-none r = record { others = λ run e. same_run-refl r run; gone = λ run h. (let bad : false ≡ true = h in cc); same_honest = refl; same_made = refl; same_failures = refl }

pub gone-both : (a b : RunSet) (r s t : Runs) → Gone a r s → Gone b s t → Gone (either b a) r t
gone-both a b r s t first then = record {
  others = λ run e. same_run-trans r s t run first.same_honest (first.others run (or_right (b run) (a run) e)) (then.others run (or_left (b run) (a run) e));
  gone = λ run h. elim (decide (b run)) [ inl x ↦ then.gone run x | inr x ↦ (then.others run x).live ∙ first.gone run (rest (b run) (a run) x h) ];
  same_honest = then.same_honest ∙ first.same_honest;
  same_made = then.same_made ∙ first.same_made;
  same_failures = then.same_failures ∙ first.same_failures;
}
  where
    rest : (b c : Bool) → b ≡ false → IsTrue (b || c) → IsTrue c
    rest true c e h = let bad : true ≡ false = e in cc
    rest false c e h = h

pub ours-gone : (xs : List Partition) (mine : RunSet) (r s : Runs) → Gone mine r s → ((run : ℕ) → IsTrue (mine run) → among xs run ≡ false) → Ours xs r → Ours xs s
ours-gone xs mine r s gone apart ours = record {
  live = λ run h. (gone.others run (none_there (mine run) (λ m. not_both (among xs run) h (apart run m)))).live ∙ ours.live run h;
  separate = ours.separate;
}

-- what was begun and discarded leaves nothing
pub leaves-gone : (a b mine : RunSet) (r s t : Runs) → LeavesOthers a (either b mine) r s → ((run : ℕ) → IsTrue (a run) → IsTrue (b run)) → Apart mine b → Gone mine s t → LeavesOthers a b r t
leaves-gone a b mine r s t step grows apart gone = record {
  others = λ run e. elim (decide (mine run)) [
    | inl m ↦ dead run (fresh run m) (gone.gone run m)
    | inr out ↦ same_run-trans r s t run step.same_honest (step.others run (both_none (b run) (mine run) e out)) (gone.others run out)
  ];
  grows = grows;
  fresh = λ run e h live. step.fresh run e (or_from (b run) (mine run) (inl h)) live;
  live = λ run live. elim (decide (mine run)) [ inl m ↦ absurd (fresh run m live) | inr out ↦ (gone.others run out).live ∙ step.live run live ];
  same_honest = gone.same_honest ∙ step.same_honest;
  no_fewer_failures = omega (arith, step.no_fewer_failures, gone.same_failures);
  no_fewer_made = omega (arith, step.no_fewer_made, gone.same_made);
}
  where
    fresh : (run : ℕ) → IsTrue (mine run) → IsTrue (r.live run) → ⊥
    fresh run m live = step.fresh run (none_there (a run) (λ i. not_both (b run) (grows run i) (apart run m))) (or_from (b run) (mine run) (inr m)) live

    dead : (run : ℕ) → (IsTrue (r.live run) → ⊥) → t.live run ≡ false → SameRun r t run
    dead run before after = record { live = after ∙ sym (none_there (r.live run) before); content = λ h live. absurd (before live) }

-- one partition more was discarded
pub discarded-step : (all left next : List Partition) (x : Partition) (r s t : Runs) → DiscardedSome all left r s → left ≡ next ++ x ∷ [] → Gone (is_run x.writer) s t → DiscardedSome all next r t
discarded-step all left next x r s t so popped gone =
    let ours : Ours (next ++ x ∷ []) s = subst (λ l. Ours l s) popped so.ours in
    record {
      done = x ∷ so.done;
      whole = so.whole ∙ ap (λ l. l ++ so.done) popped ∙ append_assoc next (x ∷ []) so.done;
      ours = ours-gone next (is_run x.writer) s t gone (separate-last next x ours.separate) (ours-front next x s ours);
      gone = gone-both (among so.done) (is_run x.writer) r s t so.gone gone;
    }

pub discarded-none : (all : List Partition) (r : Runs) → Ours all r → DiscardedSome all all r r
discarded-none all r ours = record { done = []; whole = sym (append-nil all); ours = ours; gone = gone-none r }

pub discarded-all : (all : List Partition) (r s : Runs) → DiscardedSome all [] r s → Gone (among all) r s
discarded-all all r s so = subst (λ l. Gone (among l) r s) (sym so.whole) so.gone

-- who doesn't own the run that is discarded doesn't see it
pub gone-keeps : (k : RunSet) (id : ℕ) (s t : Runs) → Gone (only id) s t → k id ≡ false → KeepsOwn k s t
gone-keeps k id s t gone out = record {
  own = λ run h. gone.others run (none_there (run == id) (λ same. not_both (k run) h (ap k (equal_number run id same) ∙ out)));
  same_honest = gone.same_honest;
}

-- A run of the stack was read and discarded: what is left of the stack, and the runs that were begun, are ours.
pub leaves-read : (a b b' mine front partitions : RunSet) (r s m t : Runs)
    → LeavesOthers a (either (either b front) mine) r s
    → LeavesOthers (either mine b) (either (either mine partitions) b') s m
    → Gone mine m t
    → ((run : ℕ) → IsTrue (a run) → IsTrue (b run)) → ((run : ℕ) → IsTrue (b run) → IsTrue (b' run))
    → Apart mine (either (either b' front) partitions)
    → LeavesOthers a (either (either b' front) partitions) r t
leaves-read a b b' mine front partitions r s m t first then gone grows more apart =
    leaves-gone a (either (either b' front) partitions) mine r m t (leaves-trans a (either (either b front) mine) (either (either (either b' front) partitions) mine) r s m first (record {
      others = λ run e. then.others run (both_none (mine run || partitions run) (b' run)
          (both_none (mine run) (partitions run) (or_right ((b' run || front run) || partitions run) (mine run) e) (or_right (b' run || front run) (partitions run) (or_left ((b' run || front run) || partitions run) (mine run) e)))
          (or_left (b' run) (front run) (or_left (b' run || front run) (partitions run) (or_left ((b' run || front run) || partitions run) (mine run) e))));
      grows = λ run h. elim (or_in (b run || front run) (mine run) h) [
        | inl x ↦ in_left ((b' run || front run) || partitions run) (mine run) (in_left (b' run || front run) (partitions run) (elim (or_in (b run) (front run) x) [ inl y ↦ in_left (b' run) (front run) (more run y) | inr y ↦ in_right (b' run) (front run) y ]))
        | inr x ↦ in_right ((b' run || front run) || partitions run) (mine run) x
      ];
      fresh = λ run e h live.
          let out_b : b run ≡ false = or_left (b run) (front run) (or_left (b run || front run) (mine run) e) in
          let out_front : front run ≡ false = or_right (b run) (front run) (or_left (b run || front run) (mine run) e) in
          let out_mine : mine run ≡ false = or_right (b run || front run) (mine run) e in
          then.fresh run (both_none (mine run) (b run) out_mine out_b)
          (elim (or_in ((b' run || front run) || partitions run) (mine run) h) [
            | inl x ↦ elim (or_in (b' run || front run) (partitions run) x) [
              | inl y ↦ elim (or_in (b' run) (front run) y) [ inl z ↦ in_right (mine run || partitions run) (b' run) z | inr z ↦ absurd (not_both (front run) z out_front) ]
              | inr y ↦ in_left (mine run || partitions run) (b' run) (in_right (mine run) (partitions run) y)
            ]
            | inr x ↦ absurd (not_both (mine run) x out_mine)
          ]) live;
      live = then.live;
      same_honest = then.same_honest;
      no_fewer_failures = then.no_fewer_failures;
      no_fewer_made = then.no_fewer_made;
    }))
    (λ run h. in_left (b' run || front run) (partitions run) (in_left (b' run) (front run) (more run (grows run h)))) apart gone
  where
    in_left : (x y : Bool) → IsTrue x → IsTrue (x || y)
    in_left x y h = or_from x y (inl h)

    in_right : (x y : Bool) → IsTrue y → IsTrue (x || y)
    in_right x y h = or_from x y (inr h)
