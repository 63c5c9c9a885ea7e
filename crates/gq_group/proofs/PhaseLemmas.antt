-- Two phases with a run between them: whose runs are left alone.
use Rattle.std.proofs.Common.{◌≡◌, ◌+◌, ◌||◌, ℕ, Bool, true, false, Result, Ok, Err, refl, sym, ap, subst, ◌∙◌, inl, inr, arith}
use Rattle.std.specs.Prelude.{IsTrue, IsErrAnd, List, OnOk, IfOk, IfErr}
use Rattle.gq_row.specs.declared.value.Value.{Value}
use Rattle.gq_spill.specs.Runs.{Runs}
use Rattle.gq_group.specs.Access.{RunSet, either, Apart, LeavesOthers, KeepsOwn, HasCause, GroupCause}
use Rattle.gq_group.specs.Counting.{CountedInRun}
use Rattle.gq_group.specs.Groups.{Group}
use Rattle.gq_group.specs.Phases.{as_damaged}
use Rattle.gq_group.specs.Partitions.{Gone}
use Rattle.gq_group.specs.RunSources.{only, same_number, equal_number}
use Rattle.gq_group.specs.Work.{Spills, SpillsTwice}
use Rattle.gq_group.specs.declared.grouping.Spent.{Spent}
use Rattle.gq_group.specs.declared.refusal.Refusal.{Refusal}
use Rattle.gq_group.specs.declared.refusal.Refusal.TheVariants.{SumRange, Memory, StoreFault, Damaged}
use Rattle.gq_group.proofs.AccessLemmas.{or_in, or_from, or_left, or_right, leaves-trans, leaves-both}
use Rattle.gq_group.proofs.GoneLemmas.{leaves-gone}
use Rattle.gq_group.proofs.ReadLemmas.{apart-flip, leaves-left}

nowhere : (b : Bool) → (IsTrue b → ⊥) → b ≡ false
nowhere true h = absurd (h refl)
nowhere false h = refl

-- the same sets, named otherwise
pub leaves-as : (a a' b b' : RunSet) (r s : Runs) → ((run : ℕ) → a run ≡ a' run) → ((run : ℕ) → b run ≡ b' run) → LeavesOthers a b r s → LeavesOthers a' b' r s
leaves-as a a' b b' r s same same' step = record {
  others = λ run e. step.others run (same' run ∙ e);
  grows = λ run h. sym (same' run) ∙ step.grows run (same run ∙ h);
  fresh = λ run e h live. step.fresh run (same run ∙ e) (same' run ∙ h) live;
  live = step.live;
  same_honest = step.same_honest;
  no_fewer_failures = step.no_fewer_failures;
  no_fewer_made = step.no_fewer_made;
}

-- the run's number is known again by what it owns
pub same_run : (m n : ℕ) → ((run : ℕ) → IsTrue (only n run) → IsTrue (only m run)) → m ≡ n
same_run m n grows = sym (equal_number n m (grows n (same_number n)))

pub swap_last : (a b c : Bool) → ((a || c) || (c || b)) ≡ ((a || b) || c)
swap_last true b c = refl
swap_last false true true = refl
swap_last false true false = refl
swap_last false false true = refl
swap_last false false false = refl

-- rows to the run, and from it to the sink
pub leaves-second : (a a' k k' mine : RunSet) (r s t : Runs) → LeavesOthers (either a mine) (either a' mine) r s → LeavesOthers (either mine k) (either mine k') s t → LeavesOthers (either (either a k) mine) (either (either a' k') mine) r t
leaves-second a a' k k' mine r s t first then =
    leaves-as (either (either a mine) (either mine k)) (either (either a k) mine) (either (either a' mine) (either mine k')) (either (either a' k') mine) r t (λ run. swap_last (a run) (k run) (mine run)) (λ run. swap_last (a' run) (k' run) (mine run))
    (leaves-both (either a mine) (either a' mine) (either mine k) (either mine k') r s t first then)

pub leaves-phases : (n m q : ℕ) (a a' k k' : RunSet) (r s t : Runs) → ((run : ℕ) → IsTrue (only n run) → IsTrue (only m run)) → q ≡ m
    → LeavesOthers (either a (only n)) (either a' (only m)) r s → LeavesOthers (either (only q) k) (either (only q) k') s t → LeavesOthers (either (either a k) (only n)) (either (either a' k') (only n)) r t
leaves-phases n m q a a' k k' r s t grows is first then =
    let one : m ≡ n = same_run m n grows in
    leaves-second a a' k k' (only n) r s t
    (subst (λ x. LeavesOthers (either a (only n)) (either a' (only x)) r s) one first)
    (subst (λ x. LeavesOthers (either (only x) k) (either (only x) k') s t) (is ∙ one) then)

-- a run that is made, written, read and discarded leaves nothing
pub leaves-between : (n : ℕ) (a b : RunSet) (r s t u : Runs) → LeavesOthers (λ run. false) (only n) r s → LeavesOthers (either a (only n)) (either b (only n)) s t
    → ((run : ℕ) → IsTrue (a run) → IsTrue (b run)) → Apart (only n) b → Gone (only n) t u → LeavesOthers a b r u
leaves-between n a b r s t u begun step grows apart gone =
    leaves-gone a b (only n) r t u
    (leaves-trans a (either a (only n)) (either b (only n)) r s t
    (leaves-as (either (λ run. false) a) a (either (only n) a) (either a (only n)) r s (λ run. refl) (λ run. turned (only n run) (a run)) (leaves-left (λ run. false) (only n) a r s begun)) step)
    grows apart gone
  where
    turned : (b c : Bool) → (b || c) ≡ (c || b)
    turned true true = refl
    turned true false = refl
    turned false true = refl
    turned false false = refl

pub apart-either : (a b c : RunSet) → Apart a b → Apart a c → Apart a (either b c)
apart-either a b c first then run h = neither (b run) (c run) (first run h) (then run h)
  where
    neither : (b c : Bool) → b ≡ false → c ≡ false → (b || c) ≡ false
    neither true c h i = h
    neither false c h i = i

pub apart-both : (a b c : RunSet) → Apart a c → Apart b c → Apart (either a b) c
apart-both a b c first then run h = elim (or_in (a run) (b run) h) [ inl x ↦ first run x | inr y ↦ then run y ]

pub apart-one : (a b c : RunSet) → Apart a (either b c) → Apart a b
apart-one a b c apart run h = or_left (b run) (c run) (apart run h)

pub apart-other : (a b c : RunSet) → Apart a (either b c) → Apart a c
apart-other a b c apart run h = or_right (b run) (c run) (apart run h)

pub none_apart : (k : RunSet) → Apart (λ run. false) k
none_apart k run h = let bad : false ≡ true = h in let none : ⊥ = cc in absurd none

-- what has become more is apart from others that are so
pub apart-grown : (mine more a k : RunSet) → Apart a more → ((run : ℕ) → IsTrue (mine run) → IsTrue (more run)) → Apart mine k → Apart mine (either a k)
apart-grown mine more a k apart grows rest = apart-either mine a k (λ run h. apart-flip a more apart run (grows run h)) rest

pub either-grows : (a a' k k' : RunSet) → ((run : ℕ) → IsTrue (a run) → IsTrue (a' run)) → ((run : ℕ) → IsTrue (k run) → IsTrue (k' run)) → (run : ℕ) → IsTrue (either a k run) → IsTrue (either a' k' run)
either-grows a a' k k' first then run h = or_from (a' run) (k' run) (elim (or_in (a run) (k run) h) [ inl x ↦ inl (first run x) | inr x ↦ inr (then run x) ])

-- a run that is made is apart from those that are there
pub apart-new : (n : ℕ) (k : RunSet) (r : Runs) → r.live n ≡ false → ((run : ℕ) → IsTrue (k run) → IsTrue (r.live run)) → Apart (only n) k
apart-new n k r new live run h =
    nowhere (k run) (λ i. let bad : true ≡ false = sym (live run i) ∙ ap r.live (equal_number run n h) ∙ new in let none : ⊥ = cc in none)

-- what others left as it was, was so before
pub keeps-back : (k : RunSet) (r s : Runs) → KeepsOwn k r s → KeepsOwn k s r
keeps-back k r s kept = record {
  own = λ run h. record {
    live = sym (kept.own run h).live;
    content = λ honest live. sym ((kept.own run h).content (sym kept.same_honest ∙ honest) (sym (kept.own run h).live ∙ live));
  };
  same_honest = sym kept.same_honest;
}

-- ---- causes

pub cause-damaged : (e : Refusal) (old new : Runs) → GroupCause e old new → (e ≡ SumRange → IsTrue old.honest → ⊥) → HasCause (as_damaged e) old new
cause-damaged SumRange old new cause none = λ h. none refl h
cause-damaged Memory old new cause none = tt
cause-damaged StoreFault old new cause none = cause
cause-damaged Damaged old new cause none = cause

pub cause-later : (e : Refusal) (a b : RunSet) (r s t : Runs) → LeavesOthers a b r s → HasCause e s t → HasCause e r t
cause-later SumRange a b r s t step h = h
cause-later Memory a b r s t step h = tt
cause-later StoreFault a b r s t step h = omega (arith, step.no_fewer_failures, h)
cause-later Damaged a b r s t step h = λ honest. h (step.same_honest ∙ honest)

pub cause-memory : {T : Type 0} (result : Result T Refusal) (r s : Runs) → IfErr result (λ e. e ≡ Memory) → IfErr result (λ e. HasCause e r s)
cause-memory (Ok x) r s h = tt
cause-memory (Err e) r s is = subst (λ (e : Refusal). HasCause e r s) (sym is) tt

-- ---- results

pub made_twice : {E : Type 0} (r s t first second : ℕ) (result : Result Spent E) → s ≡ r + first → t ≡ s + second → IfOk result (λ spent. spent.runs ≡ 1 + first + second)
    → IfOk result (λ spent. t + 1 ≡ r + spent.runs)
made_twice r s t first second (Ok spent) one two runs = omega (arith, one, two, runs)
made_twice r s t first second (Err e) one two runs = tt

pub ok_anyway : {T E : Type 0} (P : Type 0) (result : Result T E) → P → OnOk result P
ok_anyway P (Ok x) h = h
ok_anyway P (Err e) h = tt

pub on_ok_both : {T E : Type 0} (P Q R : Type 0) (result : Result T E) → OnOk result P → OnOk result Q → (P → Q → R) → OnOk result R
on_ok_both P Q R (Ok x) p q f = f p q
on_ok_both P Q R (Err e) p q f = tt

pub if_ok_both : {T E : Type 0} (P Q R : T → Type 0) (result : Result T E) → IfOk result P → IfOk result Q → ((x : T) → P x → Q x → R x) → IfOk result R
if_ok_both P Q R (Ok x) p q f = f x p q
if_ok_both P Q R (Err e) p q f = tt

-- what two groupings took, where the second reads what the first gave
pub taken_twice : {E : Type 0} (budget : ℕ) (first second : Spent) (result : Result Spent E) → Spills budget first → Spills budget second → second.rows_read ≡ first.groups
    → IfOk result (λ spent. spent.rows_read ≡ first.rows_read)
    → IfOk result (λ spent. spent.rows_written ≡ first.rows_written + second.rows_read + second.rows_written)
    → IfOk result (λ spent. spent.groups ≡ second.groups)
    → IfOk result (λ spent. spent.runs ≡ 1 + first.runs + second.runs)
    → IfOk result (λ spent. SpillsTwice budget spent)
taken_twice budget first second (Ok spent) of_first of_second between read written groups runs = record {
  pairs = first;
  counts = second;
  of_pairs = of_first;
  of_counts = of_second;
  read = read;
  between = between;
  groups = groups;
  written = written ∙ ap (λ n. first.rows_written + n + second.rows_written) between;
  runs = omega (arith, runs);
}
taken_twice budget first second (Err e) of_first of_second between read written groups runs = tt

-- ---- a source of one run, whatever its number is written as

pub leaves-one : (was new run : ℕ) (k k' : RunSet) (r s : Runs) → was ≡ run → IsTrue (only new was) → LeavesOthers (either (only was) k) (either (only new) k') r s → LeavesOthers (either (only run) k) (either (only run) k') r s
leaves-one was new run k k' r s is grows step =
    let same : new ≡ run = sym (equal_number was new grows) ∙ is in
    subst (λ n. LeavesOthers (either (only run) k) (either (only n) k') r s) same (subst (λ n. LeavesOthers (either (only n) k) (either (only new) k') r s) is step)

pub apart-run : (was new run : ℕ) (k : RunSet) → was ≡ run → IsTrue (only new was) → Apart (only new) k → Apart (only run) k
apart-run was new run k is grows apart = subst (λ n. Apart (only n) k) (sym (equal_number was new grows) ∙ is) apart

-- a refusal in one of the phases
pub counted-refused : (by : List ℕ) (column budget number : ℕ) (gives : List (List Value) → Type 0) (held holds : List Group → Type 0) (a b k l : RunSet) (source_ready sink_ready : Type 0) (source_makes sink_makes : Bool) (r s : Runs) (q : Result Spent Refusal) (e : Refusal)
    → IsErrAnd q (λ y. y ≡ e) → LeavesOthers (either (either a k) (only number)) (either (either b l) (only number)) r s → Apart (only number) (either b l) → ((run : ℕ) → IsTrue (either a k run) → IsTrue (either b l run)) → HasCause e r s
    → CountedInRun by column budget number gives held holds a b k l source_ready sink_ready source_makes sink_makes r s q
counted-refused by column budget number gives held holds a b k l source_ready sink_ready source_makes sink_makes r s (Ok x) e is others apart grows cause = absurd is
counted-refused by column budget number gives held holds a b k l source_ready sink_ready source_makes sink_makes r s (Err y) e is others apart grows cause = record {
  groups = λ h. tt;
  counts = λ h. tt;
  spills = λ h. tt;
  made = λ none no. tt;
  others = others;
  apart = apart;
  grows = grows;
  source = tt;
  sink = tt;
  cause = subst (λ x. HasCause x r s) (sym is) cause;
}
