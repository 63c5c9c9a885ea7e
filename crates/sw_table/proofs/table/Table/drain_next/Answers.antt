use Rattle.std.proofs.Common.{◌≡◌, ℕ, ◌<◌, ◌≤◌, length, slice_index, None, sym, ap, subst, ◌∙◌, arith}
use Rattle.std.proofs.lemmas.Grind.{common_steps}
use native.Mathlib.Decide.{dec_lt}
use Rattle.sw_table.specs.LaidOut.{IsTable}
use Rattle.sw_table.specs.View.{View, entry_at, fresh, slot_count, table_view}
use Rattle.sw_table.specs.Walks.{IsDraining}
use Rattle.sw_table.proofs.Emptied.{IsTable-blank, empty_places, unused_bytes, none_there, drained_fresh, others_kept, taken_on, filled_taken}
use Rattle.sw_table.proofs.Filled.{none_filled}
use Rattle.sw_table.proofs.Walking.{walking_kept}
use Rattle.sw_table.proofs.table.Table.drain_next.Goals as goal
use Rattle.sw_table.proofs.table.Table.drain_next.Goals.{then-self-gt0, else-self-gt0}

-- nothing is before the walk, and nothing from there on
nothing : {K V H : Type 0} (t : View K V H) (from : ℕ) → ((i : ℕ) → i < from → entry_at t i ≡ None) → ((i : ℕ) → from ≤ i → entry_at t i ≡ None) → (i : ℕ) → entry_at t i ≡ None
nothing t from before behind i = elim (dec_lt i from) [ yes lt ↦ before i lt | no ge ↦ behind i (omega (arith, ge)) ]

pub invariant_of-self : goal.invariant_of-self
invariant_of-self g c =
    let t = c.self.inside in
    let none = λ (i : ℕ). ap (λ v. entry_at v i) c.self.view_is ∙ nothing c.args.self.now c.args.walk.now.from c.requires.taken c.in_default.ensures.none i in
    subst (λ bs. IsTable g.K.Keyed.class (g.H.KeyHash.hash_of t.hasher) t.slots bs t.len 0) (sym c.blank.ensures)
    (IsTable-blank _ _ t.slots t.ctrl t.len t.used c.self.invariant none)

pub returns-in_default-clause-end : goal.returns-in_default-clause-end
returns-in_default-clause-end g c =
    let t = c.self.inside in
    let all = nothing c.args.self.now c.args.walk.now.from c.requires.taken c.in_default.ensures.none in
    let none = λ (i : ℕ). ap (λ v. entry_at v i) c.self.view_is ∙ all i in
    let ps = empty_places _ _ t.slots t.ctrl t.len t.used c.self.invariant none in (
      none_filled c.args.self.now.places 0 (λ j le. all j),
      elim c.if-self-gt0.branch [
        | then-self-gt0 w ↦ w.self-is ∙ (λ j. table_view (ps j) (w.blank.ensures j) t.hasher) ∙ ap (λ v. fresh (slot_count v) v.hasher) c.self.view_is
        | else-self-gt0 w ↦
            let bs = unused_bytes _ _ t.slots t.ctrl t.len t.used c.self.invariant (omega (arith, w.if-self-gt0.false)) in
            w.self-is ∙ sym c.self.view_is ∙ (λ j. table_view (ps j) (bs j) t.hasher) ∙ ap (λ v. fresh (slot_count v) v.hasher) c.self.view_is
      ],
    )

pub returns-in_default-clause-draining : goal.returns-in_default-clause-draining
returns-in_default-clause-draining g c =
    let t = c.self.inside in
    let all = nothing c.args.self.now c.args.walk.now.from c.requires.taken c.in_default.ensures.none in
    let none = λ (i : ℕ). ap (λ v. entry_at v i) c.self.view_is ∙ all i in
    let high = λ (i : ℕ) (low : c.advance.new.walk.from ≤ i) (lt : i < length c.args.self.now.bytes). subst (λ v. 128 ≤ slice_index v.bytes i) c.self.view_is (none_there _ _ t.slots t.ctrl t.len t.used c.self.invariant none i (omega (arith, lt, ap (λ v. slot_count v) c.self.view_is))) in
    subst (λ v. IsDraining v c.advance.new.walk) (sym (returns-in_default-clause-end g c).1) (drained_fresh c.args.self.now c.advance.new.walk c.args.self.now.hasher c.in_default.ensures.walking high)

pub returns-clause-entry : goal.returns-clause-entry
returns-clause-entry g c =
    filled_taken c.args.self.now.places c.remove.new.self.places c.args.walk.now.from c.in-Some.slot.index c.remove.result c.in-Some.ensures.full.0 c.requires.taken c.in-Some.ensures.first c.remove.ensures.entry c.remove.ensures.places

pub returns-clause-draining : goal.returns-clause-draining
returns-clause-draining g c =
    let i = c.in-Some.slot.index in
    let moved = c.in-Some.ensures.moved in
    record {
      walking = walking_kept c.args.self.now.bytes c.remove.new.self.bytes c.advance.new.walk c.remove.ensures.slots
          (λ k past. others_kept c.args.self.now.bytes c.remove.new.self.bytes i c.remove.ensures.emptied c.remove.ensures.deleted k (omega (arith, past, moved))) c.in-Some.ensures.walking;
      taken = λ j lt. taken_on c.args.self.now.places c.remove.new.self.places c.args.walk.now.from i c.remove.result c.in-Some.ensures.full.0 c.requires.taken c.in-Some.ensures.first c.remove.ensures.entry c.remove.ensures.places j (omega (arith, lt, moved));
    }

pub returns-in_default-clause-slots : goal.returns-in_default-clause-slots
returns-in_default-clause-slots g c = grind (arith, common_steps)
