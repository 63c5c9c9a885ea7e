use Rattle.std.proofs.Common.{◌≡◌, Bool, true, false, not, ◌&&◌, Some, refl, sym, ap, ◌∙◌, subst}
use Rattle.std.specs.Option.{option_eq}
use Rattle.std.specs.List.{list_all}
use Rattle.sw_table.specs.Entries.{entries}
use Rattle.sw_flat.proofs.Equal.{Held, held_first, held_filled, agrees, unequal_len, unequal_at, equal_all}
use Rattle.sw_flat.proofs.Listed.{Apart}
use Rattle.sw_flat.proofs.equality.FlatMapPartialEq.eq.Goals as goal

turned : (b : Bool) → true ≡ not b → b ≡ false
turned true e = e
turned false e = refl

kept : (b : Bool) → false ≡ not b → b ≡ true
kept true e = refl
kept false e = e

pub returns-then-len : goal.returns-then-len
returns-then-len g c =
    let class = g.K.Keyed.class in
    let a = subst (λ v. Apart class v.places) c.self.view_is c.capacity.ensures.laid_out.apart in
    let b = subst (λ v. Apart class v.places) c.other.view_is c.capacity-2.ensures.laid_out.apart in
    unequal_len class g.V.PartialEq.eq c.args.self.now.places c.args.other.now.places a b (λ e. c.if-len.true (c.len.ensures ∙ e ∙ sym c.len-2.ensures))

pub entries-init : goal.entries-init
entries-init g c =
    let class = g.K.Keyed.class in
    let a = subst (λ v. Apart class v.places) c.self.view_is c.capacity.ensures.laid_out.apart in (
      subst (Held class (entries class c.args.self.now)) (sym c.iter-rest.ensures.slots) (held_filled class c.args.self.now.places a),
      λ h. subst (λ items. list_all (agrees class g.V.PartialEq.eq (entries class c.args.other.now)) items ≡ true) c.iter-rest.ensures.slots h,
    )

pub returns-in_default-get : goal.returns-in_default-get
returns-in_default-get g c =
    let class = g.K.Keyed.class in
    let m = entries class c.args.self.now in
    let n = entries class c.args.other.now in
    let x : g.row.K.Denot × g.row.V.Denot = (c.in-Some.key.now, c.in-Some.value.now) in
    let held = held_first class m x c.next.new.self (subst (Held class m) c.in-Some.ensures.steps c.entries.invariant.0) in
    unequal_at class g.V.PartialEq.eq m n x held.0 (ap (option_eq g.V.PartialEq.eq (Some x.1)) (sym c.in_default-get.ensures))

pub returns-then-ne : goal.returns-then-ne
returns-then-ne g c =
    let class = g.K.Keyed.class in
    let m = entries class c.args.self.now in
    let n = entries class c.args.other.now in
    let x : g.row.K.Denot × g.row.V.Denot = (c.in-Some.key.now, c.in-Some.value.now) in
    let held = held_first class m x c.next.new.self (subst (Held class m) c.in-Some.ensures.steps c.entries.invariant.0) in
    unequal_at class g.V.PartialEq.eq m n x held.0 (ap (option_eq g.V.PartialEq.eq (Some x.1)) (sym c.in-Some-get.ensures) ∙ turned _ (sym c.if-ne.true ∙ c.ne.ensures))

pub entries-preserved : goal.entries-preserved
entries-preserved g c =
    let class = g.K.Keyed.class in
    let m = entries class c.args.self.now in
    let n = entries class c.args.other.now in
    let test = agrees class g.V.PartialEq.eq n in
    let x : g.row.K.Denot × g.row.V.Denot = (c.in-Some.key.now, c.in-Some.value.now) in
    let held = held_first class m x c.next.new.self (subst (Held class m) c.in-Some.ensures.steps c.entries.invariant.0) in
    let same : test x ≡ true = ap (option_eq g.V.PartialEq.eq (Some x.1)) (sym c.in-Some-get.ensures) ∙ kept _ (sym c.if-ne.false ∙ c.ne.ensures) in (
      held.1,
      λ h. c.entries.invariant.1 (ap (list_all test) c.in-Some.ensures.steps ∙ ap (λ b. b && list_all test c.next.new.self) same ∙ h),
    )

pub returns : goal.returns
returns g c =
    let class = g.K.Keyed.class in
    let n = entries class c.args.other.now in
    let test = agrees class g.V.PartialEq.eq n in
    let a = subst (λ v. Apart class v.places) c.self.view_is c.capacity.ensures.laid_out.apart in
    equal_all class g.V.PartialEq.eq c.args.self.now.places n a (sym c.len.ensures ∙ c.if-len.false ∙ c.len-2.ensures) (c.entries.invariant.1 (ap (list_all test) c.in_default.ensures.steps.0))
