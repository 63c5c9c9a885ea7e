use Rattle.std.proofs.Common.{◌≡◌, ◌<◌, ◌+◌, ◌++◌, ◌∷◌, [], ℕ, List, sym, ap, subst, ◌∙◌, length, append-nil, arith, length-append}
use Rattle.std.specs.List.{sum_by}
use Rattle.gq_row.specs.declared.value.Value.{Value}
use Rattle.gq_row.specs.Classes.{class_of}
use Rattle.gq_row.specs.Rows.{key_of}
use Rattle.gq_group.specs.Partitioning.{one_if_some, partition_of, partition_by, fan_out, lots}
use Rattle.gq_group.specs.Passes.{left_lots}
use Rattle.gq_group.specs.Residents.{Resident, HasHash, left_over, left_row}
use Rattle.gq_group.specs.Partitions.{AllHeld}
use Rattle.std.proofs.lemmas.Result.{IfOk-from_err}
use Rattle.gq_group.specs.Access.{HasCause}
use Rattle.gq_group.specs.declared.refusal.Refusal.{Refusal}
use Rattle.gq_group.proofs.AccessLemmas.{leaves-refl}
use Rattle.gq_group.proofs.Results.{on_ok_err, if_err_is}
use Rattle.gq_group.proofs.PassLemmas.{partition_less}
use Rattle.gq_group.proofs.Lots.{lots-push}
use Rattle.gq_group.proofs.pass.place_row.Goals as goal

pub returns-clause-places : goal.returns-clause-places
returns-clause-places g c =
    let spec = c.args.pass.now.spec.now in
    let row = c.args.ahead.now.row in
    let budget = c.args.table.now.budget.entries in
    let old = c.args.table.now.groups.pairs in
    let new = c.offer.new.self.groups.pairs in
    let hash : List ℕ → ℕ = g.H.KeyHash.hash_of c.args.table.now.groups.hasher in
    let part_of : List Value → ℕ = partition_by hash c.args.pass.now.depth in
    let n : ℕ = fan_out c.args.pass.now.depth in
    let place : ℕ = c.partition_of-place.result in
    let told : c.in-Left.hash ≡ hash (class_of (key_of spec.by row)) = subst (λ o. HasHash (hash (class_of (key_of spec.by row))) o) c.in-Left.is c.in-Ok.ensures.hash in
    let here : part_of (key_of spec.by row) ≡ place = ap (partition_of c.args.pass.now.depth) (sym told) ∙ sym c.partition_of-place.ensures in
    let within = subst (λ (k : ℕ). k < n) here (partition_less hash c.args.pass.now.depth (key_of spec.by row)) in
    let moved = λ (done : List (List Value)) (t : Resident spec budget done old).
    (c.in-Ok.ensures.offers done t).left ∙ ap (λ o. left_over spec old done ++ left_row o row) c.in-Left.is in
    let pushed = λ (done : List (List Value)) (t : Resident spec budget done old).
    ap (lots part_of spec.by 0 n) (moved done t) ∙ lots-push part_of spec.by 0 n place (left_over spec old done) row (omega (arith, here)) within in
    record {
      resident = λ done t. (c.in-Ok.ensures.offers done t).resident;
      left = λ done t. ap length (moved done t) ∙ length-append (left_over spec old done) (row ∷ []);
      held = λ done t held. subst (λ parts. AllHeld (g.S.RunStore.runs c.spill.new.store) c.spill.new.partitions.items parts) (sym (pushed done t)) (c.in_ok-began.ensures.holds (left_lots spec part_of n done old) held);
      runs = λ done t held. ap (sum_by one_if_some) (pushed done t) ∙ c.in_ok-began.ensures.began (left_lots spec part_of n done old) held;
      one = omega arith;
      one_began = c.in_ok-began.ensures.one;
    }

pub offer-requires-clause-ahead : goal.offer-requires-clause-ahead
offer-requires-clause-ahead g c = c.requires.ahead

pub offer-requires-clause-each : goal.offer-requires-clause-each
offer-requires-clause-each g c = c.requires.each

pub offer-requires-clause-resident : goal.offer-requires-clause-resident
offer-requires-clause-resident g c = c.requires.resident

pub returns-in_default-clause-budget : goal.returns-in_default-clause-budget
returns-in_default-clause-budget g c = c.offer.ensures.budget

pub returns-in_default-clause-each : goal.returns-in_default-clause-each
returns-in_default-clause-each g c = c.offer.ensures.each

pub returns-in_default-clause-same_length : goal.returns-in_default-clause-same_length
returns-in_default-clause-same_length g c = c.requires.places

pub returns-in_default-clause-ours : goal.returns-in_default-clause-ours
returns-in_default-clause-ours g c = c.requires.ours

pub returns-in_default-clause-others : goal.returns-in_default-clause-others
returns-in_default-clause-others g c = leaves-refl _ _

pub returns-in_default-offered-clause-budget : goal.returns-in_default-offered-clause-budget
returns-in_default-offered-clause-budget g c = c.offer.ensures.budget

pub returns-in_default-offered-clause-each : goal.returns-in_default-offered-clause-each
returns-in_default-offered-clause-each g c = c.offer.ensures.each

pub returns-in_default-offered-clause-same_length : goal.returns-in_default-offered-clause-same_length
returns-in_default-offered-clause-same_length g c = c.requires.places

pub returns-in_default-offered-clause-ours : goal.returns-in_default-offered-clause-ours
returns-in_default-offered-clause-ours g c = c.requires.ours

pub returns-in_default-offered-clause-others : goal.returns-in_default-offered-clause-others
returns-in_default-offered-clause-others g c = leaves-refl _ _

pub returns-then-not-is_storable-clause-budget : goal.returns-then-not-is_storable-clause-budget
returns-then-not-is_storable-clause-budget g c = c.offer.ensures.budget

pub returns-then-not-is_storable-clause-each : goal.returns-then-not-is_storable-clause-each
returns-then-not-is_storable-clause-each g c = c.offer.ensures.each

pub returns-then-not-is_storable-clause-same_length : goal.returns-then-not-is_storable-clause-same_length
returns-then-not-is_storable-clause-same_length g c = c.requires.places

pub returns-then-not-is_storable-clause-ours : goal.returns-then-not-is_storable-clause-ours
returns-then-not-is_storable-clause-ours g c = c.requires.ours

pub returns-then-not-is_storable-clause-others : goal.returns-then-not-is_storable-clause-others
returns-then-not-is_storable-clause-others g c = leaves-refl _ _

pub returns-in_err-began-clause-budget : goal.returns-in_err-began-clause-budget
returns-in_err-began-clause-budget g c = c.offer.ensures.budget

pub returns-in_err-began-clause-each : goal.returns-in_err-began-clause-each
returns-in_err-began-clause-each g c = c.offer.ensures.each

pub returns-in_err-began-clause-same_length : goal.returns-in_err-began-clause-same_length
returns-in_err-began-clause-same_length g c = c.spill.ensures.same_length ∙ c.requires.places

pub returns-in_err-began-clause-ours : goal.returns-in_err-began-clause-ours
returns-in_err-began-clause-ours g c = c.spill.ensures.ours

pub returns-in_err-began-clause-others : goal.returns-in_err-began-clause-others
returns-in_err-began-clause-others g c = c.spill.ensures.others

pub returns-clause-budget : goal.returns-clause-budget
returns-clause-budget g c = c.offer.ensures.budget

pub returns-clause-each : goal.returns-clause-each
returns-clause-each g c = c.offer.ensures.each

pub returns-clause-same_length : goal.returns-clause-same_length
returns-clause-same_length g c = c.spill.ensures.same_length ∙ c.requires.places

pub returns-clause-ours : goal.returns-clause-ours
returns-clause-ours g c = c.spill.ensures.ours

pub returns-clause-others : goal.returns-clause-others
returns-clause-others g c = c.spill.ensures.others

pub returns-in_default-offered-clause-hasher : goal.returns-in_default-offered-clause-hasher
returns-in_default-offered-clause-hasher g c = c.in-Ok.ensures.hasher

pub returns-clause-hasher : goal.returns-clause-hasher
returns-clause-hasher g c = c.in-Ok.ensures.hasher

pub returns-in_err-began-clause-hasher : goal.returns-in_err-began-clause-hasher
returns-in_err-began-clause-hasher g c = on_ok_err _ c.from_residual.result c.from_residual.ensures.0

pub returns-in_err-began-clause-places : goal.returns-in_err-began-clause-places
returns-in_err-began-clause-places g c = IfOk-from_err c.from_residual.result _ c.from_residual.ensures.0

pub returns-in_err-began-clause-made : goal.returns-in_err-began-clause-made
returns-in_err-began-clause-made g c = IfOk-from_err c.from_residual.result _ c.from_residual.ensures.0

pub returns-in_err-began-clause-cause : goal.returns-in_err-began-clause-cause
returns-in_err-began-clause-cause g c = λ parts held.
    let r = g.S.RunStore.runs c.args.store.now in
    let s = g.S.RunStore.runs c.spill.new.store in
    if_err_is (λ (e : Refusal). HasCause e r s) c.from_residual.result c.in_err-began.field-0.0 c.from_residual.ensures.1 (c.in_err-began.ensures.cause parts held)

pub returns-clause-made : goal.returns-clause-made
returns-clause-made g c = c.in_ok-began.ensures.made

pub spill-requires-clause-ours : goal.spill-requires-clause-ours
spill-requires-clause-ours g c = c.requires.ours

no_more : (n : ℕ) → n ≡ n + 0
no_more n = omega arith

pub returns-in_default-offered-clause-made : goal.returns-in_default-offered-clause-made
returns-in_default-offered-clause-made g c = no_more _

pub returns-in_default-offered-clause-places : goal.returns-in_default-offered-clause-places
returns-in_default-offered-clause-places g c =
    let spec = c.args.pass.now.spec.now in
    let row = c.args.ahead.now.row in
    let old = c.args.table.now.groups.pairs in
    let part_of : List Value → ℕ = partition_by (g.H.KeyHash.hash_of c.args.table.now.groups.hasher) c.args.pass.now.depth in
    let n : ℕ = fan_out c.args.pass.now.depth in
    let moved = λ (done : List (List Value)) (t : Resident spec c.args.table.now.budget.entries done old).
    (c.in-Ok.ensures.offers done t).left ∙ ap (λ o. left_over spec old done ++ left_row o row) c.in_default-offered.is ∙ append-nil (left_over spec old done) in
    record {
      resident = λ done t. (c.in-Ok.ensures.offers done t).resident;
      left = λ done t. ap length (moved done t) ∙ no_more _;
      held = λ done t held. subst (λ parts. AllHeld (g.S.RunStore.runs c.args.store.now) c.args.partitions.now.items parts) (sym (ap (lots part_of spec.by 0 n) (moved done t))) held;
      runs = λ done t held. ap (λ l. sum_by one_if_some (lots part_of spec.by 0 n l)) (moved done t) ∙ no_more _;
      one = omega arith;
      one_began = omega arith;
    }

pub spill-requires-clause-within : goal.spill-requires-clause-within
spill-requires-clause-within g c =
    let key = key_of c.args.pass.now.spec.now.by c.args.ahead.now.row in
    let hash : List ℕ → ℕ = g.H.KeyHash.hash_of c.args.table.now.groups.hasher in
    let told : c.in-Left.hash ≡ hash (class_of key) = subst (λ o. HasHash (hash (class_of key)) o) c.in-Left.is c.in-Ok.ensures.hash in
    let here : partition_by hash c.args.pass.now.depth key ≡ c.partition_of-place.result = ap (partition_of c.args.pass.now.depth) (sym told) ∙ sym c.partition_of-place.ensures in
    subst (λ (k : ℕ). c.partition_of-place.result < k) (sym c.requires.places) (subst (λ (k : ℕ). k < fan_out c.args.pass.now.depth) here (partition_less hash c.args.pass.now.depth key))

pub spill-requires-clause-storable : goal.spill-requires-clause-storable
spill-requires-clause-storable g c = c.is_storable.ensures.0 c.if-not-is_storable.false
