use Rattle.std.proofs.Common.{arith, ◌≡◌, ◌-◌, ◌∙◌, ◌++◌, [], List, length, drop, sym, ap, subst}
use Rattle.std.specs.Prelude.{slice_index_or}
use Rattle.gq_row.specs.declared.value.Value.{Value}
use Rattle.gq_cells.specs.Cells.{cells_of}
use Rattle.gq_cells.specs.Keys.{keys_in}
use Rattle.gq_cells.proofs.KeyLemmas.{fewer_keys, first_key, first_room, keys_left, on_ok, some_keys}
use Rattle.gq_cells.proofs.cells.Cells.push_key.Goals as goal

pub push_tagged-requires : goal.push_tagged-requires
push_tagged-requires c =
    let own = c.keys.inside in
    let some = some_keys own.width own.len own.cells c.args.keys.now c.keys.view_is c.requires in
    let room = first_room own.width own.len (own.len - 1) own.cells (omega (arith, some)) c.keys.invariant in
    omega (arith, room)

pub returns-in-Tagged-clause-pushed : goal.returns-in-Tagged-clause-pushed
returns-in-Tagged-clause-pushed c =
    let own = c.keys.inside in
    let some = some_keys own.width own.len own.cells c.args.keys.now c.keys.view_is c.requires in
    let first = sym (first_key own.width own.len own.cells some) ∙ ap (λ ks. slice_index_or ks 0 []) c.keys.view_is in
    let before : c.in-Tagged.cells ≡ c.args.self.now = sym (ap cells_of c.in-Tagged.is) ∙ c.self.view_is in
    on_ok c.push_tagged.result (λ is. is ∙ (λ z. before z ++ first z)) c.push_tagged.ensures.pushed

pub returns-in-Tagged-clause-left : goal.returns-in-Tagged-clause-left
returns-in-Tagged-clause-left c =
    let own = c.keys.inside in
    let some = some_keys own.width own.len own.cells c.args.keys.now c.keys.view_is c.requires in
    let rest = sym (keys_left own.width own.len (own.len - 1) own.cells (omega (arith, some))) ∙ ap (drop 1) c.keys.view_is in
    on_ok c.push_tagged.result (λ is. ap (keys_in own.width (own.len - 1)) is ∙ rest) c.push_tagged.ensures.left

pub push_left-requires : goal.push_left-requires
push_left-requires c =
    let own = c.keys.inside in
    let some = some_keys own.width own.len own.cells c.args.keys.now c.keys.view_is c.requires in
    let room = first_room own.width own.len (own.len - 1) own.cells (omega (arith, some)) c.keys.invariant in
    omega (arith, room)

pub returns : goal.returns
returns c =
    let own = c.keys.inside in
    let some = some_keys own.width own.len own.cells c.args.keys.now c.keys.view_is c.requires in
    let first = sym (first_key own.width own.len own.cells some) ∙ ap (λ ks. slice_index_or ks 0 []) c.keys.view_is in
    let rest = sym (keys_left own.width own.len (own.len - 1) own.cells (omega (arith, some))) ∙ ap (drop 1) c.keys.view_is in
    record {
      pushed = on_ok c.push_left.result (λ is. is ∙ (λ z. c.self.view_is z ++ first z)) c.push_left.ensures.pushed;
      left = on_ok c.push_left.result (λ is. ap (keys_in own.width (own.len - 1)) is ∙ rest) c.push_left.ensures.left;
      fewer = fewer_keys own.width own.len own.width (own.len - 1) own.cells c.push_left.new.left c.args.keys.now c.keys.view_is (omega (arith, some));
      kept = subst (λ (l : List Value). c.push_left.new.self ≡ l ++ drop (length l) c.push_left.new.self) c.self.view_is c.push_left.ensures.kept;
    }

pub returns-in-Tagged-clause-fewer : goal.returns-in-Tagged-clause-fewer
returns-in-Tagged-clause-fewer c =
    let own = c.keys.inside in
    let some = some_keys own.width own.len own.cells c.args.keys.now c.keys.view_is c.requires in
    fewer_keys own.width own.len own.width (own.len - 1) own.cells c.push_tagged.new.left c.args.keys.now c.keys.view_is (omega (arith, some))
