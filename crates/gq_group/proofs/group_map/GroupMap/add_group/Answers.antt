use Rattle.std.proofs.Common.{◌≡◌, ◌∙◌, ◌++◌, ◌∷◌, [], ℕ, List, length, take, ap, sym, subst, refl, None}
use Rattle.std.specs.FinMap.{insert, get}
use Rattle.sw_index.specs.Index.{IndexView}
use Rattle.gq_row.specs.declared.value.Value.{Value}
use Rattle.gq_agg.specs.Running.{Running}
use Rattle.gq_row.specs.Classes.{class_of}
use Rattle.gq_row.specs.Rows.{key_of}
use Rattle.gq_group.specs.Entries.{listed, tallies}
use Rattle.gq_group.specs.Maps.{MapView, pairs_from, AreKept, HasNoGroup}
use Rattle.gq_group.proofs.AggLemmas.{length-tallies, others_stay, columns_fit, cells_fit}
use Rattle.gq_group.proofs.KeptLemmas.{no_key, kept_more, listed_more}
use Rattle.gq_group.proofs.Results.{on_ok_err, on_err_so}
use Rattle.gq_group.proofs.group_map.GroupMap.add_group.Goals as goal

-- what is seen and what holds where the list and the index are as they were
seen_same : {H : Type 0} (each : ℕ) (xs ys : List Running) (i j : IndexView (List Value) H) (v : MapView H) → xs ≡ ys → i ≡ j
    → record { pairs = pairs_from each 0 ys j.keys; hasher = j.hasher; each = each } ≡ v → record { pairs = pairs_from each 0 xs i.keys; hasher = i.hasher; each = each } ≡ v
seen_same {H} each xs ys i j v same same' seen =
    (λ k. let it : MapView H = record { pairs = pairs_from each 0 (same k) (same' k).keys; hasher = (same' k).hasher; each = each } in it) ∙ seen

kept_same : {H : Type 0} (each : ℕ) (xs ys : List Running) (i j : IndexView (List Value) H) → xs ≡ ys → i ≡ j → AreKept each ys j.keys → AreKept each xs i.keys
kept_same each xs ys i j same same' kept = subst (λ l. AreKept each l i.keys) (sym same) (subst (λ (x : IndexView (List Value) _). AreKept each ys x.keys) (sym same') kept)

cut_back : (others more all back : List Running) (n len : ℕ) → n ≡ len → len ≡ length others → all ≡ others ++ more → back ≡ take n all → back ≡ others
cut_back others more all back n len n_is long is cut = cut ∙ ap (λ k. take k all) (n_is ∙ long) ∙ others_stay others more all is

pub add-requires : goal.add-requires
add-requires g c =
    let own = c.self.inside in
    let key = key_of c.args.spec.now.by c.args.row.now in
    let key_is : c.new-key.result ≡ key = c.new-key.ensures ∙ (λ z. key_of (c.by.ensures z) (c.cells.ensures z)) in
    let none = subst (λ (v : MapView _). HasNoGroup (g.H.KeyHash.hash_of v.hasher) v.pairs (class_of key) c.args.absence) (sym c.self.view_is) c.requires.absent in
    record {
      none = no_key own.each own.running.items own.index.keys c.new-key.result (ap (λ k. get (listed (pairs_from own.each 0 own.running.items own.index.keys)) (class_of k)) key_is ∙ none.absent) c.self.invariant.different;
      hashed = none.hashed ∙ ap (λ k. g.H.KeyHash.hash_of own.index.hasher (class_of k)) (sym key_is);
    }

pub invariant_of-self-2 : goal.invariant_of-self-2
invariant_of-self-2 g c =
    let own = c.self.inside in
    let aggs = c.args.spec.now.aggs in
    let key = key_of c.args.spec.now.by c.args.row.now in
    let key_is : c.new-key.result ≡ key = c.new-key.ensures ∙ (λ z. key_of (c.by.ensures z) (c.cells.ensures z)) in
    let none = subst (λ (v : MapView _). get (listed v.pairs) (class_of key) ≡ None) (sym c.self.view_is) c.requires.absent.absent in
    let more = tallies aggs (c.args.row.now ∷ []) in
    subst (AreKept own.each c.append_aggs.new.running.items) (sym (ap (λ (v : IndexView _ _). v.keys) c.make_room.ensures ∙ c.in-Ok.ensures.added))
    (kept_more own.each own.index.keys own.running.items c.append_aggs.new.running.items more c.new-key.result
    (length-tallies aggs (c.args.row.now ∷ []) ∙ sym c.requires.each ∙ sym (ap (λ (v : MapView _). v.each) c.self.view_is))
    (c.in_ok-append_aggs.ensures.ok ∙ ap (λ asked. own.running.items ++ tallies asked (c.args.row.now ∷ [])) c.aggs.ensures)
    c.self.invariant
    (ap (λ k. get (listed (pairs_from own.each 0 own.running.items own.index.keys)) (class_of k)) key_is ∙ none))

pub returns-clause-entries : goal.returns-clause-entries
returns-clause-entries g c =
    let own = c.self.inside in
    let aggs = c.args.spec.now.aggs in
    let row = c.args.row.now in
    let key = key_of c.args.spec.now.by row in
    let key_is : c.new-key.result ≡ key = c.new-key.ensures ∙ (λ z. key_of (c.by.ensures z) (c.cells.ensures z)) in
    let none = subst (λ (v : MapView _). get (listed v.pairs) (class_of key) ≡ None) (sym c.self.view_is) c.requires.absent.absent in
    let more = tallies aggs (row ∷ []) in
    ap (λ ks. listed (pairs_from own.each 0 c.append_aggs.new.running.items ks)) (ap (λ (v : IndexView _ _). v.keys) c.make_room.ensures ∙ c.in-Ok.ensures.added)
    ∙ listed_more own.each own.index.keys own.running.items c.append_aggs.new.running.items more c.new-key.result
    (length-tallies aggs (row ∷ []) ∙ sym c.requires.each ∙ sym (ap (λ (v : MapView _). v.each) c.self.view_is))
    (c.in_ok-append_aggs.ensures.ok ∙ ap (λ asked. own.running.items ++ tallies asked (row ∷ [])) c.aggs.ensures)
    c.self.invariant
    (ap (λ k. get (listed (pairs_from own.each 0 own.running.items own.index.keys)) (class_of k)) key_is ∙ none)
    ∙ (λ i. insert (listed (c.self.view_is i).pairs) (class_of (key_is i)) (key_is i, more))

pub new-key-requires : goal.new-key-requires
new-key-requires g c = columns_fit c.args.spec.now c.args.row.now c.cells.result.now c.by.result.now c.by.ensures c.cells.ensures c.requires.fits

pub append_aggs-requires : goal.append_aggs-requires
append_aggs-requires g c = record { fits = cells_fit c.args.spec.now c.args.row.now c.aggs.result.now c.aggs.ensures c.requires.fits }

pub invariant_of-self : goal.invariant_of-self
invariant_of-self g c =
    subst (λ (xs : List Running). AreKept c.self.inside.each xs c.self.inside.index.keys) (sym c.in_err-append_aggs.ensures.err) c.self.invariant

pub returns-in_err-append_aggs-clause-entries : goal.returns-in_err-append_aggs-clause-entries
returns-in_err-append_aggs-clause-entries g c = on_ok_err _ c.from_residual.result c.from_residual.ensures.0

pub returns-in_err-append_aggs-clause-each : goal.returns-in_err-append_aggs-clause-each
returns-in_err-append_aggs-clause-each g c = ap (λ (v : MapView _). v.each) c.self.view_is

pub returns-in_err-append_aggs-clause-hasher : goal.returns-in_err-append_aggs-clause-hasher
returns-in_err-append_aggs-clause-hasher g c = ap (λ (v : MapView _). v.hasher) c.self.view_is

pub returns-in_err-append_aggs-clause-err : goal.returns-in_err-append_aggs-clause-err
returns-in_err-append_aggs-clause-err g c =
    on_err_so _ c.from_residual.result (seen_same c.self.inside.each c.append_aggs.new.running.items c.self.inside.running.items c.self.inside.index c.self.inside.index c.args.self.now c.in_err-append_aggs.ensures.err refl c.self.view_is)

pub invariant_of-self-in_default : goal.invariant_of-self-in_default
invariant_of-self-in_default g c =
    let back = cut_back c.self.inside.running.items (tallies c.aggs.result.now (c.args.row.now ∷ [])) c.append_aggs.new.running.items c.truncate.new.self.items c.len-start.result c.self.inside.running.len c.len-start.ensures c.self.inside.running.ok.0 c.in_ok-append_aggs.ensures.ok c.truncate.ensures.items in
    kept_same c.self.inside.each c.truncate.new.self.items c.self.inside.running.items c.add.new.self c.self.inside.index back c.in_default.ensures.unchanged c.self.invariant

pub returns-in_default-clause-each : goal.returns-in_default-clause-each
returns-in_default-clause-each g c = ap (λ (v : MapView _). v.each) c.self.view_is

pub returns-in_default-clause-hasher : goal.returns-in_default-clause-hasher
returns-in_default-clause-hasher g c = c.add.ensures.hasher ∙ ap (λ (v : MapView _). v.hasher) c.self.view_is

pub returns-in_default-clause-err : goal.returns-in_default-clause-err
returns-in_default-clause-err g c =
    let back = cut_back c.self.inside.running.items (tallies c.aggs.result.now (c.args.row.now ∷ [])) c.append_aggs.new.running.items c.truncate.new.self.items c.len-start.result c.self.inside.running.len c.len-start.ensures c.self.inside.running.ok.0 c.in_ok-append_aggs.ensures.ok c.truncate.ensures.items in
    seen_same c.self.inside.each c.truncate.new.self.items c.self.inside.running.items c.add.new.self c.self.inside.index c.args.self.now back c.in_default.ensures.unchanged c.self.view_is

pub returns-clause-each : goal.returns-clause-each
returns-clause-each g c = ap (λ (v : MapView _). v.each) c.self.view_is

pub returns-clause-hasher : goal.returns-clause-hasher
returns-clause-hasher g c = ap (λ (v : IndexView _ _). v.hasher) c.make_room.ensures ∙ c.add.ensures.hasher ∙ ap (λ (v : MapView _). v.hasher) c.self.view_is
