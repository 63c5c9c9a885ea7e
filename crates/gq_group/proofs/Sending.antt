-- Groups that go to a sink, one after the other.
use Rattle.std.proofs.Common.{◌≡◌, ◌++◌, ◌∷◌, [], Bool, true, false, ◌||◌, List, length, map, sym, ap, subst, ◌∙◌, refl, append_assoc, append-nil, IsPermutation}
use Rattle.std.specs.Prelude.{IsTrue, Some}
use Rattle.std.specs.List.{list_any}
use Rattle.std.proofs.lemmas.List.{length-map, map-append}
use Rattle.std.proofs.lemmas.List.Sorted.{IsPermutation-map, list_any-IsPermutation, length_permutation}
use Rattle.sw_flat.specs.Maps.{ListsAll}
use Rattle.gq_row.specs.declared.value.Value.{Value}
use Rattle.gq_row.specs.Classes.{class_of}
use Rattle.gq_row.specs.Tables.{of_key}
use Rattle.gq_group.specs.Entries.{listed, Pair, tallies, Grouped, AreTallied, Sent}
use Rattle.gq_group.specs.Groups.{Spec, Group, keys_of, group_of, answers, answered, groups, is_none, out_of_range}
use Rattle.gq_group.specs.KeptAggs.{kept_aggs, kept_spec}
use Rattle.gq_group.proofs.MapGroups.{all_tallied, all_keys}

abbrev pub keys_in : List Pair → List (List Value)
keys_in pairs = map (λ (p : Pair). p.0) pairs

pub sent-none : (spec : Spec) (honest : Bool) (before : List Group → Type 0) (all : List Pair) → Sent spec honest before before all all
sent-none spec honest before all = record {
  gone = [];
  out = [];
  whole = refl;
  finished = λ rows h. refl;
  told = λ h groups b. subst before (sym (append-nil groups)) b;
}

front_tallied : (spec : Spec) (rows : List (List Value)) (xs ys : List Pair) → AreTallied spec rows (xs ++ ys) → AreTallied spec rows xs
front_tallied spec rows [] ys h = tt
front_tallied spec rows (x ∷ xs) ys h = (h.0, front_tallied spec rows xs ys h.1)

next_tallied : (spec : Spec) (rows : List (List Value)) (xs : List Pair) (p : Pair) (ys : List Pair) → AreTallied spec rows (xs ++ p ∷ ys) → p.1 ≡ tallies spec.aggs (of_key spec.by rows p.0)
next_tallied spec rows [] p ys h = h.0
next_tallied spec rows (x ∷ xs) p ys h = next_tallied spec rows xs p ys h.1

-- one group more was sent
pub sent-step : (spec : Spec) (honest : Bool) (before now after : List Group → Type 0) (all old new : List Pair) (p : Pair) (values : List Value)
    → Sent spec honest before now all old
    → old ≡ p ∷ new
    → ((rows : List (List Value)) → p.1 ≡ tallies (kept_aggs spec.aggs) rows → answers spec.aggs rows ≡ map Some values)
    → (IsTrue honest → (groups : List Group) → now groups → after (groups ++ (p.0, values) ∷ []))
    → Sent spec honest before after all new
sent-step spec honest before now after all old new p values sent popped answer push = record {
  gone = sent.gone ++ p ∷ [];
  out = sent.out ++ (p.0, values) ∷ [];
  whole = sent.whole ∙ ap (λ l. sent.gone ++ l) popped ∙ sym (append_assoc sent.gone (p ∷ []) new);
  finished = λ rows h.
      let here : group_of spec rows p.0 ≡ answered (p.0, values) = ap (λ v. (p.0, v)) (answer (of_key spec.by rows p.0) (next_tallied (kept_spec spec) rows sent.gone p [] h)) in
      ap (map (group_of spec rows)) (map-append (λ (q : Pair). q.0) sent.gone (p ∷ []))
      ∙ map-append (group_of spec rows) (keys_in sent.gone) (p.0 ∷ [])
      ∙ (λ i. sent.finished rows (front_tallied (kept_spec spec) rows sent.gone (p ∷ []) h) i ++ here i ∷ [])
      ∙ sym (map-append answered sent.out ((p.0, values) ∷ []));
  told = λ hon groups b. subst after (append_assoc groups sent.out ((p.0, values) ∷ [])) (push hon (groups ++ sent.out) (sent.told hon groups b));
}

-- ---- what was sent of all groups

-- the groups by their entries
by_entries : (spec : Spec) (rows : List (List Value)) (m : List Pair) (xs : List Pair) → Grouped (kept_spec spec) rows m → ListsAll class_of xs (listed m) → IsPermutation (groups spec rows) (map (group_of spec rows) (keys_in xs))
by_entries spec rows m xs grouped all = IsPermutation-map (group_of spec rows) (keys_of spec.by rows) (keys_in xs) (all_keys (kept_spec spec) rows m xs grouped all)

pub sent-groups : (spec : Spec) (honest : Bool) (before now : List Group → Type 0) (all : List Pair) (m : List Pair) (rows : List (List Value))
    → Sent spec honest before now all [] → ListsAll class_of all (listed m) → Grouped (kept_spec spec) rows m → (out : List Group) × IsPermutation (groups spec rows) (map answered out) × (IsTrue honest → (groups : List Group) → before groups → now (groups ++ out))
sent-groups spec honest before now all m rows sent lists grouped =
    let whole : all ≡ sent.gone = sent.whole ∙ append-nil sent.gone in
    let finished : map (group_of spec rows) (keys_in all) ≡ map answered sent.out
    = ap (λ l. map (group_of spec rows) (keys_in l)) whole ∙ sent.finished rows (subst (AreTallied (kept_spec spec) rows) whole (all_tallied (kept_spec spec) rows m all grouped lists)) in
    (sent.out, subst (IsPermutation (groups spec rows)) finished (by_entries spec rows m all grouped lists), sent.told)

pub none_out : (out : List Group) → list_any (λ g. list_any is_none g.1) (map answered out) ≡ false
none_out [] = refl
none_out (g ∷ out) = ap (λ b. b || list_any (λ x. list_any is_none x.1) (map answered out)) (none_in g.1) ∙ none_out out
  where
    none_in : (values : List Value) → list_any is_none (map Some values) ≡ false
    none_in [] = refl
    none_in (v ∷ values) = none_in values

pub sent-fine : (spec : Spec) (honest : Bool) (before now : List Group → Type 0) (all : List Pair) (m : List Pair) (rows : List (List Value))
    → Sent spec honest before now all [] → ListsAll class_of all (listed m) → Grouped (kept_spec spec) rows m → out_of_range spec rows ≡ false
sent-fine spec honest before now all m rows sent lists grouped =
    let all_sent = sent-groups spec honest before now all m rows sent lists grouped in
    list_any-IsPermutation (λ g. list_any is_none g.1) (groups spec rows) (map answered all_sent.0) all_sent.1 ∙ none_out all_sent.0

pub count_groups : (all : List Pair) (m : List Pair) (spec : Spec) (rows : List (List Value)) → ListsAll class_of all (listed m) → Grouped (kept_spec spec) rows m → length all ≡ length (keys_of spec.by rows)
count_groups all m spec rows lists grouped = sym (length-map all (λ (p : Pair). p.0)) ∙ length_permutation (keys_of spec.by rows) (keys_in all) (all_keys (kept_spec spec) rows m all grouped lists)

-- a sum that is refused is one of the groups'
pub refused_one : (spec : Spec) (honest : Bool) (before now : List Group → Type 0) (all left rest : List Pair) (p : Pair) (m : List Pair) (rows : List (List Value))
    → Sent spec honest before now all left → left ≡ p ∷ rest → ListsAll class_of all (listed m) → Grouped (kept_spec spec) rows m
    → ((its : List (List Value)) → p.1 ≡ tallies (kept_aggs spec.aggs) its → list_any is_none (answers spec.aggs its) ≡ true)
    → out_of_range spec rows ≡ true
refused_one spec honest before now all left rest p m rows sent popped lists grouped none =
    let whole : all ≡ sent.gone ++ p ∷ rest = sent.whole ∙ ap (λ l. sent.gone ++ l) popped in
    let here : list_any is_none (answers spec.aggs (of_key spec.by rows p.0)) ≡ true
    = none (of_key spec.by rows p.0) (next_tallied (kept_spec spec) rows sent.gone p rest (subst (AreTallied (kept_spec spec) rows) whole (all_tallied (kept_spec spec) rows m all grouped lists))) in
    list_any-IsPermutation (λ g. list_any is_none g.1) (groups spec rows) (map (group_of spec rows) (keys_in all)) (by_entries spec rows m all grouped lists)
    ∙ ap (λ l. list_any (λ g. list_any is_none g.1) (map (group_of spec rows) (keys_in l))) whole
    ∙ found sent.gone here
  where
    or_true : (b : Bool) → (b || true) ≡ true
    or_true true = refl
    or_true false = refl

    found : (gone : List Pair) → list_any is_none (answers spec.aggs (of_key spec.by rows p.0)) ≡ true → list_any (λ g. list_any is_none g.1) (map (group_of spec rows) (keys_in (gone ++ p ∷ rest))) ≡ true
    found [] h = ap (λ b. b || list_any (λ g. list_any is_none g.1) (map (group_of spec rows) (keys_in rest))) h
    found (q ∷ gone) h = ap (λ b. list_any is_none (answers spec.aggs (of_key spec.by rows q.0)) || b) (found gone h) ∙ or_true (list_any is_none (answers spec.aggs (of_key spec.by rows q.0)))
