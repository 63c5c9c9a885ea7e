-- Whether a command is within the limits of a line, form by form.
use Rattle.std.proofs.Common.{◌≡◌, ℕ, Bool, true, false, List, ◌++◌, Option, Some, None, length, refl, sym, ap, ◌∙◌}
use Rattle.std.proofs.Math.Dec.{leb-zero}
use Rattle.std.proofs.lemmas.List.Folds.{list_all-append, list_all-map}
use Rattle.std.specs.Prelude.{◌&&◌, nat_le}
use Rattle.std.specs.List.{list_all, flat_map}
use Rattle.gq_row.specs.declared.limits.Bounds.{Bounds}
use Rattle.gq_row.specs.declared.schema.Column.{Column}
use Rattle.gq_row.specs.declared.value.Value.{Value}
use Rattle.gq_clause.specs.declared.aggregate.Aggregate.{Aggregate}
use Rattle.gq_clause.specs.declared.condition.Test.{Test}
use Rattle.gq_clause.proofs.Within.{all_of, all_both}
use Rattle.gq_command.specs.declared.command.By.{By}
use Rattle.gq_command.specs.declared.command.Exists.{Exists}
use Rattle.gq_command.specs.declared.command.Command.TheVariants.{Create, Upsert, Delete, Group, Distinct}
use Rattle.gq_command.specs.Commands.{Bytes, aggregate_names, column_names, exists_fits, exists_names, fits, is_at_most, literal_texts, test_fits, test_names, test_texts}

from_zero : (n : ℕ) → nat_le 0 n ≡ true
from_zero n = leb-zero n

and_true : (a : Bool) → a && true ≡ a
and_true true = refl
and_true false = refl

and_assoc : (a b c : Bool) → (a && b) && c ≡ a && (b && c)
and_assoc true b c = refl
and_assoc false b c = refl

pub create_fits : (b : Bounds) (t : Bytes) (columns : List Column) (key : List Bytes) → fits b (Create t columns key) ≡ is_at_most b.name t && (list_all (λ c. is_at_most b.name c.name) columns && (list_all (is_at_most b.name) key && nat_le (length columns) b.columns))
create_fits b t columns key =
    let p = is_at_most b.name in
    let cs = list_all (λ (c : Column). p c.name) columns in
    let ks = list_all p key in
    let n = nat_le (length columns) b.columns in
    let named : list_all p (column_names columns ++ key) ≡ cs && ks = list_all-append p (column_names columns) key ∙ ap (λ (v : Bool). v && ks) (list_all-map p (λ (c : Column). c.name) columns) in
    ap (λ (v : Bool). (p t && v) && (n && nat_le 0 b.aggregates)) named ∙ ap (λ (v : Bool). (p t && (cs && ks)) && (n && v)) (from_zero b.aggregates)
    ∙ ap (λ (v : Bool). (p t && (cs && ks)) && v) (and_true n) ∙ and_assoc (p t) (cs && ks) n ∙ ap (λ (v : Bool). p t && v) (and_assoc cs ks n)

pub upsert_fits : (b : Bounds) (t : Bytes) (values : List Value) → fits b (Upsert t values) ≡ is_at_most b.name t && list_all (λ v. list_all (is_at_most b.text) (literal_texts v)) values
upsert_fits b t values =
    let p = is_at_most b.name t in
    let q = is_at_most b.text in
    let vs = list_all (λ v. list_all q (literal_texts v)) values in
    ap (λ (v : Bool). (p && true) && (v && (nat_le 0 b.columns && nat_le 0 b.aggregates))) (all_of q literal_texts values)
    ∙ ap (λ (v : Bool). (p && true) && (vs && (v && nat_le 0 b.aggregates))) (from_zero b.columns) ∙ ap (λ (v : Bool). (p && true) && (vs && v)) (from_zero b.aggregates)
    ∙ ap (λ (v : Bool). v && (vs && true)) (and_true p) ∙ ap (λ (v : Bool). p && v) (and_true vs)

pub delete_fits : (b : Bounds) (t : Bytes) (values : List Value) → fits b (Delete t values) ≡ is_at_most b.name t && list_all (λ v. list_all (is_at_most b.text) (literal_texts v)) values
delete_fits b t values = upsert_fits b t values

exists_all : (most : ℕ) (e : Option Exists) → list_all (is_at_most most) (exists_names e) ≡ exists_fits most e
exists_all most None = refl
exists_all most (Some e) = ap (λ (v : Bool). is_at_most most e.table && v) (list_all-append (is_at_most most) e.theirs e.ours)

tests_whole : (b : Bounds) (tests : List Test) → list_all (is_at_most b.name) (flat_map test_names tests) && list_all (is_at_most b.text) (flat_map test_texts tests) ≡ list_all (test_fits b) tests
tests_whole b tests =
    let named : Test → Bool = λ t. list_all (is_at_most b.name) (test_names t) in
    let written : Test → Bool = λ t. list_all (is_at_most b.text) (test_texts t) in
    ap (λ (v : Bool). v && list_all (is_at_most b.text) (flat_map test_texts tests)) (all_of (is_at_most b.name) test_names tests)
    ∙ ap (λ (v : Bool). list_all named tests && v) (all_of (is_at_most b.text) test_texts tests)
    ∙ sym (all_both named written tests)

arranged : (c t u e h w : Bool) → (t && (e && h)) && ((u && w) && c) ≡ c && ((t && u) && (e && (h && w)))
arranged true false u e h w = refl
arranged true true true false h w = refl
arranged true true true true false w = refl
arranged true true true true true true = refl
arranged true true true true true false = refl
arranged true true false false h w = refl
arranged true true false true false w = refl
arranged true true false true true w = refl
arranged false false u e h w = refl
arranged false true u false h w = refl
arranged false true u true false w = refl
arranged false true false true true w = refl
arranged false true true true true false = refl
arranged false true true true true true = refl

sorted : (p b a c t u e h w : Bool) → (p && (b && (a && (t && (e && h))))) && ((u && w) && c) ≡ (p && (b && (a && c))) && ((t && u) && (e && (h && w)))
sorted false b a c t u e h w = refl
sorted true false a c t u e h w = refl
sorted true true false c t u e h w = refl
sorted true true true c t u e h w = arranged c t u e h w

pub group_fits : (b : Bounds) (t : Bytes) (by : By) (shown : List Aggregate) (tests : List Test) (exists : Option Exists) (having : List Test)
    → fits b (Group t by shown tests exists having)
    ≡ (is_at_most b.name t && (list_all (is_at_most b.name) by.columns && (list_all (λ a. list_all (is_at_most b.name) (aggregate_names a)) shown && nat_le (length shown) b.aggregates)))
    && (list_all (test_fits b) tests && (exists_fits b.name exists && list_all (test_fits b) having))
group_fits b t by shown tests exists having =
    let p : Bytes → Bool = is_at_most b.name in
    let q : Bytes → Bool = is_at_most b.text in
    let pt : Bool = p t in
    let bs : Bool = list_all p by.columns in
    let cs : Bool = list_all (λ a. list_all p (aggregate_names a)) shown in
    let n : Bool = nat_le (length shown) b.aggregates in
    let ts : Bool = list_all p (flat_map test_names tests) in
    let us : Bool = list_all q (flat_map test_texts tests) in
    let es : Bool = exists_fits b.name exists in
    let hs : Bool = list_all p (flat_map test_names having) in
    let ws : Bool = list_all q (flat_map test_texts having) in
    let behind_exists : list_all p (exists_names exists ++ flat_map test_names having) ≡ es && hs =
    list_all-append p (exists_names exists) (flat_map test_names having) ∙ ap (λ (v : Bool). v && hs) (exists_all b.name exists) in
    let behind_tests : list_all p (flat_map test_names tests ++ (exists_names exists ++ flat_map test_names having)) ≡ ts && (es && hs) =
    list_all-append p (flat_map test_names tests) (exists_names exists ++ flat_map test_names having) ∙ ap (λ (v : Bool). ts && v) behind_exists in
    let behind_shown : list_all p (flat_map aggregate_names shown ++ (flat_map test_names tests ++ (exists_names exists ++ flat_map test_names having))) ≡ cs && (ts && (es && hs)) =
    list_all-append p (flat_map aggregate_names shown) (flat_map test_names tests ++ (exists_names exists ++ flat_map test_names having))
    ∙ ap (λ (v : Bool). v && list_all p (flat_map test_names tests ++ (exists_names exists ++ flat_map test_names having))) (all_of p aggregate_names shown) ∙ ap (λ (v : Bool). cs && v) behind_tests in
    let named : list_all p (by.columns ++ (flat_map aggregate_names shown ++ (flat_map test_names tests ++ (exists_names exists ++ flat_map test_names having)))) ≡ bs && (cs && (ts && (es && hs))) =
    list_all-append p by.columns (flat_map aggregate_names shown ++ (flat_map test_names tests ++ (exists_names exists ++ flat_map test_names having))) ∙ ap (λ (v : Bool). bs && v) behind_shown in
    ap (λ (v : Bool). (pt && v) && (list_all q (flat_map test_texts tests ++ flat_map test_texts having) && (nat_le 0 b.columns && n))) named
    ∙ ap (λ (v : Bool). (pt && (bs && (cs && (ts && (es && hs))))) && (v && (nat_le 0 b.columns && n))) (list_all-append q (flat_map test_texts tests) (flat_map test_texts having))
    ∙ ap (λ (v : Bool). (pt && (bs && (cs && (ts && (es && hs))))) && ((us && ws) && (v && n))) (from_zero b.columns)
    ∙ sorted pt bs cs n ts us es hs ws
    ∙ ap (λ (v : Bool). (pt && (bs && (cs && n))) && (v && (es && (hs && ws)))) (tests_whole b tests)
    ∙ ap (λ (v : Bool). (pt && (bs && (cs && n))) && (list_all (test_fits b) tests && (es && v))) (tests_whole b having)

paired : (p o t u : Bool) → (p && (o && t)) && (u && true) ≡ p && (o && (t && u))
paired false o t u = refl
paired true false t u = refl
paired true true t u = ap (λ (v : Bool). t && v) (and_true u)

pub distinct_fits : (b : Bounds) (t : Bytes) (on : List Bytes) (tests : List Test) → fits b (Distinct t on tests) ≡ is_at_most b.name t && (list_all (is_at_most b.name) on && list_all (test_fits b) tests)
distinct_fits b t on tests =
    let p : Bytes → Bool = is_at_most b.name in
    let q : Bytes → Bool = is_at_most b.text in
    let pt : Bool = p t in
    let os : Bool = list_all p on in
    let ts : Bool = list_all p (flat_map test_names tests) in
    let us : Bool = list_all q (flat_map test_texts tests) in
    ap (λ (v : Bool). (pt && v) && (us && (nat_le 0 b.columns && nat_le 0 b.aggregates))) (list_all-append p on (flat_map test_names tests))
    ∙ ap (λ (v : Bool). (pt && (os && ts)) && (us && (v && nat_le 0 b.aggregates))) (from_zero b.columns)
    ∙ ap (λ (v : Bool). (pt && (os && ts)) && (us && v)) (from_zero b.aggregates)
    ∙ paired pt os ts us
    ∙ ap (λ (v : Bool). pt && (os && v)) (tests_whole b tests)
