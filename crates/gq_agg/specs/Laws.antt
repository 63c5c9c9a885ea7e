-- What the definitions of aggregates imply, in the subject's own words.
use Rattle.std.specs.Prelude.{◌≡◌, ◌+◌, ◌||◌, true, false, List, [], ◌∷◌, ◌++◌, length, map, if◌then◌else◌, IsPermutation}
use Rattle.std.specs.List.{list_any}
use Rattle.std.specs.Ordering.{is_lt}
use Rattle.gq_row.specs.declared.value.Value.{Value}
use Rattle.gq_row.specs.declared.value.Value.TheVariants.{Null}
use Rattle.gq_row.specs.Fitting.{is_null}
use Rattle.gq_row.specs.Folding.{folded}
use Rattle.gq_row.specs.Order.{compare_values, equal_value, same_value}
use Rattle.gq_row.specs.Repeats.{without_repeats}
use Rattle.gq_agg.specs.declared.kind.AggKind.{AggKind}
use Rattle.gq_agg.specs.declared.kind.AggKind.TheVariants.{Count, Sum, Min, Max}
use Rattle.gq_agg.specs.Aggregates.{aggregate}
use Rattle.gq_agg.specs.Values.{present, different, least, greatest}

-- the order of values makes no difference to their aggregates
abbrev pub OrderIsUnseen : Type 0
OrderIsUnseen = (kind : AggKind) (xs ys : List Value) → IsPermutation xs ys → aggregate kind xs ≡ aggregate kind ys

-- nulls make no difference, but to the count of all rows
pub record NullsAreUnseen : Type 0 where
  pub count : (values : List Value) → aggregate Count (present values) ≡ aggregate Count values
  pub sum : (values : List Value) → aggregate Sum (present values) ≡ aggregate Sum values
  pub min : (values : List Value) → aggregate Min (present values) ≡ aggregate Min values
  pub max : (values : List Value) → aggregate Max (present values) ≡ aggregate Max values

-- the minimum is one of the values that aren't null, and none of them comes before it; the maximum likewise;
-- both are null if there are no such values
pub record EndsAreReached : Type 0 where
  pub least_none : (values : List Value) → present values ≡ [] → least values ≡ Null
  pub least_is_one : (values : List Value) → (present values ≡ [] → ⊥) → list_any (equal_value (least values)) (present values) ≡ true
  pub none_before : (values : List Value) → list_any (λ v. is_lt (compare_values v (least values))) (present values) ≡ false
  pub greatest_none : (values : List Value) → present values ≡ [] → greatest values ≡ Null
  pub greatest_is_one : (values : List Value) → (present values ≡ [] → ⊥) → list_any (equal_value (greatest values)) (present values) ≡ true
  pub none_behind : (values : List Value) → list_any (λ v. is_lt (compare_values (greatest values) v)) (present values) ≡ false

-- the number of distinct values: of no values it is 0; one more value counts unless it is null or the same as
-- one before it; it is the number of distinct folds; the order makes no difference
pub record DifferentAreCounted : Type 0 where
  pub none : different [] ≡ 0
  pub one_more : (values : List Value) (v : Value) → different (values ++ v ∷ []) ≡ (if is_null v || list_any (same_value v) values then different values else different values + 1)
  pub folds : (values : List Value) → different values ≡ length (without_repeats equal_value (map folded (present values)))
  pub order : (xs ys : List Value) → IsPermutation xs ys → different xs ≡ different ys
