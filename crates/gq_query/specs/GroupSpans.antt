-- Groups in one list of cells.
use Rattle.std.specs.Prelude.{◌≡◌, ◌≤◌, ◌+◌, ℕ, List, All, length}
use Rattle.std.specs.Ordering.{nat_cmp, ordering_then}
use Rattle.std.specs.declared.cmp.Ordering.{Ordering}
use Rattle.gq_row.specs.declared.value.Value.{Value}
use Rattle.gq_cells.specs.Lists.{part}
use Rattle.gq_row.specs.Order.{compare_keys}
use Rattle.gq_group.specs.Groups.{Group}
use Rattle.gq_query.specs.declared.sort_prefix.SortPrefix.{SortPrefix}
use Rattle.gq_query.specs.declared.group_list.GroupSpan.{GroupSpan}

-- where the cells of a span's key end
abbrev pub middle_of : GroupSpan → ℕ
middle_of span = span.start + span.key

-- where the cells of a span's values end
abbrev pub end_of : GroupSpan → ℕ
end_of span = middle_of span + span.values

-- a span that begins at `start`, with `key` cells of the key and then `values` cells of the values
pub record IsSpan (start key values : ℕ) (span : GroupSpan) : Type 0 where
  pub begins : span.start ≡ start
  pub keyed : span.key ≡ key
  pub valued : span.values ≡ values

-- the group at a span: its key, and its values
abbrev pub group_at : List Value → GroupSpan → Group
group_at cells span = (part cells span.start (middle_of span), part cells (middle_of span) (end_of span))

-- the key at a span
abbrev pub key_at : List Value → GroupSpan → List Value
key_at cells span = part cells span.start (middle_of span)

-- a span is within a list
abbrev pub IsGroupAt : List Value → GroupSpan → Type 0
IsGroupAt cells span = end_of span ≤ length cells

-- a span has this prefix
abbrev pub HasPrefix : SortPrefix → GroupSpan → Type 0
HasPrefix prefix span = span.prefix ≡ prefix

-- a span with this prefix in place of its own
abbrev pub with_prefix : SortPrefix → GroupSpan → GroupSpan
with_prefix prefix span = record { prefix = prefix; start = span.start; key = span.key; values = span.values }

-- the order of two spans: by the two words of their prefixes, and by their keys if these tie
abbrev pub compare_at : List Value → GroupSpan → GroupSpan → Ordering
compare_at cells a b = ordering_then (ordering_then (nat_cmp a.prefix.high b.prefix.high) (nat_cmp a.prefix.low b.prefix.low)) (compare_keys (part cells a.start (middle_of a)) (part cells b.start (middle_of b)))

-- of each two groups, the order by prefixes and then by keys is that of their keys
abbrev pub PrefixesDecide : List Value → List GroupSpan → Type 0
PrefixesDecide cells groups = All (λ a. All (λ b. compare_at cells a b ≡ compare_keys (key_at cells a) (key_at cells b)) groups) groups
