-- What a request for room promises.
use Rattle.std.specs.Prelude.{◌≡◌, ◌↔◌, ℕ, ◌^◌, ◌<◌, ◌≤◌, List, Result, Err, IsOk, OnErr}
use Rattle.std.specs.FinMap.{empty}
use Rattle.sw_table.specs.declared.refused.Why.{Why}
use Rattle.sw_table.specs.declared.refused.Why.TheVariants.{Limit}
use Rattle.sw_table.specs.View.{View, slot_count, fresh}
use Rattle.sw_table.specs.Entries.{entries}
use Rattle.sw_table.specs.Sizes.{room_of, IsCapacity}

-- the error is `Limit` exactly if no capacity has room for `n` entries
abbrev pub RefusesPast : {T : Type 0} → ℕ → Result T Why → Type 0
RefusesPast n r = (r ≡ Err Limit) ↔ (room_of (2 ^ 28) < n)

module _ {K V H : Type 0} where
  -- an empty table, of the smallest capacity that has room for `n` entries
  pub record IsMadeFor (class : K → List ℕ) (hasher : H) (n : ℕ) (t : View K V H) : Type 0 where
    pub table : t ≡ fresh (slot_count t) hasher
    pub entries : entries class t ≡ empty
    pub room : n ≤ room_of (slot_count t)
    pub least : (c : ℕ) → IsCapacity c → n ≤ room_of c → slot_count t ≤ c

  -- there are at least as many slots as before, and at most as many as the smallest capacity from there on with
  -- room for `n` entries
  pub record GrowsFor (n : ℕ) (old new : View K V H) : Type 0 where
    pub grows : slot_count old ≤ slot_count new
    pub least : (c : ℕ) → IsCapacity c → n ≤ room_of c → slot_count old ≤ c → slot_count new ≤ c

  -- if there was room for `n` entries nothing is done, and an error leaves the table unchanged
  pub record RefusesRoom (n : ℕ) {T : Type 0} (r : Result T Why) (old new : View K V H) : Type 0 where
    pub enough : n ≤ room_of (slot_count old) → IsOk r × (new ≡ old)
    pub unchanged : OnErr r (new ≡ old)
    pub limit : RefusesPast n r
