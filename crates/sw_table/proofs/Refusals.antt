-- What a call answers that makes room, or refuses it.
use Rattle.std.proofs.Common.{◌≡◌, ℕ, ◌^◌, ◌<◌, ◌≤◌, List, length, replicate, Option, None, Result, Ok, Err, sym, ap, ◌∙◌, subst, arith}
use Rattle.std.proofs.lemmas.List.{length-replicate}
use Rattle.sw_ctrl.specs.declared.control.TheConstants.{EMPTY}
use Rattle.sw_table.specs.declared.refused.Why.{Why}
use Rattle.sw_table.specs.declared.refused.Why.TheVariants.{Limit, Memory}
use Rattle.sw_table.specs.Entries.{entries_in}
use Rattle.sw_table.specs.Room.{IsMadeFor}
use Rattle.sw_table.specs.Sizes.{IsCapacity, room_of}
use Rattle.sw_table.specs.View.{table_view}
use Rattle.sw_table.proofs.Capacities.{small}
use Rattle.sw_table.proofs.MovedEntries.{no_entries}

-- what is no Limit, where the capacity is one
pub no_limit : {X : Type 0} (r : Result X Why) → (r ≡ Err Limit → ⊥) → (c n : ℕ) → IsCapacity c → n ≤ room_of c → (r ≡ Err Limit → room_of (2 ^ 28) < n) × (room_of (2 ^ 28) < n → r ≡ Err Limit)
no_limit r other c n is fits = (λ e. absurd (other e), λ lt. absurd (omega (arith, small c is, fits, lt)))

pub memory_case : {X : Type 0} (c n : ℕ) → IsCapacity c → n ≤ room_of c → (◌≡◌ {A = Result X Why} (Err Memory) (Err Limit) → room_of (2 ^ 28) < n) × (room_of (2 ^ 28) < n → ◌≡◌ {A = Result X Why} (Err Memory) (Err Limit))
memory_case {X} = no_limit (Err Memory) not_limit
  where
    not_limit : ◌≡◌ {A = Result X Why} (Err Memory) (Err Limit) → ⊥
    not_limit e = cc

pub ok_case : {X : Type 0} (x : X) (c n : ℕ) → IsCapacity c → n ≤ room_of c → (◌≡◌ {A = Result X Why} (Ok x) (Err Limit) → room_of (2 ^ 28) < n) × (room_of (2 ^ 28) < n → ◌≡◌ {A = Result X Why} (Ok x) (Err Limit))
ok_case {X} x = no_limit (Ok x) not_limit
  where
    not_limit : ◌≡◌ {A = Result X Why} (Ok x) (Err Limit) → ⊥
    not_limit e = cc

-- empty blocks of the least capacity with room for n entries are such a table
pub made_for : {K V H : Type 0} (class : K → List ℕ) (hasher : H) (n capacity : ℕ) (ps : List (Option (K × V))) (bs : List ℕ) → ps ≡ replicate capacity None → bs ≡ replicate capacity EMPTY
    → n ≤ room_of capacity → ((c : ℕ) → IsCapacity c → n ≤ room_of c → capacity ≤ c) → IsMadeFor class hasher n (table_view ps bs hasher)
made_for class hasher n capacity ps bs vacant empty fits least =
    let long : length bs ≡ capacity = ap length empty ∙ length-replicate capacity EMPTY in
    let slots : ps ≡ replicate (length bs) None = vacant ∙ ap (λ k. replicate k None) (sym long) in
    let bytes : bs ≡ replicate (length bs) EMPTY = empty ∙ ap (λ k. replicate k EMPTY) (sym long) in
    record {
      table = λ i. table_view (slots i) (bytes i) hasher;
      entries = ap (entries_in class) vacant ∙ no_entries class capacity;
      room = subst (λ k. n ≤ room_of k) (sym long) fits;
      least = λ c is room. subst (λ k. k ≤ c) (sym long) (least c is room);
    }
