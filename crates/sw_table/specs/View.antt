-- What contracts see of a table.
use Rattle.std.specs.Prelude.{◌≢◌, ℕ, ◌<◌, List, length, replicate, slice_index, slice_set, Option, None, IsSome, refl}
use Rattle.std.specs.Option.{option_map}
use Rattle.std.specs.Coded.{Coded, code_by, coded×, coded_list, coded_ℕ, coded_option}
use Rattle.sw_ctrl.specs.declared.control.TheConstants.{EMPTY, DELETED}
use Rattle.sw_slots.specs.Place.{place}

-- what contracts see of a table: what each slot holds, the control byte of each slot, and the hasher
pub record View (K V H : Type 0) : Type 0 where
  pub places : List (Option (K × V))
  pub bytes : List ℕ
  pub hasher : H

module _ {K V H : Type 0} where
  abbrev pub table_view : List (Option (K × V)) → List ℕ → H → View K V H
  table_view ps bs h = record { places = ps; bytes = bs; hasher = h }

  abbrev pub view_code : Coded K → Coded V → Coded H → Coded (View K V H)
  view_code k v h =
      code_by (List (Option (K × V)) × (List ℕ × H)) (coded× (coded_list (coded_option (coded× k v))) (coded× (coded_list coded_ℕ) h))
      (λ t. (t.places, (t.bytes, t.hasher))) (λ p. table_view p.0 p.1.0 p.1.1) (λ _. refl)

  -- the number of slots
  abbrev pub slot_count : View K V H → ℕ
  slot_count t = length t.bytes

  -- the entry in slot `i`
  abbrev pub entry_at : View K V H → ℕ → Option (K × V)
  entry_at t i = place t.places i

  -- slot `i` has an entry
  abbrev pub IsFull : View K V H → ℕ → Type 0
  IsFull t i = IsSome (entry_at t i)

  -- no byte is deleted
  abbrev pub NoneDeleted : View K V H → Type 0
  NoneDeleted t = (i : ℕ) → i < slot_count t → slice_index t.bytes i ≢ DELETED

  -- a table of `n` empty slots
  abbrev pub fresh : ℕ → H → View K V H
  fresh n h = table_view (replicate n None) (replicate n EMPTY) h

  -- the table with another value in slot `i`
  abbrev pub with_value : View K V H → ℕ → V → View K V H
  with_value t i w = record t { places = slice_set t.places i (option_map (λ p. (p.0, w)) (entry_at t i)) }

  -- the table with another key in slot `i`
  abbrev pub with_key : View K V H → ℕ → K → View K V H
  with_key t i k = record t { places = slice_set t.places i (option_map (λ p. (k, p.1)) (entry_at t i)) }
