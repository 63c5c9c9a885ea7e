-- The two steps of a rehash in place, by what they write.
use Rattle.std.proofs.Common.{◌≡◌, ◌≢◌, ℕ, ◌/◌, ◌%◌, ◌<◌, true, List, length, set, get_or, slice_index, Option, Some, None, refl, sym, ◌∙◌, arith, get_or-set_other, length-set}
use native.Mathlib.Nat.{mod-lt}
use Rattle.std.proofs.lemmas.Grind.{get_or-set_at}
use Rattle.sw_ctrl.specs.declared.control.TheConstants.{DELETED}
use Rattle.sw_ctrl.specs.Bytes.{is_free}
use Rattle.sw_table.specs.Entries.{entries_in}
use Rattle.sw_table.specs.Free.{First}
use Rattle.sw_table.specs.Settling.{IsSettling}
use Rattle.sw_table.proofs.Bytes.{deleted_is_free}
use Rattle.sw_table.proofs.Settling.{step, step_entries, used_stayed, used_turned}

module _ {K V : Type 0} (class : K → List ℕ) (hash : List ℕ → ℕ) (ps : List (Option (K × V))) (bs : List ℕ) (s : IsSettling class hash ps bs)
    (i : ℕ) (p : K × V) (lt : i < length bs) (deleted : slice_index bs i ≡ DELETED) (there : get_or ps i None ≡ Some p)
    (t : ℕ) (y : ℕ) (is : y ≡ hash (class p.0) % 128) (first : First bs (hash (class p.0)) t) where
  low : y < 128
  low = omega (arith, is, mod-lt (hash (class p.0)) {m = 128} (omega arith))

  -- the entry is in its group already
  pub stays : t / 16 ≡ i / 16 → IsSettling class hash ps (set bs i y)
  stays e =
      let here : First bs (hash (class p.0)) i = (first.0, first.1, sym e ∙ first.2, first.3) in
      step class hash ps bs s i p deleted there i (deleted_is_free _ deleted) y is here ps (set bs i y) refl (length-set bs i y) refl refl (λ k _ _. refl)
      (get_or-set_at bs i i y 0 refl lt) (λ off. absurd (off refl)) (λ k off _. get_or-set_other bs i k y 0 off) (used_stayed bs i y lt deleted low)

  module _ (free : is_free (slice_index bs t) ≡ true) (t_lt : t < length bs) (off : t ≢ i) where
    byte : ℕ
    byte = slice_index bs t

    moved_in : ◌≡◌ {A = Option (K × V)} (get_or (set (set ps i (get_or ps t None)) t (get_or ps i None)) t None) (get_or ps i None)
    moved_in = get_or-set_at (set ps i (get_or ps t None)) t t (get_or ps i None) None refl (omega (arith, t_lt, s.size.0, length-set ps i (get_or ps t None)))

    moved_out : ◌≡◌ {A = Option (K × V)} (get_or (set (set ps i (get_or ps t None)) t (get_or ps i None)) i None) (get_or ps t None)
    moved_out = get_or-set_other (set ps i (get_or ps t None)) t i (get_or ps i None) None (λ e. off (sym e)) ∙ get_or-set_at ps i i (get_or ps t None) None refl (omega (arith, lt, s.size.0))

    untouched : (k : ℕ) → k ≢ i → k ≢ t → ◌≡◌ {A = Option (K × V)} (get_or (set (set ps i (get_or ps t None)) t (get_or ps i None)) k None) (get_or ps k None)
    untouched k a b = get_or-set_other (set ps i (get_or ps t None)) t k (get_or ps i None) None b ∙ get_or-set_other ps i k (get_or ps t None) None a

    sized : length (set (set ps i (get_or ps t None)) t (get_or ps i None)) ≡ length ps
    sized = length-set (set ps i (get_or ps t None)) t (get_or ps i None) ∙ length-set ps i (get_or ps t None)

    sized_bytes : length (set (set bs i (slice_index bs t)) t y) ≡ length bs
    sized_bytes = length-set (set bs i (slice_index bs t)) t y ∙ length-set bs i (slice_index bs t)

    byte_in : slice_index (set (set bs i (slice_index bs t)) t y) t ≡ y
    byte_in = get_or-set_at (set bs i (slice_index bs t)) t t y 0 refl (omega (arith, t_lt, length-set bs i (slice_index bs t)))

    byte_out : i ≢ t → slice_index (set (set bs i (slice_index bs t)) t y) i ≡ slice_index bs t
    byte_out a = get_or-set_other (set bs i (slice_index bs t)) t i y 0 a ∙ get_or-set_at bs i i (slice_index bs t) 0 refl lt

    byte_kept : (k : ℕ) → k ≢ i → k ≢ t → slice_index (set (set bs i (slice_index bs t)) t y) k ≡ slice_index bs k
    byte_kept k a b = get_or-set_other (set bs i (slice_index bs t)) t k y 0 b ∙ get_or-set_other bs i k (slice_index bs t) 0 a

    pub turns : IsSettling class hash (set (set ps i (get_or ps t None)) t (get_or ps i None)) (set (set bs i (slice_index bs t)) t y)
    turns = step class hash ps bs s i p deleted there t free y is first _ _ sized sized_bytes moved_in moved_out untouched byte_in byte_out byte_kept (used_turned bs i y lt deleted low t t_lt off)

    pub turns_entries : entries_in class (set (set ps i (get_or ps t None)) t (get_or ps i None)) ≡ entries_in class ps
    turns_entries = step_entries class hash ps bs s i p deleted there t free y is first _ _ sized sized_bytes moved_in moved_out untouched byte_in byte_out byte_kept (used_turned bs i y lt deleted low t t_lt off)
