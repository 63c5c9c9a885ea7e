-- Items with the numbers of their lines.
use Rattle.std.proofs.Common.{◌≡◌, ℕ, suc, ◌+◌, Bool, true, false, cond, List, [], ◌∷◌, ◌++◌, length, Option, Some, None, refl, sym, ap, subst, ◌∙◌, arith, append_assoc, length-append}
use Rattle.std.proofs.lemmas.List.{append-nil}
use Rattle.std.proofs.lemmas.List.Elements.{All-cons, All-nil}
use Rattle.std.specs.List.{All}
use Rattle.gq_row.specs.declared.limits.Bounds.{Bounds}
use Rattle.gq_token.specs.Texts.{Bytes}
use Rattle.gq_script.specs.Script.{Entry, Loading, Plain, content, entries_by, is_end_mark, is_skipped, items_left, line_of, payload_of, raw_lines, takes_payload, without_mark}
use Rattle.gq_script.specs.Numbering.{Begun, Numbered, NumbersTell, IsLineAt, entries_of, numbered_by, numbered_left}

-- a line outside of a payload

pub no_items : (loads : Bytes → Bool) (n : ℕ) → numbered_by loads n None [] ≡ []
unfolding numbered_by
no_items loads n = refl

-- a load that began at a line with this number
abbrev pub begun_at : ℕ → Bytes → Begun
begun_at number line = record { number = number; line = line; payload = [] }

pub skipped_line : (loads : Bytes → Bool) (n : ℕ) (raw : Bytes) (ls : List Bytes) → is_skipped (content raw) ≡ true → numbered_by loads n None (raw ∷ ls) ≡ numbered_by loads (suc n) None ls
unfolding numbered_by
skipped_line loads n raw ls e =
    ap (λ (t : Bool). cond t (numbered_by loads (suc n) None ls) (cond (loads (content raw)) (numbered_by loads (suc n) (Some (begun_at (suc n) (content raw))) ls) ((record { number = suc n; entry = Plain (content raw) }) ∷ numbered_by loads (suc n) None ls))) e

pub item_line : (loads : Bytes → Bool) (n : ℕ) (raw : Bytes) (ls : List Bytes) → is_skipped (content raw) ≡ false
    → numbered_by loads n None (raw ∷ ls) ≡ cond (loads (content raw)) (numbered_by loads (suc n) (Some (begun_at (suc n) (content raw))) ls) ((record { number = suc n; entry = Plain (content raw) }) ∷ numbered_by loads (suc n) None ls)
unfolding numbered_by
item_line loads n raw ls e =
    ap (λ (t : Bool). cond t (numbered_by loads (suc n) None ls) (cond (loads (content raw)) (numbered_by loads (suc n) (Some (begun_at (suc n) (content raw))) ls) ((record { number = suc n; entry = Plain (content raw) }) ∷ numbered_by loads (suc n) None ls))) e

pub plain_line : (loads : Bytes → Bool) (n : ℕ) (raw : Bytes) (ls : List Bytes) → is_skipped (content raw) ≡ false → loads (content raw) ≡ false → numbered_by loads n None (raw ∷ ls) ≡ (record { number = suc n; entry = Plain (content raw) }) ∷ numbered_by loads (suc n) None ls
plain_line loads n raw ls e q =
    item_line loads n raw ls e ∙ ap (λ (t : Bool). cond t (numbered_by loads (suc n) (Some (begun_at (suc n) (content raw))) ls) ((record { number = suc n; entry = Plain (content raw) }) ∷ numbered_by loads (suc n) None ls)) q

pub load_line : (loads : Bytes → Bool) (n : ℕ) (raw : Bytes) (ls : List Bytes) → is_skipped (content raw) ≡ false → loads (content raw) ≡ true → numbered_by loads n None (raw ∷ ls) ≡ numbered_by loads (suc n) (Some (begun_at (suc n) (content raw))) ls
load_line loads n raw ls e q =
    item_line loads n raw ls e ∙ ap (λ (t : Bool). cond t (numbered_by loads (suc n) (Some (begun_at (suc n) (content raw))) ls) ((record { number = suc n; entry = Plain (content raw) }) ∷ numbered_by loads (suc n) None ls)) q

-- a line of a payload

pub goes_on : (loads : Bytes → Bool) (m : ℕ) (begun : Begun) (raw : Bytes) (ls : List Bytes) → is_end_mark (content raw) ≡ false
    → numbered_by loads m (Some begun) (raw ∷ ls) ≡ numbered_by loads (suc m) (Some (record begun { payload = begun.payload ++ raw })) ls
unfolding numbered_by
goes_on loads m begun raw ls e = ap (λ (t : Bool). cond t ((record { number = begun.number; entry = Loading begun.line (Some begun.payload) }) ∷ numbered_by loads (suc m) None ls) (numbered_by loads (suc m) (Some (record begun { payload = begun.payload ++ raw })) ls)) e

pub ends_here : (loads : Bytes → Bool) (m : ℕ) (begun : Begun) (raw : Bytes) (ls : List Bytes) → is_end_mark (content raw) ≡ true
    → numbered_by loads m (Some begun) (raw ∷ ls) ≡ (record { number = begun.number; entry = Loading begun.line (Some begun.payload) }) ∷ numbered_by loads (suc m) None ls
unfolding numbered_by
ends_here loads m begun raw ls e = ap (λ (t : Bool). cond t ((record { number = begun.number; entry = Loading begun.line (Some begun.payload) }) ∷ numbered_by loads (suc m) None ls) (numbered_by loads (suc m) (Some (record begun { payload = begun.payload ++ raw })) ls)) e

-- a payload, by what is known of it: if it ends, the items after it follow as many lines as were taken

abbrev After : (Bytes → Bool) → ℕ → Begun → List Bytes → List Numbered → Option (Bytes × List Bytes) → Type 0
After loads n begun ls xs None = xs ≡ (record { number = begun.number; entry = Loading begun.line None }) ∷ []
After loads n begun ls xs (Some x) = (m : ℕ) → m + length x.1 ≡ n + length ls → xs ≡ (record { number = begun.number; entry = Loading begun.line (Some (begun.payload ++ x.0)) }) ∷ numbered_by loads m None x.1

after : (loads : Bytes → Bool) (n : ℕ) (begun : Begun) (ls : List Bytes) → After loads n begun ls (numbered_by loads n (Some begun) ls) (payload_of ls)
unfolding numbered_by
after loads n begun [] = refl
after loads n begun (l ∷ ls) = by_mark (is_end_mark (content l)) refl (after loads (suc n) (record begun { payload = begun.payload ++ l }) ls)
  where
    by_rest : (o : Option (Bytes × List Bytes)) → is_end_mark (content l) ≡ false → After loads (suc n) (record begun { payload = begun.payload ++ l }) ls (numbered_by loads (suc n) (Some (record begun { payload = begun.payload ++ l })) ls) o
        → After loads n begun (l ∷ ls) (numbered_by loads n (Some begun) (l ∷ ls)) (elim o [ None ↦ None | Some x ↦ Some (l ++ x.0, x.1) ])
    by_rest None e next = goes_on loads n begun l ls e ∙ next
    by_rest (Some x) e next = λ m h.
        let k : m + length x.1 ≡ suc n + length ls = omega arith in
        goes_on loads n begun l ls e ∙ next m k ∙ ap (λ (p : Bytes). (record { number = begun.number; entry = Loading begun.line (Some p) }) ∷ numbered_by loads m None x.1) (append_assoc begun.payload l x.0)

    by_mark : (t : Bool) → is_end_mark (content l) ≡ t → After loads (suc n) (record begun { payload = begun.payload ++ l }) ls (numbered_by loads (suc n) (Some (record begun { payload = begun.payload ++ l })) ls) (payload_of ls)
        → After loads n begun (l ∷ ls) (numbered_by loads n (Some begun) (l ∷ ls)) (payload_of (l ∷ ls))
    by_mark true e next =
        let o : payload_of (l ∷ ls) ≡ Some ([], ls) = ap (λ (b : Bool). cond b (Some ([], ls)) (elim (payload_of ls) [ None ↦ None | Some x ↦ Some (l ++ x.0, x.1) ])) e in
        subst (After loads n begun (l ∷ ls) (numbered_by loads n (Some begun) (l ∷ ls))) (sym o)
        (λ m h.
        let k : suc n ≡ m = omega arith in
        ends_here loads n begun l ls e
        ∙ ap (λ (p : Bytes). (record { number = begun.number; entry = Loading begun.line (Some p) }) ∷ numbered_by loads (suc n) None ls) (sym (append-nil begun.payload))
        ∙ ap (λ (j : ℕ). (record { number = begun.number; entry = Loading begun.line (Some (begun.payload ++ [])) }) ∷ numbered_by loads j None ls) k)
    by_mark false e next =
        let o : payload_of (l ∷ ls) ≡ elim (payload_of ls) [ None ↦ None | Some x ↦ Some (l ++ x.0, x.1) ] = ap (λ (b : Bool). cond b (Some ([], ls)) (elim (payload_of ls) [ None ↦ None | Some x ↦ Some (l ++ x.0, x.1) ])) e in
        subst (After loads n begun (l ∷ ls) (numbered_by loads n (Some begun) (l ∷ ls))) (sym o) (by_rest (payload_of ls) e next)

pub left_open : (loads : Bytes → Bool) (n : ℕ) (begun : Begun) (ls : List Bytes) → payload_of ls ≡ None → numbered_by loads n (Some begun) ls ≡ (record { number = begun.number; entry = Loading begun.line None }) ∷ []
left_open loads n begun ls e = subst (After loads n begun ls (numbered_by loads n (Some begun) ls)) e (after loads n begun ls)

pub closed_after : (loads : Bytes → Bool) (n m : ℕ) (begun : Begun) (ls : List Bytes) (x : Bytes × List Bytes) → payload_of ls ≡ Some x → m + length x.1 ≡ n + length ls
    → numbered_by loads n (Some begun) ls ≡ (record { number = begun.number; entry = Loading begun.line (Some (begun.payload ++ x.0)) }) ∷ numbered_by loads m None x.1
closed_after loads n m begun ls x e h = subst (After loads n begun ls (numbered_by loads n (Some begun) ls)) e (after loads n begun ls) m h

-- without their numbers

record Same (loads : Bytes → Bool) (n : ℕ) (ls : List Bytes) : Type 0 where
  pub none : entries_of (numbered_by loads n None ls) ≡ entries_by loads None ls
  pub some : (begun : Begun) → entries_of (numbered_by loads n (Some begun) ls) ≡ entries_by loads (Some (begun.line, begun.payload)) ls

same_items : (loads : Bytes → Bool) (n : ℕ) (ls : List Bytes) → Same loads n ls
unfolding numbered_by entries_by
same_items loads n [] = record { none = refl; some = λ begun. refl }
same_items loads n (l ∷ ls) =
    let rest = same_items loads (suc n) ls in
    record { none = by_skip (is_skipped (content l)) rest; some = λ begun. by_mark begun (is_end_mark (content l)) rest }
  where
    by_load : (t : Bool) → Same loads (suc n) ls
        → entries_of (cond t (numbered_by loads (suc n) (Some (record { number = suc n; line = content l; payload = [] })) ls) ((record { number = suc n; entry = Plain (content l) }) ∷ numbered_by loads (suc n) None ls)) ≡ cond t (entries_by loads (Some (content l, [])) ls) (Plain (content l) ∷ entries_by loads None ls)
    by_load true rest = rest.some (record { number = suc n; line = content l; payload = [] })
    by_load false rest = ap (λ (es : List Entry). Plain (content l) ∷ es) rest.none

    by_skip : (t : Bool) → Same loads (suc n) ls
        → entries_of (cond t (numbered_by loads (suc n) None ls) (cond (loads (content l)) (numbered_by loads (suc n) (Some (record { number = suc n; line = content l; payload = [] })) ls) ((record { number = suc n; entry = Plain (content l) }) ∷ numbered_by loads (suc n) None ls))) ≡ cond t (entries_by loads None ls) (cond (loads (content l)) (entries_by loads (Some (content l, [])) ls) (Plain (content l) ∷ entries_by loads None ls))
    by_skip true rest = rest.none
    by_skip false rest = by_load (loads (content l)) rest

    by_mark : (begun : Begun) (t : Bool) → Same loads (suc n) ls
        → entries_of (cond t ((record { number = begun.number; entry = Loading begun.line (Some begun.payload) }) ∷ numbered_by loads (suc n) None ls) (numbered_by loads (suc n) (Some (record begun { payload = begun.payload ++ l })) ls)) ≡ cond t (Loading begun.line (Some begun.payload) ∷ entries_by loads None ls) (entries_by loads (Some (begun.line, begun.payload ++ l)) ls)
    by_mark begun true rest = ap (λ (es : List Entry). Loading begun.line (Some begun.payload) ∷ es) rest.none
    by_mark begun false rest = rest.some (record begun { payload = begun.payload ++ l })

pub numbered_items : (b : Bounds) (n : ℕ) (bytes : Bytes) → entries_of (numbered_left b n bytes) ≡ items_left b bytes
numbered_items b n bytes = (same_items (takes_payload b) n (raw_lines bytes)).none

none_mapped : (xs : List Numbered) → ◌≡◌ {A = List Entry} (entries_of xs) [] → xs ≡ []
none_mapped [] e = refl
none_mapped (x ∷ xs) e = absurd cc

pub none_numbered : (b : Bounds) (n : ℕ) (bytes : Bytes) → items_left b bytes ≡ [] → numbered_left b n bytes ≡ []
none_numbered b n bytes e = none_mapped (numbered_left b n bytes) (numbered_items b n bytes ∙ e)

-- each at its line

module _ (loads : Bytes → Bool) (lines : List Bytes) where
  abbrev AreLinesAt : List Numbered → Type 0
  AreLinesAt xs = All (IsLineAt lines) xs

  record Placed (n : ℕ) (ls : List Bytes) : Type 0 where
    pub none : AreLinesAt (numbered_by loads n None ls)
    pub some : (begun : Begun) → ((given : Option Bytes) → IsLineAt lines (record { number = begun.number; entry = Loading begun.line given })) → AreLinesAt (numbered_by loads n (Some begun) ls)

  all_placed : (n : ℕ) (front ls : List Bytes) → lines ≡ front ++ ls → n ≡ length front → Placed n ls
  unfolding numbered_by
  all_placed n front [] are count = record { none = All-nil (IsLineAt lines); some = λ begun at. All-cons (IsLineAt lines) (record { number = begun.number; entry = Loading begun.line None }) [] (at None) (All-nil (IsLineAt lines)) }
  all_placed n front (l ∷ ls) are count =
      let more : lines ≡ (front ++ l ∷ []) ++ ls = are ∙ sym (append_assoc front (l ∷ []) ls) in
      let long : length (front ++ l ∷ []) ≡ suc (length front) = length-append front (l ∷ []) ∙ omega arith in
      let rest = all_placed (suc n) (front ++ l ∷ []) ls more (ap suc count ∙ sym long) in
      record { none = by_skip (is_skipped (content l)) rest; some = λ begun at. by_mark begun at (is_end_mark (content l)) rest }
    where
      here : (e : Entry) → line_of e ≡ content l → IsLineAt lines (record { number = suc n; entry = e })
      here e is = record { front = front; raw = l; rest = ls; lines_are = are; number = ap suc count; line = is }

      by_load : (t : Bool) → Placed (suc n) ls → AreLinesAt (cond t (numbered_by loads (suc n) (Some (record { number = suc n; line = content l; payload = [] })) ls) ((record { number = suc n; entry = Plain (content l) }) ∷ numbered_by loads (suc n) None ls))
      by_load true rest = rest.some (record { number = suc n; line = content l; payload = [] }) (λ given. here (Loading (content l) given) refl)
      by_load false rest = All-cons (IsLineAt lines) (record { number = suc n; entry = Plain (content l) }) (numbered_by loads (suc n) None ls) (here (Plain (content l)) refl) rest.none

      by_skip : (t : Bool) → Placed (suc n) ls → AreLinesAt (cond t (numbered_by loads (suc n) None ls) (cond (loads (content l)) (numbered_by loads (suc n) (Some (record { number = suc n; line = content l; payload = [] })) ls) ((record { number = suc n; entry = Plain (content l) }) ∷ numbered_by loads (suc n) None ls)))
      by_skip true rest = rest.none
      by_skip false rest = by_load (loads (content l)) rest

      by_mark : (begun : Begun) → ((given : Option Bytes) → IsLineAt lines (record { number = begun.number; entry = Loading begun.line given })) → (t : Bool) → Placed (suc n) ls
          → AreLinesAt (cond t ((record { number = begun.number; entry = Loading begun.line (Some begun.payload) }) ∷ numbered_by loads (suc n) None ls) (numbered_by loads (suc n) (Some (record begun { payload = begun.payload ++ l })) ls))
      by_mark begun at true rest = All-cons (IsLineAt lines) (record { number = begun.number; entry = Loading begun.line (Some begun.payload) }) (numbered_by loads (suc n) None ls) (at (Some begun.payload)) rest.none
      by_mark begun at false rest = rest.some (record begun { payload = begun.payload ++ l }) at

pub numbers_tell : NumbersTell
numbers_tell = record {
  items = λ b script. (same_items (takes_payload b) 0 (raw_lines (without_mark script))).none;
  lines = λ b script. (all_placed (takes_payload b) (raw_lines (without_mark script)) 0 [] (raw_lines (without_mark script)) refl refl).none;
}
