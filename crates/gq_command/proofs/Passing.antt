-- Lines that are passed, and the first that isn't.
use Rattle.std.proofs.Common.{◌≡◌, ℕ, suc, ◌+◌, Bool, true, false, cond, List, [], ◌∷◌, ◌++◌, length, Option, Some, None, refl, sym, ap, subst, ◌∙◌, arith, length-append, append_assoc}
use Rattle.std.specs.Prelude.{IfSome}
use Rattle.std.proofs.lemmas.List.{append-nil}
use Rattle.std.specs.Io.KnownBytes.{Consumes, IsAtEnd}
use Rattle.gq_row.specs.declared.limits.Bounds.{Bounds}
use Rattle.gq_command.specs.declared.reader.Item.{Item}
use Rattle.gq_script.specs.declared.gather.OpenLine.{OpenLine}
use Rattle.gq_command.specs.Commands.{Bytes}
use Rattle.gq_script.specs.Script.{Stream, Takes, raw_lines, content, is_skipped, first_entry, Counts, Plain, Entry, Loading, first_entry_by, entries_by, InOrder, payload_of, is_end_mark, items_left, takes_payload}
use Rattle.gq_script.specs.Numbering.{Numbered, Passed, numbered_by, numbered_left}
use Rattle.gq_script.specs.declared.payload.Kept.{Kept}
use Rattle.gq_script.specs.Gathering.{Gathers, TookLine}
use Rattle.gq_script.specs.Payloads.{IsPayloadOf, KeptTold, TookPayload}
use Rattle.gq_command.specs.Items.{Gave, IsReadAs}
use Rattle.gq_command.proofs.NumberLemmas.{begun_at, closed_after, left_open, load_line, no_items, plain_line, skipped_line}
use Rattle.gq_script.proofs.Front.{Known, Rises}

some_is : {A : Type 0} (x y : A) → Some x ≡ Some y → x ≡ y
some_is x y e = cc

-- the entries come in order
abbrev Next : (Bytes → Bool) → List Entry → Option (Entry × List Bytes) → Type 0
Next loads es o = elim o [ None ↦ es ≡ [] | Some x ↦ es ≡ x.0 ∷ entries_by loads None x.1 ]

-- a payload that began, and what follows it
abbrev Closed : (Bytes → Bool) → Bytes → Bytes → List Entry → Option (Bytes × List Bytes) → Type 0
Closed loads line begun es o = elim o [ None ↦ es ≡ Loading line None ∷ [] | Some x ↦ es ≡ Loading line (Some (begun ++ x.0)) ∷ entries_by loads None x.1 ]

closed : (loads : Bytes → Bool) (line begun : Bytes) (ls : List Bytes) → Closed loads line begun (entries_by loads (Some (line, begun)) ls) (payload_of ls)
unfolding entries_by
closed loads line begun [] = refl
closed loads line begun (l ∷ ls) = by_mark (is_end_mark (content l)) refl (closed loads line (begun ++ l) ls)
  where
    by_rest : (o : Option (Bytes × List Bytes)) (es : List Entry) → Closed loads line (begun ++ l) es o → Closed loads line begun es (elim o [ None ↦ None | Some x ↦ Some (l ++ x.0, x.1) ])
    by_rest None es h = h
    by_rest (Some x) es h = h ∙ ap (λ (p : Bytes). Loading line (Some p) ∷ entries_by loads None x.1) (append_assoc begun l x.0)

    by_mark : (b : Bool) → is_end_mark (content l) ≡ b → Closed loads line (begun ++ l) (entries_by loads (Some (line, begun ++ l)) ls) (payload_of ls)
        → Closed loads line begun (entries_by loads (Some (line, begun)) (l ∷ ls)) (payload_of (l ∷ ls))
    by_mark true e next =
        let es : entries_by loads (Some (line, begun)) (l ∷ ls) ≡ Loading line (Some begun) ∷ entries_by loads None ls = ap (λ (b : Bool). cond b (Loading line (Some begun) ∷ entries_by loads None ls) (entries_by loads (Some (line, begun ++ l)) ls)) e in
        let o : payload_of (l ∷ ls) ≡ Some ([], ls) = ap (λ (b : Bool). cond b (Some ([], ls)) (elim (payload_of ls) [ None ↦ None | Some x ↦ Some (l ++ x.0, x.1) ])) e in
        subst (Closed loads line begun (entries_by loads (Some (line, begun)) (l ∷ ls))) (sym o) (es ∙ ap (λ (p : Bytes). Loading line (Some p) ∷ entries_by loads None ls) (sym (append-nil begun)))
    by_mark false e next =
        let es : entries_by loads (Some (line, begun)) (l ∷ ls) ≡ entries_by loads (Some (line, begun ++ l)) ls = ap (λ (b : Bool). cond b (Loading line (Some begun) ∷ entries_by loads None ls) (entries_by loads (Some (line, begun ++ l)) ls)) e in
        let o : payload_of (l ∷ ls) ≡ elim (payload_of ls) [ None ↦ None | Some x ↦ Some (l ++ x.0, x.1) ] = ap (λ (b : Bool). cond b (Some ([], ls)) (elim (payload_of ls) [ None ↦ None | Some x ↦ Some (l ++ x.0, x.1) ])) e in
        subst (Closed loads line begun (entries_by loads (Some (line, begun)) (l ∷ ls))) (sym o) (subst (λ (es : List Entry). Closed loads line begun es (elim (payload_of ls) [ None ↦ None | Some x ↦ Some (l ++ x.0, x.1) ])) (sym es) (by_rest (payload_of ls) (entries_by loads (Some (line, begun ++ l)) ls) next))

abbrev firsts : (Bytes → Bool) → Bytes → List Bytes → Bool → Bool → Option (Entry × List Bytes)
firsts loads l ls a b = cond a (first_entry_by loads ls) (cond b (elim (payload_of ls) [ None ↦ Some (Loading (content l) None, []) | Some x ↦ Some (Loading (content l) (Some x.0), x.1) ]) (Some (Plain (content l), ls)))

pub in_order : InOrder
unfolding entries_by
in_order loads [] = refl
in_order loads (l ∷ ls) = by_skip (is_skipped (content l)) refl (in_order loads ls)
  where
    by_payload : (o : Option (Bytes × List Bytes)) (es : List Entry) → Closed loads (content l) [] es o → Next loads es (elim o [ None ↦ Some (Loading (content l) None, []) | Some x ↦ Some (Loading (content l) (Some x.0), x.1) ])
    by_payload None es h = h
    by_payload (Some x) es h = h

    by_load : (b : Bool) → loads (content l) ≡ b → is_skipped (content l) ≡ false → Next loads (entries_by loads None (l ∷ ls)) (first_entry_by loads (l ∷ ls))
    by_load true e f =
        let given : entries_by loads None (l ∷ ls) ≡ entries_by loads (Some (content l, [])) ls =
        ap (λ (b : Bool). cond b (entries_by loads None ls) (cond (loads (content l)) (entries_by loads (Some (content l, [])) ls) (Plain (content l) ∷ entries_by loads None ls))) f ∙ ap (λ (b : Bool). cond b (entries_by loads (Some (content l, [])) ls) (Plain (content l) ∷ entries_by loads None ls)) e in
        let o : first_entry_by loads (l ∷ ls) ≡ elim (payload_of ls) [ None ↦ Some (Loading (content l) None, []) | Some x ↦ Some (Loading (content l) (Some x.0), x.1) ] = ap (λ (a : Bool). firsts loads l ls a (loads (content l))) f ∙ ap (firsts loads l ls false) e in
        subst (Next loads (entries_by loads None (l ∷ ls))) (sym o) (by_payload (payload_of ls) (entries_by loads None (l ∷ ls)) (subst (λ (es : List Entry). Closed loads (content l) [] es (payload_of ls)) (sym given) (closed loads (content l) [] ls)))
    by_load false e f =
        let given : entries_by loads None (l ∷ ls) ≡ Plain (content l) ∷ entries_by loads None ls =
        ap (λ (b : Bool). cond b (entries_by loads None ls) (cond (loads (content l)) (entries_by loads (Some (content l, [])) ls) (Plain (content l) ∷ entries_by loads None ls))) f ∙ ap (λ (b : Bool). cond b (entries_by loads (Some (content l, [])) ls) (Plain (content l) ∷ entries_by loads None ls)) e in
        let o : first_entry_by loads (l ∷ ls) ≡ Some (Plain (content l), ls) = ap (λ (a : Bool). firsts loads l ls a (loads (content l))) f ∙ ap (firsts loads l ls false) e in
        subst (Next loads (entries_by loads None (l ∷ ls))) (sym o) given

    by_skip : (b : Bool) → is_skipped (content l) ≡ b → Next loads (entries_by loads None ls) (first_entry_by loads ls) → Next loads (entries_by loads None (l ∷ ls)) (first_entry_by loads (l ∷ ls))
    by_skip true e next =
        let given : entries_by loads None (l ∷ ls) ≡ entries_by loads None ls = ap (λ (b : Bool). cond b (entries_by loads None ls) (cond (loads (content l)) (entries_by loads (Some (content l, [])) ls) (Plain (content l) ∷ entries_by loads None ls))) e in
        let o : first_entry_by loads (l ∷ ls) ≡ first_entry_by loads ls = ap (λ (a : Bool). firsts loads l ls a (loads (content l))) e in
        subst (λ (es : List Entry). Next loads es (first_entry_by loads (l ∷ ls))) (sym given) (subst (Next loads (entries_by loads None ls)) (sym o) next)
    by_skip false e next = by_load (loads (content l)) refl e

none_left : (bounds : Bounds) (ls : List Bytes) → first_entry bounds ls ≡ None → entries_by (takes_payload bounds) None ls ≡ []
none_left bounds ls e = subst (Next (takes_payload bounds) (entries_by (takes_payload bounds) None ls)) e (in_order (takes_payload bounds) ls)

next_left : (bounds : Bounds) (ls : List Bytes) (e : Entry) (rest : List Bytes) → first_entry bounds ls ≡ Some (e, rest) → entries_by (takes_payload bounds) None ls ≡ e ∷ entries_by (takes_payload bounds) None rest
next_left bounds ls e rest h = subst (Next (takes_payload bounds) (entries_by (takes_payload bounds) None ls)) h (in_order (takes_payload bounds) ls)

-- the loop that passes blank lines and comments

abbrev with_told : Bytes → Option (Bytes × List Bytes) → Option (Entry × List Bytes)
with_told line o = elim o [ None ↦ Some (Loading line None, []) | Some x ↦ Some (Loading line (Some x.0), x.1) ]

first_skipped : (bounds : Bounds) (raw : Bytes) (ls : List Bytes) → is_skipped (content raw) ≡ true → first_entry bounds (raw ∷ ls) ≡ first_entry bounds ls
first_skipped bounds raw ls e = ap (λ (b : Bool). cond b (first_entry bounds ls) (cond (takes_payload bounds (content raw)) (with_told (content raw) (payload_of ls)) (Some (Plain (content raw), ls)))) e

-- the first entry of a line that isn't skipped, by whether it takes a payload
first_of : (bounds : Bounds) (raw : Bytes) (ls : List Bytes) (t : Bool) → is_skipped (content raw) ≡ false → takes_payload bounds (content raw) ≡ t → first_entry bounds (raw ∷ ls) ≡ cond t (with_told (content raw) (payload_of ls)) (Some (Plain (content raw), ls))
first_of bounds raw ls t e f =
    ap (λ (a : Bool). cond a (first_entry bounds ls) (cond (takes_payload bounds (content raw)) (with_told (content raw) (payload_of ls)) (Some (Plain (content raw), ls)))) e
    ∙ ap (λ (a : Bool). cond a (with_told (content raw) (payload_of ls)) (Some (Plain (content raw), ls))) f

abbrev pub PassedBy : Bounds → Known → Known → ℕ → ℕ → ℕ → ℕ → Type 0
PassedBy bounds k m g0 g1 l0 l1 = IfSome k (λ xs. (ys : Bytes) × (m ≡ Some ys) × (first_entry bounds (raw_lines xs) ≡ first_entry bounds (raw_lines ys)) × (g1 + length ys ≡ g0 + length xs) × (numbered_left bounds l0 xs ≡ numbered_left bounds l1 ys))

by_none : (bounds : Bounds) (k : Known) (g l : ℕ) → PassedBy bounds k k g g l l
by_none bounds None g l = tt
by_none bounds (Some xs) g l = (xs, refl, refl, refl, refl)

pub passed_none : (bounds : Bounds) (s : Stream) → Passed bounds s s
passed_none bounds s = by_none bounds s.left s.given s.lines

-- the line of a place, and its number
at_line : (bounds : Bounds) (xs ys zs ws : Bytes) (l0 l1 : ℕ) (raw : Bytes) → numbered_left bounds l0 xs ≡ numbered_left bounds l1 ys → zs ≡ ys → raw_lines zs ≡ raw ∷ raw_lines ws → numbered_left bounds l0 xs ≡ numbered_by (takes_payload bounds) l1 None (raw ∷ raw_lines ws)
at_line bounds xs ys zs ws l0 l1 raw h same f = h ∙ ap (λ (l : Bytes). numbered_left bounds l1 l) (sym same) ∙ ap (numbered_by (takes_payload bounds) l1 None) f

by_line : (bounds : Bounds) (k m n : Known) (g0 g1 g2 l0 l1 l2 : ℕ) (raw : Bytes) → PassedBy bounds k m g0 g1 l0 l1 → Consumes m n raw → Rises m g1 g2 (length raw) → IfSome m (λ xs. IfSome n (λ ys. raw_lines xs ≡ raw ∷ raw_lines ys)) → l2 ≡ l1 + 1 → is_skipped (content raw) ≡ true
    → PassedBy bounds k n g0 g2 l0 l2
by_line bounds None m n g0 g1 g2 l0 l1 l2 raw h c g f l e = tt
by_line bounds (Some xs) None n g0 g1 g2 l0 l1 l2 raw h c g f l e = let q = h.1 in absurd cc
by_line bounds (Some xs) (Some zs) None g0 g1 g2 l0 l1 l2 raw h c g f l e = absurd c
by_line bounds (Some xs) (Some zs) (Some ws) g0 g1 g2 l0 l1 l2 raw h c g f l e =
    let same : zs ≡ h.0 = some_is zs h.0 h.1 in
    let len : length zs ≡ length raw + length ws = ap length c ∙ length-append raw ws in
    let len1 : length zs ≡ length h.0 = ap length same in
    let len2 : g1 + length h.0 ≡ g0 + length xs = h.3 in
    let next : suc l1 ≡ l2 = omega arith in (
      ws,
      refl,
      h.2 ∙ ap (λ (l : Bytes). first_entry bounds (raw_lines l)) (sym same) ∙ ap (first_entry bounds) f ∙ first_skipped bounds raw (raw_lines ws) e,
      omega arith,
      at_line bounds xs h.0 zs ws l0 l1 raw h.4 same f ∙ skipped_line (takes_payload bounds) l1 raw (raw_lines ws) e ∙ ap (λ (j : ℕ). numbered_left bounds j ws) next,
    )

pub passed_line : (bounds : Bounds) (a b c : Stream) (line : OpenLine) (t : TookLine bounds b c line) → Passed bounds a b → is_skipped (content t.raw) ≡ true → Passed bounds a c
passed_line bounds a b c line t h e = by_line bounds a.left b.left c.left a.given b.given c.given a.lines b.lines c.lines t.raw h t.taken.bytes_are t.taken.counted t.first t.lines e

by_end : (bounds : Bounds) (k m n : Known) (g0 g1 g2 l0 l1 : ℕ) → PassedBy bounds k m g0 g1 l0 l1 → Consumes m n [] → IsAtEnd m → Rises m g1 g2 0 → IfSome k (λ xs. (items_left bounds xs ≡ []) × (n ≡ Some [])) × IfSome k (λ xs. IfSome n (λ ys. g2 + length ys ≡ g0 + length xs))
by_end bounds None m n g0 g1 g2 l0 l1 h c e g = (tt, tt)
by_end bounds (Some xs) None n g0 g1 g2 l0 l1 h c e g = let q = h.1 in absurd cc
by_end bounds (Some xs) (Some zs) None g0 g1 g2 l0 l1 h c e g = absurd c
by_end bounds (Some xs) (Some zs) (Some ws) g0 g1 g2 l0 l1 h c e g =
    let same : zs ≡ h.0 = some_is zs h.0 h.1 in
    let none : h.0 ≡ [] = sym same ∙ e in
    let none1 : ws ≡ [] = sym c ∙ e in
    let len1 : length ws ≡ length h.0 = ap length (sym c ∙ same) in
    let len2 : g1 + length h.0 ≡ g0 + length xs = h.3 in
    ((none_left bounds (raw_lines xs) (h.2 ∙ ap (λ (l : Bytes). first_entry bounds (raw_lines l)) none), ap Some none1), omega arith)

pub passed_all : (bounds : Bounds) (a b c : Stream) → Passed bounds a b → Takes b c [] → IsAtEnd b.left → IfSome a.left (λ xs. (items_left bounds xs ≡ []) × (c.left ≡ Some [])) × Counts a c
passed_all bounds a b c h t e = by_end bounds a.left b.left c.left a.given b.given c.given a.lines b.lines h t.bytes_are e t.counted

-- what is kept of a wrong line is kept of this line's text
pub kept_of : (most : ℕ) (line : OpenLine) (text : Bytes) (wrong : Option OpenLine) → IfSome wrong (λ kept. kept ≡ line) → Gathers most line text → IfSome wrong (λ kept. Gathers most kept text)
kept_of most line text None h g = tt
kept_of most line text (Some kept) h g = subst (λ (l : OpenLine). Gathers most l text) (sym h) g

by_item : (bounds : Bounds) (k m n : Known) (g0 g1 g2 l0 l1 l2 number : ℕ) (raw : Bytes) (wrong : Option OpenLine) (it : Item) → IfSome wrong (λ line. Gathers bounds.line line (content raw)) → PassedBy bounds k m g0 g1 l0 l1 → Consumes m n raw → Rises m g1 g2 (length raw) → IfSome m (λ xs. IfSome n (λ ys. raw_lines xs ≡ raw ∷ raw_lines ys)) → l2 ≡ l1 + 1 → number ≡ l2 → is_skipped (content raw) ≡ false → takes_payload bounds (content raw) ≡ false
    → IsReadAs bounds (Plain (content raw)) it → IfSome k (λ xs. Gave bounds l0 xs n l2 number wrong it) × IfSome k (λ xs. IfSome n (λ ys. g2 + length ys ≡ g0 + length xs))
by_item bounds None m n g0 g1 g2 l0 l1 l2 number raw wrong it kept h c g f l num e q i = (tt, tt)
by_item bounds (Some xs) None n g0 g1 g2 l0 l1 l2 number raw wrong it kept h c g f l num e q i = let none = h.1 in absurd cc
by_item bounds (Some xs) (Some zs) None g0 g1 g2 l0 l1 l2 number raw wrong it kept h c g f l num e q i = absurd c
by_item bounds (Some xs) (Some zs) (Some ws) g0 g1 g2 l0 l1 l2 number raw wrong it kept h c g f l num e q i =
    let same : zs ≡ h.0 = some_is zs h.0 h.1 in
    let len : length zs ≡ length raw + length ws = ap length c ∙ length-append raw ws in
    let len1 : length zs ≡ length h.0 = ap length same in
    let len2 : g1 + length h.0 ≡ g0 + length xs = h.3 in
    let next : suc l1 ≡ l2 = omega arith in
    let named : suc l1 ≡ number = omega arith in
    let given : first_entry bounds (raw_lines xs) ≡ Some (Plain (content raw), raw_lines ws) = h.2 ∙ ap (λ (y : Bytes). first_entry bounds (raw_lines y)) (sym same) ∙ ap (first_entry bounds) f ∙ first_of bounds raw (raw_lines ws) false e q in (
      record {
        entry = Plain (content raw);
        rest = ws;
        first = given;
        left_is = refl;
        order = next_left bounds (raw_lines xs) (Plain (content raw)) (raw_lines ws) given;
        numbered =
            at_line bounds xs h.0 zs ws l0 l1 raw h.4 same f
            ∙ plain_line (takes_payload bounds) l1 raw (raw_lines ws) e q
            ∙ ap (λ (j : ℕ). (record { number = suc l1; entry = Plain (content raw) }) ∷ numbered_left bounds j ws) next
            ∙ ap (λ (j : ℕ). (record { number = j; entry = Plain (content raw) }) ∷ numbered_left bounds l2 ws) named;
        kept = kept;
        reads = i;
      },
      omega arith,
    )

pub passed_to : (bounds : Bounds) (a b c : Stream) (line : OpenLine) (t : TookLine bounds b c line) (number : ℕ) (wrong : Option OpenLine) (it : Item) → number ≡ c.lines → IfSome wrong (λ kept. kept ≡ line) → Passed bounds a b → is_skipped (content t.raw) ≡ false → takes_payload bounds (content t.raw) ≡ false → IsReadAs bounds (Plain (content t.raw)) it → IfSome a.left (λ xs. Gave bounds a.lines xs c.left c.lines number wrong it) × Counts a c
passed_to bounds a b c line t number wrong it num kept h e q i =
    by_item bounds a.left b.left c.left a.given b.given c.given a.lines b.lines c.lines number t.raw wrong it (kept_of bounds.line line (content t.raw) wrong kept t.gathers) h t.taken.bytes_are t.taken.counted t.first t.lines num e q i

-- a line with its payload

-- as many lines were counted as are no longer left, where a payload ends
abbrev CountsLines : Known → Known → ℕ → ℕ → Option Kept → Type 0
CountsLines n o l2 l3 p = IfSome p (λ _. IfSome n (λ xs. IfSome o (λ ys. l3 + length (raw_lines ys) ≡ l2 + length (raw_lines xs))))

gave_told : (bounds : Bounds) (xs ws line : Bytes) (o : Option (Bytes × List Bytes)) (left : Known) (l0 l2 l3 number : ℕ) (wrong : Option OpenLine) (p : Option Kept) (it : Item) → IfSome wrong (λ kept. Gathers bounds.line kept line) → payload_of (raw_lines ws) ≡ o → first_entry bounds (raw_lines xs) ≡ with_told line o
    → numbered_left bounds l0 xs ≡ numbered_by (takes_payload bounds) l2 (Some (begun_at number line)) (raw_lines ws) → IsPayloadOf bounds.payload o left p → CountsLines (Some ws) left l2 l3 p
    → ((given : Option Bytes) → KeptTold bounds.payload given p → IsReadAs bounds (Loading line given) it) → Gave bounds l0 xs left l3 number wrong it
gave_told bounds xs ws line None left l0 l2 l3 number wrong p it kept w e numbers is counts reads = record {
  entry = Loading line None;
  rest = [];
  first = e;
  left_is = is.1;
  order = next_left bounds (raw_lines xs) (Loading line None) [] e;
  numbered =
      numbers ∙ left_open (takes_payload bounds) l2 (begun_at number line) (raw_lines ws) w ∙ ap (λ (xs : List Numbered). (record { number = number; entry = Loading line None }) ∷ xs) (sym (no_items (takes_payload bounds) l3));
  kept = kept;
  reads = reads None is.0;
}
gave_told bounds xs ws line (Some x) left l0 l2 l3 number wrong None it kept w e numbers is counts reads = absurd is.3
gave_told bounds xs ws line (Some x) left l0 l2 l3 number wrong (Some p) it kept w e numbers is counts reads =
    let few : l3 + length (raw_lines is.0) ≡ l2 + length (raw_lines ws) = subst (λ (o : Known). IfSome o (λ ys. l3 + length (raw_lines ys) ≡ l2 + length (raw_lines ws))) is.1 counts in
    let same : length x.1 ≡ length (raw_lines is.0) = ap length is.2 in
    let count : l3 + length x.1 ≡ l2 + length (raw_lines ws) = omega arith in
    let first : first_entry bounds (raw_lines xs) ≡ Some (Loading line (Some x.0), raw_lines is.0) = e ∙ ap (λ (ls : List Bytes). Some (Loading line (Some x.0), ls)) is.2 in
    record {
      entry = Loading line (Some x.0);
      rest = is.0;
      first = first;
      left_is = is.1;
      order = next_left bounds (raw_lines xs) (Loading line (Some x.0)) (raw_lines is.0) first;
      numbered =
          numbers ∙ closed_after (takes_payload bounds) l2 l3 (begun_at number line) (raw_lines ws) x w count ∙ ap (λ (ls : List Bytes). (record { number = number; entry = Loading line (Some x.0) }) ∷ numbered_by (takes_payload bounds) l3 None ls) is.2;
      kept = kept;
      reads = reads (Some x.0) is.3;
    }

by_load : (bounds : Bounds) (k m n o : Known) (g0 g1 g2 g3 l0 l1 l2 l3 number : ℕ) (raw : Bytes) (wrong : Option OpenLine) (p : Option Kept) (it : Item) → IfSome wrong (λ line. Gathers bounds.line line (content raw)) → PassedBy bounds k m g0 g1 l0 l1 → Consumes m n raw → Rises m g1 g2 (length raw) → IfSome m (λ xs. IfSome n (λ ys. raw_lines xs ≡ raw ∷ raw_lines ys)) → l2 ≡ l1 + 1 → number ≡ l2 → CountsLines n o l2 l3 p → is_skipped (content raw) ≡ false → takes_payload bounds (content raw) ≡ true
    → IfSome n (λ xs. IsPayloadOf bounds.payload (payload_of (raw_lines xs)) o p) → IfSome n (λ xs. IfSome o (λ ys. g3 + length ys ≡ g2 + length xs)) → ((given : Option Bytes) → KeptTold bounds.payload given p → IsReadAs bounds (Loading (content raw) given) it)
    → IfSome k (λ xs. Gave bounds l0 xs o l3 number wrong it) × IfSome k (λ xs. IfSome o (λ ys. g3 + length ys ≡ g0 + length xs))
by_load bounds None m n o g0 g1 g2 g3 l0 l1 l2 l3 number raw wrong p it kept h c g f l num counts e q is d reads = (tt, tt)
by_load bounds (Some xs) None n o g0 g1 g2 g3 l0 l1 l2 l3 number raw wrong p it kept h c g f l num counts e q is d reads = let none = h.1 in absurd cc
by_load bounds (Some xs) (Some zs) None o g0 g1 g2 g3 l0 l1 l2 l3 number raw wrong p it kept h c g f l num counts e q is d reads = absurd c
by_load bounds (Some xs) (Some zs) (Some ws) o g0 g1 g2 g3 l0 l1 l2 l3 number raw wrong p it kept h c g f l num counts e q is d reads =
    let same : zs ≡ h.0 = some_is zs h.0 h.1 in
    let len : length zs ≡ length raw + length ws = ap length c ∙ length-append raw ws in
    let len1 : length zs ≡ length h.0 = ap length same in
    let len2 : g1 + length h.0 ≡ g0 + length xs = h.3 in
    let first : first_entry bounds (raw_lines xs) ≡ with_told (content raw) (payload_of (raw_lines ws)) =
    h.2 ∙ ap (λ (y : Bytes). first_entry bounds (raw_lines y)) (sym same) ∙ ap (first_entry bounds) f ∙ first_of bounds raw (raw_lines ws) true e q in
    let next : suc l1 ≡ l2 = omega arith in
    let named : suc l1 ≡ number = omega arith in
    let numbers : numbered_left bounds l0 xs ≡ numbered_by (takes_payload bounds) l2 (Some (begun_at number (content raw))) (raw_lines ws) =
    at_line bounds xs h.0 zs ws l0 l1 raw h.4 same f
    ∙ load_line (takes_payload bounds) l1 raw (raw_lines ws) e q
    ∙ ap (λ (j : ℕ). numbered_by (takes_payload bounds) j (Some (begun_at (suc l1) (content raw))) (raw_lines ws)) next
    ∙ ap (λ (j : ℕ). numbered_by (takes_payload bounds) l2 (Some (begun_at j (content raw))) (raw_lines ws)) named in
    (gave_told bounds xs ws (content raw) (payload_of (raw_lines ws)) o l0 l2 l3 number wrong p it kept refl first numbers is counts reads, by_left o d)
  where
    by_left : (o : Known) → IfSome o (λ ys. g3 + length ys ≡ g2 + length ws) → IfSome o (λ ys. g3 + length ys ≡ g0 + length xs)
    by_left None d = tt
    by_left (Some ys) d =
        let same : zs ≡ h.0 = some_is zs h.0 h.1 in
        let len : length zs ≡ length raw + length ws = ap length c ∙ length-append raw ws in
        let len1 : length zs ≡ length h.0 = ap length same in
        let len2 : g1 + length h.0 ≡ g0 + length xs = h.3 in
        omega arith

pub passed_load : (bounds : Bounds) (a b c d : Stream) (line : OpenLine) (t : TookLine bounds b c line) (number : ℕ) (wrong : Option OpenLine) (p : Option Kept) (it : Item) → number ≡ c.lines → IfSome wrong (λ kept. kept ≡ line) → Passed bounds a b → is_skipped (content t.raw) ≡ false → takes_payload bounds (content t.raw) ≡ true → TookPayload bounds.payload c d p
    → ((given : Option Bytes) → KeptTold bounds.payload given p → IsReadAs bounds (Loading (content t.raw) given) it) → IfSome a.left (λ xs. Gave bounds a.lines xs d.left d.lines number wrong it) × Counts a d
passed_load bounds a b c d line t number wrong p it num kept h e q k reads =
    by_load bounds a.left b.left c.left d.left a.given b.given c.given d.given a.lines b.lines c.lines d.lines number t.raw wrong p it (kept_of bounds.line line (content t.raw) wrong kept t.gathers) h t.taken.bytes_are t.taken.counted t.first t.lines num k.lines e q k.is k.counted reads
