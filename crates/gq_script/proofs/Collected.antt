-- A payload, piece by piece and line by line.
use Rattle.std.proofs.Common.{◌≡◌, ℕ, suc, ◌+◌, ◌<◌, Bool, true, false, cond, List, [], ◌∷◌, ◌++◌, length, take, drop, get_or, eqb, Option, Some, None, refl, sym, ap, subst, ◌∙◌, arith, append_assoc, length-append}
use Rattle.std.proofs.lemmas.List.{append-nil, get_or-drop, get_or-take}
use Rattle.std.proofs.Math.Seq.{take-add}
use Rattle.std.specs.Prelude.{IfSome, ◌&&◌}
use Rattle.std.specs.List.{list_all}
use Rattle.std.specs.Io.KnownBytes.{Consumes, IsAtEnd}
use Rattle.gq_script.specs.declared.payload.EndMark.{EndMark}
use Rattle.gq_script.specs.declared.payload.EndMark.TheVariants as mark
use Rattle.gq_script.specs.declared.payload.Kept.{Kept}
use Rattle.gq_token.specs.Texts.{Bytes}
use Rattle.gq_script.specs.Payloads.{mark_after, mark_of, is_other, is_closing, held, is_plain, prefixed, GoesOn, HasLines, Holds, IsPiece, IsPayloadOf, TookLines, TookPayloadLine, TookPayload, Unclosed}
use Rattle.gq_script.specs.Script.{Counts, Stream, Takes, with_lines, raw_lines, content, is_end_mark, payload_of}
use Rattle.gq_script.proofs.Front.{Known, Rises}
use Rattle.gq_script.proofs.Ends.{raw_ended, raw_unended}
use Rattle.gq_script.proofs.Gathered.{once_counted, took_none, took_more, first_ended, first_unended}
use Rattle.gq_script.proofs.Marks.{mark_of-append, is_the_other, was_not_other, held_is, closes_unended, closes_ended, ended_other, closing_is_not_other, opens_other}

-- the pieces of a line, as far as they came

pub record Collecting (most : ℕ) (a b : Stream) (old new : Kept) (m : EndMark) (raw : Bytes) : Type 0 where
  pub taken : Takes a b raw
  pub plain : list_all is_plain raw ≡ true
  pub mark_is : m ≡ mark_of mark.Start raw
  pub may_be : is_other m ≡ false → new ≡ old
  pub other : is_other m ≡ true → (front : Bytes) → Holds most old front → Holds most new (front ++ raw)

pub started : (most : ℕ) (s : Stream) (k : Kept) → Collecting most s s k k mark.Start []
started most s k = record { taken = took_none s; plain = refl; mark_is = refl; may_be = λ e. refl; other = λ e. absurd cc }

-- what adding a piece did
pub record Added (most : ℕ) (m : EndMark) (piece : Bytes) (old new : Kept) : Type 0 where
  pub may_be : is_other (mark_of m piece) ≡ false → new ≡ old
  pub other : is_other (mark_of m piece) ≡ true → (front : Bytes) → Holds most old front → Holds most new (front ++ held m ++ piece)

still_may_be : (most : ℕ) (a b : Stream) (old mid new : Kept) (m : EndMark) (raw piece : Bytes) → Collecting most a b old mid m raw → Added most m piece mid new → is_other (mark_of m piece) ≡ false → new ≡ old
still_may_be most a b old mid new m raw piece t add e = add.may_be e ∙ t.may_be (was_not_other m piece e)

grown : (most : ℕ) (a b : Stream) (old mid new : Kept) (m : EndMark) (raw piece : Bytes) → Collecting most a b old mid m raw → Added most m piece mid new → is_other (mark_of m piece) ≡ true
    → (front : Bytes) → Holds most old front → Holds most new (front ++ (raw ++ piece))
grown most a b old mid new m raw piece t add e front h = by_other (is_other m) refl
  where
    by_other : (v : Bool) → is_other m ≡ v → Holds most new (front ++ (raw ++ piece))
    by_other true f =
        let none : held m ≡ [] = ap held (is_the_other m f) in
        let same : ((front ++ raw) ++ held m) ++ piece ≡ front ++ (raw ++ piece) =
        ap (λ (l : Bytes). ((front ++ raw) ++ l) ++ piece) none ∙ ap (λ (l : Bytes). l ++ piece) (append-nil (front ++ raw)) ∙ append_assoc front raw piece in
        subst (Holds most new) same (add.other e (front ++ raw) (t.other f front h))
    by_other false f =
        let line : held m ≡ raw = ap held t.mark_is ∙ held_is raw t.plain (sym (ap is_other t.mark_is) ∙ f) in
        let same : (front ++ held m) ++ piece ≡ front ++ (raw ++ piece) = ap (λ (l : Bytes). (front ++ l) ++ piece) line ∙ append_assoc front raw piece in
        subst (Holds most new) same (add.other e front (subst (λ (k : Kept). Holds most k front) (sym (t.may_be f)) h))

plain_append : (xs ys : Bytes) → list_all is_plain xs ≡ true → list_all is_plain ys ≡ true → list_all is_plain (xs ++ ys) ≡ true
plain_append [] ys h k = k
plain_append (x ∷ xs) ys h k = by_test (is_plain x) refl (plain_append xs ys)
  where
    by_test : (t : Bool) → is_plain x ≡ t → (list_all is_plain xs ≡ true → list_all is_plain ys ≡ true → list_all is_plain (xs ++ ys) ≡ true) → list_all is_plain (x ∷ (xs ++ ys)) ≡ true
    by_test true e others = ap (λ (t : Bool). t && list_all is_plain (xs ++ ys)) e ∙ others (sym (ap (λ (t : Bool). t && list_all is_plain xs) e) ∙ h) k
    by_test false e others = let f : false ≡ true = sym (ap (λ (t : Bool). t && list_all is_plain xs) e) ∙ h in absurd cc

marked : (m : EndMark) (raw piece : Bytes) → m ≡ mark_of mark.Start raw → mark_of m piece ≡ mark_of mark.Start (raw ++ piece)
marked m raw piece e = ap (λ (v : EndMark). mark_of v piece) e ∙ sym (mark_of-append mark.Start raw piece)

pub fed : (most : ℕ) (a b c : Stream) (old mid new : Kept) (m m1 : EndMark) (raw piece : Bytes) → Collecting most a b old mid m raw → Takes b c piece → m1 ≡ mark_of m piece → Added most m piece mid new → IsPiece false piece
    → Collecting most a c old new m1 (raw ++ piece)
fed most a b c old mid new m m1 raw piece t more is add plain = record {
  taken = took_more a b c raw piece t.taken more;
  plain = plain_append raw piece t.plain plain;
  mark_is = is ∙ marked m raw piece t.mark_is;
  may_be = λ e. still_may_be most a b old mid new m raw piece t add (sym (ap is_other is) ∙ e);
  other = λ e. grown most a b old mid new m raw piece t add (sym (ap is_other is) ∙ e);
}

pub ended : (most : ℕ) (a b c : Stream) (old mid new : Kept) (m m1 : EndMark) (raw piece : Bytes) (ends : Bool) → Collecting most a b old mid m raw → Takes b c piece → m1 ≡ mark_of m piece → Added most m piece mid new → IsPiece true piece
    → ends ≡ is_closing m1 → c.lines ≡ a.lines → TookPayloadLine most a (with_lines c 1) old new ends
ended most a b c old mid new m m1 raw piece ends t more is add p told lines =
    let plain : Bytes = p.0 in
    let front : Bytes = raw ++ plain in
    let fine : list_all is_plain front ≡ true = plain_append raw plain t.plain p.2 in
    let line : raw ++ piece ≡ front ++ 10 ∷ [] = ap (λ (l : Bytes). raw ++ l) p.1 ∙ sym (append_assoc raw plain (10 ∷ [])) in
    let all : Takes a c (raw ++ piece) = took_more a b c raw piece t.taken more in
    let now : m1 ≡ mark_of mark.Start (front ++ 10 ∷ []) = is ∙ marked m raw piece t.mark_is ∙ ap (mark_of mark.Start) line in
    let last : m1 ≡ mark_after (mark_of mark.Start front) 10 = now ∙ mark_of-append mark.Start front (10 ∷ []) in
    record {
      raw = raw ++ piece;
      taken = once_counted a c (raw ++ piece) 1 all;
      first = subst (λ (l : Bytes). IfSome a.left (λ xs. IfSome c.left (λ ys. raw_lines xs ≡ l ∷ raw_lines ys))) (sym line) (first_ended a.left c.left front fine (subst (Consumes a.left c.left) line all.bytes_are));
      counted = ap (λ (n : ℕ). n + 1) lines;
      told = told ∙ ap is_closing now ∙ closes_ended front fine ∙ ap (λ (l : Bytes). is_end_mark (content l)) (sym line);
      mark = λ e. still_may_be most a b old mid new m raw piece t add (sym (ap is_other is) ∙ closing_is_not_other m1 (sym told ∙ e));
      line = λ e. grown most a b old mid new m raw piece t add (sym (ap is_other is) ∙ ap is_other last ∙ ended_other (mark_of mark.Start front) (sym (ap is_closing last) ∙ sym told ∙ e));
    }

-- the script's end after a mark

some_bytes : (raw : Bytes) → is_closing (mark_of mark.Start raw) ≡ true → 0 < length raw
some_bytes [] e = absurd cc
some_bytes (b ∷ raw) e = omega arith

pub marked_at_end : (most : ℕ) (a b c : Stream) (old new : Kept) (m : EndMark) (raw : Bytes) → Collecting most a b old new m raw → Takes b c [] → IsAtEnd b.left → is_closing m ≡ true → c.lines ≡ a.lines → TookPayloadLine most a (with_lines c 1) old new true
marked_at_end most a b c old new m raw t more e closes lines =
    let all : Takes a c raw = subst (Takes a c) (append-nil raw) (took_more a b c raw [] t.taken more) in
    record {
      raw = raw;
      taken = once_counted a c raw 1 all;
      first = first_unended a.left b.left c.left raw t.plain (some_bytes raw (sym (ap is_closing t.mark_is) ∙ closes)) t.taken.bytes_are e more.bytes_are;
      counted = ap (λ (n : ℕ). n + 1) lines;
      told = sym closes ∙ ap is_closing t.mark_is ∙ closes_unended raw t.plain;
      mark = λ f. t.may_be (closing_is_not_other m closes);
      line = λ f. absurd cc;
    }

-- the script's end after anything else

counts_by : (k n : Known) (g0 g1 : ℕ) (raw : Bytes) → Consumes k n raw → Rises k g0 g1 (length raw) → IfSome k (λ xs. IfSome n (λ ys. g1 + length ys ≡ g0 + length xs))
counts_by None n g0 g1 raw c r = tt
counts_by (Some xs) None g0 g1 raw c r = absurd c
counts_by (Some xs) (Some ys) g0 g1 raw c r =
    let len : length xs ≡ length raw + length ys = ap length c ∙ length-append raw ys in
    omega arith

pub counts : (a b : Stream) (raw : Bytes) → Takes a b raw → Counts a b
counts a b raw t = counts_by a.left b.left a.given b.given raw t.bytes_are t.counted

closes_not : (raw : Bytes) (ls : List Bytes) → is_end_mark (content raw) ≡ false → payload_of (raw ∷ ls) ≡ elim (payload_of ls) [ None ↦ None | Some x ↦ Some (raw ++ x.0, x.1) ]
closes_not raw ls e = ap (λ (b : Bool). cond b (Some ([], ls)) (elim (payload_of ls) [ None ↦ None | Some x ↦ Some (raw ++ x.0, x.1) ])) e

none_closes : (raw : Bytes) → list_all is_plain raw ≡ true → is_closing (mark_of mark.Start raw) ≡ false → payload_of (raw_lines raw) ≡ None
none_closes [] plain e = refl
none_closes (b ∷ raw) plain e = ap payload_of (raw_unended b raw plain) ∙ closes_not (b ∷ raw) [] (sym (closes_unended (b ∷ raw) plain) ∙ e)

unclosed_by : (k m n : Known) (raw : Bytes) → list_all is_plain raw ≡ true → is_closing (mark_of mark.Start raw) ≡ false → Consumes k m raw → IsAtEnd m → Consumes m n [] → IfSome k (λ xs. (payload_of (raw_lines xs) ≡ None) × (n ≡ Some []))
unclosed_by None m n raw plain f h e k = tt
unclosed_by (Some xs) None n raw plain f h e k = absurd h
unclosed_by (Some xs) (Some zs) None raw plain f h e k = absurd k
unclosed_by (Some xs) (Some zs) (Some ys) raw plain f h e k =
    let all : xs ≡ raw = h ∙ ap (λ (l : Bytes). raw ++ l) e ∙ append-nil raw in
    (ap (λ (l : Bytes). payload_of (raw_lines l)) all ∙ none_closes raw plain f, ap Some (sym k ∙ e))

pub unclosed : (most : ℕ) (a b c : Stream) (old new : Kept) (m : EndMark) (raw : Bytes) → Collecting most a b old new m raw → Takes b c [] → IsAtEnd b.left → is_closing m ≡ false → Unclosed a c
unclosed most a b c old new m raw t more e none =
    let all : Takes a c raw = subst (Takes a c) (append-nil raw) (took_more a b c raw [] t.taken more) in
    record {
      open_is = unclosed_by a.left b.left c.left raw t.plain (sym (ap is_closing t.mark_is) ∙ none) t.taken.bytes_are e more.bytes_are;
      counted = counts a c raw all;
    }

-- the lines of a payload

some_is : {A : Type 0} (x y : A) → Some x ≡ Some y → x ≡ y
some_is x y e = cc

-- each line that was taken was counted
abbrev Numbers : ℕ → ℕ → Bytes → Bytes → Type 0
Numbers l0 l1 xs ys = l1 + length (raw_lines ys) ≡ l0 + length (raw_lines xs)

abbrev pub PassedBy : Bytes → Known → Known → ℕ → ℕ → ℕ → ℕ → Type 0
PassedBy front k m g0 g1 l0 l1 = IfSome k (λ xs. (ys : Bytes) × (m ≡ Some ys) × (payload_of (raw_lines xs) ≡ prefixed front (payload_of (raw_lines ys))) × (g1 + length ys ≡ g0 + length xs) × Numbers l0 l1 xs ys)

pub record Within (most : ℕ) (a b : Stream) (k : Kept) (front : Bytes) : Type 0 where
  pub holds : Holds most k front
  pub passed : PassedBy front a.left b.left a.given b.given a.lines b.lines

prefixed_none : (o : Option (Bytes × List Bytes)) → o ≡ prefixed [] o
prefixed_none None = refl
prefixed_none (Some x) = refl

begun : (k : Known) (g l : ℕ) → PassedBy [] k k g g l l
begun None g l = tt
begun (Some xs) g l = (xs, refl, prefixed_none (payload_of (raw_lines xs)), refl, refl)

pub within_none : (most : ℕ) (s : Stream) (k : Kept) → Holds most k [] → Within most s s k []
within_none most s k h = record { holds = h; passed = begun s.left s.given s.lines }

line_passed : (raw : Bytes) (ls : List Bytes) → is_end_mark (content raw) ≡ false → payload_of (raw ∷ ls) ≡ prefixed raw (payload_of ls)
line_passed raw ls e = closes_not raw ls e ∙ as_prefixed (payload_of ls)
  where
    as_prefixed : (o : Option (Bytes × List Bytes)) → elim o [ None ↦ None | Some x ↦ Some (raw ++ x.0, x.1) ] ≡ prefixed raw o
    as_prefixed None = refl
    as_prefixed (Some x) = refl

line_closes : (raw : Bytes) (ls : List Bytes) → is_end_mark (content raw) ≡ true → payload_of (raw ∷ ls) ≡ Some ([], ls)
line_closes raw ls e = ap (λ (b : Bool). cond b (Some ([], ls)) (elim (payload_of ls) [ None ↦ None | Some x ↦ Some (raw ++ x.0, x.1) ])) e

twice : (front raw : Bytes) (o : Option (Bytes × List Bytes)) → prefixed front (prefixed raw o) ≡ prefixed (front ++ raw) o
twice front raw None = refl
twice front raw (Some x) = ap (λ (l : Bytes). Some (l, x.1)) (sym (append_assoc front raw x.0))

-- one more line; `goal` says what follows from it
by_line : (front : Bytes) (k m n : Known) (g0 g1 g2 l0 l1 l2 : ℕ) (raw : Bytes) (P : Bytes → Bytes → Type 0) → PassedBy front k m g0 g1 l0 l1 → Consumes m n raw → Rises m g1 g2 (length raw) → IfSome m (λ xs. IfSome n (λ ys. raw_lines xs ≡ raw ∷ raw_lines ys)) → l2 ≡ l1 + 1
    → ((xs ws : Bytes) → payload_of (raw_lines xs) ≡ prefixed front (payload_of (raw ∷ raw_lines ws)) → P xs ws) → IfSome k (λ xs. (ys : Bytes) × (n ≡ Some ys) × P xs ys × (g2 + length ys ≡ g0 + length xs) × Numbers l0 l2 xs ys)
by_line front None m n g0 g1 g2 l0 l1 l2 raw P h c g f l goal = tt
by_line front (Some xs) None n g0 g1 g2 l0 l1 l2 raw P h c g f l goal = let q = h.1 in absurd cc
by_line front (Some xs) (Some zs) None g0 g1 g2 l0 l1 l2 raw P h c g f l goal = absurd c
by_line front (Some xs) (Some zs) (Some ws) g0 g1 g2 l0 l1 l2 raw P h c g f l goal =
    let same : zs ≡ h.0 = some_is zs h.0 h.1 in
    let len : length zs ≡ length raw + length ws = ap length c ∙ length-append raw ws in
    let len1 : length zs ≡ length h.0 = ap length same in
    let len2 : g1 + length h.0 ≡ g0 + length xs = h.3 in
    (ws, refl, goal xs ws (h.2 ∙ ap (λ (l : Bytes). prefixed front (payload_of (raw_lines l))) (sym same) ∙ ap (λ (l : List Bytes). prefixed front (payload_of l)) f), omega arith, numbers)
  where
    numbers : Numbers l0 l2 xs ws
    numbers =
        let one : length (raw_lines zs) ≡ suc (length (raw_lines ws)) = ap length f in
        let same : length (raw_lines zs) ≡ length (raw_lines h.0) = ap (λ (l : Bytes). length (raw_lines l)) (some_is zs h.0 h.1) in
        let so_far : l1 + length (raw_lines h.0) ≡ l0 + length (raw_lines xs) = h.4 in
        omega arith

pub within_more : (most : ℕ) (a b c : Stream) (p q : Kept) (ends : Bool) (front : Bytes) (t : TookPayloadLine most b c p q ends) → Within most a b p front → ends ≡ false → Within most a c q (front ++ t.raw)
within_more most a b c p q ends front t w e = record {
  holds = t.line e front w.holds;
  passed = by_line front a.left b.left c.left a.given b.given c.given a.lines b.lines c.lines t.raw (λ (xs ys : Bytes). payload_of (raw_lines xs) ≡ prefixed (front ++ t.raw) (payload_of (raw_lines ys))) w.passed t.taken.bytes_are t.taken.counted t.first t.counted
      (λ xs ws h. h ∙ ap (prefixed front) (line_passed t.raw (raw_lines ws) (sym t.told ∙ e)) ∙ twice front t.raw (payload_of (raw_lines ws)));
}

-- whole lines at once

pub no_lines : GoesOn []
no_lines ys = prefixed_none (payload_of (raw_lines ys))

pub one_line : (line plain : Bytes) → line ≡ plain ++ 10 ∷ [] → list_all is_plain plain ≡ true → eqb (get_or line 0 0) 92 ≡ false → GoesOn line
one_line line plain is fine first ys =
    let other : mark_of mark.Start (plain ++ 10 ∷ []) ≡ mark.Other = opens_other plain (sym (ap (λ (l : Bytes). eqb (get_or l 0 0) 92) is) ∙ first) in
    let no_mark : is_end_mark (content line) ≡ false = ap (λ (l : Bytes). is_end_mark (content l)) is ∙ sym (closes_ended plain fine) ∙ ap is_closing other in
    let cut : raw_lines (line ++ ys) ≡ line ∷ raw_lines ys =
    ap (λ (l : Bytes). raw_lines (l ++ ys)) is ∙ ap raw_lines (append_assoc plain (10 ∷ []) ys) ∙ raw_ended plain ys fine ∙ ap (λ (l : Bytes). l ∷ raw_lines ys) (sym is) in
    ap payload_of cut ∙ line_passed line (raw_lines ys) no_mark

pub both_on : (front line : Bytes) → GoesOn front → GoesOn line → GoesOn (front ++ line)
both_on front line f l ys =
    ap (λ (v : Bytes). payload_of (raw_lines v)) (append_assoc front line ys) ∙ f (line ++ ys) ∙ ap (prefixed front) (l ys) ∙ twice front line (payload_of (raw_lines ys))

-- one line more, which does not begin with a backslash
pub one_line_more : (bytes : Bytes) (len n : ℕ) → GoesOn (take len bytes) → IsPiece true (take (n + 1) (drop len bytes)) → eqb (get_or bytes len 0) 92 ≡ false → GoesOn (take (len + (n + 1)) bytes)
one_line_more bytes len n f p first =
    let line : Bytes = take (n + 1) (drop len bytes) in
    let at : len + 0 ≡ len = omega arith in
    let start : get_or line 0 0 ≡ get_or bytes len 0 = get_or-take (n + 1) (drop len bytes) 0 0 (omega arith) ∙ get_or-drop len bytes 0 0 ∙ ap (λ (k : ℕ). get_or bytes k 0) at in
    subst GoesOn (sym (take-add len (n + 1) bytes)) (both_on (take len bytes) line f (one_line line p.0 p.1 p.2 (ap (λ (v : ℕ). eqb v 92) start ∙ first)))

-- how many lines they are

pub no_count : HasLines 0 []
no_count ys = omega arith

pub one_count : (line plain : Bytes) → line ≡ plain ++ 10 ∷ [] → list_all is_plain plain ≡ true → HasLines 1 line
one_count line plain is fine ys =
    let cut : raw_lines (line ++ ys) ≡ line ∷ raw_lines ys =
    ap (λ (l : Bytes). raw_lines (l ++ ys)) is ∙ ap raw_lines (append_assoc plain (10 ∷ []) ys) ∙ raw_ended plain ys fine ∙ ap (λ (l : Bytes). l ∷ raw_lines ys) (sym is) in
    let more : length (raw_lines (line ++ ys)) ≡ suc (length (raw_lines ys)) = ap length cut in
    omega arith

pub both_count : (n m : ℕ) (front line : Bytes) → HasLines n front → HasLines m line → HasLines (n + m) (front ++ line)
both_count n m front line f l ys =
    let all : length (raw_lines ((front ++ line) ++ ys)) ≡ length (raw_lines (front ++ (line ++ ys))) = ap (λ (v : Bytes). length (raw_lines v)) (append_assoc front line ys) in
    let first : length (raw_lines (front ++ (line ++ ys))) ≡ n + length (raw_lines (line ++ ys)) = f (line ++ ys) in
    let last : length (raw_lines (line ++ ys)) ≡ m + length (raw_lines ys) = l ys in
    omega arith

pub one_count_more : (bytes : Bytes) (len n k : ℕ) → HasLines k (take len bytes) → IsPiece true (take (n + 1) (drop len bytes)) → HasLines (k + 1) (take (len + (n + 1)) bytes)
one_count_more bytes len n k f p =
    let line : Bytes = take (n + 1) (drop len bytes) in
    subst (HasLines (k + 1)) (sym (take-add len (n + 1) bytes)) (both_count k 1 (take len bytes) line f (one_count line p.0 p.1 p.2))

lines_by : (front : Bytes) (k m n : Known) (g0 g1 g2 l0 l1 l2 count : ℕ) (raw : Bytes) → PassedBy front k m g0 g1 l0 l1 → Consumes m n raw → Rises m g1 g2 (length raw) → GoesOn raw → HasLines count raw → l2 ≡ l1 + count → PassedBy (front ++ raw) k n g0 g2 l0 l2
lines_by front None m n g0 g1 g2 l0 l1 l2 count raw h c g on has l = tt
lines_by front (Some xs) None n g0 g1 g2 l0 l1 l2 count raw h c g on has l = let q = h.1 in absurd cc
lines_by front (Some xs) (Some zs) None g0 g1 g2 l0 l1 l2 count raw h c g on has l = absurd c
lines_by front (Some xs) (Some zs) (Some ws) g0 g1 g2 l0 l1 l2 count raw h c g on has l =
    let same : zs ≡ h.0 = some_is zs h.0 h.1 in
    let len : length zs ≡ length raw + length ws = ap length c ∙ length-append raw ws in
    let len1 : length zs ≡ length h.0 = ap length same in
    let len2 : g1 + length h.0 ≡ g0 + length xs = h.3 in
    let lines : payload_of (raw_lines xs) ≡ prefixed (front ++ raw) (payload_of (raw_lines ws)) =
    h.2 ∙ ap (λ (l : Bytes). prefixed front (payload_of (raw_lines l))) (sym same ∙ c) ∙ ap (prefixed front) (on ws) ∙ twice front raw (payload_of (raw_lines ws)) in
    (ws, refl, lines, omega arith, numbers)
  where
    numbers : Numbers l0 l2 xs ws
    numbers =
        let more : length (raw_lines (raw ++ ws)) ≡ count + length (raw_lines ws) = has ws in
        let all : length (raw_lines zs) ≡ length (raw_lines (raw ++ ws)) = ap (λ (l : Bytes). length (raw_lines l)) c in
        let same : length (raw_lines zs) ≡ length (raw_lines h.0) = ap (λ (l : Bytes). length (raw_lines l)) (some_is zs h.0 h.1) in
        let so_far : l1 + length (raw_lines h.0) ≡ l0 + length (raw_lines xs) = h.4 in
        omega arith

pub within_lines : (most : ℕ) (a b c : Stream) (p q : Kept) (front : Bytes) (t : TookLines most b c p q) → Within most a b p front → Within most a c q (front ++ t.raw)
within_lines most a b c p q front t w = record {
  holds = t.lines front w.holds;
  passed = lines_by front a.left b.left c.left a.given b.given c.given a.lines b.lines c.lines t.count t.raw w.passed t.taken.bytes_are t.taken.counted t.on t.has t.counted;
}

closed_by : (most : ℕ) (front : Bytes) (k n : Known) (g0 g2 l0 l2 : ℕ) (q : Kept) → IfSome k (λ xs. (ys : Bytes) × (n ≡ Some ys) × (payload_of (raw_lines xs) ≡ Some (front, raw_lines ys)) × (g2 + length ys ≡ g0 + length xs) × Numbers l0 l2 xs ys) → Holds most q front
    → IfSome k (λ xs. IsPayloadOf most (payload_of (raw_lines xs)) n (Some q)) × IfSome k (λ xs. IfSome n (λ ys. g2 + length ys ≡ g0 + length xs)) × IfSome k (λ xs. IfSome n (λ ys. Numbers l0 l2 xs ys))
closed_by most front None n g0 g2 l0 l2 q h s = (tt, tt, tt)
closed_by most front (Some xs) None g0 g2 l0 l2 q h s = let none = h.1 in absurd cc
closed_by most front (Some xs) (Some ys) g0 g2 l0 l2 q h s =
    let len : length ys ≡ length h.0 = ap length (some_is ys h.0 h.1) in
    let len1 : g2 + length h.0 ≡ g0 + length xs = h.3 in
    (subst (λ (o : Option (Bytes × List Bytes)). IsPayloadOf most o (Some ys) (Some q)) (sym h.2) (h.0, h.1, refl, s), omega arith, subst (Numbers l0 l2 xs) (sym (some_is ys h.0 h.1)) h.4)

pub payload_closed : (most : ℕ) (a b c : Stream) (k q : Kept) (ends : Bool) (front : Bytes) (t : TookPayloadLine most b c k q ends) → Within most a b k front → ends ≡ true → TookPayload most a c (Some q)
payload_closed most a b c k q ends front t w e =
    let holds : Holds most q front = subst (λ (v : Kept). Holds most v front) (sym (t.mark e)) w.holds in
    let r = closed_by most front a.left c.left a.given c.given a.lines c.lines q
    (by_line front a.left b.left c.left a.given b.given c.given a.lines b.lines c.lines t.raw (λ (xs ys : Bytes). payload_of (raw_lines xs) ≡ Some (front, raw_lines ys)) w.passed t.taken.bytes_are t.taken.counted t.first t.counted
    (λ xs ws h. h ∙ ap (prefixed front) (line_closes t.raw (raw_lines ws) (sym t.told ∙ e)) ∙ ap (λ (l : Bytes). Some (l, raw_lines ws)) (append-nil front)))
    holds in
    record { is = r.0; counted = r.1; lines = r.2 }

open_by : (most : ℕ) (front : Bytes) (k m n : Known) (g0 g1 g2 l0 l1 : ℕ) → PassedBy front k m g0 g1 l0 l1 → IfSome m (λ xs. (payload_of (raw_lines xs) ≡ None) × (n ≡ Some [])) → IfSome m (λ xs. IfSome n (λ ys. g2 + length ys ≡ g1 + length xs))
    → IfSome k (λ xs. IsPayloadOf most (payload_of (raw_lines xs)) n None) × IfSome k (λ xs. IfSome n (λ ys. g2 + length ys ≡ g0 + length xs))
open_by most front None m n g0 g1 g2 l0 l1 h u c = (tt, tt)
open_by most front (Some xs) None n g0 g1 g2 l0 l1 h u c = let q = h.1 in absurd cc
open_by most front (Some xs) (Some zs) None g0 g1 g2 l0 l1 h u c = let q = u.1 in absurd cc
open_by most front (Some xs) (Some zs) (Some ys) g0 g1 g2 l0 l1 h u c =
    let same : zs ≡ h.0 = some_is zs h.0 h.1 in
    let len : length zs ≡ length h.0 = ap length same in
    let len1 : g1 + length h.0 ≡ g0 + length xs = h.3 in
    let none : payload_of (raw_lines xs) ≡ None = h.2 ∙ ap (λ (l : Bytes). prefixed front (payload_of (raw_lines l))) (sym same) ∙ ap (prefixed front) u.0 in
    (subst (λ (o : Option (Bytes × List Bytes)). IsPayloadOf most o (Some ys) None) (sym none) (refl, u.1), omega arith)

pub payload_open : (most : ℕ) (a b c : Stream) (k : Kept) (front : Bytes) → Within most a b k front → Unclosed b c → TookPayload most a c None
payload_open most a b c k front w u =
    let r = open_by most front a.left b.left c.left a.given b.given c.given a.lines b.lines w.passed u.open_is u.counted in
    record { is = r.0; counted = r.1; lines = tt }
