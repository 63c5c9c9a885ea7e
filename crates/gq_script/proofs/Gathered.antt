-- A line, byte by byte.
use Rattle.std.proofs.Common.{◌≡◌, ℕ, ◌+◌, ◌-◌, ◌<◌, ◌≤◌, Bool, true, false, cond, eqb, [], ◌∷◌, ◌++◌, length, take, Some, None, refl, sym, ap, subst, ◌∙◌, arith, append_assoc}
use Rattle.std.proofs.lemmas.List.{append-nil, length_push, take-append-le, take_all}
use Rattle.std.proofs.lemmas.Bool.{eqb-true, le-ltb, lt-ltb, ltb-false, ltb-true}
use Rattle.std.proofs.Math.Dec.{eqb-suc-zero}
use Rattle.std.specs.Prelude.{nat_lt, ◌||◌, IfSome, codes}
use Rattle.std.specs.List.{list_all}
use Rattle.std.specs.Str.{bytes_eq}
use Rattle.std.specs.Io.BufRead.{strip_last}
use Rattle.std.specs.Io.KnownBytes.{Consumes, IsAtEnd}
use Rattle.gq_row.specs.declared.limits.Bounds.{Bounds}
use Rattle.gq_script.specs.declared.gather.Opening.{Opening}
use Rattle.gq_script.specs.declared.gather.Opening.TheVariants as opening
use Rattle.gq_script.specs.declared.gather.OpenLine.{OpenLine}
use Rattle.gq_script.specs.declared.first_word.FirstWord.{FirstWord}
use Rattle.gq_script.specs.declared.first_word.FirstWord.TheVariants as first
use Rattle.gq_script.specs.FirstWords.{word_after, word_of}
use Rattle.gq_token.specs.Texts.{Bytes}
use Rattle.gq_token.specs.Lexing.{is_blank, skip_blanks}
use Rattle.gq_token.proofs.Trimmed.{blank_first, no_blank_first}
use Rattle.gq_script.specs.Script.{Stream, Takes, with_lines, raw_lines, is_skipped}
use Rattle.gq_script.specs.Gathering.{opening_after, opening_of, is_skippable, kept_at, kept_from, Gathers, GathersRaw, TookLine, KeepsBehind}
use Rattle.gq_script.proofs.Front.{consumes_more, rises_none, rises_more, Known}
use Rattle.gq_script.proofs.Ends.{ends_pushed, strip_pushed, strip_and_last, strip_none, content_ended, content_unended, raw_ended, raw_unended, is_plain, plain_push}

opening_push : (o : Opening) (bs : Bytes) (b : ℕ) → opening_of o (bs ++ b ∷ []) ≡ opening_after (opening_of o bs) b
opening_push o [] b = refl
opening_push o (c ∷ bs) b = opening_push (opening_after o c) bs b

comment_stays : (bs : Bytes) → opening_of opening.Comment bs ≡ opening.Comment
comment_stays [] = refl
comment_stays (b ∷ bs) = comment_stays bs

word_stays : (bs : Bytes) → opening_of opening.Word bs ≡ opening.Word
word_stays [] = refl
word_stays (b ∷ bs) = word_stays bs

-- what is kept once another byte came
kept_push : (o : Opening) (front : Bytes) (b : ℕ) → kept_from o (front ++ b ∷ []) ≡ kept_from o front ++ kept_at (opening_of o front) (opening_after (opening_of o front) b) b
kept_push o [] b = append-nil (kept_at o (opening_after o b) b)
kept_push o (c ∷ front) b =
    let p = opening_after o c in
    ap (λ (l : Bytes). kept_at o p c ++ l) (kept_push p front b) ∙ sym (append_assoc (kept_at o p c) (kept_from p front) (kept_at (opening_of p front) (opening_after (opening_of p front) b) b))

-- everything after the blanks is kept of a line that is neither blank nor a comment, except a dash alone

kept_word : (bs : Bytes) → kept_from opening.Word bs ≡ bs
kept_word [] = refl
kept_word (b ∷ bs) = ap (λ (l : Bytes). b ∷ l) (kept_word bs)

kept_dash : (bs : Bytes) → opening_of opening.Dash bs ≡ opening.Word → kept_from opening.Dash bs ≡ 45 ∷ bs
kept_dash [] e = absurd cc
kept_dash (c ∷ bs) e = by_dash (eqb c 45) refl
  where
    by_dash : (t : Bool) → eqb c 45 ≡ t → kept_from opening.Dash (c ∷ bs) ≡ 45 ∷ c ∷ bs
    by_dash true d = let f : opening.Comment ≡ opening.Word = sym (comment_stays bs) ∙ sym (ap (λ (v : Bool). opening_of (cond v opening.Comment opening.Word) bs) d) ∙ e in absurd cc
    by_dash false d = rw d (ap (λ (l : Bytes). 45 ∷ c ∷ l) (kept_word bs))

pub kept_blank : (line : Bytes) → opening_of opening.Blank line ≡ opening.Word → kept_from opening.Blank line ≡ skip_blanks line
kept_blank [] e = absurd cc
kept_blank (b ∷ bs) e = by_blank (is_blank b) refl (kept_blank bs)
  where
    by_dash : (t : Bool) → eqb b 45 ≡ t → is_blank b ≡ false → kept_from opening.Blank (b ∷ bs) ≡ skip_blanks (b ∷ bs)
    by_dash true d f =
        let o : opening_of opening.Dash bs ≡ opening.Word = sym (ap (λ (v : Bool). opening_of (cond v opening.Blank (cond (eqb b 45) opening.Dash opening.Word)) bs) f ∙ ap (λ (w : Bool). opening_of (cond w opening.Dash opening.Word) bs) d) ∙ e in
        rw (no_blank_first b bs f) (rw (f, d) (kept_dash bs o ∙ ap (λ (v : ℕ). v ∷ bs) (sym (eqb-true b 45 d))))
    by_dash false d f = rw (no_blank_first b bs f) (rw (f, d) (ap (λ (l : Bytes). b ∷ l) (kept_word bs)))

    by_blank : (t : Bool) → is_blank b ≡ t → (opening_of opening.Blank bs ≡ opening.Word → kept_from opening.Blank bs ≡ skip_blanks bs) → kept_from opening.Blank (b ∷ bs) ≡ skip_blanks (b ∷ bs)
    by_blank true f next =
        let o : opening_of opening.Blank bs ≡ opening.Word = sym (ap (λ (v : Bool). opening_of (cond v opening.Blank (cond (eqb b 45) opening.Dash opening.Word)) bs) f) ∙ e in
        rw (blank_first b bs f) (rw f (next o))
    by_blank false f next = by_dash (eqb b 45) refl f

dash_alone : (bs : Bytes) → opening_of opening.Dash bs ≡ opening.Dash → bs ≡ []
dash_alone [] e = refl
dash_alone (c ∷ bs) e = by_dash (eqb c 45) refl
  where
    by_dash : (t : Bool) → eqb c 45 ≡ t → c ∷ bs ≡ []
    by_dash true d = let f : opening.Comment ≡ opening.Dash = sym (comment_stays bs) ∙ sym (ap (λ (v : Bool). opening_of (cond v opening.Comment opening.Word) bs) d) ∙ e in absurd cc
    by_dash false d = let f : opening.Word ≡ opening.Dash = sym (word_stays bs) ∙ sym (ap (λ (v : Bool). opening_of (cond v opening.Comment opening.Word) bs) d) ∙ e in absurd cc

pub dash_line : (line : Bytes) → opening_of opening.Blank line ≡ opening.Dash → skip_blanks line ≡ 45 ∷ []
dash_line [] e = absurd cc
dash_line (b ∷ bs) e = by_blank (is_blank b) refl (dash_line bs)
  where
    by_dash : (t : Bool) → eqb b 45 ≡ t → is_blank b ≡ false → skip_blanks (b ∷ bs) ≡ 45 ∷ []
    by_dash true d f =
        let o : opening_of opening.Dash bs ≡ opening.Dash = sym (ap (λ (v : Bool). opening_of (cond v opening.Blank (cond (eqb b 45) opening.Dash opening.Word)) bs) f ∙ ap (λ (w : Bool). opening_of (cond w opening.Dash opening.Word) bs) d) ∙ e in
        no_blank_first b bs f ∙ ap (λ (v : ℕ). v ∷ bs) (eqb-true b 45 d) ∙ ap (λ (l : Bytes). 45 ∷ l) (dash_alone bs o)
    by_dash false d f =
        let o : opening.Word ≡ opening.Dash = sym (word_stays bs) ∙ sym (ap (λ (v : Bool). opening_of (cond v opening.Blank (cond (eqb b 45) opening.Dash opening.Word)) bs) f ∙ ap (λ (w : Bool). opening_of (cond w opening.Dash opening.Word) bs) d) ∙ e in
        absurd cc

    by_blank : (t : Bool) → is_blank b ≡ t → (opening_of opening.Blank bs ≡ opening.Dash → skip_blanks bs ≡ 45 ∷ []) → skip_blanks (b ∷ bs) ≡ 45 ∷ []
    by_blank true f next = blank_first b bs f ∙ next (sym (ap (λ (v : Bool). opening_of (cond v opening.Blank (cond (eqb b 45) opening.Dash opening.Word)) bs) f) ∙ e)
    by_blank false f next = by_dash (eqb b 45) refl f

lt_true : (a b : ℕ) → a < b → nat_lt a b ≡ true
lt_true a b h = lt-ltb a b h

-- no room was left
word_push : (w : FirstWord) (bs : Bytes) (b : ℕ) → word_of w (bs ++ b ∷ []) ≡ word_after (word_of w bs) b
word_push w [] b = refl
word_push w (c ∷ bs) b = word_push (word_after w c) bs b

pub added_past : (most : ℕ) (old new : OpenLine) (front : Bytes) (b : ℕ) → Gathers most old front → new.opening ≡ opening_after old.opening b → old.room ≡ 0 → new.room ≡ old.room → new.too_long ≡ true → new.first_word ≡ old.first_word
    → Gathers most new (front ++ b ∷ [])
added_past most old new front b h o full room long same =
    let k : length (front ++ b ∷ []) ≡ length front + 1 = length_push front b in
    let r : old.room ≡ most - length front = h.room in
    let lt : most < length (front ++ b ∷ []) = omega arith in
    let le : most ≤ length front = omega arith in
    record {
      room = omega arith;
      word = same ∙ h.word ∙ ap (word_of first.Blank) (sym (take-append-le most front (b ∷ []) le));
      too_long = long ∙ sym (lt_true most (length (front ++ b ∷ [])) lt);
      opening = o ∙ ap (λ (v : Opening). opening_after v b) h.opening ∙ sym (opening_push opening.Blank front b);
      kept = λ e f. let g : true ≡ false = sym long ∙ f in absurd cc;
    }

-- some room was left
pub added : (most : ℕ) (old mid new : OpenLine) (front : Bytes) (b : ℕ) → Gathers most old front → mid.opening ≡ opening_after old.opening b → (old.room ≡ 0 → ⊥) → mid.room ≡ old.room - 1 → mid.too_long ≡ old.too_long → mid.lost ≡ old.lost → mid.kept.items ≡ old.kept.items → mid.first_word ≡ word_after old.first_word b
    → KeepsBehind old.opening mid new b → Gathers most new (front ++ b ∷ [])
added most old mid new front b h o some room long lost kept w k =
    let n : length (front ++ b ∷ []) ≡ length front + 1 = length_push front b in
    let r : old.room ≡ most - length front = h.room in
    let r1 : new.room ≡ mid.room = k.room in
    let le : length (front ++ b ∷ []) ≤ most = omega arith in
    let le1 : length front ≤ most = omega arith in
    let told : mid.opening ≡ opening_after (opening_of opening.Blank front) b = o ∙ ap (λ (v : Opening). opening_after v b) h.opening in
    record {
      room = omega arith;
      too_long = k.too_long ∙ long ∙ h.too_long ∙ le-ltb most (length front) le1 ∙ sym (le-ltb most (length (front ++ b ∷ [])) le);
      opening = k.opening ∙ told ∙ sym (opening_push opening.Blank front b);
      word =
          k.word ∙ w ∙ ap (λ (v : FirstWord). word_after v b) (h.word ∙ ap (word_of first.Blank) (take_all most front le1)) ∙ sym (word_push first.Blank front b)
          ∙ ap (word_of first.Blank) (sym (take_all most (front ++ b ∷ []) le));
      kept = λ e f.
          let p = k.kept e in
          p.1 ∙ ap (λ (l : Bytes). l ++ kept_at old.opening mid.opening b) (kept ∙ h.kept (sym lost ∙ p.0) (sym long ∙ sym k.too_long ∙ f))
          ∙ ap (λ (v : Opening). kept_from opening.Blank front ++ kept_at v mid.opening b) h.opening
          ∙ ap (λ (v : Opening). kept_from opening.Blank front ++ kept_at (opening_of opening.Blank front) v b) told
          ∙ sym (kept_push opening.Blank front b);
    }

-- the CR that waited
pub behind : (most : ℕ) (old new : OpenLine) (cr : Bool) (raw : Bytes) → GathersRaw most old cr raw → cr ≡ true → ((m : ℕ) (front : Bytes) → Gathers m old front → Gathers m new (front ++ 13 ∷ [])) → Gathers most new raw
behind most old new cr raw h is add =
    subst (Gathers most new) (strip_and_last 13 raw (sym h.cr ∙ is)) (add most (strip_last 13 raw) h.front)

pub not_behind : (most : ℕ) (old : OpenLine) (cr : Bool) (raw : Bytes) → GathersRaw most old cr raw → cr ≡ false → Gathers most old raw
not_behind most old cr raw h is = subst (Gathers most old) (strip_none 13 raw (sym h.cr ∙ is)) h.front

pub then_cr : (most : ℕ) (line : OpenLine) (raw : Bytes) (b : ℕ) → Gathers most line raw → b ≡ 13 → GathersRaw most line true (raw ++ b ∷ [])
then_cr most line raw b h is =
    let t : eqb b 13 ≡ true = ap (λ (v : ℕ). eqb v 13) is in
    record {
      front = subst (Gathers most line) (sym (strip_pushed 13 raw b ∙ ap (λ (c : Bool). cond c raw (raw ++ b ∷ [])) t)) h;
      cr = sym (ends_pushed 13 raw b ∙ t);
    }

pub then_other : (most : ℕ) (line : OpenLine) (raw : Bytes) (b : ℕ) → Gathers most line (raw ++ b ∷ []) → eqb b 13 ≡ false → GathersRaw most line false (raw ++ b ∷ [])
then_other most line raw b h t = record {
  front = subst (Gathers most line) (sym (strip_pushed 13 raw b ∙ ap (λ (c : Bool). cond c raw (raw ++ b ∷ [])) t)) h;
  cr = sym (ends_pushed 13 raw b ∙ t);
}

-- blank lines and comments

abbrev skips : Bytes → Bool
skips bs = eqb (length bs) 0 || bytes_eq (take 2 bs) (codes "--")

skips_some : (b : ℕ) (bs : Bytes) → skips (b ∷ bs) ≡ bytes_eq (take 2 (b ∷ bs)) (codes "--")
skips_some b bs = ap (λ (t : Bool). t || bytes_eq (take 2 (b ∷ bs)) (codes "--")) (eqb-suc-zero (length bs))

dash_next : (bs : Bytes) → is_skippable (opening_of opening.Dash bs) ≡ skips (45 ∷ bs)
dash_next [] = refl
dash_next (c ∷ bs) = by_test (eqb c 45) refl
  where
    by_test : (t : Bool) → eqb c 45 ≡ t → is_skippable (opening_of opening.Dash (c ∷ bs)) ≡ skips (45 ∷ c ∷ bs)
    by_test true e = rw (skips_some 45 (c ∷ bs), e) (ap is_skippable (comment_stays bs))
    by_test false e = rw (skips_some 45 (c ∷ bs), e) (ap is_skippable (word_stays bs))

word_next : (b : ℕ) (bs : Bytes) → eqb b 45 ≡ false → is_skippable (opening_of opening.Word bs) ≡ skips (b ∷ bs)
word_next b [] e = rw e refl
word_next b (c ∷ bs) e = rw (skips_some b (c ∷ bs), e) (ap is_skippable (word_stays (c ∷ bs)))

pub opening_tells : (line : Bytes) → is_skippable (opening_of opening.Blank line) ≡ is_skipped line
opening_tells [] = refl
opening_tells (b ∷ bs) = by_blank (is_blank b) refl (opening_tells bs)
  where
    by_dash : (t : Bool) → eqb b 45 ≡ t → is_blank b ≡ false → is_skippable (opening_of opening.Blank (b ∷ bs)) ≡ skips (b ∷ bs)
    by_dash true e f = ap (λ (o : Bool). is_skippable (opening_of (cond o opening.Blank (cond (eqb b 45) opening.Dash opening.Word)) bs)) f ∙ ap (λ (o : Bool). is_skippable (opening_of (cond o opening.Dash opening.Word) bs)) e ∙ dash_next bs ∙ ap (λ (v : ℕ). skips (v ∷ bs)) (sym (eqb-true b 45 e))
    by_dash false e f = ap (λ (o : Bool). is_skippable (opening_of (cond o opening.Blank (cond (eqb b 45) opening.Dash opening.Word)) bs)) f ∙ ap (λ (o : Bool). is_skippable (opening_of (cond o opening.Dash opening.Word) bs)) e ∙ word_next b bs e

    by_blank : (t : Bool) → is_blank b ≡ t → is_skippable (opening_of opening.Blank bs) ≡ is_skipped bs → is_skippable (opening_of opening.Blank (b ∷ bs)) ≡ is_skipped (b ∷ bs)
    by_blank true e next = ap (λ (o : Bool). is_skippable (opening_of (cond o opening.Blank (cond (eqb b 45) opening.Dash opening.Word)) bs)) e ∙ next ∙ ap skips (sym (blank_first b bs e))
    by_blank false e next = by_dash (eqb b 45) refl e ∙ ap skips (sym (no_blank_first b bs e))

-- the loop that takes a line

pub record Taking (most : ℕ) (before now : Stream) (line : OpenLine) (after_cr any : Bool) (raw : Bytes) : Type 0 where
  pub taken : Takes before now raw
  pub plain : list_all is_plain raw ≡ true
  pub gathers : GathersRaw most line after_cr raw
  pub some : any ≡ nat_lt 0 (length raw)

same_bytes : (k : Known) → Consumes k k []
same_bytes None = tt
same_bytes (Some xs) = refl

pub took_none : (s : Stream) → Takes s s []
took_none s = record { bytes_are = same_bytes s.left; counted = rises_none s.left s.given }

pub took_more : (a b c : Stream) (xs ys : Bytes) → Takes a b xs → Takes b c ys → Takes a c (xs ++ ys)
took_more a b c xs ys h k = record {
  bytes_are = consumes_more a.left b.left c.left xs ys h.bytes_are k.bytes_are;
  counted = rises_more a.left b.left c.left xs ys a.given b.given c.given h.bytes_are k.bytes_are h.counted k.counted;
}

-- the lines make no difference to the bytes
pub once_counted : (a b : Stream) (raw : Bytes) (n : ℕ) → Takes a b raw → Takes a (with_lines b n) raw
once_counted a b raw n h = record { bytes_are = h.bytes_are; counted = h.counted }

pub started : (most : ℕ) (s : Stream) (line : OpenLine) → Gathers most line [] → Taking most s s line false false []
started most s line h = record { taken = took_none s; plain = refl; gathers = record { front = h; cr = refl }; some = refl }

pub fed : (most : ℕ) (a b c : Stream) (line new : OpenLine) (cr cr1 any : Bool) (raw : Bytes) (x : ℕ) → Taking most a b line cr any raw → Takes b c (x ∷ []) → eqb x 10 ≡ false
    → ((m : ℕ) (r : Bytes) → GathersRaw m line cr r → GathersRaw m new cr1 (r ++ x ∷ [])) → Taking most a c new cr1 true (raw ++ x ∷ [])
fed most a b c line new cr cr1 any raw x t more other feed =
    let lt : 0 < length (raw ++ x ∷ []) = omega (arith, length_push raw x) in
    record {
      taken = took_more a b c raw (x ∷ []) t.taken more;
      plain = plain_push raw x t.plain other;
      gathers = feed most raw t.gathers;
      some = sym (lt_true 0 (length (raw ++ x ∷ [])) lt);
    }

pub first_ended : (k n : Known) (raw : Bytes) → list_all is_plain raw ≡ true → Consumes k n (raw ++ 10 ∷ []) → IfSome k (λ xs. IfSome n (λ ys. raw_lines xs ≡ (raw ++ 10 ∷ []) ∷ raw_lines ys))
first_ended None n raw plain h = tt
first_ended (Some xs) None raw plain h = tt
first_ended (Some xs) (Some ys) raw plain h = ap raw_lines (h ∙ append_assoc raw (10 ∷ []) ys) ∙ raw_ended raw ys plain

pub ended : (l : Bounds) (a b c : Stream) (line : OpenLine) (cr any : Bool) (raw : Bytes) (x : ℕ) → Taking l.line a b line cr any raw → Takes b c (x ∷ []) → x ≡ 10 → c.lines ≡ a.lines → TookLine l a (with_lines c 1) line
ended l a b c line cr any raw x t more is lines =
    let all : Takes a c (raw ++ 10 ∷ []) = took_more a b c raw (10 ∷ []) t.taken (subst (λ (v : ℕ). Takes b c (v ∷ [])) is more) in
    record {
      raw = raw ++ 10 ∷ [];
      taken = once_counted a c (raw ++ 10 ∷ []) 1 all;
      first = first_ended a.left c.left raw t.plain all.bytes_are;
      lines = ap (λ (n : ℕ). n + 1) lines;
      gathers = subst (Gathers l.line line) (sym (content_ended raw)) t.gathers.front;
    }

pub first_unended : (k m n : Known) (raw : Bytes) → list_all is_plain raw ≡ true → 0 < length raw → Consumes k m raw → IsAtEnd m → Consumes m n [] → IfSome k (λ xs. IfSome n (λ ys. raw_lines xs ≡ raw ∷ raw_lines ys))
first_unended None m n raw plain some h e k = tt
first_unended (Some xs) None n raw plain some h e k = absurd h
first_unended (Some xs) (Some zs) None raw plain some h e k = tt
first_unended (Some xs) (Some zs) (Some ys) [] plain some h e k = absurd (omega arith)
first_unended (Some xs) (Some zs) (Some ys) (b ∷ raw) plain some h e k =
    let none : ys ≡ [] = sym k ∙ e in
    let all : xs ≡ b ∷ raw = h ∙ ap (λ (l : Bytes). (b ∷ raw) ++ l) e ∙ append-nil (b ∷ raw) in
    ap raw_lines all ∙ raw_unended b raw plain ∙ ap (λ (l : Bytes). (b ∷ raw) ∷ raw_lines l) (sym none)

pub unended : (l : Bounds) (a b c : Stream) (line new : OpenLine) (cr any : Bool) (raw : Bytes) → Taking l.line a b line cr any raw → Takes b c [] → IsAtEnd b.left → any ≡ true
    → ((m : ℕ) (r : Bytes) → GathersRaw m line cr r → Gathers m new r) → c.lines ≡ a.lines → TookLine l a (with_lines c 1) new
unended l a b c line new cr any raw t more e some close lines =
    let lt : 0 < length raw = ltb-true 0 (length raw) (sym t.some ∙ some) in
    let all : Takes a c raw = subst (Takes a c) (append-nil raw) (took_more a b c raw [] t.taken more) in
    record {
      raw = raw;
      taken = once_counted a c raw 1 all;
      first = first_unended a.left b.left c.left raw t.plain lt t.taken.bytes_are e more.bytes_are;
      lines = ap (λ (n : ℕ). n + 1) lines;
      gathers = subst (Gathers l.line new) (sym (content_unended raw t.plain)) (close l.line raw t.gathers);
    }

pub at_end : (k m : Known) → Consumes k m [] → IsAtEnd m → IsAtEnd k
at_end None m h e = tt
at_end (Some xs) None h e = absurd h
at_end (Some xs) (Some ys) h e = h ∙ e

pub no_bytes : (raw : Bytes) → nat_lt 0 (length raw) ≡ false → raw ≡ []
no_bytes [] e = refl
no_bytes (b ∷ raw) e = let le = ltb-false 0 (length (b ∷ raw)) e in absurd (omega arith)

pub nothing_left : (most : ℕ) (a b c : Stream) (line : OpenLine) (cr any : Bool) (raw : Bytes) → Taking most a b line cr any raw → Takes b c [] → IsAtEnd b.left → any ≡ false → Takes a c [] × IsAtEnd a.left
nothing_left most a b c line cr any raw t more e none =
    let is : raw ≡ [] = no_bytes raw (sym t.some ∙ none) in
    let first : Takes a b [] = subst (Takes a b) is t.taken in
    (took_more a b c [] [] first more, at_end a.left b.left first.bytes_are e)
