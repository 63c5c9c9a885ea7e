-- A record without quotes, field by field.
use Rattle.std.proofs.Common.{◌≡◌, ◌≢◌, ◌∙◌, ◌||◌, not, ℕ, ◌+◌, ◌<◌, ◌≤◌, Bool, true, false, eqb, List, [], ◌∷◌, ◌++◌, length, get_or, take, drop, Option, Some, None, refl, sym, ap, subst, arith, add-one, append_assoc, append-nil, drop-cons, get_or-drop, length-drop}
use Rattle.std.proofs.Math.Numerals.{one-add}
use Rattle.std.proofs.lemmas.Bool.{ne_eqb}
use Rattle.std.proofs.lemmas.List.{drop-drop, length-take-le, take_all, take-append-le}
use Rattle.std.proofs.lemmas.List.Elements.{All-push}
use Rattle.std.proofs.lemmas.List.Sums.{prefix_len_stops}
use Rattle.std.specs.List.{position_or_len, prefix_len}
use Rattle.std.specs.Io.KnownBytes.{prepend_known}
use Rattle.csv.specs.Machine.{next_record, step, after_end}
use Rattle.csv.specs.Reading.{default_config}
use Rattle.csv.specs.declared.parser.State.{State}
use Rattle.csv.specs.declared.parser.State.TheVariants as st
use Rattle.csv.specs.declared.parser.Action.TheVariants as act
use Rattle.csv.specs.declared.parser.Terminator.TheVariants as term
use Rattle.gq_csv.specs.declared.span.FieldSpan.{FieldSpan}
use Rattle.gq_csv.specs.declared.scan.Scan.{Scan}
use Rattle.gq_csv.specs.declared.scan.Scan.TheVariants as scan
use Rattle.gq_csv.specs.Bytes.{ends_line, is_special}
use Rattle.gq_csv.specs.Fields.{AreWithin, IsWithin, fields_in}
use Rattle.gq_csv.specs.Inputs.{Ahead, known}
use Rattle.gq_csv.specs.Reads.{Reads, SameRecords}
use Rattle.gq_csv.specs.Scanning.{Found, Scanned}
use Rattle.gq_csv.proofs.FieldLemmas.{fields_end, fields_taken, within_more}

-- ---- the steps of plain bytes and of special ones

abbrev Next : State → List (List ℕ) → List ℕ → List ℕ → Option (List (List ℕ) × State × List ℕ)
Next s fields field xs = next_record default_config s fields field xs

record Plain (b : ℕ) : Type 0 where
  comma : eqb b 44 ≡ false
  quote : eqb b 34 ≡ false
  cr : eqb b 13 ≡ false
  lf : eqb b 10 ≡ false

none_of : (p q r s : Bool) → ((p || q) || (r || s)) ≡ false → (p ≡ false) × (q ≡ false) × (r ≡ false) × (s ≡ false)
none_of false false false false e = (refl, refl, refl, refl)
none_of true q r s e = cc
none_of false true r s e = cc
none_of false false true s e = cc
none_of false false false true e = cc

plain : (b : ℕ) → is_special b ≡ false → Plain b
plain b e = let h = none_of (eqb b 44) (eqb b 34) (eqb b 13) (eqb b 10) e in record { comma = h.0; quote = h.1; cr = h.2; lf = h.3 }

plain_step : (b : ℕ) → Plain b → step default_config st.InField b ≡ (st.InField, act.Copy)
plain_step b h = rw (h.comma, h.cr, h.lf) refl

end_step : (b : ℕ) → eqb b 44 ≡ false → ends_line b ≡ true → step default_config st.InField b ≡ (after_end term.CRLF b, act.EndRecord)
end_step b comma line = rw (comma, line) refl

-- ---- plain bytes join the field

pub join_plain : (fields : List (List ℕ)) (field ys more : List ℕ)
    → Next st.InField fields field (ys ++ more) ≡ Next st.InField fields (field ++ take (position_or_len is_special ys) ys) (drop (position_or_len is_special ys) ys ++ more)
unfolding next_record
join_plain fields field [] more = ap (λ f. Next st.InField fields f more) (sym (append-nil field))
join_plain fields field (y ∷ rest) more = by_byte (is_special y) refl (join_plain fields (field ++ y ∷ []) rest more)
  where
    by_byte : (b : Bool) → is_special y ≡ b
        → Next st.InField fields (field ++ y ∷ []) (rest ++ more) ≡ Next st.InField fields ((field ++ y ∷ []) ++ take (position_or_len is_special rest) rest) (drop (position_or_len is_special rest) rest ++ more)
        → Next st.InField fields field ((y ∷ rest) ++ more)
        ≡ Next st.InField fields (field ++ take (position_or_len is_special (y ∷ rest)) (y ∷ rest)) (drop (position_or_len is_special (y ∷ rest)) (y ∷ rest) ++ more)
    by_byte true e again = rw (e, append-nil field) refl
    by_byte false e again = rw (plain_step y (plain y e), e, one-add (position_or_len is_special rest)) (again ∙ ap (λ f. Next st.InField fields f (drop (position_or_len is_special rest) rest ++ more)) (append_assoc field (y ∷ []) _))

quoted_step : (b : ℕ) → Plain b → step default_config st.InQuoted b ≡ (st.InQuoted, act.Copy)
quoted_step b h = rw h.quote refl

pub join_quoted : (fields : List (List ℕ)) (field ys more : List ℕ)
    → Next st.InQuoted fields field (ys ++ more) ≡ Next st.InQuoted fields (field ++ take (position_or_len is_special ys) ys) (drop (position_or_len is_special ys) ys ++ more)
unfolding next_record
join_quoted fields field [] more = ap (λ f. Next st.InQuoted fields f more) (sym (append-nil field))
join_quoted fields field (y ∷ rest) more = by_byte (is_special y) refl (join_quoted fields (field ++ y ∷ []) rest more)
  where
    by_byte : (b : Bool) → is_special y ≡ b
        → Next st.InQuoted fields (field ++ y ∷ []) (rest ++ more) ≡ Next st.InQuoted fields ((field ++ y ∷ []) ++ take (position_or_len is_special rest) rest) (drop (position_or_len is_special rest) rest ++ more)
        → Next st.InQuoted fields field ((y ∷ rest) ++ more)
        ≡ Next st.InQuoted fields (field ++ take (position_or_len is_special (y ∷ rest)) (y ∷ rest)) (drop (position_or_len is_special (y ∷ rest)) (y ∷ rest) ++ more)
    by_byte true e again = rw (e, append-nil field) refl
    by_byte false e again = rw (quoted_step y (plain y e), e, one-add (position_or_len is_special rest)) (again ∙ ap (λ f. Next st.InQuoted fields f (drop (position_or_len is_special rest) rest ++ more)) (append_assoc field (y ∷ []) _))

-- a field that doesn't begin with a quote
start_plain : (fields : List (List ℕ)) (y : ℕ) (rest : List ℕ) → eqb y 34 ≡ false → Next st.StartField fields [] (y ∷ rest) ≡ Next st.InField fields [] (y ∷ rest)
unfolding next_record
start_plain fields y rest e = rw e refl

module _ (ys : List ℕ) (n : ℕ) (is : n ≡ position_or_len is_special ys) (within : n < length ys) (special : get_or ys n 0 ≢ 34) where
  stop : drop n ys ≡ get_or ys n 0 ∷ drop (n + 1) ys
  stop = drop-cons ys n 0 within ∙ ap (λ m. get_or ys n 0 ∷ drop m ys) (sym (add-one n))

  unquoted : (zs : List ℕ) → zs ≡ ys → (m : ℕ) → m ≡ n → (fields : List (List ℕ)) (more : List ℕ) → Next st.StartField fields [] (zs ++ more) ≡ Next st.InField fields [] (zs ++ more)
  unquoted [] e m s fields more = absurd (omega (arith, ap length e, within))
  unquoted (z ∷ zs) e m s fields more = start_plain fields z (zs ++ more) (by_byte (is_special z) refl)
    where
      by_byte : (b : Bool) → is_special z ≡ b → eqb z 34 ≡ false
      by_byte false h = (plain z h).quote
      by_byte true h =
          let none : position_or_len is_special (z ∷ zs) ≡ 0 = rw h refl in
          let first : n ≡ 0 = is ∙ ap (position_or_len is_special) (sym e) ∙ none in
          let here : get_or ys n 0 ≡ z = λ i. get_or (sym e i) (first i) 0 in
          ne_eqb z 34 (λ q. special (here ∙ q))

  field_read : (fields : List (List ℕ)) (more : List ℕ) → Next st.StartField fields [] (ys ++ more) ≡ Next st.InField fields (take n ys) (get_or ys n 0 ∷ (drop (n + 1) ys ++ more))
  field_read fields more =
      unquoted ys refl n refl fields more ∙ join_plain fields [] ys more
      ∙ (λ i. Next st.InField fields (take (sym is i) ys) (drop (sym is i) ys ++ more))
      ∙ ap (λ l. Next st.InField fields (take n ys) (l ++ more)) stop

  pub at_comma : get_or ys n 0 ≡ 44 → (fields : List (List ℕ)) (more : List ℕ) → Next st.StartField fields [] (ys ++ more) ≡ Next st.StartField (fields ++ take n ys ∷ []) [] (drop (n + 1) ys ++ more)
  unfolding next_record
  at_comma e fields more = field_read fields more ∙ ap (λ b. Next st.InField fields (take n ys) (b ∷ (drop (n + 1) ys ++ more))) e

  pub at_end : eqb (get_or ys n 0) 44 ≡ false → ends_line (get_or ys n 0) ≡ true → (fields : List (List ℕ)) (more : List ℕ)
      → Next st.StartField fields [] (ys ++ more) ≡ Some (fields ++ take n ys ∷ [], after_end term.CRLF (get_or ys n 0), drop (n + 1) ys ++ more)
  unfolding next_record
  at_end comma line fields more = field_read fields more ∙ rw (end_step (get_or ys n 0) comma line) refl

-- the byte at which a search stops ends a line, if it is neither a comma nor a quote
pub must_end : (ys : List ℕ) → position_or_len is_special ys < length ys → get_or ys (position_or_len is_special ys) 0 ≢ 34 → eqb (get_or ys (position_or_len is_special ys) 0) 44 ≡ false
    → ends_line (get_or ys (position_or_len is_special ys) 0) ≡ true
must_end ys within quote comma = by (is_special (get_or ys (position_or_len is_special ys) 0)) refl
  where
    stops : not (is_special (get_or ys (position_or_len is_special ys) 0)) ≡ false
    stops = prefix_len_stops (λ x. not (is_special x)) ys 0 within

    by : (t : Bool) → is_special (get_or ys (position_or_len is_special ys) 0) ≡ t → ends_line (get_or ys (position_or_len is_special ys) 0) ≡ true
    by true e = rw (comma, ne_eqb _ 34 quote) at e
    by false e = cc (rw e at stops)

pub no_quote_is_comma : (b : ℕ) → b ≡ 44 → b ≢ 34
no_quote_is_comma b e q = omega (arith, e, q)

-- ---- the fields of a record so far

-- the record at the start of a text, once the fields of these spans are read, goes on at `start`
pub record SoFar (text : List ℕ) (spans : List FieldSpan) (start : ℕ) : Type 0 where
  pub within : start ≤ length text
  pub inside : AreWithin start spans
  pub reads : (more : List ℕ) → Next st.StartField [] [] (text ++ more) ≡ Next st.StartField (fields_in text spans) [] (drop start text ++ more)

module _ (text : List ℕ) (spans : List FieldSpan) (start end : ℕ) (h : SoFar text spans start) (is : end ≡ start + position_or_len is_special (drop start text)) (lt : end < length text) (quote : get_or text end 0 ≢ 34) where
  within_rest : position_or_len is_special (drop start text) < length (drop start text)
  within_rest = omega (arith, is, lt, length-drop start text)

  same_byte : get_or (drop start text) (position_or_len is_special (drop start text)) 0 ≡ get_or text end 0
  same_byte = get_or-drop start text (position_or_len is_special (drop start text)) 0 ∙ ap (λ k. get_or text k 0) (sym is)

  no_quote : get_or (drop start text) (position_or_len is_special (drop start text)) 0 ≢ 34
  no_quote e = quote (sym same_byte ∙ e)

  rest_is : drop (position_or_len is_special (drop start text) + 1) (drop start text) ≡ drop (end + 1) text
  rest_is = drop-drop (position_or_len is_special (drop start text) + 1) start text ∙ ap (λ k. drop k text) (omega (arith, is))

  fields_are : fields_in text spans ++ take (position_or_len is_special (drop start text)) (drop start text) ∷ [] ≡ fields_in text (spans ++ record { start = start; end = end } ∷ [])
  fields_are =
      ap (λ k. fields_in text spans ++ take k (drop start text) ∷ []) (omega (arith, is)) ∙ sym (fields_end text spans (record { start = start; end = end }))

  spans_within : AreWithin (end + 1) (spans ++ record { start = start; end = end } ∷ [])
  spans_within = All-push (IsWithin (end + 1)) spans (record { start = start; end = end }) (within_more start (end + 1) spans (omega (arith, is)) h.inside) (omega (arith, is), omega arith)

  pub one_field : get_or text end 0 ≡ 44 → SoFar text (spans ++ record { start = start; end = end } ∷ []) (end + 1)
  one_field comma = record {
    within = omega (arith, lt);
    inside = spans_within;
    reads = λ more. h.reads more ∙ at_comma (drop start text) _ refl within_rest no_quote (same_byte ∙ comma) (fields_in text spans) more
        ∙ (λ i. Next st.StartField (fields_are i) [] (rest_is i ++ more));
  }

  pub last_field : get_or text end 0 ≢ 44 → Scanned text (spans ++ record { start = start; end = end } ∷ []) (scan.Record (end + 1))
  last_field comma =
      let other : eqb (get_or (drop start text) (position_or_len is_special (drop start text)) 0) 44 ≡ false = ne_eqb _ 44 (λ e. comma (sym same_byte ∙ e)) in
      let line = must_end (drop start text) within_rest no_quote other in (
        omega arith,
        omega (arith, lt),
        spans_within,
        λ more. (
          after_end term.CRLF (get_or (drop start text) (position_or_len is_special (drop start text)) 0),
          h.reads more ∙ at_end (drop start text) _ refl within_rest no_quote other line (fields_in text spans) more
              ∙ (λ i. Some (fields_are i, after_end term.CRLF (get_or (drop start text) (position_or_len is_special (drop start text)) 0), rest_is i ++ more)),
        ),
      )

-- no field yet
pub no_fields : (text : List ℕ) → SoFar text [] 0
no_fields text = record { within = omega arith; inside = λ k d lt. absurd (omega (arith, lt)); reads = λ more. refl }

-- ---- line ends before a record

skip_ends : (xs more : List ℕ) → Next st.StartRecord [] [] (xs ++ more) ≡ Next st.StartRecord [] [] (drop (prefix_len ends_line xs) xs ++ more)
unfolding next_record
skip_ends [] more = refl
skip_ends (y ∷ rest) more = by_byte (ends_line y) refl (skip_ends rest more)
  where
    by_byte : (b : Bool) → ends_line y ≡ b → Next st.StartRecord [] [] (rest ++ more) ≡ Next st.StartRecord [] [] (drop (prefix_len ends_line rest) rest ++ more)
        → Next st.StartRecord [] [] ((y ∷ rest) ++ more) ≡ Next st.StartRecord [] [] (drop (prefix_len ends_line (y ∷ rest)) (y ∷ rest) ++ more)
    by_byte true e again = rw (e, one-add (prefix_len ends_line rest)) again
    by_byte false e again =
        let none : prefix_len ends_line (y ∷ rest) ≡ 0 = rw e refl in
        ap (λ k. Next st.StartRecord [] [] (drop k (y ∷ rest) ++ more)) (sym none)

start_record : (y : ℕ) (rest : List ℕ) → ends_line y ≡ false → Next st.StartRecord [] [] (y ∷ rest) ≡ Next st.StartField [] [] (y ∷ rest)
unfolding next_record
start_record y rest e = rw e refl

module _ (ahead : List ℕ) where
  pub same_after_ends : (after : Option (List ℕ)) → SameRecords (prepend_known ahead after) (prepend_known (drop (prefix_len ends_line ahead) ahead) after)
  same_after_ends None = tt
  same_after_ends (Some more) = skip_ends ahead more

  first_plain : (zs : List ℕ) → zs ≡ drop (prefix_len ends_line ahead) ahead → 0 < length zs → (more : List ℕ) → Next st.StartRecord [] [] (zs ++ more) ≡ Next st.StartField [] [] (zs ++ more)
  first_plain [] e some more = absurd (omega (arith, some))
  first_plain (z ∷ zs) e some more =
      let k = prefix_len ends_line ahead in
      let lt : k < length ahead = omega (arith, ap length e, length-drop k ahead) in
      let stops = prefix_len_stops ends_line ahead 0 lt in
      let same : get_or ahead k 0 ≡ z = ap (λ j. get_or ahead j 0) (omega arith) ∙ sym (get_or-drop k ahead 0 0) ∙ ap (λ l. get_or l 0 0) (sym e) in
      start_record z (zs ++ more) (ap ends_line (sym same) ∙ stops)

  pub found_record : (after : Option (List ℕ)) (spans : List FieldSpan) (len : ℕ) → Scanned (drop (prefix_len ends_line ahead) ahead) spans (scan.Record len)
      → Found (prepend_known ahead after) (prepend_known (drop len (drop (prefix_len ends_line ahead) ahead)) after) (take len (drop (prefix_len ends_line ahead) ahead)) spans (scan.Record len)
  found_record after spans len h =
      let text = drop (prefix_len ends_line ahead) ahead in
      let size = length-take-le len text h.1 in
      let same = fields_taken len text spans h.1 h.2 in
      (subst (λ fields. Reads (prepend_known ahead after) (prepend_known (drop len text) after) true fields) (sym same) (by_rest after), within_more len (length (take len text)) spans (omega (arith, size)) h.2)
    where
      by_rest : (after : Option (List ℕ)) → Reads (prepend_known ahead after) (prepend_known (drop len (drop (prefix_len ends_line ahead) ahead)) after) true (fields_in (drop (prefix_len ends_line ahead) ahead) spans)
      by_rest None = (st.StartRecord, tt)
      by_rest (Some more) =
          let begins = h.3 more in
          let text = drop (prefix_len ends_line ahead) ahead in
          let is = skip_ends ahead more ∙ first_plain text refl (omega (arith, h.0, h.1)) more ∙ begins.1 in
          (begins.0, rw is (refl, refl, refl, refl))

-- ---- the same of an input

module _ (old mid : Ahead) (text : mid.ahead ≡ drop (prefix_len ends_line old.ahead) old.ahead) (same : mid.after ≡ old.after) where
  pub ends_taken : SameRecords (known old) (known mid)
  ends_taken = rw (text, same) (same_after_ends old.ahead old.after)

  pub record_taken : (new : Ahead) (spans : List FieldSpan) (len : ℕ) → new.taken ≡ take len mid.ahead → new.ahead ≡ drop len mid.ahead → new.after ≡ mid.after
      → Scanned mid.ahead spans (scan.Record len) → Found (known old) (known new) new.taken spans (scan.Record len)
  record_taken new spans len taken left others h = rw (taken, left, others, text, same) (found_record old.ahead old.after spans len (rw text at h))

  pub none_taken : (found : Scan) (spans : List FieldSpan) → ((len : ℕ) → found ≡ scan.Record len → ⊥) → Found (known old) (known mid) mid.taken spans found
  none_taken (scan.Record len) spans none = absurd (none len refl)
  none_taken scan.Quoted spans none = ends_taken
  none_taken scan.Cut spans none = ends_taken

-- the spans of a vector, once all are overwritten
pub all_over : (new old : List FieldSpan) (n : ℕ) → length new ≡ n → take n (new ++ drop (length new) old) ≡ new
all_over new old n e = take-append-le n new (drop (length new) old) (omega (arith, e)) ∙ take_all n new (omega (arith, e))
