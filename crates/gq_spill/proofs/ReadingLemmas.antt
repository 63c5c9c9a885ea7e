-- What is left of a run, and the rows that a reader still gives.
use Rattle.std.proofs.Common.{◌≡◌, ℕ, ◌+◌, ◌-◌, ◌<◌, ◌≤◌, List, [], ◌∷◌, ◌++◌, length, take, drop, All, Some, Result, Ok, Err, refl, sym, ap, subst, ◌∙◌, arith, IsTrue}
use Rattle.std.specs.Prelude.{◌^◌, OnOk, OnErr, IsErrOf}
use Rattle.std.specs.Int.{w32, to_be_bytes}
use Rattle.std.proofs.lemmas.List.{drop_at, take-append-drop, append_assoc, length-append, length-take-le}
use Rattle.std.proofs.lemmas.List.Elements.{All-head, All-tail}
use Rattle.gq_row.specs.declared.value.Value.{Value}
use Rattle.gq_record.specs.Records.{body_of, record_of, records_of, IsStorable}
use Rattle.gq_record.proofs.RecordLemmas.{fronts, length_once, determines_row}
use Rattle.gq_spill.specs.Handing.{Gave}
use Rattle.gq_spill.specs.Laws.{ReadsBack}
use Rattle.gq_spill.specs.Reading.{Reading, Unread, Left}
use Rattle.gq_spill.specs.Runs.{Runs, OnlyReads}
use Rattle.gq_spill.specs.declared.run_tail.RunTail.{RunTail}
use Rattle.gq_spill.specs.declared.store.RunId.{RunId}

-- ---- reading ahead

-- what is read at the place after the bytes ahead is what follows them
behind_is : (t : RunTail) (runs : Runs) (rest : List ℕ) (u : Unread t runs rest) (place : ℕ) → place ≡ t.at + length t.ahead → drop place (u.front ++ rest) ≡ u.behind
behind_is t runs rest u place e =
    let whole : u.front ++ rest ≡ (u.front ++ t.ahead) ++ u.behind = ap (λ (l : List ℕ). u.front ++ l) u.begun ∙ sym (append_assoc u.front t.ahead u.behind) in
    ap (drop place) whole ∙ drop_at (u.front ++ t.ahead) u.behind place (length-append u.front t.ahead ∙ omega (arith, u.place))

-- the same run with other bytes read ahead
abbrev pub with_ahead : RunTail → List ℕ → RunTail
with_ahead t new = record { id = t.id; at = t.at; end = t.end; ahead = new }

pub grown : {T E : Type 0} (r : Result T E) (t : RunTail) (place more : ℕ) (new : List ℕ) (a b : Runs) (rest : List ℕ) → place ≡ t.at + length t.ahead → IsTrue a.honest → IsTrue (a.live t.id.number) → OnlyReads a b
    → OnOk r ((c : List ℕ) → a.content t.id.number ≡ Some c → new ≡ t.ahead ++ take more (drop place c)) → OnErr r (new ≡ t.ahead)
    → Unread t a rest → Unread (with_ahead t new) b rest
grown (Ok x) t place more new a b rest e h l reads got kept u =
    let is : new ≡ t.ahead ++ take more u.behind = got (u.front ++ rest) u.content ∙ ap (λ (s : List ℕ). t.ahead ++ take more s) (behind_is t a rest u place e) in
    record {
      front = u.front;
      behind = drop more u.behind;
      content = (reads.kept.same t.id.number).content h l ∙ u.content;
      place = u.place;
      ends = u.ends;
      begun = u.begun ∙ ap (λ (s : List ℕ). t.ahead ++ s) (sym (take-append-drop more u.behind)) ∙ sym (append_assoc t.ahead (take more u.behind) (drop more u.behind)) ∙ ap (λ (s : List ℕ). s ++ drop more u.behind) (sym is);
    }
grown (Err x) t place more new a b rest e h l reads got kept u =
    record { front = u.front; behind = u.behind; content = (reads.kept.same t.id.number).content h l ∙ u.content; place = u.place; ends = u.ends; begun = u.begun ∙ ap (λ (s : List ℕ). s ++ u.behind) (sym kept) }

-- a run that has the bytes asked for is not found short of them
pub not_short : (t : RunTail) (place more : ℕ) (a : Runs) (rest : List ℕ) → place ≡ t.at + length t.ahead → more ≤ t.end - place → ((c : List ℕ) → a.content t.id.number ≡ Some c → length (drop place c) < more) → Unread t a rest → ⊥
not_short t place more a rest e enough short u =
    let less = short (u.front ++ rest) u.content in
    let len = ap length (behind_is t a rest u place e) in
    let parts = ap length u.begun ∙ length-append t.ahead u.behind in
    omega (arith, u.ends)

-- ---- the first row

pub length-record_of : (row : List Value) → length (record_of row) ≡ 4 + length (body_of row)
unfolding record_of
length-record_of row = omega arith

-- a row's bytes are used up
pub used : (t s : RunTail) (runs : Runs) (rest : List ℕ) (row : List Value) → s.id ≡ t.id → s.end ≡ t.end → t.ahead ≡ record_of row ++ s.ahead → s.at ≡ t.at + length (record_of row) → Unread t runs rest
    → (behind : List ℕ) × (rest ≡ record_of row ++ behind) × Unread s runs behind
used t s runs rest row same_id same_end e moved u =
    let new = s.ahead in
    let whole : rest ≡ record_of row ++ (new ++ u.behind) = u.begun ∙ ap (λ (l : List ℕ). l ++ u.behind) e ∙ append_assoc (record_of row) new u.behind in
    let content = u.content ∙ ap (λ (l : List ℕ). Some (u.front ++ l)) whole ∙ ap (λ (l : List ℕ). Some l) (sym (append_assoc u.front (record_of row) (new ++ u.behind))) in (
      new ++ u.behind,
      whole,
      record {
        front = u.front ++ record_of row;
        behind = u.behind;
        content = ap (λ (id : RunId). runs.content id.number) same_id ∙ content;
        place = length-append u.front (record_of row) ∙ omega (arith, u.place);
        ends = omega (arith, u.ends, same_end, ap length whole ∙ length-append (record_of row) (new ++ u.behind));
        begun = refl;
      },
    )

-- the same of a result, for what the run had before more was read ahead
pub used_row : {T E : Type 0} (r : Result T E) (row : List Value) (U : List ℕ → Type 0) (t s : RunTail) (runs : Runs) → s.id ≡ t.id → s.end ≡ t.end → ((rest : List ℕ) → U rest → Unread t runs rest)
    → OnOk r ((t.ahead ≡ record_of row ++ s.ahead) × (s.at ≡ t.at + length (record_of row)) × IsStorable row)
    → OnOk r ((rest : List ℕ) → U rest → (behind : List ℕ) × (rest ≡ record_of row ++ behind) × Unread s runs behind)
used_row (Ok x) row U t s runs same_id same_end go p = λ rest u. used t s runs rest row same_id same_end p.0 p.1 (go rest u)
used_row (Err e) row U t s runs same_id same_end go p = tt

-- a refusal passed on
pub same_refusal : {T U E : Type 0} (x y : E) → IsErrOf {T = T} (Err x) y → IsErrOf {T = U} (Err x) y
same_refusal {T = T} {U = U} {E = E} x y e = ap (λ (z : E). Err z) (inside e)
  where
    inside : IsErrOf {T = T} (Err x) y → x ≡ y
    inside h = cc

-- a row's record isn't shorter than it is
pub not_few : (row : List Value) (behind : List ℕ) (n : ℕ) → n ≤ length (record_of row) → length (record_of row ++ behind) < n → ⊥
not_few row behind n long few = omega (arith, length-append (record_of row) behind)

-- the first length is that of the row there
pub same_length : (t : RunTail) (len : ℕ) (after : List ℕ) (runs : Runs) (row : List Value) (behind : List ℕ) → t.ahead ≡ to_be_bytes w32 len ++ after → len < 2 ^ 32 → IsStorable row → Unread t runs (record_of row ++ behind)
    → length (record_of row) ≡ 4 + len
unfolding record_of
same_length t len after runs row behind e small fits u =
    let left : to_be_bytes w32 (length (body_of row)) ++ (body_of row ++ behind) ≡ to_be_bytes w32 len ++ (after ++ u.behind) =
    sym (append_assoc (to_be_bytes w32 (length (body_of row))) (body_of row) behind) ∙ u.begun ∙ ap (λ (s : List ℕ). s ++ u.behind) e ∙ append_assoc (to_be_bytes w32 len) after u.behind in
    let same = length_once (length (body_of row)) len (body_of row ++ behind) (after ++ u.behind) fits.short small left in
    omega (arith, same.0)

-- where enough bytes were read ahead, they begin with the row's
pub at_front : (t : RunTail) (runs : Runs) (row : List Value) (behind : List ℕ) → length (record_of row) ≤ length t.ahead → Unread t runs (record_of row ++ behind) → t.ahead ≡ record_of row ++ drop (length (record_of row)) t.ahead
at_front t runs row behind long u =
    let n = length (record_of row) in
    let whole : take n t.ahead ++ (drop n t.ahead ++ u.behind) ≡ record_of row ++ behind = sym (append_assoc (take n t.ahead) (drop n t.ahead) u.behind) ∙ ap (λ (s : List ℕ). s ++ u.behind) (take-append-drop n t.ahead) ∙ sym u.begun in
    let same = fronts (take n t.ahead) (record_of row) (drop n t.ahead ++ u.behind) behind (length-take-le n t.ahead long) whole in
    sym (take-append-drop n t.ahead) ∙ ap (λ (s : List ℕ). s ++ drop n t.ahead) same.0

-- ---- rows that are left

-- what taking a row says of the reader before and after it
abbrev pub Takes : Reading → Reading → Runs → Runs → List Value → Type 0
Takes r s a b row = (rest : List ℕ) → Unread r.tail a rest → (behind : List ℕ) × (rest ≡ record_of row ++ behind) × Unread s.tail b behind

-- where rows are left the run goes on with the record of the first
pub some_left : (r : Reading) (a : Runs) (rows : List (List Value)) → r.given < r.records → Left r a rows
    → ((row : List Value) (behind : List ℕ) → IsStorable row → Unread r.tail a (record_of row ++ behind) → ⊥) → ⊥
some_left r a [] more left none = omega (arith, left.count_rows)
some_left r a (row ∷ rows) more left none = none row (records_of rows) (All-head IsStorable row rows left.storable) left.bytes

pub took_row : (r s : Reading) (a b : Runs) (rows : List (List Value)) (row : List Value) → r.given < r.records → Left r a rows → IsStorable row → Takes r s a b row
    → s.records ≡ r.records → s.columns ≡ r.columns → s.given ≡ r.given + 1 → s.refused ≡ r.refused → Gave (Some row) rows (Left s b)
took_row r s a b [] row more left fits takes records columns given refused = absurd (omega (arith, left.count_rows))
took_row r s a b (first ∷ rows) row more left fits takes records columns given refused =
    let found = takes (records_of (first ∷ rows)) left.bytes in
    let same = determines_row first row (records_of rows) found.0 (All-head IsStorable first rows left.storable) fits found.1 in (
      rows,
      ap (λ (x : List Value). x ∷ rows) same.0,
      record {
        bytes = subst (λ (l : List ℕ). Unread s.tail b l) (sym same.1) found.2;
        count_rows = omega (arith, left.count_rows);
        storable = All-tail IsStorable first rows left.storable;
        widths = subst (λ (n : ℕ). All (λ (x : List Value). length x ≡ n) rows) (sym columns) (All-tail (λ (x : List Value). length x ≡ r.columns) first rows left.widths);
        going = refused ∙ left.going;
      },
    )

pub right_width : (r s : Reading) (a b : Runs) (rows : List (List Value)) (row : List Value) → r.given < r.records → Left r a rows → IsStorable row → Takes r s a b row → length row ≡ r.columns
right_width r s a b [] row more left fits takes = absurd (omega (arith, left.count_rows))
right_width r s a b (first ∷ rows) row more left fits takes =
    let found = takes (records_of (first ∷ rows)) left.bytes in
    let same = determines_row first row (records_of rows) found.0 (All-head IsStorable first rows left.storable) fits found.1 in
    ap length (sym same.0) ∙ All-head (λ (x : List Value). length x ≡ r.columns) first rows left.widths

-- ---- written rows

pub reads_back : ReadsBack
reads_back = record {
  opens = λ w runs rows columns wrote widths. record {
    bytes = record { front = []; behind = records_of rows; content = wrote.content; place = refl; ends = omega (arith, wrote.count_bytes); begun = refl };
    count_rows = omega (arith, wrote.count_rows);
    storable = wrote.storable;
    widths = widths;
    going = refl;
  };
  outlasts = λ r old new rows same honest live left.
      let u = left.bytes in
      record {
        bytes = record { front = u.front; behind = u.behind; content = same.content honest live ∙ u.content; place = u.place; ends = u.ends; begun = u.begun };
        count_rows = left.count_rows;
        storable = left.storable;
        widths = left.widths;
        going = left.going;
      };
  same_written = λ w old new rows same honest live wrote. record { content = same.content honest live ∙ wrote.content; count_bytes = wrote.count_bytes; count_rows = wrote.count_rows; storable = wrote.storable; going = wrote.going };
}
