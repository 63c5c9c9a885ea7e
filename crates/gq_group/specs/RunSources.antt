-- When a run can be read as a source, and that what others do doesn't matter to it.
use Rattle.std.specs.Prelude.{◌≡◌, ◌==◌, ℕ, IsTrue, List, None}
use Rattle.std.proofs.Common.{◌∙◌, sym, subst, arith}
use Rattle.std.proofs.lemmas.Bool.Decides.{nat_tests}
use Rattle.gq_row.specs.declared.value.Value.{Value}
use Rattle.gq_spill.specs.Runs.{Runs}
use Rattle.gq_spill.specs.Reading.{Reading, Left}
use Rattle.gq_spill.specs.Writing.{Writing, Wrote}
use Rattle.gq_group.specs.Access.{RunSet, KeepsOwn}

-- one run alone
abbrev pub only : ℕ → RunSet
only number run = run == number

-- its run is live, nothing was refused, and over an honest store there are rows left
pub record IsReady (r : Reading) (runs : Runs) : Type 0 where
  pub live : IsTrue (runs.live r.tail.id.number)
  pub going : r.refused ≡ None
  pub rows : IsTrue runs.honest → (rows : List (List Value)) × Left r runs rows

pub same_number : (n : ℕ) → IsTrue (n == n)
same_number n = grind (arith, nat_tests)

pub equal_number : (m n : ℕ) → IsTrue (m == n) → m ≡ n
equal_number m n h = grind (arith, nat_tests)

pub ready_live : (r : Reading) (runs : Runs) → IsReady r runs → (run : ℕ) → IsTrue (only r.tail.id.number run) → IsTrue (runs.live run)
ready_live r runs ready run own = subst (λ (n : ℕ). IsTrue (runs.live n)) (sym (equal_number run r.tail.id.number own)) ready.live

pub rows_stay : (r : Reading) (old new : Runs) → KeepsOwn (only r.tail.id.number) old new → IsReady r old → IsTrue old.honest → (rows : List (List Value)) → Left r old rows → Left r new rows
rows_stay r old new kept ready honest rows left = record {
  bytes = record {
    front = left.bytes.front;
    behind = left.bytes.behind;
    content = (kept.own r.tail.id.number (same_number r.tail.id.number)).content honest ready.live ∙ left.bytes.content;
    place = left.bytes.place;
    ends = left.bytes.ends;
    begun = left.bytes.begun;
  };
  count_rows = left.count_rows;
  storable = left.storable;
  widths = left.widths;
  going = left.going;
}

pub ready_stays : (r : Reading) (old new : Runs) → KeepsOwn (only r.tail.id.number) old new → IsReady r old → IsReady r new
ready_stays r old new kept ready = record {
  live = (kept.own r.tail.id.number (same_number r.tail.id.number)).live ∙ ready.live;
  going = ready.going;
  rows = λ honest.
      let before : IsTrue old.honest = sym kept.same_honest ∙ honest in
      let known = ready.rows before in
      (known.0, rows_stay r old new kept ready before known.0 known.1);
}

-- what was written stays too
pub wrote_stays : (w : Writing) (old new : Runs) → KeepsOwn (only w.mark.id.number) old new → IsTrue (old.live w.mark.id.number) → IsTrue old.honest → (rows : List (List Value)) → Wrote w old rows → Wrote w new rows
wrote_stays w old new kept live honest rows wrote = record {
  content = (kept.own w.mark.id.number (same_number w.mark.id.number)).content honest live ∙ wrote.content;
  count_bytes = wrote.count_bytes;
  count_rows = wrote.count_rows;
  storable = wrote.storable;
  going = wrote.going;
}
