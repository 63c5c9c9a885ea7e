use Rattle.std.proofs.Common.{◌≤◌, ◌+◌, ◌++◌, length, drop, subst, sym, ◌∙◌, arith, IsTrue}
use Rattle.gq_spill.specs.declared.spill_refusal.SpillRefusal.TheVariants.{Damaged}
use Rattle.gq_record.specs.Records.{record_of}
use Rattle.gq_spill.specs.Reading.{Unread}
use Rattle.gq_spill.proofs.ReadingLemmas.{same_refusal, not_few, length-record_of, same_length, at_front, used_row}
use Rattle.gq_spill.proofs.run_tail.RunTail.fetch_row.Goals as goal

pub returns-in-Err-clause-sound : goal.returns-in-Err-clause-sound
returns-in-Err-clause-sound g c = λ honest damaged row behind fits u.
    let few = c.in-Err.ensures.sound honest (same_refusal c.in-Err.why Damaged damaged) (record_of row ++ behind) u in
    not_few row behind 4 (omega (arith, length-record_of row)) few

pub returns-in-Err-fetch-clause-sound : goal.returns-in-Err-fetch-clause-sound
returns-in-Err-fetch-clause-sound g c = λ honest damaged row behind fits u.
    let tail = c.fetch.new.self in
    let still = subst IsTrue (sym c.fetch.ensures.store.kept.honest) honest in
    let first = c.fetch.ensures.rest honest (record_of row ++ behind) u in
    let len = same_length tail c.in-Some.len c.in-Some.field-0-1.now _ row behind (sym c.as_slice.ensures ∙ c.in-Some.ensures.found) c.in-Some.ensures.small fits first in
    let few = c.in-Err-fetch.ensures.sound still (same_refusal c.in-Err-fetch.why Damaged damaged) (record_of row ++ behind) first in
    not_few row behind (4 + c.in-Some.len) (omega arith) few

pub returns-clause-row : goal.returns-clause-row
returns-clause-row g c = λ honest.
    let still = subst IsTrue (sym c.fetch.ensures.store.kept.honest) honest in
    used_row c.use_row.result c.use_row.new.row (Unread c.args.self.now _) c.fetch-2.new.self c.use_row.new.self _ c.use_row.ensures.same.0 c.use_row.ensures.same.1
    (λ rest u. c.fetch-2.ensures.rest still rest (c.fetch.ensures.rest honest rest u)) c.use_row.ensures.row

pub returns-clause-sound : goal.returns-clause-sound
returns-clause-sound g c = λ honest damaged row behind fits u.
    let tail = c.fetch.new.self in
    let last = c.fetch-2.new.self in
    let still = subst IsTrue (sym c.fetch.ensures.store.kept.honest) honest in
    let first = c.fetch.ensures.rest honest (record_of row ++ behind) u in
    let second = c.fetch-2.ensures.rest still (record_of row ++ behind) first in
    let len = same_length tail c.in-Some.len c.in-Some.field-0-1.now _ row behind (sym c.as_slice.ensures ∙ c.in-Some.ensures.found) c.in-Some.ensures.small fits first in
    let long : length (record_of row) ≤ length last.ahead = omega (arith, c.in_default-fetch.ensures.enough) in
    c.use_row.ensures.sound damaged row (drop (length (record_of row)) last.ahead) fits (at_front last _ row behind long second)
