use Rattle.std.proofs.Common.{◌≡◌, ◌+◌, ◌-◌, ◌++◌, List, ℕ, length, take, drop, ap, sym, subst, ◌∙◌, append_assoc, arith}
use Rattle.std.proofs.lemmas.List.{take_at}
use Rattle.gq_record.specs.Putting.{IsPut}
use Rattle.gq_record.specs.Records.{body_of, record_of}
use Rattle.gq_record.proofs.PutLemmas.{framed, put_end}
use Rattle.gq_record.proofs.encoding.put_record.Goals as goal

pub returns-clause-ok : goal.returns-clause-ok
returns-clause-ok c =
    let old = c.args.out.now.items in
    let at = c.args.at in
    let long = c.lengthen.new.bytes.items in
    let mid = c.put_body.new.out.items in
    let new = c.overwrite.new.bytes in
    let end = c.in_ok-end.end in
    let row = c.args.row.now in
    let room = c.in_ok-lengthen.ensures.len in
    let ends = put_end long (at + 4) (body_of row) mid end c.in_ok-end.ensures.ok room in
    let size : end - (at + 4) ≡ length (body_of row) = omega (arith, ends) in
    let is = c.overwrite.ensures ∙ append_assoc (take at c.as_mut_slice.result.now) c.to_be_bytes.result (drop (at + length c.to_be_bytes.result) c.as_mut_slice.result.now)
    ∙ (λ i. take at (c.as_mut_slice.ensures.value i) ++ (c.to_be_bytes.ensures i ++ drop (at + length (c.to_be_bytes.ensures i)) (c.as_mut_slice.ensures.value i))) in
    let whole : length new ≡ c.put_body.new.out.len = c.overwrite.auto.bytes ∙ ap length c.as_mut_slice.ensures.value ∙ sym c.put_body.new.out.ok.0 in
    subst (λ (l : List ℕ). IsPut old at (record_of row) l end) (sym (take_at new (drop (length new) mid) c.put_body.new.out.len whole))
    (framed old long mid new at end (end - (at + 4)) row c.requires.within c.lengthen.ensures.kept room c.in_ok-end.ensures.ok size is)
