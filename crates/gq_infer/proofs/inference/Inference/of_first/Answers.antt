use Rattle.std.proofs.Common.{◌≡◌, ◌∙◌, length, map, replicate, List, ℕ, Option, ap, subst, sym, arith}
use Rattle.std.specs.Prelude.{IfSome}
use Rattle.std.proofs.lemmas.List.{length-replicate, with_items_is}
use Rattle.gq_infer.specs.Files.{can_name, place_of, records_of}
use Rattle.gq_infer.specs.Scanning.{with_records}
use Rattle.gq_infer.specs.declared.seen.Seen.TheVariants.{Nulls}
use Rattle.gq_infer.proofs.FileLemmas.{Begins, Records, a_record, if_some}
use Rattle.gq_infer.proofs.ScanLemmas.{first_file}
use Rattle.gq_infer.proofs.TableLemmas.{can_be_named}
use Rattle.gq_infer.proofs.inference.Inference.of_first.Goals as goal

pub invariant_of-result : goal.invariant_of-result
invariant_of-result g c =
    let header = c.read_record.new.reader.fields in
    let were : c.as_mut_slice.result.now ≡ replicate (length header) Nulls = c.as_mut_slice.ensures.value ∙ c.in_ok-seen.ensures.items_if_clones_equal (λ y k. k) ∙ ap (λ n. replicate n Nulls) (c.len.ensures ∙ ap length c.record-header.ensures) in
    let width : length c.as_mut_slice.result.now ≡ length header = ap length were ∙ length-replicate (length header) Nulls in
    let size : length c.read_fields.new.seen ≡ length header = omega (arith, width) in (
      ap length (c.in_ok-names.ensures.names ∙ c.record-header.ensures) ∙ sym (ap length (with_items_is c.in_ok-seen.seen c.read_fields.new.seen (omega arith)) ∙ size),
      ap can_name (c.in_ok-names.ensures.names ∙ c.record-header.ensures) ∙ can_be_named c.args.limits.now.bounds c.read_record.new.reader.fields (rw c.record-header.ensures at c.in_ok-names.ensures.fine),
    )

pub returns-clause-inferred : goal.returns-clause-inferred
returns-clause-inferred g c =
    let header = c.read_record.new.reader.fields in
    let left = c.in_ok-reader.reader.rest in
    let rest = c.read_record.new.reader.rest in
    let names = c.in_ok-names.names.items in
    let were : c.as_mut_slice.result.now ≡ replicate (length header) Nulls = c.as_mut_slice.ensures.value ∙ c.in_ok-seen.ensures.items_if_clones_equal (λ y k. k) ∙ ap (λ n. replicate n Nulls) (c.len.ensures ∙ ap length c.record-header.ensures) in
    if_some (g.R.Read.remaining c.args.text) (λ file. Begins rest header (records_of file)) _
    (λ file (others, cut, known).
    first_file file names header others _ cut (c.in_ok-names.ensures.names ∙ c.record-header.ensures)
    (with_items_is c.in_ok-seen.seen c.read_fields.new.seen (omega arith)
    ∙ subst (λ (o : Option Records). IfSome o (λ records. c.read_fields.new.seen ≡ with_records records (map (place_of header) c.as_slice.result.now) c.as_mut_slice.result.now)) known c.in_ok-read_fields.ensures.seen
    ∙ ap (λ (n : List (List ℕ)). with_records others (map (place_of header) n) c.as_mut_slice.result.now) c.as_slice.ensures.value
    ∙ ap (with_records others (map (place_of header) names)) were))
    (a_record (g.R.Read.remaining c.args.text) left rest c.in_ok-read_record.field-0 header c.in_ok-reader.ensures.rest c.if-not-branch.false c.in_ok-read_record.ensures.took)
