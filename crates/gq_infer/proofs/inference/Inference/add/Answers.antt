use Rattle.std.proofs.Common.{◌≡◌, ◌∙◌, map, List, ℕ, Option, ap, subst, arith}
use Rattle.std.specs.Prelude.{IfSome}
use Rattle.std.proofs.lemmas.List.{with_items_is}
use Rattle.gq_infer.specs.Files.{Inferred, place_of, records_of}
use Rattle.gq_infer.specs.Scanning.{with_records}
use Rattle.gq_infer.proofs.FileLemmas.{Begins, Records, a_record, if_some}
use Rattle.gq_infer.proofs.ScanLemmas.{next_file}
use Rattle.gq_infer.proofs.inference.Inference.add.Goals as goal

pub returns-clause-more : goal.returns-clause-more
returns-clause-more g c =
    let old = c.args.self.now in
    let header = c.read_record.new.reader.fields in
    let left = c.in_ok-reader.reader.rest in
    let rest = c.read_record.new.reader.rest in
    let names : c.self.inside.names.items ≡ old.names = ap (λ (i : Inferred). i.names) c.self.view_is in
    let were : c.as_mut_slice.result.now ≡ old.seen = c.as_mut_slice.ensures.value ∙ c.in_ok-seen.ensures.items_if_clones_equal (λ x y k. k) ∙ c.as_slice-2.ensures.value ∙ ap (λ (i : Inferred). i.seen) c.self.view_is in
    if_some (g.R.Read.remaining c.args.text) (λ file. Begins rest header (records_of file)) _
    (λ file (others, cut, known) first files e.
    next_file first file files old header others c.self.inside.names.items _ cut e names
    (with_items_is c.in_ok-seen.seen c.read_fields.new.seen (omega arith)
    ∙ subst (λ (o : Option Records). IfSome o (λ records. c.read_fields.new.seen ≡ with_records records (map (place_of header) c.as_slice-3.result.now) c.as_mut_slice.result.now)) known c.in_ok-read_fields.ensures.seen
    ∙ ap (λ (n : List (List ℕ)). with_records others (map (place_of header) n) c.as_mut_slice.result.now) (c.as_slice-3.ensures.value ∙ names)
    ∙ ap (with_records others (map (place_of header) old.names)) were))
    (a_record (g.R.Read.remaining c.args.text) left rest c.in_ok-read_record.field-0 header c.in_ok-reader.ensures.rest c.if-not-branch.false c.in_ok-read_record.ensures.took)
