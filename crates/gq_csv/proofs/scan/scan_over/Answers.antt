use Rattle.std.proofs.Common.{◌∙◌, ◌+◌, ◌<◌, length, take, set, sym, subst, arith}
use Rattle.std.proofs.lemmas.List.{length-set, take_all, take_more_set}
use Rattle.gq_csv.specs.Scanning.{Scanned}
use Rattle.gq_csv.specs.declared.span.FieldSpan.{FieldSpan}
use Rattle.gq_csv.specs.declared.scan.Scan.TheVariants as scan
use Rattle.gq_csv.proofs.ScanLemmas.{last_field, no_fields, no_quote_is_comma, one_field}
use Rattle.gq_csv.proofs.scan.scan_over.Goals as goal

pub fields-init : goal.fields-init
fields-init c = record { read = no_fields c.args.text.now; marks = c.of-marks.ensures c.args.text.now c.requires; whole = c.requires }

pub next_special-requires : goal.next_special-requires
next_special-requires c = c.fields.invariant.marks

pub returns-in_default-clause-mask : goal.returns-in_default-clause-mask
returns-in_default-clause-mask c = c.fields.invariant.whole

pub returns-then-special-eq34-clause-mask : goal.returns-then-special-eq34-clause-mask
returns-then-special-eq34-clause-mask c = c.fields.invariant.whole

pub returns-then-i-spans-clause-kept : goal.returns-then-i-spans-clause-kept
returns-then-i-spans-clause-kept c = c.fields.invariant.whole

pub returns-clause-kept : goal.returns-clause-kept
returns-clause-kept c = c.fields.invariant.whole

pub returns-then-special-ne44-clause-scanned : goal.returns-then-special-ne44-clause-scanned
returns-then-special-ne44-clause-scanned c =
    let span : FieldSpan = record { start = c.fields.start; end = c.in-Some.end } in
    let there : c.fields.i < length c.fields.spans = omega (arith, c.fields-test.true, c.fields.auto.i-end) in
    let all = take_all (c.fields.i + 1) (set c.fields.spans c.fields.i span) (omega (arith, length-set c.fields.spans c.fields.i span, c.if-i-spans.false)) in
    subst (λ spans. Scanned c.args.text.now spans (scan.Record (c.in-Some.end + 1))) (sym (take_more_set c.fields.spans c.fields.i span there) ∙ all)
    (last_field c.args.text.now (take c.fields.i c.fields.spans) c.fields.start c.in-Some.end c.fields.invariant.read c.in-Some.ensures.found.1 c.in-Some.ensures.found.0 c.if-special-eq34.false c.if-special-ne44.true)

pub fields-preserved : goal.fields-preserved
fields-preserved c =
    let span : FieldSpan = record { start = c.fields.start; end = c.in-Some.end } in
    let there : c.fields.i < length c.fields.spans = omega (arith, c.fields-test.true, c.fields.auto.i-end) in
    record {
      read = rw (take_more_set c.fields.spans c.fields.i span there)
          (one_field c.args.text.now (take c.fields.i c.fields.spans) c.fields.start c.in-Some.end c.fields.invariant.read c.in-Some.ensures.found.1 c.in-Some.ensures.found.0 (no_quote_is_comma _ c.if-special-ne44.false) c.if-special-ne44.false);
      marks = c.in-Some.ensures.marks;
      whole = c.fields.invariant.whole;
    }
