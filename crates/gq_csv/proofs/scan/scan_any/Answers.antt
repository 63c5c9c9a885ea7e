use Rattle.gq_csv.proofs.ScanLemmas.{last_field, no_fields, one_field}
use Rattle.gq_csv.proofs.scan.scan_any.Goals as goal

pub fields-init : goal.fields-init
fields-init c = record { read = rw c.clear.ensures.items (no_fields c.args.text.now); marks = c.of-marks.ensures c.args.text.now c.requires; whole = c.requires }

pub returns-then-special-ne44-clause-scanned : goal.returns-then-special-ne44-clause-scanned
returns-then-special-ne44-clause-scanned c =
    rw c.in_ok-push.ensures.items (last_field c.args.text.now c.fields.spans.items c.fields.start c.in-Some.end c.fields.invariant.read c.in-Some.ensures.found.1 c.in-Some.ensures.found.0 c.if-special-eq34.false c.if-special-ne44.true)

pub returns-then-special-ne44-clause-mask : goal.returns-then-special-ne44-clause-mask
returns-then-special-ne44-clause-mask c = c.after.ensures c.args.text.now c.in-Some.ensures.marks

pub returns-then-special-eq34-clause-mask : goal.returns-then-special-eq34-clause-mask
returns-then-special-eq34-clause-mask c = c.fields.invariant.whole

pub returns-clause-mask : goal.returns-clause-mask
returns-clause-mask c = c.fields.invariant.whole

pub next_special-requires : goal.next_special-requires
next_special-requires c = c.fields.invariant.marks

pub fields-preserved : goal.fields-preserved
fields-preserved c = record {
  read = rw c.in_ok-push.ensures.items (one_field c.args.text.now c.fields.spans.items c.fields.start c.in-Some.end c.fields.invariant.read c.in-Some.ensures.found.1 c.in-Some.ensures.found.0 c.if-special-eq34.false c.if-special-ne44.false);
  marks = c.in-Some.ensures.marks;
  whole = c.fields.invariant.whole;
}
