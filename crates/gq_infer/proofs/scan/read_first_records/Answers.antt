use Rattle.std.proofs.Common.{◌≡◌, ◌∙◌, ap}
use Rattle.gq_infer.specs.Scanning.{with_record}
use Rattle.gq_infer.proofs.FileLemmas.{none_read, one_read}
use Rattle.gq_infer.proofs.scan.read_first_records.Goals as goal

pub loop-init : goal.loop-init
loop-init g c = none_read _ _ _

pub loop-preserved : goal.loop-preserved
loop-preserved g c =
    one_read c.args.places.now c.args.seen.now c.loop.seen c.add_record.new.seen c.args.reader.now.rest c.loop.reader.rest c.read_record.new.reader.rest c.in_ok-read_record.field-0 c.read_record.new.reader.fields c.loop.invariant c.if-not-branch.false c.in_ok-read_record.ensures.took
    (c.add_record.ensures ∙ ap (λ fields. with_record fields c.args.places.now c.loop.seen) c.record.ensures)
