use Rattle.std.proofs.Common.{true}
use Rattle.gq_csv.specs.Fields.{fields_in}
use Rattle.gq_csv.specs.Inputs.{known}
use Rattle.gq_csv.proofs.RecordLemmas.{took, took_if}
use Rattle.gq_csv.proofs.reader.RecordReader.read.Goals as goal

pub returns-then-branch : goal.returns-then-branch
returns-then-branch g c =
    rw (← c.self.view_is) (took (known c.self.inside.input) (known c.find_record.new.input) true (fields_in c.find_record.new.input.taken c.find_record.new.spans.items) (c.in_ok-find_record.ensures.found c.if-branch.true))

pub returns : goal.returns
returns g c =
    rw (← c.self.view_is) (took_if c.copy_record.result (known c.self.inside.input) (known c.find_record.new.input) (known c.copy_record.new.input) c.copy_record.new.copied.fields (c.in_ok-find_record.ensures.none c.if-branch.false) c.copy_record.ensures)
