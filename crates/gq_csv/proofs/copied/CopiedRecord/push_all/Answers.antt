use Rattle.std.proofs.Common.{◌∙◌, ap}
use Rattle.gq_csv.specs.Copies.{Copied}
use Rattle.gq_csv.proofs.FieldLemmas.{fields_more, within_more}
use Rattle.gq_csv.specs.Fields.{fields_in}
use Rattle.gq_csv.proofs.copied.CopiedRecord.push_all.Goals as goal

pub returns-clause-fields : goal.returns-clause-fields
returns-clause-fields c =
    let own = c.self.inside in
    ap (λ bytes. fields_in bytes own.spans.items) c.in_ok-extend_from_slice.ensures.items
    ∙ fields_more own.bytes.items c.args.bytes.now own.spans.items (within_more own.start _ own.spans.items c.self.invariant.1 c.self.invariant.0)
    ∙ ap (λ (v : Copied). v.fields) c.self.view_is
