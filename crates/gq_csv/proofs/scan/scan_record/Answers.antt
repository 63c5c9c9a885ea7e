use Rattle.std.proofs.Common.{◌≡◌, length, sym, ap, subst, arith}
use Rattle.gq_csv.specs.Scanning.{Scanned}
use Rattle.gq_csv.proofs.ScanLemmas.{all_over}
use Rattle.gq_csv.proofs.scan.scan_record.Goals as goal

pub returns-in-Some-clause-scanned : goal.returns-in-Some-clause-scanned
returns-in-Some-clause-scanned c =
    let new = c.scan_over.new.spans in
    let size : length new ≡ c.args.spans.now.len = omega (arith, c.scan_over.ensures.as_many, c.as_mut_slice.ensures.len, ap length c.as_mut_slice.ensures.value) in
    subst (λ spans. Scanned c.args.text.now spans c.in-Some.found) (sym (all_over new c.args.spans.now.items c.args.spans.now.len size)) c.in-Some.ensures.scanned
