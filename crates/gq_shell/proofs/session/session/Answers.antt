use Rattle.std.proofs.Common.{ap, sym, subst, append-nil, ℕ, List, [], Result, Ok, Err, ◌∙◌}
use Rattle.gq_shell.specs.Session.{errors_text, report_of}
use Rattle.gq_shell.specs.Streams.{GotPrefix, Stream, Written, stream}
use Rattle.gq_shell.specs.declared.writing.CutShort.{CutShort}
use Rattle.gq_shell.proofs.session.session.Goals as goal

-- all of a text is a prefix of it
reported-prefix : (s : Stream) (text : List ℕ) (r : Result (Unit {0}) CutShort) → Written s text r → GotPrefix s text
reported-prefix s text (Ok done) got = record { prefix = text; rest = []; is = sym (append-nil text); appends = got }
reported-prefix s text (Err fault) prefix = prefix

pub returns-clause-ended : goal.returns-clause-ended
returns-clause-ended g c =
    let text_is = c.errors_text.ensures
    ∙ ap (λ (r : List ℕ). errors_text r c.run_as-ended.result) (c.as_str.ensures.value ∙ c.report_of-report.ensures ∙ ap (report_of c.args.reporting.stats c.args.reporting.seed) c.spent.ensures) in
    let errors = stream g.E.Write.contents c.run_as-ended.new.errors c.write_text-written.new.writer in
    record {
      ended = c.run_as-ended.result;
      refusals = g.E.Write.contents c.run_as-ended.new.errors;
      ran = c.run_as-ended.ensures.ran;
      quiet = λ is. ap g.E.Write.contents (c.run_as-ended.ensures.quiet is);
      status_is = c.status_of.ensures;
      reported = subst (λ (t : List ℕ). GotPrefix errors t) text_is (reported-prefix errors c.errors_text.result.now c.write_text-written.result c.write_text-written.ensures);
    }
