use Rattle.std.proofs.Common.{◌∙◌, sym}
use Rattle.gq_shell.proofs.InputLemmas.{no_second, says}
use Rattle.gq_shell.proofs.tables.read_word.Goals as goal

pub returns-in-Ok-push-clause-read : goal.returns-in-Ok-push-clause-read
returns-in-Ok-push-clause-read g c = record {
  word = c.in-Ok.word;
  said = says c.greatest-limits.result.bounds c.args.text.now c.in-Ok.word c.greatest-limits.ensures c.in-Ok.ensures.file c.in-Ok.ensures.named c.in-Ok.ensures.given;
  pushed = c.in-Ok-push.ensures.items;
  once = λ taken. no_second _ _ (sym c.takes_twice.ensures ∙ c.if-takes_twice.false) taken;
  taken = c.takes_also-takes_input.ensures;
}
