use Rattle.std.specs.Prelude.{codes}
use Rattle.gq_infer.specs.Messages.{reason}
use Rattle.gq_infer.proofs.WordLemmas.{five_parts}
use Rattle.gq_infer.proofs.bad_table.bad_table_text.Goals as goal

pub returns : goal.returns
returns c =
    five_parts (codes "error: invalid value '") c.args.word.now (codes "' for '--table <[NAME=]FILE>': ") (reason c.args.why.now) (codes "\n\nFor more information, try '--help'.\n") _ _ _ c.reason.result.now _ _
    c.in_ok-text.ensures.ok c.in_ok-push_str.ensures.bytes c.in_ok-push_str-2.ensures.bytes c.reason.ensures c.in_ok-push_str-3.ensures.bytes c.in_ok-push_str-4.ensures.bytes
