use Rattle.std.proofs.Common.{◌∙◌, ◌-◌, length, sym, arith}
use Rattle.gq_row.proofs.AsciiLemmas.{last_small}
use Rattle.gq_row.proofs.ascii.few_are_ascii.Goals as goal

pub returns-then-four_are_ascii : goal.returns-then-four_are_ascii
returns-then-four_are_ascii c =
    let bytes = c.args.bytes.now in
    c.four_are_ascii-then-four_are_ascii.ensures
    ∙ last_small bytes 4 4 (length bytes - 4) (omega (arith, c.requires)) (omega (arith, c.if-bytes-lt-FEW.false)) (sym c.four_are_ascii.ensures ∙ c.if-four_are_ascii.true)
