use Rattle.std.proofs.Common.{◌∙◌, ◌-◌, ◌*◌, ◌/◌, ◌^◌, ℕ, ap, arith, rules}
use Rattle.sw_probe.specs.Hashes.{number_of}
use Rattle.gq_row.proofs.NumberLemmas.{first_spell}
use Rattle.gq_row.proofs.short_text.ShortText.number.Goals as goal

pub returns-clause-number : goal.returns-clause-number
returns-clause-number c =
    let own = c.self.inside in
    ap (λ (n : ℕ). n / 2 ^ (8 * (8 - own.len))) c.from_be_bytes-eight.ensures
    ∙ first_spell own.bytes own.len c.self.invariant.whole (search rules) (omega arith) (omega arith) ∙ ap number_of c.self.view_is
