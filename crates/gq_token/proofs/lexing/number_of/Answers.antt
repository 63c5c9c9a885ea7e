use Rattle.std.proofs.Common.{length, take, ap, ◌∙◌, arith, ℕ, List, length-take-le}
use Rattle.std.specs.Char.{is_ascii_digit}
use Rattle.std.specs.List.{prefix_len}
use Rattle.std.specs.Str.{all_ascii_digits}
use Rattle.gq_token.proofs.Numbers.{front_digits}
use Rattle.gq_token.proofs.lexing.number_of.Goals as goal

pub signed-requires : goal.signed-requires
signed-requires c =
    let front = c.split_ascii.ensures.taken ∙ ap (λ (n : ℕ). take n c.args.text.now) c.digits_len-len.ensures.value ∙ ap (λ (bs : List ℕ). take (prefix_len is_ascii_digit bs) c.args.text.now) c.as_bytes.ensures.value in
    (omega (arith, ap length c.split_ascii.ensures.taken, length-take-le c.digits_len-len.result c.args.text.now (omega (arith, c.digits_len-len.ensures.within, ap length c.as_bytes.ensures.value))), ap all_ascii_digits front ∙ front_digits c.args.text.now)
