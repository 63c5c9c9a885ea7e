use Rattle.std.proofs.Common.{◌≡◌, ◌+◌, ◌-◌, ◌%◌, ℕ, take, drop, subst, arith, slice_index_or}
use Rattle.std.proofs.lemmas.Str.{IsUtf8-had}
use Rattle.gq_cells.specs.Words.{IsValid}
use Rattle.gq_cells.proofs.text_ref.WordText.as_str.Goals as goal

pub from_utf8_unchecked-requires : goal.from_utf8_unchecked-requires
from_utf8_unchecked-requires c =
    let bytes = c.args.self.now.bytes in
    let len = slice_index_or bytes 0 0 % 8 in
    let whole : len ≡ 1 + len - 1 = omega arith in
    IsUtf8-had _ (subst (λ (n : ℕ). IsValid (take n (drop 1 bytes))) whole c.args.self.now.valid)
