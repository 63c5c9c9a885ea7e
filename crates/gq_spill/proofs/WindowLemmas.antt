-- Parts of a window's buffer.
use Rattle.std.proofs.Common.{◌≡◌, ℕ, ◌+◌, ◌-◌, ◌≤◌, List, length, take, drop, sym, ap, ◌∙◌, arith}
use Rattle.std.proofs.lemmas.List.{drop-drop, drop-take, length-take}

-- what is left of a part after its first bytes
pub drop-part : (bytes : List ℕ) (start end count : ℕ) → count ≤ length (take (end - start) (drop start bytes)) → take (end - (start + count)) (drop (start + count) bytes) ≡ drop count (take (end - start) (drop start bytes))
drop-part bytes start end count within =
    let len = length-take (end - start) (drop start bytes) in
    let rest : end - (start + count) ≡ end - start - count = omega arith in
    let whole : count + (end - start - count) ≡ end - start = omega arith in
    ap (λ (n : ℕ). take n (drop (start + count) bytes)) rest
    ∙ ap (take (end - start - count)) (sym (drop-drop count start bytes))
    ∙ sym (drop-take count (end - start - count) (drop start bytes))
    ∙ ap (λ (n : ℕ). drop count (take n (drop start bytes))) whole
