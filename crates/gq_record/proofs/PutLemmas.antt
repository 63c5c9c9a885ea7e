-- Fields that are written over bytes, one after the other.
use Rattle.std.proofs.Common.{◌≡◌, ℕ, ◌+◌, ◌≤◌, List, [], ◌++◌, length, take, drop, refl, sym, ap, ◌∙◌, arith}
use Rattle.std.specs.Int.{w32, to_be_bytes}
use Rattle.std.proofs.lemmas.List.{take_at, drop_at, drop-take, take-append-drop, append_assoc, append-nil, length-append, length-take-le, take-take}
use Rattle.gq_row.specs.declared.value.Value.{Value}
use Rattle.gq_record.specs.Putting.{IsPut}
use Rattle.gq_record.specs.Records.{body_of, record_of}

pub put_none : (old : List ℕ) (at : ℕ) → at ≤ length old → IsPut old at [] old at
put_none old at within = record { within = within; bytes = sym (append-nil (take at old)) }

module _ (old : List ℕ) (at : ℕ) (field mid : List ℕ) (end : ℕ) (put : IsPut old at field mid end) where
  pub put_more : (more new : List ℕ) (last : ℕ) → IsPut mid end more new last → IsPut old at (field ++ more) new last
  put_more more new last next = record { within = next.within; bytes = next.bytes ∙ ap (λ (l : List ℕ). l ++ more) put.bytes ∙ append_assoc (take at old) field more }

  pub put_end : at ≤ length old → end ≡ at + length field
  put_end within = omega (arith, sym (length-take-le end mid put.within) ∙ ap length put.bytes ∙ length-append (take at old) field, length-take-le at old within)

  pub put_keeps : (new : List ℕ) → at ≤ length old → take end new ≡ take end mid → take at new ≡ take at old
  put_keeps new within kept =
      let le : at ≤ end = omega (arith, put_end within) in
      sym (take-take at end new le) ∙ ap (take at) (kept ∙ put.bytes) ∙ take_at (take at old) field at (length-take-le at old within)

-- a body whose length is written over the four bytes before it
pub framed : (old long mid new : List ℕ) (at end size : ℕ) (row : List Value) → at ≤ length old → take (length old) long ≡ old → at + 4 ≤ length long → IsPut long (at + 4) (body_of row) mid end
    → size ≡ length (body_of row) → new ≡ take at mid ++ (to_be_bytes w32 size ++ drop (at + 4) mid) → IsPut old at (record_of row) new end
unfolding record_of
framed old long mid new at end size row within begins room put sized is =
    let body : List ℕ = body_of row in
    let head : List ℕ = to_be_bytes w32 (length body) in
    let ends : end ≡ at + 4 + length body = put_end long (at + 4) body mid end put room in
    let kept : take (at + 4) mid ≡ take (at + 4) long = put_keeps long (at + 4) body mid end put mid room refl in
    let front : take at mid ≡ take at old =
    sym (take-take at (at + 4) mid (omega arith)) ∙ ap (take at) kept ∙ take-take at (at + 4) long (omega arith) ∙ sym (take-take at (length old) long within) ∙ ap (take at) begins in
    let rest : take (length body) (drop (at + 4) mid) ≡ body =
    sym (drop-take (at + 4) (length body) mid) ∙ ap (λ (n : ℕ). drop (at + 4) (take n mid)) (sym ends) ∙ ap (drop (at + 4)) put.bytes ∙ drop_at (take (at + 4) long) body (at + 4) (length-take-le (at + 4) long room) in
    let last : List ℕ = drop (length body) (drop (at + 4) mid) in
    let tail : drop (at + 4) mid ≡ body ++ last = sym (take-append-drop (length body) (drop (at + 4) mid)) ∙ ap (λ (l : List ℕ). l ++ last) rest in
    let whole : new ≡ (take at old ++ (head ++ body)) ++ last =
    is ∙ (λ i. front i ++ (to_be_bytes w32 (sized i) ++ tail i)) ∙ ap (λ (l : List ℕ). take at old ++ l) (sym (append_assoc head body last)) ∙ sym (append_assoc (take at old) (head ++ body) last) in
    let both : length (take at old ++ (head ++ body)) ≡ end = omega (arith, length-append (take at old) (head ++ body), length-append head body, length-take-le at old within, ends) in
    record {
      within = omega (arith, ap length whole ∙ length-append (take at old ++ (head ++ body)) last, both);
      bytes = ap (take end) whole ∙ take_at (take at old ++ (head ++ body)) last end both;
    }
