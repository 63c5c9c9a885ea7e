-- Items one after the other, as a loop reads them.
use Rattle.std.proofs.Common.{◌≡◌, ℕ, suc, ◌-◌, ◌+◌, ◌≤◌, ◌<◌, List, [], ◌∷◌, ◌++◌, Option, Some, None, refl, sym, ap, ◌∙◌, append_assoc, arith}
use Rattle.gq_token.specs.declared.parse_error.ParseError.{ParseError}
use Rattle.gq_token.specs.declared.parse_error.ParseError.TheVariants as error
use Rattle.gq_token.specs.declared.token.Token.{Token}
use Rattle.gq_token.specs.Results.{◌>>=◌, Fails}
use Rattle.gq_clause.specs.Reading.{items_within}

-- what was read before, and what is still read
abbrev pub with_front : {A : Type 0} → List A → Option (List A × List Token) → Option (List A × List Token)
with_front front read = read >>= λ x. Some (front ++ x.0, x.1)

regroup : {A : Type 0} (front : List A) (n : A) (read : Option (List A × List Token)) → with_front front (read >>= λ x. Some (n ∷ x.0, x.1)) ≡ with_front (front ++ n ∷ []) read
regroup front n (Some x) = ap (λ ns. Some (ns, x.1)) (simp append_assoc)
regroup front n None = refl

module _ {A : Type 0} (item : List Token → Option (A × List Token)) (next : List Token → Option (List Token)) where
  -- an item and a separator
  pub goes_on : (front : List A) (count i : ℕ) (ts : List Token) (n : A) (after rest : List Token) (total : Option (List A × List Token)) → i < count → item ts ≡ Some (n, after) → next after ≡ Some rest
      → with_front front (items_within item next (count - i) ts) ≡ total → with_front (front ++ n ∷ []) (items_within item next (count - (i + 1)) rest) ≡ total
  unfolding items_within
  goes_on front count i ts n after rest total lt h more so_far =
      let k : count - i ≡ suc (count - (i + 1)) = omega arith in
      let one : with_front front (items_within item next (count - i) ts) ≡ with_front (front ++ n ∷ []) (items_within item next (count - (i + 1)) rest) = rw (k, h, more) (regroup front n (items_within item next (count - (i + 1)) rest)) in
      sym one ∙ so_far

  -- an item and no separator
  pub stops : (front : List A) (count i : ℕ) (ts : List Token) (n : A) (after : List Token) (total : Option (List A × List Token)) → i < count → item ts ≡ Some (n, after) → next after ≡ None
      → with_front front (items_within item next (count - i) ts) ≡ total → total ≡ Some (front ++ n ∷ [], after)
  unfolding items_within
  stops front count i ts n after total lt h none so_far =
      let k : count - i ≡ suc (count - (i + 1)) = omega arith in
      let one : with_front front (items_within item next (count - i) ts) ≡ Some (front ++ n ∷ [], after) = rw (k, h, none) refl in
      sym so_far ∙ one

  -- no item
  pub fails : (e : ParseError) (front : List A) (count i : ℕ) (ts : List Token) (total : Option (List A × List Token)) → i < count → Fails e (item ts)
      → with_front front (items_within item next (count - i) ts) ≡ total → Fails e total
  unfolding items_within
  fails error.Memory front count i ts total lt h so_far = tt
  fails error.Syntax front count i ts total lt h so_far =
      let k : count - i ≡ suc (count - (i + 1)) = omega arith in
      let one : with_front front (items_within item next (count - i) ts) ≡ None = rw (k, h) refl in
      sym so_far ∙ one

  -- as many items as there are tokens
  pub runs_out : (front : List A) (count i : ℕ) (ts : List Token) (total : Option (List A × List Token)) → count ≤ i → with_front front (items_within item next (count - i) ts) ≡ total → total ≡ None
  unfolding items_within
  runs_out front count i ts total le so_far =
      let k : count - i ≡ 0 = omega arith in
      let one : with_front front (items_within item next (count - i) ts) ≡ None = rw k refl in
      sym so_far ∙ one
