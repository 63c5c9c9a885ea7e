-- What several writes in turn do to known bytes.
use Rattle.std.proofs.Common.{◌≡◌, ◌+◌, ℕ, List, [], ◌++◌, take, drop, Option, Some, None, refl, sym, ap, ◌∙◌, append_assoc, subst}
use Rattle.std.specs.Prelude.{Result, Ok, Err, IfErr, OnOk}
use Rattle.std.specs.Io.KnownBytes.{Appends, Keeps}
use Rattle.std.proofs.lemmas.List.{take-append-drop, append-nil}
use Rattle.std.proofs.Math.Seq.{take-add}
use Rattle.gq_reply.specs.Sending.{AppendsPrefix, Passes}

pub appends_more : (a b c : Option (List ℕ)) (x y : List ℕ) → Appends a b x → Appends b c y → Appends a c (x ++ y)
appends_more None b c x y h k = tt
appends_more (Some xs) None c x y h k = absurd h
appends_more (Some xs) (Some ys) None x y h k = absurd k
appends_more (Some xs) (Some ys) (Some zs) x y h k = k ∙ ap (λ l. l ++ y) h ∙ append_assoc xs x y

pub appends_kept : (a b c : Option (List ℕ)) (x : List ℕ) → Appends a b x → Keeps b c → Appends a c x
appends_kept None b c x h k = tt
appends_kept (Some xs) None c x h k = absurd h
appends_kept (Some xs) (Some ys) None x h k = absurd k
appends_kept (Some xs) (Some ys) (Some zs) x h k = k ∙ h

pub appends_nothing : (a : Option (List ℕ)) → Appends a a []
appends_nothing None = tt
appends_nothing (Some xs) = sym (append-nil xs)

-- the first n of what comes after the first i
taken : (bytes rest : List ℕ) (i n : ℕ) → rest ≡ drop i bytes → take i bytes ++ take n rest ≡ take (i + n) bytes
taken bytes rest i n e = ap (λ l. take i bytes ++ take n l) e ∙ sym (take-add i n bytes)

pub wrote_more : (a b c : Option (List ℕ)) (bytes rest : List ℕ) (i n : ℕ) → rest ≡ drop i bytes → Appends a b (take i bytes) → Appends b c (take n rest) → Appends a c (take (i + n) bytes)
wrote_more a b c bytes rest i n e h k = let P : List ℕ → Type 0 = λ l. Appends a c l in subst P (taken bytes rest i n e) (appends_more a b c (take i bytes) (take n rest) h k)

pub prefix_kept : (a b c : Option (List ℕ)) (bytes : List ℕ) (i : ℕ) → Appends a b (take i bytes) → Keeps b c → AppendsPrefix a c bytes
prefix_kept a b c bytes i h k = record {
  prefix = take i bytes;
  rest = drop i bytes;
  is = sym (take-append-drop i bytes);
  appends = appends_kept a b c (take i bytes) h k;
}

pub prefix_more : (a b c : Option (List ℕ)) (bytes rest : List ℕ) (i n : ℕ) → rest ≡ drop i bytes → Appends a b (take i bytes) → Appends b c (take n rest) → AppendsPrefix a c bytes
prefix_more a b c bytes rest i n e h k = record {
  prefix = take (i + n) bytes;
  rest = drop (i + n) bytes;
  is = sym (take-append-drop (i + n) bytes);
  appends = wrote_more a b c bytes rest i n e h k;
}

pub prefix_longer : (a b : Option (List ℕ)) (x y : List ℕ) → AppendsPrefix a b x → AppendsPrefix a b (x ++ y)
prefix_longer a b x y h = record { prefix = h.prefix; rest = h.rest ++ y; is = ap (λ l. l ++ y) h.is ∙ append_assoc h.prefix h.rest y; appends = h.appends }

pub whole_prefix : (a b : Option (List ℕ)) (x : List ℕ) → Appends a b x → AppendsPrefix a b x
whole_prefix a b x h = record { prefix = x; rest = []; is = sym (append-nil x); appends = h }

pub prefix_after : (a b c : Option (List ℕ)) (x y : List ℕ) → Appends a b x → AppendsPrefix b c y → AppendsPrefix a c (x ++ y)
prefix_after a b c x y h k = record { prefix = x ++ k.prefix; rest = k.rest; is = ap (λ l. x ++ l) k.is ∙ sym (append_assoc x k.prefix k.rest); appends = appends_more a b c x k.prefix h k.appends }

-- ---- bytes after those that wait

pub passes_waiting : (a : Option (List ℕ)) (p x : List ℕ) → Passes a a p (p ++ x) x
passes_waiting a p x = record { sent = []; is = refl; appends = appends_nothing a }

pub passes_nothing : (a : Option (List ℕ)) (p : List ℕ) → Passes a a p p []
passes_nothing a p = record { sent = []; is = append-nil p; appends = appends_nothing a }

-- those that waited were sent, and these wait
pub passes_after : (a b : Option (List ℕ)) (p x : List ℕ) → Appends a b p → Passes a b p x x
passes_after a b p x h = record { sent = p; is = refl; appends = h }

-- so were these
pub passes_both : (a b c : Option (List ℕ)) (p x : List ℕ) → Appends a b p → Appends b c x → Passes a c p [] x
passes_both a b c p x h k = record { sent = p ++ x; is = sym (append-nil (p ++ x)); appends = appends_more a b c p x h k }

-- what waits after the first bytes, and the next
behind : (p x y s q : List ℕ) → p ++ x ≡ s ++ q → p ++ (x ++ y) ≡ s ++ (q ++ y)
behind p x y s q e = sym (append_assoc p x y) ∙ ap (λ l. l ++ y) e ∙ append_assoc s q y

pub passes_more : (a b c : Option (List ℕ)) (p q r x y : List ℕ) → Passes a b p q x → Passes b c q r y → Passes a c p r (x ++ y)
passes_more a b c p q r x y h k = record {
  sent = h.sent ++ k.sent;
  is = behind p x y h.sent q h.is ∙ ap (λ l. h.sent ++ l) k.is ∙ sym (append_assoc h.sent k.sent r);
  appends = appends_more a b c h.sent k.sent h.appends k.appends;
}

pub passes_cut : (a b c : Option (List ℕ)) (p q x y : List ℕ) → Passes a b p q x → AppendsPrefix b c (q ++ y) → AppendsPrefix a c (p ++ (x ++ y))
passes_cut a b c p q x y h k =
    let P : List ℕ → Type 0 = λ l. AppendsPrefix a c l in
    subst P (sym (behind p x y h.sent q h.is)) (prefix_after a b c h.sent (q ++ y) h.appends k)

pub cut_longer : (a b : Option (List ℕ)) (p x y : List ℕ) → AppendsPrefix a b (p ++ x) → AppendsPrefix a b (p ++ (x ++ y))
cut_longer a b p x y h = let P : List ℕ → Type 0 = λ l. AppendsPrefix a b l in subst P (append_assoc p x y) (prefix_longer a b (p ++ x) y h)

-- and then all that waits is sent
pub passes_end : (a b c : Option (List ℕ)) (p q x : List ℕ) → Passes a b p q x → Appends b c q → Appends a c (p ++ x)
passes_end a b c p q x h k = let P : List ℕ → Type 0 = λ l. Appends a c l in subst P (sym h.is) (appends_more a b c h.sent q h.appends k)

pub end_cut : (a b c : Option (List ℕ)) (p q x : List ℕ) → Passes a b p q x → AppendsPrefix b c q → AppendsPrefix a c (p ++ x)
end_cut a b c p q x h k = let P : List ℕ → Type 0 = λ l. AppendsPrefix a c l in subst P (sym h.is) (prefix_after a b c h.sent q h.appends k)

-- a prefix of some bytes, and of more
pub cut_within : (a b c : Option (List ℕ)) (p q done step rest whole : List ℕ) → Passes a b p q done → AppendsPrefix b c (q ++ step) → whole ≡ (done ++ step) ++ rest → AppendsPrefix a c (p ++ whole)
cut_within a b c p q done step rest whole h k e =
    let P : List ℕ → Type 0 = λ l. AppendsPrefix a c (p ++ l) in
    subst P (sym e) (cut_longer a c p (done ++ step) rest (passes_cut a b c p q done step h k))

-- those that waited were sent, and these follow
pub passes_emptied : (a b c : Option (List ℕ)) (p q r x : List ℕ) → Appends a b p → q ≡ [] → Passes b c q r x → Passes a c p r x
passes_emptied a b c p q r x h e k = record {
  sent = p ++ k.sent;
  is = ap (λ l. p ++ l) (sym (ap (λ l. l ++ x) e) ∙ k.is) ∙ sym (append_assoc p k.sent r);
  appends = appends_more a b c p k.sent h k.appends;
}

pub emptied_cut : (a b c : Option (List ℕ)) (p q x : List ℕ) → Appends a b p → q ≡ [] → AppendsPrefix b c (q ++ x) → AppendsPrefix a c (p ++ x)
emptied_cut a b c p q x h e k =
    let P : List ℕ → Type 0 = λ l. AppendsPrefix b c (l ++ x) in
    prefix_after a b c p x h (subst P e k)

-- ---- results

module _ {X E : Type 0} where
  -- what holds of any result holds of an error
  pub on_err : (P : Type 0) (r : Result X E) → P → IfErr r (λ _. P)
  on_err P (Ok x) p = tt
  on_err P (Err e) p = p

  pub of_err : (P Q : Type 0) (r : Result X E) → (P → Q) → IfErr r (λ _. P) → IfErr r (λ _. Q)
  of_err P Q (Ok x) f h = tt
  of_err P Q (Err e) f h = f h

  pub of_ok : (P Q : Type 0) (r : Result X E) → (P → Q) → OnOk r P → OnOk r Q
  of_ok P Q (Ok x) f h = f h
  of_ok P Q (Err e) f h = tt
