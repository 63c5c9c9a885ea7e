-- Rows one by one, and the first faulty record.
use Rattle.std.proofs.Common.{◌≡◌, ◌∙◌, ◌+◌, ◌<◌, ℕ, zero, suc, List, [], ◌∷◌, length, get_or, Result, Ok, Err, IsOk, refl, sym, ap, arith}
use Rattle.gq_row.specs.declared.value.Value.{Value}
use Rattle.gq_row.specs.Schemas.{PlainSchema}
use Rattle.gq_load.specs.declared.load_refusal.LoadRefusal.{LoadRefusal}
use Rattle.gq_load.specs.Answers.{◌>>=◌}
use Rattle.gq_load.specs.Laws.{IsFirstFault}
use Rattle.gq_load.specs.Payloads.{row_of, rows_from}
use Rattle.gq_load.proofs.Filling.{bound, ok_same}

pub many : (schema : PlainSchema) (longest : ℕ) (places : List ℕ) (number : ℕ) (given : List (List (List ℕ))) (rows : List (List Value)) → rows_from schema longest places number given ≡ Ok rows → length rows ≡ length given
unfolding rows_from
many schema longest places number [] rows h = ap length (sym (ok_same [] rows h))
many schema longest places number (fields ∷ others) rows h =
    let a = bound (row_of schema longest places number fields) _ rows h in
    let b = bound (rows_from schema longest places (number + 1) others) _ rows a.2 in
    ap length (sym (ok_same (a.0 ∷ b.0) rows b.2)) ∙ ap (λ n. suc n) (many schema longest places (number + 1) others b.0 b.1)

pub each : (schema : PlainSchema) (longest : ℕ) (places : List ℕ) (number : ℕ) (given : List (List (List ℕ))) (rows : List (List Value)) (i : ℕ) → rows_from schema longest places number given ≡ Ok rows → i < length given
    → row_of schema longest places (number + i) (get_or given i []) ≡ Ok (get_or rows i [])
unfolding rows_from
each schema longest places number [] rows i h s = let none : ⊥ = omega (arith, s) in absurd none
each schema longest places number (fields ∷ others) rows zero h s =
    let a = bound (row_of schema longest places number fields) _ rows h in
    let b = bound (rows_from schema longest places (number + 1) others) _ rows a.2 in
    let here : number + 0 ≡ number = omega arith in
    rw here (a.1 ∙ ap (λ (all : List (List Value)). Ok (get_or all 0 [])) (ok_same (a.0 ∷ b.0) rows b.2))
each schema longest places number (fields ∷ others) rows (suc i) h s =
    let a = bound (row_of schema longest places number fields) _ rows h in
    let b = bound (rows_from schema longest places (number + 1) others) _ rows a.2 in
    let there : number + suc i ≡ number + 1 + i = omega arith in
    rw there (each schema longest places (number + 1) others b.0 i b.1 (omega (arith, s)) ∙ ap (λ (all : List (List Value)). Ok (get_or all (suc i) [])) (ok_same (a.0 ∷ b.0) rows b.2))

err_same : {A : Type 0} (e f : LoadRefusal) → ◌≡◌ {A = Result A LoadRefusal} (Err e) (Err f) → e ≡ f
err_same e f h = ap (λ r. elim r [ Ok z ↦ e | Err g ↦ g ]) h

pub first : (schema : PlainSchema) (longest : ℕ) (places : List ℕ) (number : ℕ) (given : List (List (List ℕ))) (fault : LoadRefusal) → rows_from schema longest places number given ≡ Err fault → IsFirstFault schema longest places number given fault
unfolding rows_from
first schema longest places number [] fault h = let none : ⊥ = cc in absurd none
first schema longest places number (fields ∷ others) fault h =
    by_first (row_of schema longest places number fields) refl (rows_from schema longest places (number + 1) others) refl h (first schema longest places (number + 1) others fault)
  where
    here : number + 0 ≡ number
    here = omega arith

    later : (row : List Value) → row_of schema longest places number fields ≡ Ok row → IsFirstFault schema longest places (number + 1) others fault → IsFirstFault schema longest places number (fields ∷ others) fault
    later row e k = record {
      before = suc k.before;
      within = omega (arith, k.within);
      faulty = let there : number + suc k.before ≡ number + 1 + k.before = omega arith in rw there k.faulty;
      fine = fine;
    }
      where
        fine : (i : ℕ) → i < suc k.before → IsOk (row_of schema longest places (number + i) (get_or (fields ∷ others) i []))
        fine zero s = rw (here, e) refl
        fine (suc i) s = let there : number + suc i ≡ number + 1 + i = omega arith in rw there (k.fine i (omega (arith, s)))

    by_first : (r : Result (List Value) LoadRefusal) → row_of schema longest places number fields ≡ r
        → (rest : Result (List (List Value)) LoadRefusal) → rows_from schema longest places (number + 1) others ≡ rest
        → (r >>= λ row. rest >>= λ rows. Ok (row ∷ rows)) ≡ Err fault
        → (rows_from schema longest places (number + 1) others ≡ Err fault → IsFirstFault schema longest places (number + 1) others fault)
        → IsFirstFault schema longest places number (fields ∷ others) fault
    by_first (Err f) e rest g h again = record {
      before = 0;
      within = omega arith;
      faulty = rw here (e ∙ ap Err (err_same f fault h));
      fine = λ i s. let none : ⊥ = omega (arith, s) in absurd none;
    }
    by_first (Ok row) e (Ok rows) g h again = let none : ⊥ = cc in absurd none
    by_first (Ok row) e (Err f) g h again = later row e (again (g ∙ ap Err (err_same f fault h)))
