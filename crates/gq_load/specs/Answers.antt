-- Results of reading, and what a function returns that reads within memory.
use Rattle.std.specs.Prelude.{◌≡◌, ◌⊎◌, Result, Ok, Err}
use Rattle.gq_load.specs.declared.load_refusal.LoadRefusal.{LoadRefusal}
use Rattle.gq_load.specs.declared.load_refusal.LoadRefusal.TheVariants.{Memory}

-- first the one, and then the other on what it gave; the first fault is the fault
infixl 10 ◌>>=◌
abbrev pub ◌>>=◌ : {A B : Type 0} → Result A LoadRefusal → (A → Result B LoadRefusal) → Result B LoadRefusal
(Ok x) >>= f = f x
(Err e) >>= f = Err e

-- what a function returned, seen by view, is what reading gives, unless memory ran out
abbrev pub Gives : {X Y : Type 0} → (X → Y) → Result X LoadRefusal → Result Y LoadRefusal → Type 0
Gives view (Ok x) read = read ≡ Ok (view x)
Gives view (Err e) read = (e ≡ Memory) ⊎ (read ≡ Err e)
