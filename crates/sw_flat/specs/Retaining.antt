-- Which entries a closure keeps.
use Rattle.std.specs.Prelude.{◌≡◌, Bool, List, [], ◌∷◌, if◌then◌else◌}
use Rattle.std.specs.Borrow.{Bor}
use Rattle.std.specs.Fn.{Mut, Called}

module _ {F K V : Type 0} (g : Mut F (Bor K × (Bor V × Unit {0})) Bool) where
  -- a call of the closure `f` with an entry may return `b`, and leaves `f'`
  pub record AnswersAt (f : F) (p : K × V) (b : Bool) (f' : F) : Type 0 where
    pub key : Bor K
    pub value : Bor V
    pub shows : (key.now ≡ p.0) × (value.now ≡ p.1)
    pub called : Called g f (key, (value, tt)) b f'

  -- the closure was called with each entry in turn, and those are kept for which it returned `true`
  abbrev pub KeepsInTurn : F → List (K × V) → List (K × V) → Type 0
  KeepsInTurn f [] kept = kept ≡ []
  KeepsInTurn f (p ∷ items) kept =
      (b : Bool) × (f' : F) × AnswersAt f p b f' × (later : List (K × V)) × KeepsInTurn f' items later × (kept ≡ (if b then p ∷ later else later))
