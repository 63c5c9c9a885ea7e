-- What a parser returns.
use Rattle.std.specs.Prelude.{◌≡◌, Option, Some, None, Result, Ok, Err}
use Rattle.gq_token.specs.declared.parse_error.ParseError.{ParseError}
use Rattle.gq_token.specs.declared.parse_error.ParseError.TheVariants as error

infixl 10 ◌>>=◌
abbrev pub ◌>>=◌ : {A B : Type 0} → Option A → (A → Option B) → Option B
(Some x) >>= f = f x
None >>= f = None

-- a function's result, seen through `view`, is what parsing gives, unless an allocation failed
abbrev pub Fails : {Y : Type 0} → ParseError → Option Y → Type 0
Fails error.Memory read = Unit {0}
Fails error.Syntax read = read ≡ None

abbrev pub Gives : {X Y : Type 0} → (X → Y) → Result X ParseError → Option Y → Type 0
Gives view (Ok x) read = read ≡ Some (view x)
Gives view (Err e) read = Fails e read
