-- The first of the remaining tokens.
use Rattle.std.specs.Prelude.{◌≡◌, Bool, true, false, List, [], ◌∷◌, Option, Some, None, if◌then◌else◌}
use Rattle.gq_token.specs.declared.token.Terminal.{Terminal}
use Rattle.gq_token.specs.declared.token.Terminal.TheVariants as terminal
use Rattle.gq_token.specs.declared.token.Token.{Token}
use Rattle.gq_token.specs.declared.token.Token.TheVariants.{Fixed, Name, Number, Text}
use Rattle.gq_token.specs.Results.{◌>>=◌}
use Rattle.gq_token.specs.Tokens.{same}

abbrev pub skip : Terminal → List Token → Option (List Token)
skip t [] = None
skip t (Fixed u ∷ rest) = if same u t then Some rest else None
skip t (Name n ∷ rest) = None
skip t (Number z ∷ rest) = None
skip t (Text s ∷ rest) = None

-- whether the first token is the terminal
abbrev pub leads : Terminal → List Token → Bool
leads t [] = false
leads t (Fixed u ∷ rest) = same u t
leads t (Name n ∷ rest) = false
leads t (Number z ∷ rest) = false
leads t (Text s ∷ rest) = false

-- what a function that takes a token returned, and the tokens that it left
abbrev pub Skips : Option (List Token) → Bool → List Token → List Token → Type 0
Skips read true old new = read ≡ Some new
Skips read false old new = (read ≡ None) × (new ≡ old)

-- a comma before another column, and not before the key
unfoldable pub column_comma : List Token → Option (List Token)
column_comma ts = skip terminal.Comma ts >>= λ after. elim (skip terminal.Key after) [ None ↦ Some after | Some rest ↦ None ]
