-- The tokens of an object, member by member, and the text that is printed for them.
use Rattle.std.proofs.Common.{◌≡◌, ◌+◌, ◌<◌, ◌≤◌, ℕ, zero, suc, true, false, List, [], ◌∷◌, ◌++◌, ◌∙◌, refl, sym, ap, length, drop, flat_map, zip, codes, min, slice_index_or, append_assoc, All, arith}
use Rattle.std.proofs.lemmas.List.{append-nil, drop_more}
use Rattle.std.specs.List.{AllByRecursion, join_by}
use Rattle.json.specs.Token.{Token, begin_object, end_object, key}
use Rattle.json.specs.Lex.{tokens}
use Rattle.json.specs.Print.{ArePrintable, print, print_from, quoted}
use Rattle.json.proofs.Printed.Decimals.{IsNumber-signed_decimal}
use Rattle.json.proofs.Printed.Tokens.{tokens-print}
use Rattle.gq_row.specs.declared.value.Value.{Value}
use Rattle.gq_row.specs.declared.value.Value.TheVariants.{Null, Int, Text, NoCase}
use Rattle.gq_row.specs.Rows.{cell}
use Rattle.gq_format.specs.Jsons.{member_text, object_text, value_text}
use Rattle.gq_format.specs.Tokens.{member_tokens, object_tokens, value_token}
use Rattle.gq_format.specs.Laws.{IsNumberOf64Bits}

-- one member more
pub one_more_member : (names : List (List ℕ)) (row : List Value) (i : ℕ) (tokens next whole : List Token) → i < length names → i < length row
    → tokens ++ flat_map member_tokens (zip (drop i names) (drop i row)) ≡ whole
    → next ≡ tokens ++ member_tokens (slice_index_or names i [], cell row i)
    → next ++ flat_map member_tokens (zip (drop (i + 1) names) (drop (i + 1) row)) ≡ whole
one_more_member names row i tokens next whole named within e is =
    let name = slice_index_or names i [] in
    let rest = flat_map member_tokens (zip (drop (i + 1) names) (drop (i + 1) row)) in
    ap (λ l. l ++ rest) is
    ∙ append_assoc tokens (member_tokens (name, cell row i)) rest
    ∙ sym (ap (λ l. tokens ++ flat_map member_tokens (zip l (drop i row))) (drop_more names i [] named)
    ∙ ap (λ l. tokens ++ flat_map member_tokens (zip (name ∷ drop (i + 1) names) l)) (drop_more row i Null within))
    ∙ e

-- no member is left
pub no_more_members : (names : List (List ℕ)) (row : List Value) (i : ℕ) (tokens whole : List Token) → min (length names) (length row) ≤ i
    → tokens ++ flat_map member_tokens (zip (drop i names) (drop i row)) ≡ whole → tokens ≡ whole
no_more_members names row i tokens whole done e =
    sym (append-nil tokens) ∙ ap (λ l. tokens ++ flat_map member_tokens l) (sym (none_left names row i done)) ∙ e
  where
    zip_nil : (names : List (List ℕ)) → zip {X = Value} names [] ≡ []
    zip_nil [] = refl
    zip_nil (n ∷ names) = refl

    none_left : (names : List (List ℕ)) (row : List Value) (i : ℕ) → min (length names) (length row) ≤ i → zip (drop i names) (drop i row) ≡ []
    none_left [] row zero done = refl
    none_left [] row (suc i) done = refl
    none_left (n ∷ names) [] zero done = refl
    none_left (n ∷ names) [] (suc i) done = zip_nil (drop i names)
    none_left (n ∷ names) (v ∷ row) zero done = absurd (omega (arith, done))
    none_left (n ∷ names) (v ∷ row) (suc i) done = none_left names row i (omega (arith, done))

value_printed : (value : Value) (rest : List Token) → print_from false (value_token value ∷ rest) ≡ value_text value ++ print_from true rest
unfolding print_from
value_printed Null rest = refl
value_printed (Int n) rest = refl
value_printed (Text t) rest = refl
value_printed (NoCase t) rest = refl

member_printed : (name : List ℕ) (value : Value) (rest : List Token) → print_from false (key name ∷ value_token value ∷ rest) ≡ member_text (name, value) ++ print_from true rest
unfolding print_from
member_printed name value rest =
    ap (λ l. (quoted name ++ 58 ∷ []) ++ l) (value_printed value rest) ∙ sym (append_assoc (quoted name ++ 58 ∷ []) (value_text value) (print_from true rest))

-- members after others
members_printed : (members : List (List ℕ × Value)) → print_from true (flat_map member_tokens members ++ end_object ∷ []) ≡ flat_map (λ m. codes "," ++ member_text m) members ++ 125 ∷ []
unfolding print_from
members_printed [] = refl
members_printed ((name, value) ∷ members) =
    ap (λ l. 44 ∷ l) (member_printed name value (flat_map member_tokens members ++ end_object ∷ []) ∙ ap (λ l. member_text (name, value) ++ l) (members_printed members)
    ∙ sym (append_assoc (member_text (name, value)) (flat_map (λ m. codes "," ++ member_text m) members) (125 ∷ [])))

pub object_printed : (names : List (List ℕ)) (row : List Value) → print (object_tokens names row) ≡ object_text names row
unfolding print_from
object_printed names row = of (zip names row)
  where
    of : (members : List (List ℕ × Value)) → print (begin_object ∷ flat_map member_tokens members ++ end_object ∷ []) ≡ codes "{" ++ join_by member_text (codes ",") members ++ codes "}"
    of [] = refl
    of ((name, value) ∷ members) =
        let first = member_text (name, value) in
        let more = flat_map (λ m. codes "," ++ member_text m) members in
        ap (λ l. 123 ∷ l) (member_printed name value (flat_map member_tokens members ++ end_object ∷ []) ∙ ap (λ l. first ++ l) (members_printed members) ∙ sym (append_assoc first more (125 ∷ [])))

-- the line of an object, after what came before
pub object_line : (front before line : List ℕ) (tokens : List Token) (names : List (List ℕ)) (row : List Value) → before ≡ front → tokens ≡ begin_object ∷ flat_map member_tokens (zip names row)
    → line ≡ before ++ print (tokens ++ end_object ∷ []) ++ 10 ∷ [] → line ≡ front ++ (object_text names row ++ codes "\n")
object_line front before line tokens names row begun all is =
    is ∙ ap (λ l. l ++ print (tokens ++ end_object ∷ []) ++ 10 ∷ []) begun ∙ ap (λ l. front ++ print (l ++ end_object ∷ []) ++ 10 ∷ []) all
    ∙ append_assoc front (print (object_tokens names row)) (10 ∷ []) ∙ ap (λ l. front ++ (l ++ codes "\n")) (object_printed names row)

-- what is read of an object

printable : (names : List (List ℕ)) (row : List Value) → AllByRecursion IsNumberOf64Bits row → ArePrintable (flat_map member_tokens (zip names row) ++ end_object ∷ [])
unfolding ArePrintable
printable [] row fits = (tt, tt)
printable (name ∷ names) [] fits = (tt, tt)
printable (name ∷ names) (Null ∷ row) fits = (tt, (tt, printable names row fits.1))
printable (name ∷ names) (Int n ∷ row) fits = (tt, (IsNumber-signed_decimal n fits.0, printable names row fits.1))
printable (name ∷ names) (Text t ∷ row) fits = (tt, (tt, printable names row fits.1))
printable (name ∷ names) (NoCase t ∷ row) fits = (tt, (tt, printable names row fits.1))

by_recursion : {X : Type 0} (P : X → Type 0) (xs : List X) → All P xs → AllByRecursion P xs
by_recursion P [] all = tt
by_recursion P (x ∷ xs) all = (all zero x (omega arith), by_recursion P xs (λ k d less. all (suc k) d (omega (arith, less))))

pub object_back : (names : List (List ℕ)) (row : List Value) → All IsNumberOf64Bits row → tokens (object_text names row) ≡ object_tokens names row
unfolding ArePrintable
object_back names row fits = ap tokens (sym (object_printed names row)) ∙ tokens-print (object_tokens names row) (tt, printable names row (by_recursion IsNumberOf64Bits row fits))
