-- A key's class determines its values, and its bytes are those of the values.
use Rattle.std.proofs.Common.{◌≡◌, ◌↔◌, ◌&&◌, ℕ, suc, Bool, true, false, List, [], ◌∷◌, ◌++◌, map, length, fold, refl, sym, ap, ◌∙◌, IsTrue}
use Rattle.std.specs.Prelude.{pos, negsuc}
use Rattle.std.proofs.lemmas.Bool.Decides.{same_from_decides}
use Rattle.gq_row.specs.declared.value.Value.{Value}
use Rattle.gq_row.specs.declared.value.Value.TheVariants.{Null, Int, Text, NoCase}
use Rattle.gq_row.specs.Folding.{folded}
use Rattle.gq_row.specs.Order.{equal_value, same_key}
use Rattle.gq_row.specs.Rows.{cell, key_of}
use Rattle.gq_row.specs.Classes.{class_of, raised, Decoded, decode, spelled, bytes_of, worded, words_of_class}
use Rattle.gq_row.proofs.OrderLemmas.{same_key_exact, same_key_itself}

abbrev whole : List Value → Decoded
whole values = record { parts = []; values = values }

-- parts before a code come first among its parts
decode_parts : (parts code : List ℕ) (values : List Value) → decode code ≡ whole values → decode (map raised parts ++ code) ≡ record { parts = parts; values = values }
decode_parts [] code values h = h
decode_parts (n ∷ parts) code values h = ap (λ (d : Decoded). record { parts = n ∷ d.parts; values = d.values }) (decode_parts parts code values h)

pub decode_class : (values : List Value) → decode (class_of values) ≡ whole values
unfolding class_of
decode_class [] = refl
decode_class (Null ∷ values) = ap (λ (d : Decoded). whole (Null ∷ d.values)) (decode_class values)
decode_class (Int (pos n) ∷ values) = ap (λ (d : Decoded). whole (Int (pos n) ∷ d.values)) (decode_class values)
decode_class (Int (negsuc n) ∷ values) = ap (λ (d : Decoded). whole (Int (negsuc n) ∷ d.values)) (decode_class values)
decode_class (Text t ∷ values) = ap (λ (d : Decoded). whole (Text d.parts ∷ d.values)) (decode_parts t (class_of values) values (decode_class values))
decode_class (NoCase t ∷ values) = ap (λ (d : Decoded). whole (NoCase d.parts ∷ d.values)) (decode_parts t (class_of values) values (decode_class values))

pub class_tells : (a b : List Value) → class_of a ≡ class_of b → a ≡ b
class_tells a b e = ap (λ (d : Decoded). d.values) (sym (decode_class a) ∙ ap decode e ∙ decode_class b)

pub same_class : (a b : List Value) → IsTrue (same_key a b) ↔ (class_of a ≡ class_of b)
same_class a b = (λ h. ap class_of (same_key_exact a b h), λ e. ap (same_key a) (sym (class_tells a b e)) ∙ same_key_itself a)

pub bytes_of_class : (values : List Value) → bytes_of (class_of values) ≡ spelled values
unfolding bytes_of
bytes_of_class values = ap (λ (d : Decoded). spelled d.values) (decode_class values)

-- what a test of sameness says of the classes
pub told_same : (b : Bool) (x y : List Value) → b ≡ same_key x y → IsTrue b ↔ (class_of x ≡ class_of y)
told_same b x y e = (λ h. (same_class x y).0 (sym e ∙ h), λ h. e ∙ (same_class x y).1 h)

-- what a test of classes says of sameness
pub told_class : (b : Bool) (x y : List Value) → IsTrue b ↔ (class_of x ≡ class_of y) → b ≡ same_key x y
told_class b x y h = same_from_decides b (same_key x y) (h.0, h.1) ((same_class x y).0, (same_class x y).1)

pub folded_class : (f : ℕ → ℕ → ℕ) (start acc : ℕ) (values : List Value) → acc ≡ fold f start (spelled values) → acc ≡ fold f start (bytes_of (class_of values))
folded_class f start acc values e = e ∙ ap (fold f start) (sym (bytes_of_class values))

pub words_of_values : (values : List Value) → words_of_class (class_of values) ≡ worded values
unfolding words_of_class
words_of_values values = ap (λ (d : Decoded). worded d.values) (decode_class values)

pub worded_class : (f : ℕ → ℕ → ℕ) (start acc : ℕ) (values : List Value) → acc ≡ fold f start (worded values) → acc ≡ fold f start (words_of_class (class_of values))
worded_class f start acc values e = e ∙ ap (fold f start) (sym (words_of_values values))

-- lists of two lengths are no one key
and_false : (a b : Bool) → false ≡ b → false ≡ (a && b)
and_false true b e = e
and_false false b e = refl

pub unequal_key : (columns : List ℕ) (row key : List Value) → (length columns ≡ length key → ⊥) → false ≡ same_key (key_of columns row) key
unequal_key [] row [] h = absurd (h refl)
unequal_key [] row (v ∷ vs) h = refl
unequal_key (c ∷ cs) row [] h = refl
unequal_key (c ∷ cs) row (v ∷ vs) h = and_false (equal_value (folded (cell row c)) v) (same_key (key_of cs row) vs) (unequal_key cs row vs (λ e. h (ap (λ n. suc n) e)))

pub unequal_folds : (cells key : List Value) → (length cells ≡ length key → ⊥) → false ≡ same_key (map folded cells) key
unequal_folds [] [] h = absurd (h refl)
unequal_folds [] (v ∷ vs) h = refl
unequal_folds (c ∷ cs) [] h = refl
unequal_folds (c ∷ cs) (v ∷ vs) h = and_false (equal_value (folded c) v) (same_key (map folded cs) vs) (unequal_folds cs vs (λ e. h (ap (λ n. suc n) e)))
