-- Sameness of values is an equivalence, and so is equality, as `==` on them requires.
use Rattle.std.specs.Prelude.{◌≡◌, true, refl}
use Rattle.std.specs.Cmp.{IsEquivalence, on_equiv}
use Rattle.std.proofs.lemmas.Bool.{false≢true}
use Rattle.std.proofs.lemmas.Cmp.{int_eq_equiv, nat_list_eq_equiv}
use Rattle.gq_row.specs.declared.value.Value.{Value}
use Rattle.gq_row.specs.declared.value.Value.TheVariants.{Null, Int, Text, NoCase}
use Rattle.gq_row.specs.Folding.{folded}
use Rattle.gq_row.specs.Order.{equal_value, same_value}

itself : (x : Value) → equal_value x x ≡ true
itself Null = refl
itself (Int a) = (int_eq_equiv).refl a
itself (Text a) = (nat_list_eq_equiv).refl a
itself (NoCase a) = (nat_list_eq_equiv).refl a

either_way : (x y : Value) → equal_value x y ≡ equal_value y x
either_way Null Null = refl
either_way Null (Int b) = refl
either_way Null (Text b) = refl
either_way Null (NoCase b) = refl
either_way (Int a) Null = refl
either_way (Int a) (Int b) = (int_eq_equiv).symm a b
either_way (Int a) (Text b) = refl
either_way (Int a) (NoCase b) = refl
either_way (Text a) Null = refl
either_way (Text a) (Int b) = refl
either_way (Text a) (Text b) = (nat_list_eq_equiv).symm a b
either_way (Text a) (NoCase b) = refl
either_way (NoCase a) Null = refl
either_way (NoCase a) (Int b) = refl
either_way (NoCase a) (Text b) = refl
either_way (NoCase a) (NoCase b) = (nat_list_eq_equiv).symm a b

alike : (x y z : Value) → equal_value x y ≡ true → equal_value x z ≡ equal_value y z
alike Null Null z h = refl
alike (Int a) (Int b) Null h = refl
alike (Int a) (Int b) (Int c) h = (int_eq_equiv).congr a b c h
alike (Int a) (Int b) (Text c) h = refl
alike (Int a) (Int b) (NoCase c) h = refl
alike (Text a) (Text b) Null h = refl
alike (Text a) (Text b) (Int c) h = refl
alike (Text a) (Text b) (Text c) h = (nat_list_eq_equiv).congr a b c h
alike (Text a) (Text b) (NoCase c) h = refl
alike (NoCase a) (NoCase b) Null h = refl
alike (NoCase a) (NoCase b) (Int c) h = refl
alike (NoCase a) (NoCase b) (Text c) h = refl
alike (NoCase a) (NoCase b) (NoCase c) h = (nat_list_eq_equiv).congr a b c h
alike _ _ z h = absurd (false≢true h)

pub equal_value_equiv : IsEquivalence equal_value
equal_value_equiv = record { refl = itself; symm = either_way; congr = alike }

pub same_value_equiv : IsEquivalence same_value
same_value_equiv = on_equiv folded equal_value_equiv
