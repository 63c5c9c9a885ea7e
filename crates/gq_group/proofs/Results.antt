-- What holds of results, from other things that hold of them.
use Rattle.std.proofs.Common.{◌≡◌, ◌++◌, cond, List, Result, Ok, Err, subst, sym}
use Rattle.std.proofs.lemmas.Bool.{false≢true, true≢false}
use Rattle.std.specs.Prelude.{IfOk, IfErr, OnOk, OnErr, IsOk, is_ok, IsErr, IsErrAnd}

pub if_ok_on : {T E : Type 0} (P Q : T → Type 0) (R : Type 0) (r : Result T E) → OnOk r R → ((x : T) → R → P x → Q x) → IfOk r P → IfOk r Q
if_ok_on P Q R (Ok x) on f h = f x on h
if_ok_on P Q R (Err e) on f h = tt

pub if_err : {T E : Type 0} (P Q : E → Type 0) (r : Result T E) → ((e : E) → P e → Q e) → IfErr r P → IfErr r Q
if_err P Q (Ok x) f h = tt
if_err P Q (Err e) f h = f e h

pub on_ok_from : {T E : Type 0} (P : T → Type 0) (Q R : Type 0) (r : Result T E) → OnOk r R → ((x : T) → R → P x → Q) → IfOk r P → OnOk r Q
on_ok_from P Q R (Ok x) on f h = f x on h
on_ok_from P Q R (Err e) on f h = tt

-- where a list was to be appended, and was
pub appended : {T E X : Type 0} (r : Result T E) (new old other : List X) → IsOk r → new ≡ cond (is_ok r) (old ++ other) old → new ≡ old ++ other
appended (Ok x) new old other ok e = e
appended (Err e) new old other ok h = absurd (false≢true ok)

pub if_ok_at : {T E : Type 0} (P : T → Type 0) (r : Result T E) (x : T) → r ≡ Ok x → IfOk r P → P x
if_ok_at P r x e h = subst (λ q. IfOk q P) e h

pub on_ok_at : {T E : Type 0} (P : Type 0) (r : Result T E) (x : T) → r ≡ Ok x → OnOk r P → P
on_ok_at P r x e h = subst (λ q. OnOk q P) e h

pub if_err_at : {T E : Type 0} (P : E → Type 0) (r : Result T E) (e : E) → r ≡ Err e → IfErr r P → P e
if_err_at P r e is h = subst (λ q. IfErr q P) is h

pub on_err : {T E : Type 0} (P Q : Type 0) (r : Result T E) → (P → Q) → OnErr r P → OnErr r Q
on_err P Q (Ok x) f h = tt
on_err P Q (Err e) f h = f h

-- ---- what the exit path of a `?` returns

pub on_ok_err : {T E : Type 0} (P : Type 0) (r : Result T E) → IsErr r → OnOk r P
on_ok_err P (Ok x) is = absurd (true≢false (sym is))
on_ok_err P (Err e) is = tt

pub if_err_is : {T E : Type 0} (P : E → Type 0) (r : Result T E) (e : E) → IsErrAnd r (λ y. y ≡ e) → P e → IfErr r P
if_err_is P (Ok x) e is h = absurd is
if_err_is P (Err y) e is h = subst P (sym is) h

pub on_err_so : {T E : Type 0} (P : Type 0) (r : Result T E) → P → OnErr r P
on_err_so P (Ok x) h = tt
on_err_so P (Err e) h = h
