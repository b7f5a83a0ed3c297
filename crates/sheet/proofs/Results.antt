-- What follows where two results are one.
use Rattle.std.specs.Prelude.{Result, Ok, Err}
use mathlib.Core.Path.{◌≡◌, refl}
use Rattle.std.proofs.lemmas.Result.{IfOk-at_ok, IfErr-at_err}

module _ {A E : Type 0} where
  pub ok_is : {x y : A} → ◌≡◌ {A = Result A E} (Ok x) (Ok y) → x ≡ y
  ok_is {x} e = IfOk-at_ok (λ v. x ≡ v) e refl

  pub err_is : {x y : E} → ◌≡◌ {A = Result A E} (Err x) (Err y) → x ≡ y
  err_is {x} e = IfErr-at_err (λ v. x ≡ v) e refl

  pub err_not_ok : {B : Type 0} {x : A} {y : E} → ◌≡◌ {A = Result A E} (Err y) (Ok x) → B
  err_not_ok {B} e = IfOk-at_ok (λ _. B) e tt
