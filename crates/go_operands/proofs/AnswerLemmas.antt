-- Facts on what a call answers, from one to another.
use Rattle.std.specs.Prelude.{Result, Ok, Err, IfOk, OnOk, OnErr}

module _ {T E : Type 0} where
  pub if_ok : {P Q : T → Type 0} (r : Result T E) → ((x : T) → P x → Q x) → IfOk r P → IfOk r Q
  if_ok (Ok x) f h = f x h
  if_ok (Err e) f h = tt

  pub on_ok : {P Q : Type 0} (r : Result T E) → (P → Q) → OnOk r P → OnOk r Q
  on_ok (Ok x) f h = f h
  on_ok (Err e) f h = tt

  pub on_err : {P Q : Type 0} (r : Result T E) → (P → Q) → OnErr r P → OnErr r Q
  on_err (Ok x) f h = tt
  on_err (Err e) f h = f h

  -- a fact that both answers give
  pub either : {P Q R : Type 0} (r : Result T E) → OnOk r P → OnErr r Q → (P → R) → (Q → R) → R
  either (Ok x) p q f g = f p
  either (Err e) p q f g = g q
