-- Facts on what a call answers, from one to another.
use Rattle.std.specs.Prelude.{Result, Ok, Err, IfOk, OnOk}

module _ {T E : Type 0} where
  pub if_ok : {P Q : T → Type 0} (r : Result T E) → ((x : T) → P x → Q x) → IfOk r P → IfOk r Q
  if_ok (Ok x) f h = f x h
  if_ok (Err e) f h = tt

  pub on_ok : {P Q : Type 0} (r : Result T E) → (P → Q) → OnOk r P → OnOk r Q
  on_ok (Ok x) f h = f h
  on_ok (Err e) f h = tt

  pub any_ok : {P : Type 0} (r : Result T E) → P → OnOk r P
  any_ok (Ok x) h = h
  any_ok (Err e) h = tt
