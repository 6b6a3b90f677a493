-- The rows of calls, by what a call is given.
use Rattle.std.proofs.Common.{◌≡◌, refl, ap, ◌∙◌, ℕ, List}
use Rattle.std.specs.Prelude.{Bool, true, false, Option, Some, None, if◌then◌else◌}
use Rattle.gj_base.specs.declared.place.Place.{Place}
use Rattle.go_type.specs.Tree.{Tys}
use Rattle.go_type.specs.Named.{NamedTy}
use Rattle.go_typing.specs.Env.{Builtin, Len, Print, Println}
use Rattle.go_typing.specs.Answer.{Answer, bad, Part, all_known, where_known}
use Rattle.go_typing.specs.Call.{Given, given, spread_given, function_given, function_row, is_built, built_in_call, built_in_row}
use Rattle.go_calls.specs.GivenView.{given_or_not, on_given}
use Rattle.go_calls.specs.CallAs.{function_as, built_in_as}
use Rattle.go_calls.specs.BuiltView.{built_view}
use Rattle.go_calls.specs.declared.calls.builtin.Built.{Built}
use Rattle.go_calls.specs.declared.calls.builtin.Built.TheVariants as code
use Rattle.go_calls.specs.declared.calls.printing.Printer.TheVariants as printers

where_one : (b : Bool) (g : Given) (f : Given → Answer) → where_known b (f g) ≡ on_given (if b then Some g else None) f
where_one true g f = refl
where_one false g f = refl

where_given : (xs : List Part) (f : Given → Answer) → where_known (all_known xs) (f (given xs)) ≡ on_given (given_or_not xs) f
where_given xs f = where_one (all_known xs) (given xs) f

pub function_handed : (ns : List NamedTy) (at : Place) (id : ℕ) (ps rs : Tys) (spread : Bool) (xs : List Part) → function_row ns at id ps rs false spread xs ≡ on_given (given_or_not xs) (function_as ns at id ps rs spread)
function_handed ns at id ps rs true xs = where_given xs (function_as ns at id ps rs true)
function_handed ns at id ps rs false xs = where_given xs (function_as ns at id ps rs false)

pub function_spread : (ns : List NamedTy) (at : Place) (id : ℕ) (ps rs : Tys) (spread : Bool) (g : Option Given) → spread ≡ true → on_given g (function_as ns at id ps rs spread) ≡ on_given g (spread_given ns at)
function_spread ns at id ps rs spread None h = refl
function_spread ns at id ps rs spread (Some g) h = ap (λ s. function_as ns at id ps rs s g) h

pub function_plain : (ns : List NamedTy) (at : Place) (id : ℕ) (ps rs : Tys) (spread : Bool) (g : Option Given) → spread ≡ false → on_given g (function_as ns at id ps rs spread) ≡ on_given g (function_given ns at id ps rs)
function_plain ns at id ps rs spread None h = refl
function_plain ns at id ps rs spread (Some g) h = ap (λ s. function_as ns at id ps rs s g) h

built_row : (ns : List NamedTy) (at : Place) (b : Builtin) (spread : Bool) (xs : List Part) → is_built b ≡ true → built_in_row ns at b spread xs ≡ on_given (given_or_not xs) (built_in_as ns at b spread)
built_row ns at b spread xs h = ap (λ k. if k then where_known (all_known xs) (built_in_as ns at b spread (given xs)) else bad at 0) h ∙ where_given xs (built_in_as ns at b spread)

pub built_handed : (ns : List NamedTy) (at : Place) (b : Built) (spread : Bool) (xs : List Part) → built_in_row ns at (built_view b) spread xs ≡ on_given (given_or_not xs) (built_in_as ns at (built_view b) spread)
built_handed ns at code.Len spread xs = built_row ns at Len spread xs refl
built_handed ns at (code.Prints printers.Print) spread xs = built_row ns at Print spread xs refl
built_handed ns at (code.Prints printers.Println) spread xs = built_row ns at Println spread xs refl

pub built_spread : (ns : List NamedTy) (at : Place) (b : Builtin) (spread : Bool) (g : Option Given) → spread ≡ true → on_given g (built_in_as ns at b spread) ≡ on_given g (spread_given ns at)
built_spread ns at b spread None h = refl
built_spread ns at b spread (Some g) h = ap (λ s. built_in_as ns at b s g) h

pub built_plain : (ns : List NamedTy) (at : Place) (b : Builtin) (spread : Bool) (g : Option Given) → spread ≡ false → on_given g (built_in_as ns at b spread) ≡ on_given g (built_in_call ns at b)
built_plain ns at b spread None h = refl
built_plain ns at b spread (Some g) h = ap (λ s. built_in_as ns at b s g) h
