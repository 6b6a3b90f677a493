-- What is typed stays so as more declarations are typed.
use Rattle.std.specs.Prelude.{◌≡◌, ◌⊎◌, ℕ, List, Some}
use Rattle.go_syntax.specs.Tree.{Expr}
use Rattle.go_type.specs.Named.{NamedTy}
use Rattle.go_typing.specs.Env.{unknown, Bind, lookup}
use Rattle.go_typing.specs.Answer.{Answer, untyped_part}
use Rattle.go_typing.specs.Typing.{typing}

-- each name of the one scope has a declaration that isn't typed, or stands for the same in the other
abbrev pub LessKnown : List (List Bind) → List (List Bind) → Type 0
LessKnown ss rs = (x : List ℕ) → (lookup x ss ≡ Some unknown) ⊎ (lookup x ss ≡ lookup x rs)

-- the one answer is missing, or it is the other
abbrev pub Less : Answer → Answer → Type 0
Less a b = (a ≡ untyped_part) ⊎ (a ≡ b)

abbrev pub StaysTyped : Type 0
StaysTyped = (ns : List NamedTy) (ss rs : List (List Bind)) → LessKnown ss rs → (e : Expr) → Less (typing ns ss e) (typing ns rs e)
