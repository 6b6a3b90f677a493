-- Go specification (as of Go 1.17), "Expressions", "Declarations and scope": a node is typed, or a fault is told of it, where each name
-- in scope is typed.
use Rattle.std.specs.Prelude.{◌≡◌, ◌⊎◌, ℕ, List, true, Some}
use Rattle.go_syntax.specs.Tree.{Expr}
use Rattle.go_type.specs.Named.{NamedTy}
use Rattle.go_typing.specs.Env.{unknown, Bind, lookup}
use Rattle.go_typing.specs.Answer.{Flaw, is_known}
use Rattle.go_typing.specs.Typing.{typing, flaws}
use Rattle.go_typing.specs.Faulty.{IsIn}

abbrev pub NothingUnknown : List (List Bind) → Type 0
NothingUnknown ss = (x : List ℕ) → lookup x ss ≡ Some unknown → ⊥

abbrev pub NothingIsLost : Type 0
NothingIsLost = (ns : List NamedTy) (ss : List (List Bind)) → NothingUnknown ss → (e : Expr)
    → (is_known (typing ns ss e) ≡ true) ⊎ (f : Flaw) × IsIn f (flaws ns ss e)
