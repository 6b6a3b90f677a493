-- Own: outside of constant specifications `iota` stands for nothing in the outermost scope, and a block is open.
use Rattle.std.specs.Prelude.{◌≡◌, List, ◌∷◌, None, codes}
use Rattle.go_typing.specs.Env.{Bind, find}

pub record IsPlain (ss : List (List Bind)) : Type 0 where
  pub outer : List Bind
  pub next : List Bind
  pub others : List (List Bind)
  pub is : ss ≡ outer ∷ next ∷ others
  pub plain : find (codes "iota") outer ≡ None
