-- The predeclared types of a table, and tests by an answer.
use Rattle.std.proofs.Common.{◌∙◌}
use Rattle.std.specs.Prelude.{◌≡◌, ◌<◌, Bool, true, false, if◌then◌else◌, Result, Ok, Err}
use Rattle.go_type.specs.Tree.{Ty}
use Rattle.go_type.specs.Levels.{tree_of}
use Rattle.go_type.specs.Predeclared.{predeclared}
use Rattle.go_type.specs.Table.{places}
use Rattle.go_type.specs.declared.types.TypeId.{TypeId}
use Rattle.go_type.specs.declared.table.TypeTable.{TypeTable}
use Rattle.go_operands.specs.RulesReady.{HasPredeclared}

-- a predeclared id has the tree that it has in a new table
pub stands_for : (t : TypeTable) (i : TypeId) (u : Ty) → HasPredeclared t → i.0 < 20 → tree_of predeclared i ≡ u → tree_of (places t) i ≡ u
stands_for t i u h below e = h.begins i below ∙ e

-- a choice that is Ok was made for its first part, and else for the second
pub was_first : {A E : Type 0} (b : Bool) (x k : A) (y : E) → Ok k ≡ (if b then Ok x else Err y) → true ≡ b
was_first true x k y h = cc
was_first false x k y h = absurd (cc)

pub was_second : {A E : Type 0} (b : Bool) (x : A) (y e : E) → Err e ≡ (if b then Ok x else Err y) → false ≡ b
was_second true x y e h = absurd (cc)
was_second false x y e h = cc
