-- Own: that a table begins with the predeclared types (go_operands::rules, specs/Ready), by a test of each.
use Rattle.std.specs.Prelude.{◌≡◌, ◌<◌, ◌≤◌, ◌==◌, ◌&&◌, [], Bool, true, false, codes, bytes_eq}
use Rattle.go_type.specs.Same.{int_code, basis_code}
use Rattle.go_type.specs.Tree.{Ty, bool, str, int, nil, untyped, interface, named, no_tys, more_tys, no_specs, more_specs}
use Rattle.go_type.specs.Levels.{tree_of}
use Rattle.go_type.specs.Predeclared.{predeclared}
use Rattle.go_type.specs.Table.{places, size}
use Rattle.go_type.specs.declared.types.TypeId.{TypeId}
use Rattle.go_type.specs.declared.table.TypeTable.{TypeTable}

-- the type of `error`'s method
abbrev pub is_error : Ty → Bool
is_error (interface (more_specs n p no_tys (more_tys str no_tys) false no_specs)) = bytes_eq n (codes "Error") && bytes_eq p []
is_error _ = false

-- a type is this predeclared one
abbrev pub is_like : Ty → Ty → Bool
is_like bool bool = true
is_like str str = true
is_like nil nil = true
is_like (int a) (int b) = int_code a == int_code b
is_like (untyped a) (untyped b) = basis_code a == basis_code b
is_like (named i) (named j) = i == j
is_like (interface ms) t = is_error t
is_like _ _ = false

abbrev pub AllLike : TypeTable → Type 0
AllLike t = (i : TypeId) → i.0 < 20 → is_like (tree_of predeclared i) (tree_of (places t) i) ≡ true

abbrev pub Begins : TypeTable → Type 0
Begins t = AllLike t × (20 ≤ size t)
