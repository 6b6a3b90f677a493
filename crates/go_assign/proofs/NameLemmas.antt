-- A name that declares nothing, and one whose type isn't known.
use Rattle.std.proofs.Common.{arith, ◌≡◌, refl, sym, List, [], ◌++◌, map, Option, Some}
use Rattle.std.proofs.lemmas.List.{append-nil}
use Rattle.gj_base.specs.declared.place.Place.{Place}
use Rattle.go_syntax.specs.declared.tree.Name.{Name}
use Rattle.go_type.specs.Tree.{Ty}
use Rattle.go_core.specs.CoreView.{stmt_view}
use Rattle.go_core.specs.declared.statement.CoreStmt.{CoreStmt}
use Rattle.go_typing.specs.Declare.{declare_one}
use Rattle.go_walk.specs.declared.walk.walk.Walk.{Walk}
use Rattle.go_assign.specs.Moves.{Moves}

pub no_more : (ts : List Ty) (out : List CoreStmt) → map (stmt_view ts) out ≡ map (stmt_view ts) out ++ []
no_more ts out = sym (append-nil (map (stmt_view ts) out))

pub moves_none : (n : Name) (at : Place) (u : Option Ty) (w : Walk) → Moves (declare_one n (Some at) u) w w
moves_none n at u w = record { walk = λ ts l. refl; depth = refl; kept = λ i l. refl; counts = omega arith }
