-- Selections.
use Rattle.std.proofs.Common.{inr, List, [], ◌∷◌}
use Rattle.go_type.specs.Tree.{Ty}
use Rattle.go_type.specs.Named.{NamedTy}
use Rattle.go_type.specs.Members.{Sought}
use Rattle.go_type.specs.Selection.{Selects, SelectsField}
use Rattle.go_type.specs.Levels.{tree_of}
use Rattle.go_type.specs.declared.types.TypeId.{TypeId}
use Rattle.go_type.specs.declared.steps.Step.{Step}
use Rattle.go_type.specs.declared.steps.Step.TheVariants as step
use Rattle.go_type.specs.declared.steps.Selected.TheVariants.{Missing, Method}

-- where a method is selected, no field is
pub field_only : (ns : List NamedTy) (ts : List Ty) (f : Sought) (t : Ty) (path : List Step) (id : TypeId) → Selects ns ts f t (step.Pointer ∷ []) (Method path id) → SelectsField ns ts f t Missing
field_only ns ts f t path id s = inr (s.0, s.1, tree_of ts id, s.2, s.3, s.4, s.5, s.6)
