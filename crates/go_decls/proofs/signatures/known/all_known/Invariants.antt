use Rattle.std.proofs.Common.{◌≡◌, ◌++◌, ℕ, List, drop, map}
use Rattle.std.specs.Prelude.{Some, None}
use Rattle.go_type.specs.Levels.{trees_of, IdsBelow}
use Rattle.go_type.specs.Tree.{Ty}
use Rattle.go_type.specs.declared.types.TypeId.{TypeId}
use Rattle.go_decls.specs.Bound.{type_view, TypesBelow}
use Rattle.go_decls.specs.SigView.{all_of}
use Rattle.go_decls.proofs.signatures.known.all_known.Given as goal

abbrev pub invariant-loop-ty : goal.invariant-loop-ty
invariant-loop-ty l = record {
  some : (ts : List Ty) (us : List TypeId) → all_of (map (type_view ts) (drop l.ty-index l.types)) ≡ Some (trees_of ts us) → all_of (map (type_view ts) l.types) ≡ Some (trees_of ts (l.ids.items ++ us));
  none : (ts : List Ty) → all_of (map (type_view ts) (drop l.ty-index l.types)) ≡ None → all_of (map (type_view ts) l.types) ≡ None;
  within : (n : ℕ) → TypesBelow n l.types → IdsBelow n l.ids.items;
}
