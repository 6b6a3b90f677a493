-- What was found stays while the table grows.
use Rattle.std.proofs.Common.{◌≡◌, ◌∙◌, refl, ap, List, [], ◌∷◌, Option, Some, None, map}
use Rattle.std.specs.Prelude.{option_map, IfSome}
use Rattle.go_type.specs.Tree.{Ty, Tys, more_tys}
use Rattle.go_type.specs.Levels.{tree_of, trees_of, IdsBelow}
use Rattle.go_type.specs.Table.{places, size}
use Rattle.go_type.specs.declared.types.TypeId.{TypeId}
use Rattle.go_type.specs.declared.table.TypeTable.{TypeTable}
use Rattle.go_operands.specs.declared.scopes.env.Env.{Env}
use Rattle.go_operands.specs.EnvView.{table_of}
use Rattle.go_typing.specs.Signature as go
use Rattle.go_decls.specs.Bound.{type_view, TypesBelow}
use Rattle.go_decls.specs.SigView.{sig_found, SigFoundBelow}
use Rattle.go_decls.specs.declared.signatures.signature.SigTypes.{SigTypes}
use Rattle.go_expr.specs.Raw.{Grows}
use Rattle.go_walk.specs.WalkView.{Keeps}
use Rattle.go_assign.proofs.GrowLemmas.{below_more, ids_below}

-- a list that keeps the later table keeps the earlier one
pub keeps_before : (a b : Env) (ts : List Ty) → Grows a b → Keeps (table_of b) ts → Keeps (table_of a) ts
keeps_before a b ts g k = λ i l. k i (below_more a b g i l) ∙ g.kept i l

module _ (t : TypeTable) (ts : List Ty) where
  pub ids_kept : (is : List TypeId) → Keeps t ts → IdsBelow (size t) is → trees_of ts is ≡ trees_of (places t) is
  ids_kept [] k l = refl
  ids_kept (i ∷ is) k l = ap (λ (u : Ty). more_tys u (trees_of ts is)) (k i l.0) ∙ ap (more_tys (tree_of (places t) i)) (ids_kept is k l.1)

  pub types_kept : (us : List (Option TypeId)) → Keeps t ts → TypesBelow (size t) us → map (type_view ts) us ≡ map (type_view (places t)) us
  types_kept [] k l = refl
  types_kept (None ∷ us) k l = ap (λ (vs : List (Option Ty)). None ∷ vs) (types_kept us k l.1)
  types_kept (Some i ∷ us) k l = ap (λ (u : Ty). Some u ∷ map (type_view ts) us) (k i l.0) ∙ ap (λ (vs : List (Option Ty)). Some (tree_of (places t) i) ∷ vs) (types_kept us k l.1)

  abbrev both_types : Tys → Tys → go.SigTypes
  both_types ps rs = record { params = ps; results = rs }

  pub sig_kept : (o : Option SigTypes) → Keeps t ts → IfSome o (SigFoundBelow (size t)) → option_map (sig_found ts) o ≡ option_map (sig_found (places t)) o
  sig_kept None k l = refl
  sig_kept (Some s) k l =
      ap (λ (us : Tys). Some (both_types us (trees_of ts s.results.items))) (ids_kept s.params.items k l.0) ∙ ap (λ (us : Tys). Some (both_types (trees_of (places t) s.params.items) us)) (ids_kept s.results.items k l.1)

-- ---- what is in the table stays in it

pub types_below : (a b : Env) (us : List (Option TypeId)) → Grows a b → TypesBelow (size (table_of a)) us → TypesBelow (size (table_of b)) us
types_below a b [] g l = tt
types_below a b (None ∷ us) g l = (tt, types_below a b us g l.1)
types_below a b (Some i ∷ us) g l = (below_more a b g i l.0, types_below a b us g l.1)

pub sig_below : (a b : Env) (o : Option SigTypes) → Grows a b → IfSome o (SigFoundBelow (size (table_of a))) → IfSome o (SigFoundBelow (size (table_of b)))
sig_below a b None g l = tt
sig_below a b (Some s) g l = (ids_below a b s.params.items g l.0, ids_below a b s.results.items g l.1)
