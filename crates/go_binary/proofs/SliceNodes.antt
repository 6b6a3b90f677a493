-- A part of a string as a node.
use Rattle.std.proofs.Common.{◌≡◌, ◌∙◌, List}
use Rattle.std.specs.Prelude.{Option, Some, None, Result, Ok, Err, IfOk, option_map}
use Rattle.go_type.specs.Tree.{Ty}
use Rattle.go_type.specs.Levels.{tree_of}
use Rattle.go_type.specs.declared.types.TypeId.{TypeId}
use Rattle.go_core.specs.CoreTree as core
use Rattle.go_core.specs.CoreView.{expr_view, expr_form_view, bound_of}
use Rattle.go_core.specs.declared.node.CoreExpr.{CoreExpr}
use Rattle.go_core.specs.declared.node.CoreForm.{CoreForm, fold-roll-CoreForm}
use Rattle.go_core.specs.declared.node.CoreForm.TheVariants as node

pub node_made : {E : Type 0} (r : Result CoreExpr E) (f : CoreForm) (ts : List Ty) (x : core.Expr) → expr_form_view ts f ≡ x
    → IfOk r (λ e. (ts : List Ty) → expr_view ts e ≡ expr_form_view ts f) → IfOk r (λ e. expr_view ts e ≡ x)
node_made (Ok e) f ts x h k = k ts ∙ h
node_made (Err e) f ts x h k = k

pub slice_view : (ts : List Ty) (t : TypeId) (e : CoreExpr) (low high : Option CoreExpr)
    → expr_form_view ts (node.SliceOf t t e low high None)
    ≡ core.slice_of (tree_of ts t) (tree_of ts t) (expr_view ts e) (bound_of (option_map (expr_view ts) low)) (bound_of (option_map (expr_view ts) high)) core.no_bound
slice_view ts t e None None = rw (← node.rolls-SliceOf, fold-roll-CoreForm)
slice_view ts t e None (Some high) = rw (← node.rolls-SliceOf, fold-roll-CoreForm)
slice_view ts t e (Some low) None = rw (← node.rolls-SliceOf, fold-roll-CoreForm)
slice_view ts t e (Some low) (Some high) = rw (← node.rolls-SliceOf, fold-roll-CoreForm)
