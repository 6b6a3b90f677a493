-- One more at the end of a list, by what each stands for.
use Rattle.std.proofs.Common.{◌≡◌, ℕ, ◌<◌, ◌∙◌, ap, List, [], ◌∷◌, ◌++◌, map}
use Rattle.std.proofs.lemmas.List.{map-append}
use Rattle.go_type.specs.Tree.{Ty}
use Rattle.go_type.specs.Levels.{tree_of}
use Rattle.go_type.specs.Table.{places, size}
use Rattle.go_type.specs.declared.types.TypeId.{TypeId}
use Rattle.go_type.specs.declared.table.TypeTable.{TypeTable}
use Rattle.go_core.specs.CoreTree as core
use Rattle.go_core.specs.CoreView.{expr_view, exprs_view, exprs_of, stmt_view, target_view, var_of}
use Rattle.go_core.specs.declared.node.CoreExpr.{CoreExpr}
use Rattle.go_core.specs.declared.node.CoreExprs.{CoreExprs}
use Rattle.go_core.specs.declared.node.Var.{Var}
use Rattle.go_core.specs.declared.statement.CoreStmt.{CoreStmt}
use Rattle.go_core.specs.declared.statement.Target as code
use Rattle.go_walk.specs.WalkView.{Keeps}
use Rattle.go_assign.specs.Taken.{StandsFor}

pub stmt_more : (ts : List Ty) (olds news : List CoreStmt) (s : CoreStmt) (c : core.Stmt) → news ≡ olds ++ s ∷ [] → stmt_view ts s ≡ c → map (stmt_view ts) news ≡ map (stmt_view ts) olds ++ c ∷ []
stmt_more ts olds news s c p q =
    ap (map (stmt_view ts)) p ∙ map-append (stmt_view ts) olds (s ∷ []) ∙ ap (λ (x : core.Stmt). map (stmt_view ts) olds ++ x ∷ []) q

pub expr_more : (t : TypeTable) (ts : List Ty) (olds news : List CoreExpr) (e : CoreExpr) (c : core.Expr) → news ≡ olds ++ e ∷ [] → StandsFor t c e → Keeps t ts → map (expr_view ts) news ≡ map (expr_view ts) olds ++ c ∷ []
expr_more t ts olds news e c p h k =
    ap (map (expr_view ts)) p ∙ map-append (expr_view ts) olds (e ∷ []) ∙ ap (λ (x : core.Expr). map (expr_view ts) olds ++ x ∷ []) (h.stands ts k)

pub expr_alone : (t : TypeTable) (ts : List Ty) (olds news : List CoreExpr) (e : CoreExpr) (c : core.Expr) → olds ≡ [] → news ≡ olds ++ e ∷ [] → StandsFor t c e → Keeps t ts → map (expr_view ts) news ≡ c ∷ []
expr_alone t ts olds news e c z p h k = expr_more t ts olds news e c p h k ∙ ap (λ (x : List CoreExpr). map (expr_view ts) x ++ c ∷ []) z

-- left sides with their values
pub store_more : (ts : List Ty) (olds news : List CoreStmt) (s : CoreStmt) (gs : List core.Target) (es : List CoreExpr) (values : CoreExprs) → news ≡ olds ++ s ∷ [] → stmt_view ts s ≡ core.store gs (exprs_view ts values)
    → exprs_view ts values ≡ exprs_of (map (expr_view ts) es) → map (stmt_view ts) news ≡ map (stmt_view ts) olds ++ core.store gs (exprs_of (map (expr_view ts) es)) ∷ []
store_more ts olds news s gs es values p q r = stmt_more ts olds news s (core.store gs (exprs_of (map (expr_view ts) es))) p (q ∙ ap (core.store gs) r)

pub one_more : (ts : List Ty) (olds news : List CoreStmt) (gs : List core.Target) (es : List CoreExpr) (c : core.Expr) → map (stmt_view ts) news ≡ map (stmt_view ts) olds ++ core.store gs (exprs_of (map (expr_view ts) es)) ∷ []
    → map (expr_view ts) es ≡ c ∷ [] → map (stmt_view ts) news ≡ map (stmt_view ts) olds ++ core.store gs (core.expr c core.no_exprs) ∷ []
one_more ts olds news gs es c p q = p ∙ ap (λ (cs : List core.Expr). map (stmt_view ts) olds ++ core.store gs (exprs_of cs) ∷ []) q

abbrev numbered : ℕ → Ty → core.Var
numbered n u = record { id = n; type_ = u }

-- a fresh variable
pub declare_more : (t : TypeTable) (ts : List Ty) (olds news : List CoreStmt) (s : CoreStmt) (v : Var) (n : ℕ) → news ≡ olds ++ s ∷ [] → stmt_view ts s ≡ core.declare (var_of ts v) → v.id.0 ≡ n → v.ty.0 < size t → Keeps t ts
    → map (stmt_view ts) news ≡ map (stmt_view ts) olds ++ core.declare (numbered n (tree_of (places t) v.ty)) ∷ []
declare_more t ts olds news s v n p q i l k =
    stmt_more ts olds news s (core.declare (numbered n (tree_of (places t) v.ty))) p
    (q ∙ ap (λ (m : ℕ). core.declare (numbered m (tree_of ts v.ty))) i ∙ ap (λ (u : Ty). core.declare (numbered n u)) (k v.ty l))

pub local_kept : (t : TypeTable) (ts : List Ty) (g : code.Target) (ty : TypeId) (m n : ℕ) → target_view ts g ≡ core.to_place (tree_of ts ty) (core.local_ m) → m ≡ n → ty.0 < size t → Keeps t ts → target_view ts g ≡ core.to_place (tree_of (places t) ty) (core.local_ n)
local_kept t ts g ty m n q i l k = q ∙ ap (λ (x : ℕ). core.to_place (tree_of ts ty) (core.local_ x)) i ∙ ap (λ (u : Ty). core.to_place u (core.local_ n)) (k ty l)
