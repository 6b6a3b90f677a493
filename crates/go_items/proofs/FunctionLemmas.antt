-- Functions that the compiler makes.
use Rattle.std.proofs.Common.{◌≡◌, ◌∙◌, ℕ, ap, List, [], ◌∷◌, ◌++◌, append_assoc, map, false}
use Rattle.std.proofs.lemmas.List.{map-append}
use Rattle.gj_base.specs.declared.place.Place.{Place}
use Rattle.go_type.specs.Levels.{trees_of}
use Rattle.go_type.specs.Tree.{Ty, Tys, no_tys}
use Rattle.go_type.specs.declared.types.TypeId.{TypeId}
use Rattle.go_core.specs.CoreTree as core
use Rattle.go_core.specs.CoreTree.{CoreFunc, Var}
use Rattle.go_core.specs.CoreView.{func_view, id_of, exprs_of, expr_view}
use Rattle.go_core.specs.declared.node.VarId.{VarId}
use Rattle.go_core.specs.declared.node.CoreExpr.{CoreExpr}
use Rattle.go_core.specs.declared.program.Func.{Func}

abbrev whole : Place → List ℕ → Tys → Tys → List Var → List ℕ → core.Stmts → CoreFunc
whole at x ps rs vars is b = record { name = x; params = ps; results = rs; variadic = false; vars = vars; captured = is; body = b; place = at }

-- without a name, parameters and captured variables
pub made_same : (ts : List Ty) (at : Place) (x : List ℕ) (ps : List TypeId) (rs ss : List TypeId) (vars : List Var) (is : List VarId) (b c : core.Stmts) → x ≡ [] → ps ≡ [] → rs ≡ ss → is ≡ [] → b ≡ c
    → whole at x (trees_of ts ps) (trees_of ts rs) vars (map id_of is) b ≡ whole at [] no_tys (trees_of ts ss) vars [] c
made_same ts at x ps rs ss vars is b c ex ep er ei eb =
    ap (λ (z : List ℕ). whole at z (trees_of ts ps) (trees_of ts rs) vars (map id_of is) b) ex ∙ ap (λ (z : List TypeId). whole at [] (trees_of ts z) (trees_of ts rs) vars (map id_of is) b) ep
    ∙ ap (λ (z : List TypeId). whole at [] no_tys (trees_of ts z) vars (map id_of is) b) er ∙ ap (λ (z : List VarId). whole at [] no_tys (trees_of ts ss) vars (map id_of z) b) ei
    ∙ ap (λ (z : core.Stmts). whole at [] no_tys (trees_of ts ss) vars [] z) eb

-- two functions more
pub two_more : (ts : List Ty) (olds mids news : List Func) (f g : Func) (x y : CoreFunc) → mids ≡ olds ++ f ∷ [] → news ≡ mids ++ g ∷ [] → func_view ts f ≡ x → func_view ts g ≡ y
    → map (func_view ts) news ≡ map (func_view ts) olds ++ x ∷ y ∷ []
two_more ts olds mids news f g x y h k e d =
    ap (map (func_view ts)) (k ∙ ap (λ (fs : List Func). fs ++ g ∷ []) h ∙ append_assoc olds (f ∷ []) (g ∷ [])) ∙ map-append (func_view ts) olds (f ∷ g ∷ [])
    ∙ ap (λ (z : CoreFunc). map (func_view ts) olds ++ z ∷ func_view ts g ∷ []) e ∙ ap (λ (z : CoreFunc). map (func_view ts) olds ++ x ∷ z ∷ []) d

-- a value alone
pub one_value : (ts : List Ty) (all : List CoreExpr) (e : CoreExpr) (es : core.Exprs) (s : core.Stmt) → all ≡ e ∷ [] → es ≡ exprs_of (map (expr_view ts) all) → s ≡ core.return_ es → s ≡ core.return_ (core.expr (expr_view ts e) core.no_exprs)
one_value ts all e es s h k q = q ∙ ap core.return_ (k ∙ ap (λ (xs : List CoreExpr). exprs_of (map (expr_view ts) xs)) h)
