-- The function that is made where a body ends.
use Rattle.std.proofs.Common.{◌≡◌, ◌∙◌, ℕ, refl, ap, List, [], ◌∷◌, length, Bool}
use Rattle.gj_base.specs.declared.place.Place.{Place}
use Rattle.go_type.specs.Tree.{Tys}
use Rattle.go_core.specs.CoreTree as core
use Rattle.go_core.specs.CoreTree.{CoreFunc, Var}
use Rattle.go_core.specs.CoreView.{stmts_of}
use Rattle.go_operands.specs.EnvView.{env_of}
use Rattle.go_operands.specs.declared.scopes.env.Env.{Env}
use Rattle.go_typing.specs.Walk.{body}
use Rattle.go_walk.specs.WalkView.{depth}
use Rattle.go_walk.specs.declared.walk.walk.Walk.{Walk}

pub body_is : (ss : List core.Stmt) → stmts_of ss ≡ body ss
body_is [] = refl
body_is (s ∷ ss) = ap (core.stmt s) (body_is ss)

abbrev made : Place → List ℕ → Tys → Tys → Bool → List Var → List ℕ → core.Stmts → CoreFunc
made at x ps rs v vars is b = record { name = x; params = ps; results = rs; variadic = v; vars = vars; captured = is; body = b; place = at }

pub func_same : (at : Place) (x : List ℕ) (ps qs rs ss : Tys) (v u : Bool) (vars vals : List Var) (is js : List ℕ) (b c : core.Stmts) → ps ≡ qs → rs ≡ ss → v ≡ u → vars ≡ vals → is ≡ js → b ≡ c → made at x ps rs v vars is b ≡ made at x qs ss u vals js c
func_same at x ps qs rs ss v u vars vals is js b c ep er ev ex ei eb =
    ap (λ (z : Tys). made at x z rs v vars is b) ep ∙ ap (λ (z : Tys). made at x qs z v vars is b) er ∙ ap (λ (z : Bool). made at x qs ss z vars is b) ev
    ∙ ap (λ (z : List Var). made at x qs ss u z is b) ex ∙ ap (λ (z : List ℕ). made at x qs ss u vals z b) ei ∙ ap (λ (z : core.Stmts). made at x qs ss u vals js z) eb

pub depth_same : (v u : Walk) → v.env ≡ u.env → depth v ≡ depth u
depth_same v u e = ap (λ (x : Env). length (env_of x).blocks) e
