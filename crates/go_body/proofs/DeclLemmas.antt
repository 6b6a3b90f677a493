-- Specifications of types one by one, and declarations by their forms.
use Rattle.std.proofs.Common.{rules, ◌≡◌, ◌<◌, ◌≤◌, ◌+◌, ◌∙◌, ℕ, sym, ap, subst, List, [], ◌∷◌, map, length, drop, get_or}
use Rattle.go_syntax.specs.Tree as t
use Rattle.std.specs.Prelude.{Vec, Option, Some, None}
use Rattle.std.specs.declared.alloc.Global.{Global}
use Rattle.go_syntax.specs.View.{expr_view, decl_view, decl_form_view, type_spec_view, value_spec_view, params_view, sig_view, block_view, joined}
use Rattle.go_syntax.specs.declared.tree.Decl.{Decl, fold_out-Decl}
use Rattle.go_syntax.specs.declared.tree.DeclForm.{DeclForm, fold-roll-DeclForm}
use Rattle.go_syntax.specs.declared.tree.DeclForm.TheVariants as form
use Rattle.go_syntax.specs.declared.tree.Name.{Name}
use Rattle.go_syntax.specs.declared.tree.Params.{Params}
use Rattle.go_syntax.specs.declared.tree.Sig.{Sig}
use Rattle.go_syntax.specs.declared.tree.Block.{Block}
use Rattle.go_syntax.specs.declared.tree.ValueSpec.{ValueSpec}
use Rattle.go_syntax.specs.declared.tree.TypeSpec.{TypeSpec, out-TypeSpec, fold_out-TypeSpec}
use Rattle.go_core.specs.declared.statement.CoreStmt.{CoreStmt}
use Rattle.go_typing.specs.Answer.{flaw}
use Rattle.go_operands.specs.declared.answers.answer.Flaw.{Flaw}
use Rattle.go_typing.specs.Walk as go
use Rattle.go_typing.specs.Walk.{Did, did, faulty, is_there}
use Rattle.go_typing.specs.Declare.{type_spec, type_specs, const_specs, var_specs, decl}
use Rattle.go_walk.specs.declared.walk.walk.Walk.{Walk}
use Rattle.go_assign.specs.Outcome.{Does}
use Rattle.go_body.specs.LocalVarsLeft.{DoesLeft}
use Rattle.go_body.proofs.LeftLemmas.{next_at, past, left_step, left_as, left_end}

abbrev rest_of : List TypeSpec → t.TypeSpecs
rest_of vs = joined (map type_spec_view vs) t.NoTypes

whole : (v : TypeSpec) (rest : t.TypeSpecs) → type_spec_view v rest ≡ t.MoreTypes (out-TypeSpec v).name (out-TypeSpec v).alias (expr_view (out-TypeSpec v).ty) rest
whole v rest = search (rules, fold_out-TypeSpec)

abbrev one_of : TypeSpec → go.Walk → Did
one_of v w = type_spec (out-TypeSpec v).name (out-TypeSpec v).alias (expr_view (out-TypeSpec v).ty) (is_there (out-TypeSpec v).name w) w

pub specs_step : (vs : List TypeSpec) (i : ℕ) (v : TypeSpec) (a b c : Walk) (f0 f1 f2 : List Flaw) (out : List CoreStmt) → i < length vs → v ≡ get_or vs i v
    → DoesLeft (type_specs (joined (map type_spec_view vs) t.NoTypes)) (type_specs (joined (map type_spec_view (drop i vs)) t.NoTypes)) a b f0 f1 out out
    → Does (λ w. type_spec (out-TypeSpec v).name (out-TypeSpec v).alias (expr_view (out-TypeSpec v).ty) (is_there (out-TypeSpec v).name w) w) b c f1 f2 out out
    → DoesLeft (type_specs (joined (map type_spec_view vs) t.NoTypes)) (type_specs (joined (map type_spec_view (drop (i + 1) vs)) t.NoTypes)) a c f0 f2 out out
specs_step vs i v a b c f0 f1 f2 out l q h k =
    let all = type_specs (rest_of vs) in
    let rest = rest_of (drop (i + 1) vs) in
    let one = t.MoreTypes (out-TypeSpec v).name (out-TypeSpec v).alias (expr_view (out-TypeSpec v).ty) rest in
    let split : rest_of (drop i vs) ≡ one = ap rest_of (next_at vs i v l q) ∙ whole v rest in
    left_step all (one_of v) (type_specs rest) a b c f0 f1 f2 out out out (left_as all (type_specs (rest_of (drop i vs))) (type_specs one) a b f0 f1 out out (ap type_specs split) h) k

pub specs_end : (vs : List TypeSpec) (i : ℕ) (a b : Walk) (f0 f1 : List Flaw) (out : List CoreStmt) → length vs ≤ i → DoesLeft (type_specs (joined (map type_spec_view vs) t.NoTypes)) (type_specs (joined (map type_spec_view (drop i vs)) t.NoTypes)) a b f0 f1 out out
    → Does (type_specs (joined (map type_spec_view vs) t.NoTypes)) a b f0 f1 out out
specs_end vs i a b f0 f1 out l h =
    left_end (type_specs (rest_of vs)) a b f0 f1 out out (left_as (type_specs (rest_of vs)) (type_specs (rest_of (drop i vs))) (did []) a b f0 f1 out out (ap (λ (xs : List TypeSpec). type_specs (rest_of xs)) (past vs i l)) h)

-- ---- a declaration

decl_whole : (d : Decl) → decl_view d ≡ decl_form_view d.form.value d.place
decl_whole d = search (rules, fold_out-Decl)

abbrev DoesDecl : t.Decl → Walk → Walk → List Flaw → List Flaw → List CoreStmt → List CoreStmt → Type 0
DoesDecl d a b f0 f1 o0 o1 = Does (decl d) a b f0 f1 o0 o1

-- what a declaration does is what its form does
form_does : (d : Decl) (f : DeclForm) (e : t.Decl) (a b : Walk) (f0 f1 : List Flaw) (o0 o1 : List CoreStmt) → f ≡ d.form.value → decl_form_view f d.place ≡ e → Does (decl e) a b f0 f1 o0 o1 → Does (decl (decl_view d)) a b f0 f1 o0 o1
form_does d f e a b f0 f1 o0 o1 p q h =
    let r : decl_view d ≡ e = decl_whole d ∙ ap (λ (g : DeclForm). decl_form_view g d.place) (sym p) ∙ q in
    subst (λ (x : t.Decl). DoesDecl x a b f0 f1 o0 o1) (sym r) h

pub const_does : (d : Decl) (f : DeclForm) (specs : Vec ValueSpec Global) (a b : Walk) (f0 f1 : List Flaw) (o0 o1 : List CoreStmt) → f ≡ d.form.value → f ≡ form.Const specs → Does (const_specs d.place 0 t.NoExpr t.NoExprs (joined (map value_spec_view specs.items) t.NoValues)) a b f0 f1 o0 o1 → Does (decl (decl_view d)) a b f0 f1 o0 o1
const_does d f specs a b f0 f1 o0 o1 p q h =
    form_does d f (t.ConstDecl d.place (joined (map value_spec_view specs.items) t.NoValues)) a b f0 f1 o0 o1 p (ap (λ (g : DeclForm). decl_form_view g d.place) q ∙ rw (← form.rolls-Const, fold-roll-DeclForm)) h

pub types_does : (d : Decl) (f : DeclForm) (specs : Vec TypeSpec Global) (a b : Walk) (f0 f1 : List Flaw) (o0 o1 : List CoreStmt) → f ≡ d.form.value → f ≡ form.TypeDecl specs → Does (type_specs (joined (map type_spec_view specs.items) t.NoTypes)) a b f0 f1 o0 o1 → Does (decl (decl_view d)) a b f0 f1 o0 o1
types_does d f specs a b f0 f1 o0 o1 p q h =
    form_does d f (t.TypeDecl d.place (joined (map type_spec_view specs.items) t.NoTypes)) a b f0 f1 o0 o1 p (ap (λ (g : DeclForm). decl_form_view g d.place) q ∙ rw (← form.rolls-TypeDecl, fold-roll-DeclForm)) h

pub var_does : (d : Decl) (f : DeclForm) (specs : Vec ValueSpec Global) (a b : Walk) (f0 f1 : List Flaw) (o0 o1 : List CoreStmt) → f ≡ d.form.value → f ≡ form.Var specs → Does (var_specs d.place (joined (map value_spec_view specs.items) t.NoValues)) a b f0 f1 o0 o1 → Does (decl (decl_view d)) a b f0 f1 o0 o1
var_does d f specs a b f0 f1 o0 o1 p q h =
    form_does d f (t.VarDecl d.place (joined (map value_spec_view specs.items) t.NoValues)) a b f0 f1 o0 o1 p (ap (λ (g : DeclForm). decl_form_view g d.place) q ∙ rw (← form.rolls-Var, fold-roll-DeclForm)) h

-- with a receiver and without one
pub func_does : (d : Decl) (f : DeclForm) (r : Option Params) (n : Name) (s : Sig) (k : Block) (a b : Walk) (f0 f1 : List Flaw) (o0 o1 : List CoreStmt) → f ≡ d.form.value → f ≡ form.Func r n s k → Does (faulty (flaw d.place 0 ∷ [])) a b f0 f1 o0 o1 → Does (decl (decl_view d)) a b f0 f1 o0 o1
func_does d f None n s k a b f0 f1 o0 o1 p q h =
    form_does d f (t.FuncDecl d.place n (sig_view s) (block_view k)) a b f0 f1 o0 o1 p (ap (λ (g : DeclForm). decl_form_view g d.place) q ∙ rw (← form.rolls-Func, fold-roll-DeclForm)) h
func_does d f (Some ps) n s k a b f0 f1 o0 o1 p q h =
    form_does d f (t.MethodDecl d.place (params_view ps).0 (params_view ps).1 n (sig_view s) (block_view k)) a b f0 f1 o0 o1 p (ap (λ (g : DeclForm). decl_form_view g d.place) q ∙ rw (← form.rolls-Func, fold-roll-DeclForm)) h
