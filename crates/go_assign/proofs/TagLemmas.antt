-- The tag of a `switch`.
use Rattle.std.proofs.Common.{arith, ◌≡◌, ◌<◌, ◌∙◌, refl, sym, ap, subst, List, [], ◌++◌, map, true}
use Rattle.std.specs.Prelude.{Option, Some, option_map, IfSome}
use Rattle.std.proofs.lemmas.List.{append-nil}
use Rattle.go_const.specs.declared.constant.Const.{Const}
use Rattle.go_const.specs.declared.constant.Const.TheVariants as form
use Rattle.go_syntax.specs.Tree as t
use Rattle.go_syntax.specs.View.{expr_view, maybe_expr}
use Rattle.go_syntax.specs.declared.tree.Expr.{Expr}
use Rattle.go_type.specs.Tree as ty
use Rattle.go_type.specs.Tree.{Ty}
use Rattle.go_type.specs.Levels.{tree_of}
use Rattle.go_type.specs.Table.{places, size}
use Rattle.go_type.specs.declared.types.TypeId.{TypeId}
use Rattle.go_type.specs.declared.table.TypeTable.{TypeTable}
use Rattle.go_core.specs.CoreView as views
use Rattle.go_core.specs.declared.node.CoreExpr.{CoreExpr}
use Rattle.go_typing.specs.Operand.{constant_at}
use Rattle.go_operands.specs.EnvView.{table_of}
use Rattle.go_calls.specs.Words.{names_of, scopes_of}
use Rattle.go_operands.specs.AnswerView.{flaw_view}
use Rattle.go_operands.specs.declared.answers.answer.Flaw.{Flaw}
use Rattle.go_typing.specs.Walk as go
use Rattle.go_typing.specs.Expressions.{Valued, core_of, type_of}
use Rattle.go_typing.specs.Statements as statements
use Rattle.go_typing.specs.Statements.{tag_of, condition_uses}
use Rattle.go_walk.specs.WalkView.{walk_of}
use Rattle.go_walk.specs.declared.walk.walk.Walk.{Walk}
use Rattle.go_expr.specs.Raw.{Raw, raw_of}
use Rattle.go_assign.specs.Settled.{alone}
use Rattle.go_assign.specs.Taken.{StandsFor}
use Rattle.go_assign.specs.Passed.{Passes}
use Rattle.go_assign.specs.TagView.{IsTag, tag_in}
use Rattle.go_assign.specs.declared.branch.tag.Tag as code

pub truth_stands : (t : TypeTable) (i : TypeId) (k : Const) (e : CoreExpr) → i.0 < size t → tree_of (places t) i ≡ ty.bool → ((ts : List Ty) → views.expr_view ts e ≡ constant_at (tree_of ts i) k) → StandsFor t (constant_at ty.bool k) e
truth_stands t i k e b h p = record { stands = λ ts l. p ts ∙ ap (λ (u : Ty). constant_at u k) (l i b ∙ h) }

pub no_tag : (t : TypeTable) (i : TypeId) (e : CoreExpr) → i.0 < size t → tree_of (places t) i ≡ ty.bool → StandsFor t (constant_at ty.bool (form.Bool true)) e
    → IsTag (record { type_ = Some ty.bool; core = constant_at ty.bool (form.Bool true); flaws = [] }) t (record { ty = Some i; core = e })
no_tag t i e b h s = record { type_ = ap Some h; below = b; core = s }

pub tag_from : (t : TypeTable) (v : Valued) (i : Option TypeId) (e : CoreExpr) → option_map (tree_of (places t)) i ≡ type_of v.answer → IfSome i (λ x. x.0 < size t) → StandsFor t (core_of v.answer) e → IsTag (tag_in v) t (record { ty = i; core = e })
tag_from t v i e p b s = record { type_ = p; below = b; core = s }

pub tag_same : (t : TypeTable) (v w : Valued) (g : code.Tag) → v ≡ w → IsTag (tag_in v) t g → IsTag (tag_in w) t g
tag_same t v w g p h = subst (λ (x : Valued). IsTag (tag_in x) t g) p h

pub told_same : (f0 f1 : List Flaw) (v w : Valued) → v ≡ w → map flaw_view f1 ≡ map flaw_view f0 ++ v.flaws → map flaw_view f1 ≡ map flaw_view f0 ++ w.flaws
told_same f0 f1 v w p h = h ∙ ap (λ (x : Valued). map flaw_view f0 ++ x.flaws) p

given_tag : (ts : List Ty) (old new : Walk) (f : go.Walk → go.Walk) (e : t.Expr) (r : Raw) → Passes f old new → r ≡ raw_of (names_of old.env) (scopes_of old.env) e → tag_in (alone (names_of new.env) r) ≡ tag_of (walk_of ts old) (t.AnExpr e)
given_tag ts old new f e r p h = λ j. tag_in (alone (p.env j).named_types (h j))

pub tag_before : (ts : List Ty) (old new : Walk) (f : go.Walk → go.Walk) (e : t.Expr) (r : Raw) (g : code.Tag) → Passes f old new → r ≡ raw_of (names_of old.env) (scopes_of old.env) e → IsTag (tag_in (alone (names_of new.env) r)) (table_of new.env) g
    → IsTag (tag_of (walk_of ts old) (t.AnExpr e)) (table_of new.env) g
tag_before ts old new f e r g p h k = subst (λ (x : statements.Tag). IsTag x (table_of new.env) g) (given_tag ts old new f e r p h) k

pub tag_told : (ts : List Ty) (old new : Walk) (f : go.Walk → go.Walk) (e : t.Expr) (r : Raw) (f0 f1 : List Flaw) → Passes f old new → r ≡ raw_of (names_of old.env) (scopes_of old.env) e → map flaw_view f1 ≡ map flaw_view f0 ++ (alone (names_of new.env) r).flaws
    → map flaw_view f1 ≡ map flaw_view f0 ++ (tag_of (walk_of ts old) (t.AnExpr e)).flaws
tag_told ts old new f e r f0 f1 p h k = k ∙ ap (λ (x : statements.Tag). map flaw_view f0 ++ x.flaws) (given_tag ts old new f e r p h)

pub none_used : (a : Walk) → Passes (condition_uses t.NoExpr) a a
none_used a = record { walk = λ ts. refl; env = refl; kept = λ i l. refl; counts = omega arith }

pub none_told : (f : List Flaw) → map flaw_view f ≡ map flaw_view f ++ []
none_told f = sym (append-nil (map flaw_view f))

-- a tag that there is
pub tag_some : (w : go.Walk) (table : TypeTable) (o : Option Expr) (y : Expr) (g : code.Tag) → o ≡ Some y → IsTag (tag_of w (t.AnExpr (expr_view y))) table g → IsTag (tag_of w (maybe_expr (option_map expr_view o))) table g
tag_some w table o y g p h = subst (λ (x : Option Expr). IsTag (tag_of w (maybe_expr (option_map expr_view x))) table g) (sym p) h

pub told_some : (w : go.Walk) (f0 f1 : List Flaw) (o : Option Expr) (y : Expr) → o ≡ Some y → map flaw_view f1 ≡ map flaw_view f0 ++ (tag_of w (t.AnExpr (expr_view y))).flaws → map flaw_view f1 ≡ map flaw_view f0 ++ (tag_of w (maybe_expr (option_map expr_view o))).flaws
told_some w f0 f1 o y p h = h ∙ ap (λ (x : Option Expr). map flaw_view f0 ++ (tag_of w (maybe_expr (option_map expr_view x))).flaws) (sym p)
