-- What is taken from an answer: predeclared types, cores that last, and the types of several values.
use Rattle.std.proofs.Common.{arith, ◌≡◌, ◌<◌, ◌≤◌, ℕ, ◌∙◌, refl, sym, ap, subst, inl, inr, List, [], ◌∷◌, length, get_or}
use Rattle.std.specs.Prelude.{Option, Some, None}
use Rattle.std.proofs.lemmas.Bool.{cases_lt}
use Rattle.std.proofs.lemmas.List.{get_or_past}
use Rattle.go_const.specs.declared.constant.Const.{Const}
use Rattle.go_type.specs.Tree as ty
use Rattle.go_type.specs.Tree.{Ty, Tys, no_tys, more_tys}
use Rattle.go_type.specs.Levels.{tree_of, trees_of}
use Rattle.go_type.specs.Predeclared.{predeclared}
use Rattle.go_type.specs.Table.{places, size}
use Rattle.go_type.specs.declared.types.Basis.{Basis}
use Rattle.go_type.specs.declared.types.TypeId.{TypeId}
use Rattle.go_type.specs.declared.table.TypeTable.{TypeTable}
use Rattle.go_core.specs.CoreTree as core
use Rattle.go_core.specs.CoreView.{expr_view}
use Rattle.go_core.specs.declared.node.CoreExpr.{CoreExpr}
use Rattle.go_typing.specs.Answer.{value}
use Rattle.go_operands.specs.RulesReady.{HasPredeclared}
use Rattle.go_operands.specs.AnswerView.{answer_view}
use Rattle.go_typing.specs.Expressions.{several_types}
use Rattle.go_walk.specs.Steady.{IsSteady}
use Rattle.go_expr.specs.declared.typed.raw.Raw as code
use Rattle.go_expr.specs.Raw.{Raw, raw_view, raws_after}
use Rattle.go_assign.specs.Settled.{several_in}
use Rattle.go_assign.specs.Taken.{StandsFor, several_of, several_at}

-- an id of an untyped type is predeclared
predeclared_id : (i : TypeId) (b : Basis) → tree_of predeclared i ≡ ty.untyped b → i.0 < 20
predeclared_id i b e = elim (cases_lt i.0 20) [ inl h ↦ h | inr h ↦ absurd (past h) ]
  where
    past : 20 ≤ i.0 → ⊥
    past h = let p : tree_of predeclared i ≡ ty.bool = get_or_past predeclared i.0 ty.bool h in cc

pub untyped_in : (t : TypeTable) (i : TypeId) (b : Basis) → HasPredeclared t → tree_of predeclared i ≡ ty.untyped b → tree_of (places t) i ≡ ty.untyped b
untyped_in t i b h e = h.begins i (predeclared_id i b e) ∙ e

pub untyped_below : (t : TypeTable) (i : TypeId) (b : Basis) → HasPredeclared t → tree_of predeclared i ≡ ty.untyped b → i.0 < size t
untyped_below t i b h e = let k = predeclared_id i b e in let s = h.size in omega (arith, k, s)

pub nil_tree : (t : TypeTable) → HasPredeclared t → tree_of (places t) (record { 0 = 2 }) ≡ ty.nil
nil_tree t h = h.begins (record { 0 = 2 }) (omega arith)

pub nil_below : (t : TypeTable) → HasPredeclared t → 2 < size t
nil_below t h = let s = h.size in omega (arith, s)

pub bool_tree : (t : TypeTable) → HasPredeclared t → tree_of (places t) (record { 0 = 0 }) ≡ ty.bool
bool_tree t h = h.begins (record { 0 = 0 }) (omega arith)

-- ---- cores that last

pub stands_from : (t : TypeTable) (n : ℕ) (e : CoreExpr) → n ≡ size t → IsSteady n e → StandsFor t (expr_view (places t) e) e
stands_from t n e p h = record { stands = λ ts k. h.same ts (places t) (λ i l. k i (subst (λ (m : ℕ). i.0 < m) p l)) }

pub stands_same : (t : TypeTable) (c d : core.Expr) (e : CoreExpr) → d ≡ c → StandsFor t d e → StandsFor t c e
stands_same t c d e p h = record { stands = λ ts k. h.stands ts k ∙ p }

-- ---- several values

pub several_two : (ts : List Ty) (is : List TypeId) → 2 ≤ length is → several_of (trees_of ts is) ≡ Some (trees_of ts is)
several_two ts [] h = absurd (omega arith)
several_two ts (i ∷ []) h = absurd (omega arith)
several_two ts (i ∷ j ∷ is) h = refl

pub several_one : (ts : List Ty) (is : List TypeId) → length is < 2 → None ≡ several_of (trees_of ts is)
several_one ts [] h = refl
several_one ts (i ∷ []) h = refl
several_one ts (i ∷ j ∷ is) h = absurd (omega arith)

several_tys : (c : core.Expr) (us : Tys) (k : Option Const) → several_of us ≡ several_types (value c (ty.tuple us) k)
several_tys c no_tys k = refl
several_tys c (more_tys u no_tys) k = refl
several_tys c (more_tys u (more_tys v us)) k = refl

pub several_value : (c : core.Expr) (u : Ty) (k : Option Const) → several_at u ≡ several_types (value c u k)
several_value c (ty.tuple us) k = several_tys c us k
several_value c ty.bool k = refl
several_value c ty.str k = refl
several_value c (ty.int n) k = refl
several_value c ty.nil k = refl
several_value c (ty.untyped b) k = refl
several_value c (ty.array n u) k = refl
several_value c (ty.slice u) k = refl
several_value c (ty.struct fs) k = refl
several_value c (ty.pointer u) k = refl
several_value c (ty.func ps rs v) k = refl
several_value c (ty.interface ms) k = refl
several_value c (ty.mapping u v) k = refl
several_value c (ty.chan d u) k = refl
several_value c (ty.named n) k = refl

after_two : (ts : List Ty) (rs : List code.Raw) (a b : Raw) (after : List Raw) → several_in (raws_after ts rs (a ∷ b ∷ after)) ≡ None
after_two ts [] a b after = refl
after_two ts (r ∷ rs) a b after = after_two ts rs (raw_view ts r) a (b ∷ after)

pub not_one : (ts : List Ty) (rs : List code.Raw) → (length rs ≡ 1 → ⊥) → several_in (raws_after ts rs []) ≡ None
not_one ts [] h = refl
not_one ts (r ∷ []) h = absurd (h refl)
not_one ts (r ∷ s ∷ rs) h = after_two ts rs (raw_view ts s) (raw_view ts r) []

pub the_one : (ts : List Ty) (rs : List code.Raw) (r : code.Raw) → length rs ≡ 1 → r ≡ get_or rs 0 r → several_in (raws_after ts rs []) ≡ several_types (answer_view ts r.part.answer)
the_one ts [] r h e = absurd (omega arith)
the_one ts (s ∷ []) r h e = ap (λ (x : code.Raw). several_types (answer_view ts x.part.answer)) (sym e)
the_one ts (s ∷ q ∷ rs) r h e = absurd (omega arith)
