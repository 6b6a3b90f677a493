-- What is stored and told of left sides and values, one after the other.
use Rattle.std.proofs.Common.{◌≡◌, ◌∙◌, refl, sym, ap, List, [], ◌∷◌, ◌++◌, append_assoc, map, Bool, ◌&&◌}
use Rattle.std.proofs.lemmas.List.{append-nil, map-append}
use Rattle.gj_base.specs.declared.place.Place.{Place}
use Rattle.go_type.specs.Tree.{Ty}
use Rattle.go_type.specs.Named.{NamedTy}
use Rattle.go_type.specs.declared.table.TypeTable.{TypeTable}
use Rattle.go_core.specs.CoreTree as core
use Rattle.go_core.specs.CoreView.{expr_view, exprs_of, stmt_view, target_view}
use Rattle.go_core.specs.declared.node.CoreExpr.{CoreExpr}
use Rattle.go_core.specs.declared.statement.CoreStmt.{CoreStmt}
use Rattle.go_core.specs.declared.statement.Target as target
use Rattle.go_typing.specs.Answer.{Flaw, flaw}
use Rattle.go_operands.specs.AnswerView.{flaw_view}
use Rattle.go_operands.specs.declared.answers.answer.Flaw as code
use Rattle.go_walk.specs.WalkView.{Keeps}
use Rattle.go_typing.specs.Expressions.{Valued, core_of}
use Rattle.go_typing.specs.Assign.{Left, left_flaws, target_of, where_typed}
use Rattle.go_expr.specs.Raw.{Raw}
use Rattle.go_assign.specs.Settled.{all_known, all_told}
use Rattle.go_assign.specs.Outcome.{Adds}
use Rattle.go_assign.specs.LeftView.{fitted}
use Rattle.go_assign.specs.Assigning.{paired, pair_targets, pair_values, pair_flaws, Stores, all_flaws, all_left, each_gives, not_as_many}

pub target_more : (ts : List Ty) (olds news : List target.Target) (g : target.Target) (c : core.Target) → news ≡ olds ++ g ∷ [] → target_view ts g ≡ c → map (target_view ts) news ≡ map (target_view ts) olds ++ c ∷ []
target_more ts olds news g c p q =
    ap (map (target_view ts)) p ∙ map-append (target_view ts) olds (g ∷ []) ∙ ap (λ (x : core.Target). map (target_view ts) olds ++ x ∷ []) q

-- a value by its view
pub value_same : (before after : List core.Expr) (v w : Valued) → v ≡ w → after ≡ before ++ core_of v.answer ∷ [] → after ≡ before ++ core_of w.answer ∷ []
value_same before after v w p h = h ∙ ap (λ (x : Valued). before ++ core_of x.answer ∷ []) p

pub told_same : (before after : List Flaw) (v w : Valued) → v ≡ w → after ≡ before ++ v.flaws → after ≡ before ++ w.flaws
told_same before after v w p h = h ∙ ap (λ (x : Valued). before ++ x.flaws) p

-- ---- each with its value

one_more : {X : Type 0} (a b rest all : List X) (x : X) → b ≡ a ++ x ∷ [] → a ++ (x ∷ rest) ≡ all → b ++ rest ≡ all
one_more {X} a b rest all x p h = ap (λ (y : List X). y ++ rest) p ∙ append_assoc a (x ∷ []) rest ∙ h

some_more : {X : Type 0} (a b xs rest all : List X) → b ≡ a ++ xs → a ++ (xs ++ rest) ≡ all → b ++ rest ≡ all
some_more {X} a b xs rest all p h = ap (λ (y : List X). y ++ rest) p ∙ append_assoc a xs rest ∙ h

pub stores_first : (t : TypeTable) (ps : List (Left × Valued)) (to : List target.Target) (es : List CoreExpr) (fs : List code.Flaw) → Stores t ps ps to to es es fs fs
stores_first t ps to es fs = record { targets = λ ts k. refl; values = λ ts k. refl; told = refl }

pub stores_step : (t : TypeTable) (ns : List NamedTy) (ls ls1 : List Left) (rs rs1 : List Raw) (l : Left) (r : Raw) (all : List (Left × Valued)) (g0 g1 g2 : List target.Target) (e0 e1 e2 : List CoreExpr) (f0 f1 f2 : List code.Flaw)
    → ls ≡ l ∷ ls1 → rs ≡ r ∷ rs1 → Stores t (paired ns ls rs) all g0 g1 e0 e1 f0 f1
    → ((ts : List Ty) → Keeps t ts → map (target_view ts) g2 ≡ map (target_view ts) g1 ++ target_of l ∷ [])
    → ((ts : List Ty) → Keeps t ts → map (expr_view ts) e2 ≡ map (expr_view ts) e1 ++ core_of (fitted ns l r).answer ∷ [])
    → map flaw_view f2 ≡ map flaw_view f1 ++ (fitted ns l r).flaws
    → Stores t (paired ns ls1 rs1) all g0 g2 e0 e2 f0 f2
stores_step t ns ls ls1 rs rs1 l r all g0 g1 g2 e0 e1 e2 f0 f1 f2 p q h a b c = record {
  targets = λ ts k.
      one_more (map (target_view ts) g1) (map (target_view ts) g2) (pair_targets (paired ns ls1 rs1)) (map (target_view ts) g0 ++ pair_targets all) (target_of l) (a ts k)
      (ap (λ (x : List (Left × Valued)). map (target_view ts) g1 ++ pair_targets x) (sym same) ∙ h.targets ts k);
  values = λ ts k.
      one_more (map (expr_view ts) e1) (map (expr_view ts) e2) (pair_values (paired ns ls1 rs1)) (map (expr_view ts) e0 ++ pair_values all) (core_of (fitted ns l r).answer) (b ts k)
      (ap (λ (x : List (Left × Valued)). map (expr_view ts) e1 ++ pair_values x) (sym same) ∙ h.values ts k);
  told =
      some_more (map flaw_view f1) (map flaw_view f2) (fitted ns l r).flaws (pair_flaws (paired ns ls1 rs1)) (map flaw_view f0 ++ pair_flaws all) c
      (ap (λ (x : List (Left × Valued)). map flaw_view f1 ++ pair_flaws x) (sym same) ∙ h.told);
}
  where
    same : paired ns ls rs ≡ (l, fitted ns l r) ∷ paired ns ls1 rs1
    same = ap (λ (x : List Left). paired ns x rs) p ∙ ap (λ (x : List Raw). paired ns (l ∷ ls1) x) q

stores_at : (t : TypeTable) (ps qs all : List (Left × Valued)) (g0 g1 : List target.Target) (e0 e1 : List CoreExpr) (f0 f1 : List code.Flaw) → ps ≡ qs → Stores t ps all g0 g1 e0 e1 f0 f1 → Stores t qs all g0 g1 e0 e1 f0 f1
stores_at t ps qs all g0 g1 e0 e1 f0 f1 p h = record {
  targets = λ ts k. ap (λ (x : List (Left × Valued)). map (target_view ts) g1 ++ pair_targets x) (sym p) ∙ h.targets ts k;
  values = λ ts k. ap (λ (x : List (Left × Valued)). map (expr_view ts) e1 ++ pair_values x) (sym p) ∙ h.values ts k;
  told = ap (λ (x : List (Left × Valued)). map flaw_view f1 ++ pair_flaws x) (sym p) ∙ h.told;
}

pub stores_no_left : (t : TypeTable) (ns : List NamedTy) (ls : List Left) (rs : List Raw) (all : List (Left × Valued)) (g0 g1 : List target.Target) (e0 e1 : List CoreExpr) (f0 f1 : List code.Flaw) → ls ≡ [] → Stores t (paired ns ls rs) all g0 g1 e0 e1 f0 f1
    → Stores t [] all g0 g1 e0 e1 f0 f1
stores_no_left t ns ls rs all g0 g1 e0 e1 f0 f1 p h = stores_at t (paired ns ls rs) [] all g0 g1 e0 e1 f0 f1 (ap (λ (x : List Left). paired ns x rs) p) h

pub stores_no_value : (t : TypeTable) (ns : List NamedTy) (ls ls1 : List Left) (l : Left) (rs : List Raw) (all : List (Left × Valued)) (g0 g1 : List target.Target) (e0 e1 : List CoreExpr) (f0 f1 : List code.Flaw) → ls ≡ l ∷ ls1 → rs ≡ []
    → Stores t (paired ns ls rs) all g0 g1 e0 e1 f0 f1 → Stores t [] all g0 g1 e0 e1 f0 f1
stores_no_value t ns ls ls1 l rs all g0 g1 e0 e1 f0 f1 p q h =
    stores_at t (paired ns ls rs) [] all g0 g1 e0 e1 f0 f1 (ap (λ (x : List Left). paired ns x rs) p ∙ ap (λ (x : List Raw). paired ns (l ∷ ls1) x) q) h

abbrev store_of : List core.Target → List core.Expr → core.Stmt
store_of gs es = core.store gs (exprs_of es)

pub each_adds : (t : TypeTable) (ps : List (Left × Valued)) (g0 gs : List target.Target) (e0 es : List CoreExpr) (f0 f1 : List code.Flaw) (o0 o1 : List CoreStmt) → g0 ≡ [] → e0 ≡ [] → Stores t [] ps g0 gs e0 es f0 f1
    → ((ts : List Ty) → map (stmt_view ts) o1 ≡ map (stmt_view ts) o0 ++ core.store (map (target_view ts) gs) (exprs_of (map (expr_view ts) es)) ∷ [])
    → Adds t (each_gives ps).flaws (each_gives ps).core f0 f1 o0 o1
each_adds t ps g0 gs e0 es f0 f1 o0 o1 p q h k = record {
  told = sym (append-nil (map flaw_view f1)) ∙ h.told;
  core = λ ts l.
      k ts
      ∙ ap (λ (x : List core.Target). map (stmt_view ts) o0 ++ store_of x (map (expr_view ts) es) ∷ []) (sym (append-nil (map (target_view ts) gs)) ∙ h.targets ts l ∙ ap (λ (x : List target.Target). map (target_view ts) x ++ pair_targets ps) p)
      ∙ ap (λ (x : List core.Expr). map (stmt_view ts) o0 ++ store_of (pair_targets ps) x ∷ []) (sym (append-nil (map (expr_view ts) es)) ∙ h.values ts l ∙ ap (λ (x : List CoreExpr). map (expr_view ts) x ++ pair_values ps) q);
}

-- ---- a wrong count

pub told_none : (fs : List code.Flaw) → map flaw_view fs ≡ map flaw_view fs ++ []
told_none fs = sym (append-nil (map flaw_view fs))

pub lefts_step : (ls ls1 : List Left) (l : Left) (before after all : List Flaw) → ls ≡ l ∷ ls1 → after ≡ before ++ left_flaws l → before ++ all_flaws ls ≡ all → after ++ all_flaws ls1 ≡ all
lefts_step ls ls1 l before after all p q h = some_more before after (left_flaws l) (all_flaws ls1) all q (ap (λ (x : List Left). before ++ all_flaws x) (sym p) ∙ h)

pub lefts_end : (ls : List Left) (now all : List Flaw) → ls ≡ [] → now ++ all_flaws ls ≡ all → now ≡ all
lefts_end ls now all p h = sym (append-nil now) ∙ sym (ap (λ (x : List Left). now ++ all_flaws x) p) ∙ h

pub miscount_told : (at : Place) (ls : List Left) (rs : List Raw) (before after mid parts : List Flaw) (none : List code.Flaw) (left known : Bool) → none ≡ [] → left ≡ all_left ls → known ≡ all_known rs → mid ≡ map flaw_view none ++ all_flaws ls → parts ≡ mid ++ all_told rs
    → after ≡ before ++ where_typed (left && known) parts (flaw at 84 ∷ []) → after ≡ before ++ (not_as_many at ls rs).flaws
miscount_told at ls rs before after mid parts none left known z l k m p h =
    h ∙ ap (λ (b : Bool). before ++ where_typed (b && known) parts (flaw at 84 ∷ [])) l
    ∙ ap (λ (b : Bool). before ++ where_typed (all_left ls && b) parts (flaw at 84 ∷ [])) k
    ∙ ap (λ (fs : List Flaw). before ++ where_typed (all_left ls && all_known rs) fs (flaw at 84 ∷ []))
    (p ∙ ap (λ (fs : List Flaw). fs ++ all_told rs) (m ∙ ap (λ (fs : List code.Flaw). map flaw_view fs ++ all_flaws ls) z))
