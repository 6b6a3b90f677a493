-- A node is steady where its types and its parts are.
use Rattle.std.proofs.Common.{arith, ◌≡◌, ◌<◌, ◌+◌, ◌∙◌, sym, ap, rules, ℕ, suc, List, ◌∷◌, map, length, drop, get_or}
use Rattle.std.proofs.Math.Seq.{drop-cons}
use Rattle.go_type.specs.Tree.{Ty}
use Rattle.go_type.specs.Levels.{tree_of, trees_of}
use Rattle.go_core.specs.CoreTree as core
use Rattle.go_core.specs.CoreView.{exprs_of, expr_view, expr_form_view, exprs_view, place_view, callee_view}
use Rattle.go_core.specs.declared.node.CoreExpr.{CoreExpr, out-CoreExpr, fold_out-CoreExpr}
use Rattle.go_core.specs.declared.node.CoreExprs.{CoreExprs, out-CoreExprs, fold_out-CoreExprs}
use Rattle.go_core.specs.declared.node.CoreForm.{CoreForm, fold-roll-CoreForm}
use Rattle.go_core.specs.declared.node.CoreForm.TheVariants as node
use Rattle.go_walk.specs.Steady.{Agree, IsSteady, AreSteady, AreSteadyTypes, IsSteadyCallee, IsSteadyPlace}

expr_whole : (ts : List Ty) (e : CoreExpr) → expr_view ts e ≡ expr_form_view ts (out-CoreExpr e).form.value
expr_whole ts e = search (rules, fold_out-CoreExpr)

expr_at : (ts : List Ty) (e : CoreExpr) (f : CoreForm) → f ≡ (out-CoreExpr e).form.value → expr_view ts e ≡ expr_form_view ts f
expr_at ts e f h = expr_whole ts e ∙ ap (expr_form_view ts) (sym h)

operands_are : (ts : List Ty) (es : CoreExprs) → exprs_view ts es ≡ exprs_of (map (expr_view ts) (out-CoreExprs es).items.items)
operands_are ts es = search (rules, fold_out-CoreExprs)

-- by its form
by_form : (n : ℕ) (e : CoreExpr) (x : CoreForm) → x ≡ (out-CoreExpr e).form.value → ((ts us : List Ty) → Agree n ts us → expr_form_view ts x ≡ expr_form_view us x) → IsSteady n e
by_form n e x p h = record { same = λ ts us g. expr_at ts e x p ∙ h ts us g ∙ sym (expr_at us e x p) }

view_Read : (ts : List Ty) (x : CoreForm) (t : _) (at : _) → x ≡ node.Read t at → expr_form_view ts x ≡ core.read (tree_of ts t) (place_view ts at)
view_Read ts x t at h = rw (h, ← node.rolls-Read, fold-roll-CoreForm)

pub steady_Read : (n : ℕ) (e : CoreExpr) (x : CoreForm) (t : _) (at : _) → x ≡ (out-CoreExpr e).form.value → x ≡ node.Read t at → t.0 < n → IsSteadyPlace at → IsSteady n e
steady_Read n e x t at p h k s =
    by_form n e x p (λ ts us g. let a = view_Read ts x t at h in let b = view_Read us x t at h in let i = g t k in let j = s.same ts us in cc)

view_Call : (ts : List Ty) (x : CoreForm) (is : _) (f : _) (es : _) → x ≡ node.Call is f es → expr_form_view ts x ≡ core.call (trees_of ts is) (callee_view ts f) (exprs_view ts es)
view_Call ts x is f es h = rw (h, ← node.rolls-Call, fold-roll-CoreForm)

pub steady_Call : (n : ℕ) (e : CoreExpr) (x : CoreForm) (is : _) (f : _) (es : CoreExprs) → x ≡ (out-CoreExpr e).form.value → x ≡ node.Call is f es
    → AreSteadyTypes n is → IsSteadyCallee f → AreSteady n (out-CoreExprs es).items.items → IsSteady n e
steady_Call n e x is f es p h s r q =
    by_form n e x p
    (λ ts us g. let v = view_Call ts x is f es h in let w = view_Call us x is f es h in let i = s.same ts us g in let j = r.same ts us in let k = q.same ts us g in let a = operands_are ts es in let b = operands_are us es in cc)

pub steady_more : (n : ℕ) (e : CoreExpr) (es : List CoreExpr) → IsSteady n e → AreSteady n es → AreSteady n (e ∷ es)
steady_more n e es h k = record { same = λ ts us g. let a = h.same ts us g in let b = k.same ts us g in cc }

pub next_at : {X : Type 0} (xs : List X) (i : ℕ) (x : X) → i < length xs → x ≡ get_or xs i x → drop i xs ≡ x ∷ drop (i + 1) xs
next_at {X} xs i x h e =
    let one : suc i ≡ i + 1 = omega arith in
    drop-cons xs i x h ∙ ap (λ (y : X). y ∷ drop (suc i) xs) (sym e) ∙ ap (λ (n : ℕ). x ∷ drop n xs) one
