-- Lists of what expressions give.
use Rattle.std.proofs.Common.{◌≡◌, ◌∙◌, ◌+◌, ◌<◌, ◌≤◌, refl, sym, ap, subst, arith, rules, drop-cons}
use Rattle.std.specs.Prelude.{ℕ, zero, suc, List, [], ◌∷◌, ◌++◌, drop, get_or, length, map}
use Rattle.go_type.specs.Tree.{Ty}
use Rattle.go_type.specs.Levels.{trees_of}
use Rattle.go_type.specs.declared.types.TypeId.{TypeId}
use Rattle.go_core.specs.CoreTree.{CoreProgram, Exprs}
use Rattle.go_core.specs.CoreView.{expr_view, exprs_of, exprs_view}
use Rattle.go_core.specs.TypeOf.{all_types, listed_types, types_of}
use Rattle.go_core.specs.Sound.{ArePrintable}
use Rattle.go_core.specs.declared.node.CoreExpr.{CoreExpr}
use Rattle.go_core.specs.declared.node.CoreExprs.{CoreExprs, out-CoreExprs, fold_out-CoreExprs}

pub operands_are : (ts : List Ty) (es : CoreExprs) → exprs_view ts es ≡ exprs_of (map (expr_view ts) (out-CoreExprs es).items.items)
operands_are ts es = search (rules, fold_out-CoreExprs)

pub next_at : {X Y : Type 0} (f : X → Y) (xs : List X) (i : ℕ) (x : X) → i < length xs → x ≡ get_or xs i x → map f (drop i xs) ≡ f x ∷ map f (drop (i + 1) xs)
next_at {X} {Y} f xs i x h e =
    let one : suc i ≡ i + 1 = omega arith in
    ap (map f) (drop-cons xs i x h) ∙ ap (λ (y : X). f y ∷ map f (drop (suc i) xs)) (sym e) ∙ ap (λ (k : ℕ). f x ∷ map f (drop k xs)) one

pub none_left : {X : Type 0} (xs : List X) (i : ℕ) → length xs ≤ i → drop i xs ≡ []
none_left [] zero h = refl
none_left [] (suc i) h = refl
none_left (x ∷ xs) zero h = absurd (omega (arith, h))
none_left (x ∷ xs) (suc i) h = none_left xs i (omega (arith, h))

pub count_listed : (ts : List Ty) (xs : List TypeId) → length (listed_types (trees_of ts xs)) ≡ length xs
count_listed ts [] = refl
count_listed ts (x ∷ xs) = ap suc (count_listed ts xs)

module _ (p : CoreProgram) where
  both_printable : (xs ys : List Ty) → ArePrintable p xs → ArePrintable p ys → ArePrintable p (xs ++ ys)
  both_printable [] ys a b = b
  both_printable (x ∷ xs) ys a b = (a.0, both_printable xs ys a.1 b)

  pub printable_next : (ts : List Ty) (es : List CoreExpr) (i : ℕ) (e : CoreExpr) → i < length es → e ≡ get_or es i e → ArePrintable p (types_of p.names (expr_view ts e))
      → ArePrintable p (all_types p.names (exprs_of (map (expr_view ts) (drop (i + 1) es)))) → ArePrintable p (all_types p.names (exprs_of (map (expr_view ts) (drop i es))))
  printable_next ts es i e l is a b =
      subst (λ (xs : List Ty). ArePrintable p xs) (sym (ap (λ xs. all_types p.names (exprs_of xs)) (next_at (expr_view ts) es i e l is)))
      (both_printable (types_of p.names (expr_view ts e)) (all_types p.names (exprs_of (map (expr_view ts) (drop (i + 1) es)))) a b)

  pub printable_none : (ts : List Ty) (es : List CoreExpr) (i : ℕ) → length es ≤ i → ArePrintable p (all_types p.names (exprs_of (map (expr_view ts) (drop i es))))
  printable_none ts es i l = subst (λ (xs : List CoreExpr). ArePrintable p (all_types p.names (exprs_of (map (expr_view ts) xs)))) (sym (none_left es i l)) tt

  pub printable_whole : (ts : List Ty) (es : CoreExprs) (xs : List CoreExpr) → xs ≡ (out-CoreExprs es).items.items → ArePrintable p (all_types p.names (exprs_of (map (expr_view ts) xs))) → ArePrintable p (all_types p.names (exprs_view ts es))
  printable_whole ts es xs is a =
      subst (λ (x : Exprs). ArePrintable p (all_types p.names x)) (sym (operands_are ts es ∙ ap (λ (ys : List CoreExpr). exprs_of (map (expr_view ts) ys)) (sym is))) a
