-- Variables that left sides use, one side after the other.
use Rattle.std.proofs.Common.{arith, ◌≡◌, ◌<◌, ◌≤◌, ◌+◌, ℕ, zero, suc, ◌∙◌, refl, sym, ap, List, [], ◌∷◌, length, map, drop, get_or, Bool, true, false}
use Rattle.std.specs.Prelude.{if◌then◌else◌}
use Rattle.std.proofs.Math.Seq.{drop-cons}
use Rattle.go_syntax.specs.Tree as t
use Rattle.go_syntax.specs.View.{expr_view, exprs_of}
use Rattle.go_syntax.specs.declared.tree.Expr.{Expr}
use Rattle.go_typing.specs.Uses.{names_in}
use Rattle.go_typing.specs.Walk.{Walk, with_lost, uses}
use Rattle.go_typing.specs.Assign.{is_name, left_use, left_uses}

abbrev by : t.Expr → Walk → Bool → Walk
by e w b = if b then with_lost (names_in e) w else uses e w

pub name_unused : (e : t.Expr) (w v : Walk) → true ≡ is_name e → v ≡ with_lost (names_in e) w → v ≡ left_use e w
name_unused e w v h p = p ∙ ap (by e w) h

pub other_used : (e : t.Expr) (w v : Walk) → false ≡ is_name e → v ≡ uses e w → v ≡ left_use e w
other_used e w v h p = p ∙ ap (by e w) h

next_at : {X : Type 0} (xs : List X) (i : ℕ) (x : X) → i < length xs → x ≡ get_or xs i x → drop i xs ≡ x ∷ drop (i + 1) xs
next_at {X} xs i x h e =
    let one : suc i ≡ i + 1 = omega arith in
    drop-cons xs i x h ∙ ap (λ (y : X). y ∷ drop (suc i) xs) (sym e) ∙ ap (λ (n : ℕ). x ∷ drop n xs) one

past : {X : Type 0} (xs : List X) (i : ℕ) → length xs ≤ i → drop i xs ≡ []
past [] zero h = refl
past [] (suc i) h = refl
past (x ∷ xs) zero h = absurd (omega arith)
past (x ∷ xs) (suc i) h = past xs i (omega arith)

abbrev used_from : List Expr → Walk → Walk
used_from es w = left_uses (exprs_of (map expr_view es)) w

pub uses_step : (es : List Expr) (i : ℕ) (e : Expr) (w v u : Walk) → i < length es → e ≡ get_or es i e → v ≡ left_use (expr_view e) w → left_uses (exprs_of (map expr_view (drop i es))) w ≡ u → left_uses (exprs_of (map expr_view (drop (i + 1) es))) v ≡ u
uses_step es i e w v u h q p k = ap (used_from (drop (i + 1) es)) p ∙ sym (ap (λ (x : List Expr). used_from x w) (next_at es i e h q)) ∙ k

pub uses_end : (es : List Expr) (i : ℕ) (w u : Walk) → length es ≤ i → left_uses (exprs_of (map expr_view (drop i es))) w ≡ u → w ≡ u
uses_end es i w u h k = sym (ap (λ (x : List Expr). used_from x w) (past es i h)) ∙ k
