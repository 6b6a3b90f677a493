-- Constants of one specification more.
use Rattle.std.proofs.Common.{arith, rules, ◌≡◌, ◌<◌, ℕ, suc, ◌∙◌, refl, sym, ap, List, [], ◌∷◌, ◌++◌, Bool, true, false, cond, length, map}
use Rattle.std.specs.Prelude.{option_map}
use Rattle.go_syntax.specs.Tree as tree
use Rattle.go_syntax.specs.View.{expr_view, exprs_of, value_spec_view, maybe_expr}
use Rattle.go_syntax.specs.declared.tree.Expr.{Expr}
use Rattle.go_syntax.specs.declared.tree.Name.{Name}
use Rattle.go_syntax.specs.declared.tree.ValueSpec.{ValueSpec, out-ValueSpec, fold_out-ValueSpec}
use Rattle.go_typing.specs.Declare.{names_count}
use Rattle.go_typing.specs.Items.{each_name, spec_items, constant_items}
use Rattle.go_items.specs.ItemView.{names_in}

-- ---- a specification of values

pub values_whole : (s : ValueSpec) (rest : tree.ValueSpecs)
    → value_spec_view s rest ≡ tree.MoreValues (names_in s) (maybe_expr (option_map expr_view (out-ValueSpec s).ty)) (exprs_of (map expr_view (out-ValueSpec s).values.items)) rest
values_whole s rest = search (rules, fold_out-ValueSpec)

pub list_missing : (k : ℕ) (u : tree.MaybeExpr) (ys : tree.Exprs) (s : ValueSpec) (rest : tree.ValueSpecs) → (out-ValueSpec s).values.items ≡ []
    → constant_items k u ys (value_spec_view s rest) ≡ spec_items k u (names_in s) ys ++ constant_items (suc k) u ys rest
list_missing k u ys s rest h =
    ap (constant_items k u ys) (values_whole s rest ∙ ap (λ (es : List Expr). tree.MoreValues (names_in s) (maybe_expr (option_map expr_view (out-ValueSpec s).ty)) (exprs_of (map expr_view es)) rest) h)

given : (k : ℕ) (u : tree.MaybeExpr) (ys : tree.Exprs) (ns : List Name) (v : tree.MaybeExpr) (es : List Expr) (rest : tree.ValueSpecs) → 0 < length es
    → constant_items k u ys (tree.MoreValues ns v (exprs_of (map expr_view es)) rest) ≡ spec_items k v ns (exprs_of (map expr_view es)) ++ constant_items (suc k) v (exprs_of (map expr_view es)) rest
given k u ys ns v [] rest h = absurd (omega arith)
given k u ys ns v (e ∷ es) rest h = refl

pub list_given : (k : ℕ) (u : tree.MaybeExpr) (ys : tree.Exprs) (s : ValueSpec) (rest : tree.ValueSpecs) → 0 < length (out-ValueSpec s).values.items
    → constant_items k u ys (value_spec_view s rest)
    ≡ spec_items k (maybe_expr (option_map expr_view (out-ValueSpec s).ty)) (names_in s) (exprs_of (map expr_view (out-ValueSpec s).values.items))
    ++ constant_items (suc k) (maybe_expr (option_map expr_view (out-ValueSpec s).ty)) (exprs_of (map expr_view (out-ValueSpec s).values.items)) rest
list_given k u ys s rest h = ap (constant_items k u ys) (values_whole s rest) ∙ given k u ys (names_in s) (maybe_expr (option_map expr_view (out-ValueSpec s).ty)) (out-ValueSpec s).values.items rest h

-- ---- as many names as values

pub same_count : (ns : List Name) (es : List Expr) → length ns ≡ length es → names_count ns (exprs_of (map expr_view es)) ≡ true
same_count [] [] h = refl
same_count [] (e ∷ es) h = absurd (omega arith)
same_count (n ∷ ns) [] h = absurd (omega arith)
same_count (n ∷ ns) (e ∷ es) h = same_count ns es (omega arith)

pub other_count : (ns : List Name) (es : List Expr) → (length ns ≡ length es → ⊥) → names_count ns (exprs_of (map expr_view es)) ≡ false
other_count [] [] h = absurd (h refl)
other_count [] (e ∷ es) h = refl
other_count (n ∷ ns) [] h = refl
other_count (n ∷ ns) (e ∷ es) h = other_count ns es (λ k. h (ap suc k))

pub with_all : (k : ℕ) (u : tree.MaybeExpr) (ns : List Name) (ys zs : tree.Exprs) → zs ≡ ys → names_count ns zs ≡ true → each_name k u ys ns zs ≡ spec_items k u ns ys
with_all k u ns ys zs e h = ap (each_name k u ys ns) e ∙ sym (ap (λ (b : Bool). each_name k u ys ns (cond b ys tree.NoExprs)) (sym (ap (names_count ns) e) ∙ h))

pub with_none : (k : ℕ) (u : tree.MaybeExpr) (ns : List Name) (ys zs : tree.Exprs) → zs ≡ ys → names_count ns zs ≡ false → each_name k u ys ns tree.NoExprs ≡ spec_items k u ns ys
with_none k u ns ys zs e h = sym (ap (λ (b : Bool). each_name k u ys ns (cond b ys tree.NoExprs)) (sym (ap (names_count ns) e) ∙ h))
