-- What the lists of the code's trees are with one more tree.
use Rattle.std.proofs.Common.{◌≡◌, ◌∙◌, ◌∷◌, ◌++◌, List, [], ℕ, Option, Some, None, map, refl, ap, sym}
use Rattle.std.proofs.lemmas.List.{map-append}
use Rattle.std.proofs.Math.Path.{fun_ext}
use Rattle.go_syntax.specs.Tree as t
use Rattle.go_syntax.specs.View.{elem_view, expr_view}
use Rattle.go_syntax.specs.declared.tree.Elem.{Elem}
use Rattle.go_syntax.specs.declared.tree.Expr.{Expr}
use Rattle.go_grammar.specs.Nodes.{and, maybe}
use Rattle.go_frames.specs.FrameView.{expr_in_option, expr_perhaps, exprs_in}

-- the expression that may be there, in both spellings
pub maybe_is : (x : Option Expr) → expr_perhaps x ≡ maybe (expr_in_option x)
maybe_is None = refl
maybe_is (Some e) = refl

-- the views of some parts and of one more, whose view is known before each rest
pub and_view : {A B : Type 0} (view : A → B → B) (xs : List A) (x : A) (part : B → B) → ((rest : B) → view x rest ≡ part rest) → map view (xs ++ x ∷ []) ≡ and (map view xs) part
and_view {A} {B} view xs x part e = map-append view xs (x ∷ []) ∙ ap (λ (p : B → B). map view xs ++ p ∷ []) (fun_ext e)

pub and_expr : (xs all : List Expr) (x : Expr) → all ≡ xs ++ x ∷ [] → exprs_in all ≡ and (exprs_in xs) (expr_view x)
and_expr xs all x e = ap exprs_in e ∙ map-append expr_view xs (x ∷ [])

pub and_elem : (xs all : List Elem) (x : Elem) (key : Option Expr) (value : Expr) → all ≡ xs ++ x ∷ [] → ((rest : t.Elems) → elem_view x rest ≡ t.MoreElems (expr_perhaps key) (expr_view value) rest) → map elem_view all ≡ and (map elem_view xs) (λ rest. t.MoreElems (maybe (expr_in_option key)) (expr_view value) rest)
and_elem xs all x key value e h =
    ap (map elem_view) e ∙ and_view elem_view xs x (λ rest. t.MoreElems (maybe (expr_in_option key)) (expr_view value) rest) (λ rest. h rest ∙ ap (λ (k : t.MaybeExpr). t.MoreElems k (expr_view value) rest) (maybe_is key))
