-- What the code asks of lists of expressions in its own way.
use Rattle.std.specs.Prelude.{◌≢◌}
use Rattle.std.proofs.Common.{◌≡◌, false, List, [], ◌∷◌, ◌++◌, Some, None, length, get_or, map, refl, sym, ap, ◌∙◌, is_some, arith}
use Rattle.go_syntax.specs.Tree as t
use Rattle.go_syntax.specs.View.{expr_view}
use Rattle.go_syntax.specs.declared.tree.Expr.{Expr}
use Rattle.go_grammar.specs.Context.{is_name}
use Rattle.go_grammar.specs.Nodes.{name_in}
use Rattle.go_grammar.specs.StmtSteps.{is_one_name, label_in, last_name}
use Rattle.go_frames.specs.FrameView.{exprs_in, one_of}

-- the last of expressions, one after the others
pub last_name_push : (xs : List Expr) (x : Expr) → last_name (exprs_in (xs ++ x ∷ [])) ≡ name_in (expr_view x)
last_name_push [] x = refl
last_name_push (y ∷ []) x = refl
last_name_push (y ∷ z ∷ xs) x = last_name_push (z ∷ xs) x

named : (e : t.Expr) → is_some (name_in e) ≡ is_name e
named (t.NameExpr at x) = refl
named _ = refl

-- a label is one name alone
pub label_named : (es : List t.Expr) → is_some (label_in es) ≡ is_one_name es
label_named [] = refl
label_named (e ∷ []) = named e
label_named (e ∷ f ∷ es) = refl

-- the label of a list is the name of the one that it holds
pub label_of_one : (es : List t.Expr) (e : t.Expr) → one_of es ≡ Some e → label_in es ≡ name_in e
label_of_one [] e p = grind arith
label_of_one (d ∷ []) e p = grind arith
label_of_one (d ∷ f ∷ es) e p = grind arith

pub label_of_none : (es : List t.Expr) → one_of es ≡ None → label_in es ≡ None
label_of_none [] p = refl
label_of_none (d ∷ []) p = grind arith
label_of_none (d ∷ f ∷ es) p = refl

-- whether a list is one name alone, by its length and its first
pub one_name : (xs : List Expr) (x : Expr) → length xs ≡ 1 → x ≡ get_or xs 0 x → is_one_name (exprs_in xs) ≡ is_name (expr_view x)
one_name [] x n p = grind arith
one_name (y ∷ []) x n p = ap (λ z. is_name (expr_view z)) (sym p)
one_name (y ∷ z ∷ xs) x n p = grind arith

pub not_one_name : (xs : List Expr) → length xs ≢ 1 → is_one_name (exprs_in xs) ≡ false
not_one_name [] n = refl
not_one_name (y ∷ []) n = absurd (n refl)
not_one_name (y ∷ z ∷ xs) n = refl
