-- Rows by hand: scopes, and the names that occur. Go specification (as of Go 1.17), "Blocks",
-- "Declarations and scope", "Iota", "Blank identifier".
use Rattle.std.specs.Prelude.{◌≡◌, ℕ, List, [], ◌∷◌, true, false, Some, None, codes}
use Rattle.gj_base.specs.declared.kind.Op.TheVariants as operator
use Rattle.go_syntax.specs.Tree as t
use Rattle.go_typing.specs.Env.{Decl, variable, type_name, Bind}
use Rattle.go_typing.specs.Answer.{Flaw, Answer, type_, blank}
use Rattle.go_typing.specs.Typing.{typing, flaws}
use Rattle.go_typing.specs.Scopes.{Env, new_env, visible, entered, pushed, popped, counting, innermost, place_in, declared, settled}
use Rattle.go_typing.specs.Uses.{names_in}
use Rattle.go_typing.specs.TypingRowWords.{at, name, num, two, call, named_fault, a_value, var, int, uint8, whole, names}

abbrev pub main_env : Env
main_env = entered (codes "main") (new_env names)

abbrev pub bind_at : ℕ → List ℕ → Decl → Bind
bind_at n x what = record { name = x; place = at n; what = what }

-- `x` is a package variable 4, and in a block variable 6
abbrev pub outer_x : Env
outer_x = declared (bind_at 4 (codes "x") (variable 4 int)) main_env

abbrev pub inner_x : Env
inner_x = declared (bind_at 10 (codes "x") (variable 6 uint8)) (pushed outer_x)

-- `int` is a variable in a block
abbrev pub inner_int : Env
inner_int = declared (bind_at 10 (codes "int") (variable 6 uint8)) (pushed main_env)

abbrev pub typed_in : Env → t.Expr → Answer
typed_in env e = typing names (visible env) e

abbrev pub told_in : Env → t.Expr → List Flaw
told_in env e = flaws names (visible env) e

abbrev pub x_ : t.Expr
x_ = name (codes "x") 0

-- `func() { y := x; x++ }(z).w`, whose names aren't looked up
abbrev pub literal_called : t.Expr
literal_called = t.SelectExpr (at 0) (t.CallExpr (at 0) (t.FuncExpr (at 0) (t.SigOf (at 4) t.NoParams t.NoResults) (t.BlockOf (at 8)
    (t.MoreStmts (t.DefineStmt (at 9) (t.MoreExprs (name (codes "y") 9) t.NoExprs) (t.MoreExprs (name (codes "x") 14) t.NoExprs))
    (t.MoreStmts (t.IncDecStmt (at 17) (t.MoreExprs (name (codes "x") 17) t.NoExprs) true) t.NoStmts)) (at 20)))
    (t.MoreExprs (name (codes "z") 22) t.NoExprs) false) (record { place = at 25; text = codes "w" })

pub record RowsScopes : Type 0 where
  pub outer_name_is_there : typed_in outer_x x_ ≡ a_value (var int 4) int
  pub inner_name_hides : typed_in inner_x x_ ≡ a_value (var uint8 6) uint8
  pub outer_name_comes_back : typed_in (popped inner_x) x_ ≡ a_value (var int 4) int
  pub outer_name_is_seen_in_a_block : typed_in (pushed outer_x) x_ ≡ a_value (var int 4) int
  pub predeclared_names_are_hidden : typed_in inner_int (name (codes "int") 0) ≡ a_value (var uint8 6) uint8
  pub other_names_stay : typed_in inner_int (name (codes "uint8") 0) ≡ type_ uint8
  pub conversion_by_a_hidden_name : told_in inner_int (call (name (codes "int") 0) (num (codes "4") 4 ∷ [])) ≡ record { place = at 0; code = 59; name = [] } ∷ []
  pub no_name_of_another_package : told_in (entered (codes "a") outer_x) x_ ≡ named_fault 0 50 (codes "x") ∷ []
  pub packages_keep_their_names : typed_in (entered (codes "main") (entered (codes "a") outer_x)) x_ ≡ a_value (var int 4) int
  pub blocks_are_left : typed_in (entered (codes "main") inner_x) x_ ≡ a_value (var int 4) int
  pub second_declaration_has_a_place : place_in (codes "x") (innermost inner_x) ≡ Some (at 10)
  pub second_declaration_changes_nothing : typed_in (declared (bind_at 12 (codes "x") (variable 8 int)) inner_x) x_ ≡ a_value (var uint8 6) uint8
  pub declaration_in_a_block_is_no_second : place_in (codes "x") (innermost (pushed outer_x)) ≡ None
  pub settled_names_change : typed_in (settled (codes "x") (type_name int) inner_x) x_ ≡ type_ int
  pub iota_counts : typed_in (counting (Some 4) main_env) (name (codes "iota") 0) ≡ whole 4
  pub iota_ends : told_in (counting None (counting (Some 4) main_env)) (name (codes "iota") 0) ≡ named_fault 0 50 (codes "iota") ∷ []
  pub iota_may_be_hidden : typed_in (counting (Some 4) (declared (bind_at 10 (codes "iota") (variable 6 uint8)) main_env)) (name (codes "iota") 0) ≡ a_value (var uint8 6) uint8
  pub blank_is_never_found : typed_in (declared (bind_at 4 (codes "_") (variable 4 int)) main_env) (name (codes "_") 0) ≡ blank
  pub names_of_operands : names_in (two (name (codes "x") 0) operator.Add (call (name (codes "f") 4) (name (codes "y") 6 ∷ []))) ≡ codes "x" ∷ codes "f" ∷ codes "y" ∷ []
  pub names_of_a_literal : names_in literal_called ≡ codes "y" ∷ codes "x" ∷ codes "x" ∷ codes "z" ∷ []
