-- What it is that tokens are read as a statement: what may come after it, and how it begins.
use Rattle.std.proofs.Common.{◌≡◌, ℕ, Bool, true, false, not, ◌&&◌, ◌||◌, List, [], ◌∷◌, ◌++◌, None, refl, ◌∙◌, ap}
use Rattle.std.proofs.lemmas.Bool.{and_right}
use Rattle.gj_base.specs.declared.place.Place.{Place}
use Rattle.go_syntax.specs.Tree as t
use Rattle.go_syntax.specs.Token.{Token}
use Rattle.go_syntax.specs.declared.kind.TokenKind.{TokenKind}
use Rattle.go_syntax.specs.declared.kind.TokenKind.TheVariants as kind
use Rattle.go_syntax.specs.declared.keyword.Keyword.TheVariants as word
use Rattle.go_syntax.specs.declared.operator.Operator.TheVariants as o
use Rattle.go_grammar.specs.Classes.{IsOp, IsWord, IsSemicolon, written, inserted, begins_type, binary_op, assign_op, place_of}
use Rattle.go_grammar.specs.Context.{wants_brace, stmt_wants_brace}
use Rattle.go_grammar.specs.Frames.{Mode, Spot, AStmt, OfExpr, OfStmt, Done, Stack, Operand, Chain, Simple}
use Rattle.go_grammar.specs.Limits.{stmt_fits}
use Rattle.go_grammar.specs.Nodes.{is_op, is_word, is_name_token, begins_expr, begins_stmt}
use Rattle.go_grammar.specs.Parsed.{run}
use Rattle.go_grammar.specs.StmtSteps.{takes_guard, is_tag, is_listed}
use Rattle.go_grammar.proofs.Stepping.{ctx, of_kind}
use Rattle.go_grammar.proofs.Readings.{AfterExpr}

-- a token that goes on with no simple statement, a `{` or a `:` aside
pub record EndsStmt (u : Token) : Type 0 where
  pub no_type : begins_type u.kind ≡ false
  pub no_dot : is_op o.Dot u ≡ false
  pub no_bracket : is_op o.LeftBracket u ≡ false
  pub no_paren : is_op o.LeftParen u ≡ false
  pub no_comma : is_op o.Comma u ≡ false
  pub no_assign : is_op o.Assign u ≡ false
  pub no_define : is_op o.Define u ≡ false
  pub no_arrow : is_op o.Arrow u ≡ false
  pub no_increment : is_op o.Increment u ≡ false
  pub no_decrement : is_op o.Decrement u ≡ false
  pub no_binary : binary_op u.kind ≡ None
  pub no_op : assign_op u.kind ≡ None

-- what holds of a token's kind
ends_like : (u : Token) (k : TokenKind) → u.kind ≡ k → EndsStmt (of_kind k) → EndsStmt u
ends_like u k h x = record {
  no_type = ap begins_type h ∙ x.no_type;
  no_dot = ap (λ y. is_op o.Dot (of_kind y)) h ∙ x.no_dot;
  no_bracket = ap (λ y. is_op o.LeftBracket (of_kind y)) h ∙ x.no_bracket;
  no_paren = ap (λ y. is_op o.LeftParen (of_kind y)) h ∙ x.no_paren;
  no_comma = ap (λ y. is_op o.Comma (of_kind y)) h ∙ x.no_comma;
  no_assign = ap (λ y. is_op o.Assign (of_kind y)) h ∙ x.no_assign;
  no_define = ap (λ y. is_op o.Define (of_kind y)) h ∙ x.no_define;
  no_arrow = ap (λ y. is_op o.Arrow (of_kind y)) h ∙ x.no_arrow;
  no_increment = ap (λ y. is_op o.Increment (of_kind y)) h ∙ x.no_increment;
  no_decrement = ap (λ y. is_op o.Decrement (of_kind y)) h ∙ x.no_decrement;
  no_binary = ap binary_op h ∙ x.no_binary;
  no_op = ap assign_op h ∙ x.no_op;
}

semi_ends : EndsStmt (of_kind kind.Semi)
semi_ends = record { no_type = refl; no_dot = refl; no_bracket = refl; no_paren = refl; no_comma = refl; no_assign = refl; no_define = refl; no_arrow = refl; no_increment = refl; no_decrement = refl; no_binary = refl; no_op = refl }

auto_ends : EndsStmt (of_kind kind.Auto)
auto_ends = record { no_type = refl; no_dot = refl; no_bracket = refl; no_paren = refl; no_comma = refl; no_assign = refl; no_define = refl; no_arrow = refl; no_increment = refl; no_decrement = refl; no_binary = refl; no_op = refl }

close_ends : EndsStmt (of_kind (kind.Op o.RightBrace))
close_ends = record { no_type = refl; no_dot = refl; no_bracket = refl; no_paren = refl; no_comma = refl; no_assign = refl; no_define = refl; no_arrow = refl; no_increment = refl; no_decrement = refl; no_binary = refl; no_op = refl }

open_ends : EndsStmt (of_kind (kind.Op o.LeftBrace))
open_ends = record { no_type = refl; no_dot = refl; no_bracket = refl; no_paren = refl; no_comma = refl; no_assign = refl; no_define = refl; no_arrow = refl; no_increment = refl; no_decrement = refl; no_binary = refl; no_op = refl }

colon_ends : EndsStmt (of_kind (kind.Op o.Colon))
colon_ends = record { no_type = refl; no_dot = refl; no_bracket = refl; no_paren = refl; no_comma = refl; no_assign = refl; no_define = refl; no_arrow = refl; no_increment = refl; no_decrement = refl; no_binary = refl; no_op = refl }

case_ends : EndsStmt (of_kind (kind.Word word.Case))
case_ends = record { no_type = refl; no_dot = refl; no_bracket = refl; no_paren = refl; no_comma = refl; no_assign = refl; no_define = refl; no_arrow = refl; no_increment = refl; no_decrement = refl; no_binary = refl; no_op = refl }

default_ends : EndsStmt (of_kind (kind.Word word.Default))
default_ends = record { no_type = refl; no_dot = refl; no_bracket = refl; no_paren = refl; no_comma = refl; no_assign = refl; no_define = refl; no_arrow = refl; no_increment = refl; no_decrement = refl; no_binary = refl; no_op = refl }

pub ends_semicolon : {u : Token} → IsSemicolon u → EndsStmt u
ends_semicolon {u} (written h) = ends_like u kind.Semi h semi_ends
ends_semicolon {u} (inserted h) = ends_like u kind.Auto h auto_ends

pub ends_open : {u : Token} → IsOp o.LeftBrace u → EndsStmt u
ends_open {u} h = ends_like u (kind.Op o.LeftBrace) h.op open_ends

pub ends_colon : {u : Token} → IsOp o.Colon u → EndsStmt u
ends_colon {u} h = ends_like u (kind.Op o.Colon) h.op colon_ends

-- a token that ends a statement of a list
pub record EndsList (u : Token) : Type 0 where
  pub ends : EndsStmt u
  pub no_brace : is_op o.LeftBrace u ≡ false
  pub no_colon : is_op o.Colon u ≡ false
  pub no_name : is_name_token u.kind ≡ false
  pub no_else : is_word word.Else u ≡ false
  pub no_expr : begins_expr u.kind ≡ false
  pub no_stmt : begins_stmt u ≡ false

list_like : (u : Token) (k : TokenKind) → u.kind ≡ k → EndsList (of_kind k) → EndsList u
list_like u k h x = record {
  ends = ends_like u k h x.ends;
  no_brace = ap (λ y. is_op o.LeftBrace (of_kind y)) h ∙ x.no_brace;
  no_colon = ap (λ y. is_op o.Colon (of_kind y)) h ∙ x.no_colon;
  no_name = ap is_name_token h ∙ x.no_name;
  no_else = ap (λ y. is_word word.Else (of_kind y)) h ∙ x.no_else;
  no_expr = ap begins_expr h ∙ x.no_expr;
  no_stmt = ap (λ y. begins_stmt (of_kind y)) h ∙ x.no_stmt;
}

semi_list : EndsList (of_kind kind.Semi)
semi_list = record { ends = semi_ends; no_brace = refl; no_colon = refl; no_name = refl; no_else = refl; no_expr = refl; no_stmt = refl }

auto_list : EndsList (of_kind kind.Auto)
auto_list = record { ends = auto_ends; no_brace = refl; no_colon = refl; no_name = refl; no_else = refl; no_expr = refl; no_stmt = refl }

close_list : EndsList (of_kind (kind.Op o.RightBrace))
close_list = record { ends = close_ends; no_brace = refl; no_colon = refl; no_name = refl; no_else = refl; no_expr = refl; no_stmt = refl }

case_list : EndsList (of_kind (kind.Word word.Case))
case_list = record { ends = case_ends; no_brace = refl; no_colon = refl; no_name = refl; no_else = refl; no_expr = refl; no_stmt = refl }

default_list : EndsList (of_kind (kind.Word word.Default))
default_list = record { ends = default_ends; no_brace = refl; no_colon = refl; no_name = refl; no_else = refl; no_expr = refl; no_stmt = refl }

pub list_semicolon : {u : Token} → IsSemicolon u → EndsList u
list_semicolon {u} (written h) = list_like u kind.Semi h semi_list
list_semicolon {u} (inserted h) = list_like u kind.Auto h auto_list

pub list_close : {u : Token} → IsOp o.RightBrace u → EndsList u
list_close {u} h = list_like u (kind.Op o.RightBrace) h.op close_list

pub list_case : {u : Token} → IsWord word.Case u → EndsList u
list_case {u} h = list_like u (kind.Word word.Case) h.word case_list

pub list_default : {u : Token} → IsWord word.Default u → EndsList u
list_default {u} h = list_like u (kind.Word word.Default) h.word default_list

-- a `{` may come after the expression in a header alone, where it doesn't belong to it
abbrev pub BraceMay : Bool → t.Expr → Token → Type 0
BraceMay h e u = (is_op o.LeftBrace u && (not h || wants_brace e)) ≡ false

pub ended_expr : (h : Bool) (e : t.Expr) (u : Token) → EndsStmt u → BraceMay h e u → AfterExpr h e u
ended_expr h e u x brace = ((and_right _ _ x.no_type, x.no_dot, x.no_bracket, x.no_paren, brace), x.no_binary)

abbrev pub spot : ℕ → Bool → Mode → Place → Spot
spot b h m at = record { ctx = ctx 0 b h false; mode = m; place = at }

abbrev pub StmtBraceMay : Bool → t.Stmt → Token → Type 0
StmtBraceMay h s u = (is_op o.LeftBrace u && (not h || stmt_wants_brace s)) ≡ false

-- a simple statement, from its first expression on
abbrev pub SimpleReads : ℕ → Bool → List Token → t.Stmt → Type 0
SimpleReads b h ts x = stmt_fits b x ≡ true → (m : Mode) → is_tag m ≡ false → (u : Token) (us : List Token) (s : Stack) → EndsStmt u → (is_op o.Colon u && is_listed m) ≡ false → StmtBraceMay h x u → run (ts ++ u ∷ us) (OfExpr (Operand (ctx 0 b h (takes_guard m))) ∷ OfExpr (Chain (ctx 0 b h (takes_guard m))) ∷ OfStmt (Simple (spot b h m (place_of ts)) []) ∷ s) ≡ run (u ∷ us) (Done (AStmt x) ∷ s)
