-- In expressions that the grammar derives its operators stand between operands.
use Rattle.std.proofs.Common.{ℕ, Bool, List, refl, subst, IsTrue}
use Rattle.gj_base.specs.declared.kind.Op.{Op}
use Rattle.go_syntax.specs.Tree as t
use Rattle.go_syntax.specs.Token.{Token}
use Rattle.go_syntax.specs.declared.kind.TokenKind.{TokenKind}
use Rattle.go_syntax.specs.declared.kind.TokenKind.TheVariants as kind
use Rattle.go_syntax.specs.declared.operator.Operator.TheVariants as operator
use Rattle.go_grammar.specs.Classes.{binary_op, assign_op, IsBinary, IsAssign}
use Rattle.go_grammar.specs.Grammar.{IsTypeName, plain_name, package_name, IsType, type_name, type_parens, pointer_type, receive_type, function_type, begun_type, IsBegunType, slice_type, array_type, counted_array_type, map_type, chan_type, send_type, struct_type, interface_type}
use Rattle.go_grammar.specs.Grammar.{IsExpr, binary, tighter, unary, IsUnary, operator_before, receive_channel, primary, IsPrimary, operand, select, assert, index, slice, full_slice, call_of_none, call, literal, IsOperand, int, rune, string, name, parens, function, function_type_operand, type_operand, PerhapsExpr, without_expr, with_expr, AreExprs, one_expr, more_exprs}
use Rattle.go_sound.specs.SoundTyped.{is_binary, HasOperators, BoundHasOperators, AllHaveOperators}
use Rattle.go_sound.specs.Grammar.{OpOfGrammar}

-- ---- operators

binary_kind : (k : TokenKind) → OpOfGrammar (binary_op k)
binary_kind (kind.Op operator.Add) = refl
binary_kind (kind.Op operator.Sub) = refl
binary_kind (kind.Op operator.Mul) = refl
binary_kind (kind.Op operator.Div) = refl
binary_kind (kind.Op operator.Rem) = refl
binary_kind (kind.Op operator.And) = refl
binary_kind (kind.Op operator.Or) = refl
binary_kind (kind.Op operator.Xor) = refl
binary_kind (kind.Op operator.Shl) = refl
binary_kind (kind.Op operator.Shr) = refl
binary_kind (kind.Op operator.AndNot) = refl
binary_kind (kind.Op operator.AndThen) = refl
binary_kind (kind.Op operator.OrElse) = refl
binary_kind (kind.Op operator.Eq) = refl
binary_kind (kind.Op operator.Ne) = refl
binary_kind (kind.Op operator.Lt) = refl
binary_kind (kind.Op operator.Le) = refl
binary_kind (kind.Op operator.Gt) = refl
binary_kind (kind.Op operator.Ge) = refl
binary_kind _ = tt

assign_kind : (k : TokenKind) → OpOfGrammar (assign_op k)
assign_kind (kind.Op operator.AddAssign) = refl
assign_kind (kind.Op operator.SubAssign) = refl
assign_kind (kind.Op operator.MulAssign) = refl
assign_kind (kind.Op operator.DivAssign) = refl
assign_kind (kind.Op operator.RemAssign) = refl
assign_kind (kind.Op operator.AndAssign) = refl
assign_kind (kind.Op operator.OrAssign) = refl
assign_kind (kind.Op operator.XorAssign) = refl
assign_kind (kind.Op operator.ShlAssign) = refl
assign_kind (kind.Op operator.ShrAssign) = refl
assign_kind (kind.Op operator.AndNotAssign) = refl
assign_kind _ = tt

binary_operator : (op : Op) (u : Token) → IsBinary op u → IsTrue (is_binary op)
binary_operator op u x = subst OpOfGrammar x.binary (binary_kind u.kind)

pub assign_operator : (op : Op) (u : Token) → IsAssign op u → IsTrue (is_binary op)
assign_operator op u x = subst OpOfGrammar x.assign (assign_kind u.kind)

-- ---- types

type_name_operators : {ts : List Token} {e : t.Expr} → IsTypeName ts e → HasOperators e
type_name_operators (plain_name x) = tt
type_name_operators (package_name x y z) = tt

begun_operators : {ts : List Token} {e : t.Expr} → IsBegunType ts e → HasOperators e
begun_operators (slice_type x y d) = tt
begun_operators (array_type x n y d) = tt
begun_operators (counted_array_type x y z d) = tt
begun_operators (map_type x y k z d) = tt
begun_operators (chan_type x n d) = tt
begun_operators (send_type x y d) = tt
begun_operators (struct_type x y d z) = tt
begun_operators (interface_type x y d z) = tt

pub type_operators : {ts : List Token} {e : t.Expr} → IsType ts e → HasOperators e
type_operators (type_name n) = type_name_operators n
type_operators (type_parens x d y) = type_operators d
type_operators (pointer_type x d) = type_operators d
type_operators (receive_type x y d) = tt
type_operators (function_type x s) = tt
type_operators (begun_type d) = begun_operators d

-- ---- expressions

mutual
  pub expr_operators : {k : ℕ} {h : Bool} {ts : List Token} {e : t.Expr} → IsExpr k h ts e → HasOperators e
  expr_operators (binary {u} op x m d d') = (binary_operator op u x, expr_operators d, expr_operators d')
  expr_operators (tighter l d) = expr_operators d
  expr_operators (unary d) = unary_operators d

  unary_operators : {h : Bool} {ts : List Token} {e : t.Expr} → IsUnary h ts e → HasOperators e
  unary_operators (operator_before p x apart d) = unary_operators d
  unary_operators (receive_channel x d) = tt
  unary_operators (primary d) = primary_operators d

  primary_operators : {h : Bool} {ts : List Token} {e : t.Expr} → IsPrimary h ts e → HasOperators e
  primary_operators (operand d) = operand_operators d
  primary_operators (select d w x y) = tt
  primary_operators (assert d w x y k z) = tt
  primary_operators (index d m x i y) = (primary_operators d, expr_operators i)
  primary_operators (slice d m x low y high z) = (primary_operators d, bound_operators low, bound_operators high, tt)
  primary_operators (full_slice d m x low y high z most a) = (primary_operators d, bound_operators low, expr_operators high, expr_operators most)
  primary_operators (call_of_none d m x y) = (primary_operators d, tt)
  primary_operators (call d m x es s c y) = (primary_operators d, all_operators es)
  primary_operators (literal d x l) = tt

  operand_operators : {ts : List Token} {e : t.Expr} → IsOperand ts e → HasOperators e
  operand_operators (int x) = tt
  operand_operators (rune x) = tt
  operand_operators (string x) = tt
  operand_operators (name x) = tt
  operand_operators (parens x d y) = expr_operators d
  operand_operators (function x s b) = tt
  operand_operators (function_type_operand x s) = tt
  operand_operators (type_operand d) = begun_operators d

  bound_operators : {ts : List Token} {e : t.MaybeExpr} → PerhapsExpr ts e → BoundHasOperators e
  bound_operators without_expr = tt
  bound_operators (with_expr d) = expr_operators d

  pub all_operators : {h : Bool} {ts : List Token} {es : t.Exprs} → AreExprs h ts es → AllHaveOperators es
  all_operators (one_expr d) = (expr_operators d, tt)
  all_operators (more_exprs d x ds) = (expr_operators d, all_operators ds)
