-- Go specification (as of Go 1.17), "Operators": classes of tokens.
use Rattle.std.specs.Prelude.{◌≡◌, ℕ, Bool, true, false, List, [], ◌∷◌, Option, Some, None}
use Rattle.gj_base.specs.declared.place.Place.{Place}
use Rattle.gj_base.specs.declared.kind.Op.{Op}
use Rattle.gj_base.specs.declared.kind.Op.TheVariants as op
use Rattle.go_syntax.specs.Token.{Token}
use Rattle.go_syntax.specs.declared.kind.TokenKind.{TokenKind}
use Rattle.go_syntax.specs.declared.kind.TokenKind.TheVariants as kind
use Rattle.go_syntax.specs.declared.keyword.Keyword.{Keyword}
use Rattle.go_syntax.specs.declared.keyword.Keyword.TheVariants as word
use Rattle.go_syntax.specs.declared.operator.Operator.{Operator}
use Rattle.go_syntax.specs.declared.operator.Operator.TheVariants as operator
use Rattle.go_syntax.specs.declared.tree.Name.{Name}
use Rattle.go_syntax.specs.declared.tree.Prefix.{Prefix}
use Rattle.go_syntax.specs.declared.tree.Prefix.TheVariants as «prefix»

-- this operator or punctuation
pub record IsOp (o : Operator) (t : Token) : Type 0 where
  pub op : t.kind ≡ kind.Op o

pub record IsWord (w : Keyword) (t : Token) : Type 0 where
  pub word : t.kind ≡ kind.Word w

pub record IsName (t : Token) : Type 0 where
  pub name : t.kind ≡ kind.Name

pub record IsString (t : Token) : Type 0 where
  pub string : t.kind ≡ kind.Str

pub record IsEnd (t : Token) : Type 0 where
  pub «end» : t.kind ≡ kind.End

-- `;`, written or inserted
pub data IsSemicolon : Token → Type 0 where
  written : {t : Token} → t.kind ≡ kind.Semi → IsSemicolon t
  inserted : {t : Token} → t.kind ≡ kind.Auto → IsSemicolon t

-- a name token as a name of the tree
abbrev pub name_of : Token → Name
name_of t = record { place = t.place; text = t.text }

-- where the first of some tokens stands
abbrev pub place_of : List Token → Place
place_of [] = record { file = 0; offset = 0 }
place_of (t ∷ ts) = t.place

-- the binary operator that a token is
abbrev pub binary_op : TokenKind → Option Op
binary_op (kind.Op operator.Add) = Some op.Add
binary_op (kind.Op operator.Sub) = Some op.Sub
binary_op (kind.Op operator.Mul) = Some op.Mul
binary_op (kind.Op operator.Div) = Some op.Div
binary_op (kind.Op operator.Rem) = Some op.Rem
binary_op (kind.Op operator.And) = Some op.And
binary_op (kind.Op operator.Or) = Some op.Or
binary_op (kind.Op operator.Xor) = Some op.Xor
binary_op (kind.Op operator.Shl) = Some op.Shl
binary_op (kind.Op operator.Shr) = Some op.Shr
binary_op (kind.Op operator.AndNot) = Some op.AndNot
binary_op (kind.Op operator.AndThen) = Some op.AndThen
binary_op (kind.Op operator.OrElse) = Some op.OrElse
binary_op (kind.Op operator.Eq) = Some op.Eq
binary_op (kind.Op operator.Ne) = Some op.Ne
binary_op (kind.Op operator.Lt) = Some op.Lt
binary_op (kind.Op operator.Le) = Some op.Le
binary_op (kind.Op operator.Gt) = Some op.Gt
binary_op (kind.Op operator.Ge) = Some op.Ge
binary_op _ = None

pub record IsBinary (o : Op) (t : Token) : Type 0 where
  pub binary : binary_op t.kind ≡ Some o

-- the precedence of a binary operator, 5 the highest
abbrev pub level : Op → ℕ
level op.Mul = 5
level op.Div = 5
level op.Rem = 5
level op.Shl = 5
level op.Shr = 5
level op.And = 5
level op.AndNot = 5
level op.Add = 4
level op.Sub = 4
level op.Or = 4
level op.Xor = 4
level op.Eq = 3
level op.Ne = 3
level op.Lt = 3
level op.Le = 3
level op.Gt = 3
level op.Ge = 3
level op.AndThen = 2
level op.OrElse = 1
level _ = 0

-- the operator of `op=` that a token is
abbrev pub assign_op : TokenKind → Option Op
assign_op (kind.Op operator.AddAssign) = Some op.Add
assign_op (kind.Op operator.SubAssign) = Some op.Sub
assign_op (kind.Op operator.MulAssign) = Some op.Mul
assign_op (kind.Op operator.DivAssign) = Some op.Div
assign_op (kind.Op operator.RemAssign) = Some op.Rem
assign_op (kind.Op operator.AndAssign) = Some op.And
assign_op (kind.Op operator.OrAssign) = Some op.Or
assign_op (kind.Op operator.XorAssign) = Some op.Xor
assign_op (kind.Op operator.ShlAssign) = Some op.Shl
assign_op (kind.Op operator.ShrAssign) = Some op.Shr
assign_op (kind.Op operator.AndNotAssign) = Some op.AndNot
assign_op _ = None

pub record IsAssign (o : Op) (t : Token) : Type 0 where
  pub assign : assign_op t.kind ≡ Some o

-- the operator before an operand that a token is
abbrev pub prefix_op : TokenKind → Option Prefix
prefix_op (kind.Op operator.Add) = Some «prefix».Plus
prefix_op (kind.Op operator.Sub) = Some «prefix».Neg
prefix_op (kind.Op operator.Not) = Some «prefix».Not
prefix_op (kind.Op operator.Xor) = Some «prefix».Compl
prefix_op (kind.Op operator.Mul) = Some «prefix».Star
prefix_op (kind.Op operator.And) = Some «prefix».Address
prefix_op (kind.Op operator.Arrow) = Some «prefix».Receive
prefix_op _ = None

-- a type may begin with the token
abbrev pub begins_type : TokenKind → Bool
begins_type kind.Name = true
begins_type (kind.Op operator.LeftParen) = true
begins_type (kind.Op operator.LeftBracket) = true
begins_type (kind.Op operator.Mul) = true
begins_type (kind.Op operator.Arrow) = true
begins_type (kind.Word word.Chan) = true
begins_type (kind.Word word.Func) = true
begins_type (kind.Word word.Interface) = true
begins_type (kind.Word word.Map) = true
begins_type (kind.Word word.Struct) = true
begins_type _ = false

-- where the token after some tokens' place stands: the first of those that follow, or else this one
abbrev pub place_before : List Token → Place → Place
place_before [] at = at
place_before (t ∷ ts) at = t.place
