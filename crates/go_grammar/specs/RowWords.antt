-- Short words for the rows: tokens of small files in order, and parts of trees.
use Rattle.std.specs.Prelude.{ℕ, zero, suc, List, [], ◌∷◌, ◌++◌, None, codes}
use Rattle.gj_base.specs.declared.place.Place.{Place}
use Rattle.go_syntax.specs.Tree as t
use Rattle.go_syntax.specs.Token.{Token, token}
use Rattle.go_syntax.specs.declared.kind.TokenKind.{TokenKind}
use Rattle.go_syntax.specs.declared.kind.TokenKind.TheVariants as kind
use Rattle.go_syntax.specs.declared.keyword.Keyword.{Keyword}
use Rattle.go_syntax.specs.declared.keyword.Keyword.TheVariants as word
use Rattle.go_syntax.specs.declared.operator.Operator.{Operator}
use Rattle.go_syntax.specs.declared.operator.Operator.TheVariants as o
use Rattle.go_syntax.specs.declared.tree.Name.{Name}
use Rattle.go_grammar.specs.Parsed.{Outcome, Tree}

-- a token that stands nowhere yet; the text counts where the kind leaves it open
pub record Piece : Type 0 where
  pub kind : TokenKind
  pub text : List ℕ

-- ---- pieces

abbrev pub name : List ℕ → Piece
name text = record { kind = kind.Name; text = text }

abbrev pub number : List ℕ → Piece
number text = record { kind = kind.Int; text = text }

abbrev pub string : List ℕ → Piece
string text = record { kind = kind.Str; text = text }

abbrev pub sign : Operator → Piece
sign x = record { kind = kind.Op x; text = [] }

abbrev pub keyword : Keyword → Piece
keyword x = record { kind = kind.Word x; text = [] }

-- a semicolon of the text, that of a line's end, and the end of the file
abbrev pub semi : Piece
semi = record { kind = kind.Semi; text = [] }

abbrev pub line : Piece
line = record { kind = kind.Auto; text = [] }

abbrev pub eof : Piece
eof = record { kind = kind.End; text = [] }

-- as often as the number says
abbrev pub times : ℕ → List Piece → List Piece
times zero ps = []
times (suc n) ps = ps ++ times n ps

-- ---- tokens

abbrev pub tokens_from : ℕ → List Piece → List Token
tokens_from n [] = []
tokens_from n (p ∷ ps) = token 0 p.kind n p.text ∷ tokens_from (suc n) ps

-- the pieces as tokens of file 0, the n-th at offset n
abbrev pub tokens : List Piece → List Token
tokens ps = tokens_from 0 ps

-- `package p` and a line's end, at offsets 0 to 2, then these from offset 3 on
abbrev pub file : List Piece → List Token
file ps = tokens (keyword word.Package ∷ name (codes "p") ∷ line ∷ ps)

-- the same with `func f() {` at offsets 3 to 7, these from offset 8 on, and its `}`
abbrev pub func : List Piece → List Token
func ps = file (keyword word.Func ∷ name (codes "f") ∷ sign o.LeftParen ∷ sign o.RightParen ∷ sign o.LeftBrace ∷ ps ++ sign o.RightBrace ∷ line ∷ eof ∷ [])

-- the same with `x =` at offsets 8 and 9, and these from offset 10 on
abbrev pub assigned : List Piece → List Token
assigned ps = func (name (codes "x") ∷ sign o.Assign ∷ ps)

-- ---- trees

abbrev pub at : ℕ → Place
at n = record { file = 0; offset = n }

-- a piece's text as a name, as an expression and as a number, at this offset
abbrev pub id : Piece → ℕ → Name
id p n = record { place = at n; text = p.text }

abbrev pub the : Piece → ℕ → t.Expr
the p n = t.NameExpr (at n) p.text

abbrev pub int_at : Piece → ℕ → t.Expr
int_at p n = t.IntExpr (at n) p.text

abbrev pub one : t.Expr → t.Exprs
one e = t.MoreExprs e t.NoExprs

abbrev pub two : t.Expr → t.Expr → t.Exprs
two e f = t.MoreExprs e (one f)

abbrev pub only : t.Stmt → t.Stmts
only s = t.MoreStmts s t.NoStmts

abbrev pub empty_block : ℕ → ℕ → t.Block
empty_block n m = t.BlockOf (at n) t.NoStmts (at m)

abbrev pub nothing : t.Sig
nothing = t.SigOf (at 5) t.NoParams t.NoResults

-- a file of these imports and declarations
abbrev pub file_with : List t.Import → List t.Decl → Outcome
file_with imports decls = Tree (record { «package» = id (name (codes "p")) 1; imports = imports; decls = decls })

-- one of a function with these statements, whose `}` stands at this offset
abbrev pub func_with : t.Stmts → ℕ → Outcome
func_with ss n = file_with [] (t.FuncDecl (at 3) (id (name (codes "f")) 4) nothing (t.BlockOf (at 7) ss (at n)) ∷ [])

abbrev pub does : t.Stmt → ℕ → Outcome
does s n = func_with (only s) n

-- the same with this on the right side of `x =`
abbrev pub assigns : t.Expr → ℕ → Outcome
assigns e n = does (t.AssignStmt (at 8) (one (the (name (codes "x")) 8)) None (one e)) n
