-- Rows worked out by hand from the grammar: small files, and what each of them is.
-- Go specification (as of Go 1.17), "Operators", "Composite literals", "Channel types", "Function types",
-- "Blocks", "If statements", "Labeled statements", "Type switches", "Source file organization".
use Rattle.std.specs.Prelude.{◌≡◌, ◌+◌, ℕ, zero, suc, List, [], ◌∷◌, ◌++◌, true, false, Some, None, codes}
use Rattle.gj_base.specs.declared.kind.Op.TheVariants as op
use Rattle.go_syntax.specs.Tree as t
use Rattle.go_syntax.specs.Token.{Token}
use Rattle.go_syntax.specs.declared.keyword.Keyword.TheVariants as word
use Rattle.go_syntax.specs.declared.operator.Operator.TheVariants as o
use Rattle.go_syntax.specs.declared.tree.Prefix.TheVariants as «prefix»
use Rattle.go_syntax.specs.declared.tree.ChanDir.TheVariants as dir
use Rattle.go_grammar.specs.Parsed.{Fault, parsed}
use Rattle.go_grammar.specs.RowWords.{Piece, name, number, string, sign, keyword, semi, line, eof, times, file, func, assigned, at, id, the, int_at, one, two, only, empty_block, file_with, does, assigns}

-- ---- names

abbrev pub a : Piece
a = name (codes "a")

abbrev pub b : Piece
b = name (codes "b")

abbrev pub c : Piece
c = name (codes "c")

abbrev pub k : Piece
k = name (codes "k")

abbrev pub m : Piece
m = name (codes "m")

abbrev pub r : Piece
r = name (codes "r")

abbrev pub v : Piece
v = name (codes "v")

abbrev pub x : Piece
x = name (codes "x")

abbrev pub y : Piece
y = name (codes "y")

abbrev pub L : Piece
L = name (codes "L")

abbrev pub T : Piece
T = name (codes "T")

abbrev pub name_int : Piece
name_int = name (codes "int")

-- ---- expressions

abbrev pub and_then_plus : List Token
and_then_plus = assigned (a ∷ sign o.And ∷ b ∷ sign o.Add ∷ c ∷ [])

abbrev pub plus_then_and : List Token
plus_then_and = assigned (a ∷ sign o.Add ∷ b ∷ sign o.And ∷ c ∷ [])

abbrev pub minus_twice : List Token
minus_twice = assigned (a ∷ sign o.Sub ∷ b ∷ sign o.Sub ∷ c ∷ [])

abbrev pub minus_before_times : List Token
minus_before_times = assigned (sign o.Sub ∷ a ∷ sign o.Mul ∷ b ∷ [])

abbrev pub parts_of_an_operand : List Token
parts_of_an_operand = assigned (a ∷ sign o.LeftParen ∷ b ∷ sign o.RightParen ∷ sign o.Dot ∷ y ∷ sign o.LeftBracket ∷ c ∷ sign o.RightBracket ∷ [])

abbrev pub literal_of_a_name : List Token
literal_of_a_name = assigned (T ∷ sign o.LeftBrace ∷ sign o.RightBrace ∷ [])

abbrev pub arrow_before_conversion : List Token
arrow_before_conversion = assigned (sign o.Arrow ∷ keyword word.Chan ∷ name_int ∷ sign o.LeftParen ∷ c ∷ sign o.RightParen ∷ [])

abbrev pub slice_of_a_qualified_name : List Token
slice_of_a_qualified_name = assigned (sign o.LeftBracket ∷ sign o.RightBracket ∷ a ∷ sign o.Dot ∷ T ∷ [])

abbrev pub slice_before_assertion : List Token
slice_before_assertion = assigned (sign o.LeftBracket ∷ sign o.RightBracket ∷ T ∷ sign o.Dot ∷ sign o.LeftParen ∷ name_int ∷ sign o.RightParen ∷ [])

-- ---- headers

abbrev pub name_before_a_block : List Token
name_before_a_block = func (keyword word.If ∷ x ∷ sign o.LeftBrace ∷ sign o.RightBrace ∷ [])

abbrev pub literal_in_a_header : List Token
literal_in_a_header = func (keyword word.If ∷ sign o.LeftBracket ∷ sign o.RightBracket ∷ name_int ∷ sign o.LeftBrace ∷ number (codes "1") ∷ sign o.RightBrace ∷ sign o.LeftBrace ∷ sign o.RightBrace ∷ [])

abbrev pub literal_in_parentheses : List Token
literal_in_parentheses = func (keyword word.If ∷ sign o.LeftParen ∷ T ∷ sign o.LeftBrace ∷ sign o.RightBrace ∷ sign o.RightParen ∷ sign o.LeftBrace ∷ sign o.RightBrace ∷ [])

-- ---- statements

abbrev pub channel_variable : List Token
channel_variable = func (keyword word.Var ∷ x ∷ sign o.Arrow ∷ keyword word.Chan ∷ name_int ∷ [])

abbrev pub no_last_semicolon : List Token
no_last_semicolon = func (a ∷ sign o.LeftParen ∷ sign o.RightParen ∷ [])

abbrev pub last_semicolon : List Token
last_semicolon = func (a ∷ sign o.LeftParen ∷ sign o.RightParen ∷ semi ∷ [])

abbrev pub else_after_else : List Token
else_after_else = func (keyword word.If ∷ a ∷ sign o.LeftBrace ∷ sign o.RightBrace ∷ keyword word.Else ∷ keyword word.If ∷ b ∷ sign o.LeftBrace ∷ sign o.RightBrace ∷ keyword word.Else ∷ sign o.LeftBrace ∷ sign o.RightBrace ∷ [])

abbrev pub label_of_a_call : List Token
label_of_a_call = func (L ∷ sign o.Colon ∷ a ∷ sign o.LeftParen ∷ sign o.RightParen ∷ [])

abbrev pub label_at_the_end : List Token
label_at_the_end = func (L ∷ sign o.Colon ∷ [])

abbrev pub guard_with_a_name : List Token
guard_with_a_name = func (keyword word.Switch ∷ y ∷ sign o.Define ∷ x ∷ sign o.Dot ∷ sign o.LeftParen ∷ keyword word.Type ∷ sign o.RightParen ∷ sign o.LeftBrace ∷ sign o.RightBrace ∷ [])

abbrev pub guard_without_a_name : List Token
guard_without_a_name = func (keyword word.Switch ∷ x ∷ sign o.Dot ∷ sign o.LeftParen ∷ keyword word.Type ∷ sign o.RightParen ∷ sign o.LeftBrace ∷ sign o.RightBrace ∷ [])

abbrev pub range_with_two_names : List Token
range_with_two_names = func (keyword word.For ∷ k ∷ sign o.Comma ∷ v ∷ sign o.Define ∷ keyword word.Range ∷ m ∷ sign o.LeftBrace ∷ sign o.RightBrace ∷ [])

abbrev pub receive_or_default : List Token
receive_or_default = func (keyword word.Select ∷ sign o.LeftBrace ∷ keyword word.Case ∷ v ∷ sign o.Define ∷ sign o.Arrow ∷ c ∷ sign o.Colon ∷ keyword word.Default ∷ sign o.Colon ∷ sign o.RightBrace ∷ [])

abbrev pub repeated_constant : List Token
repeated_constant = func (keyword word.Const ∷ sign o.LeftParen ∷ a ∷ sign o.Assign ∷ number (codes "0") ∷ semi ∷ b ∷ sign o.RightParen ∷ [])

-- ---- files

abbrev pub package_alone : List Token
package_alone = file (eof ∷ [])

abbrev pub two_imports : List Token
two_imports = file (keyword word.Import ∷ sign o.LeftParen ∷ string (codes "q") ∷ semi ∷ m ∷ string (codes "r") ∷ sign o.RightParen ∷ semi ∷ eof ∷ [])

abbrev pub two_names_and_a_type : List Token
two_names_and_a_type = file (keyword word.Func ∷ m ∷ sign o.LeftParen ∷ a ∷ sign o.Comma ∷ b ∷ T ∷ sign o.RightParen ∷ sign o.LeftBrace ∷ sign o.RightBrace ∷ line ∷ eof ∷ [])

abbrev pub method_of_a_pointer : List Token
method_of_a_pointer = file (keyword word.Func ∷ sign o.LeftParen ∷ r ∷ sign o.Mul ∷ T ∷ sign o.RightParen ∷ m ∷ sign o.LeftParen ∷ sign o.RightParen ∷ sign o.LeftBrace ∷ sign o.RightBrace ∷ line ∷ eof ∷ [])

-- ---- faults

abbrev pub missing_operand : List Token
missing_operand = assigned (a ∷ sign o.Add ∷ [])

abbrev pub missing_type : List Token
missing_type = func (keyword word.Var ∷ x ∷ line ∷ [])

abbrev pub two_operands : List Token
two_operands = assigned (a ∷ string (codes "s") ∷ [])

abbrev pub open_at_the_end : List Token
open_at_the_end = file (keyword word.Func ∷ m ∷ sign o.LeftParen ∷ sign o.RightParen ∷ sign o.LeftBrace ∷ eof ∷ [])

abbrev pub late_import : List Token
late_import = file (keyword word.Var ∷ x ∷ T ∷ semi ∷ keyword word.Import ∷ string (codes "q") ∷ semi ∷ eof ∷ [])

-- ---- limits

-- `x =` and so many `(`, `a`, as many `)`
abbrev pub parentheses : ℕ → List Token
parentheses n = assigned (times n (sign o.LeftParen ∷ []) ++ a ∷ times n (sign o.RightParen ∷ []))

-- so many parentheses round a name, the first at this offset
abbrev pub in_parentheses : ℕ → ℕ → t.Expr
in_parentheses zero i = the a i
in_parentheses (suc n) i = t.ParenExpr (at i) (in_parentheses n (suc i))

-- `x = a` and so many `+ a`
abbrev pub sum : ℕ → List Token
sum n = assigned (a ∷ times n (sign o.Add ∷ a ∷ []))

-- so many sums from left to right of names, the first one at offset 10
abbrev pub sum_tree : ℕ → t.Expr
sum_tree zero = the a 10
sum_tree (suc n) = t.BinaryExpr (at 10) (sum_tree n) op.Add (the a (12 + n + n))

-- so many `{`, `if a { } else if b { }`, as many `}`
abbrev pub deep_else : ℕ → List Token
deep_else n = func (times n (sign o.LeftBrace ∷ []) ++ (keyword word.If ∷ a ∷ sign o.LeftBrace ∷ sign o.RightBrace ∷ keyword word.Else ∷ keyword word.If ∷ b ∷ sign o.LeftBrace ∷ sign o.RightBrace ∷ []) ++ times n (sign o.RightBrace ∷ []))

-- the `if` of it, at this offset
abbrev pub else_if : ℕ → t.Stmt
else_if i = t.IfStmt (at i) t.NoStmt (the a (i + 1)) (empty_block (i + 2) (i + 3)) (t.AStmt (t.IfStmt (at (i + 5)) t.NoStmt (the b (i + 6)) (empty_block (i + 7) (i + 8)) t.NoStmt))

-- so many blocks round it, the first at this offset; 9 tokens stand in the last one
abbrev pub in_blocks : ℕ → ℕ → t.Stmt
in_blocks zero i = else_if i
in_blocks (suc n) i = t.BlockStmt (at i) (t.BlockOf (at i) (only (in_blocks n (suc i))) (at (i + n + n + 10)))

-- `a()` at offset 8
abbrev pub call_at_8 : t.Stmt
call_at_8 = t.ExprStmt (at 8) (one (t.CallExpr (at 8) (the a 8) t.NoExprs false))

pub record Rows : Type 0 where
  -- the first operator binds tighter than the second, and the second than the first
  pub and_is_above_plus : parsed and_then_plus ≡ assigns (t.BinaryExpr (at 10) (t.BinaryExpr (at 10) (the a 10) op.And (the b 12)) op.Add (the c 14)) 15
  pub plus_is_below_and : parsed plus_then_and ≡ assigns (t.BinaryExpr (at 10) (the a 10) op.Add (t.BinaryExpr (at 12) (the b 12) op.And (the c 14))) 15
  pub chains_go_from_the_left : parsed minus_twice ≡ assigns (t.BinaryExpr (at 10) (t.BinaryExpr (at 10) (the a 10) op.Sub (the b 12)) op.Sub (the c 14)) 15
  pub prefixes_bind_tightest : parsed minus_before_times ≡ assigns (t.BinaryExpr (at 10) (t.UnaryExpr (at 10) «prefix».Neg (the a 11)) op.Mul (the b 13)) 14
  -- each part stands at the place of the operand
  pub parts_follow : parsed parts_of_an_operand ≡ assigns (t.IndexExpr (at 10) (t.SelectExpr (at 10) (t.CallExpr (at 10) (the a 10) (one (the b 12)) false) (id y 15)) (the c 17)) 19
  pub names_have_literals : parsed literal_of_a_name ≡ assigns (t.LiteralExpr (at 10) (t.AnExpr (the T 10)) t.NoElems) 13
  -- a receive from `chan int(c)`
  pub conversions_are_received_from : parsed arrow_before_conversion ≡ assigns (t.UnaryExpr (at 10) «prefix».Receive (t.CallExpr (at 11) (t.ChanType (at 11) dir.Both (the name_int 12)) (one (the c 14)) false)) 16
  pub dots_go_on_with_types : parsed slice_of_a_qualified_name ≡ assigns (t.SliceType (at 10) (t.SelectExpr (at 12) (the a 12) (id T 14))) 15
  pub types_have_no_assertion : parsed slice_before_assertion ≡ Fault 10 (at 14) (codes "(")
  -- in a header, `{` after a name begins the block
  pub names_end_headers : parsed name_before_a_block ≡ does (t.IfStmt (at 8) t.NoStmt (the x 9) (empty_block 10 11) t.NoStmt) 12
  pub literal_types_go_on_in_headers : parsed literal_in_a_header ≡ does (t.IfStmt (at 8) t.NoStmt (t.LiteralExpr (at 9) (t.AnExpr (t.SliceType (at 9) (the name_int 11))) (t.MoreElems t.NoExpr (int_at (number (codes "1")) 13) t.NoElems)) (empty_block 15 16) t.NoStmt) 17
  pub parentheses_end_the_header : parsed literal_in_parentheses ≡ does (t.IfStmt (at 8) t.NoStmt (t.ParenExpr (at 9) (t.LiteralExpr (at 10) (t.AnExpr (the T 10)) t.NoElems)) (empty_block 14 15) t.NoStmt) 16
  pub arrows_make_types : parsed channel_variable ≡ does (t.DeclStmt (at 8) (t.VarDecl (at 8) (t.MoreValues (id x 9 ∷ []) (t.AnExpr (t.ChanType (at 10) dir.Receive (the name_int 12))) t.NoExprs t.NoValues))) 13
  -- the same statements with the last semicolon and without
  pub last_semicolons_may_lack : parsed no_last_semicolon ≡ does call_at_8 11
  pub last_semicolons_may_stand : parsed last_semicolon ≡ does call_at_8 12
  pub else_if_is_a_statement : parsed else_after_else ≡ does (t.IfStmt (at 8) t.NoStmt (the a 9) (empty_block 10 11) (t.AStmt (t.IfStmt (at 13) t.NoStmt (the b 14) (empty_block 15 16) (t.AStmt (t.BlockStmt (at 18) (empty_block 18 19)))))) 20
  pub labels_have_statements : parsed label_of_a_call ≡ does (t.LabeledStmt (at 8) (id L 8) (t.ExprStmt (at 10) (one (t.CallExpr (at 10) (the a 10) t.NoExprs false)))) 13
  -- the empty statement stands at the `}`
  pub labels_may_end_blocks : parsed label_at_the_end ≡ does (t.LabeledStmt (at 8) (id L 8) (t.EmptyStmt (at 10))) 10
  pub guards_may_name : parsed guard_with_a_name ≡ does (t.TypeSwitchStmt (at 8) t.NoStmt (Some (id y 9)) (the x 11) t.NoClauses) 18
  pub guards_need_no_name : parsed guard_without_a_name ≡ does (t.TypeSwitchStmt (at 8) t.NoStmt None (the x 9) t.NoClauses) 16
  pub ranges_define : parsed range_with_two_names ≡ does (t.RangeStmt (at 8) (two (the k 9) (the v 11)) true (the m 14) (empty_block 15 16)) 17
  pub selects_have_ways : parsed receive_or_default ≡ does (t.SelectStmt (at 8) (t.MoreComms (at 10) (t.AStmt (t.DefineStmt (at 11) (one (the v 11)) (one (t.UnaryExpr (at 13) «prefix».Receive (the c 14))))) t.NoStmts (t.MoreComms (at 16) t.NoStmt t.NoStmts t.NoComms))) 19
  -- the second name is written without a value
  pub constants_may_repeat : parsed repeated_constant ≡ does (t.DeclStmt (at 8) (t.ConstDecl (at 8) (t.MoreValues (id a 10 ∷ []) t.NoExpr (one (int_at (number (codes "0")) 12)) (t.MoreValues (id b 14 ∷ []) t.NoExpr t.NoExprs t.NoValues)))) 16
  pub files_may_be_empty : parsed package_alone ≡ file_with [] []
  pub imports_are_listed : parsed two_imports ≡ file_with (record { place = at 5; name = None; path = codes "q"; path_place = at 5 } ∷ record { place = at 7; name = Some (id m 7); path = codes "r"; path_place = at 8 } ∷ []) []
  -- as they are written: one without a name of its own, the other with a name and the type
  pub parameters_are_as_written : parsed two_names_and_a_type ≡ file_with [] (t.FuncDecl (at 3) (id m 4) (t.SigOf (at 5) (t.MoreParams (at 6) None false (the a 6) (t.MoreParams (at 8) (Some (id b 8)) false (the T 9) t.NoParams)) t.NoResults) (empty_block 11 12) ∷ [])
  pub receivers_are_parameters : parsed method_of_a_pointer ≡ file_with [] (t.MethodDecl (at 3) (at 4) (t.MoreParams (at 5) (Some (id r 5)) false (t.UnaryExpr (at 6) «prefix».Star (the T 7)) t.NoParams) (id m 9) (t.SigOf (at 10) t.NoParams t.NoResults) (empty_block 12 13) ∷ [])
  pub operands_are_needed : parsed missing_operand ≡ Fault 10 (at 12) (codes "}")
  pub lines_are_told : parsed missing_type ≡ Fault 10 (at 10) (codes "newline")
  pub literals_are_told : parsed two_operands ≡ Fault 10 (at 11) (codes "literal")
  pub ends_are_told : parsed open_at_the_end ≡ Fault 10 (at 8) (codes "EOF")
  pub imports_come_first : parsed late_import ≡ Fault 10 (at 7) (codes "import")
  pub hundred_may_be_open : parsed (parentheses 100) ≡ assigns (in_parentheses 100 10) 211
  pub one_more_may_not : parsed (parentheses 101) ≡ Fault 11 (at 110) []
  pub five_hundred_may_be_chained : parsed (sum 500) ≡ assigns (sum_tree 500) 1011
  pub one_operator_more_may_not : parsed (sum 501) ≡ Fault 12 (at 1011) []
  -- the function and 98 blocks make 99, so that each of both blocks is the 100th
  pub else_if_is_no_block : parsed (deep_else 98) ≡ does (in_blocks 98 8) 213
  -- the `{` after 99 blocks in the function
  pub one_block_more_may_not : parsed (deep_else 99) ≡ Fault 11 (at 109) []
