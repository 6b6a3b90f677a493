-- Where a frame is over, the frames below it are as they were.
use Rattle.std.proofs.Common.{◌≡◌, ◌&&◌, ◌||◌, not, ℕ, Bool, true, false, List, [], ◌∷◌, Option, Some, None, refl, nat_lt, if◌then◌else◌, is_some}
use Rattle.gj_base.specs.declared.place.Place.{Place}
use Rattle.gj_base.specs.declared.kind.Op.{Op}
use Rattle.go_syntax.specs.Tree as t
use Rattle.go_syntax.specs.Token.{Token}
use Rattle.go_syntax.specs.declared.kind.TokenKind.{TokenKind}
use Rattle.go_syntax.specs.declared.kind.TokenKind.TheVariants as kind
use Rattle.go_syntax.specs.declared.keyword.Keyword.{Keyword}
use Rattle.go_syntax.specs.declared.keyword.Keyword.TheVariants as word
use Rattle.go_syntax.specs.declared.operator.Operator.{Operator}
use Rattle.go_syntax.specs.declared.operator.Operator.TheVariants as o
use Rattle.go_syntax.specs.declared.tree.Name.{Name}
use Rattle.go_syntax.specs.declared.tree.Prefix.{Prefix}
use Rattle.go_grammar.specs.Classes.{begins_type, binary_op, level, prefix_op, assign_op}
use Rattle.go_grammar.specs.Context.{is_name, takes_literal}
use Rattle.go_grammar.specs.Limits.{has_room, one_longer}
use Rattle.go_grammar.specs.Nodes.{is_op, is_word, is_name_token, is_string, is_semicolon, begins_expr, begins_stmt, leaf, expr_in, and, maybe, name_expr}
use Rattle.go_grammar.specs.Frames as f
use Rattle.go_parser.specs.Kept.{below_is, RowKeeps, MeetsKeeps}
use Rattle.go_grammar.specs.Frames.{Ctx, Stack, Flow, Goes, Over, Stuck, Deep, Long, Value}
use Rattle.go_grammar.specs.ExprSteps as e
use Rattle.go_grammar.specs.StmtSteps as r
use Rattle.go_grammar.specs.Parsed as p

-- splitting on a test
by_test : {A : Type 0} (P : A → Type 0) (b : Bool) {x y : A} → (b ≡ true → P x) → (b ≡ false → P y) → P (if b then x else y)
by_test P true f g = f refl
by_test P false f g = g refl

-- it is not over
pub data Moves : Flow → Type 0 where
  m_goes : {s : Stack} → Moves (Goes s)
  m_stuck : Moves Stuck
  m_deep : Moves Deep
  m_long : {at : Place} → Moves (Long at)

-- or it is, above these frames
pub data Keeps : Stack → Flow → Type 0 where
  moves : {s : Stack} {x : Flow} → Moves x → Keeps s x
  keeps : {s : Stack} {v : Value} → Keeps s (Over v s)

moves_below : {x : Flow} (s : Stack) → Moves x → below_is s x
moves_below s m_goes = tt
moves_below s m_stuck = tt
moves_below s m_deep = tt
moves_below s m_long = tt

pub same_below : {s : Stack} {x : Flow} → Keeps s x → below_is s x
same_below {s} (moves m) = moves_below s m
same_below keeps = refl

-- splitting on a test
m_if : {x y : Flow} (b : Bool) → Moves x → Moves y → Moves (if b then x else y)
m_if b m n = by_test Moves b (λ q. m) (λ q. n)

k_if : {s : Stack} {x y : Flow} (b : Bool) → Keeps s x → Keeps s y → Keeps s (if b then x else y)
k_if {s} b m n = by_test (Keeps s) b (λ q. m) (λ q. n)

m_op : {x y : Flow} (o : Operator) (u : Token) → Moves x → Moves y → Moves (e.if_op o u x y)
m_op o u m n = m_if (is_op o u) m n

k_op : {s : Stack} {x y : Flow} (o : Operator) (u : Token) → Keeps s x → Keeps s y → Keeps s (e.if_op o u x y)
k_op o u m n = k_if (is_op o u) m n

m_room : {x : Flow} (c : Ctx) → Moves x → Moves (e.if_room c x)
m_room c m = m_if (has_room c.depth) m m_deep

m_short : {x : Flow} (n : ℕ) (at : Place) → Moves x → Moves (e.if_short n at x)
m_short n at m = m_if (nat_lt n 500) m m_long

m_word : {x y : Flow} (w : Keyword) (u : Token) → Moves x → Moves y → Moves (r.if_word w u x y)
m_word w u m n = m_if (is_word w u) m n

k_word : {s : Stack} {x y : Flow} (w : Keyword) (u : Token) → Keeps s x → Keeps s y → Keeps s (r.if_word w u x y)
k_word w u m n = k_if (is_word w u) m n

m_semicolon : {x y : Flow} (u : Token) → Moves x → Moves y → Moves (r.if_semicolon u x y)
m_semicolon u m n = m_if (is_semicolon u.kind) m n

m_name : {x y : Flow} (u : Token) → Moves x → Moves y → Moves (r.if_name u x y)
m_name u m n = m_if (is_name_token u.kind) m n

k_name : {s : Stack} {x y : Flow} (u : Token) → Keeps s x → Keeps s y → Keeps s (r.if_name u x y)
k_name u m n = k_if (is_name_token u.kind) m n

-- what begins with the token
params_move : (u : Token) (c : Ctx) (x : f.Role) (s : Stack) → Moves (e.open_params u c x s)
params_move u c x s = m_op o.LeftParen u (m_room c m_goes) m_stuck

block_moves : (u : Token) (b : ℕ) (s : Stack) → Moves (e.open_block u b s)
block_moves u b s = m_op o.LeftBrace u (m_if (has_room b) m_goes m_deep) m_stuck

type_word_moves : (u : Token) (w : Keyword) (c : Ctx) (s : Stack) → Moves (e.begin_type_word u w c s)
type_word_moves u word.Func c s = m_goes
type_word_moves u word.Map c s = m_goes
type_word_moves u word.Chan c s = m_room c m_goes
type_word_moves u word.Struct c s = m_goes
type_word_moves u word.Interface c s = m_goes
type_word_moves u _ c s = m_stuck

type_op_moves : (u : Token) (c : Ctx) (s : Stack) → Moves (e.begin_type_op u c s)
type_op_moves u c s =
    m_op o.LeftParen u (m_room c m_goes) (m_op o.Mul u (m_room c m_goes) (m_op o.LeftBracket u (m_room c m_goes) (m_op o.Arrow u (m_room c m_goes) m_stuck)))

type_kind_moves : (k : TokenKind) (at : Place) (x : List ℕ) (c : Ctx) (s : Stack) → Moves (e.begin_type (record { kind = k; place = at; text = x }) c s)
type_kind_moves (kind.Op y) at x c s = type_op_moves (record { kind = kind.Op y; place = at; text = x }) c s
type_kind_moves (kind.Word y) at x c s = type_word_moves (record { kind = kind.Word y; place = at; text = x }) y c s
type_kind_moves kind.Name at x c s = m_goes
type_kind_moves _ at x c s = m_stuck

type_moves : (u : Token) (c : Ctx) (s : Stack) → Moves (e.begin_type u c s)
type_moves u c s = type_kind_moves u.kind u.place u.text c s

prefix_moves : (u : Token) (c : Ctx) (s : Stack) (x : Option Prefix) → Moves (e.operand_op u c s x)
prefix_moves u c s None = m_stuck
prefix_moves u c s (Some x) = m_room c m_goes

leaf_moves : (c : Ctx) (s : Stack) (x : Option t.Expr) → Moves (e.operand_leaf c s x)
leaf_moves c s None = m_stuck
leaf_moves c s (Some x) = m_goes

operand_word_moves : (u : Token) (w : Keyword) (c : Ctx) (s : Stack) → Moves (e.operand_word u w c s)
operand_word_moves u word.Func c s = m_goes
operand_word_moves u word.Map c s = m_goes
operand_word_moves u word.Chan c s = m_room c m_goes
operand_word_moves u word.Struct c s = m_goes
operand_word_moves u word.Interface c s = m_goes
operand_word_moves u _ c s = m_stuck

operand_kind_moves : (k : TokenKind) (at : Place) (x : List ℕ) (c : Ctx) (s : Stack) → Moves (e.operand (record { kind = k; place = at; text = x }) c s)
operand_kind_moves (kind.Op y) at x c s =
    let u : Token = record { kind = kind.Op y; place = at; text = x } in
    m_op o.LeftParen u (m_room c m_goes) (m_op o.LeftBracket u (m_room c m_goes) (prefix_moves u c s (prefix_op (kind.Op y))))
operand_kind_moves (kind.Word y) at x c s = operand_word_moves (record { kind = kind.Word y; place = at; text = x }) y c s
operand_kind_moves k at x c s = leaf_moves c s (leaf (record { kind = k; place = at; text = x }))

operand_moves : (u : Token) (c : Ctx) (s : Stack) → Moves (e.operand u c s)
operand_moves u c s = operand_kind_moves u.kind u.place u.text c s

expr_moves : (u : Token) (c : Ctx) (s : Stack) → Moves (e.begin_expr u c s)
expr_moves u c s = operand_moves u c (f.OfExpr (f.Chain c) ∷ s)

value_moves : (u : Token) (c : Ctx) (s : Stack) → Moves (e.begin_value u c s)
value_moves u c s = m_op o.LeftBrace u (m_room c m_goes) (expr_moves u c s)

tail_keeps : (u : Token) (c : Ctx) (n : ℕ) (x : t.Expr) (s : Stack) → Keeps s (e.tail u c n x s)
tail_keeps u c n x s =
    k_op o.Dot u (moves (m_short n u.place m_goes))
    (k_op o.LeftBracket u (moves (m_room c (m_short n u.place m_goes)))
    (k_op o.LeftParen u (moves (m_room c (m_short n u.place m_goes)))
    (k_if (is_op o.LeftBrace u && takes_literal c.header x) (moves (m_room c (m_short n u.place m_goes))) keeps)))

expr_row_keeps : (u : Token) (x : f.ExprFrame) (s : Stack) → Keeps s (e.expr_row u x s)
expr_row_keeps u (f.Operand c) s = moves (operand_moves u c s)
expr_row_keeps u (f.Tail c n x) s = tail_keeps u c n x s
expr_row_keeps u _ s = moves m_stuck

first_keeps : (u : Token) (c : Ctx) (n : ℕ) (x : t.Expr) (s : Stack) (y : Option Op) → Keeps s (e.first_operand u c n x s y)
first_keeps u c n x s None = keeps
first_keeps u c n x s (Some y) = moves (m_short n u.place m_goes)

right_keeps : (u : Token) (c : Ctx) (n : ℕ) (a : t.Expr) (y : Op) (b : t.Expr) (s : Stack) (z : Option Op) → Keeps s (e.right_operand u c n a y b s z)
right_keeps u c n a y b s None = keeps
right_keeps u c n a y b s (Some z) = k_if (nat_lt (level y) (level z)) (moves (m_short n u.place m_goes)) keeps

expr_meets_keeps : (u : Token) (x : f.ExprFrame) (y : t.Expr) (s : Stack) → Keeps s (e.expr_meets u x y s)
expr_meets_keeps u (f.Before at z) y s = keeps
expr_meets_keeps u (f.Chain c) y s = first_keeps u c 0 y s (binary_op u.kind)
expr_meets_keeps u (f.Left c n a z) y s = right_keeps u c n a z y s (binary_op u.kind)
expr_meets_keeps u (f.InParens c at) y s = moves (m_op o.RightParen u m_goes m_stuck)
expr_meets_keeps u (f.TypeOperand c) y s = tail_keeps u c 0 y s
expr_meets_keeps u _ y s = moves m_stuck

chain_meets_keeps : (u : Token) (x : f.ExprFrame) (n : ℕ) (y : t.Expr) (s : Stack) → Keeps s (e.chain_meets u x n y s)
chain_meets_keeps u (f.Chain c) n y s = first_keeps u c n y s (binary_op u.kind)
chain_meets_keeps u (f.Left c m a z) n y s = right_keeps u c n a z y s (binary_op u.kind)
chain_meets_keeps u _ n y s = moves m_stuck

guard_meets_keeps : (x : f.ExprFrame) (z : Option Name) (y : t.Expr) (s : Stack) → Keeps s (e.guard_meets x z y s)
guard_meets_keeps (f.Before at w) z y s = keeps
guard_meets_keeps (f.Chain c) z y s = keeps
guard_meets_keeps (f.Left c n a w) z y s = keeps
guard_meets_keeps _ z y s = moves m_stuck

func_meets_keeps : (u : Token) (x : f.ExprFrame) (y : t.Sig) (s : Stack) → Keeps s (e.func_meets u x y s)
func_meets_keeps u (f.AtFunc c at) y s = k_op o.LeftBrace u (moves (block_moves u c.blocks (f.OfExpr (f.AtBody c at y) ∷ s))) (tail_keeps u c 0 (t.FuncType at y) s)
func_meets_keeps u _ y s = moves m_stuck

body_meets_keeps : (u : Token) (x : f.ExprFrame) (y : t.Block) (s : Stack) → Keeps s (e.body_meets u x y s)
body_meets_keeps u (f.AtBody c at sig) y s = tail_keeps u c 0 (t.FuncExpr at sig y) s
body_meets_keeps u _ y s = moves m_stuck

close_literal_moves : (x : f.Braces) (y : f.Elems) (z : Option t.Expr) (s : Stack) → Moves (e.close_literal x y z s)
close_literal_moves x y None s = m_goes
close_literal_moves x y (Some z) s = m_goes

part_row_moves : (u : Token) (x : f.PartFrame) (s : Stack) → Moves (e.part_row u x s)
part_row_moves u (f.Dot x) s = m_if (is_name_token u.kind) m_goes (m_op o.LeftParen u (m_room x.ctx m_goes) m_stuck)
part_row_moves u (f.AssertOpen x) s = m_if (x.ctx.guard && is_word word.Type u) m_goes (type_moves u (f.inside x.ctx) (f.OfPart (f.Asserted x) ∷ s))
part_row_moves u (f.Bracket x) s = m_op o.Colon u m_goes (expr_moves u (f.inside x.ctx) (f.OfPart (f.Index x) ∷ s))
part_row_moves u (f.High x low) s = m_op o.RightBracket u m_goes (expr_moves u (f.inside x.ctx) (f.OfPart (f.HighExpr x low) ∷ s))
part_row_moves u (f.Args x xs) s = m_op o.RightParen u m_goes (expr_moves u (f.inside x.ctx) (f.OfPart (f.Arg x xs) ∷ s))
part_row_moves u (f.Spread x xs comma) s = m_op o.RightParen u m_goes (m_if (is_op o.Comma u && not comma) m_goes m_stuck)
part_row_moves u (f.InBraces x xs) s = m_op o.RightBrace u (close_literal_moves x xs x.ty s) (value_moves u (f.inside x.ctx) (f.OfPart (f.Element x xs None) ∷ s))
part_row_moves u (f.Keyed x xs key) s = value_moves u (f.inside x.ctx) (f.OfPart (f.Element x xs (Some key)) ∷ s)
part_row_moves u _ s = m_stuck

part_meets_moves : (u : Token) (x : f.PartFrame) (y : t.Expr) (s : Stack) → Moves (e.part_meets u x y s)
part_meets_moves u (f.Asserted x) y s = m_op o.RightParen u m_goes m_stuck
part_meets_moves u (f.Index x) y s = m_op o.RightBracket u m_goes (m_op o.Colon u m_goes m_stuck)
part_meets_moves u (f.HighExpr x low) y s = m_op o.RightBracket u m_goes (m_op o.Colon u m_goes m_stuck)
part_meets_moves u (f.Most x low high) y s = m_op o.RightBracket u m_goes m_stuck
part_meets_moves u (f.Arg x xs) y s = m_op o.Comma u m_goes (m_op o.RightParen u m_goes (m_op o.Ellipsis u m_goes m_stuck))
part_meets_moves u (f.Element x xs key) y s =
    m_op o.Colon u (m_if (is_some key) m_stuck m_goes)
    (m_op o.Comma u m_goes (m_op o.RightBrace u (close_literal_moves x (and xs (λ rest. t.MoreElems (maybe key) y rest)) x.ty s) m_stuck))
part_meets_moves u _ y s = m_stuck

type_row_keeps : (u : Token) (x : f.TypeFrame) (s : Stack) → Keeps s (e.type_row u x s)
type_row_keeps u (f.AType c) s = moves (type_moves u c s)
type_row_keeps u (f.TypeName x) s = k_op o.Dot u (moves m_goes) keeps
type_row_keeps u (f.TypeDot x) s = moves (m_if (is_name_token u.kind) m_goes m_stuck)
type_row_keeps u (f.TypeBracket c at) s = moves (m_op o.RightBracket u m_goes (m_op o.Ellipsis u m_goes (expr_moves u (f.inside c) (f.OfType (f.Len c at) ∷ s))))
type_row_keeps u (f.Dots c at) s = moves (m_op o.RightBracket u m_goes m_stuck)
type_row_keeps u (f.MapOpen c at) s = moves (m_op o.LeftBracket u (m_room c m_goes) m_stuck)
type_row_keeps u (f.ChanOpen c at) s = moves (m_op o.Arrow u m_goes (type_moves u c (f.OfType (f.BothOf at) ∷ s)))
type_row_keeps u (f.Arrow c at) s = moves (m_if (is_word word.Chan u) (m_room c m_goes) m_stuck)
type_row_keeps u (f.StructOpen c at) s = moves (m_op o.LeftBrace u (m_room c m_goes) m_stuck)
type_row_keeps u (f.InterfaceOpen c at) s = moves (m_op o.LeftBrace u (m_room c m_goes) m_stuck)
type_row_keeps u _ s = moves m_stuck

type_meets_keeps : (u : Token) (x : f.TypeFrame) (y : t.Expr) (s : Stack) → Keeps s (e.type_meets u x y s)
type_meets_keeps u (f.TypeParens at) y s = moves (m_op o.RightParen u m_goes m_stuck)
type_meets_keeps u (f.Star at) y s = keeps
type_meets_keeps u (f.Len c at) y s = moves (m_op o.RightBracket u m_goes m_stuck)
type_meets_keeps u (f.SliceOf at) y s = keeps
type_meets_keeps u (f.ArrayOf at n) y s = keeps
type_meets_keeps u (f.Key c at) y s = moves (m_op o.RightBracket u m_goes m_stuck)
type_meets_keeps u (f.MapOf at k) y s = keeps
type_meets_keeps u (f.BothOf at) y s = keeps
type_meets_keeps u (f.SendOf at) y s = keeps
type_meets_keeps u (f.ReceiveOf at) y s = keeps
type_meets_keeps u _ y s = moves m_stuck

type_sig_keeps : (x : f.TypeFrame) (y : t.Sig) (s : Stack) → Keeps s (e.type_sig_meets x y s)
type_sig_keeps (f.FuncOf at) y s = keeps
type_sig_keeps _ y s = moves m_stuck

field_end_moves : (u : Token) (x : f.StructPart) (s : Stack) → Moves (e.field_end u x s)
field_end_moves u x s = m_if (is_semicolon u.kind) m_goes (m_op o.RightBrace u m_goes m_stuck)

end_field_moves : (u : Token) (x : f.StructPart) (y : e.Untagged) (s : Stack) → Moves (e.end_field u x y s)
end_field_moves u x y s = m_if (is_string u.kind) m_goes (field_end_moves u (e.with_field x y None) s)

member_end_moves : (u : Token) (x : f.InterfacePart) (s : Stack) → Moves (e.member_end u x s)
member_end_moves u x s = m_if (is_semicolon u.kind) m_goes (m_op o.RightBrace u m_goes m_stuck)

field_row_moves : (u : Token) (x : f.FieldFrame) (s : Stack) → Moves (e.field_row u x s)
field_row_moves u (f.InStruct x) s = m_op o.RightBrace u (field_end_moves u x s) (m_if (is_name_token u.kind) m_goes (m_op o.Mul u m_goes m_stuck))
field_row_moves u (f.FieldName x y) s =
    m_op o.Comma u m_goes
    (m_op o.Dot u m_goes
    (m_if (is_string u.kind || is_semicolon u.kind || is_op o.RightBrace u) (end_field_moves u x (e.EmbeddedOne (e.unstarred y)) s)
    (type_moves u x.ctx (f.OfField (f.Named x (y ∷ [])) ∷ s))))
field_row_moves u (f.NextField x ys) s = m_if (is_name_token u.kind) m_goes m_stuck
field_row_moves u (f.FieldNames x ys) s = m_op o.Comma u m_goes (type_moves u x.ctx (f.OfField (f.Named x ys) ∷ s))
field_row_moves u (f.FieldStar x at) s = m_if (is_name_token u.kind) m_goes m_stuck
field_row_moves u (f.EmbeddedName x y) s = m_op o.Dot u m_goes (end_field_moves u x (e.EmbeddedOne y) s)
field_row_moves u (f.FieldDot x y) s = m_if (is_name_token u.kind) m_goes m_stuck
field_row_moves u (f.EmbeddedEnd x y) s = end_field_moves u x (e.EmbeddedOne y) s
field_row_moves u (f.FieldEnd x) s = field_end_moves u x s
field_row_moves u (f.InInterface x) s = m_op o.RightBrace u (member_end_moves u x s) (m_if (is_name_token u.kind) m_goes m_stuck)
field_row_moves u (f.MemberName x y) s =
    m_op o.LeftParen u (params_move u x.ctx f.OfParams (f.OfField (f.Method x y) ∷ s))
    (m_op o.Dot u m_goes (member_end_moves u (e.with_member x (λ rest. t.EmbeddedMember (name_expr y) rest)) s))
field_row_moves u (f.MemberDot x y) s = m_if (is_name_token u.kind) m_goes m_stuck
field_row_moves u (f.MemberEnd x) s = member_end_moves u x s
field_row_moves u _ s = m_stuck

field_meets_moves : (u : Token) (x : f.FieldFrame) (y : t.Expr) (s : Stack) → Moves (e.field_meets u x y s)
field_meets_moves u (f.Named x ys) y s = end_field_moves u x (e.NamedOnes ys y) s
field_meets_moves u _ y s = m_stuck

method_meets_moves : (u : Token) (x : f.FieldFrame) (y : t.Sig) (s : Stack) → Moves (e.method_meets u x y s)
method_meets_moves u (f.Method x z) y s = member_end_moves u (e.with_member x (λ rest. t.MethodMember z y rest)) s
method_meets_moves u _ y s = m_stuck

close_params_moves : (x : f.ParamsPart) (y : f.Role) (s : Stack) → Moves (e.close_params x y s)
close_params_moves x f.OfParams s = m_goes
close_params_moves x (f.OfResults at xs) s = m_goes
close_params_moves x (f.OfReceiver at) s = m_goes

end_param_moves : (u : Token) (x : f.ParamsPart) (at : Place) (y : Option Name) (b : Bool) (z : t.Expr) (s : Stack) → Moves (e.end_param u x at y b z s)
end_param_moves u x at y b z s =
    let all : f.ParamsPart = record x { items = and x.items (λ rest. t.MoreParams at y b z rest) } in
    m_op o.Comma u m_goes (m_op o.RightParen u (close_params_moves all all.role s) m_stuck)

sig_row_keeps : (u : Token) (x : f.SigFrame) (s : Stack) → Keeps s (e.sig_row u x s)
sig_row_keeps u (f.SigOpen c) s = moves (params_move u c f.OfParams s)
sig_row_keeps u (f.InParams x) s =
    moves (m_op o.RightParen u (close_params_moves x x.role s)
    (m_if (is_name_token u.kind) m_goes (m_op o.Ellipsis u m_goes (type_moves u (f.inside x.ctx) (f.OfSig (f.Param x u.place None false) ∷ s)))))
sig_row_keeps u (f.ParamName x y) s =
    moves (m_if (is_op o.Comma u || is_op o.RightParen u) (end_param_moves u x y.place None false (name_expr y) s)
    (m_op o.Dot u m_goes (m_op o.Ellipsis u m_goes (type_moves u (f.inside x.ctx) (f.OfSig (f.Param x y.place (Some y) false) ∷ s)))))
sig_row_keeps u (f.AfterParams c at xs) s =
    k_op o.LeftParen u (moves (params_move u c (f.OfResults at xs) s)) (k_if (begins_type u.kind) (moves (type_moves u (f.inside c) (f.OfSig (f.Result at xs) ∷ s))) keeps)
sig_row_keeps u _ s = moves m_stuck

sig_meets_keeps : (u : Token) (x : f.SigFrame) (y : t.Expr) (s : Stack) → Keeps s (e.sig_meets u x y s)
sig_meets_keeps u (f.Param x at z b) y s = moves (end_param_moves u x at z b y s)
sig_meets_keeps u (f.Result at xs) y s = keeps
sig_meets_keeps u _ y s = moves m_stuck

simple_moves : (u : Token) (c : Ctx) (m : f.Mode) (s : Stack) → Moves (r.begin_simple u c m s)
simple_moves u c m s = expr_moves u (record c { guard = r.takes_guard m }) (f.OfStmt (f.Simple (record { ctx = c; mode = m; place = u.place }) []) ∷ s)

decl_moves : (u : Token) (b : ℕ) (s : Stack) → Moves (r.begin_decl u b s)
decl_moves u b s = m_word word.Type u m_goes m_goes

word_stmt_moves : (u : Token) (w : Keyword) (b : ℕ) (s : Stack) → Moves (r.begin_word_stmt u w b s)
word_stmt_moves u word.Const b s = decl_moves u b (f.OfStmt f.Declared ∷ s)
word_stmt_moves u word.Type b s = decl_moves u b (f.OfStmt f.Declared ∷ s)
word_stmt_moves u word.Var b s = decl_moves u b (f.OfStmt f.Declared ∷ s)
word_stmt_moves u word.Go b s = m_goes
word_stmt_moves u word.Defer b s = m_goes
word_stmt_moves u word.Return b s = m_goes
word_stmt_moves u word.Break b s = m_goes
word_stmt_moves u word.Continue b s = m_goes
word_stmt_moves u word.Fallthrough b s = m_goes
word_stmt_moves u word.If b s = m_goes
word_stmt_moves u word.For b s = m_goes
word_stmt_moves u word.Switch b s = m_goes
word_stmt_moves u word.Select b s = m_goes
word_stmt_moves u _ b s = simple_moves u (f.new_ctx b) f.Headed s

stmt_kind_moves : (k : TokenKind) (at : Place) (x : List ℕ) (b n : ℕ) (s : Stack) → Moves (r.begin_stmt (record { kind = k; place = at; text = x }) b n s)
stmt_kind_moves (kind.Word y) at x b n s =
    let u : Token = record { kind = kind.Word y; place = at; text = x } in
    m_op o.LeftBrace u (block_moves u b (f.OfStmt f.Inner ∷ s)) (word_stmt_moves u y b s)
stmt_kind_moves k at x b n s =
    let u : Token = record { kind = k; place = at; text = x } in
    m_op o.LeftBrace u (block_moves u b (f.OfStmt f.Inner ∷ s)) (simple_moves u (f.new_ctx b) (f.Listed n) s)

stmt_moves : (u : Token) (b n : ℕ) (s : Stack) → Moves (r.begin_stmt u b n s)
stmt_moves u b n s = stmt_kind_moves u.kind u.place u.text b n s

after_stmt_moves : (u : Token) (b : ℕ) (at : Place) (ss : List t.Stmt) (s : Stack) → Moves (r.after_stmt u b at ss s)
after_stmt_moves u b at ss s = m_semicolon u m_goes (m_op o.RightBrace u m_goes m_stuck)

right_moves : (u : Token) (x : f.Spot) (es : List t.Expr) (b : Bool) (s : Stack) → Moves (r.right_side u x es b s)
right_moves u x es true s = expr_moves u (record x.ctx { guard = r.takes_guard x.mode && r.is_one_name es }) (f.OfStmt (f.Defined x es []) ∷ s)
right_moves u x es false s = expr_moves u x.ctx (f.OfStmt (f.Assigned x es None []) ∷ s)

stmt_row_keeps : (u : Token) (x : f.StmtFrame) (s : Stack) → Keeps s (r.stmt_row u x s)
stmt_row_keeps u (f.InBlock b at ss) s = moves (m_if (is_semicolon u.kind || is_op o.RightBrace u) (after_stmt_moves u b at ss s) (stmt_moves u b 0 (f.OfStmt (f.InBlock b at ss) ∷ s)))
stmt_row_keeps u (f.AtReturn b at) s = k_if (begins_expr u.kind) (moves (expr_moves u (f.new_ctx b) (f.OfStmt (f.Returned b at []) ∷ s))) keeps
stmt_row_keeps u (f.AtBreak at b) s = k_name u (moves m_goes) keeps
stmt_row_keeps u (f.AfterLabel b n) s = k_if (begins_stmt u) (moves (stmt_moves u b n s)) keeps
stmt_row_keeps u (f.Right x es b) s = moves (m_if (r.is_for x.mode && is_word word.Range u) m_goes (right_moves u x es b s))
stmt_row_keeps u _ s = moves m_stuck

label_moves : (x : f.Spot) (m : f.Mode) (y : Option Name) (s : Stack) → Moves (r.after_label_name x m y s)
label_moves x (f.Listed n) (Some y) s = m_short n y.place m_goes
label_moves x (f.Listed n) None s = m_stuck
label_moves x _ y s = m_stuck

after_all_keeps : (u : Token) (x : f.Spot) (es : List t.Expr) (s : Stack) → Keeps s (r.after_all u x es s)
after_all_keeps u x es s =
    k_op o.Arrow u (moves m_goes)
    (k_if (is_op o.Increment u || is_op o.Decrement u) (moves m_goes)
    (k_if (is_op o.Colon u && r.is_listed x.mode && is_some (r.label_in es)) (moves (label_moves x x.mode (r.label_in es) s)) keeps))

assign_op_keeps : (u : Token) (x : f.Spot) (es : List t.Expr) (y : Option Op) (s : Stack) → Keeps s (r.after_assign_op u x es y s)
assign_op_keeps u x es (Some y) s = moves m_goes
assign_op_keeps u x es None s = after_all_keeps u x es s

after_left_keeps : (u : Token) (x : f.Spot) (es : List t.Expr) (y : t.Expr) (s : Stack) → Keeps s (r.after_left u x es y s)
after_left_keeps u x es y s =
    k_if (r.is_tag x.mode) (k_if (is_op o.Define u && is_name y) (moves m_goes) keeps)
    (k_op o.Comma u (moves m_goes) (k_if (is_op o.Assign u || is_op o.Define u) (moves m_goes) (assign_op_keeps u x (and es y) (assign_op u.kind) s)))

stmt_expr_keeps : (u : Token) (x : f.StmtFrame) (y : t.Expr) (s : Stack) → Keeps s (r.stmt_meets_expr u x y s)
stmt_expr_keeps u (f.AtGo at) y s = keeps
stmt_expr_keeps u (f.AtDefer at) y s = keeps
stmt_expr_keeps u (f.Returned b at es) y s = k_op o.Comma u (moves m_goes) keeps
stmt_expr_keeps u (f.Simple x es) y s = after_left_keeps u x es y s
stmt_expr_keeps u (f.Assigned x es z gs) y s = k_op o.Comma u (moves m_goes) keeps
stmt_expr_keeps u (f.Defined x es gs) y s = k_if (r.is_tag x.mode) (moves m_stuck) (k_op o.Comma u (moves m_goes) keeps)
stmt_expr_keeps u (f.Sent at cs) y s = keeps
stmt_expr_keeps u _ y s = moves m_stuck

simple_guard_keeps : (x : f.StmtFrame) (y : t.Expr) (s : Stack) → Keeps s (r.guard_meets_simple x y s)
simple_guard_keeps (f.Simple x es) y s = keeps
simple_guard_keeps (f.Defined x es gs) y s = keeps
simple_guard_keeps _ y s = moves m_stuck

stmt_stmt_keeps : (u : Token) (x : f.StmtFrame) (y : t.Stmt) (s : Stack) → Keeps s (r.stmt_meets_stmt u x y s)
stmt_stmt_keeps u (f.InBlock b at ss) y s = moves (after_stmt_moves u b at (and ss y) s)
stmt_stmt_keeps u (f.Labeled x) y s = keeps
stmt_stmt_keeps u _ y s = moves m_stuck

stmt_block_keeps : (x : f.StmtFrame) (y : t.Block) (s : Stack) → Keeps s (r.stmt_meets_block x y s)
stmt_block_keeps f.Inner y s = keeps
stmt_block_keeps _ y s = moves m_stuck

stmt_decl_keeps : (x : f.StmtFrame) (y : t.Decl) (s : Stack) → Keeps s (r.stmt_meets_decl x y s)
stmt_decl_keeps f.Declared y s = keeps
stmt_decl_keeps _ y s = moves m_stuck

then_moves : (u : Token) (x : f.IfPart) (y : t.Expr) (s : Stack) → Moves (r.then_block u x y s)
then_moves u x y s = block_moves u x.blocks (f.OfControl (f.Then x y) ∷ s)

for_moves : (u : Token) (x : f.ForPart) (a : t.MaybeStmt) (b : t.MaybeExpr) (c : t.MaybeStmt) (s : Stack) → Moves (r.for_block u x a b c s)
for_moves u x a b c s = block_moves u x.blocks (f.OfControl (f.ForBody x a b c) ∷ s)

control_row_moves : (u : Token) (x : f.ControlFrame) (s : Stack) → Moves (r.control_row u x s)
control_row_moves u (f.AtIf x) s = m_semicolon u m_goes (simple_moves u (f.header_ctx x.blocks) f.Headed (f.OfControl (f.AtIf x) ∷ s))
control_row_moves u (f.Condition x) s = expr_moves u (f.header_ctx x.blocks) (f.OfControl (f.Condition x) ∷ s)
control_row_moves u (f.AtElse x y b) s = m_word word.If u m_goes (block_moves u x.blocks (f.OfControl (f.Other x y b) ∷ s))
control_row_moves u (f.AtFor x) s =
    m_op o.LeftBrace u (for_moves u x t.NoStmt t.NoExpr t.NoStmt s)
    (m_semicolon u m_goes (m_word word.Range u m_goes (simple_moves u (f.header_ctx x.blocks) f.InFor (f.OfControl (f.AtFor x) ∷ s))))
control_row_moves u (f.ForCondition x a) s = m_semicolon u m_goes (expr_moves u (f.header_ctx x.blocks) (f.OfControl (f.ForCondition x a) ∷ s))
control_row_moves u (f.Post x a y) s = m_op o.LeftBrace u (for_moves u x a y t.NoStmt s) (simple_moves u (f.header_ctx x.blocks) f.Headed (f.OfControl (f.Post x a y) ∷ s))
control_row_moves u _ s = m_stuck

control_expr_moves : (u : Token) (x : f.ControlFrame) (y : t.Expr) (s : Stack) → Moves (r.control_meets_expr u x y s)
control_expr_moves u (f.Condition x) y s = then_moves u x y s
control_expr_moves u (f.ForCondition x a) y s = m_semicolon u m_goes m_stuck
control_expr_moves u (f.AtRange x es b) y s = block_moves u x.blocks (f.OfControl (f.RangeBody x es b y) ∷ s)
control_expr_moves u _ y s = m_stuck

if_with_moves : (u : Token) (x : f.IfPart) (y : Option t.Expr) (s : Stack) → Moves (r.if_with u x y s)
if_with_moves u x None s = m_stuck
if_with_moves u x (Some y) s = then_moves u x y s

for_with_moves : (u : Token) (x : f.ForPart) (y : Option t.Expr) (s : Stack) → Moves (r.for_with u x y s)
for_with_moves u x None s = m_stuck
for_with_moves u x (Some y) s = for_moves u x t.NoStmt (t.AnExpr y) t.NoStmt s

control_stmt_keeps : (u : Token) (x : f.ControlFrame) (y : t.Stmt) (s : Stack) → Keeps s (r.control_meets_stmt u x y s)
control_stmt_keeps u (f.AtIf x) y s = moves (m_semicolon u m_goes (if_with_moves u x (expr_in y) s))
control_stmt_keeps u (f.Other x a b) y s = keeps
control_stmt_keeps u (f.AtFor x) y s = moves (m_semicolon u m_goes (for_with_moves u x (expr_in y) s))
control_stmt_keeps u (f.Post x a b) y s = moves (for_moves u x a b (t.AStmt y) s)
control_stmt_keeps u _ y s = moves m_stuck

ranging_moves : (u : Token) (x : f.ControlFrame) (es : List t.Expr) (b : Bool) (s : Stack) → Moves (r.control_meets_ranging u x es b s)
ranging_moves u (f.AtFor x) es b s = expr_moves u (f.header_ctx x.blocks) (f.OfControl (f.AtRange x es b) ∷ s)
ranging_moves u _ es b s = m_stuck

control_block_keeps : (u : Token) (x : f.ControlFrame) (y : t.Block) (s : Stack) → Keeps s (r.control_meets_block u x y s)
control_block_keeps u (f.Then x a) y s = k_word word.Else u (moves (m_short x.elses u.place m_goes)) keeps
control_block_keeps u (f.Other x a b) y s = keeps
control_block_keeps u (f.ForBody x a b c) y s = keeps
control_block_keeps u (f.RangeBody x es b a) y s = keeps
control_block_keeps u _ y s = moves m_stuck

switch_moves : (u : Token) (b : ℕ) (at : Place) (a : t.MaybeStmt) (x : f.Subject) (s : Stack) → Moves (r.open_switch u b at a x s)
switch_moves u b at a x s = m_op o.LeftBrace u (m_if (has_room b) m_goes m_deep) m_stuck

clauses_move : (u : Token) (x : f.SwitchPart) (s : Stack) → Moves (r.clauses u x s)
clauses_move u x s = m_word word.Case u m_goes (m_word word.Default u m_goes (m_op o.RightBrace u m_goes m_stuck))

comms_move : (u : Token) (x : f.SelectPart) (s : Stack) → Moves (r.comms u x s)
comms_move u x s = m_word word.Case u m_goes (m_word word.Default u m_goes (m_op o.RightBrace u m_goes m_stuck))

clause_stmt_moves : (u : Token) (x : f.SwitchPart) (at : Place) (es : List t.Expr) (ss : List t.Stmt) (s : Stack) → Moves (r.after_clause_stmt u x at es ss s)
clause_stmt_moves u x at es ss s = m_semicolon u m_goes (m_word word.Case u m_goes (m_word word.Default u m_goes (m_op o.RightBrace u m_goes m_stuck)))

comm_stmt_moves : (u : Token) (x : f.SelectPart) (at : Place) (y : t.MaybeStmt) (ss : List t.Stmt) (s : Stack) → Moves (r.after_comm_stmt u x at y ss s)
comm_stmt_moves u x at y ss s = m_semicolon u m_goes (m_word word.Case u m_goes (m_word word.Default u m_goes (m_op o.RightBrace u m_goes m_stuck)))

switch_row_moves : (u : Token) (x : f.SwitchFrame) (s : Stack) → Moves (r.switch_row u x s)
switch_row_moves u (f.SwitchHead b at) s =
    m_semicolon u m_goes (m_op o.LeftBrace u (switch_moves u b at t.NoStmt (f.OnTag t.NoExpr) s) (simple_moves u (f.header_ctx b) f.InSwitch (f.OfSwitch (f.SwitchHead b at) ∷ s)))
switch_row_moves u (f.SwitchTag b at a) s = m_op o.LeftBrace u (switch_moves u b at a (f.OnTag t.NoExpr) s) (simple_moves u (f.header_ctx b) f.InTag (f.OfSwitch (f.SwitchTag b at a) ∷ s))
switch_row_moves u (f.GuardEnd b at a y z) s = switch_moves u b at a (f.OnGuard y z) s
switch_row_moves u (f.InSwitchBraces x) s = clauses_move u x s
switch_row_moves u (f.Default x at) s = m_op o.Colon u m_goes m_stuck
switch_row_moves u (f.ClauseBody x at es ss) s = m_if (r.ends_clause u || is_semicolon u.kind) (clause_stmt_moves u x at es ss s) (stmt_moves u x.blocks 0 (f.OfSwitch (f.ClauseBody x at es ss) ∷ s))
switch_row_moves u (f.SelectOpen b at) s = m_op o.LeftBrace u (m_if (has_room b) m_goes m_deep) m_stuck
switch_row_moves u (f.InSelect x) s = comms_move u x s
switch_row_moves u (f.CommCase x at) s = simple_moves u (f.new_ctx x.blocks) f.Headed (f.OfSwitch (f.CommCase x at) ∷ s)
switch_row_moves u (f.CommDefault x at) s = m_op o.Colon u m_goes m_stuck
switch_row_moves u (f.CommBody x at y ss) s = m_if (r.ends_clause u || is_semicolon u.kind) (comm_stmt_moves u x at y ss s) (stmt_moves u x.blocks 0 (f.OfSwitch (f.CommBody x at y ss) ∷ s))
switch_row_moves u _ s = m_stuck

switch_expr_moves : (u : Token) (x : f.SwitchFrame) (y : t.Expr) (s : Stack) → Moves (r.switch_meets_expr u x y s)
switch_expr_moves u (f.Case x at es) y s = m_op o.Comma u m_goes (m_op o.Colon u m_goes m_stuck)
switch_expr_moves u _ y s = m_stuck

switch_with_moves : (u : Token) (b : ℕ) (at : Place) (a : t.MaybeStmt) (y : Option t.Expr) (s : Stack) → Moves (r.switch_with u b at a y s)
switch_with_moves u b at a None s = m_stuck
switch_with_moves u b at a (Some y) s = switch_moves u b at a (f.OnTag (t.AnExpr y)) s

switch_stmt_moves : (u : Token) (x : f.SwitchFrame) (y : t.Stmt) (s : Stack) → Moves (r.switch_meets_stmt u x y s)
switch_stmt_moves u (f.SwitchHead b at) y s = m_semicolon u m_goes (switch_with_moves u b at t.NoStmt (expr_in y) s)
switch_stmt_moves u (f.SwitchTag b at a) y s = switch_with_moves u b at a (expr_in y) s
switch_stmt_moves u (f.ClauseBody x at es ss) y s = clause_stmt_moves u x at es (and ss y) s
switch_stmt_moves u (f.CommCase x at) y s = m_op o.Colon u m_goes m_stuck
switch_stmt_moves u (f.CommBody x at z ss) y s = comm_stmt_moves u x at z (and ss y) s
switch_stmt_moves u _ y s = m_stuck

switch_guard_moves : (u : Token) (x : f.SwitchFrame) (y : Option Name) (z : t.Expr) (s : Stack) → Moves (r.guard_meets_switch u x y z s)
switch_guard_moves u (f.SwitchHead b at) y z s = m_op o.RightParen u m_goes m_stuck
switch_guard_moves u (f.SwitchTag b at a) y z s = m_op o.RightParen u m_goes m_stuck
switch_guard_moves u _ y z s = m_stuck

end_value_keeps : (u : Token) (x : f.ValuesPart) (ys : List Name) (ty : t.MaybeExpr) (es : List t.Expr) (s : Stack) → Keeps s (r.end_value u x ys ty es s)
end_value_keeps u x ys ty es s = k_if (not x.group) keeps (moves (m_semicolon u m_goes (m_op o.RightParen u m_goes m_stuck)))

end_type_keeps : (u : Token) (x : f.TypesPart) (y : Name) (b : Bool) (z : t.Expr) (s : Stack) → Keeps s (r.end_type u x y b z s)
end_type_keeps u x y b z s = k_if (not x.group) keeps (moves (m_semicolon u m_goes (m_op o.RightParen u m_goes m_stuck)))

decl_row_keeps : (u : Token) (x : f.DeclFrame) (s : Stack) → Keeps s (r.decl_row u x s)
decl_row_keeps u (f.AtValues x) s = moves (m_op o.LeftParen u m_goes (m_name u m_goes m_stuck))
decl_row_keeps u (f.ValueGroup x) s = moves (m_op o.RightParen u m_goes (m_name u m_goes m_stuck))
decl_row_keeps u (f.NextValue x ys) s = moves (m_name u m_goes m_stuck)
decl_row_keeps u (f.ValueNames x ys) s =
    k_op o.Comma u (moves m_goes) (k_op o.Assign u (moves m_goes)
    (k_if (begins_type u.kind) (moves (type_moves u (f.new_ctx x.blocks) (f.OfDecl (f.ValueType x ys) ∷ s)))
    (k_if x.constant (end_value_keeps u x ys t.NoExpr [] s) (moves m_stuck))))
decl_row_keeps u (f.AtTypes x) s = moves (m_op o.LeftParen u m_goes (m_name u m_goes m_stuck))
decl_row_keeps u (f.TypeGroup x) s = moves (m_op o.RightParen u m_goes (m_name u m_goes m_stuck))
decl_row_keeps u (f.DeclaredName x y) s = moves (m_op o.Assign u m_goes (type_moves u (f.new_ctx x.blocks) (f.OfDecl (f.DeclaredType x y false) ∷ s)))
decl_row_keeps u _ s = moves m_stuck

decl_expr_keeps : (u : Token) (x : f.DeclFrame) (y : t.Expr) (s : Stack) → Keeps s (r.decl_meets_expr u x y s)
decl_expr_keeps u (f.ValueType x ys) y s = k_op o.Assign u (moves m_goes) (k_if x.constant (moves m_stuck) (end_value_keeps u x ys (t.AnExpr y) [] s))
decl_expr_keeps u (f.ValueExprs x ys ty es) y s = k_op o.Comma u (moves m_goes) (end_value_keeps u x ys ty (and es y) s)
decl_expr_keeps u (f.DeclaredType x z b) y s = end_type_keeps u x z b y s
decl_expr_keeps u _ y s = moves m_stuck

import_moves : (u : Token) (x : f.FilePart) (b : Bool) (s : Stack) → Moves (r.import_spec u x b s)
import_moves u x b s = m_if (is_string u.kind) m_goes (m_if (is_name_token u.kind || is_op o.Dot u) m_goes m_stuck)

top_word_moves : (u : Token) (w : Keyword) (x : f.FilePart) (s : Stack) → Moves (r.top_word u w x s)
top_word_moves u word.Import x s = m_if (r.has_none x.decls) m_goes m_stuck
top_word_moves u word.Const x s = decl_moves u 0 (f.OfFile (f.Top x) ∷ s)
top_word_moves u word.Type x s = decl_moves u 0 (f.OfFile (f.Top x) ∷ s)
top_word_moves u word.Var x s = decl_moves u 0 (f.OfFile (f.Top x) ∷ s)
top_word_moves u word.Func x s = m_goes
top_word_moves u _ x s = m_stuck

top_moves : (k : TokenKind) (u : Token) (x : f.FilePart) (s : Stack) → Moves (r.top k u x s)
top_moves kind.End u x s = m_goes
top_moves (kind.Word w) u x s = top_word_moves u w x s
top_moves _ u x s = m_stuck

file_row_moves : (u : Token) (x : f.FileFrame) (s : Stack) → Moves (r.file_row u x s)
file_row_moves u f.Start s = m_word word.Package u m_goes m_stuck
file_row_moves u f.AtPackage s = m_name u m_goes m_stuck
file_row_moves u (f.PackageEnd y) s = m_semicolon u m_goes m_stuck
file_row_moves u (f.Top x) s = top_moves u.kind u x s
file_row_moves u (f.AtImport x) s = m_op o.LeftParen u m_goes (import_moves u x false s)
file_row_moves u (f.ImportGroup x) s = m_op o.RightParen u m_goes (import_moves u x true s)
file_row_moves u (f.ImportName x b y) s = m_if (is_string u.kind) m_goes m_stuck
file_row_moves u (f.ImportEnd x b) s = m_semicolon u m_goes (m_if (b && is_op o.RightParen u) m_goes m_stuck)
file_row_moves u (f.TopFunc at) s = m_op o.LeftParen u (params_move u (f.new_ctx 0) (f.OfReceiver at) s) (m_name u m_goes m_stuck)
file_row_moves u (f.FuncName at at' xs) s = m_name u m_goes m_stuck
file_row_moves u _ s = m_stuck

file_sig_moves : (u : Token) (x : f.FileFrame) (y : t.Sig) (s : Stack) → Moves (r.file_meets_sig u x y s)
file_sig_moves u (f.FuncSig at z w) y s = block_moves u 0 (f.OfFile (f.TopBody at z w y) ∷ s)
file_sig_moves u _ y s = m_stuck

file_block_keeps : (x : f.FileFrame) (y : t.Block) (s : Stack) → Keeps s (r.file_meets_block x y s)
file_block_keeps (f.TopBody at None w sig) y s = keeps
file_block_keeps (f.TopBody at (Some z) w sig) y s = keeps
file_block_keeps _ y s = moves m_stuck

file_decl_moves : (u : Token) (x : f.FileFrame) (y : t.Decl) (s : Stack) → Moves (r.file_meets_decl u x y s)
file_decl_moves u (f.Top x) y s = m_semicolon u m_goes m_stuck
file_decl_moves u _ y s = m_stuck

row_keeps_all : (u : Token) (x : f.Frame) (s : Stack) → Keeps s (p.row u x s)
row_keeps_all u (f.OfExpr x) s = expr_row_keeps u x s
row_keeps_all u (f.OfPart x) s = moves (part_row_moves u x s)
row_keeps_all u (f.OfType x) s = type_row_keeps u x s
row_keeps_all u (f.OfField x) s = moves (field_row_moves u x s)
row_keeps_all u (f.OfSig x) s = sig_row_keeps u x s
row_keeps_all u (f.OfStmt x) s = stmt_row_keeps u x s
row_keeps_all u (f.OfControl x) s = moves (control_row_moves u x s)
row_keeps_all u (f.OfSwitch x) s = moves (switch_row_moves u x s)
row_keeps_all u (f.OfDecl x) s = decl_row_keeps u x s
row_keeps_all u (f.OfFile x) s = moves (file_row_moves u x s)
row_keeps_all u (f.Done v) s = keeps

expr_keeps : (u : Token) (x : f.Frame) (y : t.Expr) (s : Stack) → Keeps s (p.meets_expr u x y s)
expr_keeps u (f.OfExpr x) y s = expr_meets_keeps u x y s
expr_keeps u (f.OfPart x) y s = moves (part_meets_moves u x y s)
expr_keeps u (f.OfType x) y s = type_meets_keeps u x y s
expr_keeps u (f.OfField x) y s = moves (field_meets_moves u x y s)
expr_keeps u (f.OfSig x) y s = sig_meets_keeps u x y s
expr_keeps u (f.OfStmt x) y s = stmt_expr_keeps u x y s
expr_keeps u (f.OfControl x) y s = moves (control_expr_moves u x y s)
expr_keeps u (f.OfSwitch x) y s = moves (switch_expr_moves u x y s)
expr_keeps u (f.OfDecl x) y s = decl_expr_keeps u x y s
expr_keeps u _ y s = moves m_stuck

chain_keeps : (u : Token) (x : f.Frame) (n : ℕ) (y : t.Expr) (s : Stack) → Keeps s (p.meets_chain u x n y s)
chain_keeps u (f.OfExpr x) n y s = chain_meets_keeps u x n y s
chain_keeps u _ n y s = moves m_stuck

guard_keeps : (u : Token) (x : f.Frame) (z : Option Name) (y : t.Expr) (s : Stack) → Keeps s (p.meets_guard u x z y s)
guard_keeps u (f.OfExpr x) z y s = guard_meets_keeps x z y s
guard_keeps u (f.OfStmt x) z y s = simple_guard_keeps x y s
guard_keeps u (f.OfSwitch x) z y s = moves (switch_guard_moves u x z y s)
guard_keeps u _ z y s = moves m_stuck

range_keeps : (u : Token) (x : f.Frame) (es : List t.Expr) (b : Bool) (s : Stack) → Keeps s (p.meets_ranging u x es b s)
range_keeps u (f.OfControl x) es b s = moves (ranging_moves u x es b s)
range_keeps u _ es b s = moves m_stuck

sig_keeps : (u : Token) (x : f.Frame) (y : t.Sig) (s : Stack) → Keeps s (p.meets_sig u x y s)
sig_keeps u (f.OfExpr x) y s = func_meets_keeps u x y s
sig_keeps u (f.OfType x) y s = type_sig_keeps x y s
sig_keeps u (f.OfField x) y s = moves (method_meets_moves u x y s)
sig_keeps u (f.OfFile x) y s = moves (file_sig_moves u x y s)
sig_keeps u _ y s = moves m_stuck

block_keeps : (u : Token) (x : f.Frame) (y : t.Block) (s : Stack) → Keeps s (p.meets_block u x y s)
block_keeps u (f.OfExpr x) y s = body_meets_keeps u x y s
block_keeps u (f.OfStmt x) y s = stmt_block_keeps x y s
block_keeps u (f.OfControl x) y s = control_block_keeps u x y s
block_keeps u (f.OfFile x) y s = file_block_keeps x y s
block_keeps u _ y s = moves m_stuck

stmt_keeps : (u : Token) (x : f.Frame) (y : t.Stmt) (s : Stack) → Keeps s (p.meets_stmt u x y s)
stmt_keeps u (f.OfStmt x) y s = stmt_stmt_keeps u x y s
stmt_keeps u (f.OfControl x) y s = control_stmt_keeps u x y s
stmt_keeps u (f.OfSwitch x) y s = moves (switch_stmt_moves u x y s)
stmt_keeps u _ y s = moves m_stuck

decl_keeps : (u : Token) (x : f.Frame) (y : t.Decl) (s : Stack) → Keeps s (p.meets_decl u x y s)
decl_keeps u (f.OfStmt x) y s = stmt_decl_keeps x y s
decl_keeps u (f.OfFile x) y s = moves (file_decl_moves u x y s)
decl_keeps u _ y s = moves m_stuck

meets_keeps_all : (u : Token) (x : f.Frame) (v : Value) (s : Stack) → Keeps s (p.meets u x v s)
meets_keeps_all u x (f.AnExpr y) s = expr_keeps u x y s
meets_keeps_all u x (f.AChain n y) s = chain_keeps u x n y s
meets_keeps_all u x (f.AGuard z y) s = guard_keeps u x z y s
meets_keeps_all u x (f.ARanging es b) s = range_keeps u x es b s
meets_keeps_all u x (f.ASig y) s = sig_keeps u x y s
meets_keeps_all u x (f.ABlock y) s = block_keeps u x y s
meets_keeps_all u x (f.AStmt y) s = stmt_keeps u x y s
meets_keeps_all u x (f.ADecl y) s = decl_keeps u x y s

pub row_keeps : RowKeeps
row_keeps u x s = same_below (row_keeps_all u x s)

pub meets_keeps : MeetsKeeps
meets_keeps u x v s = same_below (meets_keeps_all u x v s)
