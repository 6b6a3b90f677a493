-- What frames of expressions, types and signatures do at a token.
use Rattle.std.specs.Prelude.{◌+◌, ◌&&◌, ◌||◌, not, ℕ, Bool, true, false, List, [], ◌∷◌, Option, Some, None, nat_lt, if◌then◌else◌, is_some}
use Rattle.gj_base.specs.declared.place.Place.{Place}
use Rattle.gj_base.specs.declared.kind.Op.{Op}
use Rattle.go_syntax.specs.Tree as t
use Rattle.go_syntax.specs.Token.{Token}
use Rattle.go_syntax.specs.View.{joined}
use Rattle.go_syntax.specs.declared.kind.TokenKind.{TokenKind}
use Rattle.go_syntax.specs.declared.kind.TokenKind.TheVariants as kind
use Rattle.go_syntax.specs.declared.keyword.Keyword.{Keyword}
use Rattle.go_syntax.specs.declared.keyword.Keyword.TheVariants as word
use Rattle.go_syntax.specs.declared.operator.Operator.{Operator}
use Rattle.go_syntax.specs.declared.operator.Operator.TheVariants as o
use Rattle.go_syntax.specs.declared.tree.Name.{Name}
use Rattle.go_syntax.specs.declared.tree.Prefix.{Prefix}
use Rattle.go_syntax.specs.declared.tree.Prefix.TheVariants as «prefix»
use Rattle.go_syntax.specs.declared.tree.ChanDir.TheVariants as dir
use Rattle.go_grammar.specs.Classes.{name_of, binary_op, level, prefix_op, begins_type}
use Rattle.go_grammar.specs.Context.{takes_literal}
use Rattle.go_grammar.specs.Limits.{has_room, one_longer}
use Rattle.go_grammar.specs.Frames.{Ctx, inside, deeper, AnExpr, AChain, AGuard, ASig, OfExpr, OfPart, OfType, OfField, OfSig, OfStmt, OfFile, Done, Stack, Flow, Goes, Over, Stuck, Deep, Long, Elems}
use Rattle.go_grammar.specs.Frames.{ExprFrame, Operand, Tail, Before, Chain, Left, InParens, TypeOperand, AtFunc, AtBody, Base, Braces, PartFrame, Dot, AssertOpen, Asserted, Bracket, Index, High, HighExpr, Most, Args, Arg, Spread, InBraces, Element, Keyed}
use Rattle.go_grammar.specs.Frames.{TypeFrame, AType, TypeName, TypeDot, TypeParens, Star, TypeBracket, Dots, Len, SliceOf, ArrayOf, MapOpen, Key, MapOf, ChanOpen, BothOf, SendOf, Arrow, ReceiveOf, FuncOf, StructOpen, InterfaceOpen}
use Rattle.go_grammar.specs.Frames.{StructPart, InterfacePart, Embedded, FieldFrame, InStruct, FieldName, NextField, FieldNames, Named, FieldStar, EmbeddedName, FieldDot, EmbeddedEnd, FieldEnd, InInterface, MemberName, MemberDot, MemberEnd, Method}
use Rattle.go_grammar.specs.Frames.{Role, OfParams, OfResults, OfReceiver, ParamsPart, SigFrame, SigOpen, InParams, ParamName, Param, AfterParams, Result, InBlock, FuncName}
use Rattle.go_grammar.specs.Nodes.{is_op, is_word, is_name_token, is_string, is_semicolon, place_of_expr, name_expr, maybe, leaf, unary, binary, select, slice, call, and}

-- where one more may be open
abbrev pub if_room : Ctx → Flow → Flow
if_room c go = if has_room c.depth then go else Deep

-- where a chain of so many may go on at this place
abbrev pub if_short : ℕ → Place → Flow → Flow
if_short n at go = if nat_lt n 500 then go else Long at

abbrev pub if_op : Operator → Token → Flow → Flow → Flow
if_op x u go other = if is_op x u then go else other

-- the token is taken, and an expression comes
abbrev pub then_expr : Ctx → Stack → Flow
then_expr c s = Goes (OfExpr (Operand c) ∷ OfExpr (Chain c) ∷ s)

abbrev pub then_type : Ctx → Stack → Flow
then_type c s = Goes (OfType (AType c) ∷ s)

-- the `(` of a parameter list
abbrev pub open_params : Token → Ctx → Role → Stack → Flow
open_params u c role s = if_op o.LeftParen u (if_room c (Goes (OfSig (InParams (record { ctx = c; place = u.place; items = []; role = role })) ∷ s))) Stuck

-- the `{` of a block, with so many blocks open round it
abbrev pub open_block : Token → ℕ → Stack → Flow
open_block u b s = if_op o.LeftBrace u (if has_room b then Goes (OfStmt (InBlock (b + 1) u.place []) ∷ s) else Deep) Stuck

-- a type that begins with a keyword
abbrev pub begin_type_word : Token → Keyword → Ctx → Stack → Flow
begin_type_word u word.Func c s = Goes (OfSig (SigOpen c) ∷ OfType (FuncOf u.place) ∷ s)
begin_type_word u word.Map c s = Goes (OfType (MapOpen c u.place) ∷ s)
begin_type_word u word.Chan c s = if_room c (Goes (OfType (ChanOpen (inside c) u.place) ∷ s))
begin_type_word u word.Struct c s = Goes (OfType (StructOpen c u.place) ∷ s)
begin_type_word u word.Interface c s = Goes (OfType (InterfaceOpen c u.place) ∷ s)
begin_type_word u _ c s = Stuck

abbrev pub begin_type_op : Token → Ctx → Stack → Flow
begin_type_op u c s =
    if_op o.LeftParen u (if_room c (then_type (inside c) (OfType (TypeParens u.place) ∷ s)))
    (if_op o.Mul u (if_room c (then_type (inside c) (OfType (Star u.place) ∷ s)))
    (if_op o.LeftBracket u (if_room c (Goes (OfType (TypeBracket c u.place) ∷ s)))
    (if_op o.Arrow u (if_room c (Goes (OfType (Arrow (inside c) u.place) ∷ s))) Stuck)))

-- a type that begins with the token
abbrev pub begin_type : Token → Ctx → Stack → Flow
begin_type u c s = by_kind u.kind u c s where
  by_kind : TokenKind → Token → Ctx → Stack → Flow
  by_kind (kind.Op x) u c s = begin_type_op u c s
  by_kind (kind.Word x) u c s = begin_type_word u x c s
  by_kind kind.Name u c s = Goes (OfType (TypeName (t.NameExpr u.place u.text)) ∷ s)
  by_kind _ u c s = Stuck

abbrev pub operand_op : Token → Ctx → Stack → Option Prefix → Flow
operand_op u c s None = Stuck
operand_op u c s (Some p) = if_room c (Goes (OfExpr (Operand (deeper c)) ∷ OfExpr (Before u.place p) ∷ s))

abbrev pub operand_leaf : Ctx → Stack → Option t.Expr → Flow
operand_leaf c s None = Stuck
operand_leaf c s (Some e) = Goes (OfExpr (Tail c 0 e) ∷ s)

abbrev pub operand_word : Token → Keyword → Ctx → Stack → Flow
operand_word u word.Func c s = Goes (OfSig (SigOpen c) ∷ OfExpr (AtFunc c u.place) ∷ s)
operand_word u x c s = begin_type_word u x c (OfExpr (TypeOperand c) ∷ s)

-- Unary that begins with the token
abbrev pub operand : Token → Ctx → Stack → Flow
operand u c s = by_kind u.kind u c s where
  by_kind : TokenKind → Token → Ctx → Stack → Flow
  by_kind (kind.Op x) u c s =
      if_op o.LeftParen u (if_room c (then_expr (inside c) (OfExpr (InParens c u.place) ∷ s)))
      (if_op o.LeftBracket u (if_room c (Goes (OfType (TypeBracket c u.place) ∷ OfExpr (TypeOperand c) ∷ s)))
      (operand_op u c s (prefix_op u.kind)))
  by_kind (kind.Word x) u c s = operand_word u x c s
  by_kind _ u c s = operand_leaf c s (leaf u)

-- an expression that begins with the token
abbrev pub begin_expr : Token → Ctx → Stack → Flow
begin_expr u c s = operand u c (OfExpr (Chain c) ∷ s)

abbrev pub base_of : Ctx → ℕ → t.Expr → Base
base_of c n e = record { ctx = c; count = n; expr = e }

-- after an operand with so many parts
abbrev pub tail : Token → Ctx → ℕ → t.Expr → Stack → Flow
tail u c n e s =
    if_op o.Dot u (if_short n u.place (Goes (OfPart (Dot (base_of c n e)) ∷ s)))
    (if_op o.LeftBracket u (if_room c (if_short n u.place (Goes (OfPart (Bracket (base_of c n e)) ∷ s))))
    (if_op o.LeftParen u (if_room c (if_short n u.place (Goes (OfPart (Args (base_of c n e) []) ∷ s))))
    (if is_op o.LeftBrace u && takes_literal c.header e
    then if_room c (if_short n u.place (Goes (OfPart (InBraces (record { ctx = c; count = n; place = place_of_expr e; ty = Some e }) []) ∷ s)))
    else Over (AnExpr e) s)))

-- what the top frame does at the token
abbrev pub expr_row : Token → ExprFrame → Stack → Flow
expr_row u (Operand c) s = operand u c s
expr_row u (Tail c n e) s = tail u c n e s
expr_row u _ s = Stuck

abbrev pub then_right : Token → Ctx → ℕ → t.Expr → Op → Stack → Flow
then_right u c n e op s = if_short n u.place (Goes (OfExpr (Operand c) ∷ OfExpr (Left c (one_longer n) e op) ∷ s))

abbrev pub first_operand : Token → Ctx → ℕ → t.Expr → Stack → Option Op → Flow
first_operand u c n e s None = Over (AnExpr e) s
first_operand u c n e s (Some op) = then_right u c n e op (OfExpr (Chain c) ∷ s)

-- the right operand of op is the left one of a tighter operator, or the two operands are done
abbrev pub right_operand : Token → Ctx → ℕ → t.Expr → Op → t.Expr → Stack → Option Op → Flow
right_operand u c n a op b s None = Over (AChain n (binary a op b)) s
right_operand u c n a op b s (Some op') =
    if nat_lt (level op) (level op') then then_right u c n b op' (OfExpr (Left c n a op) ∷ s)
    else Over (AChain n (binary a op b)) s

-- what a frame that waits for an expression does with it at the token
abbrev pub expr_meets : Token → ExprFrame → t.Expr → Stack → Flow
expr_meets u (Before at p) e s = Over (AnExpr (unary at p e)) s
expr_meets u (Chain c) e s = first_operand u c 0 e s (binary_op u.kind)
expr_meets u (Left c n a op) e s = right_operand u c n a op e s (binary_op u.kind)
expr_meets u (InParens c at) e s = if_op o.RightParen u (Goes (OfExpr (Tail c 0 (t.ParenExpr at e)) ∷ s)) Stuck
expr_meets u (TypeOperand c) e s = tail u c 0 e s
expr_meets u _ e s = Stuck

-- the same with an operand of a chain of so many operators
abbrev pub chain_meets : Token → ExprFrame → ℕ → t.Expr → Stack → Flow
chain_meets u (Chain c) n e s = first_operand u c n e s (binary_op u.kind)
chain_meets u (Left c m a op) n e s = right_operand u c n a op e s (binary_op u.kind)
chain_meets u _ n e s = Stuck

-- the expression before `.(type)` goes through the frame
abbrev pub guard_meets : ExprFrame → Option Name → t.Expr → Stack → Flow
guard_meets (Before at p) x e s = Over (AGuard x (unary at p e)) s
guard_meets (Chain c) x e s = Over (AGuard x e) s
guard_meets (Left c n a op) x e s = Over (AGuard x (binary a op e)) s
guard_meets _ x e s = Stuck

abbrev pub func_meets : Token → ExprFrame → t.Sig → Stack → Flow
func_meets u (AtFunc c at) sig s = if_op o.LeftBrace u (open_block u c.blocks (OfExpr (AtBody c at sig) ∷ s)) (tail u c 0 (t.FuncType at sig) s)
func_meets u _ sig s = Stuck

abbrev pub body_meets : Token → ExprFrame → t.Block → Stack → Flow
body_meets u (AtBody c at sig) b s = tail u c 0 (t.FuncExpr at sig b) s
body_meets u _ b s = Stuck

-- the operand with one part more
abbrev pub part_done : Base → t.Expr → Stack → Flow
part_done x e s = Goes (OfExpr (Tail x.ctx (one_longer x.count) e) ∷ s)

-- Value that begins with the token
abbrev pub begin_value : Token → Ctx → Stack → Flow
begin_value u c s = if_op o.LeftBrace u (if_room c (Goes (OfPart (InBraces (record { ctx = c; count = 0; place = u.place; ty = None }) []) ∷ s))) (begin_expr u c s)

abbrev pub close_literal : Braces → Elems → Option t.Expr → Stack → Flow
close_literal x elems None s = Goes (Done (AnExpr (t.LiteralExpr x.place t.NoExpr (joined elems t.NoElems))) ∷ s)
close_literal x elems (Some e) s = Goes (OfExpr (Tail x.ctx (one_longer x.count) (t.LiteralExpr x.place (t.AnExpr e) (joined elems t.NoElems))) ∷ s)

abbrev pub part_row : Token → PartFrame → Stack → Flow
part_row u (Dot x) s =
    if is_name_token u.kind then part_done x (select x.expr (name_of u)) s
    else (if_op o.LeftParen u (if_room x.ctx (Goes (OfPart (AssertOpen x) ∷ s))) Stuck)
part_row u (AssertOpen x) s =
    if x.ctx.guard && is_word word.Type u then Goes (Done (AGuard None x.expr) ∷ s)
    else begin_type u (inside x.ctx) (OfPart (Asserted x) ∷ s)
part_row u (Bracket x) s = if_op o.Colon u (Goes (OfPart (High x None) ∷ s)) (begin_expr u (inside x.ctx) (OfPart (Index x) ∷ s))
part_row u (High x low) s = if_op o.RightBracket u (part_done x (slice x.expr low None None) s) (begin_expr u (inside x.ctx) (OfPart (HighExpr x low) ∷ s))
part_row u (Args x args) s = if_op o.RightParen u (part_done x (call x.expr args false) s) (begin_expr u (inside x.ctx) (OfPart (Arg x args) ∷ s))
part_row u (Spread x args comma) s =
    if_op o.RightParen u (part_done x (call x.expr args true) s)
    (if is_op o.Comma u && not comma then Goes (OfPart (Spread x args true) ∷ s) else Stuck)
part_row u (InBraces x elems) s = if_op o.RightBrace u (close_literal x elems x.ty s) (begin_value u (inside x.ctx) (OfPart (Element x elems None) ∷ s))
part_row u (Keyed x elems key) s = begin_value u (inside x.ctx) (OfPart (Element x elems (Some key)) ∷ s)
part_row u _ s = Stuck

abbrev pub part_meets : Token → PartFrame → t.Expr → Stack → Flow
part_meets u (Asserted x) e s = if_op o.RightParen u (part_done x (t.AssertExpr (place_of_expr x.expr) x.expr e) s) Stuck
part_meets u (Index x) e s =
    if_op o.RightBracket u (part_done x (t.IndexExpr (place_of_expr x.expr) x.expr e) s)
    (if_op o.Colon u (Goes (OfPart (High x (Some e)) ∷ s)) Stuck)
part_meets u (HighExpr x low) e s =
    if_op o.RightBracket u (part_done x (slice x.expr low (Some e) None) s)
    (if_op o.Colon u (then_expr (inside x.ctx) (OfPart (Most x low e) ∷ s)) Stuck)
part_meets u (Most x low high) e s = if_op o.RightBracket u (part_done x (slice x.expr low (Some high) (Some e)) s) Stuck
part_meets u (Arg x args) e s =
    if_op o.Comma u (Goes (OfPart (Args x (and args e)) ∷ s))
    (if_op o.RightParen u (part_done x (call x.expr (and args e) false) s)
    (if_op o.Ellipsis u (Goes (OfPart (Spread x (and args e) false) ∷ s)) Stuck))
part_meets u (Element x elems key) e s =
    let all = and elems (λ rest. t.MoreElems (maybe key) e rest) in
    if_op o.Colon u (if is_some key then Stuck else Goes (OfPart (Keyed x elems e) ∷ s))
    (if_op o.Comma u (Goes (OfPart (InBraces x all) ∷ s))
    (if_op o.RightBrace u (close_literal x all x.ty s) Stuck))
part_meets u _ e s = Stuck

abbrev pub type_row : Token → TypeFrame → Stack → Flow
type_row u (AType c) s = begin_type u c s
type_row u (TypeName e) s = if_op o.Dot u (Goes (OfType (TypeDot e) ∷ s)) (Over (AnExpr e) s)
type_row u (TypeDot e) s = if is_name_token u.kind then Goes (Done (AnExpr (select e (name_of u))) ∷ s) else Stuck
type_row u (TypeBracket c at) s =
    if_op o.RightBracket u (then_type (inside c) (OfType (SliceOf at) ∷ s))
    (if_op o.Ellipsis u (Goes (OfType (Dots c at) ∷ s)) (begin_expr u (inside c) (OfType (Len c at) ∷ s)))
type_row u (Dots c at) s = if_op o.RightBracket u (then_type (inside c) (OfType (ArrayOf at None) ∷ s)) Stuck
type_row u (MapOpen c at) s = if_op o.LeftBracket u (if_room c (then_type (inside c) (OfType (Key c at) ∷ s))) Stuck
type_row u (ChanOpen c at) s = if_op o.Arrow u (then_type c (OfType (SendOf at) ∷ s)) (begin_type u c (OfType (BothOf at) ∷ s))
type_row u (Arrow c at) s = if is_word word.Chan u then if_room c (then_type (inside c) (OfType (ReceiveOf at) ∷ s)) else Stuck
type_row u (StructOpen c at) s = if_op o.LeftBrace u (if_room c (Goes (OfField (InStruct (record { ctx = inside c; place = at; fields = [] })) ∷ s))) Stuck
type_row u (InterfaceOpen c at) s = if_op o.LeftBrace u (if_room c (Goes (OfField (InInterface (record { ctx = inside c; place = at; members = [] })) ∷ s))) Stuck
type_row u _ s = Stuck

abbrev pub type_meets : Token → TypeFrame → t.Expr → Stack → Flow
type_meets u (TypeParens at) e s = if_op o.RightParen u (Goes (Done (AnExpr (t.ParenExpr at e)) ∷ s)) Stuck
type_meets u (Star at) e s = Over (AnExpr (t.UnaryExpr at «prefix».Star e)) s
type_meets u (Len c at) e s = if_op o.RightBracket u (then_type (inside c) (OfType (ArrayOf at (Some e)) ∷ s)) Stuck
type_meets u (SliceOf at) e s = Over (AnExpr (t.SliceType at e)) s
type_meets u (ArrayOf at n) e s = Over (AnExpr (t.ArrayType at (maybe n) e)) s
type_meets u (Key c at) e s = if_op o.RightBracket u (then_type (inside c) (OfType (MapOf at e) ∷ s)) Stuck
type_meets u (MapOf at k) e s = Over (AnExpr (t.MapType at k e)) s
type_meets u (BothOf at) e s = Over (AnExpr (t.ChanType at dir.Both e)) s
type_meets u (SendOf at) e s = Over (AnExpr (t.ChanType at dir.Send e)) s
type_meets u (ReceiveOf at) e s = Over (AnExpr (t.ChanType at dir.Receive e)) s
type_meets u _ e s = Stuck

abbrev pub type_sig_meets : TypeFrame → t.Sig → Stack → Flow
type_sig_meets (FuncOf at) sig s = Over (AnExpr (t.FuncType at sig)) s
type_sig_meets _ sig s = Stuck

-- a field without its tag
pub data Untagged : Type 0 where
  NamedOnes : List Name → t.Expr → Untagged
  EmbeddedOne : Embedded → Untagged

abbrev pub with_field : StructPart → Untagged → Option (List ℕ) → StructPart
with_field x (NamedOnes names e) tag = record x { fields = and x.fields (λ rest. t.NamedFields names e tag rest) }
with_field x (EmbeddedOne y) tag = record x { fields = and x.fields (λ rest. t.EmbeddedField y.place y.star y.ty tag rest) }

abbrev pub field_end : Token → StructPart → Stack → Flow
field_end u x s =
    if is_semicolon u.kind then Goes (OfField (InStruct x) ∷ s)
    else (if_op o.RightBrace u (Goes (Done (AnExpr (t.StructType x.place (joined x.fields t.NoFields))) ∷ s)) Stuck)

abbrev pub end_field : Token → StructPart → Untagged → Stack → Flow
end_field u x field s =
    if is_string u.kind then Goes (OfField (FieldEnd (with_field x field (Some u.text))) ∷ s)
    else field_end u (with_field x field None) s

abbrev pub with_member : InterfacePart → (t.Members → t.Members) → InterfacePart
with_member x member = record x { members = and x.members member }

abbrev pub member_end : Token → InterfacePart → Stack → Flow
member_end u x s =
    if is_semicolon u.kind then Goes (OfField (InInterface x) ∷ s)
    else (if_op o.RightBrace u (Goes (Done (AnExpr (t.InterfaceType x.place (joined x.members t.NoMembers))) ∷ s)) Stuck)

abbrev pub unstarred : Name → Embedded
unstarred y = record { place = y.place; star = false; ty = name_expr y }

abbrev pub field_row : Token → FieldFrame → Stack → Flow
field_row u (InStruct x) s =
    if_op o.RightBrace u (field_end u x s)
    (if is_name_token u.kind then Goes (OfField (FieldName x (name_of u)) ∷ s)
    else (if_op o.Mul u (Goes (OfField (FieldStar x u.place) ∷ s)) Stuck))
field_row u (FieldName x y) s =
    if_op o.Comma u (Goes (OfField (NextField x (y ∷ [])) ∷ s))
    (if_op o.Dot u (Goes (OfField (FieldDot x (unstarred y)) ∷ s))
    (if is_string u.kind || is_semicolon u.kind || is_op o.RightBrace u then end_field u x (EmbeddedOne (unstarred y)) s
    else begin_type u x.ctx (OfField (Named x (y ∷ [])) ∷ s)))
field_row u (NextField x ys) s = if is_name_token u.kind then Goes (OfField (FieldNames x (and ys (name_of u))) ∷ s) else Stuck
field_row u (FieldNames x ys) s = if_op o.Comma u (Goes (OfField (NextField x ys) ∷ s)) (begin_type u x.ctx (OfField (Named x ys) ∷ s))
field_row u (FieldStar x at) s = if is_name_token u.kind then Goes (OfField (EmbeddedName x (record { place = at; star = true; ty = name_expr (name_of u) })) ∷ s) else Stuck
field_row u (EmbeddedName x y) s = if_op o.Dot u (Goes (OfField (FieldDot x y) ∷ s)) (end_field u x (EmbeddedOne y) s)
field_row u (FieldDot x y) s = if is_name_token u.kind then Goes (OfField (EmbeddedEnd x (record y { ty = select y.ty (name_of u) })) ∷ s) else Stuck
field_row u (EmbeddedEnd x y) s = end_field u x (EmbeddedOne y) s
field_row u (FieldEnd x) s = field_end u x s
field_row u (InInterface x) s =
    if_op o.RightBrace u (member_end u x s)
    (if is_name_token u.kind then Goes (OfField (MemberName x (name_of u)) ∷ s) else Stuck)
field_row u (MemberName x y) s =
    if_op o.LeftParen u (open_params u x.ctx OfParams (OfField (Method x y) ∷ s))
    (if_op o.Dot u (Goes (OfField (MemberDot x (name_expr y)) ∷ s))
    (member_end u (with_member x (λ rest. t.EmbeddedMember (name_expr y) rest)) s))
field_row u (MemberDot x e) s = if is_name_token u.kind then Goes (OfField (MemberEnd (with_member x (λ rest. t.EmbeddedMember (select e (name_of u)) rest))) ∷ s) else Stuck
field_row u (MemberEnd x) s = member_end u x s
field_row u _ s = Stuck

abbrev pub field_meets : Token → FieldFrame → t.Expr → Stack → Flow
field_meets u (Named x ys) e s = end_field u x (NamedOnes ys e) s
field_meets u _ e s = Stuck

abbrev pub method_meets : Token → FieldFrame → t.Sig → Stack → Flow
method_meets u (Method x y) sig s = member_end u (with_member x (λ rest. t.MethodMember y sig rest)) s
method_meets u _ sig s = Stuck

-- the `)` of a parameter list
abbrev pub close_params : ParamsPart → Role → Stack → Flow
close_params x OfParams s = Goes (OfSig (AfterParams x.ctx x.place x.items) ∷ s)
close_params x (OfResults at xs) s = Goes (Done (ASig (t.SigOf at (joined xs t.NoParams) (t.ManyResults x.place (joined x.items t.NoParams)))) ∷ s)
close_params x (OfReceiver at) s = Goes (OfFile (FuncName at x.place x.items) ∷ s)

abbrev pub end_param : Token → ParamsPart → Place → Option Name → Bool → t.Expr → Stack → Flow
end_param u x at y variadic e s =
    let all = record x { items = and x.items (λ rest. t.MoreParams at y variadic e rest) } in
    if_op o.Comma u (Goes (OfSig (InParams all) ∷ s)) (if_op o.RightParen u (close_params all all.role s) Stuck)

abbrev pub sig_row : Token → SigFrame → Stack → Flow
sig_row u (SigOpen c) s = open_params u c OfParams s
sig_row u (InParams x) s =
    if_op o.RightParen u (close_params x x.role s)
    (if is_name_token u.kind then Goes (OfSig (ParamName x (name_of u)) ∷ s)
    else (if_op o.Ellipsis u (then_type (inside x.ctx) (OfSig (Param x u.place None true) ∷ s))
    (begin_type u (inside x.ctx) (OfSig (Param x u.place None false) ∷ s))))
sig_row u (ParamName x y) s =
    if is_op o.Comma u || is_op o.RightParen u then end_param u x y.place None false (name_expr y) s
    else (if_op o.Dot u (Goes (OfType (TypeDot (name_expr y)) ∷ OfSig (Param x y.place None false) ∷ s))
    (if_op o.Ellipsis u (then_type (inside x.ctx) (OfSig (Param x y.place (Some y) true) ∷ s))
    (begin_type u (inside x.ctx) (OfSig (Param x y.place (Some y) false) ∷ s))))
sig_row u (AfterParams c at xs) s =
    if_op o.LeftParen u (open_params u c (OfResults at xs) s)
    (if begins_type u.kind then begin_type u (inside c) (OfSig (Result at xs) ∷ s)
    else Over (ASig (t.SigOf at (joined xs t.NoParams) t.NoResults)) s)
sig_row u _ s = Stuck

abbrev pub sig_meets : Token → SigFrame → t.Expr → Stack → Flow
sig_meets u (Param x at y variadic) e s = end_param u x at y variadic e s
sig_meets u (Result at xs) e s = Over (ASig (t.SigOf at (joined xs t.NoParams) (t.OneResult e))) s
sig_meets u _ e s = Stuck
