-- The frames that the definitions see of the code's frames: the same ones, with the trees that
-- contracts see. For private clauses.
use Rattle.std.specs.Prelude.{◌≡◌, ⊤, ℕ, Bool, true, false, List, [], ◌∷◌, Option, Some, None, map, Result, Ok, Err}
use Rattle.gj_base.specs.declared.memory.NoMemory.{NoMemory}
use Rattle.gj_base.specs.declared.place.Place.{Place}
use Rattle.go_syntax.specs.Tree as t
use Rattle.go_syntax.specs.Token.{Token}
use Rattle.go_syntax.specs.View.{expr_view, elem_view, sig_view, param_view, field_view, member_view, block_view, stmt_view, clause_view, comm_view, decl_view, value_spec_view, type_spec_view, import_view, file_view}
use Rattle.go_syntax.specs.declared.tree.Expr.{Expr}
use Rattle.go_syntax.specs.declared.tree.Stmt.{Stmt}
use Rattle.go_grammar.specs.Frames as f
use Rattle.go_frames.specs.declared.frames.at.At.{At}
use Rattle.go_frames.specs.declared.frames.ctx.Ctx.{Ctx}
use Rattle.go_frames.specs.declared.frames.frame.Value.{Value}
use Rattle.go_frames.specs.declared.frames.frame.Value.TheVariants as v
use Rattle.go_frames.specs.declared.frames.frame.Frame.{Frame}
use Rattle.go_frames.specs.declared.frames.frame.Frame.TheVariants as of
use Rattle.go_frames.specs.declared.frames.frame.ExprFrame.{ExprFrame}
use Rattle.go_frames.specs.declared.frames.frame.ExprFrame.TheVariants as e
use Rattle.go_frames.specs.declared.frames.frame.Base.{Base}
use Rattle.go_frames.specs.declared.frames.frame.Braces.{Braces}
use Rattle.go_frames.specs.declared.frames.frame.PartFrame.{PartFrame}
use Rattle.go_frames.specs.declared.frames.frame.PartFrame.TheVariants as p
use Rattle.go_frames.specs.declared.frames.frame.TypeFrame.{TypeFrame}
use Rattle.go_frames.specs.declared.frames.frame.TypeFrame.TheVariants as y
use Rattle.go_frames.specs.declared.frames.frame.StructPart.{StructPart}
use Rattle.go_frames.specs.declared.frames.frame.InterfacePart.{InterfacePart}
use Rattle.go_frames.specs.declared.frames.frame.Embedded.{Embedded}
use Rattle.go_frames.specs.declared.frames.frame.FieldFrame.{FieldFrame}
use Rattle.go_frames.specs.declared.frames.frame.FieldFrame.TheVariants as d
use Rattle.go_frames.specs.declared.frames.frame.Role.{Role}
use Rattle.go_frames.specs.declared.frames.frame.Role.TheVariants as role
use Rattle.go_frames.specs.declared.frames.frame.ParamList.{ParamList}
use Rattle.go_frames.specs.declared.frames.frame.ParamsPart.{ParamsPart}
use Rattle.go_frames.specs.declared.frames.frame.SigFrame.{SigFrame}
use Rattle.go_frames.specs.declared.frames.frame.SigFrame.TheVariants as g
use Rattle.go_frames.specs.declared.frames.frame.Mode.{Mode}
use Rattle.go_frames.specs.declared.frames.frame.Mode.TheVariants as mode
use Rattle.go_frames.specs.declared.frames.frame.Spot.{Spot}
use Rattle.go_frames.specs.declared.frames.frame.StmtFrame.{StmtFrame}
use Rattle.go_frames.specs.declared.frames.frame.StmtFrame.TheVariants as s
use Rattle.go_frames.specs.declared.frames.frame.IfPart.{IfPart}
use Rattle.go_frames.specs.declared.frames.frame.ForPart.{ForPart}
use Rattle.go_frames.specs.declared.frames.frame.ControlFrame.{ControlFrame}
use Rattle.go_frames.specs.declared.frames.frame.ControlFrame.TheVariants as c
use Rattle.go_frames.specs.declared.frames.frame.Subject.{Subject}
use Rattle.go_frames.specs.declared.frames.frame.Subject.TheVariants as on
use Rattle.go_frames.specs.declared.frames.frame.SwitchPart.{SwitchPart}
use Rattle.go_frames.specs.declared.frames.frame.SelectPart.{SelectPart}
use Rattle.go_frames.specs.declared.frames.frame.SwitchFrame.{SwitchFrame}
use Rattle.go_frames.specs.declared.frames.frame.SwitchFrame.TheVariants as w
use Rattle.go_frames.specs.declared.frames.frame.ValuesPart.{ValuesPart}
use Rattle.go_frames.specs.declared.frames.frame.TypesPart.{TypesPart}
use Rattle.go_frames.specs.declared.frames.frame.DeclFrame.{DeclFrame}
use Rattle.go_frames.specs.declared.frames.frame.DeclFrame.TheVariants as l
use Rattle.go_frames.specs.declared.frames.frame.FilePart.{FilePart}
use Rattle.go_frames.specs.declared.frames.frame.FileFrame.{FileFrame}
use Rattle.go_frames.specs.declared.frames.frame.FileFrame.TheVariants as i
use Rattle.go_frames.specs.declared.frames.frame.Untagged.{Untagged}
use Rattle.go_frames.specs.declared.frames.frame.Untagged.TheVariants as un
use Rattle.go_syntax.specs.declared.operator.Operator.TheVariants as o
use Rattle.go_grammar.specs.Classes.{prefix_op}
use Rattle.go_grammar.specs.ExprSteps as steps
use Rattle.go_grammar.specs.ExprSteps.{if_op, if_room, then_expr, operand_op}
use Rattle.go_frames.specs.declared.frames.stack.Stack.{Stack}
use Rattle.go_frames.specs.declared.frames.stack.Flow.{Flow}
use Rattle.go_frames.specs.declared.frames.stack.Flow.TheVariants as flow

-- the token at hand, with its text
abbrev pub token_of : At → List ℕ → Token
token_of at text = record { kind = at.kind; place = at.place; text = text }

abbrev pub ctx_view : Ctx → f.Ctx
ctx_view c = record { depth = c.depth; blocks = c.blocks; header = c.header; guard = c.guard }

abbrev pub exprs_in : List Expr → List t.Expr
exprs_in = map expr_view

abbrev pub stmts_in : List Stmt → List t.Stmt
stmts_in = map stmt_view

abbrev pub expr_in_option : Option Expr → Option t.Expr
expr_in_option None = None
expr_in_option (Some x) = Some (expr_view x)

-- what a list of one holds
abbrev pub one_of : List t.Expr → Option t.Expr
one_of (e ∷ []) = Some e
one_of _ = None

abbrev pub expr_perhaps : Option Expr → t.MaybeExpr
expr_perhaps None = t.NoExpr
expr_perhaps (Some x) = t.AnExpr (expr_view x)

abbrev pub stmt_perhaps : Option Stmt → t.MaybeStmt
stmt_perhaps None = t.NoStmt
stmt_perhaps (Some x) = t.AStmt (stmt_view x)

-- parameters so far, each before the rest
abbrev pub params_in : ParamList → f.Params
params_in p = map param_view p.items.items

abbrev pub receiver_in : Option ParamList → Option (Place × f.Params)
receiver_in None = None
receiver_in (Some p) = Some (p.place, params_in p)

abbrev pub value_view : Value → f.Value
value_view (v.Expr x) = f.AnExpr (expr_view x)
value_view (v.Chain n x) = f.AChain n (expr_view x)
value_view (v.Guard name x) = f.AGuard name (expr_view x)
value_view (v.Ranging xs fresh) = f.ARanging (exprs_in xs.items) fresh
value_view (v.Sig sig) = f.ASig (sig_view sig)
value_view (v.Block b) = f.ABlock (block_view b)
value_view (v.Stmt x) = f.AStmt (stmt_view x)
value_view (v.Decl x) = f.ADecl (decl_view x)

abbrev pub expr_frame : ExprFrame → f.ExprFrame
expr_frame (e.Operand c) = f.Operand (ctx_view c)
expr_frame (e.Tail c n x) = f.Tail (ctx_view c) n (expr_view x)
expr_frame (e.Prefix at op) = f.Before at op
expr_frame (e.Chain c) = f.Chain (ctx_view c)
expr_frame (e.Left c n x op) = f.Left (ctx_view c) n (expr_view x) op
expr_frame (e.Paren c at) = f.InParens (ctx_view c) at
expr_frame (e.TypeOperand c) = f.TypeOperand (ctx_view c)
expr_frame (e.Func c at) = f.AtFunc (ctx_view c) at
expr_frame (e.FuncBody c at sig) = f.AtBody (ctx_view c) at (sig_view sig)

abbrev pub base_view : Base → f.Base
base_view b = record { ctx = ctx_view b.ctx; count = b.count; expr = expr_view b.expr }

abbrev pub braces_view : Braces → f.Braces
braces_view b = record { ctx = ctx_view b.ctx; count = b.count; place = b.place; ty = expr_in_option b.ty }

abbrev pub part_frame : PartFrame → f.PartFrame
part_frame (p.Dot b) = f.Dot (base_view b)
part_frame (p.AssertOpen b) = f.AssertOpen (base_view b)
part_frame (p.Assert b) = f.Asserted (base_view b)
part_frame (p.Bracket b) = f.Bracket (base_view b)
part_frame (p.Index b) = f.Index (base_view b)
part_frame (p.High b low) = f.High (base_view b) (expr_in_option low)
part_frame (p.HighExpr b low) = f.HighExpr (base_view b) (expr_in_option low)
part_frame (p.Max b low high) = f.Most (base_view b) (expr_in_option low) (expr_view high)
part_frame (p.Args b xs) = f.Args (base_view b) (exprs_in xs.items)
part_frame (p.Arg b xs) = f.Arg (base_view b) (exprs_in xs.items)
part_frame (p.Spread b xs comma) = f.Spread (base_view b) (exprs_in xs.items) comma
part_frame (p.Elems b xs) = f.InBraces (braces_view b) (map elem_view xs.items)
part_frame (p.Elem b xs key) = f.Element (braces_view b) (map elem_view xs.items) (expr_in_option key)
part_frame (p.ElemValue b xs key) = f.Keyed (braces_view b) (map elem_view xs.items) (expr_view key)

abbrev pub type_frame : TypeFrame → f.TypeFrame
type_frame (y.Type c) = f.AType (ctx_view c)
type_frame (y.Name x) = f.TypeName (expr_view x)
type_frame (y.Dot x) = f.TypeDot (expr_view x)
type_frame (y.Paren at) = f.TypeParens at
type_frame (y.Star at) = f.Star at
type_frame (y.Bracket c at) = f.TypeBracket (ctx_view c) at
type_frame (y.Dots c at) = f.Dots (ctx_view c) at
type_frame (y.Len c at) = f.Len (ctx_view c) at
type_frame (y.Slice at) = f.SliceOf at
type_frame (y.Array at n) = f.ArrayOf at (expr_in_option n)
type_frame (y.Map c at) = f.MapOpen (ctx_view c) at
type_frame (y.Key c at) = f.Key (ctx_view c) at
type_frame (y.MapElem at key) = f.MapOf at (expr_view key)
type_frame (y.Chan c at) = f.ChanOpen (ctx_view c) at
type_frame (y.Both at) = f.BothOf at
type_frame (y.Send at) = f.SendOf at
type_frame (y.Arrow c at) = f.Arrow (ctx_view c) at
type_frame (y.Receive at) = f.ReceiveOf at
type_frame (y.Func at) = f.FuncOf at
type_frame (y.Struct c at) = f.StructOpen (ctx_view c) at
type_frame (y.Interface c at) = f.InterfaceOpen (ctx_view c) at

abbrev pub struct_part : StructPart → f.StructPart
struct_part x = record { ctx = ctx_view x.ctx; place = x.place; fields = map field_view x.fields.items }

abbrev pub interface_part : InterfacePart → f.InterfacePart
interface_part x = record { ctx = ctx_view x.ctx; place = x.place; members = map member_view x.members.items }

abbrev pub embedded_view : Embedded → f.Embedded
embedded_view x = record { place = x.place; star = x.star; ty = expr_view x.ty }

abbrev pub field_frame : FieldFrame → f.FieldFrame
field_frame (d.Fields x) = f.InStruct (struct_part x)
field_frame (d.Name x name) = f.FieldName (struct_part x) name
field_frame (d.Next x names) = f.NextField (struct_part x) names.items
field_frame (d.Names x names) = f.FieldNames (struct_part x) names.items
field_frame (d.Named x names) = f.Named (struct_part x) names.items
field_frame (d.Star x at) = f.FieldStar (struct_part x) at
field_frame (d.Embedded x e) = f.EmbeddedName (struct_part x) (embedded_view e)
field_frame (d.Dot x e) = f.FieldDot (struct_part x) (embedded_view e)
field_frame (d.EmbeddedEnd x e) = f.EmbeddedEnd (struct_part x) (embedded_view e)
field_frame (d.End x) = f.FieldEnd (struct_part x)
field_frame (d.Members x) = f.InInterface (interface_part x)
field_frame (d.Member x name) = f.MemberName (interface_part x) name
field_frame (d.MemberDot x e) = f.MemberDot (interface_part x) (expr_view e)
field_frame (d.MemberEnd x) = f.MemberEnd (interface_part x)
field_frame (d.Method x name) = f.Method (interface_part x) name

abbrev pub role_view : Role → f.Role
role_view role.Params = f.OfParams
role_view (role.Results p) = f.OfResults p.place (params_in p)
role_view (role.Receiver at) = f.OfReceiver at

abbrev pub params_part : ParamsPart → f.ParamsPart
params_part x = record { ctx = ctx_view x.ctx; place = x.place; items = map param_view x.items.items; role = role_view x.role }

abbrev pub sig_frame : SigFrame → f.SigFrame
sig_frame (g.Open c) = f.SigOpen (ctx_view c)
sig_frame (g.Params x) = f.InParams (params_part x)
sig_frame (g.Name x name) = f.ParamName (params_part x) name
sig_frame (g.Param x at name variadic) = f.Param (params_part x) at name variadic
sig_frame (g.Results c p) = f.AfterParams (ctx_view c) p.place (params_in p)
sig_frame (g.Result p) = f.Result p.place (params_in p)

abbrev pub mode_view : Mode → f.Mode
mode_view (mode.Stmt n) = f.Listed n
mode_view mode.Header = f.Headed
mode_view mode.For = f.InFor
mode_view mode.Switch = f.InSwitch
mode_view mode.Tag = f.InTag

abbrev pub spot_view : Spot → f.Spot
spot_view x = record { ctx = ctx_view x.ctx; mode = mode_view x.mode; place = x.place }

abbrev pub stmt_frame : StmtFrame → f.StmtFrame
stmt_frame (s.Block b at xs) = f.InBlock b at (stmts_in xs.items)
stmt_frame s.Decl = f.Declared
stmt_frame s.Inner = f.Inner
stmt_frame (s.Go at) = f.AtGo at
stmt_frame (s.Defer at) = f.AtDefer at
stmt_frame (s.Return b at) = f.AtReturn b at
stmt_frame (s.Returned b at xs) = f.Returned b at (exprs_in xs.items)
stmt_frame (s.Break at) = f.AtBreak at true
stmt_frame (s.Continue at) = f.AtBreak at false
stmt_frame (s.Label b n) = f.AfterLabel b n
stmt_frame (s.Labeled name) = f.Labeled name
stmt_frame (s.Simple x xs) = f.Simple (spot_view x) (exprs_in xs.items)
stmt_frame (s.Right x xs fresh) = f.Right (spot_view x) (exprs_in xs.items) fresh
stmt_frame (s.Assign x xs op ys) = f.Assigned (spot_view x) (exprs_in xs.items) op (exprs_in ys.items)
stmt_frame (s.Define x xs ys) = f.Defined (spot_view x) (exprs_in xs.items) (exprs_in ys.items)
stmt_frame (s.Send at xs) = f.Sent at (exprs_in xs.items)

abbrev pub if_part : IfPart → f.IfPart
if_part x = record { blocks = x.blocks; place = x.place; elses = x.elses; init = stmt_perhaps x.init }

abbrev pub for_part : ForPart → f.ForPart
for_part x = record { blocks = x.blocks; place = x.place }

abbrev pub control_frame : ControlFrame → f.ControlFrame
control_frame (c.If x) = f.AtIf (if_part x)
control_frame (c.Condition x) = f.Condition (if_part x)
control_frame (c.Then x e) = f.Then (if_part x) (expr_view e)
control_frame (c.Else x e b) = f.AtElse (if_part x) (expr_view e) (block_view b)
control_frame (c.Other x e b) = f.Other (if_part x) (expr_view e) (block_view b)
control_frame (c.For x) = f.AtFor (for_part x)
control_frame (c.ForCondition x init) = f.ForCondition (for_part x) (stmt_perhaps init)
control_frame (c.Post x init e) = f.Post (for_part x) (stmt_perhaps init) (expr_perhaps e)
control_frame (c.ForBody x init e post) = f.ForBody (for_part x) (stmt_perhaps init) (expr_perhaps e) (stmt_perhaps post)
control_frame (c.Range x xs fresh) = f.AtRange (for_part x) (exprs_in xs.items) fresh
control_frame (c.RangeBody x xs fresh e) = f.RangeBody (for_part x) (exprs_in xs.items) fresh (expr_view e)

abbrev pub subject_view : Subject → f.Subject
subject_view (on.Tag e) = f.OnTag (expr_perhaps e)
subject_view (on.Guard name e) = f.OnGuard name (expr_view e)

abbrev pub switch_part : SwitchPart → f.SwitchPart
switch_part x = record { blocks = x.blocks; place = x.place; init = stmt_perhaps x.init; subject = subject_view x.subject; clauses = map clause_view x.clauses.items }

abbrev pub select_part : SelectPart → f.SelectPart
select_part x = record { blocks = x.blocks; place = x.place; comms = map comm_view x.comms.items }

abbrev pub switch_frame : SwitchFrame → f.SwitchFrame
switch_frame (w.Head b at) = f.SwitchHead b at
switch_frame (w.Tag b at init) = f.SwitchTag b at (stmt_perhaps init)
switch_frame (w.GuardEnd b at init name e) = f.GuardEnd b at (stmt_perhaps init) name (expr_view e)
switch_frame (w.Clauses x) = f.InSwitchBraces (switch_part x)
switch_frame (w.Case x at es) = f.Case (switch_part x) at (exprs_in es.items)
switch_frame (w.Default x at) = f.Default (switch_part x) at
switch_frame (w.Body x at es ss) = f.ClauseBody (switch_part x) at (exprs_in es.items) (stmts_in ss.items)
switch_frame (w.Select b at) = f.SelectOpen b at
switch_frame (w.Comms x) = f.InSelect (select_part x)
switch_frame (w.Comm x at) = f.CommCase (select_part x) at
switch_frame (w.CommDefault x at) = f.CommDefault (select_part x) at
switch_frame (w.CommBody x at s ss) = f.CommBody (select_part x) at (stmt_perhaps s) (stmts_in ss.items)

abbrev pub values_part : ValuesPart → f.ValuesPart
values_part x = record { blocks = x.blocks; place = x.place; constant = x.constant; group = x.group; specs = map value_spec_view x.specs.items }

abbrev pub types_part : TypesPart → f.TypesPart
types_part x = record { blocks = x.blocks; place = x.place; group = x.group; specs = map type_spec_view x.specs.items }

abbrev pub decl_frame : DeclFrame → f.DeclFrame
decl_frame (l.Values x) = f.AtValues (values_part x)
decl_frame (l.ValueGroup x) = f.ValueGroup (values_part x)
decl_frame (l.NextName x names) = f.NextValue (values_part x) names.items
decl_frame (l.Names x names) = f.ValueNames (values_part x) names.items
decl_frame (l.ValueType x names) = f.ValueType (values_part x) names.items
decl_frame (l.ValueExprs x names ty es) = f.ValueExprs (values_part x) names.items (expr_perhaps ty) (exprs_in es.items)
decl_frame (l.Types x) = f.AtTypes (types_part x)
decl_frame (l.TypeGroup x) = f.TypeGroup (types_part x)
decl_frame (l.TypeName x name) = f.DeclaredName (types_part x) name
decl_frame (l.TypeOf x name alias) = f.DeclaredType (types_part x) name alias

abbrev pub file_part : FilePart → f.FilePart
file_part x = record { «package» = x.package; imports = map import_view x.imports.items; decls = map decl_view x.decls.items }

abbrev pub file_frame : FileFrame → f.FileFrame
file_frame i.Start = f.Start
file_frame i.Package = f.AtPackage
file_frame (i.PackageEnd name) = f.PackageEnd name
file_frame (i.Top x) = f.Top (file_part x)
file_frame (i.Import x) = f.AtImport (file_part x)
file_frame (i.ImportGroup x) = f.ImportGroup (file_part x)
file_frame (i.Path x group name) = f.ImportName (file_part x) group name
file_frame (i.ImportEnd x group) = f.ImportEnd (file_part x) group
file_frame (i.Func at) = f.TopFunc at
file_frame (i.FuncName at p) = f.FuncName at p.place (params_in p)
file_frame (i.FuncSig at receiver name) = f.FuncSig at (receiver_in receiver) name
file_frame (i.FuncBody at receiver name sig) = f.TopBody at (receiver_in receiver) name (sig_view sig)
file_frame (i.Whole file) = f.Whole (file_view file)

abbrev pub frame_view : Frame → f.Frame
frame_view (of.Expr x) = f.OfExpr (expr_frame x)
frame_view (of.Part x) = f.OfPart (part_frame x)
frame_view (of.Type x) = f.OfType (type_frame x)
frame_view (of.Field x) = f.OfField (field_frame x)
frame_view (of.Sig x) = f.OfSig (sig_frame x)
frame_view (of.Stmt x) = f.OfStmt (stmt_frame x)
frame_view (of.Control x) = f.OfControl (control_frame x)
frame_view (of.Switch x) = f.OfSwitch (switch_frame x)
frame_view (of.Decl x) = f.OfDecl (decl_frame x)
frame_view (of.File x) = f.OfFile (file_frame x)
frame_view (of.Done x) = f.Done (value_view x)

-- frames put on a stack one after the other
abbrev pub put_on : List Frame → f.Stack → f.Stack
put_on [] below = below
put_on (x ∷ xs) below = put_on xs (frame_view x ∷ below)

abbrev pub stack_view : Stack → f.Stack
stack_view x = put_on x.frames.items []

abbrev pub flow_view : Flow → f.Flow
flow_view (flow.Goes x) = f.Goes (stack_view x)
flow_view (flow.Over x below) = f.Over (value_view x) (stack_view below)
flow_view flow.Stuck = f.Stuck
flow_view flow.Deep = f.Deep
flow_view (flow.Long at) = f.Long at

-- what is taken from a stack: nothing where it is empty, else its top frame
abbrev pub Popped : Option (Frame × Stack) → f.Stack → Type 0
Popped None below = below ≡ []
Popped (Some x) below = below ≡ frame_view x.0 ∷ stack_view x.1

-- where memory was given, it comes to this
abbrev pub Comes : Result Flow NoMemory → f.Flow → Type 0
Comes (Ok x) y = flow_view x ≡ y
Comes (Err _) y = ⊤

-- what an operator or a punctuation does where an operand comes
abbrev pub operand_by_op : Token → f.Ctx → f.Stack → f.Flow
operand_by_op u c s =
    if_op o.LeftParen u (if_room c (then_expr (f.inside c) (f.OfExpr (f.InParens c u.place) ∷ s)))
    (if_op o.LeftBracket u (if_room c (f.Goes (f.OfType (f.TypeBracket c u.place) ∷ f.OfExpr (f.TypeOperand c) ∷ s)))
    (operand_op u c s (prefix_op u.kind)))

abbrev pub untagged_view : Untagged → steps.Untagged
untagged_view (un.Named names e) = steps.NamedOnes names.items (expr_view e)
untagged_view (un.Embedded x) = steps.EmbeddedOne (embedded_view x)

-- the field that a tag makes of it
abbrev pub field_of : steps.Untagged → Option (List ℕ) → t.Fields → t.Fields
field_of (steps.NamedOnes names e) tag rest = t.NamedFields names e tag rest
field_of (steps.EmbeddedOne x) tag rest = t.EmbeddedField x.place x.star x.ty tag rest

-- the frames below a tree that is done
abbrev pub frames_below : Flow → f.Stack
frames_below (flow.Over x below) = stack_view below
frames_below _ = []
