-- Limits: what frames wait for, and what they have kept.
use Rattle.std.proofs.Common.{◌≡◌, ◌≤◌, ◌<◌, ◌+◌, Bool, true, false, ℕ, List, Option, Some, None}
use Rattle.gj_base.specs.declared.place.Place.{Place}
use Rattle.gj_base.specs.declared.kind.Op.{Op}
use Rattle.go_syntax.specs.Tree as t
use Rattle.go_syntax.specs.View.{joined, exprs_of, stmts_of}
use Rattle.go_syntax.specs.declared.tree.Name.{Name}
use Rattle.go_syntax.specs.declared.tree.Prefix.{Prefix}
use Rattle.std.specs.List.{list_all}
use Rattle.go_grammar.specs.Limits.{has_room, one_deeper, one_longer, operators, parts, last_parts, prefixes, elses, labels, expr_fits, maybe_fits, exprs_fit, elems_fit, sig_fits, params_fit, fields_fit, members_fit, block_fits, stmts_fit, maybe_stmt_fits, stmt_fits, clauses_fit, comms_fit, decl_fits, values_fit, types_fit}
use Rattle.go_grammar.specs.Frames as f
use Rattle.go_grammar.specs.Frames.{Ctx, new_ctx, header_ctx, inside, deeper, Base, Braces, Elems, StructPart, InterfacePart, Embedded, Params, Role, ParamsPart, Mode, Listed, Headed, InFor, InSwitch, InTag, Spot, IfPart, ForPart, Subject, SwitchPart, SelectPart, ValuesPart, TypesPart, FilePart, ExprFrame, PartFrame, TypeFrame, FieldFrame, SigFrame, StmtFrame, ControlFrame, SwitchFrame, DeclFrame, FileFrame, Frame, OfExpr, OfPart, OfType, OfField, OfSig, OfStmt, OfControl, OfSwitch, OfDecl, OfFile, Done, Stack, Flow, Goes, Over, Stuck, Deep, Long, Value, AnExpr, AChain, AGuard, ARanging, ASig, ABlock, AStmt, ADecl}
use Rattle.go_grammar.specs.Nodes.{maybe}

-- an operand with so many parts
pub record TailFits (n : ℕ) (e : t.Expr) : Type 0 where
  pub parts : parts e ≤ n
  pub last : last_parts e ≤ n
  pub ops : operators e ≡ 0
  pub prefixes : prefixes e ≡ 0

-- an expression before `.(type`, after so many operators
pub record GuardFits (b d k : ℕ) (e : t.Expr) : Type 0 where
  pub fits : expr_fits b d e ≡ true
  pub ops : operators e + k ≤ 500
  pub parts : last_parts e + 1 ≤ 500
  pub room : has_room (d + prefixes e) ≡ true

-- what a frame waits for, with the blocks and the depth round it
pub data Bound : Type 0 where
  LNone : Bound
  LFile : Bound
  -- after so many operators
  LUnary : ℕ → ℕ → ℕ → Bound
  LExpr : ℕ → ℕ → Bound
  -- whether it is an operand
  LType : Bool → ℕ → ℕ → Bound
  LSig : ℕ → ℕ → Bound
  LBlock : ℕ → Bound
  -- after so many labels
  LStmt : ℕ → ℕ → Bound
  -- after so many `else`
  LElse : ℕ → ℕ → Bound
  LDecl : ℕ → Bound

abbrev pub Fit : Bound → Value → Type 0
Fit (LUnary b d k) (AnExpr e) = (expr_fits b d e ≡ true) × (operators e ≡ 0)
Fit (LUnary b d k) (AChain n e) = (expr_fits b d e ≡ true) × (operators e + k ≤ n) × (n ≤ 500)
Fit (LUnary b d k) (AGuard x e) = GuardFits b d k e
Fit (LExpr b d) (AnExpr e) = expr_fits b d e ≡ true
Fit (LExpr b d) (AGuard x e) = GuardFits b d 0 e
Fit (LType g b d) (AnExpr e) = (expr_fits b d e ≡ true) × (g ≡ true → TailFits 0 e)
Fit (LSig b d) (ASig sig) = sig_fits b d sig ≡ true
Fit (LBlock b) (ABlock x) = block_fits b x ≡ true
Fit (LStmt b n) (AStmt s) = (stmt_fits b s ≡ true) × (labels s + n ≤ 500)
Fit (LStmt b n) (AGuard x e) = GuardFits b 0 0 e
Fit (LStmt b n) (ARanging es fresh) = exprs_fit b 0 (exprs_of es) ≡ true
Fit (LElse b n) (AStmt s) = (stmt_fits b s ≡ true) × (elses (t.AStmt s) + n ≤ 501)
Fit (LElse b n) (ABlock x) = block_fits b x ≡ true
Fit (LDecl b) (ADecl d) = decl_fits b d ≡ true
Fit _ _ = ⊥

pub data KExpr : ExprFrame → Bound → Type 0 where
  operand : {c : Ctx} {k : ℕ} → k ≤ 500 → KExpr (f.Operand c) (LUnary c.blocks c.depth k)
  tail : {c : Ctx} {n k : ℕ} {e : t.Expr} → k ≤ 500 → n ≤ 500 → expr_fits c.blocks c.depth e ≡ true → TailFits n e → KExpr (f.Tail c n e) (LUnary c.blocks c.depth k)
  before : {at : Place} {p : Prefix} {b d k : ℕ} → k ≤ 500 → has_room d ≡ true → KExpr (f.Before at p) (LUnary b d k)
  chain : {c : Ctx} → KExpr (f.Chain c) (LExpr c.blocks c.depth)
  left : {c : Ctx} {n k : ℕ} {a : t.Expr} {op : Op} → expr_fits c.blocks c.depth a ≡ true → operators a + 1 + k ≤ n → n ≤ 500 → KExpr (f.Left c n a op) (LUnary c.blocks c.depth k)
  in_parens : {c : Ctx} {at : Place} {k : ℕ} → k ≤ 500 → has_room c.depth ≡ true → KExpr (f.InParens c at) (LUnary c.blocks c.depth k)
  type_operand : {c : Ctx} {k : ℕ} → k ≤ 500 → KExpr (f.TypeOperand c) (LUnary c.blocks c.depth k)
  at_func : {c : Ctx} {at : Place} {k : ℕ} → k ≤ 500 → KExpr (f.AtFunc c at) (LUnary c.blocks c.depth k)
  at_body : {c : Ctx} {at : Place} {sig : t.Sig} {k : ℕ} → k ≤ 500 → sig_fits c.blocks c.depth sig ≡ true → KExpr (f.AtBody c at sig) (LUnary c.blocks c.depth k)

abbrev pub l_expr : ExprFrame → Bound → Bound
l_expr (f.Before at p) (LUnary b d k) = LUnary b (one_deeper d) 0
l_expr (f.Chain c) w = LUnary c.blocks c.depth 0
l_expr (f.Left c n a op) (LUnary b d k) = LUnary c.blocks c.depth (operators a + 1 + k)
l_expr (f.InParens c at) w = LExpr c.blocks (one_deeper c.depth)
l_expr (f.TypeOperand c) w = LType true c.blocks c.depth
l_expr (f.AtFunc c at) w = LSig c.blocks c.depth
l_expr (f.AtBody c at sig) w = LBlock c.blocks
l_expr _ w = LNone

-- an operand before a part
pub record BaseFits (x : Base) (k : ℕ) : Type 0 where
  pub fits : expr_fits x.ctx.blocks x.ctx.depth x.expr ≡ true
  pub tail : TailFits x.count x.expr
  pub short : x.count < 500
  pub chain : k ≤ 500

pub record ElemsFit (b d : ℕ) (xs : Elems) : Type 0 where
  pub fit : (r : t.Elems) → elems_fit b d r ≡ true → elems_fit b d (joined xs r) ≡ true

-- a literal's type and elements
pub data BracesFit : Braces → Elems → Bound → Type 0 where
  typed : {c : Ctx} {n k : ℕ} {at : Place} {e : t.Expr} {xs : Elems} → BaseFits (record { ctx = c; count = n; expr = e }) k → has_room c.depth ≡ true → ElemsFit c.blocks (one_deeper c.depth) xs → BracesFit (record { ctx = c; count = n; place = at; ty = Some e }) xs (LUnary c.blocks c.depth k)
  bare : {c : Ctx} {n : ℕ} {at : Place} {xs : Elems} → has_room c.depth ≡ true → ElemsFit c.blocks (one_deeper c.depth) xs → BracesFit (record { ctx = c; count = n; place = at; ty = None }) xs (LExpr c.blocks c.depth)

pub data KPart : PartFrame → Bound → Type 0 where
  dot : {x : Base} {k : ℕ} → BaseFits x k → KPart (f.Dot x) (LUnary x.ctx.blocks x.ctx.depth k)
  assert_open : {x : Base} {k : ℕ} → BaseFits x k → has_room x.ctx.depth ≡ true → KPart (f.AssertOpen x) (LUnary x.ctx.blocks x.ctx.depth k)
  asserted : {x : Base} {k : ℕ} → BaseFits x k → has_room x.ctx.depth ≡ true → KPart (f.Asserted x) (LUnary x.ctx.blocks x.ctx.depth k)
  bracket : {x : Base} {k : ℕ} → BaseFits x k → has_room x.ctx.depth ≡ true → KPart (f.Bracket x) (LUnary x.ctx.blocks x.ctx.depth k)
  index : {x : Base} {k : ℕ} → BaseFits x k → has_room x.ctx.depth ≡ true → KPart (f.Index x) (LUnary x.ctx.blocks x.ctx.depth k)
  high : {x : Base} {k : ℕ} {i : Option t.Expr} → BaseFits x k → has_room x.ctx.depth ≡ true → maybe_fits x.ctx.blocks (one_deeper x.ctx.depth) (maybe i) ≡ true → KPart (f.High x i) (LUnary x.ctx.blocks x.ctx.depth k)
  high_expr : {x : Base} {k : ℕ} {i : Option t.Expr} → BaseFits x k → has_room x.ctx.depth ≡ true → maybe_fits x.ctx.blocks (one_deeper x.ctx.depth) (maybe i) ≡ true → KPart (f.HighExpr x i) (LUnary x.ctx.blocks x.ctx.depth k)
  most : {x : Base} {k : ℕ} {i : Option t.Expr} {j : t.Expr} → BaseFits x k → has_room x.ctx.depth ≡ true → maybe_fits x.ctx.blocks (one_deeper x.ctx.depth) (maybe i) ≡ true → expr_fits x.ctx.blocks (one_deeper x.ctx.depth) j ≡ true → KPart (f.Most x i j) (LUnary x.ctx.blocks x.ctx.depth k)
  args : {x : Base} {k : ℕ} {es : List t.Expr} → BaseFits x k → has_room x.ctx.depth ≡ true → exprs_fit x.ctx.blocks (one_deeper x.ctx.depth) (exprs_of es) ≡ true → KPart (f.Args x es) (LUnary x.ctx.blocks x.ctx.depth k)
  arg : {x : Base} {k : ℕ} {es : List t.Expr} → BaseFits x k → has_room x.ctx.depth ≡ true → exprs_fit x.ctx.blocks (one_deeper x.ctx.depth) (exprs_of es) ≡ true → KPart (f.Arg x es) (LUnary x.ctx.blocks x.ctx.depth k)
  spread : {x : Base} {k : ℕ} {es : List t.Expr} {comma : Bool} → BaseFits x k → has_room x.ctx.depth ≡ true → exprs_fit x.ctx.blocks (one_deeper x.ctx.depth) (exprs_of es) ≡ true → KPart (f.Spread x es comma) (LUnary x.ctx.blocks x.ctx.depth k)
  in_braces : {x : Braces} {xs : Elems} {w : Bound} → BracesFit x xs w → KPart (f.InBraces x xs) w
  element : {x : Braces} {xs : Elems} {key : Option t.Expr} {w : Bound} → BracesFit x xs w → maybe_fits x.ctx.blocks (one_deeper x.ctx.depth) (maybe key) ≡ true → KPart (f.Element x xs key) w
  keyed : {x : Braces} {xs : Elems} {key : t.Expr} {w : Bound} → BracesFit x xs w → expr_fits x.ctx.blocks (one_deeper x.ctx.depth) key ≡ true → KPart (f.Keyed x xs key) w

abbrev pub l_part : PartFrame → Bound
l_part (f.Asserted x) = LType false x.ctx.blocks (one_deeper x.ctx.depth)
l_part (f.Index x) = LExpr x.ctx.blocks (one_deeper x.ctx.depth)
l_part (f.HighExpr x i) = LExpr x.ctx.blocks (one_deeper x.ctx.depth)
l_part (f.Most x i j) = LExpr x.ctx.blocks (one_deeper x.ctx.depth)
l_part (f.Arg x es) = LExpr x.ctx.blocks (one_deeper x.ctx.depth)
l_part (f.Element x xs key) = LExpr x.ctx.blocks (one_deeper x.ctx.depth)
l_part _ = LNone

pub data KType : TypeFrame → Bound → Type 0 where
  a_type : {c : Ctx} → KType (f.AType c) (LType false c.blocks c.depth)
  type_name : {at : Place} {x : List ℕ} {b d : ℕ} → KType (f.TypeName (t.NameExpr at x)) (LType false b d)
  type_dot : {at : Place} {x : List ℕ} {b d : ℕ} → KType (f.TypeDot (t.NameExpr at x)) (LType false b d)
  type_parens : {at : Place} {b d : ℕ} → has_room d ≡ true → KType (f.TypeParens at) (LType false b d)
  star : {at : Place} {b d : ℕ} → has_room d ≡ true → KType (f.Star at) (LType false b d)
  type_bracket : {c : Ctx} {at : Place} {g : Bool} → has_room c.depth ≡ true → KType (f.TypeBracket c at) (LType g c.blocks c.depth)
  dots : {c : Ctx} {at : Place} {g : Bool} → has_room c.depth ≡ true → KType (f.Dots c at) (LType g c.blocks c.depth)
  len : {c : Ctx} {at : Place} {g : Bool} → has_room c.depth ≡ true → KType (f.Len c at) (LType g c.blocks c.depth)
  slice_of : {at : Place} {g : Bool} {b d : ℕ} → has_room d ≡ true → KType (f.SliceOf at) (LType g b d)
  array_of : {at : Place} {g : Bool} {b d : ℕ} {n : Option t.Expr} → has_room d ≡ true → maybe_fits b (one_deeper d) (maybe n) ≡ true → KType (f.ArrayOf at n) (LType g b d)
  map_open : {c : Ctx} {at : Place} {g : Bool} → KType (f.MapOpen c at) (LType g c.blocks c.depth)
  key : {c : Ctx} {at : Place} {g : Bool} → has_room c.depth ≡ true → KType (f.Key c at) (LType g c.blocks c.depth)
  map_of : {at : Place} {g : Bool} {b d : ℕ} {k : t.Expr} → has_room d ≡ true → expr_fits b (one_deeper d) k ≡ true → KType (f.MapOf at k) (LType g b d)
  chan_open : {c : Ctx} {at : Place} {g : Bool} {d : ℕ} → has_room d ≡ true → c.depth ≡ one_deeper d → KType (f.ChanOpen c at) (LType g c.blocks d)
  both_of : {at : Place} {g : Bool} {b d : ℕ} → has_room d ≡ true → KType (f.BothOf at) (LType g b d)
  send_of : {at : Place} {g : Bool} {b d : ℕ} → has_room d ≡ true → KType (f.SendOf at) (LType g b d)
  arrow : {c : Ctx} {at : Place} {d : ℕ} → has_room d ≡ true → c.depth ≡ one_deeper d → KType (f.Arrow c at) (LType false c.blocks d)
  receive_of : {at : Place} {b d : ℕ} → has_room d ≡ true → has_room (one_deeper d) ≡ true → KType (f.ReceiveOf at) (LType false b d)
  func_of : {at : Place} {b d : ℕ} → KType (f.FuncOf at) (LType false b d)
  struct_open : {c : Ctx} {at : Place} {g : Bool} → KType (f.StructOpen c at) (LType g c.blocks c.depth)
  interface_open : {c : Ctx} {at : Place} {g : Bool} → KType (f.InterfaceOpen c at) (LType g c.blocks c.depth)

-- the depth, the blocks and the labels that a bound has
abbrev pub depth_of : Bound → ℕ
depth_of (LType g b d) = d
depth_of _ = 0

abbrev pub blocks_of : Bound → ℕ
blocks_of (LType g b d) = b
blocks_of (LStmt b n) = b
blocks_of _ = 0

abbrev pub stmt_labels : Bound → ℕ
stmt_labels (LStmt b n) = n
stmt_labels _ = 0

abbrev pub l_type : TypeFrame → Bound → Bound
l_type (f.TypeParens at) w = LType false (blocks_of w) (one_deeper (depth_of w))
l_type (f.Star at) w = LType false (blocks_of w) (one_deeper (depth_of w))
l_type (f.Len c at) w = LExpr c.blocks (one_deeper c.depth)
l_type (f.SliceOf at) w = LType false (blocks_of w) (one_deeper (depth_of w))
l_type (f.ArrayOf at n) w = LType false (blocks_of w) (one_deeper (depth_of w))
l_type (f.Key c at) w = LType false c.blocks (one_deeper c.depth)
l_type (f.MapOf at k) w = LType false (blocks_of w) (one_deeper (depth_of w))
l_type (f.BothOf at) w = LType false (blocks_of w) (one_deeper (depth_of w))
l_type (f.SendOf at) w = LType false (blocks_of w) (one_deeper (depth_of w))
l_type (f.ReceiveOf at) w = LType false (blocks_of w) (one_deeper (one_deeper (depth_of w)))
l_type (f.FuncOf at) w = LSig (blocks_of w) (depth_of w)
l_type _ w = LNone

pub record FieldsFit (b d : ℕ) (xs : List (t.Fields → t.Fields)) : Type 0 where
  pub fit : (r : t.Fields) → fields_fit b d r ≡ true → fields_fit b d (joined xs r) ≡ true

pub record MembersFit (b d : ℕ) (xs : List (t.Members → t.Members)) : Type 0 where
  pub fit : (r : t.Members) → members_fit b d r ≡ true → members_fit b d (joined xs r) ≡ true

-- a struct type, with the depth round it
pub record StructFits (x : StructPart) (g : Bool) (d : ℕ) : Type 0 where
  pub room : has_room d ≡ true
  pub depth : x.ctx.depth ≡ one_deeper d
  pub fields : FieldsFit x.ctx.blocks x.ctx.depth x.fields

pub record InterfaceFits (x : InterfacePart) (g : Bool) (d : ℕ) : Type 0 where
  pub room : has_room d ≡ true
  pub depth : x.ctx.depth ≡ one_deeper d
  pub members : MembersFit x.ctx.blocks x.ctx.depth x.members

pub data KField : FieldFrame → Bound → Type 0 where
  in_struct : {x : StructPart} {g : Bool} {d : ℕ} → StructFits x g d → KField (f.InStruct x) (LType g x.ctx.blocks d)
  field_name : {x : StructPart} {y : Name} {g : Bool} {d : ℕ} → StructFits x g d → KField (f.FieldName x y) (LType g x.ctx.blocks d)
  next_field : {x : StructPart} {ys : List Name} {g : Bool} {d : ℕ} → StructFits x g d → KField (f.NextField x ys) (LType g x.ctx.blocks d)
  field_names : {x : StructPart} {ys : List Name} {g : Bool} {d : ℕ} → StructFits x g d → KField (f.FieldNames x ys) (LType g x.ctx.blocks d)
  named : {x : StructPart} {ys : List Name} {g : Bool} {d : ℕ} → StructFits x g d → KField (f.Named x ys) (LType g x.ctx.blocks d)
  field_star : {x : StructPart} {at : Place} {g : Bool} {d : ℕ} → StructFits x g d → KField (f.FieldStar x at) (LType g x.ctx.blocks d)
  embedded_name : {x : StructPart} {y : Embedded} {g : Bool} {d : ℕ} → StructFits x g d → KField (f.EmbeddedName x y) (LType g x.ctx.blocks d)
  field_dot : {x : StructPart} {y : Embedded} {g : Bool} {d : ℕ} → StructFits x g d → KField (f.FieldDot x y) (LType g x.ctx.blocks d)
  embedded_end : {x : StructPart} {y : Embedded} {g : Bool} {d : ℕ} → StructFits x g d → KField (f.EmbeddedEnd x y) (LType g x.ctx.blocks d)
  field_end : {x : StructPart} {g : Bool} {d : ℕ} → StructFits x g d → KField (f.FieldEnd x) (LType g x.ctx.blocks d)
  in_interface : {x : InterfacePart} {g : Bool} {d : ℕ} → InterfaceFits x g d → KField (f.InInterface x) (LType g x.ctx.blocks d)
  member_name : {x : InterfacePart} {y : Name} {g : Bool} {d : ℕ} → InterfaceFits x g d → KField (f.MemberName x y) (LType g x.ctx.blocks d)
  member_dot : {x : InterfacePart} {e : t.Expr} {g : Bool} {d : ℕ} → InterfaceFits x g d → KField (f.MemberDot x e) (LType g x.ctx.blocks d)
  member_end : {x : InterfacePart} {g : Bool} {d : ℕ} → InterfaceFits x g d → KField (f.MemberEnd x) (LType g x.ctx.blocks d)
  method : {x : InterfacePart} {y : Name} {g : Bool} {d : ℕ} → InterfaceFits x g d → KField (f.Method x y) (LType g x.ctx.blocks d)

abbrev pub l_field : FieldFrame → Bound
l_field (f.Named x ys) = LType false x.ctx.blocks x.ctx.depth
l_field (f.Method x y) = LSig x.ctx.blocks x.ctx.depth
l_field _ = LNone

pub record ParamsFit (b d : ℕ) (xs : Params) : Type 0 where
  pub fit : (r : t.Params) → params_fit b d r ≡ true → params_fit b d (joined xs r) ≡ true

-- what a list is for
pub data RoleFits : Role → ℕ → ℕ → Bound → Type 0 where
  params_role : {b d : ℕ} → RoleFits f.OfParams b d (LSig b d)
  results_role : {at : Place} {xs : Params} {b d : ℕ} → has_room d ≡ true → ParamsFit b (one_deeper d) xs → RoleFits (f.OfResults at xs) b d (LSig b d)
  receiver_role : {at : Place} → RoleFits (f.OfReceiver at) 0 0 (LDecl 0)

pub data KSig : SigFrame → Bound → Type 0 where
  sig_open : {c : Ctx} → KSig (f.SigOpen c) (LSig c.blocks c.depth)
  in_params : {x : ParamsPart} {w : Bound} → RoleFits x.role x.ctx.blocks x.ctx.depth w → has_room x.ctx.depth ≡ true → ParamsFit x.ctx.blocks (one_deeper x.ctx.depth) x.items → KSig (f.InParams x) w
  param_name : {x : ParamsPart} {y : Name} {w : Bound} → RoleFits x.role x.ctx.blocks x.ctx.depth w → has_room x.ctx.depth ≡ true → ParamsFit x.ctx.blocks (one_deeper x.ctx.depth) x.items → KSig (f.ParamName x y) w
  param : {x : ParamsPart} {at : Place} {y : Option Name} {variadic : Bool} {w : Bound} → RoleFits x.role x.ctx.blocks x.ctx.depth w → has_room x.ctx.depth ≡ true → ParamsFit x.ctx.blocks (one_deeper x.ctx.depth) x.items → KSig (f.Param x at y variadic) w
  after_params : {c : Ctx} {at : Place} {xs : Params} → has_room c.depth ≡ true → ParamsFit c.blocks (one_deeper c.depth) xs → KSig (f.AfterParams c at xs) (LSig c.blocks c.depth)
  result : {at : Place} {xs : Params} {b d : ℕ} → has_room d ≡ true → ParamsFit b (one_deeper d) xs → KSig (f.Result at xs) (LSig b d)

abbrev pub l_sig : SigFrame → Bound → Bound
l_sig (f.Param x at y variadic) w = LType false x.ctx.blocks (one_deeper x.ctx.depth)
l_sig (f.Result at xs) (LSig b d) = LType false b (one_deeper d)
l_sig _ w = LNone

-- where a simple statement stands
pub record SpotFits (x : Spot) (n : ℕ) : Type 0 where
  pub depth : x.ctx.depth ≡ 0
  pub count : n ≤ 500
  pub labels : (m : ℕ) → x.mode ≡ Listed m → m ≡ n

pub data KStmt : StmtFrame → Bound → Type 0 where
  in_block : {b : ℕ} {at : Place} {ss : List t.Stmt} → has_room b ≡ true → stmts_fit (b + 1) (stmts_of ss) ≡ true → KStmt (f.InBlock (b + 1) at ss) (LBlock b)
  in_other : {b n : ℕ} {at : Place} {ss : List t.Stmt} → has_room b ≡ true → stmts_fit (b + 1) (stmts_of ss) ≡ true → KStmt (f.InBlock (b + 1) at ss) (LElse b n)
  declared : {b n : ℕ} → n ≤ 500 → KStmt f.Declared (LStmt b n)
  inner : {b n : ℕ} → n ≤ 500 → KStmt f.Inner (LStmt b n)
  at_go : {at : Place} {b n : ℕ} → n ≤ 500 → KStmt (f.AtGo at) (LStmt b n)
  at_defer : {at : Place} {b n : ℕ} → n ≤ 500 → KStmt (f.AtDefer at) (LStmt b n)
  at_return : {at : Place} {b n : ℕ} → n ≤ 500 → KStmt (f.AtReturn b at) (LStmt b n)
  returned : {at : Place} {es : List t.Expr} {b n : ℕ} → n ≤ 500 → exprs_fit b 0 (exprs_of es) ≡ true → KStmt (f.Returned b at es) (LStmt b n)
  at_break : {at : Place} {is : Bool} {b n : ℕ} → n ≤ 500 → KStmt (f.AtBreak at is) (LStmt b n)
  after_label : {b n : ℕ} → n ≤ 500 → KStmt (f.AfterLabel b n) (LStmt b n)
  labeled : {y : Name} {b n : ℕ} → n < 500 → KStmt (f.Labeled y) (LStmt b n)
  simple : {x : Spot} {es : List t.Expr} {n : ℕ} → SpotFits x n → exprs_fit x.ctx.blocks 0 (exprs_of es) ≡ true → KStmt (f.Simple x es) (LStmt x.ctx.blocks n)
  right : {x : Spot} {es : List t.Expr} {fresh : Bool} {n : ℕ} → SpotFits x n → exprs_fit x.ctx.blocks 0 (exprs_of es) ≡ true → KStmt (f.Right x es fresh) (LStmt x.ctx.blocks n)
  assigned : {x : Spot} {es es' : List t.Expr} {op : Option Op} {n : ℕ} → SpotFits x n → exprs_fit x.ctx.blocks 0 (exprs_of es) ≡ true → exprs_fit x.ctx.blocks 0 (exprs_of es') ≡ true → KStmt (f.Assigned x es op es') (LStmt x.ctx.blocks n)
  defined : {x : Spot} {es es' : List t.Expr} {n : ℕ} → SpotFits x n → exprs_fit x.ctx.blocks 0 (exprs_of es) ≡ true → exprs_fit x.ctx.blocks 0 (exprs_of es') ≡ true → KStmt (f.Defined x es es') (LStmt x.ctx.blocks n)
  sent : {at : Place} {es : List t.Expr} {b n : ℕ} → n ≤ 500 → exprs_fit b 0 (exprs_of es) ≡ true → KStmt (f.Sent at es) (LStmt b n)

abbrev pub l_stmt : StmtFrame → Bound → Bound
l_stmt (f.InBlock b at ss) w = LStmt b 0
l_stmt f.Declared w = LDecl (blocks_of w)
l_stmt f.Inner w = LBlock (blocks_of w)
l_stmt (f.AtGo at) w = LExpr (blocks_of w) 0
l_stmt (f.AtDefer at) w = LExpr (blocks_of w) 0
l_stmt (f.Returned b at es) w = LExpr b 0
l_stmt (f.Labeled y) w = LStmt (blocks_of w) (stmt_labels w + 1)
l_stmt (f.Simple x es) w = LExpr x.ctx.blocks x.ctx.depth
l_stmt (f.Assigned x es op es') w = LExpr x.ctx.blocks x.ctx.depth
l_stmt (f.Defined x es es') w = LExpr x.ctx.blocks x.ctx.depth
l_stmt (f.Sent at es) w = LExpr (blocks_of w) 0
l_stmt _ w = LNone

-- the bounds of an `if` with so many `else` before it
pub data IfBound : IfPart → Bound → Type 0 where
  if_stmt : {x : IfPart} {n : ℕ} → x.elses ≡ 0 → n ≤ 500 → IfBound x (LStmt x.blocks n)
  if_other : {x : IfPart} → x.elses ≤ 500 → IfBound x (LElse x.blocks x.elses)

pub data KControl : ControlFrame → Bound → Type 0 where
  at_if : {x : IfPart} {w : Bound} → IfBound x w → x.init ≡ t.NoStmt → KControl (f.AtIf x) w
  condition : {x : IfPart} {w : Bound} → IfBound x w → maybe_stmt_fits x.blocks x.init ≡ true → KControl (f.Condition x) w
  then_ : {x : IfPart} {e : t.Expr} {w : Bound} → IfBound x w → maybe_stmt_fits x.blocks x.init ≡ true → expr_fits x.blocks 0 e ≡ true → KControl (f.Then x e) w
  at_else : {x : IfPart} {e : t.Expr} {b : t.Block} {w : Bound} → IfBound x w → maybe_stmt_fits x.blocks x.init ≡ true → expr_fits x.blocks 0 e ≡ true → block_fits x.blocks b ≡ true → x.elses < 500 → KControl (f.AtElse x e b) w
  other : {x : IfPart} {e : t.Expr} {b : t.Block} {w : Bound} → IfBound x w → maybe_stmt_fits x.blocks x.init ≡ true → expr_fits x.blocks 0 e ≡ true → block_fits x.blocks b ≡ true → x.elses < 500 → KControl (f.Other x e b) w
  at_for : {x : ForPart} {n : ℕ} → n ≤ 500 → KControl (f.AtFor x) (LStmt x.blocks n)
  for_condition : {x : ForPart} {init : t.MaybeStmt} {n : ℕ} → n ≤ 500 → maybe_stmt_fits x.blocks init ≡ true → KControl (f.ForCondition x init) (LStmt x.blocks n)
  post : {x : ForPart} {init : t.MaybeStmt} {e : t.MaybeExpr} {n : ℕ} → n ≤ 500 → maybe_stmt_fits x.blocks init ≡ true → maybe_fits x.blocks 0 e ≡ true → KControl (f.Post x init e) (LStmt x.blocks n)
  for_body : {x : ForPart} {init p : t.MaybeStmt} {e : t.MaybeExpr} {n : ℕ} → n ≤ 500 → maybe_stmt_fits x.blocks init ≡ true → maybe_fits x.blocks 0 e ≡ true → maybe_stmt_fits x.blocks p ≡ true → KControl (f.ForBody x init e p) (LStmt x.blocks n)
  at_range : {x : ForPart} {es : List t.Expr} {fresh : Bool} {n : ℕ} → n ≤ 500 → exprs_fit x.blocks 0 (exprs_of es) ≡ true → KControl (f.AtRange x es fresh) (LStmt x.blocks n)
  range_body : {x : ForPart} {es : List t.Expr} {fresh : Bool} {e : t.Expr} {n : ℕ} → n ≤ 500 → exprs_fit x.blocks 0 (exprs_of es) ≡ true → expr_fits x.blocks 0 e ≡ true → KControl (f.RangeBody x es fresh e) (LStmt x.blocks n)

abbrev pub l_control : ControlFrame → Bound
l_control (f.AtIf x) = LStmt x.blocks 0
l_control (f.Condition x) = LExpr x.blocks 0
l_control (f.Then x e) = LBlock x.blocks
l_control (f.Other x e b) = LElse x.blocks (one_longer x.elses)
l_control (f.AtFor x) = LStmt x.blocks 0
l_control (f.ForCondition x init) = LExpr x.blocks 0
l_control (f.Post x init e) = LStmt x.blocks 0
l_control (f.ForBody x init e p) = LBlock x.blocks
l_control (f.AtRange x es fresh) = LExpr x.blocks 0
l_control (f.RangeBody x es fresh e) = LBlock x.blocks
l_control _ = LNone

pub data SubjectFits : ℕ → Subject → Type 0 where
  on_tag : {b : ℕ} {e : t.MaybeExpr} → maybe_fits b 0 e ≡ true → SubjectFits b (f.OnTag e)
  on_guard : {b : ℕ} {y : Option Name} {e : t.Expr} → GuardFits b 0 0 e → SubjectFits b (f.OnGuard y e)

pub record ClausesFit (b : ℕ) (xs : List (t.Clauses → t.Clauses)) : Type 0 where
  pub fit : (r : t.Clauses) → clauses_fit b r ≡ true → clauses_fit b (joined xs r) ≡ true

pub record CommsFit (b : ℕ) (xs : List (t.Comms → t.Comms)) : Type 0 where
  pub fit : (r : t.Comms) → comms_fit b r ≡ true → comms_fit b (joined xs r) ≡ true

-- a switch, with the blocks round it
pub record SwitchFits (b : ℕ) (x : SwitchPart) : Type 0 where
  pub room : has_room b ≡ true
  pub blocks : x.blocks ≡ b + 1
  pub init : maybe_stmt_fits b x.init ≡ true
  pub subject : SubjectFits b x.subject
  pub clauses : ClausesFit x.blocks x.clauses

pub record SelectFits (b : ℕ) (x : SelectPart) : Type 0 where
  pub room : has_room b ≡ true
  pub blocks : x.blocks ≡ b + 1
  pub comms : CommsFit x.blocks x.comms

pub data KSwitch : SwitchFrame → Bound → Type 0 where
  switch_head : {b n : ℕ} {at : Place} → n ≤ 500 → KSwitch (f.SwitchHead b at) (LStmt b n)
  switch_tag : {b n : ℕ} {at : Place} {init : t.MaybeStmt} → n ≤ 500 → maybe_stmt_fits b init ≡ true → KSwitch (f.SwitchTag b at init) (LStmt b n)
  guard_end : {b n : ℕ} {at : Place} {init : t.MaybeStmt} {y : Option Name} {e : t.Expr} → n ≤ 500 → maybe_stmt_fits b init ≡ true → GuardFits b 0 0 e → KSwitch (f.GuardEnd b at init y e) (LStmt b n)
  in_switch : {b n : ℕ} {x : SwitchPart} → n ≤ 500 → SwitchFits b x → KSwitch (f.InSwitchBraces x) (LStmt b n)
  case_ : {b n : ℕ} {x : SwitchPart} {at : Place} {es : List t.Expr} → n ≤ 500 → SwitchFits b x → exprs_fit x.blocks 0 (exprs_of es) ≡ true → KSwitch (f.Case x at es) (LStmt b n)
  default_ : {b n : ℕ} {x : SwitchPart} {at : Place} → n ≤ 500 → SwitchFits b x → KSwitch (f.Default x at) (LStmt b n)
  clause_body : {b n : ℕ} {x : SwitchPart} {at : Place} {es : List t.Expr} {ss : List t.Stmt} → n ≤ 500 → SwitchFits b x → exprs_fit x.blocks 0 (exprs_of es) ≡ true → stmts_fit x.blocks (stmts_of ss) ≡ true → KSwitch (f.ClauseBody x at es ss) (LStmt b n)
  select_open : {b n : ℕ} {at : Place} → n ≤ 500 → KSwitch (f.SelectOpen b at) (LStmt b n)
  in_select : {b n : ℕ} {x : SelectPart} → n ≤ 500 → SelectFits b x → KSwitch (f.InSelect x) (LStmt b n)
  comm_case : {b n : ℕ} {x : SelectPart} {at : Place} → n ≤ 500 → SelectFits b x → KSwitch (f.CommCase x at) (LStmt b n)
  comm_default : {b n : ℕ} {x : SelectPart} {at : Place} → n ≤ 500 → SelectFits b x → KSwitch (f.CommDefault x at) (LStmt b n)
  comm_body : {b n : ℕ} {x : SelectPart} {at : Place} {y : t.MaybeStmt} {ss : List t.Stmt} → n ≤ 500 → SelectFits b x → maybe_stmt_fits x.blocks y ≡ true → stmts_fit x.blocks (stmts_of ss) ≡ true → KSwitch (f.CommBody x at y ss) (LStmt b n)

abbrev pub l_switch : SwitchFrame → Bound
l_switch (f.SwitchHead b at) = LStmt b 0
l_switch (f.SwitchTag b at init) = LStmt b 0
l_switch (f.Case x at es) = LExpr x.blocks 0
l_switch (f.ClauseBody x at es ss) = LStmt x.blocks 0
l_switch (f.CommCase x at) = LStmt x.blocks 0
l_switch (f.CommBody x at y ss) = LStmt x.blocks 0
l_switch _ = LNone

pub record ValuesFit (b : ℕ) (xs : List (t.ValueSpecs → t.ValueSpecs)) : Type 0 where
  pub fit : (r : t.ValueSpecs) → values_fit b 0 r ≡ true → values_fit b 0 (joined xs r) ≡ true

pub record TypesFit (b : ℕ) (xs : List (t.TypeSpecs → t.TypeSpecs)) : Type 0 where
  pub fit : (r : t.TypeSpecs) → types_fit b 0 r ≡ true → types_fit b 0 (joined xs r) ≡ true

pub data KDecl : DeclFrame → Bound → Type 0 where
  at_values : {x : ValuesPart} → ValuesFit x.blocks x.specs → KDecl (f.AtValues x) (LDecl x.blocks)
  value_group : {x : ValuesPart} → ValuesFit x.blocks x.specs → KDecl (f.ValueGroup x) (LDecl x.blocks)
  next_value : {x : ValuesPart} {ys : List Name} → ValuesFit x.blocks x.specs → KDecl (f.NextValue x ys) (LDecl x.blocks)
  value_names : {x : ValuesPart} {ys : List Name} → ValuesFit x.blocks x.specs → KDecl (f.ValueNames x ys) (LDecl x.blocks)
  value_type : {x : ValuesPart} {ys : List Name} → ValuesFit x.blocks x.specs → KDecl (f.ValueType x ys) (LDecl x.blocks)
  value_exprs : {x : ValuesPart} {ys : List Name} {ty : t.MaybeExpr} {es : List t.Expr} → ValuesFit x.blocks x.specs → maybe_fits x.blocks 0 ty ≡ true → exprs_fit x.blocks 0 (exprs_of es) ≡ true → KDecl (f.ValueExprs x ys ty es) (LDecl x.blocks)
  at_types : {x : TypesPart} → TypesFit x.blocks x.specs → KDecl (f.AtTypes x) (LDecl x.blocks)
  type_group : {x : TypesPart} → TypesFit x.blocks x.specs → KDecl (f.TypeGroup x) (LDecl x.blocks)
  declared_name : {x : TypesPart} {y : Name} → TypesFit x.blocks x.specs → KDecl (f.DeclaredName x y) (LDecl x.blocks)
  declared_type : {x : TypesPart} {y : Name} {alias : Bool} → TypesFit x.blocks x.specs → KDecl (f.DeclaredType x y alias) (LDecl x.blocks)

abbrev pub l_decl : DeclFrame → Bound
l_decl (f.ValueType x ys) = LType false x.blocks 0
l_decl (f.ValueExprs x ys ty es) = LExpr x.blocks 0
l_decl (f.DeclaredType x y alias) = LType false x.blocks 0
l_decl _ = LNone

-- the receiver of a function
pub data ReceiverFits : Option (Place × Params) → Type 0 where
  no_receiver : ReceiverFits None
  receiver : {at : Place} {xs : Params} → ParamsFit 0 1 xs → ReceiverFits (Some (at, xs))

pub data KFile : FileFrame → Bound → Type 0 where
  start : KFile f.Start LFile
  at_package : KFile f.AtPackage LFile
  package_end : {y : Name} → KFile (f.PackageEnd y) LFile
  top : {x : FilePart} → list_all (decl_fits 0) x.decls ≡ true → KFile (f.Top x) LFile
  at_import : {x : FilePart} → list_all (decl_fits 0) x.decls ≡ true → KFile (f.AtImport x) LFile
  import_group : {x : FilePart} → list_all (decl_fits 0) x.decls ≡ true → KFile (f.ImportGroup x) LFile
  import_name : {x : FilePart} {grouped : Bool} {y : Name} → list_all (decl_fits 0) x.decls ≡ true → KFile (f.ImportName x grouped y) LFile
  import_end : {x : FilePart} {grouped : Bool} → list_all (decl_fits 0) x.decls ≡ true → KFile (f.ImportEnd x grouped) LFile
  top_func : {at : Place} → KFile (f.TopFunc at) (LDecl 0)
  func_name : {at at' : Place} {xs : Params} → ParamsFit 0 1 xs → KFile (f.FuncName at at' xs) (LDecl 0)
  func_sig : {at : Place} {x : Option (Place × Params)} {y : Name} → ReceiverFits x → KFile (f.FuncSig at x y) (LDecl 0)
  top_body : {at : Place} {x : Option (Place × Params)} {y : Name} {sig : t.Sig} → ReceiverFits x → sig_fits 0 0 sig ≡ true → KFile (f.TopBody at x y sig) (LDecl 0)
  whole : {x : t.File} → list_all (decl_fits 0) x.decls ≡ true → KFile (f.Whole x) LFile

abbrev pub l_file : FileFrame → Bound
l_file (f.Top x) = LDecl 0
l_file (f.FuncSig at x y) = LSig 0 0
l_file (f.TopBody at x y sig) = LBlock 0
l_file _ = LNone
