-- What frames of statements, declarations and files do at a token.
use Rattle.std.specs.Prelude.{◌+◌, ◌&&◌, ◌||◌, not, ℕ, Bool, true, false, List, [], ◌∷◌, Option, Some, None, if◌then◌else◌, is_some}
use Rattle.gj_base.specs.declared.place.Place.{Place}
use Rattle.gj_base.specs.declared.kind.Op.{Op}
use Rattle.go_syntax.specs.Tree as t
use Rattle.go_syntax.specs.Token.{Token}
use Rattle.go_syntax.specs.View.{joined, exprs_of, stmts_of}
use Rattle.go_syntax.specs.declared.kind.TokenKind.{TokenKind}
use Rattle.go_syntax.specs.declared.kind.TokenKind.TheVariants as kind
use Rattle.go_syntax.specs.declared.keyword.Keyword.{Keyword}
use Rattle.go_syntax.specs.declared.keyword.Keyword.TheVariants as word
use Rattle.go_syntax.specs.declared.operator.Operator.TheVariants as o
use Rattle.go_syntax.specs.declared.tree.Name.{Name}
use Rattle.go_grammar.specs.Classes.{name_of, assign_op, begins_type}
use Rattle.go_grammar.specs.Context.{is_name}
use Rattle.go_grammar.specs.Limits.{has_room, one_longer}
use Rattle.go_grammar.specs.Frames.{Ctx, new_ctx, header_ctx, Mode, Listed, Headed, InFor, InSwitch, InTag, Spot, AGuard, ARanging, ABlock, AStmt, ADecl, OfSig, OfStmt, OfControl, OfSwitch, OfDecl, OfFile, Done, Stack, Flow, Goes, Over, Stuck, Deep, Params, SigOpen, OfReceiver}
use Rattle.go_grammar.specs.Frames.{StmtFrame, InBlock, Declared, Inner, AtGo, AtDefer, AtReturn, Returned, AtBreak, AfterLabel, Labeled, Simple, Right, Assigned, Defined, Sent}
use Rattle.go_grammar.specs.Frames.{IfPart, ForPart, ControlFrame, AtIf, Condition, Then, AtElse, Other, AtFor, ForCondition, Post, ForBody, AtRange, RangeBody}
use Rattle.go_grammar.specs.Frames.{Subject, OnTag, OnGuard, SwitchPart, SelectPart, SwitchFrame, SwitchHead, SwitchTag, GuardEnd, InSwitchBraces, Case, Default, ClauseBody, SelectOpen, InSelect, CommCase, CommDefault, CommBody}
use Rattle.go_grammar.specs.Frames.{ValuesPart, TypesPart, DeclFrame, AtValues, ValueGroup, NextValue, ValueNames, ValueType, ValueExprs, AtTypes, TypeGroup, DeclaredName, DeclaredType}
use Rattle.go_grammar.specs.Frames.{FilePart, FileFrame, Start, AtPackage, PackageEnd, Top, AtImport, ImportGroup, ImportName, ImportEnd, TopFunc, FuncName, FuncSig, TopBody, Whole}
use Rattle.go_grammar.specs.Nodes.{is_op, is_word, is_name_token, is_string, is_semicolon, begins_expr, begins_stmt, place_of_decl, block_stmt, name_in, expr_in, and}
use Rattle.go_grammar.specs.ExprSteps.{if_short, if_op, then_expr, then_type, open_params, open_block, begin_type, begin_expr}

abbrev pub if_word : Keyword → Token → Flow → Flow → Flow
if_word x u go other = if is_word x u then go else other

abbrev pub if_semicolon : Token → Flow → Flow → Flow
if_semicolon u go other = if is_semicolon u.kind then go else other

abbrev pub if_name : Token → Flow → Flow → Flow
if_name u go other = if is_name_token u.kind then go else other

-- a guard of a type switch may stand there
abbrev pub takes_guard : Mode → Bool
takes_guard InSwitch = true
takes_guard InTag = true
takes_guard _ = false

abbrev pub is_tag : Mode → Bool
is_tag InTag = true
is_tag _ = false

abbrev pub is_for : Mode → Bool
is_for InFor = true
is_for _ = false

-- a simple statement that begins with the token
abbrev pub begin_simple : Token → Ctx → Mode → Stack → Flow
begin_simple u c m s = begin_expr u (record c { guard = takes_guard m }) (OfStmt (Simple (record { ctx = c; mode = m; place = u.place }) []) ∷ s)

-- `const`, `type` or `var`
abbrev pub begin_decl : Token → ℕ → Stack → Flow
begin_decl u b s =
    if_word word.Type u (Goes (OfDecl (AtTypes (record { blocks = b; place = u.place; group = false; specs = [] })) ∷ s))
    (Goes (OfDecl (AtValues (record { blocks = b; place = u.place; constant = is_word word.Const u; group = false; specs = [] })) ∷ s))

abbrev pub new_if : ℕ → Place → ℕ → IfPart
new_if b at n = record { blocks = b; place = at; elses = n; init = t.NoStmt }

abbrev pub begin_word_stmt : Token → Keyword → ℕ → Stack → Flow
begin_word_stmt u word.Const b s = begin_decl u b (OfStmt Declared ∷ s)
begin_word_stmt u word.Type b s = begin_decl u b (OfStmt Declared ∷ s)
begin_word_stmt u word.Var b s = begin_decl u b (OfStmt Declared ∷ s)
begin_word_stmt u word.Go b s = then_expr (new_ctx b) (OfStmt (AtGo u.place) ∷ s)
begin_word_stmt u word.Defer b s = then_expr (new_ctx b) (OfStmt (AtDefer u.place) ∷ s)
begin_word_stmt u word.Return b s = Goes (OfStmt (AtReturn b u.place) ∷ s)
begin_word_stmt u word.Break b s = Goes (OfStmt (AtBreak u.place true) ∷ s)
begin_word_stmt u word.Continue b s = Goes (OfStmt (AtBreak u.place false) ∷ s)
begin_word_stmt u word.Fallthrough b s = Goes (Done (AStmt (t.FallthroughStmt u.place)) ∷ s)
begin_word_stmt u word.If b s = Goes (OfControl (AtIf (new_if b u.place 0)) ∷ s)
begin_word_stmt u word.For b s = Goes (OfControl (AtFor (record { blocks = b; place = u.place })) ∷ s)
begin_word_stmt u word.Switch b s = Goes (OfSwitch (SwitchHead b u.place) ∷ s)
begin_word_stmt u word.Select b s = Goes (OfSwitch (SelectOpen b u.place) ∷ s)
begin_word_stmt u x b s = begin_simple u (new_ctx b) Headed s

-- a statement that begins with the token, after so many labels
abbrev pub begin_stmt : Token → ℕ → ℕ → Stack → Flow
begin_stmt u b n s = if_op o.LeftBrace u (open_block u b (OfStmt Inner ∷ s)) (by_kind u.kind u b n s) where
  by_kind : TokenKind → Token → ℕ → ℕ → Stack → Flow
  by_kind (kind.Word x) u b n s = begin_word_stmt u x b s
  by_kind _ u b n s = begin_simple u (new_ctx b) (Listed n) s

-- after a statement of a block, or in place of one
abbrev pub after_stmt : Token → ℕ → Place → List t.Stmt → Stack → Flow
after_stmt u b at ss s =
    if_semicolon u (Goes (OfStmt (InBlock b at ss) ∷ s))
    (if_op o.RightBrace u (Goes (Done (ABlock (t.BlockOf at (stmts_of ss) u.place)) ∷ s)) Stuck)

abbrev pub break_to : Place → Bool → Option Name → t.Stmt
break_to at true x = t.BreakStmt at x
break_to at false x = t.ContinueStmt at x

-- the expressions are one name
abbrev pub is_one_name : List t.Expr → Bool
is_one_name (e ∷ []) = is_name e
is_one_name _ = false

-- after `=` or `:=`
abbrev pub right_side : Token → Spot → List t.Expr → Bool → Stack → Flow
right_side u x es true s = begin_expr u (record x.ctx { guard = takes_guard x.mode && is_one_name es }) (OfStmt (Defined x es []) ∷ s)
right_side u x es false s = begin_expr u x.ctx (OfStmt (Assigned x es None []) ∷ s)

abbrev pub stmt_row : Token → StmtFrame → Stack → Flow
stmt_row u (InBlock b at ss) s =
    if is_semicolon u.kind || is_op o.RightBrace u then after_stmt u b at ss s
    else begin_stmt u b 0 (OfStmt (InBlock b at ss) ∷ s)
stmt_row u (AtReturn b at) s =
    if begins_expr u.kind then begin_expr u (new_ctx b) (OfStmt (Returned b at []) ∷ s)
    else Over (AStmt (t.ReturnStmt at t.NoExprs)) s
stmt_row u (AtBreak at is_break) s =
    if_name u (Goes (Done (AStmt (break_to at is_break (Some (name_of u)))) ∷ s)) (Over (AStmt (break_to at is_break None)) s)
stmt_row u (AfterLabel b n) s = if begins_stmt u then begin_stmt u b n s else Over (AStmt (t.EmptyStmt u.place)) s
stmt_row u (Right x es fresh) s =
    if is_for x.mode && is_word word.Range u then Goes (Done (ARanging es fresh) ∷ s)
    else right_side u x es fresh s
stmt_row u _ s = Stuck

-- a label's `:`
abbrev pub after_label_name : Spot → Mode → Option Name → Stack → Flow
after_label_name x (Listed n) (Some y) s = if_short n y.place (Goes (OfStmt (AfterLabel x.ctx.blocks (one_longer n)) ∷ OfStmt (Labeled y) ∷ s))
after_label_name x _ _ s = Stuck

abbrev pub is_listed : Mode → Bool
is_listed (Listed n) = true
is_listed _ = false

-- the label that the expressions are
abbrev pub label_in : List t.Expr → Option Name
label_in (e ∷ []) = name_in e
label_in _ = None

-- after the last expression on the left, or of several
abbrev pub after_all : Token → Spot → List t.Expr → Stack → Flow
after_all u x es s =
    if_op o.Arrow u (then_expr x.ctx (OfStmt (Sent x.place es) ∷ s))
    (if is_op o.Increment u || is_op o.Decrement u then Goes (Done (AStmt (t.IncDecStmt x.place (exprs_of es) (is_op o.Increment u))) ∷ s)
    else (if is_op o.Colon u && is_listed x.mode && is_some (label_in es) then after_label_name x x.mode (label_in es) s
    else Over (AStmt (t.ExprStmt x.place (exprs_of es))) s))

abbrev pub after_assign_op : Token → Spot → List t.Expr → Option Op → Stack → Flow
after_assign_op u x es (Some op) s = then_expr x.ctx (OfStmt (Assigned x es (Some op) []) ∷ s)
after_assign_op u x es None s = after_all u x es s

-- after an expression on the left, or alone
abbrev pub after_left : Token → Spot → List t.Expr → t.Expr → Stack → Flow
after_left u x es e s =
    if is_tag x.mode then
    (if is_op o.Define u && is_name e then Goes (OfStmt (Right x (and es e) true) ∷ s)
    else Over (AStmt (t.ExprStmt x.place (exprs_of (and es e)))) s)
    else (if_op o.Comma u (then_expr x.ctx (OfStmt (Simple x (and es e)) ∷ s))
    (if is_op o.Assign u || is_op o.Define u then Goes (OfStmt (Right x (and es e) (is_op o.Define u)) ∷ s)
    else after_assign_op u x (and es e) (assign_op u.kind) s))

abbrev pub stmt_meets_expr : Token → StmtFrame → t.Expr → Stack → Flow
stmt_meets_expr u (AtGo at) e s = Over (AStmt (t.GoStmt at e)) s
stmt_meets_expr u (AtDefer at) e s = Over (AStmt (t.DeferStmt at e)) s
stmt_meets_expr u (Returned b at es) e s =
    if_op o.Comma u (then_expr (new_ctx b) (OfStmt (Returned b at (and es e)) ∷ s))
    (Over (AStmt (t.ReturnStmt at (exprs_of (and es e)))) s)
stmt_meets_expr u (Simple x es) e s = after_left u x es e s
stmt_meets_expr u (Assigned x es op fs) e s =
    if_op o.Comma u (then_expr x.ctx (OfStmt (Assigned x es op (and fs e)) ∷ s))
    (Over (AStmt (t.AssignStmt x.place (exprs_of es) op (exprs_of (and fs e)))) s)
stmt_meets_expr u (Defined x es fs) e s =
    if is_tag x.mode then Stuck
    else (if_op o.Comma u (then_expr x.ctx (OfStmt (Defined x es (and fs e)) ∷ s))
    (Over (AStmt (t.DefineStmt x.place (exprs_of es) (exprs_of (and fs e)))) s))
stmt_meets_expr u (Sent at cs) e s = Over (AStmt (t.SendStmt at (exprs_of cs) e)) s
stmt_meets_expr u _ e s = Stuck

abbrev pub last_name : List t.Expr → Option Name
last_name [] = None
last_name (e ∷ []) = name_in e
last_name (e ∷ f ∷ es) = last_name (f ∷ es)

-- a guard goes through the frame, which may give it its name
abbrev pub guard_meets_simple : StmtFrame → t.Expr → Stack → Flow
guard_meets_simple (Simple x es) e s = Over (AGuard None e) s
guard_meets_simple (Defined x es fs) e s = Over (AGuard (last_name es) e) s
guard_meets_simple _ e s = Stuck

abbrev pub stmt_meets_stmt : Token → StmtFrame → t.Stmt → Stack → Flow
stmt_meets_stmt u (InBlock b at ss) x s = after_stmt u b at (and ss x) s
stmt_meets_stmt u (Labeled y) x s = Over (AStmt (t.LabeledStmt y.place y x)) s
stmt_meets_stmt u _ x s = Stuck

abbrev pub stmt_meets_block : StmtFrame → t.Block → Stack → Flow
stmt_meets_block Inner b s = Over (AStmt (block_stmt b)) s
stmt_meets_block _ b s = Stuck

abbrev pub stmt_meets_decl : StmtFrame → t.Decl → Stack → Flow
stmt_meets_decl Declared d s = Over (AStmt (t.DeclStmt (place_of_decl d) d)) s
stmt_meets_decl _ d s = Stuck

abbrev pub for_block : Token → ForPart → t.MaybeStmt → t.MaybeExpr → t.MaybeStmt → Stack → Flow
for_block u x init e post s = open_block u x.blocks (OfControl (ForBody x init e post) ∷ s)

abbrev pub then_block : Token → IfPart → t.Expr → Stack → Flow
then_block u x e s = open_block u x.blocks (OfControl (Then x e) ∷ s)

abbrev pub control_row : Token → ControlFrame → Stack → Flow
control_row u (AtIf x) s = if_semicolon u (Goes (OfControl (Condition x) ∷ s)) (begin_simple u (header_ctx x.blocks) Headed (OfControl (AtIf x) ∷ s))
control_row u (Condition x) s = begin_expr u (header_ctx x.blocks) (OfControl (Condition x) ∷ s)
control_row u (AtElse x e b) s =
    if_word word.If u (Goes (OfControl (AtIf (new_if x.blocks u.place (one_longer x.elses))) ∷ OfControl (Other x e b) ∷ s))
    (open_block u x.blocks (OfControl (Other x e b) ∷ s))
control_row u (AtFor x) s =
    if_op o.LeftBrace u (for_block u x t.NoStmt t.NoExpr t.NoStmt s)
    (if_semicolon u (Goes (OfControl (ForCondition x t.NoStmt) ∷ s))
    (if_word word.Range u (then_expr (header_ctx x.blocks) (OfControl (AtRange x [] false) ∷ s))
    (begin_simple u (header_ctx x.blocks) InFor (OfControl (AtFor x) ∷ s))))
control_row u (ForCondition x init) s =
    if_semicolon u (Goes (OfControl (Post x init t.NoExpr) ∷ s)) (begin_expr u (header_ctx x.blocks) (OfControl (ForCondition x init) ∷ s))
control_row u (Post x init e) s =
    if_op o.LeftBrace u (for_block u x init e t.NoStmt s) (begin_simple u (header_ctx x.blocks) Headed (OfControl (Post x init e) ∷ s))
control_row u _ s = Stuck

abbrev pub control_meets_expr : Token → ControlFrame → t.Expr → Stack → Flow
control_meets_expr u (Condition x) e s = then_block u x e s
control_meets_expr u (ForCondition x init) e s = if_semicolon u (Goes (OfControl (Post x init (t.AnExpr e)) ∷ s)) Stuck
control_meets_expr u (AtRange x es fresh) e s = open_block u x.blocks (OfControl (RangeBody x es fresh e) ∷ s)
control_meets_expr u _ e s = Stuck

abbrev pub if_of : IfPart → t.Expr → t.Block → t.MaybeStmt → t.Stmt
if_of x e b other = t.IfStmt x.place x.init e b other

abbrev pub if_with : Token → IfPart → Option t.Expr → Stack → Flow
if_with u x None s = Stuck
if_with u x (Some e) s = then_block u x e s

abbrev pub for_with : Token → ForPart → Option t.Expr → Stack → Flow
for_with u x None s = Stuck
for_with u x (Some e) s = for_block u x t.NoStmt (t.AnExpr e) t.NoStmt s

abbrev pub control_meets_stmt : Token → ControlFrame → t.Stmt → Stack → Flow
control_meets_stmt u (AtIf x) y s = if_semicolon u (Goes (OfControl (Condition (record x { init = t.AStmt y })) ∷ s)) (if_with u x (expr_in y) s)
control_meets_stmt u (Other x e b) y s = Over (AStmt (if_of x e b (t.AStmt y))) s
control_meets_stmt u (AtFor x) y s = if_semicolon u (Goes (OfControl (ForCondition x (t.AStmt y)) ∷ s)) (for_with u x (expr_in y) s)
control_meets_stmt u (Post x init e) y s = for_block u x init e (t.AStmt y) s
control_meets_stmt u _ y s = Stuck

abbrev pub control_meets_ranging : Token → ControlFrame → List t.Expr → Bool → Stack → Flow
control_meets_ranging u (AtFor x) es fresh s = begin_expr u (header_ctx x.blocks) (OfControl (AtRange x es fresh) ∷ s)
control_meets_ranging u _ es fresh s = Stuck

abbrev pub control_meets_block : Token → ControlFrame → t.Block → Stack → Flow
control_meets_block u (Then x e) b s = if_word word.Else u (if_short x.elses u.place (Goes (OfControl (AtElse x e b) ∷ s))) (Over (AStmt (if_of x e b t.NoStmt)) s)
control_meets_block u (Other x e b) c s = Over (AStmt (if_of x e b (t.AStmt (block_stmt c)))) s
control_meets_block u (ForBody x init e post) b s = Over (AStmt (t.ForStmt x.place init e post b)) s
control_meets_block u (RangeBody x es fresh e) b s = Over (AStmt (t.RangeStmt x.place (exprs_of es) fresh e b)) s
control_meets_block u _ b s = Stuck

-- the `{` of a switch
abbrev pub open_switch : Token → ℕ → Place → t.MaybeStmt → Subject → Stack → Flow
open_switch u b at init x s =
    if_op o.LeftBrace u (if has_room b then Goes (OfSwitch (InSwitchBraces (record { blocks = b + 1; place = at; init = init; subject = x; clauses = [] })) ∷ s) else Deep) Stuck

abbrev pub switch_of : SwitchPart → Subject → t.Stmt
switch_of x (OnTag e) = t.SwitchStmt x.place x.init e (joined x.clauses t.NoClauses)
switch_of x (OnGuard y e) = t.TypeSwitchStmt x.place x.init y e (joined x.clauses t.NoClauses)

abbrev pub clauses : Token → SwitchPart → Stack → Flow
clauses u x s =
    if_word word.Case u (then_expr (new_ctx x.blocks) (OfSwitch (Case x u.place []) ∷ s))
    (if_word word.Default u (Goes (OfSwitch (Default x u.place) ∷ s))
    (if_op o.RightBrace u (Goes (Done (AStmt (switch_of x x.subject)) ∷ s)) Stuck))

abbrev pub comms : Token → SelectPart → Stack → Flow
comms u x s =
    if_word word.Case u (Goes (OfSwitch (CommCase x u.place) ∷ s))
    (if_word word.Default u (Goes (OfSwitch (CommDefault x u.place) ∷ s))
    (if_op o.RightBrace u (Goes (Done (AStmt (t.SelectStmt x.place (joined x.comms t.NoComms))) ∷ s)) Stuck))

-- after a statement of a clause, or in place of one
abbrev pub after_clause_stmt : Token → SwitchPart → Place → List t.Expr → List t.Stmt → Stack → Flow
after_clause_stmt u x at es ss s =
    if_semicolon u (Goes (OfSwitch (ClauseBody x at es ss) ∷ s))
    (clauses u (record x { clauses = and x.clauses (λ rest. t.MoreClauses at (exprs_of es) (stmts_of ss) rest) }) s)

abbrev pub after_comm_stmt : Token → SelectPart → Place → t.MaybeStmt → List t.Stmt → Stack → Flow
after_comm_stmt u x at y ss s =
    if_semicolon u (Goes (OfSwitch (CommBody x at y ss) ∷ s))
    (comms u (record x { comms = and x.comms (λ rest. t.MoreComms at y (stmts_of ss) rest) }) s)

-- the token can end a clause
abbrev pub ends_clause : Token → Bool
ends_clause u = is_word word.Case u || is_word word.Default u || is_op o.RightBrace u

abbrev pub switch_row : Token → SwitchFrame → Stack → Flow
switch_row u (SwitchHead b at) s =
    if_semicolon u (Goes (OfSwitch (SwitchTag b at t.NoStmt) ∷ s))
    (if_op o.LeftBrace u (open_switch u b at t.NoStmt (OnTag t.NoExpr) s)
    (begin_simple u (header_ctx b) InSwitch (OfSwitch (SwitchHead b at) ∷ s)))
switch_row u (SwitchTag b at init) s =
    if_op o.LeftBrace u (open_switch u b at init (OnTag t.NoExpr) s) (begin_simple u (header_ctx b) InTag (OfSwitch (SwitchTag b at init) ∷ s))
switch_row u (GuardEnd b at init y e) s = open_switch u b at init (OnGuard y e) s
switch_row u (InSwitchBraces x) s = clauses u x s
switch_row u (Default x at) s = if_op o.Colon u (Goes (OfSwitch (ClauseBody x at [] []) ∷ s)) Stuck
switch_row u (ClauseBody x at es ss) s =
    if ends_clause u || is_semicolon u.kind then after_clause_stmt u x at es ss s
    else begin_stmt u x.blocks 0 (OfSwitch (ClauseBody x at es ss) ∷ s)
switch_row u (SelectOpen b at) s =
    if_op o.LeftBrace u (if has_room b then Goes (OfSwitch (InSelect (record { blocks = b + 1; place = at; comms = [] })) ∷ s) else Deep) Stuck
switch_row u (InSelect x) s = comms u x s
switch_row u (CommCase x at) s = begin_simple u (new_ctx x.blocks) Headed (OfSwitch (CommCase x at) ∷ s)
switch_row u (CommDefault x at) s = if_op o.Colon u (Goes (OfSwitch (CommBody x at t.NoStmt []) ∷ s)) Stuck
switch_row u (CommBody x at y ss) s =
    if ends_clause u || is_semicolon u.kind then after_comm_stmt u x at y ss s
    else begin_stmt u x.blocks 0 (OfSwitch (CommBody x at y ss) ∷ s)
switch_row u _ s = Stuck

abbrev pub switch_meets_expr : Token → SwitchFrame → t.Expr → Stack → Flow
switch_meets_expr u (Case x at es) e s =
    if_op o.Comma u (then_expr (new_ctx x.blocks) (OfSwitch (Case x at (and es e)) ∷ s))
    (if_op o.Colon u (Goes (OfSwitch (ClauseBody x at (and es e) []) ∷ s)) Stuck)
switch_meets_expr u _ e s = Stuck

abbrev pub switch_with : Token → ℕ → Place → t.MaybeStmt → Option t.Expr → Stack → Flow
switch_with u b at init None s = Stuck
switch_with u b at init (Some e) s = open_switch u b at init (OnTag (t.AnExpr e)) s

abbrev pub switch_meets_stmt : Token → SwitchFrame → t.Stmt → Stack → Flow
switch_meets_stmt u (SwitchHead b at) y s = if_semicolon u (Goes (OfSwitch (SwitchTag b at (t.AStmt y)) ∷ s)) (switch_with u b at t.NoStmt (expr_in y) s)
switch_meets_stmt u (SwitchTag b at init) y s = switch_with u b at init (expr_in y) s
switch_meets_stmt u (ClauseBody x at es ss) y s = after_clause_stmt u x at es (and ss y) s
switch_meets_stmt u (CommCase x at) y s = if_op o.Colon u (Goes (OfSwitch (CommBody x at (t.AStmt y) []) ∷ s)) Stuck
switch_meets_stmt u (CommBody x at z ss) y s = after_comm_stmt u x at z (and ss y) s
switch_meets_stmt u _ y s = Stuck

abbrev pub guard_meets_switch : Token → SwitchFrame → Option Name → t.Expr → Stack → Flow
guard_meets_switch u (SwitchHead b at) y e s = if_op o.RightParen u (Goes (OfSwitch (GuardEnd b at t.NoStmt y e) ∷ s)) Stuck
guard_meets_switch u (SwitchTag b at init) y e s = if_op o.RightParen u (Goes (OfSwitch (GuardEnd b at init y e) ∷ s)) Stuck
guard_meets_switch u _ y e s = Stuck

abbrev pub value_decl : ValuesPart → t.Decl
value_decl x = if x.constant then t.ConstDecl x.place (joined x.specs t.NoValues) else t.VarDecl x.place (joined x.specs t.NoValues)

-- the end of a Spec: of the declaration too, or `;` or `)` of a group
abbrev pub end_value : Token → ValuesPart → List Name → t.MaybeExpr → List t.Expr → Stack → Flow
end_value u x ys ty es s =
    let all = record x { specs = and x.specs (λ rest. t.MoreValues ys ty (exprs_of es) rest) } in
    if not x.group then Over (ADecl (value_decl all)) s
    else (if_semicolon u (Goes (OfDecl (ValueGroup all) ∷ s)) (if_op o.RightParen u (Goes (Done (ADecl (value_decl all)) ∷ s)) Stuck))

abbrev pub type_decl : TypesPart → t.Decl
type_decl x = t.TypeDecl x.place (joined x.specs t.NoTypes)

abbrev pub end_type : Token → TypesPart → Name → Bool → t.Expr → Stack → Flow
end_type u x y alias e s =
    let all = record x { specs = and x.specs (λ rest. t.MoreTypes y alias e rest) } in
    if not x.group then Over (ADecl (type_decl all)) s
    else (if_semicolon u (Goes (OfDecl (TypeGroup all) ∷ s)) (if_op o.RightParen u (Goes (Done (ADecl (type_decl all)) ∷ s)) Stuck))

abbrev pub first_value : Token → ValuesPart → Stack → Flow
first_value u x s = if_name u (Goes (OfDecl (ValueNames x (name_of u ∷ [])) ∷ s)) Stuck

abbrev pub first_type : Token → TypesPart → Stack → Flow
first_type u x s = if_name u (Goes (OfDecl (DeclaredName x (name_of u)) ∷ s)) Stuck

abbrev pub decl_row : Token → DeclFrame → Stack → Flow
decl_row u (AtValues x) s = if_op o.LeftParen u (Goes (OfDecl (ValueGroup (record x { group = true })) ∷ s)) (first_value u x s)
decl_row u (ValueGroup x) s = if_op o.RightParen u (Goes (Done (ADecl (value_decl x)) ∷ s)) (first_value u x s)
decl_row u (NextValue x ys) s = if_name u (Goes (OfDecl (ValueNames x (and ys (name_of u))) ∷ s)) Stuck
decl_row u (ValueNames x ys) s =
    if_op o.Comma u (Goes (OfDecl (NextValue x ys) ∷ s))
    (if_op o.Assign u (then_expr (new_ctx x.blocks) (OfDecl (ValueExprs x ys t.NoExpr []) ∷ s))
    (if begins_type u.kind then begin_type u (new_ctx x.blocks) (OfDecl (ValueType x ys) ∷ s)
    else (if x.constant then end_value u x ys t.NoExpr [] s else Stuck)))
decl_row u (AtTypes x) s = if_op o.LeftParen u (Goes (OfDecl (TypeGroup (record x { group = true })) ∷ s)) (first_type u x s)
decl_row u (TypeGroup x) s = if_op o.RightParen u (Goes (Done (ADecl (type_decl x)) ∷ s)) (first_type u x s)
decl_row u (DeclaredName x y) s =
    if_op o.Assign u (then_type (new_ctx x.blocks) (OfDecl (DeclaredType x y true) ∷ s))
    (begin_type u (new_ctx x.blocks) (OfDecl (DeclaredType x y false) ∷ s))
decl_row u _ s = Stuck

abbrev pub decl_meets_expr : Token → DeclFrame → t.Expr → Stack → Flow
decl_meets_expr u (ValueType x ys) e s =
    if_op o.Assign u (then_expr (new_ctx x.blocks) (OfDecl (ValueExprs x ys (t.AnExpr e) []) ∷ s))
    (if x.constant then Stuck else end_value u x ys (t.AnExpr e) [] s)
decl_meets_expr u (ValueExprs x ys ty es) e s =
    if_op o.Comma u (then_expr (new_ctx x.blocks) (OfDecl (ValueExprs x ys ty (and es e)) ∷ s)) (end_value u x ys ty (and es e) s)
decl_meets_expr u (DeclaredType x y alias) e s = end_type u x y alias e s
decl_meets_expr u _ e s = Stuck

abbrev pub with_import : FilePart → t.Import → FilePart
with_import x i = record x { imports = and x.imports i }

-- Spec = [name | "."] string
abbrev pub import_spec : Token → FilePart → Bool → Stack → Flow
import_spec u x group s =
    if is_string u.kind then Goes (OfFile (ImportEnd (with_import x (record { place = u.place; name = None; path = u.text; path_place = u.place })) group) ∷ s)
    else (if is_name_token u.kind || is_op o.Dot u then Goes (OfFile (ImportName x group (name_of u)) ∷ s) else Stuck)

abbrev pub has_none : List t.Decl → Bool
has_none [] = true
has_none (d ∷ ds) = false

abbrev pub top_word : Token → Keyword → FilePart → Stack → Flow
top_word u word.Import x s = if has_none x.decls then Goes (OfFile (AtImport x) ∷ s) else Stuck
top_word u word.Const x s = begin_decl u 0 (OfFile (Top x) ∷ s)
top_word u word.Type x s = begin_decl u 0 (OfFile (Top x) ∷ s)
top_word u word.Var x s = begin_decl u 0 (OfFile (Top x) ∷ s)
top_word u word.Func x s = Goes (OfFile (TopFunc u.place) ∷ OfFile (Top x) ∷ s)
top_word u _ x s = Stuck

abbrev pub top : TokenKind → Token → FilePart → Stack → Flow
top kind.End u x s = Goes (OfFile (Whole (record { «package» = x.package; imports = x.imports; decls = x.decls })) ∷ s)
top (kind.Word w) u x s = top_word u w x s
top _ u x s = Stuck

abbrev pub named_func : Token → Place → Option (Place × Params) → Stack → Flow
named_func u at receiver s = if_name u (Goes (OfSig (SigOpen (new_ctx 0)) ∷ OfFile (FuncSig at receiver (name_of u)) ∷ s)) Stuck

abbrev pub file_row : Token → FileFrame → Stack → Flow
file_row u Start s = if_word word.Package u (Goes (OfFile AtPackage ∷ s)) Stuck
file_row u AtPackage s = if_name u (Goes (OfFile (PackageEnd (name_of u)) ∷ s)) Stuck
file_row u (PackageEnd y) s = if_semicolon u (Goes (OfFile (Top (record { «package» = y; imports = []; decls = [] })) ∷ s)) Stuck
file_row u (Top x) s = top u.kind u x s
file_row u (AtImport x) s = if_op o.LeftParen u (Goes (OfFile (ImportGroup x) ∷ s)) (import_spec u x false s)
file_row u (ImportGroup x) s = if_op o.RightParen u (Goes (OfFile (ImportEnd x false) ∷ s)) (import_spec u x true s)
file_row u (ImportName x group y) s =
    if is_string u.kind then Goes (OfFile (ImportEnd (with_import x (record { place = y.place; name = Some y; path = u.text; path_place = u.place })) group) ∷ s)
    else Stuck
file_row u (ImportEnd x group) s =
    if_semicolon u (Goes (OfFile (if group then ImportGroup x else Top x) ∷ s))
    (if group && is_op o.RightParen u then Goes (OfFile (ImportEnd x false) ∷ s) else Stuck)
file_row u (TopFunc at) s = if_op o.LeftParen u (open_params u (new_ctx 0) (OfReceiver at) s) (named_func u at None s)
file_row u (FuncName at at' xs) s = named_func u at (Some (at', xs)) s
file_row u _ s = Stuck

abbrev pub file_meets_sig : Token → FileFrame → t.Sig → Stack → Flow
file_meets_sig u (FuncSig at receiver y) sig s = open_block u 0 (OfFile (TopBody at receiver y sig) ∷ s)
file_meets_sig u _ sig s = Stuck

abbrev pub file_meets_block : FileFrame → t.Block → Stack → Flow
file_meets_block (TopBody at None y sig) b s = Over (ADecl (t.FuncDecl at y sig b)) s
file_meets_block (TopBody at (Some r) y sig) b s = Over (ADecl (t.MethodDecl at r.0 (joined r.1 t.NoParams) y sig b)) s
file_meets_block _ b s = Stuck

abbrev pub file_meets_decl : Token → FileFrame → t.Decl → Stack → Flow
file_meets_decl u (Top x) d s = if_semicolon u (Goes (OfFile (Top (record x { decls = and x.decls d })) ∷ s)) Stuck
file_meets_decl u _ d s = Stuck
