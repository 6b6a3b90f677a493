-- What a frame of a statement, a declaration or a file has taken.
use Rattle.std.proofs.Common.{◌≡◌, ◌&&◌, Bool, true, false, ℕ, List, [], ◌∷◌, ◌++◌, Option, Some, None}
use Rattle.gj_base.specs.declared.place.Place.{Place}
use Rattle.gj_base.specs.declared.kind.Op.{Op}
use Rattle.go_syntax.specs.Tree as t
use Rattle.go_syntax.specs.Token.{Token}
use Rattle.go_syntax.specs.View.{joined, exprs_of}
use Rattle.go_syntax.specs.declared.keyword.Keyword.TheVariants as word
use Rattle.go_syntax.specs.declared.operator.Operator.TheVariants as o
use Rattle.go_syntax.specs.declared.tree.Name.{Name}
use Rattle.go_grammar.specs.Classes.{IsOp, IsWord, IsName, IsSemicolon, IsAssign, name_of, place_before}
use Rattle.go_grammar.specs.Context.{MayFollowLast}
use Rattle.go_grammar.specs.Grammar.{PerhapsOp, AreNames, AreExprs, IsType, AreParams, IsSig, IsBlock, AreStmts, PerhapsSimple, IsBefore, IsCondition, PerhapsCondition, PerhapsHeaderExpr, IsFor, IsGuard, IsSimple, AreClauses, AreComms, AreConsts, AreVars, AreTypeSpecs}
use Rattle.go_grammar.specs.Files.{AreImportSpecs, AreImports, AreTops, IsFile}
use Rattle.go_grammar.specs.Frames as f
use Rattle.go_grammar.specs.Frames.{Mode, Spot, StmtFrame, ControlFrame, SwitchFrame, DeclFrame, FileFrame, Params, IfPart, ForPart, Subject, SwitchPart, SelectPart, ValuesPart, TypesPart, FilePart}
use Rattle.go_grammar.specs.StmtSteps.{takes_guard, label_in, is_one_name}
use Rattle.go_grammar.proofs.Wanted.{AnyFirst, FirstAt, Starts, IsNameAt, Want, WNone, WFile, WExpr, WType, WSig, WBlock, WStmt, WSimple, WElse, WDecl, WTop, TakesSimple, TakesIf, TakesBlock, TakesDecl}
use Rattle.go_grammar.proofs.HeldExprs.{ExprsHeld}

-- the statements before some others
abbrev pub stmts_onto : List t.Stmt → t.Stmts → t.Stmts
stmts_onto [] r = r
stmts_onto (s ∷ ss) r = t.MoreStmts s (stmts_onto ss r)

pub record StmtsHeld (ts : List Token) (ss : List t.Stmt) : Type 0 where
  pub held : (at : Place) (us : List Token) (r : t.Stmts) → AreStmts at us r → AreStmts at (ts ++ us) (stmts_onto ss r)

-- a name that the expressions are
abbrev pub LabelFact : List Token → List t.Expr → Type 0
LabelFact ts es = (y : Name) → label_in es ≡ Some y → IsNameAt ts y

-- expressions and `=` or `:=`
pub data SideHeld : Bool → List Token → List t.Expr → Bool → Place → Type 0 where
  side_assign : {h : Bool} {ts : List Token} {es : List t.Expr} {at : Place} {v : Token} → AreExprs h ts (exprs_of es) → Starts ts at → LabelFact ts es → IsOp o.Assign v → SideHeld h (ts ++ v ∷ []) es false at
  side_define : {h : Bool} {ts : List Token} {es : List t.Expr} {at : Place} {v : Token} → AreExprs h ts (exprs_of es) → Starts ts at → LabelFact ts es → IsOp o.Define v → SideHeld h (ts ++ v ∷ []) es true at

pub data HoldsStmt : StmtFrame → List Token → Want → Type 0 where
  in_block : {w : Want} {b : ℕ} {ss : List t.Stmt} {ts : List Token} {u : Token} → TakesBlock w → IsOp o.LeftBrace u → StmtsHeld ts ss → HoldsStmt (f.InBlock b u.place ss) (u ∷ ts) w
  declared : {m : Bool} → HoldsStmt f.Declared [] (WStmt m)
  inner : {m : Bool} → HoldsStmt f.Inner [] (WStmt m)
  at_go : {m : Bool} {u : Token} → IsWord word.Go u → HoldsStmt (f.AtGo u.place) (u ∷ []) (WStmt m)
  at_defer : {m : Bool} {u : Token} → IsWord word.Defer u → HoldsStmt (f.AtDefer u.place) (u ∷ []) (WStmt m)
  at_return : {m : Bool} {b : ℕ} {u : Token} → IsWord word.Return u → HoldsStmt (f.AtReturn b u.place) (u ∷ []) (WStmt m)
  returned : {m : Bool} {b : ℕ} {es : List t.Expr} {ts : List Token} {u : Token} → IsWord word.Return u → ExprsHeld false ts es → HoldsStmt (f.Returned b u.place es) (u ∷ ts) (WStmt m)
  at_break : {m : Bool} {u : Token} → IsWord word.Break u → HoldsStmt (f.AtBreak u.place true) (u ∷ []) (WStmt m)
  at_continue : {m : Bool} {u : Token} → IsWord word.Continue u → HoldsStmt (f.AtBreak u.place false) (u ∷ []) (WStmt m)
  after_label : {b n : ℕ} → HoldsStmt (f.AfterLabel b n) [] (WStmt true)
  labeled : {m : Bool} {u v : Token} → IsName u → IsOp o.Colon v → HoldsStmt (f.Labeled (name_of u)) (u ∷ v ∷ []) (WStmt m)
  simple_first : {x : Spot} {w : Want} → TakesSimple w x.ctx.header x.mode → x.ctx.guard ≡ false → HoldsStmt (f.Simple x []) [] w
  simple_more : {x : Spot} {e : t.Expr} {es : List t.Expr} {w : Want} {ts : List Token} → TakesSimple w x.ctx.header x.mode → x.ctx.guard ≡ false → ExprsHeld x.ctx.header ts (e ∷ es) → Starts ts x.place → HoldsStmt (f.Simple x (e ∷ es)) ts w
  right : {x : Spot} {es : List t.Expr} {fresh : Bool} {w : Want} {ts : List Token} → TakesSimple w x.ctx.header x.mode → x.ctx.guard ≡ false → SideHeld x.ctx.header ts es fresh x.place → HoldsStmt (f.Right x es fresh) ts w
  assigned : {x : Spot} {es es' : List t.Expr} {w : Want} {ts us : List Token} → TakesSimple w x.ctx.header x.mode → x.ctx.guard ≡ false → SideHeld x.ctx.header ts es false x.place → ExprsHeld x.ctx.header us es' → HoldsStmt (f.Assigned x es None es') (ts ++ us) w
  op_assigned : {x : Spot} {es es' : List t.Expr} {op : Op} {w : Want} {ts us : List Token} {v : Token} → TakesSimple w x.ctx.header x.mode → x.ctx.guard ≡ false → AreExprs x.ctx.header ts (exprs_of es) → Starts ts x.place → IsAssign op v → ExprsHeld x.ctx.header us es' → HoldsStmt (f.Assigned x es (Some op) es') (ts ++ v ∷ us) w
  defined_first : {x : Spot} {es : List t.Expr} {w : Want} {ts : List Token} → TakesSimple w x.ctx.header x.mode → x.ctx.guard ≡ false → SideHeld x.ctx.header ts es true x.place → HoldsStmt (f.Defined x es []) ts w
  defined_more : {x : Spot} {es es' : List t.Expr} {e : t.Expr} {w : Want} {ts us : List Token} → TakesSimple w x.ctx.header x.mode → x.ctx.guard ≡ false → SideHeld x.ctx.header ts es true x.place → ExprsHeld x.ctx.header us (e ∷ es') → HoldsStmt (f.Defined x es (e ∷ es')) (ts ++ us) w
  sent : {h : Bool} {m : Mode} {at : Place} {es : List t.Expr} {w : Want} {ts : List Token} {v : Token} → TakesSimple w h m → AreExprs h ts (exprs_of es) → Starts ts at → MayFollowLast (exprs_of es) v → IsOp o.Arrow v → HoldsStmt (f.Sent at es) (ts ++ v ∷ []) w

-- whether a simple statement of the class stands in a header
abbrev pub header_of : Want → Bool
header_of (WSimple h g r) = h
header_of _ = false

abbrev pub waits_stmt : StmtFrame → Want → Want
waits_stmt (f.InBlock b at ss) w = WStmt false
waits_stmt f.Declared w = WDecl
waits_stmt f.Inner w = WBlock
waits_stmt (f.AtGo at) w = WExpr false false AnyFirst
waits_stmt (f.AtDefer at) w = WExpr false false AnyFirst
waits_stmt (f.Returned b at es) w = WExpr false false AnyFirst
waits_stmt (f.Labeled y) w = WStmt true
waits_stmt (f.Simple x []) w = WExpr x.ctx.header (takes_guard x.mode) (FirstAt x.place)
waits_stmt (f.Simple x (e ∷ es)) w = WExpr x.ctx.header x.ctx.guard AnyFirst
waits_stmt (f.Assigned x es op es') w = WExpr x.ctx.header x.ctx.guard AnyFirst
waits_stmt (f.Defined x es []) w = WExpr x.ctx.header (takes_guard x.mode && is_one_name es) AnyFirst
waits_stmt (f.Defined x es (e ∷ es')) w = WExpr x.ctx.header x.ctx.guard AnyFirst
waits_stmt (f.Sent at es) w = WExpr (header_of w) false AnyFirst
waits_stmt _ w = WNone

-- `if`, its statement and condition
pub data IfHeld : IfPart → t.Expr → List Token → Type 0 where
  if_held : {b n : ℕ} {init : t.MaybeStmt} {e : t.Expr} {ts us : List Token} {u : Token} → IsWord word.If u → IsBefore ts init → IsCondition us e → IfHeld (record { blocks = b; place = u.place; elses = n; init = init }) e (u ∷ ts ++ us)

pub record ForHeld (ts : List Token) (s : t.Block → t.Stmt) : Type 0 where
  pub held : (us : List Token) (b : t.Block) → IsBlock us b → IsFor (ts ++ us) (s b)

pub record RangeHeld (ts : List Token) (s : t.Expr → t.Block → t.Stmt) : Type 0 where
  pub held : (us vs : List Token) (e : t.Expr) (b : t.Block) → IsCondition us e → IsBlock vs b → IsFor (ts ++ us ++ vs) (s e b)

pub data HoldsControl : ControlFrame → List Token → Want → Type 0 where
  at_if : {w : Want} {b n : ℕ} {u : Token} → TakesIf w → IsWord word.If u → HoldsControl (f.AtIf (record { blocks = b; place = u.place; elses = n; init = t.NoStmt })) (u ∷ []) w
  condition : {w : Want} {b n : ℕ} {init : t.MaybeStmt} {ts : List Token} {u : Token} → TakesIf w → IsWord word.If u → IsBefore ts init → HoldsControl (f.Condition (record { blocks = b; place = u.place; elses = n; init = init })) (u ∷ ts) w
  then_ : {w : Want} {x : IfPart} {e : t.Expr} {ts : List Token} → TakesIf w → IfHeld x e ts → HoldsControl (f.Then x e) ts w
  at_else : {w : Want} {x : IfPart} {e : t.Expr} {b : t.Block} {ts us : List Token} {u : Token} → TakesIf w → IfHeld x e ts → IsBlock us b → IsWord word.Else u → HoldsControl (f.AtElse x e b) (ts ++ us ++ u ∷ []) w
  other : {w : Want} {x : IfPart} {e : t.Expr} {b : t.Block} {ts us : List Token} {u : Token} → TakesIf w → IfHeld x e ts → IsBlock us b → IsWord word.Else u → HoldsControl (f.Other x e b) (ts ++ us ++ u ∷ []) w
  at_for : {m : Bool} {b : ℕ} {u : Token} → IsWord word.For u → HoldsControl (f.AtFor (record { blocks = b; place = u.place })) (u ∷ []) (WStmt m)
  for_condition : {m : Bool} {b : ℕ} {init : t.MaybeStmt} {ts : List Token} {u v : Token} → IsWord word.For u → PerhapsSimple ts init → IsSemicolon v → HoldsControl (f.ForCondition (record { blocks = b; place = u.place }) init) (u ∷ ts ++ v ∷ []) (WStmt m)
  post : {m : Bool} {b : ℕ} {init : t.MaybeStmt} {e : t.MaybeExpr} {ts us : List Token} {u v w : Token} → IsWord word.For u → PerhapsSimple ts init → IsSemicolon v → PerhapsHeaderExpr us e → IsSemicolon w → HoldsControl (f.Post (record { blocks = b; place = u.place }) init e) (u ∷ ts ++ v ∷ us ++ w ∷ []) (WStmt m)
  for_body : {m : Bool} {x : ForPart} {init p : t.MaybeStmt} {e : t.MaybeExpr} {ts : List Token} → ForHeld ts (λ b. t.ForStmt x.place init e p b) → HoldsControl (f.ForBody x init e p) ts (WStmt m)
  at_range : {m : Bool} {x : ForPart} {es : List t.Expr} {fresh : Bool} {ts : List Token} → RangeHeld ts (λ e b. t.RangeStmt x.place (exprs_of es) fresh e b) → HoldsControl (f.AtRange x es fresh) ts (WStmt m)
  range_body : {m : Bool} {x : ForPart} {es : List t.Expr} {fresh : Bool} {e : t.Expr} {ts : List Token} → ForHeld ts (λ b. t.RangeStmt x.place (exprs_of es) fresh e b) → HoldsControl (f.RangeBody x es fresh e) ts (WStmt m)

abbrev pub waits_control : ControlFrame → Want
waits_control (f.AtIf x) = WSimple true false false
waits_control (f.Condition x) = WExpr true false AnyFirst
waits_control (f.Then x e) = WBlock
waits_control (f.Other x e b) = WElse
waits_control (f.AtFor x) = WSimple true false true
waits_control (f.ForCondition x init) = WExpr true false AnyFirst
waits_control (f.Post x init e) = WSimple true false false
waits_control (f.ForBody x init e p) = WBlock
waits_control (f.AtRange x es fresh) = WExpr true false AnyFirst
waits_control (f.RangeBody x es fresh e) = WBlock
waits_control _ = WNone

-- what a switch is on
pub data SubjectHeld : Subject → List Token → Type 0 where
  on_tag : {ts : List Token} {e : t.MaybeExpr} → PerhapsCondition ts e → SubjectHeld (f.OnTag e) ts
  on_guard : {ts : List Token} {x : Option Name} {e : t.Expr} → IsGuard ts x e → SubjectHeld (f.OnGuard x e) ts

-- clauses before a token at the place
pub record ClausesHeld (p : Place) (ts : List Token) (xs : List (t.Clauses → t.Clauses)) : Type 0 where
  pub held : (at : Place) (us : List Token) (r : t.Clauses) → place_before us at ≡ p → AreClauses at us r → AreClauses at (ts ++ us) (joined xs r)

pub record CommsHeld (p : Place) (ts : List Token) (xs : List (t.Comms → t.Comms)) : Type 0 where
  pub held : (at : Place) (us : List Token) (r : t.Comms) → place_before us at ≡ p → AreComms at us r → AreComms at (ts ++ us) (joined xs r)

-- `switch` with its clauses before a token at the place
pub data SwitchHeld : Place → SwitchPart → List Token → Type 0 where
  switch_held : {p : Place} {b : ℕ} {init : t.MaybeStmt} {subject : Subject} {xs : List (t.Clauses → t.Clauses)} {ss us cs : List Token} {u v : Token} → IsWord word.Switch u → IsBefore ss init → SubjectHeld subject us → IsOp o.LeftBrace v → ClausesHeld p cs xs → SwitchHeld p (record { blocks = b; place = u.place; init = init; subject = subject; clauses = xs }) (u ∷ ss ++ us ++ v ∷ cs)

pub data SelectHeld : Place → SelectPart → List Token → Type 0 where
  select_held : {p : Place} {b : ℕ} {xs : List (t.Comms → t.Comms)} {cs : List Token} {u v : Token} → IsWord word.Select u → IsOp o.LeftBrace v → CommsHeld p cs xs → SelectHeld p (record { blocks = b; place = u.place; comms = xs }) (u ∷ v ∷ cs)

-- `case x, y:` or `default:`
pub data CaseHeld : Place → List Token → List t.Expr → Type 0 where
  a_case : {ts : List Token} {es : List t.Expr} {u v : Token} → IsWord word.Case u → AreExprs false ts (exprs_of es) → IsOp o.Colon v → CaseHeld u.place (u ∷ ts ++ v ∷ []) es
  a_default : {u v : Token} → IsWord word.Default u → IsOp o.Colon v → CaseHeld u.place (u ∷ v ∷ []) []

pub data CommHeld : Place → List Token → t.MaybeStmt → Type 0 where
  a_comm : {ts : List Token} {s : t.Stmt} {u v : Token} → IsWord word.Case u → IsSimple false ts s → IsOp o.Colon v → CommHeld u.place (u ∷ ts ++ v ∷ []) (t.AStmt s)
  a_default_comm : {u v : Token} → IsWord word.Default u → IsOp o.Colon v → CommHeld u.place (u ∷ v ∷ []) t.NoStmt

pub data HoldsSwitch : SwitchFrame → List Token → Want → Type 0 where
  switch_head : {m : Bool} {b : ℕ} {u : Token} → IsWord word.Switch u → HoldsSwitch (f.SwitchHead b u.place) (u ∷ []) (WStmt m)
  switch_tag : {m : Bool} {b : ℕ} {init : t.MaybeStmt} {ts : List Token} {u : Token} → IsWord word.Switch u → IsBefore ts init → HoldsSwitch (f.SwitchTag b u.place init) (u ∷ ts) (WStmt m)
  guard_end : {m : Bool} {b : ℕ} {init : t.MaybeStmt} {y : Option Name} {e : t.Expr} {ts us : List Token} {u : Token} → IsWord word.Switch u → IsBefore ts init → IsGuard us y e → HoldsSwitch (f.GuardEnd b u.place init y e) (u ∷ ts ++ us) (WStmt m)
  in_switch : {m : Bool} {x : SwitchPart} {ts : List Token} → ((p : Place) → SwitchHeld p x ts) → HoldsSwitch (f.InSwitchBraces x) ts (WStmt m)
  case_ : {m : Bool} {x : SwitchPart} {es : List t.Expr} {ts us : List Token} {u : Token} → SwitchHeld u.place x ts → IsWord word.Case u → ExprsHeld false us es → HoldsSwitch (f.Case x u.place es) (ts ++ u ∷ us) (WStmt m)
  default_ : {m : Bool} {x : SwitchPart} {ts : List Token} {u : Token} → SwitchHeld u.place x ts → IsWord word.Default u → HoldsSwitch (f.Default x u.place) (ts ++ u ∷ []) (WStmt m)
  clause_body : {m : Bool} {x : SwitchPart} {at : Place} {es : List t.Expr} {ss : List t.Stmt} {ts us vs : List Token} → SwitchHeld at x ts → CaseHeld at us es → StmtsHeld vs ss → HoldsSwitch (f.ClauseBody x at es ss) (ts ++ us ++ vs) (WStmt m)
  select_open : {m : Bool} {b : ℕ} {u : Token} → IsWord word.Select u → HoldsSwitch (f.SelectOpen b u.place) (u ∷ []) (WStmt m)
  in_select : {m : Bool} {x : SelectPart} {ts : List Token} → ((p : Place) → SelectHeld p x ts) → HoldsSwitch (f.InSelect x) ts (WStmt m)
  comm_case : {m : Bool} {x : SelectPart} {ts : List Token} {u : Token} → SelectHeld u.place x ts → IsWord word.Case u → HoldsSwitch (f.CommCase x u.place) (ts ++ u ∷ []) (WStmt m)
  comm_default : {m : Bool} {x : SelectPart} {ts : List Token} {u : Token} → SelectHeld u.place x ts → IsWord word.Default u → HoldsSwitch (f.CommDefault x u.place) (ts ++ u ∷ []) (WStmt m)
  comm_body : {m : Bool} {x : SelectPart} {at : Place} {y : t.MaybeStmt} {ss : List t.Stmt} {ts us vs : List Token} → SelectHeld at x ts → CommHeld at us y → StmtsHeld vs ss → HoldsSwitch (f.CommBody x at y ss) (ts ++ us ++ vs) (WStmt m)

abbrev pub waits_switch : SwitchFrame → Want
waits_switch (f.SwitchHead b at) = WSimple true true false
waits_switch (f.SwitchTag b at init) = WSimple true true false
waits_switch (f.Case x at es) = WExpr false false AnyFirst
waits_switch (f.ClauseBody x at es ss) = WStmt false
waits_switch (f.CommCase x at) = WSimple false false false
waits_switch (f.CommBody x at y ss) = WStmt false
waits_switch _ = WNone

-- `const` or `var`
pub data ValueWord : Bool → Token → Type 0 where
  const_word : {u : Token} → IsWord word.Const u → ValueWord true u
  var_word : {u : Token} → IsWord word.Var u → ValueWord false u

-- the specs of a declaration of constants or variables
pub data AreValues : Bool → List Token → t.ValueSpecs → Type 0 where
  are_consts : {ts : List Token} {xs : t.ValueSpecs} → AreConsts ts xs → AreValues true ts xs
  are_vars : {ts : List Token} {xs : t.ValueSpecs} → AreVars ts xs → AreValues false ts xs

pub record ValuesHeld (constant : Bool) (ts : List Token) (xs : List (t.ValueSpecs → t.ValueSpecs)) : Type 0 where
  pub held : (us : List Token) (r : t.ValueSpecs) → AreValues constant us r → AreValues constant (ts ++ us) (joined xs r)

-- a declaration with its specs so far; in a group each has its `;`
pub data ValuesOpen : ValuesPart → List Token → Type 0 where
  one_value : {b : ℕ} {constant : Bool} {u : Token} → ValueWord constant u → ValuesOpen (record { blocks = b; place = u.place; constant = constant; group = false; specs = [] }) (u ∷ [])
  values_group : {b : ℕ} {constant : Bool} {xs : List (t.ValueSpecs → t.ValueSpecs)} {ts : List Token} {u v : Token} → ValueWord constant u → IsOp o.LeftParen v → ValuesHeld constant ts xs → ValuesOpen (record { blocks = b; place = u.place; constant = constant; group = true; specs = xs }) (u ∷ v ∷ ts)

pub record TypesHeld (ts : List Token) (xs : List (t.TypeSpecs → t.TypeSpecs)) : Type 0 where
  pub held : (us : List Token) (r : t.TypeSpecs) → AreTypeSpecs us r → AreTypeSpecs (ts ++ us) (joined xs r)

pub data TypesOpen : TypesPart → List Token → Type 0 where
  one_type : {b : ℕ} {u : Token} → IsWord word.Type u → TypesOpen (record { blocks = b; place = u.place; group = false; specs = [] }) (u ∷ [])
  types_group : {b : ℕ} {xs : List (t.TypeSpecs → t.TypeSpecs)} {ts : List Token} {u v : Token} → IsWord word.Type u → IsOp o.LeftParen v → TypesHeld ts xs → TypesOpen (record { blocks = b; place = u.place; group = true; specs = xs }) (u ∷ v ∷ ts)

-- a type that may be missing
pub data PerhapsType : List Token → t.MaybeExpr → Type 0 where
  no_type : PerhapsType [] t.NoExpr
  some_type : {ts : List Token} {e : t.Expr} → IsType ts e → PerhapsType ts (t.AnExpr e)

pub data HoldsDecl : DeclFrame → List Token → Want → Type 0 where
  at_values : {w : Want} {b : ℕ} {constant : Bool} {u : Token} → TakesDecl w → ValueWord constant u → HoldsDecl (f.AtValues (record { blocks = b; place = u.place; constant = constant; group = false; specs = [] })) (u ∷ []) w
  value_group : {w : Want} {b : ℕ} {constant : Bool} {xs : List (t.ValueSpecs → t.ValueSpecs)} {ts : List Token} {u v : Token} → TakesDecl w → ValueWord constant u → IsOp o.LeftParen v → ValuesHeld constant ts xs → HoldsDecl (f.ValueGroup (record { blocks = b; place = u.place; constant = constant; group = true; specs = xs })) (u ∷ v ∷ ts) w
  next_value : {w : Want} {x : ValuesPart} {ys : List Name} {ts us : List Token} {v : Token} → TakesDecl w → ValuesOpen x ts → AreNames us ys → IsOp o.Comma v → HoldsDecl (f.NextValue x ys) (ts ++ us ++ v ∷ []) w
  value_names : {w : Want} {x : ValuesPart} {ys : List Name} {ts us : List Token} → TakesDecl w → ValuesOpen x ts → AreNames us ys → HoldsDecl (f.ValueNames x ys) (ts ++ us) w
  value_type : {w : Want} {x : ValuesPart} {ys : List Name} {ts us : List Token} → TakesDecl w → ValuesOpen x ts → AreNames us ys → HoldsDecl (f.ValueType x ys) (ts ++ us) w
  value_exprs : {w : Want} {x : ValuesPart} {ys : List Name} {ty : t.MaybeExpr} {es : List t.Expr} {ts us vs ws : List Token} {v : Token} → TakesDecl w → ValuesOpen x ts → AreNames us ys → PerhapsType vs ty → IsOp o.Assign v → ExprsHeld false ws es → HoldsDecl (f.ValueExprs x ys ty es) (ts ++ us ++ vs ++ v ∷ ws) w
  at_types : {w : Want} {b : ℕ} {u : Token} → TakesDecl w → IsWord word.Type u → HoldsDecl (f.AtTypes (record { blocks = b; place = u.place; group = false; specs = [] })) (u ∷ []) w
  type_group : {w : Want} {b : ℕ} {xs : List (t.TypeSpecs → t.TypeSpecs)} {ts : List Token} {u v : Token} → TakesDecl w → IsWord word.Type u → IsOp o.LeftParen v → TypesHeld ts xs → HoldsDecl (f.TypeGroup (record { blocks = b; place = u.place; group = true; specs = xs })) (u ∷ v ∷ ts) w
  declared_name : {w : Want} {x : TypesPart} {ts : List Token} {u : Token} → TakesDecl w → TypesOpen x ts → IsName u → HoldsDecl (f.DeclaredName x (name_of u)) (ts ++ u ∷ []) w
  declared_type : {w : Want} {x : TypesPart} {alias : Bool} {ts ss : List Token} {u : Token} → TakesDecl w → TypesOpen x ts → IsName u → PerhapsOp o.Assign ss alias → HoldsDecl (f.DeclaredType x (name_of u) alias) (ts ++ u ∷ ss) w

abbrev pub waits_decl : DeclFrame → Want
waits_decl (f.ValueType x ys) = WType AnyFirst
waits_decl (f.ValueExprs x ys ty es) = WExpr false false AnyFirst
waits_decl (f.DeclaredType x y alias) = WType AnyFirst
waits_decl _ = WNone

-- `package x;`
pub data PackageHeld : Name → List Token → Type 0 where
  package_held : {u v w : Token} → IsWord word.Package u → IsName v → IsSemicolon w → PackageHeld (name_of v) (u ∷ v ∷ w ∷ [])

pub record ImportsHeld (ts : List Token) (xs : List t.Import) : Type 0 where
  pub held : (us : List Token) (r : List t.Import) → AreImports us r → AreImports (ts ++ us) (xs ++ r)

pub record SpecsHeld (ts : List Token) (xs : List t.Import) : Type 0 where
  pub held : (us : List Token) (r : List t.Import) → AreImportSpecs us r → AreImportSpecs (ts ++ us) (xs ++ r)

pub record TopsHeld (ts : List Token) (xs : List t.Decl) : Type 0 where
  pub held : (us : List Token) (r : List t.Decl) → AreTops us r → AreTops (ts ++ us) (xs ++ r)

-- the file so far, before a declaration
pub data FileHeld : FilePart → List Token → Type 0 where
  file_held : {y : Name} {xs : List t.Import} {ds : List t.Decl} {ps ts us : List Token} → PackageHeld y ps → ImportsHeld ts xs → (ds ≡ [] → us ≡ []) → TopsHeld us ds → FileHeld (record { «package» = y; imports = xs; decls = ds }) (ps ++ ts ++ us)

-- the imports so far, the last one still open: in a group or alone
pub data ImportHeld : FilePart → Bool → List Token → Type 0 where
  one_import : {y : Name} {xs : List t.Import} {ps ts : List Token} {u : Token} → PackageHeld y ps → ImportsHeld ts xs → IsWord word.Import u → ImportHeld (record { «package» = y; imports = xs; decls = [] }) false (ps ++ ts ++ u ∷ [])
  group_import : {y : Name} {zs : List t.Import} {ps ts us : List Token} {u v : Token} (xs ys : List t.Import) → zs ≡ xs ++ ys → PackageHeld y ps → ImportsHeld ts xs → IsWord word.Import u → IsOp o.LeftParen v → SpecsHeld us ys → ImportHeld (record { «package» = y; imports = zs; decls = [] }) true (ps ++ ts ++ u ∷ v ∷ us)

-- the same, the last spec being complete but for its `;`
pub data ImportEnded : FilePart → Bool → List Token → Type 0 where
  one_ended : {y : Name} {xs : List t.Import} {ps : List Token} (ts : List Token) → PackageHeld y ps → ((v : Token) → IsSemicolon v → ImportsHeld (ts ++ v ∷ []) xs) → ImportEnded (record { «package» = y; imports = xs; decls = [] }) false (ps ++ ts)
  group_ended : {y : Name} {zs : List t.Import} {ps ts us : List Token} {u v : Token} (xs ys : List t.Import) → zs ≡ xs ++ ys → PackageHeld y ps → ImportsHeld ts xs → IsWord word.Import u → IsOp o.LeftParen v → AreImportSpecs us ys → ((w : Token) → IsSemicolon w → SpecsHeld (us ++ w ∷ []) ys) → ImportEnded (record { «package» = y; imports = zs; decls = [] }) true (ps ++ ts ++ u ∷ v ∷ us)

-- what is before a function's name
pub data ReceiverHeld : Place → Option (Place × Params) → List Token → Type 0 where
  no_receiver : {u : Token} → IsWord word.Func u → ReceiverHeld u.place None (u ∷ [])
  receiver : {u : Token} {at : Place} {xs : Params} {ts : List Token} → IsWord word.Func u → AreParams ts at (joined xs t.NoParams) → ReceiverHeld u.place (Some (at, xs)) (u ∷ ts)

pub data HoldsFile : FileFrame → List Token → Want → Type 0 where
  start : HoldsFile f.Start [] WFile
  at_package : {u : Token} → IsWord word.Package u → HoldsFile f.AtPackage (u ∷ []) WFile
  package_end : {u v : Token} → IsWord word.Package u → IsName v → HoldsFile (f.PackageEnd (name_of v)) (u ∷ v ∷ []) WFile
  top : {x : FilePart} {ts : List Token} → FileHeld x ts → HoldsFile (f.Top x) ts WFile
  at_import : {x : FilePart} {ts : List Token} → ImportHeld x false ts → HoldsFile (f.AtImport x) ts WFile
  import_group : {x : FilePart} {ts : List Token} → ImportHeld x true ts → HoldsFile (f.ImportGroup x) ts WFile
  import_name : {x : FilePart} {grouped : Bool} {ts : List Token} {u : Token} → ImportHeld x grouped ts → IsName u → HoldsFile (f.ImportName x grouped (name_of u)) (ts ++ u ∷ []) WFile
  import_dot : {x : FilePart} {grouped : Bool} {ts : List Token} {u : Token} → ImportHeld x grouped ts → IsOp o.Dot u → HoldsFile (f.ImportName x grouped (name_of u)) (ts ++ u ∷ []) WFile
  import_end : {x : FilePart} {grouped : Bool} {ts : List Token} → ImportEnded x grouped ts → HoldsFile (f.ImportEnd x grouped) ts WFile
  top_func : {u : Token} → IsWord word.Func u → HoldsFile (f.TopFunc u.place) (u ∷ []) WTop
  func_name : {at : Place} {xs : Params} {ts : List Token} {u : Token} → IsWord word.Func u → AreParams ts at (joined xs t.NoParams) → HoldsFile (f.FuncName u.place at xs) (u ∷ ts) WTop
  func_sig : {at : Place} {x : Option (Place × Params)} {ts : List Token} {u : Token} → ReceiverHeld at x ts → IsName u → HoldsFile (f.FuncSig at x (name_of u)) (ts ++ u ∷ []) WTop
  top_body : {at : Place} {x : Option (Place × Params)} {sig : t.Sig} {ts us : List Token} {u : Token} → ReceiverHeld at x ts → IsName u → IsSig us sig → HoldsFile (f.TopBody at x (name_of u) sig) (ts ++ u ∷ us) WTop
  whole : {x : t.File} {ts : List Token} → IsFile ts x → HoldsFile (f.Whole x) ts WFile

abbrev pub waits_file : FileFrame → Want
waits_file (f.Top x) = WTop
waits_file (f.FuncSig at x y) = WSig
waits_file (f.TopBody at x y sig) = WBlock
waits_file _ = WNone
