-- What the frames of a stack wait for, and what a tree is that one of them hands on.
use Rattle.std.proofs.Common.{◌≡◌, ◌≤◌, ◌⊎◌, ◌&&◌, Bool, true, false, ℕ, List, [], ◌∷◌, ◌++◌, Option, Some, None}
use Rattle.gj_base.specs.declared.place.Place.{Place}
use Rattle.gj_base.specs.declared.kind.Op.{Op}
use Rattle.go_syntax.specs.Tree as t
use Rattle.go_syntax.specs.Token.{Token}
use Rattle.go_syntax.specs.View.{exprs_of}
use Rattle.go_syntax.specs.declared.keyword.Keyword.TheVariants as word
use Rattle.go_syntax.specs.declared.operator.Operator.TheVariants as o
use Rattle.go_syntax.specs.declared.tree.Name.{Name}
use Rattle.go_grammar.specs.Classes.{IsOp, IsWord, IsName, IsBinary, level, name_of, begins_type}
use Rattle.go_grammar.specs.Context.{MayFollow, wants_brace, is_literal_type, sig_wants_result, stmt_wants_brace, wants_dot, type_wants_dot, sig_wants_dot}
use Rattle.go_grammar.specs.Grammar.{IsExpr, IsUnary, AreExprs, IsValue, IsType, IsBegunType, IsSig, IsBlock, IsStmt, IsSimple, IsIf, IsDecl}
use Rattle.go_grammar.specs.Files.{IsTop}
use Rattle.go_grammar.specs.Frames.{Mode, Listed, Headed, Value, AnExpr, AChain, AGuard, ARanging, ASig, ABlock, AStmt, ADecl}
use Rattle.go_grammar.specs.Nodes.{is_op, place_of_expr, place_of_decl, place_of_block, expr_in, name_in}
use Rattle.go_grammar.specs.StmtSteps.{takes_guard, is_for, is_listed}

-- what the first token of a type may be
pub data First : Type 0 where
  AnyFirst : First
  NoParen : First
  NoArrow : First
  FirstAt : Place → First

abbrev pub Allows : First → Token → Type 0
Allows AnyFirst u = Unit {0}
Allows NoParen u = is_op o.LeftParen u ≡ false
Allows NoArrow u = is_op o.Arrow u ≡ false
Allows (FirstAt p) u = u.place ≡ p

abbrev pub AllowsFirst : First → List Token → Type 0
AllowsFirst r [] = ⊥
AllowsFirst r (u ∷ us) = Allows r u

-- the tokens begin at the place
abbrev pub Starts : List Token → Place → Type 0
Starts [] p = ⊥
Starts (u ∷ us) p = p ≡ u.place

pub data Want : Type 0 where
  WNone : Want
  -- nothing is below
  WFile : Want
  -- an operand, or a chain of at least this level; in a header; a guard may be there
  WUnary : ℕ → Bool → Bool → First → Want
  WExpr : Bool → Bool → First → Want
  WValue : Want
  WType : First → Want
  WBegun : First → Want
  WSig : Want
  WBlock : Want
  -- whether it may be missing
  WStmt : Bool → Want
  -- in a header; a guard may be there; a `range` may be there
  WSimple : Bool → Bool → Bool → Want
  -- what follows `else`
  WElse : Want
  WDecl : Want
  WTop : Want

-- a name alone
pub data IsNameAt : List Token → Name → Type 0 where
  name_at : {u : Token} → IsName u → IsNameAt (u ∷ []) (name_of u)

abbrev pub NameFact : List Token → t.Expr → Type 0
NameFact ts e = (y : Name) → name_in e ≡ Some y → IsNameAt ts y

-- what a parser knows of an expression at the token after it
pub record After (u : Token) (r : First) (ts : List Token) (e : t.Expr) : Type 0 where
  pub starts : Starts ts (place_of_expr e)
  pub first : AllowsFirst r ts
  pub follow : MayFollow e u
  pub brace : is_op o.LeftBrace u ≡ true → wants_brace e ≡ false
  pub named : NameFact ts e

-- an expression and `.(type`
pub data IsGuardOf : ℕ → Bool → List Token → t.Expr → Type 0 where
  guard_of : {k : ℕ} {h : Bool} {ys : List Token} {e : t.Expr} {d p w : Token} → (IsUnary h ys e ⊎ ((k ≤ 6) × IsExpr k h ys e)) → Starts ys (place_of_expr e) → wants_dot e ≡ false → IsOp o.Dot d → IsOp o.LeftParen p → IsWord word.Type w → IsGuardOf k h (ys ++ d ∷ p ∷ w ∷ []) e

pub data IsOpenGuard : List Token → Option Name → t.Expr → Type 0 where
  open_guard : {ys : List Token} {e : t.Expr} {d p w : Token} → IsExpr 1 true ys e → wants_dot e ≡ false → IsOp o.Dot d → IsOp o.LeftParen p → IsWord word.Type w → IsOpenGuard (ys ++ d ∷ p ∷ w ∷ []) None e
  open_named_guard : {ys : List Token} {e : t.Expr} {y z d p w : Token} → IsName y → IsOp o.Define z → IsExpr 1 true ys e → wants_dot e ≡ false → IsOp o.Dot d → IsOp o.LeftParen p → IsWord word.Type w → IsOpenGuard (y ∷ z ∷ ys ++ d ∷ p ∷ w ∷ []) (Some (name_of y)) e

pub data IsRanging : List Token → List t.Expr → Bool → Type 0 where
  ranging_assign : {ts : List Token} {es : List t.Expr} {v w : Token} → AreExprs true ts (exprs_of es) → IsOp o.Assign v → IsWord word.Range w → IsRanging (ts ++ v ∷ w ∷ []) es false
  ranging_define : {ts : List Token} {es : List t.Expr} {v w : Token} → AreExprs true ts (exprs_of es) → IsOp o.Define v → IsWord word.Range w → IsRanging (ts ++ v ∷ w ∷ []) es true

-- what a parser knows of a simple statement at the token after it
pub record SimpleIs (u : Token) (h : Bool) (ts : List Token) (s : t.Stmt) : Type 0 where
  pub simple : IsSimple h ts s
  pub alone : (e : t.Expr) → expr_in s ≡ Some e → IsExpr 1 h ts e
  pub brace : is_op o.LeftBrace u ≡ true → stmt_wants_brace s ≡ false

pub data StmtIs : Token → Bool → List Token → t.Stmt → Type 0 where
  a_stmt : {u : Token} {m : Bool} {ts : List Token} {s : t.Stmt} → IsStmt u.place ts s → StmtIs u m ts s
  a_missing : {u : Token} → StmtIs u true [] (t.EmptyStmt u.place)

-- the tokens are this value of a class, with the token after them
abbrev pub Is : Token → Want → Value → List Token → Type 0
Is u (WUnary k h g r) (AnExpr e) ts = IsUnary h ts e × After u r ts e
Is u (WUnary k h g r) (AChain n e) ts = IsExpr k h ts e × ((op : Op) → IsBinary op u → IsExpr (level op) h ts e) × After u r ts e
Is u (WUnary k h g r) (AGuard x e) ts = (g ≡ true) × (x ≡ None) × IsGuardOf k h ts e
Is u (WExpr h g r) (AnExpr e) ts = IsExpr 1 h ts e × After u r ts e
Is u (WExpr h g r) (AGuard x e) ts = (g ≡ true) × (x ≡ None) × IsGuardOf 1 h ts e
Is u WValue (AnExpr e) ts = IsValue ts e
Is u (WType r) (AnExpr e) ts = IsType ts e × AllowsFirst r ts × MayFollow e u × ((type_wants_dot e && is_op o.Dot u) ≡ false)
Is u (WBegun r) (AnExpr e) ts = IsBegunType ts e × AllowsFirst r ts × Starts ts (place_of_expr e) × MayFollow e u × (wants_brace e ≡ is_literal_type e) × (name_in e ≡ None) × ((wants_dot e && is_op o.Dot u) ≡ false)
Is u WSig (ASig sig) ts = IsSig ts sig × ((sig_wants_result sig && begins_type u.kind) ≡ false) × ((sig_wants_dot sig && is_op o.Dot u) ≡ false)
Is u WBlock (ABlock b) ts = IsBlock ts b × Starts ts (place_of_block b)
Is u (WStmt m) (AStmt s) ts = StmtIs u m ts s
Is u (WSimple h g r) (AStmt s) ts = SimpleIs u h ts s
Is u (WSimple h g r) (AGuard x e) ts = (h ≡ true) × (g ≡ true) × IsOpenGuard ts x e
Is u (WSimple h g r) (ARanging es fresh) ts = (h ≡ true) × (r ≡ true) × IsRanging ts es fresh
Is u WElse (AStmt s) ts = IsIf ts s
Is u WElse (ABlock b) ts = IsBlock ts b × Starts ts (place_of_block b)
Is u WDecl (ADecl d) ts = IsDecl ts d × Starts ts (place_of_decl d)
Is u WTop (ADecl d) ts = IsTop ts d
Is u _ _ ts = ⊥

-- the classes that an expression is
pub data TakesExpr : Want → Bool → Bool → First → Type 0 where
  to_expr : {h g : Bool} {r : First} → TakesExpr (WExpr h g r) h g r
  to_value : TakesExpr WValue false false AnyFirst

-- the classes that a type is that begins with the token and with a bracket or a keyword
pub data TakesBegun : Want → Token → Type 0 where
  to_type : {r : First} {u : Token} → Allows r u → TakesBegun (WType r) u
  to_begun : {r : First} {u : Token} → Allows r u → TakesBegun (WBegun r) u

-- the classes that a simple statement is
pub data TakesSimple : Want → Bool → Mode → Type 0 where
  to_listed : {m : Bool} {n : ℕ} → TakesSimple (WStmt m) false (Listed n)
  to_stmt : {m : Bool} → TakesSimple (WStmt m) false Headed
  to_simple : {h : Bool} {m : Mode} → is_listed m ≡ false → (is_for m ≡ true → h ≡ true) → (takes_guard m ≡ true → h ≡ true) → TakesSimple (WSimple h (takes_guard m) (is_for m)) h m

pub data TakesIf : Want → Type 0 where
  if_to_stmt : {m : Bool} → TakesIf (WStmt m)
  if_to_else : TakesIf WElse

pub data TakesBlock : Want → Type 0 where
  to_block : TakesBlock WBlock
  to_else : TakesBlock WElse

pub data TakesDecl : Want → Type 0 where
  to_decl : TakesDecl WDecl
  to_top : TakesDecl WTop
