-- Go specification (as of Go 1.17), "Statements", "Blocks", "If statements", "For statements", "Switch statements", "Terminating
-- statements": which statements of a body are faulty, each in its place. What is known before a statement is what those before it
-- leave.
use Rattle.std.specs.Prelude.{◌≡◌, ◌⊎◌, ◌↔◌, ℕ, suc, List, [], ◌∷◌, Bool, true, false, ◌&&◌, ◌||◌, not, Option, Some, None}
use Rattle.gj_base.specs.declared.place.Place.{Place}
use Rattle.go_syntax.specs.Tree as t
use Rattle.go_const.specs.declared.constant.Const.{Const}
use Rattle.go_core.specs.CoreTree.{break_, continue_}
use Rattle.go_type.specs.Tree as ty
use Rattle.go_type.specs.Tree.{Ty}
use Rattle.go_typing.specs.Answer.{Flaw, flaw, own}
use Rattle.go_typing.specs.Typing.{place_of}
use Rattle.go_typing.specs.Faulty.{IsIn, HasFault}
use Rattle.go_typing.specs.Walk.{Walk, Around, fresh, pushed, within, uses, uses_all, unused}
use Rattle.go_typing.specs.Expressions.{value_alone, condition}
use Rattle.go_typing.specs.Assign.{assign, update, step, define, undeclared}
use Rattle.go_typing.specs.Declare.{decl}
use Rattle.go_typing.specs.Labels.{label_of, labels_told}
use Rattle.go_typing.specs.Statements.{expression, unlabeled, with_target, next_label, condition_uses, post_did, tag_of, case_answer, case_constant, repeated, and_constant, case_tests, falls, is_last, is_default, returned, branch, stmt, maybe, block, stmts, clause_stmts, many_told, parts_typed, whole_told, with_labels, function_body}

abbrev pub HasConditionFault : Walk → t.MaybeExpr → Flaw → Type 0
HasConditionFault w t.NoExpr f = ⊥
HasConditionFault w (t.AnExpr x) f = IsIn f (condition w x).flaws

-- a short declaration is no statement after a turn (83); Fault: what else is faulty
abbrev pub HasPostFault : t.MaybeStmt → Walk → Flaw → (Fault : Type 0) → Type 0
HasPostFault (t.AStmt (t.DefineStmt at xs ys)) w f Fault = IsIn f (undeclared at xs ys w).flaws
HasPostFault s w f Fault = Fault

abbrev pub HasTagFault : Walk → t.MaybeExpr → Flaw → Type 0
HasTagFault w t.NoExpr f = ⊥
HasTagFault w (t.AnExpr x) f = IsIn f (value_alone w x).flaws

-- own: a tag without a type counts as `bool`
abbrev pub tag_type : Option Ty → Ty
tag_type None = ty.bool
tag_type (Some v) = v

-- a case has a faulty node, isn't compared with the tag, or is a constant that stood before (92)
abbrev pub SomeCaseFault : Walk → ℕ → Option Ty → t.Exprs → List Const → Flaw → Type 0
SomeCaseFault w tag u t.NoExprs seen f = ⊥
SomeCaseFault w tag u (t.MoreExprs x xs) seen f =
    ((HasFault w.names w.scopes x f ⊎ IsIn f (own (case_answer w tag u x))) ⊎ ((repeated (case_constant w u x) seen ≡ true) × (f ≡ flaw (place_of x) 92)))
    ⊎ SomeCaseFault w tag u xs (and_constant (case_constant w u x) seen) f

-- a part of a `switch`, or where all parts are typed the whole, which has too many clauses (76)
abbrev pub PartOrWhole : (Flaw → Type 0) → Place → t.Clauses → (is_typed : Bool) → Flaw → Type 0
PartOrWhole Part at cs is_typed f = Part f ⊎ (((g : Flaw) → Part g → ⊥) × IsIn f (many_told at cs is_typed))

abbrev mutual
  -- the statement itself, or one in it
  pub HasStmtFault : t.Stmt → Around → Walk → Flaw → Type 0
  HasStmtFault (t.EmptyStmt at) a w f = ⊥
  HasStmtFault (t.ExprStmt at xs) a w f = IsIn f (expression at xs w).flaws
  HasStmtFault (t.SendStmt at xs y) a w f = f ≡ flaw at 0
  HasStmtFault (t.IncDecStmt at xs up) a w f = IsIn f (step at xs up w).flaws
  HasStmtFault (t.AssignStmt at xs None ys) a w f = IsIn f (assign at xs ys w).flaws
  HasStmtFault (t.AssignStmt at xs (Some op) ys) a w f = IsIn f (update at op xs ys w).flaws
  HasStmtFault (t.DefineStmt at xs ys) a w f = IsIn f (define at xs ys w).flaws
  HasStmtFault (t.DeclStmt at d) a w f = IsIn f (decl d w).flaws
  HasStmtFault (t.BlockStmt at b) a w f = HasBlockFault b (unlabeled a) w f
  HasStmtFault (t.IfStmt at init x b other) a w f =
      ((HasMaybeFault init (unlabeled a) (pushed w) f ⊎ IsIn f (condition (maybe init (unlabeled a) (pushed w)).walk x).flaws)
      ⊎ HasBlockFault b (unlabeled a) (uses x (maybe init (unlabeled a) (pushed w)).walk) f)
      ⊎ HasMaybeFault other (unlabeled a) (block b (unlabeled a) (uses x (maybe init (unlabeled a) (pushed w)).walk)).walk f
  HasStmtFault (t.ForStmt at init x post b) a w f =
      ((HasMaybeFault init (unlabeled a) (pushed w) f ⊎ HasConditionFault (maybe init (unlabeled a) (pushed w)).walk x f)
      ⊎ HasPostFault post (condition_uses x (maybe init (unlabeled a) (pushed w)).walk) f (HasMaybeFault post (unlabeled a) (condition_uses x (maybe init (unlabeled a) (pushed w)).walk) f))
      ⊎ HasBlockFault b (with_target (pushed w).next_label true a) (next_label (post_did post (maybe post (unlabeled a)) (condition_uses x (maybe init (unlabeled a) (pushed w)).walk)).walk) f
  HasStmtFault (t.RangeStmt at xs is_new y b) a w f = f ≡ flaw at 0
  HasStmtFault (t.SwitchStmt at init x cs) a w f =
      PartOrWhole (λ g.
      (HasMaybeFault init (unlabeled a) (pushed w) g ⊎ HasTagFault (maybe init (unlabeled a) (pushed w)).walk x g)
      ⊎ HasClausesFault cs (with_target (condition_uses x (maybe init (unlabeled a) (pushed w)).walk).next_label false a) (condition_uses x (maybe init (unlabeled a) (pushed w)).walk).next (tag_of (maybe init (unlabeled a) (pushed w)).walk x).type_ 0 [] false
      (next_label (fresh (tag_type (tag_of (maybe init (unlabeled a) (pushed w)).walk x).type_) (condition_uses x (maybe init (unlabeled a) (pushed w)).walk))) g) at cs (parts_typed a (t.SwitchStmt at init x cs) w (stmt (t.SwitchStmt at init x cs) a w).walk) f
  HasStmtFault (t.TypeSwitchStmt at init n x cs) a w f = f ≡ flaw at 0
  HasStmtFault (t.SelectStmt at cs) a w f = f ≡ flaw at 0
  HasStmtFault (t.GoStmt at x) a w f = f ≡ flaw at 0
  HasStmtFault (t.DeferStmt at x) a w f = f ≡ flaw at 0
  HasStmtFault (t.ReturnStmt at ys) a w f = IsIn f (returned at a ys w).flaws
  HasStmtFault (t.BreakStmt at n) a w f = IsIn f (branch at break_ false n a w).flaws
  HasStmtFault (t.ContinueStmt at n) a w f = IsIn f (branch at continue_ true n a w).flaws
  HasStmtFault (t.FallthroughStmt at) a w f = f ≡ flaw at 91
  HasStmtFault (t.LabeledStmt at n s) a w f = HasStmtFault s (record a { label = label_of n }) w f

  pub HasMaybeFault : t.MaybeStmt → Around → Walk → Flaw → Type 0
  HasMaybeFault t.NoStmt a w f = ⊥
  HasMaybeFault (t.AStmt s) a w f = HasStmtFault s a w f

  pub HasBlockFault : t.Block → Around → Walk → Flaw → Type 0
  HasBlockFault (t.BlockOf at ss end) a w f = HasStmtsFault ss a (pushed w) f

  pub HasStmtsFault : t.Stmts → Around → Walk → Flaw → Type 0
  HasStmtsFault t.NoStmts a w f = ⊥
  HasStmtsFault (t.MoreStmts s ss) a w f = HasStmtFault s (unlabeled a) w f ⊎ HasStmtsFault ss a (stmt s (unlabeled a) w).walk f

  -- a `fallthrough` that ends a clause before another is no fault
  pub HasClauseFault : Bool → t.Stmts → Around → Walk → Flaw → Type 0
  HasClauseFault true (t.MoreStmts (t.FallthroughStmt at) t.NoStmts) a w f = ⊥
  HasClauseFault onward t.NoStmts a w f = ⊥
  HasClauseFault onward (t.MoreStmts s ss) a w f = HasStmtFault s (unlabeled a) w f ⊎ HasClauseFault onward ss a (stmt s (unlabeled a) w).walk f

  -- own: a second `default` is told at its clause (92)
  pub HasClausesFault : t.Clauses → Around → ℕ → Option Ty → ℕ → List Const → Bool → Walk → Flaw → Type 0
  HasClausesFault t.NoClauses a tag u number seen had w f = ⊥
  HasClausesFault (t.MoreClauses at xs ss cs) a tag u number seen had w f =
      ((((is_default xs ≡ true) × (had ≡ true) × (f ≡ flaw at 92)) ⊎ SomeCaseFault w tag u xs seen f)
      ⊎ HasClauseFault (falls ss && not (is_last cs)) ss a (pushed (uses_all xs w)) f)
      ⊎ HasClausesFault cs a tag u (suc number) (case_tests w tag u number xs seen).seen (is_default xs || had) (within (clause_stmts (falls ss && not (is_last cs)) ss a) (uses_all xs w)).walk f

-- a part of a function's body: a faulty statement or label, or an unused variable
abbrev pub HasPartFault : t.Block → Around → Walk → Flaw → Type 0
HasPartFault (t.BlockOf at ss end) a w f =
    (HasStmtsFault ss (with_labels (t.BlockOf at ss end) a) w f ⊎ IsIn f (labels_told (t.BlockOf at ss end)))
    ⊎ IsIn f (unused (stmts ss (with_labels (t.BlockOf at ss end) a) w).walk.declared (stmts ss (with_labels (t.BlockOf at ss end) a) w).walk.used)

-- the declaration of each name that the body uses or assigns is typed
abbrev pub UsesTyped : t.Block → Around → Walk → Type 0
UsesTyped (t.BlockOf at ss end) a w = (stmts ss (with_labels (t.BlockOf at ss end) a) w).walk.lost ≡ w.lost

-- of a function as a whole: an end without `return` (87), or else that there are too many (79)
abbrev pub HasWholeFault : t.Block → Around → Walk → Flaw → Type 0
HasWholeFault (t.BlockOf at ss end) a w f = IsIn f (whole_told a end (stmts ss (with_labels (t.BlockOf at ss end) a) w).core)

-- of a function's body: a part, or where all parts are typed the whole
abbrev pub HasBodyFault : t.Block → Around → Walk → Flaw → Type 0
HasBodyFault b a w f = HasPartFault b a w f ⊎ (((g : Flaw) → HasPartFault b a w g → ⊥) × UsesTyped b a w × HasWholeFault b a w f)

abbrev pub StatementsToldExactly : Type 0
StatementsToldExactly = (s : t.Stmt) (a : Around) (w : Walk) (f : Flaw) → IsIn f (stmt s a w).flaws ↔ HasStmtFault s a w f

abbrev pub BodiesToldExactly : Type 0
BodiesToldExactly = (b : t.Block) (a : Around) (w : Walk) (f : Flaw) → IsIn f (function_body b a w).flaws ↔ HasBodyFault b a w f
