-- Statements without statements in them, by their forms.
use Rattle.std.proofs.Common.{◌≡◌, ◌∙◌, ℕ, refl, sym, ap, subst, List, [], ◌∷◌, map, Bool, true, false}
use Rattle.std.specs.Prelude.{Option, Some, None, option_map, Vec}
use Rattle.std.specs.declared.alloc.Global.{Global}
use Rattle.gj_base.specs.declared.place.Place.{Place}
use Rattle.gj_base.specs.declared.kind.Op.{Op}
use Rattle.go_syntax.specs.Tree as t
use Rattle.go_syntax.specs.View.{expr_view, exprs_of, maybe_stmt, stmt_view, block_view, clause_view, comm_view, decl_view, joined}
use Rattle.go_syntax.specs.declared.tree.Block.{Block}
use Rattle.go_syntax.specs.declared.tree.Clause.{Clause}
use Rattle.go_syntax.specs.declared.tree.Comm.{Comm}
use Rattle.go_syntax.specs.declared.tree.Decl.{Decl}
use Rattle.go_syntax.specs.declared.tree.Expr.{Expr}
use Rattle.go_syntax.specs.declared.tree.Name.{Name}
use Rattle.go_syntax.specs.declared.tree.Stmt.{Stmt}
use Rattle.go_syntax.specs.declared.tree.StmtForm.{StmtForm}
use Rattle.go_syntax.specs.declared.tree.StmtForm.TheVariants as form
use Rattle.go_type.specs.Tree.{Ty}
use Rattle.go_core.specs.CoreTree as core
use Rattle.go_core.specs.declared.statement.CoreStmt.{CoreStmt}
use Rattle.go_typing.specs.Answer.{flaw}
use Rattle.go_calls.specs.Words.{types_of}
use Rattle.go_operands.specs.declared.answers.answer.Flaw.{Flaw}
use Rattle.go_typing.specs.Walk as go
use Rattle.go_typing.specs.Walk.{Did, did, faulty}
use Rattle.go_typing.specs.Assign.{assign, update, step, define}
use Rattle.go_typing.specs.Declare as declare
use Rattle.go_typing.specs.Statements.{stmt, expression, returned_in, branch, not_built, spared, standing}
use Rattle.go_walk.specs.declared.walk.walk.Walk.{Walk}
use Rattle.go_assign.specs.Outcome.{Does}
use Rattle.go_assign.specs.Leaving.{leaving}
use Rattle.go_define.specs.AroundView.{around_of, results_of}
use Rattle.go_define.specs.declared.simple.around.Around.{Around}
use Rattle.go_body.specs.Forms.{has_statements}
use Rattle.go_body.proofs.LeafLemmas.{nothing_does}
use Rattle.go_body.proofs.ViewLemmas as view

branch_same : (at : Place) (k : core.BranchKind) (loops : Bool) (n : Option Name) (gs : List go.Target) (a : go.Around) → a.targets ≡ gs → branch at k loops n (leaving gs) ≡ branch at k loops n a
branch_same at k loops None gs a h = ap (λ (x : List go.Target). branch at k loops None (leaving x)) (sym h)
branch_same at k loops (Some n) gs a h = ap (λ (x : List go.Target). branch at k loops (Some n) (leaving x)) (sym h)

module _ (s : Stmt) (x : StmtForm) (a : go.Around) (m n : Walk) (f0 f1 : List Flaw) (o0 o1 : List CoreStmt) (p : x ≡ s.form.value) where
  as_form : (r : t.Stmt) → stmt_view s ≡ r → Does (stmt r a) m n f0 f1 o0 o1 → Does (stmt (stmt_view s) a) m n f0 f1 o0 o1
  as_form r e h = subst (λ (v : t.Stmt). Does (stmt v a) m n f0 f1 o0 o1) (sym e) h

  pub expr_arm : (b : Vec Expr Global) (xs : List Expr) → x ≡ form.Expr b → xs ≡ b.items → Does (expression s.place (exprs_of (map expr_view xs))) m n f0 f1 o0 o1 → Does (stmt (stmt_view s) a) m n f0 f1 o0 o1
  expr_arm b xs e q h = as_form (t.ExprStmt s.place (exprs_of (map expr_view b.items))) (view.view_Expr s x b p e) (subst (λ (ys : List Expr). Does (expression s.place (exprs_of (map expr_view ys))) m n f0 f1 o0 o1) q h)

  pub step_arm : (b : Vec Expr Global) (up : Bool) (xs : List Expr) → x ≡ form.IncDec b up → xs ≡ b.items → Does (step s.place (exprs_of (map expr_view xs)) up) m n f0 f1 o0 o1 → Does (stmt (stmt_view s) a) m n f0 f1 o0 o1
  step_arm b up xs e q h = as_form (t.IncDecStmt s.place (exprs_of (map expr_view b.items)) up) (view.view_IncDec s x b up p e) (subst (λ (ys : List Expr). Does (step s.place (exprs_of (map expr_view ys)) up) m n f0 f1 o0 o1) q h)

  pub update_arm : (b d : Vec Expr Global) (o : Option Op) (op : Op) (xs ys : List Expr) → x ≡ form.Assign b o d → o ≡ Some op → xs ≡ b.items → ys ≡ d.items → Does (update s.place op (exprs_of (map expr_view xs)) (exprs_of (map expr_view ys))) m n f0 f1 o0 o1 → Does (stmt (stmt_view s) a) m n f0 f1 o0 o1
  update_arm b d o op xs ys e r q u h =
      as_form (t.AssignStmt s.place (exprs_of (map expr_view b.items)) (Some op) (exprs_of (map expr_view d.items))) (view.view_Assign s x b o d p e ∙ ap (λ (v : Option Op). t.AssignStmt s.place (exprs_of (map expr_view b.items)) v (exprs_of (map expr_view d.items))) r)
      (subst (λ (zs : List Expr). Does (update s.place op (exprs_of (map expr_view zs)) (exprs_of (map expr_view d.items))) m n f0 f1 o0 o1) q (subst (λ (zs : List Expr). Does (update s.place op (exprs_of (map expr_view xs)) (exprs_of (map expr_view zs))) m n f0 f1 o0 o1) u h))

  pub assign_arm : (b d : Vec Expr Global) (o : Option Op) (xs ys : List Expr) → x ≡ form.Assign b o d → o ≡ None → xs ≡ b.items → ys ≡ d.items → Does (assign s.place (exprs_of (map expr_view xs)) (exprs_of (map expr_view ys))) m n f0 f1 o0 o1 → Does (stmt (stmt_view s) a) m n f0 f1 o0 o1
  assign_arm b d o xs ys e r q u h =
      as_form (t.AssignStmt s.place (exprs_of (map expr_view b.items)) None (exprs_of (map expr_view d.items))) (view.view_Assign s x b o d p e ∙ ap (λ (v : Option Op). t.AssignStmt s.place (exprs_of (map expr_view b.items)) v (exprs_of (map expr_view d.items))) r)
      (subst (λ (zs : List Expr). Does (assign s.place (exprs_of (map expr_view zs)) (exprs_of (map expr_view d.items))) m n f0 f1 o0 o1) q (subst (λ (zs : List Expr). Does (assign s.place (exprs_of (map expr_view xs)) (exprs_of (map expr_view zs))) m n f0 f1 o0 o1) u h))

  pub define_arm : (b d : Vec Expr Global) (xs ys : List Expr) → x ≡ form.Define b d → xs ≡ b.items → ys ≡ d.items → Does (λ w. spared w (define s.place (exprs_of (map expr_view xs)) (exprs_of (map expr_view ys)) w)) m n f0 f1 o0 o1 → Does (stmt (stmt_view s) a) m n f0 f1 o0 o1
  define_arm b d xs ys e q u h =
      as_form (t.DefineStmt s.place (exprs_of (map expr_view b.items)) (exprs_of (map expr_view d.items))) (view.view_Define s x b d p e)
      (subst (λ (zs : List Expr). Does (λ w. spared w (define s.place (exprs_of (map expr_view zs)) (exprs_of (map expr_view d.items)) w)) m n f0 f1 o0 o1) q
      (subst (λ (zs : List Expr). Does (λ w. spared w (define s.place (exprs_of (map expr_view xs)) (exprs_of (map expr_view zs)) w)) m n f0 f1 o0 o1) u h))

  pub decl_arm : (d : Decl) → x ≡ form.Decl d → Does (λ w. standing (spared w (declare.decl (decl_view d) w))) m n f0 f1 o0 o1 → Does (stmt (stmt_view s) a) m n f0 f1 o0 o1
  decl_arm d e h = as_form (t.DeclStmt s.place (decl_view d)) (view.view_Decl s x d p e) h

  pub return_arm : (b : Vec Expr Global) (xs : List Expr) → x ≡ form.Return b → xs ≡ b.items → Does (returned_in s.place a.results a.named_results (exprs_of (map expr_view xs))) m n f0 f1 o0 o1 → Does (stmt (stmt_view s) a) m n f0 f1 o0 o1
  return_arm b xs e q h = as_form (t.ReturnStmt s.place (exprs_of (map expr_view b.items))) (view.view_Return s x b p e) (subst (λ (ys : List Expr). Does (returned_in s.place a.results a.named_results (exprs_of (map expr_view ys))) m n f0 f1 o0 o1) q h)

  pub break_arm : (l : Option Name) (gs : List go.Target) → x ≡ form.Break l → a.targets ≡ gs → Does (branch s.place core.break_ false l (leaving gs)) m n f0 f1 o0 o1 → Does (stmt (stmt_view s) a) m n f0 f1 o0 o1
  break_arm l gs e q h = as_form (t.BreakStmt s.place l) (view.view_Break s x l p e) (subst (λ (d : go.Walk → Did). Does d m n f0 f1 o0 o1) (branch_same s.place core.break_ false l gs a q) h)

  pub continue_arm : (l : Option Name) (gs : List go.Target) → x ≡ form.Continue l → a.targets ≡ gs → Does (branch s.place core.continue_ true l (leaving gs)) m n f0 f1 o0 o1 → Does (stmt (stmt_view s) a) m n f0 f1 o0 o1
  continue_arm l gs e q h = as_form (t.ContinueStmt s.place l) (view.view_Continue s x l p e) (subst (λ (d : go.Walk → Did). Does d m n f0 f1 o0 o1) (branch_same s.place core.continue_ true l gs a q) h)

  pub fall_arm : x ≡ form.Fallthrough → Does (faulty (flaw s.place 91 ∷ [])) m n f0 f1 o0 o1 → Does (stmt (stmt_view s) a) m n f0 f1 o0 o1
  fall_arm e h = as_form (t.FallthroughStmt s.place) (view.view_Fallthrough s x p e) h

  -- what is not built yet
  unbuilt : (r : t.Stmt) → stmt_view s ≡ r → (Does (not_built s.place r) m n f0 f1 o0 o1 → Does (stmt r a) m n f0 f1 o0 o1) → Does (not_built s.place (stmt_view s)) m n f0 f1 o0 o1 → Does (stmt (stmt_view s) a) m n f0 f1 o0 o1
  unbuilt r e k h = as_form r e (k (subst (λ (v : t.Stmt). Does (not_built s.place v) m n f0 f1 o0 o1) e h))

  pub send_arm : (b : Vec Expr Global) (y : Expr) → x ≡ form.Send b y → Does (not_built s.place (stmt_view s)) m n f0 f1 o0 o1 → Does (stmt (stmt_view s) a) m n f0 f1 o0 o1
  send_arm b y e h = unbuilt (t.SendStmt s.place (exprs_of (map expr_view b.items)) (expr_view y)) (view.view_Send s x b y p e) (λ k. k) h

  pub range_arm : (b : Vec Expr Global) (new : Bool) (y : Expr) (c : Block) → x ≡ form.Range b new y c → Does (not_built s.place (stmt_view s)) m n f0 f1 o0 o1 → Does (stmt (stmt_view s) a) m n f0 f1 o0 o1
  range_arm b new y c e h = unbuilt (t.RangeStmt s.place (exprs_of (map expr_view b.items)) new (expr_view y) (block_view c)) (view.view_Range s x b new y c p e) (λ k. k) h

  pub type_switch_arm : (init : Option Stmt) (l : Option Name) (y : Expr) (cs : Vec Clause Global) → x ≡ form.TypeSwitch init l y cs → Does (not_built s.place (stmt_view s)) m n f0 f1 o0 o1 → Does (stmt (stmt_view s) a) m n f0 f1 o0 o1
  type_switch_arm init l y cs e h = unbuilt (t.TypeSwitchStmt s.place (maybe_stmt (option_map stmt_view init)) l (expr_view y) (joined (map clause_view cs.items) t.NoClauses)) (view.view_TypeSwitch s x init l y cs p e) (λ k. k) h

  pub select_arm : (cs : Vec Comm Global) → x ≡ form.Select cs → Does (not_built s.place (stmt_view s)) m n f0 f1 o0 o1 → Does (stmt (stmt_view s) a) m n f0 f1 o0 o1
  select_arm cs e h = unbuilt (t.SelectStmt s.place (joined (map comm_view cs.items) t.NoComms)) (view.view_Select s x cs p e) (λ k. k) h

  pub go_arm : (y : Expr) → x ≡ form.Go y → Does (not_built s.place (stmt_view s)) m n f0 f1 o0 o1 → Does (stmt (stmt_view s) a) m n f0 f1 o0 o1
  go_arm y e h = unbuilt (t.GoStmt s.place (expr_view y)) (view.view_Go s x y p e) (λ k. k) h

  pub defer_arm : (y : Expr) → x ≡ form.Defer y → Does (not_built s.place (stmt_view s)) m n f0 f1 o0 o1 → Does (stmt (stmt_view s) a) m n f0 f1 o0 o1
  defer_arm y e h = unbuilt (t.DeferStmt s.place (expr_view y)) (view.view_Defer s x y p e) (λ k. k) h

pub empty_arm : (s : Stmt) (x : StmtForm) (a : go.Around) (m : Walk) (f : List Flaw) (o : List CoreStmt) → x ≡ s.form.value → x ≡ form.Empty → Does (stmt (stmt_view s) a) m m f f o o
empty_arm s x a m f o p e = subst (λ (v : t.Stmt). Does (stmt v a) m m f f o o) (sym (view.view_Empty s x p e)) (nothing_does m f o)

-- ---- a form that has statements isn't one of these

module _ (s : Stmt) (x : StmtForm) (p : x ≡ s.form.value) (h : has_statements (stmt_view s) ≡ false) where
  pub not_block : (b : Block) → x ≡ form.Block b → ⊥
  not_block b e = let k : true ≡ false = sym (ap has_statements (view.view_Block s x b p e)) ∙ h in absurd (cc)

  pub not_if : (init : Option Stmt) (y : Expr) (b : Block) (other : Option Stmt) → x ≡ form.If init y b other → ⊥
  not_if init y b other e = let k : true ≡ false = sym (ap has_statements (view.view_If s x init y b other p e)) ∙ h in absurd (cc)

  pub not_for : (init : Option Stmt) (y : Option Expr) (post : Option Stmt) (b : Block) → x ≡ form.For init y post b → ⊥
  not_for init y post b e = let k : true ≡ false = sym (ap has_statements (view.view_For s x init y post b p e)) ∙ h in absurd (cc)

  pub not_switch : (init : Option Stmt) (y : Option Expr) (cs : Vec Clause Global) → x ≡ form.Switch init y cs → ⊥
  not_switch init y cs e = let k : true ≡ false = sym (ap has_statements (view.view_Switch s x init y cs p e)) ∙ h in absurd (cc)

  pub not_labeled : (l : Name) (r : Stmt) → x ≡ form.Labeled l r → ⊥
  not_labeled l r e = let k : true ≡ false = sym (ap has_statements (view.view_Labeled s x l r p e)) ∙ h in absurd (cc)
