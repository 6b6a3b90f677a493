-- Statements of which nothing is told have cores that have a meaning.
use Rattle.std.proofs.Common.{◌≡◌, ◌&&◌, not, ℕ, suc, List, [], ◌∷◌, refl, sym, subst, ap, ◌∙◌, Bool, true, false, Option, Some, None, if◌then◌else◌}
use Rattle.gj_base.specs.declared.place.Place.{Place}
use Rattle.go_const.specs.declared.constant.Const.{Const}
use Rattle.go_const.specs.declared.constant.Const.TheVariants as form
use Rattle.go_syntax.specs.Tree as t
use Rattle.go_type.specs.Tree as ty
use Rattle.go_type.specs.Tree.{Ty, Tys}
use Rattle.go_type.specs.Named.{NamedTy}
use Rattle.go_core.specs.CoreTree as core
use Rattle.go_core.specs.CoreTree.{Var, CoreProgram}
use Rattle.go_core.specs.TypeOf.{var_type}
use Rattle.go_core.specs.SoundNode as node
use Rattle.go_core.specs.SoundNode.{with_break, with_loop}
use Rattle.go_core.specs.Sound.{Gives, SoundExpr, SoundStmts}
use Rattle.go_typing.specs.Answer.{Flaw, flaw}
use Rattle.go_typing.specs.Operand.{constant_at}
use Rattle.go_typing.specs.Typing.{place_of}
use Rattle.go_typing.specs.Uses.{names_in}
use Rattle.go_typing.specs.Walk.{Walk, Around, Did, and_then, within, pushed, body, fresh, with_lost, uses, uses_all}
use Rattle.go_typing.specs.Expressions.{value_alone, core_of, type_of, answer_in}
use Rattle.go_typing.specs.Assign.{define, count_of, same_number, several_right, first_right, assign_by, update_left, update, left_of, one_, step_op, step, left_use, left_uses, is_name, is_bare, fresh_use, fresh_uses, first_place, Left, left_blank, left_place, left_wrong, miscounted}
use Rattle.go_typing.specs.Declare.{decl}
use Rattle.go_typing.specs.Labels.{label_of}
use Rattle.go_typing.specs.Statements.{called_in, expression, if_did, with_target, unlabeled, for_did, post_did, condition_uses, next_label, Clauses, falls, is_last, is_default, switch_did, stmt, maybe, block, stmts, clause_stmts, clauses, parts_typed, limited, spared, at_least_one, standing}
use Rattle.go_typing.specs.Answer.{Part}
use Rattle.gj_base.specs.declared.kind.Op.{Op}
use Rattle.go_sound.specs.Added.{TypeIsSet}
use Rattle.go_sound.specs.GoesOn.{GoesOn}
use Rattle.go_sound.specs.SoundTyped.{HasOperators, AllHaveOperators, BoundHasOperators, IsScalarType}
use Rattle.go_sound.specs.SoundValues.{IsReady, IsAnyValue}
use Rattle.go_sound.proofs.SoundBodies.{no_first, no_second}
use Rattle.go_sound.proofs.GoesOnSteps.{stays, then_on, scopes_left, within_on, uses_all_on, fresh_on}
use Rattle.go_sound.proofs.GoesOnBodies.{performed_walk, condition_uses_on, next_label_on, if_on, for_on, post_on, switch_on, stmt_on, maybe_on, block_on, stmts_on, clause_on, clauses_on, blocks_leave_scopes}
use Rattle.go_sound.specs.Grammar.{IsSimple, StmtOfGrammar, MaybeOfGrammar, BlockOfGrammar, StmtsOfGrammar, ClausesOfGrammar}
use Rattle.go_sound.specs.SoundStatements.{Holds, StatementsAreSound}
use Rattle.go_sound.proofs.Words.{at_vars, after_vars, Extends, one_of_three, two_of_three}
use Rattle.go_sound.proofs.Ready.{Adds, State, Like, ready_like, adds_like, adds_then, like_uses_all, type_still, state_like, ready_around, holds_part, names_of, state_on, state_later, state_pushed, holds_inside, Done, Says, says, done_none, done_then, done_within}
use Rattle.go_sound.proofs.Here.{any_there}
use Rattle.go_sound.proofs.Stores.{assign_done, update_done, step_done}
use Rattle.go_sound.proofs.Defines.{alone_value, define_done, none_undeclared}
use Rattle.go_sound.proofs.ConstDecls.{decl_done}
use Rattle.go_sound.proofs.Calls.{expression_done, returned_done, break_done, continue_done}
use Rattle.go_sound.proofs.Control.{relabeled, DoneBy, OnBy, if_says, for_says, ClausesSay, clauses_none, one_clause_says, switch_at, switch_says}

-- ---- simple statements leave all scopes as they were

walk_if : (c : Bool) (d e : Did) (u : Walk) → d.walk ≡ u → e.walk ≡ u → (if c then d else e).walk ≡ u
walk_if true d e u h k = h
walk_if false d e u h k = k

if_scopes : (c : Bool) (v u w : Walk) → v.scopes ≡ w.scopes → u.scopes ≡ w.scopes → (if c then v else u).scopes ≡ w.scopes
if_scopes true v u w h k = h
if_scopes false v u w h k = k

side_scopes : (e : t.Expr) (w : Walk) → (left_use e w).scopes ≡ w.scopes
side_scopes e w = if_scopes (is_name e) (with_lost (names_in e) w) (uses e w) w refl refl

left_scopes : (xs : t.Exprs) (w : Walk) → (left_uses xs w).scopes ≡ w.scopes
left_scopes t.NoExprs w = refl
left_scopes (t.MoreExprs e es) w = left_scopes es (left_use e w) ∙ side_scopes e w

fresh_scopes : (xs : t.Exprs) (w : Walk) → (fresh_uses xs w).scopes ≡ w.scopes
fresh_scopes t.NoExprs w = refl
fresh_scopes (t.MoreExprs e es) w = fresh_scopes es (fresh_use e w) ∙ if_scopes (is_bare e) w (left_use e w) w refl (side_scopes e w)

assign_walk : (at : Place) (w : Walk) (xs ys : t.Exprs) (o : Option Tys) (u : Walk) → (assign_by at w xs ys o u).walk ≡ u
assign_walk at w xs ys None u = walk_if (count_of xs ys) _ (miscounted at w xs ys u) u refl refl
assign_walk at w xs ys (Some us) u = walk_if (same_number xs us) _ (miscounted at w xs (t.MoreExprs (first_right ys (t.NameExpr at [])) t.NoExprs) u) u refl refl

update_walk : (w : Walk) (at : Place) (op : Op) (x : t.Expr) (y : Part) (fs : List Flaw) (l : Left) (u : Walk) → (update_left w at op x y fs l u).walk ≡ u
update_walk w at op x y fs left_blank u = refl
update_walk w at op x y fs (left_wrong gs) u = refl
update_walk w at op x y fs (left_place q v) u = refl

update_scopes : (at : Place) (op : Op) (xs ys : t.Exprs) (w : Walk) → (update at op xs ys w).walk.scopes ≡ w.scopes
update_scopes at op (t.MoreExprs x t.NoExprs) (t.MoreExprs y t.NoExprs) w = ap (λ (v : Walk). v.scopes) (update_walk w at op x _ _ (left_of w x) (uses x (uses y w)))
update_scopes at op t.NoExprs ys w = refl
update_scopes at op (t.MoreExprs x (t.MoreExprs z zs)) ys w = refl
update_scopes at op (t.MoreExprs x t.NoExprs) t.NoExprs w = refl
update_scopes at op (t.MoreExprs x t.NoExprs) (t.MoreExprs y (t.MoreExprs z zs)) w = refl

step_scopes : (at : Place) (xs : t.Exprs) (up : Bool) (w : Walk) → (step at xs up w).walk.scopes ≡ w.scopes
step_scopes at (t.MoreExprs x t.NoExprs) up w = ap (λ (v : Walk). v.scopes) (update_walk w at (step_op up) x (one_ at) [] (left_of w x) (uses x w))
step_scopes at t.NoExprs up w = refl
step_scopes at (t.MoreExprs x (t.MoreExprs y ys)) up w = refl

expression_scopes : (at : Place) (xs : t.Exprs) (w : Walk) → (expression at xs w).walk.scopes ≡ w.scopes
expression_scopes at (t.MoreExprs e t.NoExprs) w = ap (λ (v : Walk). v.scopes) (performed_walk (place_of e) (called_in w e) (answer_in w e) (uses e w))
expression_scopes at t.NoExprs w = refl
expression_scopes at (t.MoreExprs e (t.MoreExprs f fs)) w = refl

post_scopes : (s : t.MaybeStmt) (a : Around) (w : Walk) → IsSimple s → (post_did s (maybe s a) w).walk.scopes ≡ w.scopes
post_scopes t.NoStmt a w i = refl
post_scopes (t.AStmt (t.EmptyStmt at)) a w i = refl
post_scopes (t.AStmt (t.ExprStmt at xs)) a w i = expression_scopes at xs w
post_scopes (t.AStmt (t.SendStmt at xs y)) a w i = refl
post_scopes (t.AStmt (t.IncDecStmt at xs up)) a w i = step_scopes at xs up w
post_scopes (t.AStmt (t.AssignStmt at xs None ys)) a w i = ap (λ (v : Walk). v.scopes) (assign_walk at w xs ys (several_right w ys) (uses_all ys (left_uses xs w))) ∙ left_scopes xs w
post_scopes (t.AStmt (t.AssignStmt at xs (Some op) ys)) a w i = update_scopes at op xs ys w
post_scopes (t.AStmt (t.DefineStmt at xs ys)) a w i = fresh_scopes xs w
post_scopes (t.AStmt (t.DeclStmt at d)) a w i = absurd i
post_scopes (t.AStmt (t.BlockStmt at b)) a w i = absurd i
post_scopes (t.AStmt (t.IfStmt at init x b other)) a w i = absurd i
post_scopes (t.AStmt (t.ForStmt at init x post b)) a w i = absurd i
post_scopes (t.AStmt (t.RangeStmt at xs is_new y b)) a w i = absurd i
post_scopes (t.AStmt (t.SwitchStmt at init x cs)) a w i = absurd i
post_scopes (t.AStmt (t.TypeSwitchStmt at init n x cs)) a w i = absurd i
post_scopes (t.AStmt (t.SelectStmt at cs)) a w i = absurd i
post_scopes (t.AStmt (t.GoStmt at x)) a w i = absurd i
post_scopes (t.AStmt (t.DeferStmt at x)) a w i = absurd i
post_scopes (t.AStmt (t.ReturnStmt at ys)) a w i = absurd i
post_scopes (t.AStmt (t.BreakStmt at n)) a w i = absurd i
post_scopes (t.AStmt (t.ContinueStmt at n)) a w i = absurd i
post_scopes (t.AStmt (t.FallthroughStmt at)) a w i = absurd i
post_scopes (t.AStmt (t.LabeledStmt at n s)) a w i = absurd i

-- a short declaration is told where a turn ends
post_done : (p : CoreProgram) (a : node.Around) (b : Around) (s : t.MaybeStmt) (post : Walk → Did) → DoneBy p a b post → DoneBy p a b (post_did s post)
post_done p a b (t.AStmt (t.DefineStmt at xs ys)) post d vs w st k h = absurd (none_undeclared p a vs b w st at xs ys h)
post_done p a b _ post d vs w st k h = d vs w st k h

-- what is known goes on from the initial statement
rest_on : (x : t.MaybeExpr) (init : Walk → Did) (inner : ℕ → Option Ty → ℕ → Walk → Clauses) (w : Walk) → ((i : ℕ) (u : Option Ty) (j : ℕ) (v : Walk) → GoesOn v (inner i u j v).walk) → GoesOn (init w).walk (switch_did x init inner w).walk
rest_on x init inner w k =
    then_on (init w).walk (condition_uses x (init w).walk) _ (condition_uses_on x (init w).walk)
    (then_on (condition_uses x (init w).walk) (fresh _ (condition_uses x (init w).walk)) _ (fresh_on _ (condition_uses x (init w).walk))
    (then_on (fresh _ (condition_uses x (init w).walk)) (next_label (fresh _ (condition_uses x (init w).walk))) _ (next_label_on _) (k _ _ _ _)))

-- a tag of a type is as the switch has it
tag_there : (e : t.Expr) (init : Walk → Did) (cs : ℕ → Option Ty → ℕ → Walk → Clauses) (w : Walk) (u : Ty) → type_of (value_alone (init w).walk e).answer ≡ Some u
    → switch_did (t.AnExpr e) init cs w ≡ switch_at u (core_of (value_alone (init w).walk e).answer) (value_alone (init w).walk e).flaws (t.AnExpr e) init cs w
tag_there e init cs w u h = rw h refl

module _ (p : CoreProgram) where
  then_done : (a : node.Around) (b : Around) (f g : Walk → Did) → OnBy f → OnBy g → DoneBy p a (unlabeled b) f → DoneBy p a b g → DoneBy p a b (λ w. and_then (f w) g)
  then_done a b f g fo go fd gd vs w s k h =
      done_then p a vs w (f w) (g (f w).walk) (fo w) first
      (gd (after_vars (f w).core vs) (f w).walk (state_on p a vs b w (f w) s (fo w) first) (holds_part p a.declarable w (f w).walk (g (f w).walk).walk (g (f w).walk).walk (fo w) (stays (g (f w).walk).walk) k) (no_second (f w).flaws _ h))
    where
      first : Done p a vs w (f w)
      first = fd vs w (relabeled p a vs b None w s) (holds_part p a.declarable w w (f w).walk (g (f w).walk).walk (stays w) (go (f w).walk) k) (no_first (f w).flaws _ h)

  if_done : (at : Place) (init : t.MaybeStmt) (x : t.Expr) (bl : t.Block) (other : t.MaybeStmt) (a : node.Around) (b : Around) → DoneBy p a (unlabeled b) (maybe init (unlabeled b)) → HasOperators x → DoneBy p a (unlabeled b) (block bl (unlabeled b))
      → DoneBy p a (unlabeled b) (maybe other (unlabeled b)) → DoneBy p a b (stmt (t.IfStmt at init x bl other) b)
  if_done at init x bl other a b di o db de vs w s k h =
      done_within p a vs (unlabeled b) w f st on (names_of p a.declarable w (within f w).walk k)
      (if_says p a (unlabeled b) x (maybe init (unlabeled b)) (block bl (unlabeled b)) (maybe other (unlabeled b)) o di db de (λ v. maybe_on init (unlabeled b) v) (λ v. block_on bl (unlabeled b) v) (λ v. maybe_on other (unlabeled b) v)
      (λ v. blocks_leave_scopes bl (unlabeled b) v) vs (pushed w) (state_pushed p a vs (unlabeled b) w st) (holds_inside p a.declarable w (f (pushed w)).walk k) h)
    where
      f : Walk → Did
      f = if_did x (maybe init (unlabeled b)) (block bl (unlabeled b)) (maybe other (unlabeled b))

      st : State p a vs (unlabeled b) w
      st = relabeled p a vs b None w s

      on : GoesOn (pushed w) (f (pushed w)).walk
      on = if_on x (maybe init (unlabeled b)) (block bl (unlabeled b)) (maybe other (unlabeled b)) (pushed w) (λ v. maybe_on init (unlabeled b) v) (λ v. block_on bl (unlabeled b) v) (λ v. maybe_on other (unlabeled b) v)

  for_done : (at : Place) (init : t.MaybeStmt) (x : t.MaybeExpr) (post : t.MaybeStmt) (bl : t.Block) (a : node.Around) (b : Around) → DoneBy p a (unlabeled b) (maybe init (unlabeled b)) → BoundHasOperators x → IsSimple post
      → DoneBy p a (unlabeled b) (maybe post (unlabeled b)) → ((label : ℕ) → DoneBy p (with_loop label a) (with_target label true b) (block bl (with_target label true b))) → DoneBy p a b (stmt (t.ForStmt at init x post bl) b)
  for_done at init x post bl a b di o i dp db vs w s k h =
      done_within p a vs b w f s on (names_of p a.declarable w (within f w).walk k)
      (for_says p a b x (maybe init (unlabeled b)) (post_did post (maybe post (unlabeled b))) (λ label. block bl (with_target label true b)) o di (post_done p a (unlabeled b) post (maybe post (unlabeled b)) dp) db (λ v. maybe_on init (unlabeled b) v)
      (λ v. post_on post (maybe post (unlabeled b)) v (λ u. maybe_on post (unlabeled b) u)) (λ label v. block_on bl (with_target label true b) v) (λ v. post_scopes post (unlabeled b) v i) vs (pushed w) (state_pushed p a vs b w s)
      (holds_inside p a.declarable w (f (pushed w)).walk k) h)
    where
      f : Walk → Did
      f = for_did x (maybe init (unlabeled b)) (post_did post (maybe post (unlabeled b))) (λ label. block bl (with_target label true b))

      on : GoesOn (pushed w) (f (pushed w)).walk
      on =
          for_on x (maybe init (unlabeled b)) (post_did post (maybe post (unlabeled b))) (λ label. block bl (with_target label true b)) (pushed w) (λ v. maybe_on init (unlabeled b) v)
          (λ v. post_on post (maybe post (unlabeled b)) v (λ u. maybe_on post (unlabeled b) u)) (λ label v. block_on bl (with_target label true b) v)

  -- ---- `switch`

  abbrev ClausesBy : node.Around → Around → (ℕ → Option Ty → ℕ → Walk → Clauses) → Type 0
  ClausesBy a b cs =
      (label tag : ℕ) (u : Ty) (vs : List Var) (v : Walk) → State p (with_break label a) vs (with_target label false b) v → var_type tag vs ≡ Some u → IsScalarType p u → TypeIsSet v.names u → Holds p a.declarable v (cs tag (Some u) label v).walk
      → (cs tag (Some u) label v).flaws ≡ [] → ClausesSay p a label vs 0 v (cs tag (Some u) label v)

  switch_inside : (a : node.Around) (b : Around) (x : t.MaybeExpr) (init : Walk → Did) (cs : ℕ → Option Ty → ℕ → Walk → Clauses) → BoundHasOperators x → DoneBy p a (unlabeled b) init → OnBy init → ((i : ℕ) (o : Option Ty) (j : ℕ) (v : Walk) → GoesOn v (cs i o j v).walk) → ClausesBy a b cs
      → (vs : List Var) (w : Walk) → State p a vs b w → Holds p a.declarable w (switch_did x init cs w).walk → (switch_did x init cs w).flaws ≡ [] → Says p a vs w (switch_did x init cs w)
  switch_inside a b t.NoExpr init cs o di gi gc say vs w s k h =
      switch_says p a b ty.bool (constant_at ty.bool (form.Bool true)) [] t.NoExpr init cs di gi gc (λ label tag us v st l m. say label tag ty.bool us v st l refl m) vs w s refl tt (λ us r. (tt, refl)) k h
  switch_inside a b (t.AnExpr e) init cs o di gi gc say vs w s k h =
      subst (λ (q : Did). Says p a vs w q) (sym same)
      (switch_says p a b v.type_ (core_of (value_alone (init w).walk e).answer) (value_alone (init w).walk e).flaws (t.AnExpr e) init cs di gi gc (λ label tag us z st l m. say label tag v.type_ us z st l v.scalar m) vs w s v.scalar v.set
      (λ us r. value us r) (subst (λ (q : Did). Holds p a.declarable w q.walk) same k) (subst (λ (q : Did). q.flaws ≡ []) same h))
    where
      first : Done p a vs w (init w)
      first = di vs w (relabeled p a vs b None w s) (holds_part p a.declarable w w (init w).walk (switch_did (t.AnExpr e) init cs w).walk (stays w) (rest_on (t.AnExpr e) init cs w gc) k) (one_of_three (init w).flaws (value_alone (init w).walk e).flaws _ h)

      told : (value_alone (init w).walk e).flaws ≡ []
      told = two_of_three (init w).flaws (value_alone (init w).walk e).flaws _ h

      v : IsAnyValue p (at_vars a (after_vars (init w).core vs)) (init w).walk e
      v = any_there p (at_vars a (after_vars (init w).core vs)) (init w).walk first.ready e o told

      value : (us : List Var) → IsReady p (at_vars a us) (init w).walk → SoundExpr p (at_vars a us) (core_of (value_alone (init w).walk e).answer) × Gives p (core_of (value_alone (init w).walk e).answer) v.type_
      value us r = alone_value p a (init w).walk e v.type_ o v.has_type told us r

      same : switch_did (t.AnExpr e) init cs w ≡ switch_at v.type_ (core_of (value_alone (init w).walk e).answer) (value_alone (init w).walk e).flaws (t.AnExpr e) init cs w
      same = tag_there e init cs w v.type_ v.has_type

  limited_done : (a : node.Around) (vs : List Var) (w : Walk) (at : Place) (cs : t.Clauses) (is_typed : Walk → Bool) (d : Did) → Done p a vs w d → Done p a vs w (limited at cs is_typed d)
  limited_done a vs w at cs is_typed d h = record { is_sound = h.is_sound; extends = h.extends; ready = h.ready; before = h.before; adds = h.adds }

  switch_done : (at : Place) (init : t.MaybeStmt) (x : t.MaybeExpr) (cs : t.Clauses) (a : node.Around) (b : Around) → DoneBy p a (unlabeled b) (maybe init (unlabeled b)) → BoundHasOperators x
      → ClausesBy a b (λ tag u label. clauses cs (with_target label false b) tag u 0 [] false) → DoneBy p a b (stmt (t.SwitchStmt at init x cs) b)
  switch_done at init x cs a b di o say vs w s k h =
      limited_done a vs w at cs (parts_typed b (t.SwitchStmt at init x cs) w) (within f w)
      (done_within p a vs b w f s on (names_of p a.declarable w (within f w).walk k)
      (switch_inside a b x (maybe init (unlabeled b)) (λ tag u label. clauses cs (with_target label false b) tag u 0 [] false) o di (λ v. maybe_on init (unlabeled b) v) (λ tag u label v. clauses_on cs (with_target label false b) tag u 0 [] false v) say vs (pushed w)
      (state_pushed p a vs b w s) (holds_inside p a.declarable w (f (pushed w)).walk k) (no_first (within f w).flaws _ h)))
    where
      f : Walk → Did
      f = switch_did x (maybe init (unlabeled b)) (λ tag u label. clauses cs (with_target label false b) tag u 0 [] false)

      on : GoesOn (pushed w) (f (pushed w)).walk
      on = switch_on x (maybe init (unlabeled b)) (λ tag u label. clauses cs (with_target label false b) tag u 0 [] false) (pushed w) (λ v. maybe_on init (unlabeled b) v) (λ tag u label v. clauses_on cs (with_target label false b) tag u 0 [] false v)

  clause_says : (at : Place) (xs : t.Exprs) (ss : t.Stmts) (cs : t.Clauses) → AllHaveOperators xs → (a : node.Around) (label : ℕ) (vs : List Var) (b : Around) (tag : ℕ) (u : Ty) (number : ℕ) (seen : List Const) (had : Bool) (w : Walk)
      → State p (with_break label a) vs b w → var_type tag vs ≡ Some u → IsScalarType p u → TypeIsSet w.names u → DoneBy p (with_break label a) b (clause_stmts (falls ss && not (is_last cs)) ss b)
      → ((ks : List Const) (d : Bool) (v : Walk) → State p (with_break label a) vs b v → TypeIsSet v.names u → Holds p a.declarable v (clauses cs b tag (Some u) (suc number) ks d v).walk → (clauses cs b tag (Some u) (suc number) ks d v).flaws ≡ []
      → ClausesSay p a label vs (suc number) v (clauses cs b tag (Some u) (suc number) ks d v))
      → Holds p a.declarable w (clauses (t.MoreClauses at xs ss cs) b tag (Some u) number seen had w).walk → (clauses (t.MoreClauses at xs ss cs) b tag (Some u) number seen had w).flaws ≡ []
      → ClausesSay p a label vs number w (clauses (t.MoreClauses at xs ss cs) b tag (Some u) number seen had w)
  clause_says at xs ss cs o a label vs b tag u number seen had w s l i m dc rest k h =
      one_clause_says p a label vs number tag u at xs seen (is_default xs) had (falls ss && not (is_last cs)) w v (within f) (clauses cs b tag (Some u) (suc number)) (ready_around p (with_break label a) a vs w s.ready) l i m o h said
      (λ g. rest _ _ z next (subst (λ (ns : List NamedTy). TypeIsSet ns u) (sym zon.types_added) (type_still w.names zon.types u m)) (holds_part p a.declarable w z y y (then_on w v z (uses_all_on xs w) zon) (stays y) k) g) (like_uses_all xs w s.ready.all_typed)
    where
      v : Walk
      v = uses_all xs w

      f : Walk → Did
      f = clause_stmts (falls ss && not (is_last cs)) ss b

      z : Walk
      z = (within f v).walk

      y : Walk
      y = (clauses (t.MoreClauses at xs ss cs) b tag (Some u) number seen had w).walk

      fon : GoesOn (pushed v) (f (pushed v)).walk
      fon = clause_on (falls ss && not (is_last cs)) ss b (pushed v)

      zon : GoesOn v z
      zon = within_on f v fon

      sv : State p (with_break label a) vs b v
      sv = state_like p (with_break label a) vs b w v (like_uses_all xs w s.ready.all_typed) s

      held : Holds p a.declarable v z
      held = holds_part p a.declarable w v z y (uses_all_on xs w) (clauses_on cs b tag (Some u) (suc number) _ _ z) k

      said : (within f v).flaws ≡ [] → SoundStmts p (at_vars (with_break label a) vs) (body (within f v).core) × Adds p v z
      said g =
          let d = done_within p (with_break label a) vs b v f sv fon (names_of p a.declarable v z held) (says p (with_break label a) vs (pushed v) (f (pushed v)) (dc vs (pushed v) (state_pushed p (with_break label a) vs b v sv) (holds_inside p a.declarable v (f (pushed v)).walk held) g)) in
          (d.is_sound, d.adds)

      next : State p (with_break label a) vs b z
      next = state_later p (with_break label a) vs b v z sv zon (scopes_left f v fon) (names_of p a.declarable v z held)

  -- names that count as used change nothing else
  spared_done : (a : node.Around) (vs : List Var) (w : Walk) (d : Did) → Done p a vs w d → Done p a vs w (spared w d)
  spared_done a vs w d h = record {
    is_sound = h.is_sound;
    extends = h.extends;
    ready = ready_like p (at_vars a (after_vars d.core vs)) d.walk (spared w d).walk like h.ready;
    before = h.before;
    adds = adds_then p w d.walk (spared w d).walk h.adds (adds_like p d.walk (spared w d).walk like);
  } where
    like : Like d.walk (spared w d).walk
    like = record { names = refl; scopes = refl; next = refl; labels = refl; vars = refl; lost = refl }

  before_spared : (a : node.Around) (w : Walk) (d : Did) → Holds p a.declarable w (spared w d).walk → Holds p a.declarable w d.walk
  before_spared a w d k = record { variables = k.variables; further = k.further; names_kept = k.names_kept }

  -- what does nothing has a meaning, and declares nothing
  stands_sound : (a : node.Around) (vs : List Var) (ss : List core.Stmt) → SoundStmts p (at_vars a vs) (body ss) → SoundStmts p (at_vars a vs) (body (at_least_one ss))
  stands_sound a vs [] h = (tt, tt)
  stands_sound a vs (s ∷ ss) h = h

  stands_vars : (vs : List Var) (ss : List core.Stmt) → after_vars (at_least_one ss) vs ≡ after_vars ss vs
  stands_vars vs [] = refl
  stands_vars vs (s ∷ ss) = refl

  standing_done : (a : node.Around) (vs : List Var) (w : Walk) (d : Did) → Done p a vs w d → Done p a vs w (standing d)
  standing_done a vs w d h = record {
    is_sound = stands_sound a vs d.core h.is_sound;
    extends = subst (λ (us : List Var). Extends w.next vs us) (sym (stands_vars vs d.core)) h.extends;
    ready = subst (λ (us : List Var). IsReady p (at_vars a us) d.walk) (sym (stands_vars vs d.core)) h.ready;
    before = h.before;
    adds = h.adds;
  }

  before_standing : (a : node.Around) (w : Walk) (d : Did) → Holds p a.declarable w (standing d).walk → Holds p a.declarable w d.walk
  before_standing a w d k = record { variables = k.variables; further = k.further; names_kept = k.names_kept }

  -- ---- the whole

  mutual
    pub stmt_done : (s : t.Stmt) → StmtOfGrammar s → (a : node.Around) (b : Around) → DoneBy p a b (stmt s b)
    stmt_done (t.EmptyStmt at) o a b vs w s k h = done_none p a vs b w s
    stmt_done (t.ExprStmt at xs) o a b vs w s k h = expression_done p a vs b w s at xs o h
    stmt_done (t.SendStmt at xs y) o a b vs w s k h = cc
    stmt_done (t.IncDecStmt at xs up) o a b vs w s k h = step_done p a vs b w s at xs up o h
    stmt_done (t.AssignStmt at xs None ys) o a b vs w s k h = assign_done p a vs b w s at xs ys o.2 h
    stmt_done (t.AssignStmt at xs (Some op) ys) o a b vs w s k h = update_done p a vs b w s at op xs ys o.0 o.1 o.2 h
    stmt_done (t.DefineStmt at xs ys) o a b vs w s k h = spared_done a vs w (define at xs ys w) (define_done p a vs b w s at xs ys o.1 (before_spared a w (define at xs ys w) k) h)
    stmt_done (t.DeclStmt at d) o a b vs w s k h =
        standing_done a vs w (spared w (decl d w)) (spared_done a vs w (decl d w) (decl_done p a d o vs b w s (before_spared a w (decl d w) (before_standing a w (spared w (decl d w)) k)) h))
    stmt_done (t.BlockStmt at x) o a b vs w s k h =
        standing_done a vs w (block x (unlabeled b) w) (block_done x o a (unlabeled b) vs w (relabeled p a vs b None w s) (before_standing a w (block x (unlabeled b) w) k) h)
    stmt_done (t.IfStmt at init x bl other) o a b vs w s k h =
        if_done at init x bl other a b (λ us v. maybe_done init o.0 a (unlabeled b) us v) o.1 (λ us v. block_done bl o.2 a (unlabeled b) us v) (λ us v. maybe_done other o.3 a (unlabeled b) us v) vs w s k h
    stmt_done (t.ForStmt at init x post bl) o a b vs w s k h =
        for_done at init x post bl a b (λ us v. maybe_done init o.0 a (unlabeled b) us v) o.1 o.2 (λ us v. maybe_done post o.3 a (unlabeled b) us v) (λ label us v. block_done bl o.4 (with_loop label a) (with_target label true b) us v) vs w s k h
    stmt_done (t.RangeStmt at xs is_new y bl) o a b vs w s k h = cc
    stmt_done (t.SwitchStmt at init x cs) o a b vs w s k h =
        switch_done at init x cs a b (λ us v. maybe_done init o.0 a (unlabeled b) us v) o.1 (λ label tag u us v st l i m. clauses_say cs o.2 a label us (with_target label false b) tag u 0 [] false v st l i m) vs w s k h
    stmt_done (t.TypeSwitchStmt at init n x cs) o a b vs w s k h = cc
    stmt_done (t.SelectStmt at cs) o a b vs w s k h = cc
    stmt_done (t.GoStmt at x) o a b vs w s k h = cc
    stmt_done (t.DeferStmt at x) o a b vs w s k h = cc
    stmt_done (t.ReturnStmt at ys) o a b vs w s k h = returned_done p a vs b w s at ys o h
    stmt_done (t.BreakStmt at n) o a b vs w s k h = break_done p a vs b w s at n h
    stmt_done (t.ContinueStmt at n) o a b vs w s k h = continue_done p a vs b w s at n h
    stmt_done (t.FallthroughStmt at) o a b vs w s k h = cc
    stmt_done (t.LabeledStmt at n x) o a b vs w s k h = stmt_done x o a (record b { label = label_of n }) vs w (relabeled p a vs b (label_of n) w s) k h

    maybe_done : (s : t.MaybeStmt) → MaybeOfGrammar s → (a : node.Around) (b : Around) → DoneBy p a b (maybe s b)
    maybe_done t.NoStmt o a b vs w s k h = done_none p a vs b w s
    maybe_done (t.AStmt x) o a b vs w s k h = stmt_done x o a b vs w s k h

    block_done : (x : t.Block) → BlockOfGrammar x → (a : node.Around) (b : Around) → DoneBy p a b (block x b)
    block_done (t.BlockOf at ss end) o a b vs w s k h =
        done_within p a vs b w (stmts ss b) s (stmts_on ss b (pushed w)) (names_of p a.declarable w (block (t.BlockOf at ss end) b w).walk k)
        (says p a vs (pushed w) (stmts ss b (pushed w)) (stmts_done ss o a b vs (pushed w) (state_pushed p a vs b w s) (holds_inside p a.declarable w (stmts ss b (pushed w)).walk k) h))

    pub stmts_done : (ss : t.Stmts) → StmtsOfGrammar ss → (a : node.Around) (b : Around) → DoneBy p a b (stmts ss b)
    stmts_done t.NoStmts o a b vs w s k h = done_none p a vs b w s
    stmts_done (t.MoreStmts x ss) o a b vs w s k h = then_done a b (stmt x (unlabeled b)) (stmts ss b) (stmt_on x (unlabeled b)) (stmts_on ss b) (λ us v. stmt_done x o.0 a (unlabeled b) us v) (λ us v. stmts_done ss o.1 a b us v) vs w s k h

    clause_done : (onward : Bool) (ss : t.Stmts) → StmtsOfGrammar ss → (a : node.Around) (b : Around) → DoneBy p a b (clause_stmts onward ss b)
    clause_done true (t.MoreStmts (t.FallthroughStmt at) t.NoStmts) o a b vs w s k h = done_none p a vs b w s
    clause_done onward t.NoStmts o a b vs w s k h = done_none p a vs b w s
    clause_done onward (t.MoreStmts x ss) o a b vs w s k h =
        then_done a b (stmt x (unlabeled b)) (clause_stmts onward ss b) (stmt_on x (unlabeled b)) (clause_on onward ss b) (λ us v. stmt_done x o.0 a (unlabeled b) us v) (λ us v. clause_done onward ss o.1 a b us v) vs w s k h

    clauses_say : (cs : t.Clauses) → ClausesOfGrammar cs → (a : node.Around) (label : ℕ) (vs : List Var) (b : Around) (tag : ℕ) (u : Ty) (number : ℕ) (seen : List Const) (had : Bool) (w : Walk) → State p (with_break label a) vs b w → var_type tag vs ≡ Some u
        → IsScalarType p u → TypeIsSet w.names u → Holds p a.declarable w (clauses cs b tag (Some u) number seen had w).walk → (clauses cs b tag (Some u) number seen had w).flaws ≡ [] → ClausesSay p a label vs number w (clauses cs b tag (Some u) number seen had w)
    clauses_say t.NoClauses o a label vs b tag u number seen had w s l i m k h = clauses_none p a label vs number w
    clauses_say (t.MoreClauses at xs ss cs) o a label vs b tag u number seen had w s l i m k h =
        clause_says at xs ss cs o.0 a label vs b tag u number seen had w s l i m (λ us v. clause_done (falls ss && not (is_last cs)) ss o.1 (with_break label a) b us v) (λ ks d v st n q r. clauses_say cs o.2 a label vs b tag u (suc number) ks d v st l i n q r) k h

pub statements_are_sound : StatementsAreSound
statements_are_sound p a b w r v c s o k h = let d = stmt_done p s o a b a.vars w (record { ready = r; before = v; around = c }) k h in d.is_sound
