-- What a statement changes of what is known, and the numbers of a program's variables.
use Rattle.std.proofs.Common.{◌≡◌, ◌<◌, ◌+◌, ◌==◌, ◌||◌, ◌&&◌, not, ℕ, zero, suc, length, get_or, List, [], ◌∷◌, ◌++◌, append_assoc, append-nil, flat_map, refl, sym, subst, ap, ◌∙◌, arith, AllPairs, Bool, true, false, Option, Some, None, if◌then◌else◌}
use Rattle.gj_base.specs.declared.place.Place.{Place}
use Rattle.go_const.specs.declared.constant.Const.{Const}
use Rattle.go_syntax.specs.Tree as t
use Rattle.go_syntax.specs.declared.tree.Name.{Name}
use Rattle.go_type.specs.Tree.{Ty, Tys, no_tys, more_tys}
use Rattle.go_type.specs.Named.{NamedTy}
use Rattle.go_core.specs.SameType.{same_types}
use Rattle.go_core.specs.CoreTree as core
use Rattle.go_core.specs.CoreTree.{Var, CoreFunc}
use Rattle.go_core.specs.SoundProgram.{func_vars, all_vars, DifferInId}
use Rattle.go_typing.specs.Env.{unknown}
use Rattle.go_typing.specs.Answer.{Answer, value, does, wrong, untyped_part}
use Rattle.go_typing.specs.Typing.{Callee, a_function, a_built_in, by_value, place_of}
use Rattle.go_typing.specs.Walk.{Walk, Around, Did, pushed, within, with_name, is_there, fresh, uses, uses_all}
use Rattle.go_typing.specs.Expressions.{answer_in}
use Rattle.go_typing.specs.Assign.{first_right, several_right, same_number, define, fresh_uses}
use Rattle.go_typing.specs.Declare.{SpecType, lost_type, spec_type, type_uses, declare_one, var_each, zero_type, var_zero, spec_or, var_types, names_count, names_number, var_call, var_by, var_values, var_spec, var_specs, counting, constant_value, declare_constant, const_each, const_unknown, const_spec, const_specs, is_bare, new_named, declare_type, type_spec, type_specs, decl}
use Rattle.go_typing.specs.Labels.{label_of}
use Rattle.go_typing.specs.Statements.{performed, called_in, expression, if_did, condition_uses, for_did, next_label, unlabeled, with_target, post_did, Clauses, one_clause, switch_did, is_empty, returned_call, returned_by, returned_to, returned_in, branch_did, branch, innermost, target_named, falls, is_last, is_default, case_tests, Tests, count_types, stmt, maybe, block, stmts, clause_stmts, clauses, with_labels, function_body, spared}
use Rattle.go_typing.specs.Signature.{Param, bound, bound_name, all_bound, inside, params_of, results_of, type_of_param, sig_types}
use Rattle.go_typing.specs.Items.{is_init}
use Rattle.go_typing.specs.Known.{outside}
use Rattle.go_typing.specs.Functions.{Between, at_start, around_body, body_of, after_body, function_then, functions_from}
use Rattle.go_typing.specs.Checked.{known_in, between_of, first_too_far, functions_in, error_function, runtime_function, program_of}
use Rattle.go_sound.specs.GoesOn.{AreNumbered, GoesOn, StatementsGoOn, BlocksLeaveScopes, VariablesDiffer}
use Rattle.go_sound.proofs.GoesOnSteps.{stays, then_on, did_if, named_on, fresh_on, used_on, uses_on, uses_all_on, and_on, scopes_left, within_on, assign_on, update_on, step_on, new_on, define_on, one_after, fresh_sides_on}

-- ---- variables

pub declare_on : (n : Name) (o : Option Place) (u : Option Ty) (w : Walk) → GoesOn w (declare_one n o u w)
declare_on n None u w = new_on n u w
declare_on n (Some at) u w = stays w

pub type_uses_on : (u : t.MaybeExpr) (w : Walk) → GoesOn w (type_uses u w)
type_uses_on t.NoExpr w = stays w
type_uses_on (t.AnExpr e) w = uses_on e w

pub zero_on : (s : SpecType) (ns : List Name) (w : Walk) → GoesOn w (var_zero s ns w).walk
zero_on s [] w = stays w
zero_on s (n ∷ ns) w = then_on w (declare_one n (is_there n w) (zero_type s) w) _ (declare_on n (is_there n w) (zero_type s) w) (zero_on s ns (declare_one n (is_there n w) (zero_type s) w))

pub each_on : (w : Walk) (s : SpecType) (ns : List Name) (ys : t.Exprs) (u : Walk) → GoesOn u (var_each w s ns ys u).walk
each_on w s (n ∷ ns) (t.MoreExprs y ys) u = then_on u (declare_one n (is_there n u) _ u) _ (declare_on n (is_there n u) _ u) (each_on w s ns ys _)
each_on w s [] ys u = stays u
each_on w s (n ∷ ns) t.NoExprs u = stays u

pub types_on : (s : SpecType) (y : t.Expr) (ns : List Name) (vs : Tys) (u : Walk) → GoesOn u (var_types s y ns vs u).walk
types_on s y (n ∷ ns) (more_tys v vs) u = then_on u (declare_one n (is_there n u) (spec_or s v) u) _ (declare_on n (is_there n u) (spec_or s v) u) (types_on s y ns vs (declare_one n (is_there n u) (spec_or s v) u))
types_on s y [] vs u = stays u
types_on s y (n ∷ ns) no_tys u = stays u

pub var_call_on : (at : Place) (w : Walk) (s : SpecType) (ns : List Name) (y : t.Expr) (vs : Tys) (u : Walk) → GoesOn u (var_call at w s ns y vs u).walk
var_call_on at w s ns y vs u = did_if u (names_number ns vs) _ _ (types_on s y ns vs u) (zero_on lost_type ns u)

pub var_by_on : (at : Place) (w : Walk) (s : SpecType) (ns : List Name) (ys : t.Exprs) (o : Option Tys) (u : Walk) → GoesOn u (var_by at w s ns ys o u).walk
var_by_on at w s ns ys None u = did_if u (names_count ns ys) _ _ (each_on w s ns ys u) (zero_on lost_type ns u)
var_by_on at w s ns ys (Some vs) u = var_call_on at w s ns (first_right ys (t.NameExpr at [])) vs u

pub var_values_on : (at : Place) (w : Walk) (s : SpecType) (ns : List Name) (ys : t.Exprs) (u : Walk) → GoesOn u (var_values at w s ns ys u).walk
var_values_on at w s ns t.NoExprs u = zero_on s ns u
var_values_on at w s ns (t.MoreExprs y ys) u = var_by_on at w s ns (t.MoreExprs y ys) (several_right w (t.MoreExprs y ys)) u

pub parts_used : (ys : t.Exprs) (u : t.MaybeExpr) (w : Walk) → GoesOn w (uses_all ys (type_uses u w))
parts_used ys u w = then_on w (type_uses u w) _ (type_uses_on u w) (uses_all_on ys (type_uses u w))

pub var_spec_on : (at : Place) (ns : List Name) (u : t.MaybeExpr) (ys : t.Exprs) (w : Walk) → GoesOn w (var_spec at ns u ys w).walk
var_spec_on at ns u ys w = then_on w (uses_all ys (type_uses u w)) _ (parts_used ys u w) (var_values_on at w (spec_type w u) ns ys (uses_all ys (type_uses u w)))

pub var_specs_on : (at : Place) (vs : t.ValueSpecs) (w : Walk) → GoesOn w (var_specs at vs w).walk
var_specs_on at t.NoValues w = stays w
var_specs_on at (t.MoreValues ns u ys vs) w = and_on w (var_spec at ns u ys w) (var_specs at vs) (var_spec_on at ns u ys w) (λ v. var_specs_on at vs v)

-- ---- constants

pub declare_constant_on : (n : Name) (o : Option Place) (a : Answer) (w : Walk) → GoesOn w (declare_constant n o a w)
declare_constant_on n None a w = named_on n _ w
declare_constant_on n (Some at) a w = stays w

pub const_each_on : (w : Walk) (s : SpecType) (ns : List Name) (ys : t.Exprs) (u : Walk) → GoesOn u (const_each w s ns ys u).walk
const_each_on w s (n ∷ ns) (t.MoreExprs y ys) u = then_on u (declare_constant n (is_there n u) (constant_value w s y).answer u) _ (declare_constant_on n (is_there n u) _ u) (const_each_on w s ns ys _)
const_each_on w s [] ys u = stays u
const_each_on w s (n ∷ ns) t.NoExprs u = stays u

pub const_unknown_on : (ns : List Name) (u : Walk) → GoesOn u (const_unknown ns u).walk
const_unknown_on [] u = stays u
const_unknown_on (n ∷ ns) u = then_on u (declare_constant n (is_there n u) untyped_part u) _ (declare_constant_on n (is_there n u) untyped_part u) (const_unknown_on ns (declare_constant n (is_there n u) untyped_part u))

pub const_spec_on : (at : Place) (w : Walk) (ns : List Name) (u : t.MaybeExpr) (ys : t.Exprs) (v : Walk) → GoesOn v (const_spec at w ns u ys v).walk
const_spec_on at w ns u ys v =
    did_if v (names_count ns ys) (const_each w (spec_type w u) ns ys (uses_all ys (type_uses u v))) _
    (then_on v (uses_all ys (type_uses u v)) _ (parts_used ys u v) (const_each_on w (spec_type w u) ns ys (uses_all ys (type_uses u v))))
    (then_on v (uses_all ys (type_uses u v)) _ (parts_used ys u v) (const_unknown_on ns (uses_all ys (type_uses u v))))

pub const_specs_on : (at : Place) (n : ℕ) (u : t.MaybeExpr) (ys : t.Exprs) (vs : t.ValueSpecs) (w : Walk) → GoesOn w (const_specs at n u ys vs w).walk
const_specs_on at n u ys t.NoValues w = stays w
const_specs_on at n u ys (t.MoreValues ns v t.NoExprs vs) w = and_on w (const_spec at (counting n w) ns u ys w) (const_specs at (suc n) u ys vs) (const_spec_on at (counting n w) ns u ys w) (λ x. const_specs_on at (suc n) u ys vs x)
const_specs_on at n u ys (t.MoreValues ns v (t.MoreExprs z zs) vs) w =
    and_on w (const_spec at (counting n w) ns v (t.MoreExprs z zs) w) (const_specs at (suc n) v (t.MoreExprs z zs) vs) (const_spec_on at (counting n w) ns v (t.MoreExprs z zs) w) (λ x. const_specs_on at (suc n) v (t.MoreExprs z zs) vs x)

-- ---- types

pub type_added_on : (x : NamedTy) (w : Walk) → GoesOn w (record w { names = w.names ++ x ∷ [] })
type_added_on x w = record { variables = []; variables_added = sym (append-nil w.vars); numbered = refl; types = x ∷ []; types_added = refl; labels = omega arith; outer_kept = refl }

pub declare_type_on : (n : Name) (alias : Bool) (o : Option Ty) (w : Walk) → GoesOn w (declare_type n alias o w)
declare_type_on n true None w = named_on n _ w
declare_type_on n false None w = named_on n _ w
declare_type_on n true (Some u) w = named_on n _ w
declare_type_on n false (Some u) w = then_on w (record w { names = w.names ++ new_named n.text w u ∷ [] }) _ (type_added_on (new_named n.text w u) w) (named_on n _ (record w { names = w.names ++ new_named n.text w u ∷ [] }))

pub type_spec_on : (n : Name) (alias : Bool) (e : t.Expr) (o : Option Place) (w : Walk) → GoesOn w (type_spec n alias e o w).walk
type_spec_on n alias e (Some at) w = uses_on e w
type_spec_on n alias e None w =
    did_if w (is_bare n.text e) _ _ (then_on w (with_name n unknown w) (uses e (with_name n unknown w)) (named_on n unknown w) (uses_on e (with_name n unknown w)))
    (then_on w (uses e w) _ (uses_on e w) (declare_type_on n alias _ (uses e w)))

pub type_specs_on : (ts : t.TypeSpecs) (w : Walk) → GoesOn w (type_specs ts w).walk
type_specs_on t.NoTypes w = stays w
type_specs_on (t.MoreTypes n alias e ts) w = and_on w (type_spec n alias e (is_there n w) w) (type_specs ts) (type_spec_on n alias e (is_there n w) w) (λ v. type_specs_on ts v)

pub decl_on : (d : t.Decl) (w : Walk) → GoesOn w (decl d w).walk
decl_on (t.ConstDecl at vs) w = const_specs_on at 0 t.NoExpr t.NoExprs vs w
decl_on (t.TypeDecl at ts) w = type_specs_on ts w
decl_on (t.VarDecl at vs) w = var_specs_on at vs w
decl_on (t.FuncDecl at n sig b) w = stays w
decl_on (t.MethodDecl at p ps n sig b) w = stays w

-- ---- statements without statements in them

pub performed_walk : (at : Place) (c : Callee) (a : Answer) (w : Walk) → (performed at c a w).walk ≡ w
performed_walk at (a_function id ps rs v) (value c u k) w = refl
performed_walk at (a_built_in b) (value c u k) w = refl
performed_walk at by_value (value c u k) w = refl
performed_walk at (a_function id ps rs v) (does s) w = refl
performed_walk at (a_built_in b) (does s) w = refl
performed_walk at by_value (does s) w = refl
performed_walk at (a_function id ps rs v) (wrong f fs) w = refl
performed_walk at (a_built_in b) (wrong f fs) w = refl
performed_walk at by_value (wrong f fs) w = refl
performed_walk at (a_function id ps rs v) _ w = refl
performed_walk at (a_built_in b) _ w = refl
performed_walk at by_value _ w = refl

pub expression_on : (at : Place) (xs : t.Exprs) (w : Walk) → GoesOn w (expression at xs w).walk
expression_on at (t.MoreExprs e t.NoExprs) w = subst (GoesOn w) (sym (performed_walk (place_of e) (called_in w e) (answer_in w e) (uses e w))) (uses_on e w)
expression_on at t.NoExprs w = uses_all_on t.NoExprs w
expression_on at (t.MoreExprs e (t.MoreExprs f fs)) w = uses_all_on (t.MoreExprs e (t.MoreExprs f fs)) w

pub condition_uses_on : (x : t.MaybeExpr) (w : Walk) → GoesOn w (condition_uses x w)
condition_uses_on t.NoExpr w = stays w
condition_uses_on (t.AnExpr e) w = uses_on e w

pub next_label_on : (w : Walk) → GoesOn w (next_label w)
next_label_on w = record { variables = []; variables_added = sym (append-nil w.vars); numbered = refl; types = []; types_added = sym (append-nil w.names); labels = omega arith; outer_kept = refl }

pub returned_call_on : (at : Place) (w : Walk) (rs : Tys) (y : t.Expr) (us : Tys) → GoesOn w (returned_call at w rs y us).walk
returned_call_on at w rs y us =
    did_if w (count_types rs == count_types us) _ _ (did_if w (same_types rs us) _ _ (uses_on y w) (uses_on y w)) (uses_all_on (t.MoreExprs y t.NoExprs) w)

pub returned_by_on : (at : Place) (w : Walk) (rs : Tys) (ys : t.Exprs) (o : Option Tys) → GoesOn w (returned_by at w rs ys o).walk
returned_by_on at w rs ys None = did_if w (same_number ys rs) _ _ (uses_all_on ys w) (uses_all_on ys w)
returned_by_on at w rs ys (Some us) = returned_call_on at w rs (first_right ys (t.NameExpr at [])) us

pub returned_to_on : (at : Place) (rs : Tys) (named : Bool) (ys : t.Exprs) (w : Walk) → GoesOn w (returned_to at rs named ys w).walk
returned_to_on at rs named t.NoExprs w = did_if w (is_empty rs || named) _ _ (stays w) (stays w)
returned_to_on at rs named (t.MoreExprs y ys) w = returned_by_on at w rs (t.MoreExprs y ys) (several_right w (t.MoreExprs y ys))

pub returned_in_on : (at : Place) (o : Option Tys) (named : Bool) (ys : t.Exprs) (w : Walk) → GoesOn w (returned_in at o named ys w).walk
returned_in_on at None named ys w = uses_all_on ys w
returned_in_on at (Some rs) named ys w = returned_to_on at rs named ys w

pub branch_did_on : (at : Place) (kind : core.BranchKind) (o : Option ℕ) (w : Walk) → GoesOn w (branch_did at kind o w).walk
branch_did_on at kind None w = stays w
branch_did_on at kind (Some label) w = stays w

pub branch_on : (at : Place) (kind : core.BranchKind) (loops : Bool) (n : Option Name) (a : Around) (w : Walk) → GoesOn w (branch at kind loops n a w).walk
branch_on at kind loops None a w = branch_did_on at kind (innermost loops a.targets) w
branch_on at kind loops (Some n) a w = branch_did_on n.place kind (target_named loops n.text a.targets) w

-- ---- those with statements in them

pub if_on : (x : t.Expr) (init then_ else_ : Walk → Did) (w : Walk) → ((v : Walk) → GoesOn v (init v).walk) → ((v : Walk) → GoesOn v (then_ v).walk) → ((v : Walk) → GoesOn v (else_ v).walk) → GoesOn w (if_did x init then_ else_ w).walk
if_on x init then_ else_ w h k l =
    then_on w (init w).walk _ (h w) (then_on (init w).walk (uses x (init w).walk) _ (uses_on x (init w).walk)
    (then_on (uses x (init w).walk) (then_ (uses x (init w).walk)).walk _ (k (uses x (init w).walk)) (l (then_ (uses x (init w).walk)).walk)))

pub for_on : (x : t.MaybeExpr) (init post : Walk → Did) (inner : ℕ → Walk → Did) (w : Walk) → ((v : Walk) → GoesOn v (init v).walk) → ((v : Walk) → GoesOn v (post v).walk) → ((n : ℕ) (v : Walk) → GoesOn v (inner n v).walk)
    → GoesOn w (for_did x init post inner w).walk
for_on x init post inner w h k l =
    then_on w (init w).walk _ (h w) (then_on (init w).walk (condition_uses x (init w).walk) _ (condition_uses_on x (init w).walk)
    (then_on (condition_uses x (init w).walk) (post (condition_uses x (init w).walk)).walk _ (k (condition_uses x (init w).walk))
    (then_on (post (condition_uses x (init w).walk)).walk (next_label (post (condition_uses x (init w).walk)).walk) _ (next_label_on (post (condition_uses x (init w).walk)).walk) (l w.next_label _))))

pub post_on : (s : t.MaybeStmt) (post : Walk → Did) (w : Walk) → ((v : Walk) → GoesOn v (post v).walk) → GoesOn w (post_did s post w).walk
post_on (t.AStmt (t.DefineStmt at xs ys)) post w h = then_on w (fresh_uses xs w) _ (fresh_sides_on xs w) (uses_all_on ys (fresh_uses xs w))
post_on _ post w h = h w

pub switch_on : (x : t.MaybeExpr) (init : Walk → Did) (inner : ℕ → Option Ty → ℕ → Walk → Clauses) (w : Walk) → ((v : Walk) → GoesOn v (init v).walk) → ((i : ℕ) (u : Option Ty) (j : ℕ) (v : Walk) → GoesOn v (inner i u j v).walk)
    → GoesOn w (switch_did x init inner w).walk
switch_on x init inner w h k =
    then_on w (init w).walk _ (h w) (then_on (init w).walk (condition_uses x (init w).walk) _ (condition_uses_on x (init w).walk)
    (then_on (condition_uses x (init w).walk) (fresh _ (condition_uses x (init w).walk)) _ (fresh_on _ (condition_uses x (init w).walk))
    (then_on (fresh _ (condition_uses x (init w).walk)) (next_label (fresh _ (condition_uses x (init w).walk))) _ (next_label_on _) (k _ _ _ _))))

pub one_clause_on : (at : Place) (ts : Tests) (number : ℕ) (is_def had onward : Bool) (inner : Walk → Did) (others : List Const → Bool → Walk → Clauses) (w : Walk) → ((v : Walk) → GoesOn v (inner v).walk)
    → ((seen : List Const) (b : Bool) (v : Walk) → GoesOn v (others seen b v).walk) → GoesOn w (one_clause at ts number is_def had onward inner others w).walk
one_clause_on at ts number is_def had onward inner others w h k = then_on w (inner w).walk _ (h w) (k ts.seen (is_def || had) (inner w).walk)

-- names that count as used change nothing else
spared_on : (w : Walk) (d : Did) → GoesOn w d.walk → GoesOn w (spared w d).walk
spared_on w d g = record {
  variables = g.variables;
  variables_added = g.variables_added;
  numbered = g.numbered;
  types = g.types;
  types_added = g.types_added;
  labels = g.labels;
  outer_kept = g.outer_kept;
}

-- ---- the whole

mutual
  pub stmt_on : (s : t.Stmt) (a : Around) (w : Walk) → GoesOn w (stmt s a w).walk
  stmt_on (t.EmptyStmt at) a w = stays w
  stmt_on (t.ExprStmt at xs) a w = expression_on at xs w
  stmt_on (t.SendStmt at xs y) a w = used_on _ w
  stmt_on (t.IncDecStmt at xs up) a w = step_on at xs up w
  stmt_on (t.AssignStmt at xs None ys) a w = assign_on at xs ys w
  stmt_on (t.AssignStmt at xs (Some op) ys) a w = update_on at op xs ys w
  stmt_on (t.DefineStmt at xs ys) a w = spared_on w (define at xs ys w) (define_on at xs ys w)
  stmt_on (t.DeclStmt at d) a w = spared_on w (decl d w) (decl_on d w)
  stmt_on (t.BlockStmt at b) a w = block_on b (unlabeled a) w
  stmt_on (t.IfStmt at init x b other) a w =
      within_on (if_did x (maybe init (unlabeled a)) (block b (unlabeled a)) (maybe other (unlabeled a))) w
      (if_on x (maybe init (unlabeled a)) (block b (unlabeled a)) (maybe other (unlabeled a)) (pushed w) (λ v. maybe_on init (unlabeled a) v) (λ v. block_on b (unlabeled a) v) (λ v. maybe_on other (unlabeled a) v))
  stmt_on (t.ForStmt at init x post b) a w =
      within_on (for_did x (maybe init (unlabeled a)) (post_did post (maybe post (unlabeled a))) (λ label. block b (with_target label true a))) w
      (for_on x (maybe init (unlabeled a)) (post_did post (maybe post (unlabeled a))) (λ label. block b (with_target label true a)) (pushed w) (λ v. maybe_on init (unlabeled a) v)
      (λ v. post_on post (maybe post (unlabeled a)) v (λ u. maybe_on post (unlabeled a) u)) (λ label v. block_on b (with_target label true a) v))
  stmt_on (t.RangeStmt at xs is_new y b) a w = used_on _ w
  stmt_on (t.SwitchStmt at init x cs) a w =
      within_on (switch_did x (maybe init (unlabeled a)) (λ tag u label. clauses cs (with_target label false a) tag u 0 [] false)) w
      (switch_on x (maybe init (unlabeled a)) (λ tag u label. clauses cs (with_target label false a) tag u 0 [] false) (pushed w) (λ v. maybe_on init (unlabeled a) v)
      (λ tag u label v. clauses_on cs (with_target label false a) tag u 0 [] false v))
  stmt_on (t.TypeSwitchStmt at init n x cs) a w = used_on _ w
  stmt_on (t.SelectStmt at cs) a w = used_on _ w
  stmt_on (t.GoStmt at x) a w = used_on _ w
  stmt_on (t.DeferStmt at x) a w = used_on _ w
  stmt_on (t.ReturnStmt at ys) a w = returned_in_on at a.results a.named_results ys w
  stmt_on (t.BreakStmt at n) a w = branch_on at core.break_ false n a w
  stmt_on (t.ContinueStmt at n) a w = branch_on at core.continue_ true n a w
  stmt_on (t.FallthroughStmt at) a w = stays w
  stmt_on (t.LabeledStmt at n s) a w = stmt_on s (record a { label = label_of n }) w

  pub maybe_on : (s : t.MaybeStmt) (a : Around) (w : Walk) → GoesOn w (maybe s a w).walk
  maybe_on t.NoStmt a w = stays w
  maybe_on (t.AStmt s) a w = stmt_on s a w

  pub block_on : (b : t.Block) (a : Around) (w : Walk) → GoesOn w (block b a w).walk
  block_on (t.BlockOf at ss end) a w = within_on (stmts ss a) w (stmts_on ss a (pushed w))

  pub stmts_on : (ss : t.Stmts) (a : Around) (w : Walk) → GoesOn w (stmts ss a w).walk
  stmts_on t.NoStmts a w = stays w
  stmts_on (t.MoreStmts s ss) a w = and_on w (stmt s (unlabeled a) w) (stmts ss a) (stmt_on s (unlabeled a) w) (λ v. stmts_on ss a v)

  pub clause_on : (onward : Bool) (ss : t.Stmts) (a : Around) (w : Walk) → GoesOn w (clause_stmts onward ss a w).walk
  clause_on true (t.MoreStmts (t.FallthroughStmt at) t.NoStmts) a w = stays w
  clause_on onward t.NoStmts a w = stays w
  clause_on onward (t.MoreStmts s ss) a w = and_on w (stmt s (unlabeled a) w) (clause_stmts onward ss a) (stmt_on s (unlabeled a) w) (λ v. clause_on onward ss a v)

  pub clauses_on : (cs : t.Clauses) (a : Around) (tag : ℕ) (u : Option Ty) (number : ℕ) (seen : List Const) (had : Bool) (w : Walk) → GoesOn w (clauses cs a tag u number seen had w).walk
  clauses_on t.NoClauses a tag u number seen had w = stays w
  clauses_on (t.MoreClauses at xs ss cs) a tag u number seen had w =
      then_on w (uses_all xs w) _ (uses_all_on xs w)
      (one_clause_on at (case_tests w tag u number xs seen) number (is_default xs) had (falls ss && not (is_last cs)) (within (clause_stmts (falls ss && not (is_last cs)) ss a)) (clauses cs a tag u (suc number)) (uses_all xs w)
      (λ v. within_on (clause_stmts (falls ss && not (is_last cs)) ss a) v (clause_on (falls ss && not (is_last cs)) ss a (pushed v))) (λ s b v. clauses_on cs a tag u (suc number) s b v))

pub statements_go_on : StatementsGoOn
statements_go_on s a w = stmt_on s a w

pub blocks_leave_scopes : BlocksLeaveScopes
blocks_leave_scopes (t.BlockOf at ss end) a w = scopes_left (stmts ss a) w (stmts_on ss a (pushed w))

-- ---- functions

pub bound_name_on : (n : Name) (u : Option Ty) (o : Option Place) (v : Walk) → GoesOn v (bound_name n u o v)
bound_name_on n None None v = named_on n unknown v
bound_name_on n (Some u) None v = then_on v (fresh u v) _ (fresh_on u v) (named_on n _ (fresh u v))
bound_name_on n None (Some at) v = stays v
bound_name_on n (Some u) (Some at) v = stays v

pub bound_on : (n : Option Name) (u : Option Ty) (v : Walk) → GoesOn v (bound n u v)
bound_on None None v = stays v
bound_on None (Some u) v = fresh_on u v
bound_on (Some n) u v = bound_name_on n u (is_there n v) v

pub all_bound_on : (w : Walk) (ps : List Param) (v : Walk) → GoesOn v (all_bound w ps v)
all_bound_on w [] v = stays v
all_bound_on w (q ∷ ps) v = then_on v (bound q.name (type_of_param w q) v) _ (bound_on q.name (type_of_param w q) v) (all_bound_on w ps (bound q.name (type_of_param w q) v))

pub function_body_on : (b : t.Block) (a : Around) (w : Walk) → GoesOn w (function_body b a w).walk
function_body_on (t.BlockOf at ss end) a w = stmts_on ss (with_labels (t.BlockOf at ss end) a) w

pub body_on : (w : Walk) (k : Between) (s : t.Sig) (b : t.Block) (a : Around) → GoesOn (inside (at_start w k)) (body_of w k s b a).walk
body_on w k s b a =
    then_on (inside (at_start w k)) (all_bound w (params_of s ++ results_of s) (inside (at_start w k))) _ (all_bound_on w (params_of s ++ results_of s) (inside (at_start w k)))
    (function_body_on b a (all_bound w (params_of s ++ results_of s) (inside (at_start w k))))

pub body_numbered : (w : Walk) (k : Between) (s : t.Sig) (b : t.Block) (a : Around) → AreNumbered k.next (body_of w k s b a).walk.vars (body_of w k s b a).walk.next
body_numbered w k s b a = let g = body_on w k s b a in subst (λ (vs : List Var). AreNumbered k.next vs (body_of w k s b a).walk.next) (sym g.variables_added) g.numbered

pub functions_numbered : (far : Option Place) (w : Walk) (ds : List t.Decl) (k : Between) → AreNumbered k.next (flat_map func_vars (functions_from far w ds k).funcs) (functions_from far w ds k).between.next
functions_numbered far w [] k = refl
functions_numbered far w (t.FuncDecl at n s b ∷ ds) k =
    by_test (is_init n) (functions_numbered far w ds k) (functions_numbered far w ds (after_body (body_of w k s b (around_body far w at n s)))) (body_numbered w k s b (around_body far w at n s))
  where
    by_test : (c : Bool) → AreNumbered k.next (flat_map func_vars (functions_from far w ds k).funcs) (functions_from far w ds k).between.next
        → AreNumbered (body_of w k s b (around_body far w at n s)).walk.next (flat_map func_vars (functions_from far w ds (after_body (body_of w k s b (around_body far w at n s)))).funcs)
        (functions_from far w ds (after_body (body_of w k s b (around_body far w at n s)))).between.next
        → AreNumbered k.next (body_of w k s b (around_body far w at n s)).walk.vars (body_of w k s b (around_body far w at n s)).walk.next
        → AreNumbered k.next (flat_map func_vars (if c then functions_from far w ds k else function_then at n (sig_types w s) (body_of w k s b (around_body far w at n s)) (functions_from far w ds)).funcs)
        (if c then functions_from far w ds k else function_then at n (sig_types w s) (body_of w k s b (around_body far w at n s)) (functions_from far w ds)).between.next
    by_test true h l g = h
    by_test false h l g = one_after k.next (body_of w k s b (around_body far w at n s)).walk.next _ (body_of w k s b (around_body far w at n s)).walk.vars _ g l
functions_numbered far w (t.ConstDecl at vs ∷ ds) k = functions_numbered far w ds k
functions_numbered far w (t.TypeDecl at ts ∷ ds) k = functions_numbered far w ds k
functions_numbered far w (t.VarDecl at vs ∷ ds) k = functions_numbered far w ds k
functions_numbered far w (t.MethodDecl at q rs n s b ∷ ds) k = functions_numbered far w ds k

pub flat_append : (fs gs : List CoreFunc) → flat_map func_vars (fs ++ gs) ≡ flat_map func_vars fs ++ flat_map func_vars gs
flat_append [] gs = refl
flat_append (f ∷ fs) gs = ap (λ (vs : List Var). f.vars ++ vs) (flat_append fs gs) ∙ sym (append_assoc f.vars (flat_map func_vars fs) (flat_map func_vars gs))

-- the two functions of the type of run-time panics have the last three
pub last_numbered : (n : ℕ) → AreNumbered n (flat_map func_vars (error_function n ∷ runtime_function (n + 2) ∷ [])) (n + 3)
last_numbered n = (refl, (refl, (omega arith, omega arith)))

pub program_numbered : (fs : List CoreFunc) (n : ℕ) → AreNumbered 0 (flat_map func_vars fs) n → AreNumbered 0 (flat_map func_vars (fs ++ error_function n ∷ runtime_function (n + 2) ∷ []) ++ []) (n + 3)
program_numbered fs n h =
    subst (λ (vs : List Var). AreNumbered 0 vs (n + 3)) (sym (append-nil _)) (subst (λ (vs : List Var). AreNumbered 0 vs (n + 3)) (sym (flat_append fs (error_function n ∷ runtime_function (n + 2) ∷ [])))
    (one_after 0 n (n + 3) (flat_map func_vars fs) _ h (last_numbered n)))

-- ---- numbers differ

pub numbered_at : (k m i : ℕ) (vs : List Var) (d : Var) → AreNumbered k vs m → i < length vs → (get_or vs i d).id ≡ k + i
numbered_at k m i [] d h l = absurd (omega arith)
numbered_at k m zero (v ∷ vs) d h l = let e = h.0 in omega arith
numbered_at k m (suc i) (v ∷ vs) d h l = let e = numbered_at (suc k) m i vs d h.1 (omega arith) in omega arith

pub numbers_differ : (k m : ℕ) (vs : List Var) → AreNumbered k vs m → AllPairs DifferInId vs
numbers_differ k m vs h i j d l r e =
    let a = numbered_at k m i vs d h (omega arith) in
    let b = numbered_at k m j vs d h r in
    omega arith

pub variables_differ : VariablesDiffer
variables_differ ds = numbers_differ 0 _ (all_vars (program_of ds)) (program_numbered (functions_in (known_in ds) ds).funcs (functions_in (known_in ds) ds).between.next (functions_numbered (first_too_far ds) (outside (known_in ds)) ds (between_of (known_in ds))))
