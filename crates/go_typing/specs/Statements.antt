-- All statements of scalar programs. Go specification (as of Go 1.17), "Statements",
-- "Blocks", "Expression statements", "If statements", "For statements", "Switch statements", "Return statements",
-- "Break statements", "Continue statements", "Fallthrough statements", "Labeled statements", "Terminating statements".
use Rattle.std.specs.Prelude.{ℕ, suc, ◌==◌, nat_lt, ◌||◌, length, drop, map, List, [], ◌∷◌, ◌++◌, Bool, true, false, ◌&&◌, not, if◌then◌else◌, Option, Some, None, bytes_eq}
use Rattle.std.specs.Ordering.{int_eq}
use Rattle.gj_base.specs.declared.place.Place.{Place}
use Rattle.gj_base.specs.declared.kind.Op.TheVariants as operator
use Rattle.go_const.specs.declared.constant.Const.{Const}
use Rattle.go_const.specs.declared.constant.Const.TheVariants as form
use Rattle.go_syntax.specs.Tree as t
use Rattle.go_syntax.specs.declared.tree.Name.{Name}
use Rattle.go_type.specs.Tree as ty
use Rattle.go_type.specs.Tree.{Ty, Tys, no_tys, more_tys}
use Rattle.go_core.specs.SameType.{same_types}
use Rattle.go_core.specs.CoreTree as core
use Rattle.go_core.specs.CoreTree.{to_place, break_, continue_}
use Rattle.go_core.specs.Terminating.{ends_terminating}
use Rattle.go_typing.specs.Answer.{Flaw, flaw, Answer, value, does, wrong, untyped_part, own}
use Rattle.go_typing.specs.Operand.{constant_at}
use Rattle.go_typing.specs.Wanted.{wanted}
use Rattle.go_typing.specs.Typing.{Callee, a_function, by_value, callee_of, place_of, operator_row}
use Rattle.go_typing.specs.Uses.{names_in_stmt}
use Rattle.go_typing.specs.Walk.{Walk, Around, Target, Did, did, faulty, and_then, also, body, within, fresh, uses, uses_all, with_uses, all_used, unused, any_among}
use Rattle.go_typing.specs.Expressions.{Valued, answer_in, flaws_in, value_at, value_alone, condition, core_of, type_of, constant_of}
use Rattle.go_typing.specs.Assign.{assign, update, step, define, where_typed, all_typed, all_in_flaws, same_number, several_right, first_right, undeclared}
use Rattle.go_typing.specs.Declare.{decl}
use Rattle.go_typing.specs.Labels.{label_of, labels_in, labels_told}

-- own: a statement that is not built yet
abbrev pub not_built : Place → t.Stmt → Walk → Did
not_built at s w = faulty (flaw at 0 ∷ []) (with_uses (names_in_stmt s) w)

abbrev pub has_unbuilt : List Flaw → Bool
has_unbuilt [] = false
has_unbuilt (f ∷ fs) = (f.code == 0) || has_unbuilt fs

abbrev pub and_places : Bool → List Name → List Place → List Place
and_places false ns ps = ps
and_places true ns ps = ps ++ map (λ n. n.place) ns

-- own: the names that a statement declares count as used where a form that is not built yet stands in it
abbrev pub spared : Walk → Did → Did
spared w d = record { core = d.core; flaws = d.flaws; walk = record d.walk { used = and_places (has_unbuilt d.flaws) (drop (length w.declared) d.walk.declared) d.walk.used } }

-- A statement that isn't empty stands in its list though it does nothing: a list ends in a terminating statement only where the
-- last of its statements that aren't empty is one.
abbrev pub at_least_one : List core.Stmt → List core.Stmt
at_least_one [] = core.sequence core.no_stmts ∷ []
at_least_one (s ∷ ss) = s ∷ ss

abbrev pub standing : Did → Did
standing d = record d { core = at_least_one d.core }

-- ---- expression statements (93)

abbrev pub count_types : Tys → ℕ
count_types no_tys = 0
count_types (more_tys u us) = suc (count_types us)

abbrev pub values_of : Ty → ℕ
values_of (ty.tuple us) = count_types us
values_of u = 1

-- a call of a function is performed, one of `print` is a statement; nothing else stands as a statement
abbrev pub performed : Place → Callee → Answer → Walk → Did
performed at (a_function id ps rs variadic) (value c u v) w = did (core.perform c (values_of u) ∷ []) w
performed at c (does s) w = did (s ∷ []) w
performed at c (wrong f fs) w = faulty [] w
performed at c untyped_part w = faulty [] w
performed at c a w = faulty (flaw at 93 ∷ []) w

abbrev pub called_in : Walk → t.Expr → Callee
called_in w (t.CallExpr at f xs spread) = callee_of w.scopes f
called_in w (t.ParenExpr at e) = called_in w e
called_in w e = by_value

abbrev pub expression : Place → t.Exprs → Walk → Did
expression at (t.MoreExprs e t.NoExprs) w = also (flaws_in w e) (performed (place_of e) (called_in w e) (answer_in w e) (uses e w))
expression at xs w = faulty (where_typed (all_typed w xs) (all_in_flaws w xs) (flaw at 84 ∷ [])) (uses_all xs w)

-- ---- `if` and `for`

abbrev pub if_did : t.Expr → (init when_true when_false : Walk → Did) → Walk → Did
if_did x init when_true when_false w =
    let d = init w in
    let c = condition d.walk x in
    let e = when_true (uses x d.walk) in
    let f = when_false e.walk in
    record { core = d.core ++ core.if_ (core_of c.answer) (body e.core) (body f.core) ∷ []; flaws = d.flaws ++ c.flaws ++ e.flaws ++ f.flaws; walk = f.walk }

-- what may be left is known inside, and the label before the statement is its own
abbrev pub with_target : ℕ → Bool → Around → Around
with_target label is_loop a = record a { targets = record { label = label; name = a.label; is_loop = is_loop } ∷ a.targets; label = None }

abbrev pub unlabeled : Around → Around
unlabeled a = record a { label = None }

abbrev pub next_label : Walk → Walk
next_label w = record w { next_label = suc w.next_label }

abbrev pub condition_core : Walk → t.MaybeExpr → core.Bound
condition_core w t.NoExpr = core.no_bound
condition_core w (t.AnExpr x) = core.bound (core_of (condition w x).answer)

abbrev pub condition_told : Walk → t.MaybeExpr → List Flaw
condition_told w t.NoExpr = []
condition_told w (t.AnExpr x) = (condition w x).flaws

abbrev pub condition_uses : t.MaybeExpr → Walk → Walk
condition_uses t.NoExpr w = w
condition_uses (t.AnExpr x) w = uses x w

abbrev pub for_did : t.MaybeExpr → (init post : Walk → Did) → (inside : ℕ → Walk → Did) → Walk → Did
for_did x init post inside w =
    let d = init w in
    let p = post (condition_uses x d.walk) in
    let e = inside w.next_label (next_label p.walk) in
    record {
      core = d.core ++ core.loop w.next_label (condition_core d.walk x) (body e.core) (body p.core) ∷ [];
      flaws = d.flaws ++ condition_told d.walk x ++ p.flaws ++ e.flaws;
      walk = e.walk;
    }

-- a short declaration is no statement after a turn (83)
abbrev pub post_did : t.MaybeStmt → (Walk → Did) → Walk → Did
post_did (t.AStmt (t.DefineStmt at xs ys)) post w = undeclared at xs ys w
post_did s post w = post w

-- ---- `switch`

-- the tag: a fresh variable with its value; own: a missing tag is `true`
pub record Tag : Type 0 where
  pub type_ : Option Ty
  pub core : core.Expr
  pub flaws : List Flaw

abbrev pub tag_of : Walk → t.MaybeExpr → Tag
tag_of w t.NoExpr = record { type_ = Some ty.bool; core = constant_at ty.bool (form.Bool true); flaws = [] }
tag_of w (t.AnExpr x) = let v = value_alone w x in record { type_ = type_of v.answer; core = core_of v.answer; flaws = v.flaws }

-- the comparison of a case with the tag, told at the case
abbrev pub case_answer : Walk → ℕ → Option Ty → t.Expr → Answer
case_answer w tag None x = untyped_part
case_answer w tag (Some u) x =
    operator_row w.names (place_of x) operator.Eq (record { place = place_of x; answer = value (core.read u (core.local_ tag)) u None }) (record { place = place_of x; answer = answer_in w x })

abbrev pub case_constant : Walk → Option Ty → t.Expr → Option Const
case_constant w None x = None
case_constant w (Some u) x = constant_of (wanted w.names (place_of x) u (answer_in w x))

abbrev pub same_text : List ℕ → Const → Bool
same_text s (form.Text u) = bytes_eq s u
same_text s _ = false

abbrev pub same_truth : Bool → Const → Bool
same_truth b (form.Bool true) = b
same_truth b (form.Bool false) = not b
same_truth b _ = false

abbrev pub same_constant : Const → Const → Bool
same_constant (form.Int x) (form.Int y) = int_eq x y
same_constant (form.Text s) k = same_text s k
same_constant (form.Bool b) k = same_truth b k
same_constant _ k = false

abbrev pub repeated : Option Const → List Const → Bool
repeated None ks = false
repeated (Some k) [] = false
repeated (Some k) (l ∷ ls) = same_constant k l || repeated (Some k) ls

abbrev pub and_constant : Option Const → List Const → List Const
and_constant None ks = ks
and_constant (Some k) ks = k ∷ ks

-- the tests of a clause, with the constants so far
pub record Tests : Type 0 where
  pub tests : core.Tests → core.Tests
  pub flaws : List Flaw
  pub seen : List Const

abbrev pub repeated_flaws : Place → Bool → List Flaw
repeated_flaws at true = flaw at 92 ∷ []
repeated_flaws at false = []

abbrev pub case_tests : Walk → ℕ → Option Ty → ℕ → t.Exprs → List Const → Tests
case_tests w tag u number t.NoExprs seen = record { tests = λ ts. ts; flaws = []; seen = seen }
case_tests w tag u number (t.MoreExprs x xs) seen =
    let r = case_tests w tag u number xs (and_constant (case_constant w u x) seen) in
    record {
      tests = λ ts. core.test (core_of (case_answer w tag u x)) number (r.tests ts);
      flaws = flaws_in w x ++ own (case_answer w tag u x) ++ repeated_flaws (place_of x) (repeated (case_constant w u x) seen) ++ r.flaws;
      seen = r.seen;
    }

-- a clause's statements: whether they fall through to the next clause, and those before the `fallthrough`
abbrev pub falls : t.Stmts → Bool
falls t.NoStmts = false
falls (t.MoreStmts (t.FallthroughStmt at) t.NoStmts) = true
falls (t.MoreStmts s ss) = falls ss

abbrev pub is_last : t.Clauses → Bool
is_last t.NoClauses = true
is_last (t.MoreClauses at xs ss cs) = false

-- what comes of the clauses from one on
pub record Clauses : Type 0 where
  pub tests : core.Tests
  pub clauses : core.Clauses
  pub default_ : Option ℕ
  pub flaws : List Flaw
  pub walk : Walk

abbrev pub default_from : Bool → ℕ → Option ℕ → Option ℕ
default_from true number d = Some number
default_from false number d = d

abbrev pub is_default : t.Exprs → Bool
is_default t.NoExprs = true
is_default (t.MoreExprs x xs) = false

-- own: a second `default` is told at its clause
abbrev pub default_flaws : Place → Bool → Bool → List Flaw
default_flaws at true true = flaw at 92 ∷ []
default_flaws at _ _ = []

abbrev pub one_clause : Place → Tests → ℕ → Bool → Bool → Bool → (Walk → Did) → (List Const → Bool → Walk → Clauses) → Walk → Clauses
one_clause at ts number is_def had onward inside others w =
    let d = inside w in
    let r = others ts.seen (is_def || had) d.walk in
    record {
      tests = ts.tests r.tests;
      clauses = core.clause (body d.core) onward r.clauses;
      default_ = default_from is_def number r.default_;
      flaws = default_flaws at is_def had ++ ts.flaws ++ d.flaws ++ r.flaws;
      walk = r.walk;
    }

abbrev pub switch_did : t.MaybeExpr → (init : Walk → Did) → (clauses : ℕ → Option Ty → ℕ → Walk → Clauses) → Walk → Did
switch_did x init clauses w =
    let d = init w in
    let g = tag_of d.walk x in
    let u = condition_uses x d.walk in
    let r = clauses u.next g.type_ u.next_label (next_label (fresh (tag_type g.type_) u)) in
    record {
      core = d.core ++ core.declare (record { id = u.next; type_ = tag_type g.type_ }) ∷ core.store (to_place (tag_type g.type_) (core.local_ u.next) ∷ []) (core.expr g.core core.no_exprs)
          ∷ core.switch_on u.next_label r.tests r.clauses r.default_ ∷ [];
      flaws = d.flaws ++ g.flaws ++ r.flaws;
      walk = r.walk;
    }
  where
    tag_type : Option Ty → Ty
    tag_type None = ty.bool
    tag_type (Some v) = v

abbrev pub count_clauses : t.Clauses → ℕ
count_clauses t.NoClauses = 0
count_clauses (t.MoreClauses at xs ss cs) = suc (count_clauses cs)

-- own: there are at most so many clauses, a `default` among them (76)
abbrev pub clauses_limit : ℕ
clauses_limit = 1000

abbrev pub many_told : Place → t.Clauses → (is_typed : Bool) → List Flaw
many_told at cs is_typed = if is_typed && nat_lt clauses_limit (count_clauses cs) then flaw at 76 ∷ [] else []

abbrev pub where_clean : List Flaw → List Flaw → List Flaw
where_clean [] fs = fs
where_clean (g ∷ gs) fs = []

abbrev pub name_places : List Name → List Place
name_places [] = []
name_places (n ∷ ns) = n.place ∷ name_places ns

-- What stands in a statement is typed, where none of its nodes has a fault: its variables are used, its labels have no fault, and
-- the declarations of the names that it uses are typed. w, v: what is known before it and after it.
abbrev pub parts_typed : Around → t.Stmt → Walk → Walk → Bool
parts_typed a s w v =
    all_used (drop (length w.declared) v.declared) v.used
    && not (any_among (name_places (labels_in s)) a.wrong_labels)
    && (v.lost == w.lost)

-- told where all parts are typed
abbrev pub limited : Place → t.Clauses → (Walk → Bool) → Did → Did
limited at cs is_typed d = record { core = d.core; flaws = d.flaws ++ where_clean d.flaws (many_told at cs (is_typed d.walk)); walk = d.walk }

-- ---- `return` (88)

abbrev pub returned_each : Walk → Tys → t.Exprs → Valued × core.Exprs
returned_each w (more_tys u us) (t.MoreExprs y ys) =
    let v = value_at w u y in
    let r = returned_each w us ys in
    (record { answer = r.0.answer; flaws = v.flaws ++ r.0.flaws }, core.expr (core_of v.answer) r.1)
returned_each w _ _ = (record { answer = untyped_part; flaws = [] }, core.no_exprs)

abbrev pub is_empty : Tys → Bool
is_empty no_tys = true
is_empty (more_tys u us) = false

abbrev pub wrong_count : Place → Walk → t.Exprs → Did
wrong_count at w ys = faulty (where_typed (all_typed w ys) (all_in_flaws w ys) (flaw at 88 ∷ [])) (uses_all ys w)

abbrev pub returned_call : Place → Walk → Tys → t.Expr → Tys → Did
returned_call at w rs y us =
    if count_types rs == count_types us
    then (if same_types rs us then did (core.return_ (core.expr (core_of (answer_in w y)) core.no_exprs) ∷ []) (uses y w) else faulty (flaw (place_of y) 61 ∷ []) (uses y w))
    else wrong_count at w (t.MoreExprs y t.NoExprs)

abbrev pub returned_by : Place → Walk → Tys → t.Exprs → Option Tys → Did
returned_by at w rs ys None =
    if same_number ys rs
    then (let r = returned_each w rs ys in record { core = core.return_ r.1 ∷ []; flaws = r.0.flaws; walk = uses_all ys w })
    else wrong_count at w ys
returned_by at w rs ys (Some us) = returned_call at w rs (first_right ys (t.NameExpr at [])) us

abbrev pub returned_to : Place → Tys → (named : Bool) → t.Exprs → Walk → Did
returned_to at rs named t.NoExprs w = if is_empty rs || named then did (core.return_ core.no_exprs ∷ []) w else faulty (flaw at 88 ∷ []) w
returned_to at rs named (t.MoreExprs y ys) w = returned_by at w rs (t.MoreExprs y ys) (several_right w (t.MoreExprs y ys))

-- where the results aren't typed, the values alone are told of
abbrev pub returned_in : Place → Option Tys → (named : Bool) → t.Exprs → Walk → Did
returned_in at None named ys w = faulty (all_in_flaws w ys) (uses_all ys w)
returned_in at (Some rs) named ys w = returned_to at rs named ys w

abbrev pub returned : Place → Around → t.Exprs → Walk → Did
returned at a ys w = returned_in at a.results a.named_results ys w

-- ---- branches (89)

abbrev pub innermost : Bool → List Target → Option ℕ
innermost loops [] = None
innermost loops (g ∷ gs) = if g.is_loop || not loops then Some g.label else innermost loops gs

abbrev pub is_named : List ℕ → Option (List ℕ) → Bool
is_named x None = false
is_named x (Some y) = bytes_eq x y

abbrev pub target_named : Bool → List ℕ → List Target → Option ℕ
target_named loops x [] = None
target_named loops x (g ∷ gs) = if is_named x g.name then (if g.is_loop || not loops then Some g.label else None) else target_named loops x gs

abbrev pub branch_did : Place → core.BranchKind → Option ℕ → Walk → Did
branch_did at kind None w = faulty (flaw at 89 ∷ []) w
branch_did at kind (Some label) w = did (core.branch kind label ∷ []) w

-- a `continue` is for loops alone
abbrev pub branch : Place → core.BranchKind → (loops : Bool) → Option Name → Around → Walk → Did
branch at kind loops None a w = branch_did at kind (innermost loops a.targets) w
branch at kind loops (Some n) a w = branch_did n.place kind (target_named loops n.text a.targets) w

-- ---- the whole

abbrev mutual
  pub stmt : t.Stmt → Around → Walk → Did
  stmt (t.EmptyStmt at) a w = did [] w
  stmt (t.ExprStmt at xs) a w = expression at xs w
  stmt (t.SendStmt at xs y) a w = not_built at (t.SendStmt at xs y) w
  stmt (t.IncDecStmt at xs up) a w = step at xs up w
  stmt (t.AssignStmt at xs None ys) a w = assign at xs ys w
  stmt (t.AssignStmt at xs (Some op) ys) a w = update at op xs ys w
  stmt (t.DefineStmt at xs ys) a w = spared w (define at xs ys w)
  stmt (t.DeclStmt at d) a w = standing (spared w (decl d w))
  stmt (t.BlockStmt at b) a w = standing (block b (unlabeled a) w)
  stmt (t.IfStmt at init x b other) a w = within (if_did x (maybe init (unlabeled a)) (block b (unlabeled a)) (maybe other (unlabeled a))) w
  stmt (t.ForStmt at init x post b) a w = within (for_did x (maybe init (unlabeled a)) (post_did post (maybe post (unlabeled a))) (λ label. block b (with_target label true a))) w
  stmt (t.RangeStmt at xs is_new y b) a w = not_built at (t.RangeStmt at xs is_new y b) w
  stmt (t.SwitchStmt at init x cs) a w = limited at cs (parts_typed a (t.SwitchStmt at init x cs) w) (within (switch_did x (maybe init (unlabeled a)) (λ tag u label. clauses cs (with_target label false a) tag u 0 [] false)) w)
  stmt (t.TypeSwitchStmt at init n x cs) a w = not_built at (t.TypeSwitchStmt at init n x cs) w
  stmt (t.SelectStmt at cs) a w = not_built at (t.SelectStmt at cs) w
  stmt (t.GoStmt at x) a w = not_built at (t.GoStmt at x) w
  stmt (t.DeferStmt at x) a w = not_built at (t.DeferStmt at x) w
  stmt (t.ReturnStmt at ys) a w = returned at a ys w
  stmt (t.BreakStmt at n) a w = branch at break_ false n a w
  stmt (t.ContinueStmt at n) a w = branch at continue_ true n a w
  -- one that ends a clause is taken off there (91)
  stmt (t.FallthroughStmt at) a w = faulty (flaw at 91 ∷ []) w
  stmt (t.LabeledStmt at n s) a w = stmt s (record a { label = label_of n }) w

  pub maybe : t.MaybeStmt → Around → Walk → Did
  maybe t.NoStmt a w = did [] w
  maybe (t.AStmt s) a w = stmt s a w

  pub block : t.Block → Around → Walk → Did
  block (t.BlockOf at ss end) a w = within (stmts ss a) w

  pub stmts : t.Stmts → Around → Walk → Did
  stmts t.NoStmts a w = did [] w
  stmts (t.MoreStmts s ss) a w = and_then (stmt s (unlabeled a) w) (stmts ss a)

  -- a clause's statements, where the last one may be a `fallthrough` that is taken off
  pub clause_stmts : Bool → t.Stmts → Around → Walk → Did
  clause_stmts true (t.MoreStmts (t.FallthroughStmt at) t.NoStmts) a w = did [] w
  clause_stmts onward t.NoStmts a w = did [] w
  clause_stmts onward (t.MoreStmts s ss) a w = and_then (stmt s (unlabeled a) w) (clause_stmts onward ss a)

  -- number: that of the next clause; seen: the constants of the cases so far; had: a `default` stood before
  pub clauses : t.Clauses → Around → ℕ → Option Ty → ℕ → List Const → Bool → Walk → Clauses
  clauses t.NoClauses a tag u number seen had w = record { tests = core.no_tests; clauses = core.no_clauses; default_ = None; flaws = []; walk = w }
  clauses (t.MoreClauses at xs ss cs) a tag u number seen had w =
      one_clause at (case_tests w tag u number xs seen) number (is_default xs) had (falls ss && not (is_last cs))
      (within (clause_stmts (falls ss && not (is_last cs)) ss a)) (clauses cs a tag u (suc number)) (uses_all xs w)

-- ---- a function's body

-- where it has results and control comes to its end, its closing brace is told (87)
abbrev pub missing_return : Option Tys → Place → List core.Stmt → List Flaw
missing_return None end ss = []
missing_return (Some no_tys) end ss = []
missing_return (Some (more_tys u us)) end ss = if ends_terminating (body ss) then [] else flaw end 87 ∷ []

-- own: that the function is one too many (79)
abbrev pub far_told : Option Place → List Flaw
far_told None = []
far_told (Some at) = flaw at 79 ∷ []

-- what is told of a function as a whole: its end, or else that it is one too many
abbrev pub whole_told : Around → Place → List core.Stmt → List Flaw
whole_told a end ss = missing_return a.results end ss ++ where_clean (missing_return a.results end ss) (far_told a.too_far)

-- where all parts are typed: the declarations of the names that they use are, and nothing is told of them
abbrev pub where_whole : (is_typed : Bool) → List Flaw → List Flaw → List Flaw
where_whole false parts fs = []
where_whole true parts fs = where_clean parts fs

-- what is told of a body: its statements, its labels, its unused variables (80), and the function as a whole.
-- w: what is known before it
abbrev pub body_flaws : Around → t.Block → Place → Walk → Did → List Flaw
body_flaws a b end w d =
    d.flaws ++ labels_told b ++ unused d.walk.declared d.walk.used
    ++ where_whole (d.walk.lost == w.lost) (d.flaws ++ labels_told b ++ unused d.walk.declared d.walk.used) (whole_told a end d.core)

abbrev pub flaw_places : List Flaw → List Place
flaw_places [] = []
flaw_places (f ∷ fs) = f.place ∷ flaw_places fs

-- with the labels of a body that have a fault
abbrev pub with_labels : t.Block → Around → Around
with_labels b a = record a { wrong_labels = flaw_places (labels_told b) }

abbrev pub function_body : t.Block → Around → Walk → Did
function_body (t.BlockOf at ss end) a w =
    let d = stmts ss (with_labels (t.BlockOf at ss end) a) w in
    record { core = d.core; flaws = body_flaws a (t.BlockOf at ss end) end w d; walk = d.walk }
