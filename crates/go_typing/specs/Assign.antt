-- Assignments. Go specification (as of Go 1.17), "Assignments", "IncDec statements", "Short variable declarations".
use Rattle.std.specs.Prelude.{ℕ, pos, List, [], ◌∷◌, ◌++◌, Bool, true, false, ◌&&◌, if◌then◌else◌, Option, Some, None, bytes_eq}
use Rattle.gj_base.specs.declared.place.Place.{Place}
use Rattle.gj_base.specs.declared.kind.Op.{Op}
use Rattle.gj_base.specs.declared.kind.Op.TheVariants as operator
use Rattle.go_const.specs.declared.constant.Const.TheVariants as form
use Rattle.go_syntax.specs.Tree as t
use Rattle.go_syntax.specs.declared.tree.Name.{Name}
use Rattle.go_type.specs.Tree.{Ty, Tys, no_tys, more_tys}
use Rattle.go_core.specs.SameType.{same_type}
use Rattle.go_core.specs.CoreTree as core
use Rattle.go_core.specs.CoreTree.{Target, blank, to_place}
use Rattle.go_typing.specs.Env.{Decl, variable, global, lookup, is_blank}
use Rattle.go_typing.specs.Answer.{Flaw, flaw, Answer, is_known, own, Part}
use Rattle.go_typing.specs.Operand.{untyped_constant}
use Rattle.go_typing.specs.Wanted.{wanted}
use Rattle.go_typing.specs.Typing.{place_of, operator_row}
use Rattle.go_typing.specs.Uses.{names_in}
use Rattle.go_typing.specs.Walk.{Walk, Did, faulty, is_there, with_variable, with_unknown, with_lost, uses, uses_all}
use Rattle.go_typing.specs.Expressions.{Valued, answer_in, flaws_in, value_at, value_alone, core_of, type_of, several_types}

-- ---- left sides

pub data Left : Type 0 where
  left_blank : Left
  left_place : core.CorePlace → Ty → Left
  left_wrong : List Flaw → Left

abbrev pub left_declared : Walk → t.Expr → Option Decl → Left
left_declared w e (Some (variable id u)) = left_place (core.local_ id) u
left_declared w e (Some (global number u)) = left_place (core.global number) u
left_declared w e d = left_wrong (flaws_in w e ++ (if is_known (answer_in w e) then flaw (place_of e) 85 ∷ [] else []))

-- a variable or `_`, also in parentheses; nothing else can be assigned in these rows (85)
abbrev pub left_of : Walk → t.Expr → Left
left_of w (t.NameExpr at x) = if is_blank x then left_blank else left_declared w (t.NameExpr at x) (lookup x w.scopes)
left_of w (t.ParenExpr at e) = left_of w e
left_of w e = left_declared w e None

abbrev pub left_flaws : Left → List Flaw
left_flaws (left_wrong fs) = fs
left_flaws _ = []

abbrev pub target_of : Left → Target
target_of left_blank = blank
target_of (left_place p u) = to_place u p
target_of (left_wrong fs) = blank

abbrev pub is_left : Left → Bool
is_left (left_wrong fs) = false
is_left _ = true

abbrev pub is_name : t.Expr → Bool
is_name (t.NameExpr at x) = true
is_name (t.ParenExpr at e) = is_name e
is_name _ = false

-- own: a variable that is the whole of a left side isn't used there; whether its declaration is typed counts
abbrev pub left_use : t.Expr → Walk → Walk
left_use e w = if is_name e then with_lost (names_in e) w else uses e w

abbrev pub left_uses : t.Exprs → Walk → Walk
left_uses t.NoExprs w = w
left_uses (t.MoreExprs e es) w = left_uses es (left_use e w)

-- ---- `xs = ys`

-- "Assignments": `_` takes any typed value
abbrev pub value_for : Walk → Left → t.Expr → Valued
value_for w left_blank y = value_alone w y
value_for w (left_place p u) y = value_at w u y
value_for w (left_wrong fs) y = record { answer = answer_in w y; flaws = fs ++ flaws_in w y }

-- what is assigned, with all that is told
pub record Assigned : Type 0 where
  pub targets : List Target
  pub values : core.Exprs
  pub flaws : List Flaw

abbrev pub one_more : Left → Valued → Assigned → Assigned
one_more l v s = record { targets = target_of l ∷ s.targets; values = core.expr (core_of v.answer) s.values; flaws = v.flaws ++ s.flaws }

abbrev pub assigned_each : Walk → t.Exprs → t.Exprs → Assigned
assigned_each w (t.MoreExprs x xs) (t.MoreExprs y ys) = one_more (left_of w x) (value_for w (left_of w x) y) (assigned_each w xs ys)
assigned_each w _ _ = record { targets = []; values = core.no_exprs; flaws = [] }

abbrev pub count_of : t.Exprs → t.Exprs → Bool
count_of t.NoExprs t.NoExprs = true
count_of (t.MoreExprs x xs) (t.MoreExprs y ys) = count_of xs ys
count_of _ _ = false

-- the several values of one call; the types are identical (61 at the call)
abbrev pub takes : Left → Ty → Bool
takes (left_place p u) v = same_type u v
takes _ v = true

abbrev pub all_take : Walk → t.Exprs → Tys → Bool
all_take w (t.MoreExprs x xs) (more_tys u us) = takes (left_of w x) u && all_take w xs us
all_take w _ _ = true

abbrev pub same_number : t.Exprs → Tys → Bool
same_number t.NoExprs no_tys = true
same_number (t.MoreExprs x xs) (more_tys u us) = same_number xs us
same_number _ _ = false

abbrev pub lefts_flaws : Walk → t.Exprs → List Flaw
lefts_flaws w t.NoExprs = []
lefts_flaws w (t.MoreExprs x xs) = left_flaws (left_of w x) ++ lefts_flaws w xs

abbrev pub targets_of : Walk → t.Exprs → List Target
targets_of w t.NoExprs = []
targets_of w (t.MoreExprs x xs) = target_of (left_of w x) ∷ targets_of w xs

abbrev pub all_in_flaws : Walk → t.Exprs → List Flaw
all_in_flaws w t.NoExprs = []
all_in_flaws w (t.MoreExprs y ys) = flaws_in w y ++ all_in_flaws w ys

abbrev pub all_typed : Walk → t.Exprs → Bool
all_typed w t.NoExprs = true
all_typed w (t.MoreExprs y ys) = is_known (answer_in w y) && all_typed w ys

-- a fault of a statement whose parts are all typed
abbrev pub where_typed : Bool → List Flaw → List Flaw → List Flaw
where_typed true [] fs = fs
where_typed _ parts fs = parts

abbrev pub lefts_typed : Walk → t.Exprs → Bool
lefts_typed w t.NoExprs = true
lefts_typed w (t.MoreExprs x xs) = is_left (left_of w x) && lefts_typed w xs

-- the counts of left and right differ (84)
abbrev pub miscounted : Place → Walk → t.Exprs → t.Exprs → Walk → Did
miscounted at w xs ys u = faulty (where_typed (lefts_typed w xs && all_typed w ys) (lefts_flaws w xs ++ all_in_flaws w ys) (flaw at 84 ∷ [])) u

abbrev pub store_did : List Flaw → List Target → core.Exprs → Walk → Did
store_did fs ts es w = record { core = core.store ts es ∷ []; flaws = fs; walk = w }

abbrev pub call_assigned : Place → Walk → t.Exprs → t.Expr → Tys → Walk → Did
call_assigned at w xs y us u =
    if same_number xs us
    then store_did (lefts_flaws w xs ++ (if all_take w xs us then [] else flaw (place_of y) 61 ∷ [])) (targets_of w xs) (core.expr (core_of (answer_in w y)) core.no_exprs) u
    else miscounted at w xs (t.MoreExprs y t.NoExprs) u

-- the several values of a call that stands alone on the right
abbrev pub several_right : Walk → t.Exprs → Option Tys
several_right w (t.MoreExprs y t.NoExprs) = several_types (answer_in w y)
several_right w ys = None

abbrev pub first_right : t.Exprs → t.Expr → t.Expr
first_right t.NoExprs e = e
first_right (t.MoreExprs y ys) e = y

abbrev pub assign_by : Place → Walk → t.Exprs → t.Exprs → Option Tys → Walk → Did
assign_by at w xs ys None u =
    if count_of xs ys
    then store_did (assigned_each w xs ys).flaws (assigned_each w xs ys).targets (assigned_each w xs ys).values u
    else miscounted at w xs ys u
assign_by at w xs ys (Some us) u = call_assigned at w xs (first_right ys (t.NameExpr at [])) us u

abbrev pub assign_did : Place → Walk → t.Exprs → t.Exprs → Walk → Did
assign_did at w xs ys u = assign_by at w xs ys (several_right w ys) u

abbrev pub assign : Place → t.Exprs → t.Exprs → Walk → Did
assign at xs ys w = assign_did at w xs ys (uses_all ys (left_uses xs w))

-- ---- `x op= y` and `x++`

abbrev pub updated : Walk → Place → Op → t.Expr → Part → Ty → Answer
updated w at op x y u = wanted w.names at u (operator_row w.names at op (record { place = place_of x; answer = answer_in w x }) y)

-- the operator's row, and then the assignment; `_` is no value (52)
abbrev pub update_left : Walk → Place → Op → t.Expr → Part → List Flaw → Left → Walk → Did
update_left w at op x y fs left_blank u = faulty (flaw (place_of x) 52 ∷ fs) u
update_left w at op x y fs (left_wrong gs) u = faulty (gs ++ fs) u
update_left w at op x y fs (left_place p v) u =
    store_did (fs ++ own (operator_row w.names at op (record { place = place_of x; answer = answer_in w x }) y) ++ own (updated w at op x y v))
    (to_place v p ∷ []) (core.expr (core_of (updated w at op x y v)) core.no_exprs) u

abbrev pub update : Place → Op → t.Exprs → t.Exprs → Walk → Did
update at op (t.MoreExprs x t.NoExprs) (t.MoreExprs y t.NoExprs) w =
    update_left w at op x (record { place = place_of y; answer = answer_in w y }) (flaws_in w y) (left_of w x) (uses x (uses y w))
update at op xs ys w = miscounted at w xs ys (uses_all xs (uses_all ys w))

-- the untyped constant 1
abbrev pub one_ : Place → Part
one_ at = record { place = at; answer = untyped_constant (form.Int (pos 1)) }

abbrev pub step_op : Bool → Op
step_op true = operator.Add
step_op false = operator.Sub

-- "IncDec statements": `x++` is `x += 1`, and `x--` is `x -= 1`
abbrev pub step : Place → t.Exprs → (up : Bool) → Walk → Did
step at (t.MoreExprs x t.NoExprs) up w = update_left w at (step_op up) x (one_ at) [] (left_of w x) (uses x w)
step at xs up w = faulty (where_typed (all_typed w xs) (all_in_flaws w xs) (flaw at 84 ∷ [])) (uses_all xs w)

-- ---- `xs := ys`

pub data Fresh : Type 0 where
  -- a new name, one that the scope has, `_`, or no name
  new_name : Name → Fresh
  old_name : t.Expr → Fresh
  blank_name : Fresh
  no_name : Place → Fresh

abbrev pub name_of : Place → List ℕ → Name
name_of at x = record { place = at; text = x }

abbrev pub fresh_by : Place → List ℕ → Option Place → Fresh
fresh_by at x None = new_name (name_of at x)
fresh_by at x (Some p) = old_name (t.NameExpr at x)

abbrev pub fresh_of : Walk → t.Expr → Fresh
fresh_of w (t.NameExpr at x) = if is_blank x then blank_name else fresh_by at x (is_there (name_of at x) w)
fresh_of w e = no_name (place_of e)

abbrev pub is_bare : t.Expr → Bool
is_bare (t.NameExpr at x) = true
is_bare _ = false

-- own: a name on the left isn't used. It is declared there, or it stands in the same scope, where its own declaration counts.
abbrev pub fresh_use : t.Expr → Walk → Walk
fresh_use e w = if is_bare e then w else left_use e w

abbrev pub fresh_uses : t.Exprs → Walk → Walk
fresh_uses t.NoExprs w = w
fresh_uses (t.MoreExprs e es) w = fresh_uses es (fresh_use e w)

-- names that stand twice on the left (82), and what is no name (83)
abbrev pub is_in : List ℕ → List (List ℕ) → Bool
is_in x [] = false
is_in x (y ∷ ys) = if_same (is_blank x) (bytes_eq x y) (is_in x ys)
  where
    if_same : Bool → Bool → Bool → Bool
    if_same true b r = false
    if_same false true r = true
    if_same false false r = r

abbrev pub no_name_flaws : Walk → t.Expr → List Flaw
no_name_flaws w e = flaws_in w e ++ (if is_known (answer_in w e) then flaw (place_of e) 83 ∷ [] else [])

abbrev pub names_flaws : Walk → List (List ℕ) → t.Exprs → List Flaw
names_flaws w seen t.NoExprs = []
names_flaws w seen (t.MoreExprs (t.NameExpr at x) es) = (if is_in x seen then record { place = at; code = 82; name = x } ∷ [] else []) ++ names_flaws w (x ∷ seen) es
names_flaws w seen (t.MoreExprs e es) = no_name_flaws w e ++ names_flaws w seen es

abbrev pub is_new : Fresh → Bool
is_new (new_name n) = true
is_new (no_name p) = true
is_new _ = false

-- own: what is no name has its own fault
abbrev pub any_new : Walk → t.Exprs → Bool
any_new w t.NoExprs = false
any_new w (t.MoreExprs e es) = if is_new (fresh_of w e) then true else any_new w es

-- a left side is typed where it declares a name, or is one that can be assigned
abbrev pub side_typed : Walk → Fresh → Bool
side_typed w (old_name e) = is_left (left_of w e)
side_typed w (no_name p) = false
side_typed w f = true

abbrev pub sides_typed : Walk → t.Exprs → Bool
sides_typed w t.NoExprs = true
sides_typed w (t.MoreExprs e es) = side_typed w (fresh_of w e) && sides_typed w es

-- what is told of a name that can't be assigned
abbrev pub fresh_flaws : Walk → Fresh → List Flaw
fresh_flaws w (old_name e) = left_flaws (left_of w e)
fresh_flaws w f = []

abbrev pub old_flaws : Walk → t.Exprs → List Flaw
old_flaws w t.NoExprs = []
old_flaws w (t.MoreExprs e es) = fresh_flaws w (fresh_of w e) ++ old_flaws w es

abbrev pub first_place : t.Exprs → Place → Place
first_place t.NoExprs at = at
first_place (t.MoreExprs e es) at = place_of e

-- a fault of a statement whose parts are all typed; these tell their own
abbrev pub where_right : Bool → List Flaw → List Flaw → List Flaw
where_right true [] fs = fs
where_right _ parts fs = []

abbrev pub none_new : Place → Walk → t.Exprs → t.Exprs → List Flaw
none_new at w xs ys = where_right (sides_typed w xs && all_typed w ys) (all_in_flaws w ys) (flaw (first_place xs at) 83 ∷ [])

abbrev pub define_flaws : Place → Walk → t.Exprs → t.Exprs → List Flaw
define_flaws at w xs ys = names_flaws w [] xs ++ (if any_new w xs then [] else none_new at w xs ys)

-- a value for a name: a new one takes its type, any other is assigned
pub record Defined : Type 0 where
  pub before : List core.Stmt
  pub targets : List Target
  pub values : core.Exprs
  pub flaws : List Flaw
  pub walk : Walk

abbrev pub no_more : Walk → Defined
no_more u = record { before = []; targets = []; values = core.no_exprs; flaws = []; walk = u }

abbrev pub with_new : Name → Option Ty → Walk → Walk
with_new n None u = with_unknown n u
with_new n (Some ty) u = with_variable n ty u

abbrev pub new_stmts : Walk → Option Ty → List core.Stmt
new_stmts u None = []
new_stmts u (Some ty) = core.declare (record { id = u.next; type_ = ty }) ∷ []

abbrev pub new_target : Walk → Option Ty → Target
new_target u None = blank
new_target u (Some ty) = to_place ty (core.local_ u.next)

-- one value more, before the others
abbrev pub defined_more : List core.Stmt → Target → Valued → Defined → Defined
defined_more ss g v d = record { before = ss ++ d.before; targets = g ∷ d.targets; values = core.expr (core_of v.answer) d.values; flaws = v.flaws ++ d.flaws; walk = d.walk }

-- a new name, unless it stands on the left before
abbrev pub define_new : Walk → Walk → Name → Option Place → t.Expr → (Walk → Defined) → Defined
define_new w u n None y others =
    defined_more (new_stmts u (type_of (value_alone w y).answer)) (new_target u (type_of (value_alone w y).answer)) (value_alone w y) (others (with_new n (type_of (value_alone w y).answer) u))
define_new w u n (Some at) y others = defined_more [] blank (value_alone w y) (others u)

-- values are typed in w, before any new name; u grows
abbrev pub define_one : Walk → Walk → Fresh → t.Expr → (Walk → Defined) → Defined
define_one w u (new_name n) y others = define_new w u n (is_there n u) y others
define_one w u (old_name e) y others = defined_more [] (target_of (left_of w e)) (value_for w (left_of w e) y) (others u)
define_one w u blank_name y others = defined_more [] blank (value_alone w y) (others u)
define_one w u (no_name p) y others = defined_more [] blank (value_alone w y) (others u)

abbrev pub define_each : Walk → t.Exprs → t.Exprs → Walk → Defined
define_each w (t.MoreExprs x xs) (t.MoreExprs y ys) u = define_one w u (fresh_of w x) y (define_each w xs ys)
define_each w _ _ u = no_more u

abbrev pub defined_did : List Flaw → Defined → Did
defined_did fs d = record { core = d.before ++ core.store d.targets d.values ∷ []; flaws = d.flaws ++ fs; walk = d.walk }

-- the several values of a call
abbrev pub blank_more : Defined → Defined
blank_more d = record d { targets = blank ∷ d.targets }

abbrev pub define_type_new : Walk → Name → Option Place → Ty → (Walk → Defined) → Defined
define_type_new u n None ty others =
    let d = others (with_variable n ty u) in
    record { before = core.declare (record { id = u.next; type_ = ty }) ∷ d.before; targets = to_place ty (core.local_ u.next) ∷ d.targets; values = d.values; flaws = d.flaws; walk = d.walk }
define_type_new u n (Some at) ty others = blank_more (others u)

abbrev pub define_type : Walk → Walk → t.Expr → Fresh → Ty → (Walk → Defined) → Defined
define_type w u y (new_name n) ty others = define_type_new u n (is_there n u) ty others
define_type w u y (old_name e) ty others =
    let d = others u in
    record { before = d.before; targets = target_of (left_of w e) ∷ d.targets; values = d.values; flaws = left_flaws (left_of w e) ++ (if takes (left_of w e) ty then [] else flaw (place_of y) 61 ∷ []) ++ d.flaws; walk = d.walk }
define_type w u y _ ty others = blank_more (others u)

abbrev pub define_types : Walk → t.Expr → t.Exprs → Tys → Walk → Defined
define_types w y (t.MoreExprs x xs) (more_tys ty tys) u = define_type w u y (fresh_of w x) ty (define_types w y xs tys)
define_types w y _ _ u = no_more u

-- a fault of the statement, told where its sides are typed, with what is told of these; fs: of the names
abbrev pub sides_told : Flaw → Walk → List Flaw → t.Exprs → t.Exprs → List Flaw
sides_told f w fs xs ys = where_typed (sides_typed w xs && all_typed w ys) (all_in_flaws w ys ++ fs) (f ∷ []) ++ old_flaws w xs

-- no value is known for the names
abbrev pub with_unknown_new : Name → Option Place → Walk → Walk
with_unknown_new n None u = with_unknown n u
with_unknown_new n (Some at) u = u

abbrev pub with_fresh : Fresh → Walk → Walk
with_fresh (new_name n) u = with_unknown_new n (is_there n u) u
with_fresh _ u = u

abbrev pub unknown_names : Walk → t.Exprs → Walk → Walk
unknown_names w t.NoExprs u = u
unknown_names w (t.MoreExprs x xs) u = unknown_names w xs (with_fresh (fresh_of w x) u)

abbrev pub define_miscounted : Place → Walk → List Flaw → t.Exprs → t.Exprs → Walk → Did
define_miscounted at w fs xs ys u = faulty (sides_told (flaw at 84) w fs xs ys) (unknown_names w xs u)

abbrev pub define_call : Place → Walk → List Flaw → t.Exprs → t.Expr → Tys → Walk → Did
define_call at w fs xs y tys u =
    if same_number xs tys
    then (let d = define_types w y xs tys u in record { core = d.before ++ core.store d.targets (core.expr (core_of (answer_in w y)) core.no_exprs) ∷ []; flaws = d.flaws ++ fs; walk = d.walk })
    else define_miscounted at w fs xs (t.MoreExprs y t.NoExprs) u

abbrev pub define_by : Place → Walk → List Flaw → t.Exprs → t.Exprs → Option Tys → Walk → Did
define_by at w fs xs ys None u = if count_of xs ys then defined_did fs (define_each w xs ys u) else define_miscounted at w fs xs ys u
define_by at w fs xs ys (Some tys) u = define_call at w fs xs (first_right ys (t.NameExpr at [])) tys u

abbrev pub define : Place → t.Exprs → t.Exprs → Walk → Did
define at xs ys w = define_by at w (define_flaws at w xs ys) xs ys (several_right w ys) (uses_all ys (fresh_uses xs w))

-- where no short declaration may stand (83) its names are declared nowhere
abbrev pub undeclared : Place → t.Exprs → t.Exprs → Walk → Did
undeclared at xs ys w = faulty (sides_told (flaw (first_place xs at) 83) w (names_flaws w [] xs) xs ys) (uses_all ys (fresh_uses xs w))
