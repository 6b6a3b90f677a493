-- Declarations in functions. Go specification (as of Go 1.17), "Constant declarations", "Iota", "Type declarations",
-- "Variable declarations".
use Rattle.std.specs.Prelude.{ℕ, suc, length, List, [], ◌∷◌, ◌++◌, Bool, true, false, ◌&&◌, if◌then◌else◌, Option, Some, None, bytes_eq}
use Rattle.gj_base.specs.declared.place.Place.{Place}
use Rattle.go_syntax.specs.Tree as t
use Rattle.go_syntax.specs.declared.tree.Name.{Name}
use Rattle.go_type.specs.Tree as ty
use Rattle.go_type.specs.Tree.{Ty, Tys, no_tys, more_tys}
use Rattle.go_type.specs.Named.{NamedTy}
use Rattle.go_type.specs.Underlying.{underlying}
use Rattle.go_core.specs.SameType.{same_type}
use Rattle.go_core.specs.CoreTree as core
use Rattle.go_core.specs.CoreTree.{Target, blank, to_place}
use Rattle.go_typing.specs.Env.{Decl, constant, type_name, unknown, Bind, iota_in, is_blank}
use Rattle.go_typing.specs.Answer.{Flaw, flaw, Answer, value, pending, wrong, untyped_part}
use Rattle.go_typing.specs.Convert.{is_scalar}
use Rattle.go_typing.specs.Typing.{place_of}
use Rattle.go_typing.specs.Walk.{Walk, Did, did, faulty, and_then, also, is_there, redeclared, with_name, uses, uses_all}
use Rattle.go_typing.specs.Expressions.{Valued, answer_in, flaws_in, value_at, value_alone, type_in, core_of, type_of}
use Rattle.go_typing.specs.Assign.{Defined, no_more, with_new, new_stmts, new_target, where_typed, all_typed, all_in_flaws, several_right, first_right}

-- ---- variables

-- the type of a specification: none, one, or one that isn't typed
pub data SpecType : Type 0 where
  no_type : SpecType
  of_type : Ty → SpecType
  lost_type : SpecType

abbrev pub spec_type_of : Option Ty → SpecType
spec_type_of None = lost_type
spec_type_of (Some u) = of_type u

abbrev pub spec_type : Walk → t.MaybeExpr → SpecType
spec_type w t.NoExpr = no_type
spec_type w (t.AnExpr e) = spec_type_of (type_of (type_in w e).answer)

-- there is none, or one that is typed
abbrev pub spec_known : SpecType → Bool
spec_known lost_type = false
spec_known _ = true

abbrev pub spec_type_flaws : Walk → t.MaybeExpr → List Flaw
spec_type_flaws w t.NoExpr = []
spec_type_flaws w (t.AnExpr e) = (type_in w e).flaws

abbrev pub type_uses : t.MaybeExpr → Walk → Walk
type_uses t.NoExpr w = w
type_uses (t.AnExpr e) w = uses e w

abbrev pub spec_value : Walk → SpecType → t.Expr → Valued
spec_value w no_type y = value_alone w y
spec_value w (of_type u) y = value_at w u y
spec_value w lost_type y = record { answer = answer_in w y; flaws = flaws_in w y }

abbrev pub spec_var_type : SpecType → Answer → Option Ty
spec_var_type no_type a = type_of a
spec_var_type (of_type u) a = Some u
spec_var_type lost_type a = None

-- a name that the scope has declares nothing (82)
abbrev pub declare_one : Name → Option Place → Option Ty → Walk → Walk
declare_one n None u w = with_new n u w
declare_one n (Some at) u w = w

abbrev pub declare_stmts : Option Place → Walk → Option Ty → List core.Stmt
declare_stmts None w u = new_stmts w u
declare_stmts (Some at) w u = []

abbrev pub declare_target : Option Place → Walk → Option Ty → Target
declare_target None w u = new_target w u
declare_target (Some at) w u = blank

-- values are typed in w, before any of the names; u grows
abbrev pub var_one : Walk → SpecType → Name → t.Expr → (Walk → Defined) → Walk → Defined
var_one w s n y others u =
    let v = spec_value w s y in
    let d = others (declare_one n (is_there n u) (spec_var_type s v.answer) u) in
    record {
      before = declare_stmts (is_there n u) u (spec_var_type s v.answer) ++ d.before;
      targets = declare_target (is_there n u) u (spec_var_type s v.answer) ∷ d.targets;
      values = core.expr (core_of v.answer) d.values;
      flaws = redeclared n (is_there n u) ++ v.flaws ++ d.flaws;
      walk = d.walk;
    }

abbrev pub var_each : Walk → SpecType → List Name → t.Exprs → Walk → Defined
var_each w s (n ∷ ns) (t.MoreExprs y ys) u = var_one w s n y (var_each w s ns ys) u
var_each w s _ _ u = no_more u

-- without values each is zero, or its type isn't known
abbrev pub zero_type : SpecType → Option Ty
zero_type (of_type u) = Some u
zero_type _ = None

abbrev pub var_zero : SpecType → List Name → Walk → Did
var_zero s [] w = did [] w
var_zero s (n ∷ ns) w =
    and_then (record { core = declare_stmts (is_there n w) w (zero_type s); flaws = redeclared n (is_there n w); walk = declare_one n (is_there n w) (zero_type s) w }) (var_zero s ns)

-- the several values of a call, each for one name
abbrev pub fits_spec : SpecType → Ty → Bool
fits_spec (of_type u) v = same_type u v
fits_spec _ v = true

abbrev pub spec_or : SpecType → Ty → Option Ty
spec_or no_type v = Some v
spec_or (of_type u) v = Some u
spec_or lost_type v = None

abbrev pub var_types : SpecType → t.Expr → List Name → Tys → Walk → Defined
var_types s y (n ∷ ns) (more_tys v vs) u =
    let d = var_types s y ns vs (declare_one n (is_there n u) (spec_or s v) u) in
    record {
      before = declare_stmts (is_there n u) u (spec_or s v) ++ d.before;
      targets = declare_target (is_there n u) u (spec_or s v) ∷ d.targets;
      values = d.values;
      flaws = redeclared n (is_there n u) ++ (if fits_spec s v then [] else flaw (place_of y) 61 ∷ []) ++ d.flaws;
      walk = d.walk;
    }
var_types s y _ _ u = no_more u

abbrev pub names_count : List Name → t.Exprs → Bool
names_count [] t.NoExprs = true
names_count (n ∷ ns) (t.MoreExprs y ys) = names_count ns ys
names_count _ _ = false

abbrev pub names_number : List Name → Tys → Bool
names_number [] no_tys = true
names_number (n ∷ ns) (more_tys v vs) = names_number ns vs
names_number _ _ = false

-- the first byte of a specification
abbrev pub spec_place : List Name → Place → Place
spec_place [] at = at
spec_place (n ∷ ns) at = n.place

-- there are not as many values as names (84), told where the type and the values are typed
abbrev pub count_told : SpecType → Place → (known : Bool) → (told : List Flaw) → List Flaw
count_told s at known told = where_typed (spec_known s && known) told (flaw at 84 ∷ [])

abbrev pub var_miscounted : Place → Walk → SpecType → List Name → t.Exprs → Walk → Did
var_miscounted at w s ns ys u = also (count_told s (spec_place ns at) (all_typed w ys) (all_in_flaws w ys)) (record (var_zero lost_type ns u) { core = [] })

abbrev pub var_call : Place → Walk → SpecType → List Name → t.Expr → Tys → Walk → Did
var_call at w s ns y vs u =
    if names_number ns vs
    then (let d = var_types s y ns vs u in record { core = d.before ++ core.store d.targets (core.expr (core_of (answer_in w y)) core.no_exprs) ∷ []; flaws = d.flaws; walk = d.walk })
    else var_miscounted at w s ns (t.MoreExprs y t.NoExprs) u

abbrev pub var_by : Place → Walk → SpecType → List Name → t.Exprs → Option Tys → Walk → Did
var_by at w s ns ys None u =
    if names_count ns ys
    then (let d = var_each w s ns ys u in record { core = d.before ++ core.store d.targets d.values ∷ []; flaws = d.flaws; walk = d.walk })
    else var_miscounted at w s ns ys u
var_by at w s ns ys (Some vs) u = var_call at w s ns (first_right ys (t.NameExpr at [])) vs u

abbrev pub var_values : Place → Walk → SpecType → List Name → t.Exprs → Walk → Did
var_values at w s ns t.NoExprs u = var_zero s ns u
var_values at w s ns (t.MoreExprs y ys) u = var_by at w s ns (t.MoreExprs y ys) (several_right w (t.MoreExprs y ys)) u

abbrev pub var_spec : Place → List Name → t.MaybeExpr → t.Exprs → Walk → Did
var_spec at ns u ys w = also (spec_type_flaws w u) (var_values at w (spec_type w u) ns ys (uses_all ys (type_uses u w)))

abbrev pub var_specs : Place → t.ValueSpecs → Walk → Did
var_specs at t.NoValues w = did [] w
var_specs at (t.MoreValues ns u ys vs) w = and_then (var_spec at ns u ys w) (var_specs at vs)

-- ---- constants

-- "Iota": the number of the specification, in the universe scope
abbrev pub with_iota : ℕ → List (List Bind) → List (List Bind)
with_iota n [] = []
with_iota n (s ∷ ss) = (s ++ iota_in (Some n)) ∷ ss

abbrev pub counting : ℕ → Walk → Walk
counting n w = record w { scopes = with_iota n w.scopes }

-- a value that is no constant (61); what is no value (52)
abbrev pub constant_flaws : Place → Answer → List Flaw
constant_flaws at (value c (ty.tuple us) v) = flaw at 52 ∷ []
constant_flaws at (value c u None) = flaw at 61 ∷ []
constant_flaws at (value c u (Some k)) = []
constant_flaws at (pending p b) = flaw at 61 ∷ []
constant_flaws at (wrong f fs) = []
constant_flaws at untyped_part = []
constant_flaws at _ = flaw at 52 ∷ []

-- own: the type of a constant is a boolean, integer or string type
abbrev pub constant_value : Walk → SpecType → t.Expr → Valued
constant_value w no_type y = record { answer = answer_in w y; flaws = flaws_in w y ++ constant_flaws (place_of y) (answer_in w y) }
constant_value w lost_type y = record { answer = untyped_part; flaws = flaws_in w y }
constant_value w (of_type u) y =
    if is_scalar (underlying w.names u)
    then (let v = value_at w u y in record { answer = v.answer; flaws = v.flaws ++ constant_flaws (place_of y) v.answer })
    else record { answer = untyped_part; flaws = flaws_in w y ++ flaw (place_of y) 61 ∷ [] }

abbrev pub constant_decl : Answer → Decl
constant_decl (value c u (Some k)) = constant k u
constant_decl _ = unknown

abbrev pub declare_constant : Name → Option Place → Answer → Walk → Walk
declare_constant n None a w = with_name n (constant_decl a) w
declare_constant n (Some at) a w = w

-- values are typed in w; u grows
abbrev pub const_each : Walk → SpecType → List Name → t.Exprs → Walk → Did
const_each w s (n ∷ ns) (t.MoreExprs y ys) u =
    and_then (faulty (redeclared n (is_there n u) ++ (constant_value w s y).flaws) (declare_constant n (is_there n u) (constant_value w s y).answer u)) (const_each w s ns ys)
const_each w s _ _ u = did [] u

abbrev pub const_unknown : List Name → Walk → Did
const_unknown [] u = did [] u
const_unknown (n ∷ ns) u = and_then (faulty (redeclared n (is_there n u)) (declare_constant n (is_there n u) untyped_part u)) (const_unknown ns)

abbrev pub const_spec : Place → Walk → List Name → t.MaybeExpr → t.Exprs → Walk → Did
const_spec at w ns u ys v =
    also (spec_type_flaws w u)
    (if names_count ns ys then const_each w (spec_type w u) ns ys (uses_all ys (type_uses u v))
    else also (count_told (spec_type w u) (spec_place ns at) (all_typed w ys) (all_in_flaws w ys)) (const_unknown ns (uses_all ys (type_uses u v))))

-- where a list is missing the last one stands again, its type with it
abbrev pub const_specs : Place → ℕ → t.MaybeExpr → t.Exprs → t.ValueSpecs → Walk → Did
const_specs at n u ys t.NoValues w = did [] w
const_specs at n u ys (t.MoreValues ns v t.NoExprs vs) w = and_then (const_spec at (counting n w) ns u ys w) (const_specs at (suc n) u ys vs)
const_specs at n u ys (t.MoreValues ns v (t.MoreExprs z zs) vs) w = and_then (const_spec at (counting n w) ns v (t.MoreExprs z zs) w) (const_specs at (suc n) v (t.MoreExprs z zs) vs)

-- ---- types

-- the name itself, also in parentheses; `_` is declared nowhere, so it is no name's own
abbrev pub is_bare : List ℕ → t.Expr → Bool
is_bare x (t.NameExpr at y) = if is_blank y then false else bytes_eq x y
is_bare x (t.ParenExpr at e) = is_bare x e
is_bare x e = false

abbrev pub new_named : List ℕ → Walk → Ty → NamedTy
new_named x w u = record { name = x; package_ = []; under = Some (underlying w.names u); methods = [] }

abbrev pub declare_type : Name → (alias : Bool) → Option Ty → Walk → Walk
declare_type n alias None w = with_name n unknown w
declare_type n true (Some u) w = with_name n (type_name u) w
declare_type n false (Some u) w = with_name n (type_name (ty.named (length w.names))) (record w { names = w.names ++ new_named n.text w u ∷ [] })

-- a type that needs itself (74)
abbrev pub type_spec : Name → Bool → t.Expr → Option Place → Walk → Did
type_spec n alias e (Some at) w = faulty (redeclared n (Some at) ++ (type_in w e).flaws) (uses e w)
type_spec n alias e None w =
    if is_bare n.text e
    then faulty (flaw n.place 74 ∷ []) (uses e (with_name n unknown w))
    else faulty (type_in w e).flaws (declare_type n alias (type_of (type_in w e).answer) (uses e w))

abbrev pub type_specs : t.TypeSpecs → Walk → Did
type_specs t.NoTypes w = did [] w
type_specs (t.MoreTypes n alias e ts) w = and_then (type_spec n alias e (is_there n w) w) (type_specs ts)

-- ---- declarations in functions

abbrev pub decl : t.Decl → Walk → Did
decl (t.ConstDecl at vs) w = const_specs at 0 t.NoExpr t.NoExprs vs w
decl (t.TypeDecl at ts) w = type_specs ts w
decl (t.VarDecl at vs) w = var_specs at vs w
-- no function is declared in a function
decl (t.FuncDecl at n sig b) w = faulty (flaw at 0 ∷ []) w
decl (t.MethodDecl at p ps n sig b) w = faulty (flaw at 0 ∷ []) w
