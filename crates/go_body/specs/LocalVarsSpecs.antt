-- Own: a specification of variables, by what was typed of it before any of its names is declared.
use Rattle.std.specs.Prelude.{List, [], ◌∷◌, ◌++◌, Bool, true, false, if◌then◌else◌, Option, Some, None}
use Rattle.gj_base.specs.declared.place.Place.{Place}
use Rattle.go_syntax.specs.declared.tree.Name.{Name}
use Rattle.go_type.specs.Tree.{Ty, Tys, more_tys}
use Rattle.go_type.specs.Named.{NamedTy}
use Rattle.go_core.specs.CoreTree as core
use Rattle.go_typing.specs.Answer.{Flaw, flaw}
use Rattle.go_typing.specs.Walk.{Walk, Did, did, also, is_there, redeclared}
use Rattle.go_typing.specs.Expressions.{Valued, core_of}
use Rattle.go_typing.specs.Assign.{Defined, no_more}
use Rattle.go_typing.specs.Declare.{SpecType, no_type, of_type, lost_type, spec_var_type, declare_one, declare_stmts, declare_target, spec_or, fits_spec, var_zero, names_number, spec_place, count_told}
use Rattle.go_expr.specs.Raw.{Raw}
use Rattle.go_assign.specs.Settled.{at_type, alone, all_known, all_told, several_in}

-- ---- without values

abbrev pub declared_zero : Name → Option Ty → Walk → Did
declared_zero n u w = record { core = declare_stmts (is_there n w) w u; flaws = redeclared n (is_there n w); walk = declare_one n (is_there n w) u w }

-- ---- with values

-- these, before others
abbrev pub cores_before : List core.Expr → core.Exprs → core.Exprs
cores_before [] after = after
cores_before (c ∷ cs) after = core.expr c (cores_before cs after)

-- a name of this type, with what is told of its value and with its value, before others
abbrev pub named : Name → Option Ty → List Flaw → List core.Expr → (Walk → Defined) → Walk → Defined
named n u fs cs others w =
    let d = others (declare_one n (is_there n w) u w) in
    record {
      before = declare_stmts (is_there n w) w u ++ d.before;
      targets = declare_target (is_there n w) w u ∷ d.targets;
      values = cores_before cs d.values;
      flaws = redeclared n (is_there n w) ++ fs ++ d.flaws;
      walk = d.walk;
    }

abbrev pub raw_value : List NamedTy → SpecType → Raw → Valued
raw_value ns no_type r = alone ns r
raw_value ns (of_type u) r = at_type ns u r
raw_value ns lost_type r = record { answer = r.part.answer; flaws = r.flaws }

abbrev pub with_value : SpecType → Name → Valued → (Walk → Defined) → Walk → Defined
with_value s n v others w = named n (spec_var_type s v.answer) v.flaws (core_of v.answer ∷ []) others w

-- a value for each name
abbrev pub var_raws : List NamedTy → SpecType → List Name → List Raw → Walk → Defined
var_raws ns s (n ∷ names) (r ∷ rs) w = with_value s n (raw_value ns s r) (var_raws ns s names rs) w
var_raws ns s _ _ w = no_more w

abbrev pub stored : Defined → core.Exprs → Did
stored d es = record { core = d.before ++ core.store d.targets es ∷ []; flaws = d.flaws; walk = d.walk }

abbrev pub same_count : List Name → List Raw → Bool
same_count [] [] = true
same_count (n ∷ ns) (r ∷ rs) = same_count ns rs
same_count _ _ = false

abbrev pub var_miscounted : Place → SpecType → List Name → List Raw → Walk → Did
var_miscounted at s names rs w = also (count_told s (spec_place names at) (all_known rs) (all_told rs)) (record (var_zero lost_type names w) { core = [] })

abbrev pub var_each_did : List NamedTy → SpecType → List Name → List Raw → Walk → Did
var_each_did ns s names rs w = stored (var_raws ns s names rs w) (var_raws ns s names rs w).values

-- what is told of a type that doesn't fit
abbrev pub unfit : Place → SpecType → Ty → List Flaw
unfit at s v = if fits_spec s v then [] else flaw at 61 ∷ []

-- the several values of a call, each for one name
abbrev pub var_takes : Place → SpecType → List Name → Tys → Walk → Defined
var_takes at s (n ∷ ns) (more_tys v vs) w = named n (spec_or s v) (unfit at s v) [] (var_takes at s ns vs) w
var_takes at s _ _ w = no_more w

abbrev pub var_whole : SpecType → List Name → Tys → Raw → Walk → Did
var_whole s names vs r w = stored (var_takes r.part.place s names vs w) (core.expr (core_of r.part.answer) core.no_exprs)

abbrev pub var_first : SpecType → List Name → Tys → List Raw → Walk → Did
var_first s names vs [] w = did [] w
var_first s names vs (r ∷ rs) w = var_whole s names vs r w

abbrev pub var_several : Place → SpecType → List Name → List Raw → Tys → Walk → Did
var_several at s names rs vs w = if names_number names vs then var_first s names vs rs w else var_miscounted at s names rs w

abbrev pub var_all : List NamedTy → Place → SpecType → List Name → List Raw → Walk → Did
var_all ns at s names rs w = if same_count names rs then var_each_did ns s names rs w else var_miscounted at s names rs w

abbrev pub var_by : List NamedTy → Place → SpecType → List Name → List Raw → Option Tys → Walk → Did
var_by ns at s names rs None w = var_all ns at s names rs w
var_by ns at s names rs (Some vs) w = var_several at s names rs vs w

abbrev pub var_given : List NamedTy → Place → SpecType → List Name → List Raw → Walk → Did
var_given ns at s names [] w = var_zero s names w
var_given ns at s names (r ∷ rs) w = var_by ns at s names (r ∷ rs) (several_in (r ∷ rs)) w
