-- Own: a specification of constants, by what was typed of it before any of its names is declared.
use Rattle.std.specs.Prelude.{List, [], ◌∷◌, ◌++◌, if◌then◌else◌}
use Rattle.gj_base.specs.declared.place.Place.{Place}
use Rattle.go_syntax.specs.declared.tree.Name.{Name}
use Rattle.go_type.specs.Named.{NamedTy}
use Rattle.go_typing.specs.Answer.{untyped_part}
use Rattle.go_typing.specs.Walk.{Walk, Did, did, faulty, and_then, also, is_there, redeclared}
use Rattle.go_typing.specs.Expressions.{Valued}
use Rattle.go_typing.specs.Declare.{SpecType, constant_flaws, declare_constant, const_unknown, spec_place, count_told}
use Rattle.go_expr.specs.Raw.{Raw}
use Rattle.go_assign.specs.Settled.{all_known, all_told}
use Rattle.go_assign.specs.SpecView.{constant_raw}
use Rattle.go_body.specs.LocalVarsSpecs.{same_count}

-- with what is told of it as a constant
abbrev pub with_constant : Place → Valued → Valued
with_constant at v = record { answer = v.answer; flaws = v.flaws ++ constant_flaws at v.answer }

-- a name with its value
abbrev pub one_constant : Name → Valued → Walk → Did
one_constant n v w = faulty (redeclared n (is_there n w) ++ v.flaws) (declare_constant n (is_there n w) v.answer w)

-- a name without a value
abbrev pub unknown_constant : Name → Walk → Did
unknown_constant n w = faulty (redeclared n (is_there n w)) (declare_constant n (is_there n w) untyped_part w)

-- a value for each name
abbrev pub const_raws : List NamedTy → SpecType → List Name → List Raw → Walk → Did
const_raws ns s (n ∷ names) (r ∷ rs) w = and_then (one_constant n (constant_raw ns s r) w) (const_raws ns s names rs)
const_raws ns s _ _ w = did [] w

abbrev pub const_given : List NamedTy → Place → SpecType → List Name → List Raw → Walk → Did
const_given ns at s names rs w =
    if same_count names rs then const_raws ns s names rs w
    else also (count_told s (spec_place names at) (all_known rs) (all_told rs)) (const_unknown names w)
