-- Own: `x op= y` and `x++` by a left side and operands that are typed.
use Rattle.std.specs.Prelude.{List, [], ◌∷◌, ◌++◌}
use Rattle.gj_base.specs.declared.place.Place.{Place}
use Rattle.gj_base.specs.declared.kind.Op.{Op}
use Rattle.go_syntax.specs.Tree as t
use Rattle.go_type.specs.Named.{NamedTy}
use Rattle.go_type.specs.Tree.{Ty}
use Rattle.go_core.specs.CoreTree as core
use Rattle.go_core.specs.CoreTree.{to_place}
use Rattle.go_typing.specs.Answer.{Flaw, flaw, Answer, Part, own}
use Rattle.go_typing.specs.Wanted.{wanted}
use Rattle.go_typing.specs.Typing.{operator_row}
use Rattle.go_typing.specs.Expressions.{core_of}
use Rattle.go_typing.specs.Walk.{Walk, Did, faulty, uses_all}
use Rattle.go_typing.specs.Assign.{Left, left_blank, left_place, left_wrong, miscounted, where_typed, all_typed, all_in_flaws}
use Rattle.go_assign.specs.Assigning.{Gives, store_gives}

-- what the operator gives where a value of the left side's type is wanted
abbrev pub wanted_row : List NamedTy → Place → Op → Part → Part → Ty → Answer
wanted_row ns at op x y u = wanted ns at u (operator_row ns at op x y)

abbrev pub updated : List NamedTy → Place → Op → Left → Part → Part → List Flaw → Gives
updated ns at op left_blank x y fs = record { flaws = flaw x.place 52 ∷ fs; core = [] }
updated ns at op (left_wrong gs) x y fs = record { flaws = gs ++ fs; core = [] }
updated ns at op (left_place p u) x y fs =
    store_gives (fs ++ own (operator_row ns at op x y) ++ own (wanted_row ns at op x y u)) (to_place u p ∷ []) (core.expr (core_of (wanted_row ns at op x y u)) core.no_exprs)

-- the counts of left and right are wrong (84)
abbrev pub updates_not : Place → t.Exprs → t.Exprs → Walk → Did
updates_not at xs ys w = miscounted at w xs ys (uses_all xs (uses_all ys w))

abbrev pub steps_not : Place → t.Exprs → Walk → Did
steps_not at xs w = faulty (where_typed (all_typed w xs) (all_in_flaws w xs) (flaw at 84 ∷ [])) (uses_all xs w)
