-- Which variables are boxed, as worked out by hand.
use Rattle.std.specs.Prelude.{[], ◌∷◌, false}
use Rattle.go_type.specs.Tree as ty
use Rattle.go_type.specs.Tree.{Ty, no_tys, more_tys}
use Rattle.go_core.specs.CoreTree as core
use Rattle.go_core.specs.CoreTree.{CoreFunc, CoreProgram}
use Rattle.go_core.specs.MeaningWords.{int, var, var_of, func_of, program, plus, set, n_, returns_}
use Rattle.go_mentions.specs.Boxed.{AreBoxed}

abbrev pub pointer_to_int : Ty
pointer_to_int = ty.pointer int

abbrev pub counter_type : Ty
counter_type = ty.func no_tys (more_tys int no_tys) false

-- `func f(a, b, c int) (r func() int) { p := &b; *p = c; return func() int { a = a + 1; return a } }`
abbrev pub count_func : CoreFunc
count_func = func_of (int ∷ int ∷ int ∷ []) (counter_type ∷ [])
    (var_of 10 int ∷ var_of 11 int ∷ var_of 12 int ∷ var_of 13 counter_type ∷ var_of 14 pointer_to_int ∷ []) []
    (core.declare (var_of 14 pointer_to_int)
    ∷ set 14 pointer_to_int (core.address pointer_to_int (core.local_ 11))
    ∷ core.store (core.to_place int (core.deref (var pointer_to_int 14)) ∷ []) (core.expr (var int 12) core.no_exprs)
    ∷ returns_ (core.closure counter_type 3 ∷ []) ∷ [])

abbrev pub step_func : CoreFunc
step_func = func_of [] (int ∷ []) (var_of 20 int ∷ []) (10 ∷ []) (set 10 int (plus (var int 10) (n_ 1)) ∷ returns_ (var int 10 ∷ []) ∷ [])

abbrev pub counting : CoreProgram
counting = program [] (count_func ∷ step_func ∷ [])

-- the captured variable and the one whose address is taken, and no other; of a literal, what it captured
pub record BoxedRows : Type 0 where
  pub of_the_function : AreBoxed counting 2 (10 ∷ 11 ∷ [])
  pub of_the_literal : AreBoxed counting 3 (10 ∷ [])
