-- Calls, of functions that are called by their names and for `len`, `print` and `println`.
-- Go specification (as of Go 1.17), "Calls", "Length and capacity", "Bootstrapping".
use Rattle.std.specs.Prelude.{ℕ, pos, length, List, [], ◌∷◌, ◌++◌, Bool, true, false, ◌&&◌, if◌then◌else◌, Option, Some, None}
use Rattle.gj_base.specs.declared.place.Place.{Place}
use Rattle.gj_base.specs.declared.kind.Kind.TheVariants.{I32}
use Rattle.go_const.specs.declared.constant.Const.{Const}
use Rattle.go_const.specs.declared.constant.Const.TheVariants as form
use Rattle.go_const.specs.Answer.{settled_of}
use Rattle.go_type.specs.Tree as ty
use Rattle.go_type.specs.Tree.{Ty, Tys, no_tys, more_tys}
use Rattle.go_type.specs.Named.{NamedTy}
use Rattle.go_type.specs.Underlying.{underlying}
use Rattle.go_core.specs.SameType.{same_types}
use Rattle.go_core.specs.CoreTree as core
use Rattle.go_core.specs.CoreTree.{Expr, Exprs, no_exprs, expr}
use Rattle.go_typing.specs.Env.{int_type, Builtin, Len, Print, Println, name_of_builtin}
use Rattle.go_typing.specs.Answer.{Flaw, Answer, value, pending, type_, does, wrong, untyped_part, bad, bad_name, unless, where_known, all_known, Part}
use Rattle.go_typing.specs.Operand.{Operand, typed, constant_operand, truth_operand, pending_operand, nil_operand, folded, default_type, pending_flaws, Settled, settled, unsettled, settled_at, settled_alone, passed_at}
use Rattle.go_typing.specs.Wanted.{no_values, operands_of}
use Rattle.go_typing.specs.Convert.{conversion_row, is_scalar}

-- ---- arguments

-- What a call is given: one value for each argument, or the several values of one call. "If f has at least one
-- parameter, f(g(parameters_of_g)) is a call of f with the return values of g."
pub data Given : Type 0 where
  each : List (Place × Operand) → Given
  several : Place → Expr → Tys → Given
  no_givens : Flaw → List Flaw → Given

abbrev pub no_givens_unless : List Flaw → Given → Given
no_givens_unless [] g = g
no_givens_unless (f ∷ fs) g = no_givens f fs

-- the several values of a call
abbrev pub values_of : Answer → Option (Expr × Tys)
values_of (value c (ty.tuple (more_tys t (more_tys u ts))) v) = Some (c, more_tys t (more_tys u ts))
values_of _ = None

abbrev pub given_each : List Part → Given
given_each xs = no_givens_unless (no_values xs) (each (operands_of xs))

abbrev pub given_one : Part → Option (Expr × Tys) → Given
given_one x None = given_each (x ∷ [])
given_one x (Some vs) = several x.place vs.0 vs.1

abbrev pub given : List Part → Given
given (x ∷ []) = given_one x (values_of x.answer)
given xs = given_each xs

-- ---- the values of arguments

-- the values that are passed, or what is wrong with them
pub data Values : Type 0 where
  values : Exprs → Values
  unfit : Flaw → List Flaw → Values

abbrev pub more_unfit : Flaw → List Flaw → Values → Values
more_unfit f fs (values es) = unfit f fs
more_unfit f fs (unfit g gs) = unfit f (fs ++ g ∷ gs)

abbrev pub more_values : Expr → Values → Values
more_values c (values es) = values (expr c es)
more_values c (unfit f fs) = unfit f fs

abbrev pub and_settled : Settled → Values → Values
and_settled (settled c t v) vs = more_values c vs
and_settled (unsettled f fs) vs = more_unfit f fs vs

abbrev pub same_count : Tys → List (Place × Operand) → Bool
same_count no_tys [] = true
same_count (more_tys t ts) (x ∷ xs) = same_count ts xs
same_count _ _ = false

abbrev pub one_count : Tys → Tys → Bool
one_count no_tys no_tys = true
one_count (more_tys t ts) (more_tys u us) = one_count ts us
one_count _ _ = false

-- the built-in functions whose rows are built
abbrev pub is_built : Builtin → Bool
is_built Len = true
is_built Print = true
is_built Println = true
is_built _ = false

-- the core of a call's values, and its types
abbrev pub call_value : Tys → Expr → Answer
call_value (more_tys t no_tys) c = value c t None
call_value rs c = value c (ty.tuple rs) None

abbrev pub call_with : ℕ → Tys → Values → Answer
call_with id rs (values es) = call_value rs (core.call rs (core.function id) es)
call_with id rs (unfit f fs) = wrong f fs

abbrev pub print_with : (ends_line : Bool) → Values → Answer
print_with ends_line (values es) = does (core.print es ends_line)
print_with ends_line (unfit f fs) = wrong f fs

abbrev pub only_value : Expr → Exprs
only_value c = expr c no_exprs

abbrev pub ends_line : Builtin → Bool
ends_line Println = true
ends_line _ = false

-- the length of a constant string, an `int`
abbrev pub constant_length : Place → List ℕ → Answer
constant_length at bytes = folded at int_type (settled_of (Some I32) false (pos (length bytes)))

module _ (ns : List NamedTy) where
  -- each argument as a value of its parameter's type (61, and 32 for a constant that the type doesn't hold)
  abbrev pub values_at : Tys → List (Place × Operand) → Values
  values_at (more_tys t ts) (x ∷ xs) = and_settled (settled_at x.0 t (passed_at ns x.0 t x.1)) (values_at ts xs)
  values_at _ _ = values no_exprs

  -- each argument with its own type (73, and 32)
  abbrev pub values_alone : List (Place × Operand) → Values
  values_alone [] = values no_exprs
  values_alone (x ∷ xs) = and_settled (settled_alone ns x.0 x.1) (values_alone xs)

  -- ---- calls of functions

  -- of the result type, or of several (60). The several values of a call go as they are: in these rows types are named, so they
  -- are assignable to identical types alone.
  abbrev pub function_given : Place → ℕ → (params results : Tys) → Given → Answer
  function_given at id ps rs (each xs) = if same_count ps xs then call_with id rs (values_at ps xs) else bad at 60
  function_given at id ps rs (several p c ts) =
      if one_count ps ts then (if same_types ps ts then call_with id rs (values (only_value c)) else bad p 61) else bad at 60
  function_given at id ps rs (no_givens f fs) = wrong f fs

  abbrev pub spread_given : Place → Given → Answer
  spread_given at (no_givens f fs) = wrong f fs
  spread_given at g = bad at 60

  -- own: calls of variadic functions are not built yet
  abbrev pub function_row : Place → ℕ → (params results : Tys) → (variadic spread : Bool) → List Part → Answer
  function_row at id ps rs true spread xs = where_known (all_known xs) (bad at 0)
  function_row at id ps rs false true xs = where_known (all_known xs) (spread_given at (given xs))
  function_row at id ps rs false false xs = where_known (all_known xs) (function_given at id ps rs (given xs))

  -- ---- `len`

  abbrev pub length_of_typed : Place → Expr → Ty → Ty → Option Const → Answer
  length_of_typed at c t ty.str (Some (form.Text s)) = constant_length at s
  length_of_typed at c t ty.str v = value (core.len t c) int_type None
  length_of_typed at c t (ty.array n e) v = bad at 0
  length_of_typed at c t (ty.slice e) v = bad at 0
  length_of_typed at c t (ty.pointer e) v = bad at 0
  length_of_typed at c t (ty.mapping k e) v = bad at 0
  length_of_typed at c t (ty.chan d e) v = bad at 0
  length_of_typed at c t _ v = bad_name at 72 (name_of_builtin Len)

  abbrev pub length_of_constant : Place → Const → Answer
  length_of_constant at (form.Text s) = constant_length at s
  length_of_constant at k = bad_name at 72 (name_of_builtin Len)

  -- p is the argument's place
  abbrev pub length_row : Place → Place → Operand → Answer
  length_row at p (typed c t v) = length_of_typed at c t (underlying ns t) v
  length_row at p (constant_operand k) = length_of_constant at k
  length_row at p (truth_operand c) = bad_name at 72 (name_of_builtin Len)
  length_row at p (pending_operand x b) = unless (pending_flaws ns (default_type b) x) (bad_name at 72 (name_of_builtin Len))
  length_row at p nil_operand = bad p 73

  abbrev pub length_given : Place → Given → Answer
  length_given at (each (x ∷ [])) = length_row at x.0 x.1
  length_given at (each xs) = bad at 60
  length_given at (several p c ts) = bad at 60
  length_given at (no_givens f fs) = wrong f fs

  -- ---- `print` and `println`. own: arguments whose underlying type is boolean, integer or string

  abbrev pub is_printable : Operand → Bool
  is_printable (typed c t v) = is_scalar (underlying ns t)
  is_printable _ = true

  abbrev pub all_printable : List (Place × Operand) → Bool
  all_printable [] = true
  all_printable (x ∷ xs) = is_printable x.1 && all_printable xs

  abbrev pub all_scalar : Tys → Bool
  all_scalar no_tys = true
  all_scalar (more_tys t ts) = is_scalar (underlying ns t) && all_scalar ts

  abbrev pub print_given : Place → Builtin → Given → Answer
  print_given at b (each xs) = if all_printable xs then print_with (ends_line b) (values_alone xs) else bad_name at 72 (name_of_builtin b)
  print_given at b (several p c ts) = if all_scalar ts then print_with (ends_line b) (values (only_value c)) else bad_name at 72 (name_of_builtin b)
  print_given at b (no_givens f fs) = wrong f fs

  -- a built-in function that is not built yet is a fault whatever its arguments are
  abbrev pub built_in_call : Place → Builtin → Given → Answer
  built_in_call at Len g = length_given at g
  built_in_call at Print g = print_given at Print g
  built_in_call at Println g = print_given at Println g
  built_in_call at b g = bad at 0

  abbrev pub built_in_row : Place → Builtin → (spread : Bool) → List Part → Answer
  built_in_row at b spread xs =
      if is_built b then where_known (all_known xs) (if spread then spread_given at (given xs) else built_in_call at b (given xs)) else bad at 0

  -- ---- what else is called: a type is a conversion; a function value is not built yet (59)

  abbrev pub called_value : Place → Place → Ty → Answer
  called_value at p (ty.func ps rs v) = bad at 0
  called_value at p (ty.tuple ts) = bad p 52
  called_value at p _ = bad p 59

  -- p is the place of what is called
  abbrev pub called_known : Place → Place → Answer → (spread : Bool) → List Part → Answer
  called_known at p (value c t v) spread xs = where_known (all_known xs) (called_value at p (underlying ns t))
  called_known at p (pending x b) spread xs = where_known (all_known xs) (unless (pending_flaws ns (default_type b) x) (bad p 59))
  called_known at p (type_ t) spread xs = conversion_row ns at t spread xs
  called_known at p (wrong f fs) spread xs = untyped_part
  called_known at p untyped_part spread xs = untyped_part
  called_known at p _ spread xs = where_known (all_known xs) (bad p 52)

  abbrev pub called_row : Place → Part → (spread : Bool) → List Part → Answer
  called_row at f spread xs = called_known at f.place f.answer spread xs
