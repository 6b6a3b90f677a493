-- Which nodes are single values, and which several.
use Rattle.std.proofs.Common.{◌≡◌, ◌<◌, ◌≤◌, refl, ap, sym, ◌∙◌, List, [], ◌∷◌, ◌++◌, length, arith}
use Rattle.std.specs.Prelude.{Bool, true, false, Option, Some, None, if◌then◌else◌}
use Rattle.gj_base.specs.declared.place.Place.{Place}
use Rattle.go_const.specs.declared.constant.Const.{Const}
use Rattle.go_type.specs.Tree as ty
use Rattle.go_type.specs.Tree.{Ty, Tys, no_tys, more_tys}
use Rattle.go_type.specs.Levels.{trees_of}
use Rattle.go_type.specs.declared.types.TypeId.{TypeId}
use Rattle.go_core.specs.CoreTree.{Expr}
use Rattle.go_typing.specs.Answer.{Flaw, flaw, value, Part, all_known}
use Rattle.go_typing.specs.Operand.{Operand, operand_of}
use Rattle.go_typing.specs.Wanted.{no_value, no_values, operands_of}
use Rattle.go_typing.specs.Call.{each, several, no_givens_unless, given_one, given_each, values_of}
use Rattle.go_operands.specs.AnswerView.{answer_view}
use Rattle.go_operands.specs.declared.operands.part.Part as parts
use Rattle.go_operands.specs.Parts.{part_view}
use Rattle.go_calls.specs.CallView.{types_in, parts_view}
use Rattle.go_calls.specs.GivenView.{is_value, is_one, is_some, is_several, has_several, given_or_not, given_by, handed, unknown_part, handed_unless, operands_given}

pub value_there : (at : Place) (x : Option Operand) → is_value x ≡ true → no_value at x ≡ []
value_there at None h = absurd (cc)
value_there at (Some x) h = refl

pub value_missing : (at : Place) (x : Option Operand) → is_value x ≡ false → no_value at x ≡ flaw at 52 ∷ []
value_missing at None h = refl
value_missing at (Some x) h = absurd (cc)

pub one_is : (c : Expr) (t : Ty) (v : Option Const) → is_value (operand_of c t v) ≡ is_one t
one_is c ty.bool v = refl
one_is c ty.str v = refl
one_is c (ty.int name) v = refl
one_is c ty.nil v = refl
one_is c (ty.untyped b) v = refl
one_is c (ty.array n e) v = refl
one_is c (ty.slice e) v = refl
one_is c (ty.struct fs) v = refl
one_is c (ty.pointer e) v = refl
one_is c (ty.func ps rs variadic) v = refl
one_is c (ty.interface ms) v = refl
one_is c (ty.mapping k e) v = refl
one_is c (ty.chan d e) v = refl
one_is c (ty.named i) v = refl
one_is c (ty.tuple ts) v = refl

several_in : (c : Expr) (ts : Tys) (v : Option Const) → is_some (values_of (value c (ty.tuple ts) v)) ≡ is_several (ty.tuple ts)
several_in c no_tys v = refl
several_in c (more_tys t no_tys) v = refl
several_in c (more_tys t (more_tys u ts)) v = refl

pub several_is : (c : Expr) (t : Ty) (v : Option Const) → is_some (values_of (value c t v)) ≡ is_several t
several_is c ty.bool v = refl
several_is c ty.str v = refl
several_is c (ty.int name) v = refl
several_is c ty.nil v = refl
several_is c (ty.untyped b) v = refl
several_is c (ty.array n e) v = refl
several_is c (ty.slice e) v = refl
several_is c (ty.struct fs) v = refl
several_is c (ty.pointer e) v = refl
several_is c (ty.func ps rs variadic) v = refl
several_is c (ty.interface ms) v = refl
several_is c (ty.mapping k e) v = refl
several_is c (ty.chan d e) v = refl
several_is c (ty.named i) v = refl
several_is c (ty.tuple ts) v = several_in c ts v

pub more_than_one : (ts : List Ty) (is : List TypeId) → 1 < length is → is_several (ty.tuple (trees_of ts is)) ≡ true
more_than_one ts [] h = absurd (omega (arith, h))
more_than_one ts (i ∷ []) h = absurd (omega (arith, h))
more_than_one ts (i ∷ j ∷ is) h = refl

pub one_at_most : (ts : List Ty) (is : List TypeId) → length is ≤ 1 → is_several (ty.tuple (trees_of ts is)) ≡ false
one_at_most ts [] h = refl
one_at_most ts (i ∷ []) h = refl
one_at_most ts (i ∷ j ∷ is) h = absurd (omega (arith, h))

handed_by : (b : Bool) (fs : List Flaw) (ys : List (Place × Operand)) → given_by (if b then handed_unless fs (handed ys) else unknown_part) ≡ (if b then Some (no_givens_unless fs (each ys)) else None)
handed_by true [] ys = refl
handed_by true (f ∷ fs) ys = refl
handed_by false fs ys = refl

each_by : (xs : List Part) → given_by (operands_given xs) ≡ (if all_known xs then Some (given_each xs) else None)
each_by xs = handed_by (all_known xs) (no_values xs) (operands_of xs)

lone : (x : Part) (o : Option (Expr × Tys)) → is_some o ≡ false → given_one x o ≡ given_each (x ∷ [])
lone x None h = refl
lone x (Some vs) h = absurd (cc)

pub each_given : (xs : List Part) → has_several xs ≡ false → given_by (operands_given xs) ≡ given_or_not xs
each_given [] h = each_by []
each_given (x ∷ []) h = each_by (x ∷ []) ∙ ap (λ g. if all_known (x ∷ []) then Some g else None) (sym (lone x (values_of x.answer) h))
each_given (x ∷ y ∷ xs) h = each_by (x ∷ y ∷ xs)

-- the several values of the one part
tuple_given : (p : Place) (c : Expr) (ts : Tys) (v : Option Const) → is_several (ty.tuple ts) ≡ true → given_or_not (record { place = p; answer = value c (ty.tuple ts) v } ∷ []) ≡ Some (several p c ts)
tuple_given p c no_tys v h = absurd (cc)
tuple_given p c (more_tys t no_tys) v h = absurd (cc)
tuple_given p c (more_tys t (more_tys u ts)) v h = refl

pub several_given : (p : Place) (c : Expr) (t : Ty) (v : Option Const) → is_some (values_of (value c t v)) ≡ true → given_or_not (record { place = p; answer = value c t v } ∷ []) ≡ Some (several p c (types_in t))
several_given p c ty.bool v h = absurd (cc)
several_given p c ty.str v h = absurd (cc)
several_given p c (ty.int name) v h = absurd (cc)
several_given p c ty.nil v h = absurd (cc)
several_given p c (ty.untyped b) v h = absurd (cc)
several_given p c (ty.array n e) v h = absurd (cc)
several_given p c (ty.slice e) v h = absurd (cc)
several_given p c (ty.struct fs) v h = absurd (cc)
several_given p c (ty.pointer e) v h = absurd (cc)
several_given p c (ty.func ps rs variadic) v h = absurd (cc)
several_given p c (ty.interface ms) v h = absurd (cc)
several_given p c (ty.mapping k e) v h = absurd (cc)
several_given p c (ty.chan d e) v h = absurd (cc)
several_given p c (ty.named i) v h = absurd (cc)
several_given p c (ty.tuple ts) v h = tuple_given p c ts v (sym (several_in c ts v) ∙ h)

-- where there are several, there is one part
pub only_part : (ts : List Ty) (xs : List parts.Part) (x : parts.Part) → has_several (parts_view ts (xs ++ x ∷ [])) ≡ true → parts_view ts (xs ++ x ∷ []) ≡ part_view ts x ∷ []
only_part ts [] x h = refl
only_part ts (y ∷ []) x h = absurd (cc)
only_part ts (y ∷ z ∷ ys) x h = absurd (cc)

pub has_alone : (ts : List Ty) (x : parts.Part) (xs : List parts.Part) → length xs ≡ 0 → has_several (parts_view ts (x ∷ xs)) ≡ is_some (values_of (answer_view ts x.answer))
has_alone ts x [] h = refl
has_alone ts x (y ∷ ys) h = absurd (omega arith)

pub has_more : (ts : List Ty) (x : parts.Part) (xs : List parts.Part) → 0 < length xs → has_several (parts_view ts (x ∷ xs)) ≡ false
has_more ts x [] h = absurd (omega arith)
has_more ts x (y ∷ ys) h = refl

pub several_there : (ts : List Ty) (xs : List parts.Part) → has_several (parts_view ts xs) ≡ true → 0 < length xs
several_there ts [] h = absurd (cc)
several_there ts (x ∷ xs) h = omega arith
