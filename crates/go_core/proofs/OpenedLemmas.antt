-- Slots, types and counts of what is opened.
use Rattle.std.proofs.Common.{refl, ap, subst}
use Rattle.std.specs.Prelude.{◌≡◌, ℕ, suc, List, [], ◌∷◌, ◌++◌, Bool, true, false, Option, Some, None, length, option_and_then, ◌==◌, if◌then◌else◌}
use Rattle.std.proofs.lemmas.Bool.{eqb-true}
use Rattle.go_type.specs.Tree as ty
use Rattle.go_type.specs.Tree.{Ty, Tys, no_tys, more_tys}
use Rattle.go_type.specs.Underlying.{underlying}
use Rattle.go_core.specs.CoreTree.{CoreProgram, Var}
use Rattle.go_core.specs.TypeOf.{listed_types, with_truth, pointed_type, element_type, one_type, field_type, FieldTy, channel_type, var_type}
use Rattle.go_core.specs.SoundNode.{IsSlice, IsArray, IsChannel}
use Rattle.go_core.specs.Sound.{HasKeyType}
use Rattle.go_core.specs.Opened.{type_count, one_or_two}
use Rattle.go_core.specs.Applies.{Slot, a_value, values_of_types, pushed_slots}
use Rattle.go_core.specs.TasksTyped.{HasVar, HasVars}

some_inj : {A : Type 0} (x y : A) → Some x ≡ Some y → x ≡ y
some_inj x y e = cc

pub pushed_append : (xs ys st : List Slot) → pushed_slots (xs ++ ys) st ≡ pushed_slots ys (pushed_slots xs st)
pushed_append [] ys st = refl
pushed_append (x ∷ xs) ys st = pushed_append xs ys (x ∷ st)

pub values_append : (xs ys : List Ty) → values_of_types (xs ++ ys) ≡ values_of_types xs ++ values_of_types ys
values_append [] ys = refl
values_append (x ∷ xs) ys = ap (λ l. a_value x ∷ l) (values_append xs ys)

pub values_length : (ts : List Ty) → length (values_of_types ts) ≡ length ts
values_length [] = refl
values_length (t ∷ ts) = ap suc (values_length ts)

pub types_counted : (ts : Tys) → length (listed_types ts) ≡ type_count ts
types_counted no_tys = refl
types_counted (more_tys t ts) = ap suc (types_counted ts)

pub truth_counted : (ok : Bool) (t : Ty) → length (with_truth ok (Some t)) ≡ one_or_two ok
truth_counted false t = refl
truth_counted true t = refl

-- ---- types of places

pointed_is : (u t : Ty) → pointed_type u ≡ Some t → u ≡ ty.pointer t
pointed_is (ty.pointer s) t e = ap ty.pointer (some_inj s t e)
pointed_is _ t e = absurd (cc)

pub record Pointed (p : CoreProgram) (ts : List Ty) (t : Ty) : Type 0 where
  pub by : Ty
  pub is_one : ts ≡ by ∷ []
  pub points : underlying p.names by ≡ ty.pointer t

pub pointed : (p : CoreProgram) (ts : List Ty) (t : Ty) → option_and_then (λ u. pointed_type (underlying p.names u)) (one_type ts) ≡ Some t → Pointed p ts t
pointed p [] t e = absurd (cc)
pointed p (s ∷ []) t e = record { by = s; is_one = refl; points = pointed_is (underlying p.names s) t e }
pointed p (s ∷ u ∷ ts) t e = absurd (cc)

pub array_is : (u t : Ty) → IsArray u → element_type u ≡ Some t → (n : ℕ) × (u ≡ ty.array n t)
array_is (ty.array n s) t h e = (n, ap (ty.array n) (some_inj s t e))
array_is _ t h e = absurd h

pub slice_is : (u t : Ty) → IsSlice u → element_type u ≡ Some t → u ≡ ty.slice t
slice_is (ty.slice s) t h e = ap ty.slice (some_inj s t e)
slice_is _ t h e = absurd h

pub field_is : (o : Option FieldTy) (t : Ty) → field_type o ≡ Some t → (f : FieldTy) × (o ≡ Some f) × (f.type_ ≡ t)
field_is None t e = absurd (cc)
field_is (Some f) t e = (f, refl, some_inj f.type_ t e)

pub map_is : (u k : Ty) → HasKeyType u k → (v : Ty) × (u ≡ ty.mapping k v)
map_is (ty.mapping a v) k h = (v, ap (λ b. ty.mapping b v) h)
map_is _ k h = absurd h

pub channel_is : (u : Ty) → IsChannel u → (t : Ty) × (channel_type u ≡ Some t)
channel_is (ty.chan d t) h = (t, refl)
channel_is _ h = absurd h

-- ---- variables in scope

scope_by : (p : CoreProgram) (has : List ℕ) (x : Var) (v : ℕ) (t : Ty) (others : Option Ty) → HasVar p has x.id x.type_ → (others ≡ Some t → HasVar p has v t)
    → (b : Bool) → (x.id == v) ≡ b → (if b then Some x.type_ else others) ≡ Some t → HasVar p has v t
scope_by p has x v t others h next true f g =
    subst (λ i. HasVar p has i t) (eqb-true x.id v f) (subst (λ u. HasVar p has x.id u) (some_inj x.type_ t g) h)
scope_by p has x v t others h next false f g = next g

pub scope_var : (p : CoreProgram) (has : List ℕ) (vars : List Var) (v : ℕ) (t : Ty) → HasVars p has vars → var_type v vars ≡ Some t → HasVar p has v t
scope_var p has [] v t h e = absurd (cc)
scope_var p has (x ∷ xs) v t h e = scope_by p has x v t (var_type v xs) h.0 (λ g. scope_var p has xs v t h.1 g) (x.id == v) refl e
