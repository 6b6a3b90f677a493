-- The test of the predeclared types is exact.
use Rattle.std.proofs.Common.{arith, ◌∙◌, refl, sym, ap, subst}
use Rattle.std.specs.Prelude.{◌≡◌, ◌<◌, ◌≤◌, ◌==◌, ◌&&◌, ℕ, zero, suc, List, [], ◌∷◌, Bool, true, false, bytes_eq, codes, length}
use Rattle.std.proofs.Math.ListN.{get_or}
use Rattle.std.specs.List.{AllByRecursion}
use Rattle.std.proofs.lemmas.Bool.{eqb-true}
use Rattle.std.proofs.lemmas.Slice.Eq.{bytes_eq-Decides}
use Rattle.go_type.specs.Same.{int_code, basis_code}
use Rattle.go_type.specs.declared.types.IntName.{IntName}
use Rattle.go_type.specs.declared.types.IntName.TheVariants as integer
use Rattle.go_type.specs.declared.types.Basis.{Basis}
use Rattle.go_type.specs.declared.types.Basis.TheVariants as basis
use Rattle.go_type.specs.declared.types.TypeId.{TypeId}
use Rattle.go_type.specs.declared.table.TypeTable.{TypeTable}
use Rattle.go_type.specs.Tree as ty
use Rattle.go_type.specs.Tree.{Ty, no_tys, more_tys, no_specs, more_specs}
use Rattle.go_type.specs.Levels.{tree_of}
use Rattle.go_type.specs.Predeclared.{predeclared, error_interface}
use Rattle.go_type.specs.Table.{places, size, KeepsTrees}
use Rattle.go_operands.specs.RulesReady.{HasPredeclared}
use Rattle.go_operands.specs.ScopesReady.{is_error, is_like, Begins}

first_true : (a b : Bool) → (a && b) ≡ true → a ≡ true
first_true true b h = refl
first_true false b h = cc

second_true : (a b : Bool) → (a && b) ≡ true → b ≡ true
second_true true b h = h
second_true false b h = absurd (cc)

bytes_one : (x y : List ℕ) → bytes_eq x y ≡ true → x ≡ y
bytes_one x y h = grind (arith, bytes_eq-Decides x y)

int_one : (a b : IntName) → (int_code a == int_code b) ≡ true → b ≡ a
int_one integer.Int integer.Int h = refl
int_one integer.Int8 integer.Int8 h = refl
int_one integer.Int16 integer.Int16 h = refl
int_one integer.Int32 integer.Int32 h = refl
int_one integer.Int64 integer.Int64 h = refl
int_one integer.Uint integer.Uint h = refl
int_one integer.Uint8 integer.Uint8 h = refl
int_one integer.Uint16 integer.Uint16 h = refl
int_one integer.Uint32 integer.Uint32 h = refl
int_one integer.Uint64 integer.Uint64 h = refl
int_one integer.Uintptr integer.Uintptr h = refl
int_one _ _ h = absurd (cc)

basis_one : (a b : Basis) → (basis_code a == basis_code b) ≡ true → b ≡ a
basis_one basis.Bool basis.Bool h = refl
basis_one basis.Int basis.Int h = refl
basis_one basis.Rune basis.Rune h = refl
basis_one basis.Str basis.Str h = refl
basis_one _ _ h = absurd (cc)

error_one : (t : Ty) → is_error t ≡ true → t ≡ error_interface
error_one (ty.interface (more_specs n p no_tys (more_tys ty.str no_tys) false no_specs)) h =
    ap (λ (x : List ℕ). ty.interface (more_specs x p no_tys (more_tys ty.str no_tys) false no_specs)) (bytes_one n (codes "Error") (first_true (bytes_eq n (codes "Error")) (bytes_eq p []) h))
    ∙ ap (λ (x : List ℕ). ty.interface (more_specs (codes "Error") x no_tys (more_tys ty.str no_tys) false no_specs)) (bytes_one p [] (second_true (bytes_eq n (codes "Error")) (bytes_eq p []) h))
error_one _ h = absurd (cc)

-- what is like a type is that type
abbrev IsOne : Ty → Type 0
IsOne p = (t : Ty) → is_like p t ≡ true → t ≡ p

one_bool : IsOne ty.bool
one_bool ty.bool h = refl
one_bool _ h = absurd (cc)

one_str : IsOne ty.str
one_str ty.str h = refl
one_str _ h = absurd (cc)

one_nil : IsOne ty.nil
one_nil ty.nil h = refl
one_nil _ h = absurd (cc)

one_int : (a : IntName) → IsOne (ty.int a)
one_int a (ty.int b) h = ap ty.int (int_one a b h)
one_int a _ h = absurd (cc)

one_untyped : (a : Basis) → IsOne (ty.untyped a)
one_untyped a (ty.untyped b) h = ap ty.untyped (basis_one a b h)
one_untyped a _ h = absurd (cc)

one_named : (i : ℕ) → IsOne (ty.named i)
one_named i (ty.named j) h = ap ty.named (sym (eqb-true i j h))
one_named i _ h = absurd (cc)

one_error : IsOne error_interface
one_error t h = error_one t h

all_one : AllByRecursion IsOne predeclared
all_one = (
  one_bool,
  (
    one_str,
    (
      one_nil,
      (
        one_untyped basis.Bool,
        (
          one_untyped basis.Int,
          (
            one_untyped basis.Rune,
            (
              one_untyped basis.Str,
              (
                one_int integer.Int,
                (
                  one_int integer.Int8,
                  (
                    one_int integer.Int16,
                    (
                      one_int integer.Int32,
                      (
                        one_int integer.Int64,
                        (
                          one_int integer.Uint,
                          (
                            one_int integer.Uint8,
                            (
                              one_int integer.Uint16,
                              (
                                one_int integer.Uint32,
                                (
                                  one_int integer.Uint64,
                                  (
                                    one_int integer.Uintptr,
                                    (one_error, (one_named 0, tt)),
                                  ),
                                ),
                              ),
                            ),
                          ),
                        ),
                      ),
                    ),
                  ),
                ),
              ),
            ),
          ),
        ),
      ),
    ),
  ),
)

all_self : AllByRecursion (λ (p : Ty). is_like p p ≡ true) predeclared
all_self = (refl, (refl, (refl, (refl, (refl, (refl, (refl, (refl, (refl, (refl, (refl, (refl, (refl, (refl, (refl, (refl, (refl, (refl, (refl, (refl, tt))))))))))))))))))))

at : (P : Ty → Type 0) (ps : List Ty) → AllByRecursion P ps → (i : ℕ) (d : Ty) → i < length ps → P (get_or ps i d)
at P [] h i d k = absurd (omega arith)
at P (p ∷ ps) h zero d k = h.0
at P (p ∷ ps) h (suc i) d k = at P ps h.1 i d (omega arith)

pub has : (t : TypeTable) → Begins t → HasPredeclared t
has t h = record {
  begins = λ (i : TypeId) k. at IsOne predeclared all_one i.0 ty.bool k (tree_of (places t) i) (h.0 i k);
  size = h.1;
}

pub begins : (t : TypeTable) → HasPredeclared t → Begins t
begins t h =
    (λ (i : TypeId) k. subst (λ (x : Ty). is_like (tree_of predeclared i) x ≡ true) (sym (h.begins i k)) (at (λ (p : Ty). is_like p p ≡ true) predeclared all_self i.0 ty.bool k), h.size)

-- they stay as the table grows
pub begins-kept : (old new : TypeTable) → KeepsTrees old new → size old ≤ size new → Begins old → Begins new
begins-kept old new kept more h =
    let many : 20 ≤ size old = h.1 in
    (λ (i : TypeId) k. subst (λ (x : Ty). is_like (tree_of predeclared i) x ≡ true) (sym (kept i (omega arith))) (h.0 i k), omega arith)
