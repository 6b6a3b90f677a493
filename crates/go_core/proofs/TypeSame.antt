-- Each type compares as identical to itself.
use Rattle.std.proofs.Common.{refl, sym, ◌∙◌, subst, arith}
use Rattle.std.specs.Prelude.{◌≡◌, ℕ, ◌==◌, ◌&&◌, List, Bool, true, false, bytes_eq}
use Rattle.std.proofs.lemmas.Bool.{eq-eqb}
use Rattle.std.proofs.lemmas.Slice.Eq.{bytes_eq-Decides}
use Rattle.go_type.specs.Same.{int_code, basis_code, dir_code}
use Rattle.go_type.specs.Tree as ty
use Rattle.go_type.specs.Tree.{Ty, Tys, Fields, Specs, no_tys, more_tys, no_fields, more_fields, no_specs, more_specs}
use Rattle.go_core.specs.SameType.{same_truth, same_type, same_types, same_fields, same_specs}

both : (a b : Bool) → a ≡ true → b ≡ true → (a && b) ≡ true
both a b e f = subst (λ c. (c && b) ≡ true) (sym e) f

truth_same : (a : Bool) → same_truth a a ≡ true
truth_same true = refl
truth_same false = refl

bytes_same : (x : List ℕ) → bytes_eq x x ≡ true
bytes_same x = grind (arith, bytes_eq-Decides x x)

number_same : (n : ℕ) → (n == n) ≡ true
number_same n = eq-eqb n n refl

mutual
  type_same : (a : Ty) → same_type a a ≡ true
  type_same ty.bool = refl
  type_same ty.str = refl
  type_same (ty.int a) = number_same (int_code a)
  type_same ty.nil = refl
  type_same (ty.untyped a) = number_same (basis_code a)
  type_same (ty.array n a) = both (n == n) (same_type a a) (number_same n) (type_same a)
  type_same (ty.slice a) = type_same a
  type_same (ty.struct fs) = fields_same fs
  type_same (ty.pointer a) = type_same a
  type_same (ty.func ps rs v) =
      both (same_types ps ps && same_types rs rs) (same_truth v v) (both (same_types ps ps) (same_types rs rs) (types_same ps) (types_same rs)) (truth_same v)
  type_same (ty.interface ms) = specs_same ms
  type_same (ty.mapping k v) = both (same_type k k) (same_type v v) (type_same k) (type_same v)
  type_same (ty.chan d a) = both (dir_code d == dir_code d) (same_type a a) (number_same (dir_code d)) (type_same a)
  type_same (ty.named i) = number_same i
  type_same (ty.tuple ts) = types_same ts

  types_same : (ts : Tys) → same_types ts ts ≡ true
  types_same no_tys = refl
  types_same (more_tys t ts) = both (same_type t t) (same_types ts ts) (type_same t) (types_same ts)

  fields_same : (fs : Fields) → same_fields fs fs ≡ true
  fields_same no_fields = refl
  fields_same (more_fields a q t e tag fs) =
      both (bytes_eq a a && bytes_eq q q && same_type t t && same_truth e e && bytes_eq tag tag) (same_fields fs fs)
      (both (bytes_eq a a && bytes_eq q q && same_type t t && same_truth e e) (bytes_eq tag tag)
      (both (bytes_eq a a && bytes_eq q q && same_type t t) (same_truth e e)
      (both (bytes_eq a a && bytes_eq q q) (same_type t t) (both (bytes_eq a a) (bytes_eq q q) (bytes_same a) (bytes_same q)) (type_same t)) (truth_same e)) (bytes_same tag))
      (fields_same fs)

  specs_same : (ms : Specs) → same_specs ms ms ≡ true
  specs_same no_specs = refl
  specs_same (more_specs a q ps rs v ms) =
      both (bytes_eq a a && bytes_eq q q && same_types ps ps && same_types rs rs && same_truth v v) (same_specs ms ms)
      (both (bytes_eq a a && bytes_eq q q && same_types ps ps && same_types rs rs) (same_truth v v)
      (both (bytes_eq a a && bytes_eq q q && same_types ps ps) (same_types rs rs)
      (both (bytes_eq a a && bytes_eq q q) (same_types ps ps) (both (bytes_eq a a) (bytes_eq q q) (bytes_same a) (bytes_same q)) (types_same ps)) (types_same rs)) (truth_same v))
      (specs_same ms)

pub not_same : (a b : Ty) → a ≡ b → same_type a b ≡ false → ⊥
not_same a b e f = absurd_bool (sym (subst (λ c. same_type a c ≡ true) e (type_same a)) ∙ f)
  where
    absurd_bool : true ≡ false → ⊥
    absurd_bool h = absurd (cc)
