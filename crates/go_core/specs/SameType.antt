-- Go specification (as of Go 1.17), "Type identity": whether two types are identical, by their trees.
use Rattle.std.specs.Prelude.{Bool, true, false, ◌&&◌, ◌==◌, not, bytes_eq}
use Rattle.go_type.specs.Same.{int_code, basis_code, dir_code}
use Rattle.go_type.specs.Tree.{Ty, Tys, Fields, Specs, bool, str, int, nil, untyped, array, slice, struct, pointer, func, interface, mapping, chan, named, tuple, no_tys, more_tys, no_fields, more_fields, no_specs, more_specs}

abbrev pub same_truth : Bool → Bool → Bool
same_truth true b = b
same_truth false b = not b

abbrev mutual
  pub same_type : Ty → Ty → Bool
  same_type bool bool = true
  same_type str str = true
  same_type (int a) (int b) = int_code a == int_code b
  same_type nil nil = true
  same_type (untyped a) (untyped b) = basis_code a == basis_code b
  same_type (array m a) (array n b) = (m == n) && same_type a b
  same_type (slice a) (slice b) = same_type a b
  same_type (struct fs) (struct gs) = same_fields fs gs
  same_type (pointer a) (pointer b) = same_type a b
  same_type (func ps rs v) (func qs ss w) = same_types ps qs && same_types rs ss && same_truth v w
  same_type (interface ms) (interface ns) = same_specs ms ns
  same_type (mapping k v) (mapping l w) = same_type k l && same_type v w
  same_type (chan d a) (chan e b) = (dir_code d == dir_code e) && same_type a b
  same_type (named i) (named j) = i == j
  same_type (tuple ts) (tuple us) = same_types ts us
  same_type _ _ = false

  pub same_types : Tys → Tys → Bool
  same_types no_tys no_tys = true
  same_types (more_tys t ts) (more_tys u us) = same_type t u && same_types ts us
  same_types _ _ = false

  pub same_fields : Fields → Fields → Bool
  same_fields no_fields no_fields = true
  same_fields (more_fields a p t e tag fs) (more_fields b q u f tag' gs) =
      bytes_eq a b && bytes_eq p q && same_type t u && same_truth e f && bytes_eq tag tag' && same_fields fs gs
  same_fields _ _ = false

  pub same_specs : Specs → Specs → Bool
  same_specs no_specs no_specs = true
  same_specs (more_specs a p ps rs v ms) (more_specs b q qs ss w ns) =
      bytes_eq a b && bytes_eq p q && same_types ps qs && same_types rs ss && same_truth v w && same_specs ms ns
  same_specs _ _ = false
