-- Go specification (as of Go 1.17), "Conversions", "Struct types": struct tags are ignored where types are compared
-- for identity for a conversion, at any depth of a type's literals. What a named type stands for is no part of it.
use Rattle.std.specs.Prelude.{◌≡◌, List, [], ◌∷◌}
use Rattle.go_type.specs.Tree.{Ty, Tys, Fields, Specs, bool, str, int, nil, untyped, array, slice, struct, pointer, func, interface, mapping, chan, named, tuple, no_tys, more_tys, no_fields, more_fields, no_specs, more_specs}

abbrev mutual
  -- the type with no tags
  pub untagged : Ty → Ty
  untagged bool = bool
  untagged str = str
  untagged (int name) = int name
  untagged nil = nil
  untagged (untyped basis) = untyped basis
  untagged (array n t) = array n (untagged t)
  untagged (slice t) = slice (untagged t)
  untagged (struct fs) = struct (untagged_fields fs)
  untagged (pointer t) = pointer (untagged t)
  untagged (func ps rs v) = func (untagged_types ps) (untagged_types rs) v
  untagged (interface ms) = interface (untagged_specs ms)
  untagged (mapping k v) = mapping (untagged k) (untagged v)
  untagged (chan d t) = chan d (untagged t)
  untagged (named id) = named id
  untagged (tuple ts) = tuple (untagged_types ts)

  pub untagged_types : Tys → Tys
  untagged_types no_tys = no_tys
  untagged_types (more_tys t ts) = more_tys (untagged t) (untagged_types ts)

  pub untagged_fields : Fields → Fields
  untagged_fields no_fields = no_fields
  untagged_fields (more_fields name package_ t embedded tag fs) = more_fields name package_ (untagged t) embedded [] (untagged_fields fs)

  pub untagged_specs : Specs → Specs
  untagged_specs no_specs = no_specs
  untagged_specs (more_specs name package_ ps rs v ms) = more_specs name package_ (untagged_types ps) (untagged_types rs) v (untagged_specs ms)

-- identical types, but for tags
abbrev pub IsAlike : Ty → Ty → Type 0
IsAlike t u = untagged t ≡ untagged u

abbrev pub untagged_list : List Ty → List Ty
untagged_list [] = []
untagged_list (t ∷ ts) = untagged t ∷ untagged_list ts

-- as many types, each identical to its counterpart, but for tags
abbrev pub AreAlike : List Ty → List Ty → Type 0
AreAlike ts us = untagged_list ts ≡ untagged_list us
