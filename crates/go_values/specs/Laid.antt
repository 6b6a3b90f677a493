-- What a layout holds of a shape.
use Rattle.std.specs.Prelude.{◌≡◌, ℕ, ◌+◌, List, ◌++◌, Bool, true, false, length, replicate}
use Rattle.go_type.specs.Tree.{Ty, bool, str, int, slice, func, interface, mapping, chan}
use Rattle.go_core.specs.Layout.{ScalarKind, a_truth, a_number, a_text, a_pointer, a_slice, a_function, an_interface, a_map, a_channel, kind_of, Shape, Parts, size, composites, parts_composites, flags, parts_flags}
use Rattle.go_core.specs.Memory.{zeros, parts_zeros}
use Rattle.go_values.specs.ValuesSeen.{value_of}
use Rattle.go_values.specs.declared.layouts.layout.Layout.{Layout}

-- of a part that isn't looked at no scalar is
abbrev pub masked : Bool → List Bool → List Bool
masked true fs = fs
masked false fs = replicate (length fs) false

-- what the one scalar is of, of a type that has no parts and no name
abbrev pub leaf_kind : Ty → ScalarKind
leaf_kind bool = a_truth
leaf_kind str = a_text
leaf_kind (int name) = a_number (kind_of name)
leaf_kind (slice t) = a_slice
leaf_kind (func ps rs v) = a_function
leaf_kind (interface ms) = an_interface
leaf_kind (mapping k v) = a_map
leaf_kind (chan d t) = a_channel
leaf_kind _ = a_pointer

-- with the trees of the table's types
module _ (ts : List Ty) where
  -- the second layout has the scalars of this shape more than the first
  pub record Adds (old new : Layout) (looked : Bool) (s : Shape) : Type 0 where
    pub zeros_ : value_of ts new.zeros.items ≡ value_of ts old.zeros.items ++ zeros s
    pub flags_ : new.flags.items ≡ old.flags.items ++ masked looked (flags s)
    pub composites_ : new.composites ≡ old.composites + composites s

  pub record AddsParts (old new : Layout) (looked : Bool) (ps : Parts) : Type 0 where
    pub zeros_ : value_of ts new.zeros.items ≡ value_of ts old.zeros.items ++ parts_zeros ps
    pub flags_ : new.flags.items ≡ old.flags.items ++ masked looked (parts_flags ps)
    pub composites_ : new.composites ≡ old.composites + parts_composites ps

  -- the layout has exactly the scalars of this shape
  pub record IsLaid (l : Layout) (s : Shape) : Type 0 where
    pub zeros_ : value_of ts l.zeros.items ≡ zeros s
    pub flags_ : l.flags.items ≡ flags s
    pub composites_ : l.composites ≡ composites s
    pub size_ : length l.zeros.items ≡ size s
