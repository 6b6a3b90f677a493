-- The types of the values that an expression gives, and those that are wanted.
use Rattle.std.specs.Prelude.{List, [], ◌∷◌, map}
use Rattle.go_type.specs.declared.types.IntName.TheVariants as integer
use Rattle.go_type.specs.Tree as ty
use Rattle.go_type.specs.Tree.{Ty}
use Rattle.go_type.specs.Levels.{tree_of, trees_of}
use Rattle.go_core.specs.CoreView.{var_of}
use Rattle.go_core.specs.TypeOf.{listed_types, int_type}
use Rattle.go_core.specs.SoundNode.{types_of_vars}
use Rattle.go_sound_parts.specs.declared.given.Item.{Item}
use Rattle.go_sound_parts.specs.declared.given.Item.TheVariants as item
use Rattle.go_sound_parts.specs.declared.given.Given.{Given}
use Rattle.go_sound_parts.specs.declared.given.Given.TheVariants as given
use Rattle.go_sound_parts.specs.declared.given.Wanted.{Wanted}
use Rattle.go_sound_parts.specs.declared.given.Wanted.TheVariants as wanted

module _ (ts : List Ty) where
  abbrev pub item_of : Item → Ty
  item_of (item.Of t) = tree_of ts t
  item_of (item.PointerTo t) = ty.pointer (tree_of ts t)
  item_of item.Int = int_type
  item_of item.Byte = ty.int integer.Uint8
  item_of item.Bool = ty.bool

  abbrev pub given_of : Given → List Ty
  given_of (given.One x) = item_of x ∷ []
  given_of (given.WithTruth t) = tree_of ts t ∷ ty.bool ∷ []
  given_of (given.Results types) = listed_types (trees_of ts types.now)

  abbrev pub wanted_of : Wanted → List Ty
  wanted_of (wanted.Types types) = listed_types (trees_of ts types.now)
  wanted_of (wanted.After t types) = tree_of ts t ∷ listed_types (trees_of ts types.now)
  wanted_of (wanted.Vars vars) = types_of_vars (map (var_of ts) vars.now)
