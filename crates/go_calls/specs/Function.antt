-- What a function that is called needs of the table of types.
use Rattle.std.specs.Prelude.{◌≡◌, ◌<◌, if◌then◌else◌}
use Rattle.go_type.specs.Tree as ty
use Rattle.go_type.specs.Tree.{Ty, Tys, no_tys, more_tys}
use Rattle.go_type.specs.Levels.{tree_of, trees_of}
use Rattle.go_type.specs.Table.{places, size}
use Rattle.go_type.specs.declared.table.TypeTable.{TypeTable}
use Rattle.go_core.specs.SameType.{same_types}
use Rattle.go_typing.specs.Call.{one_count}
use Rattle.go_calls.specs.Types.{AreTypesOf}
use Rattle.go_calls.specs.declared.calls.function.Function.{Function}
use Rattle.go_calls.specs.declared.calls.function.Fit.{Fit}
use Rattle.go_calls.specs.declared.calls.function.Fit.TheVariants as code

-- the type of what a call gives: that of the one result, or the tuple of the results
abbrev pub given_type : Tys → Ty
given_type (more_tys t no_tys) = t
given_type ts = ty.tuple ts

-- its types are ones of the table
pub record FunctionBelow (table : TypeTable) (f : Function) : Type 0 where
  pub params : AreTypesOf table f.params.now
  pub results : AreTypesOf table f.results.now
  pub gives : f.gives.0 < size table
  pub type_given : tree_of (places table) f.gives ≡ given_type (trees_of (places table) f.results.now)

-- several values as arguments: they fit, or there is another number of them, or they have other types
pub data Fits : Type 0 where
  fits : Fits
  other_types : Fits
  other_count : Fits

abbrev pub fit_of : Tys → Tys → Fits
fit_of ps ts = if one_count ps ts then (if same_types ps ts then fits else other_types) else other_count

abbrev pub fit_view : Fit → Fits
fit_view code.Fits = fits
fit_view code.OtherTypes = other_types
fit_view code.OtherCount = other_count
