-- The universe scope that is held is that of go_typing.
use Rattle.std.proofs.Common.{arith, ◌∙◌, refl}
use Rattle.std.specs.Prelude.{◌≡◌, List, [], ◌∷◌, ◌++◌, None}
use Rattle.go_type.specs.Predeclared.{predeclared}
use Rattle.go_type.specs.declared.types.TypeId.{TypeId}
use Rattle.go_type.specs.Table.{places, size}
use Rattle.go_type.specs.declared.table.TypeTable.{TypeTable}
use Rattle.go_operands.specs.RulesReady.{HasPredeclared}
use Rattle.go_typing.specs.Env.{universe}
use Rattle.go_operands.specs.Held.{Held}
use Rattle.go_operands.specs.View.{binds_of}
use Rattle.go_operands.specs.Within.{HeldsBelow}
use Rattle.go_operands.proofs.ViewLemmas.{binds-grown}
use Rattle.go_operands.proofs.WithinLemmas.{helds-more}
use Rattle.go_operands.specs.Universe.{first_types, signed_types, unsigned_types, values, first_functions, last_functions, universe_held, declare_all}

-- no name stands twice
pub universe-once :
    declare_all (declare_all (declare_all (declare_all (declare_all (declare_all [] first_types) signed_types) unsigned_types) values) first_functions) last_functions ≡ universe_held
universe-once = refl

-- the ids are those of predeclared types
appended : (hs bs : List Held) → HeldsBelow 20 hs → HeldsBelow 20 bs → HeldsBelow 20 (hs ++ bs)
appended [] bs h k = k
appended (b ∷ hs) bs h k = (h.0, appended hs bs h.1 k)

below_first_types : HeldsBelow 20 first_types
below_first_types = (omega arith, (omega arith, (tt, (tt, (tt, (tt, (tt, tt)))))))

below_signed_types : HeldsBelow 20 signed_types
below_signed_types = (omega arith, (omega arith, (omega arith, (omega arith, (omega arith, (omega arith, (omega arith, tt)))))))

below_unsigned_types : HeldsBelow 20 unsigned_types
below_unsigned_types = (omega arith, (omega arith, (omega arith, (omega arith, (omega arith, (omega arith, tt))))))

below_values : HeldsBelow 20 values
below_values = (omega arith, (omega arith, (tt, tt)))

below_first_functions : HeldsBelow 20 first_functions
below_first_functions = (tt, (tt, (tt, (tt, (tt, (tt, (tt, (tt, tt))))))))

below_last_functions : HeldsBelow 20 last_functions
below_last_functions = (tt, (tt, (tt, (tt, (tt, (tt, (tt, tt)))))))

universe-below : HeldsBelow 20 universe_held
universe-below =
    appended first_types (signed_types ++ unsigned_types ++ values ++ first_functions ++ last_functions) below_first_types
    (appended signed_types (unsigned_types ++ values ++ first_functions ++ last_functions) below_signed_types
    (appended unsigned_types (values ++ first_functions ++ last_functions) below_unsigned_types
    (appended values (first_functions ++ last_functions) below_values
    (appended first_functions last_functions below_first_functions below_last_functions))))

-- with the trees of a new table
universe-new : binds_of predeclared universe_held ≡ universe None
universe-new = refl

pub universe-view : (t : TypeTable) → HasPredeclared t → binds_of (places t) universe_held ≡ universe None
universe-view t h = binds-grown predeclared (places t) 20 (λ (i : TypeId) k. h.begins i k) universe_held universe-below ∙ universe-new

pub universe-within : (t : TypeTable) → HasPredeclared t → HeldsBelow (size t) universe_held
universe-within t h = helds-more 20 (size t) h.size universe_held universe-below
