-- Own: what is told of a function's body as a whole.
use Rattle.std.specs.Prelude.{ℕ, ◌==◌, List, [], ◌∷◌, ◌++◌, Bool, Option, Some, None, length, if◌then◌else◌}
use Rattle.std.specs.Borrow.{Bor}
use Rattle.gj_base.specs.declared.place.Place.{Place}
use Rattle.go_type.specs.declared.types.TypeId.{TypeId}
use Rattle.go_typing.specs.Answer.{Flaw, flaw}
use Rattle.go_typing.specs.Walk.{unused}
use Rattle.go_typing.specs.Statements.{where_clean, far_told}
use Rattle.go_walk.specs.declared.walk.walk.Walk.{Walk}
use Rattle.go_walk.specs.declared.walk.parts.Before.{Before}
use Rattle.go_define.specs.declared.simple.around.Around.{Around}

-- where there are results, control doesn't come to the end
abbrev pub missing : Option (Bor (List TypeId)) → Place → Bool → List Flaw
missing None end ends = []
missing (Some is) end ends = if length is.now == 0 then [] else if ends then [] else flaw end 87 ∷ []

abbrev pub if_clean : Bool → List Flaw → List Flaw
if_clean b fs = if b then fs else []

-- the end, or else that the function is one too many
abbrev pub function_told : Option (Bor (List TypeId)) → Option Place → Place → Bool → List Flaw
function_told results far end ends = missing results end ends ++ where_clean (missing results end ends) (far_told far)

-- of the labels (ls), of variables, and where there are as many faults as before them all and no more names are lost, the
-- function; fs: the faults before these
abbrev pub rest_told : Around → Place → Before → List Flaw → List Flaw → Walk → Bool → List Flaw
rest_told a end before fs ls w ends =
    ls ++ unused w.declared.items w.used.items
    ++ if_clean (length (fs ++ ls ++ unused w.declared.items w.used.items) == before.flaws) (if w.lost == before.lost then function_told a.results a.too_far end ends else [])
