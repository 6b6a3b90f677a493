-- What a search at one depth sees of the members there.
use Rattle.std.specs.Prelude.{◌≡◌, ℕ, ◌<◌, ◌≤◌, Bool, true, false, ◌||◌, List, [], ◌∷◌, length}
use Rattle.go_type.specs.Tree.{Ty}
use Rattle.go_type.specs.Levels.{tree_of, trees_of, SigBelow}
use Rattle.go_type.specs.Members.{Member, field, method}
use Rattle.go_type.specs.declared.steps.Step.{Step}
use Rattle.go_type.specs.declared.steps.Step.TheVariants as step
use Rattle.go_type.specs.declared.hits.Hit.{Hit}
use Rattle.go_type.specs.declared.hits.Hit.TheVariants.{Nothing, Several, Field, Method}

abbrev pub has_pointer : List Step → Bool
has_pointer [] = false
has_pointer (step.Pointer ∷ ss) = true
has_pointer (step.Field i ∷ ss) = has_pointer ss

-- no member, several, or the one
abbrev pub Sees : List Ty → List Member → Hit → Type 0
Sees ts ms Nothing = ms ≡ []
Sees ts ms Several = 2 ≤ length ms
Sees ts ms Field = (p : List Step) × (ms ≡ field p ∷ [])
Sees ts ms (Method id on_pointer indirect sig) =
    (p : List Step) × (ms ≡ method p (tree_of ts id) on_pointer (trees_of ts sig.now.params) (trees_of ts sig.now.results) sig.now.variadic ∷ []) × (has_pointer p ≡ indirect)

-- of the members of two lists
abbrev pub join : Hit → Hit → Hit
join Nothing b = b
join a Nothing = a
join a b = Several

-- behind steps that follow a pointer, or don't
abbrev pub after : Bool → Hit → Hit
after follows (Method id on_pointer indirect sig) = Method id on_pointer (follows || indirect) sig
after follows h = h

abbrev pub when : Bool → Hit → Hit
when true h = h
when false h = Nothing

abbrev pub is_something : Hit → Bool
is_something Nothing = false
is_something _ = true

abbrev pub IsSomething : Hit → Type 0
IsSomething Nothing = ⊥
IsSomething _ = Unit {0}

-- its type and its signature are those of the first n ids
abbrev pub IsIn : ℕ → Hit → Type 0
IsIn n (Method id on_pointer indirect sig) = (id.0 < n) × SigBelow n sig.now
IsIn n _ = Unit {0}
