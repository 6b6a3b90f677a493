-- The steps of the one member.
use Rattle.std.specs.Prelude.{◌≡◌, ◌≤◌, ℕ, Bool, true, false, List, [], ◌∷◌, ◌++◌, length}
use Rattle.go_type.specs.Tree.{Ty, Fields}
use Rattle.go_type.specs.Members.{Member, Sought, field, method, base_of, fields_found}
use Rattle.go_type.specs.declared.steps.Step.{Step}
use Rattle.go_type.specs.declared.steps.Step.TheVariants as step

abbrev pub path_of : Member → List Step
path_of (field p) = p
path_of (method p of_ on_pointer params results variadic) = p

-- where there is one member, its steps are these and then those of the one member of another list
abbrev pub LeadsTo : List Member → List Step → List Member → Type 0
LeadsTo ms steps ns = (m : Member) → ms ≡ m ∷ [] → (n : Member) × (ns ≡ n ∷ []) × (path_of m ≡ steps ++ path_of n)

-- where there is one member, its steps are these
abbrev pub HasSteps : List Member → List Step → Type 0
HasSteps ms steps = (m : Member) → ms ≡ m ∷ [] → path_of m ≡ steps

abbrev pub steps_through : ℕ → Bool → List Step
steps_through i true = step.Field i ∷ step.Pointer ∷ []
steps_through i false = step.Field i ∷ []

abbrev pub LeadsOnTo : List Member → Bool → Type 0
LeadsOnTo ms true = 1 ≤ length ms
LeadsOnTo ms false = ms ≡ []

-- whether there is a member behind a field
abbrev pub LeadsOn : (Ty → List Member) → Ty → Bool → Bool → Type 0
LeadsOn p t true b = LeadsOnTo (p (base_of t)) b
LeadsOn p t false b = b ≡ false

-- the first field of the name
abbrev pub FindsField : Sought → Fields → ℕ → Type 0
FindsField f fs i = (others : List Member) × (fields_found f 0 fs ≡ field (step.Field i ∷ []) ∷ others)

-- where there is one member, the steps so far and those of the one member of another list are all its steps
abbrev pub Follows : List Member → List Step → List Member → List Step → Type 0
Follows ms before ns steps = (m : Member) → ms ≡ m ∷ [] → (n : Member) × (ns ≡ n ∷ []) × (before ++ path_of m ≡ steps ++ path_of n)
