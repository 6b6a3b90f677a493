-- A walk over embedded fields, depth by depth, and what a search for a name sees on it.
use Rattle.std.specs.Prelude.{◌≡◌, ℕ, ◌+◌, ◌<◌, Bool, true, false, ◌||◌, if◌then◌else◌, List, [], ◌∷◌, ◌++◌, Option, Some, None, map, get_or, nat_eq}
use Rattle.std.specs.List.{AllByRecursion}
use Rattle.go_type.specs.Tree.{Ty, Tys, bool}
use Rattle.go_type.specs.Named.{NamedTy}
use Rattle.go_type.specs.Members.{Member, field, method, behind, Sought, own_members, members_at, NoneBefore}
use Rattle.go_type.specs.Hits.{has_pointer, Sees, IsSomething, IsIn}
use Rattle.go_type.specs.declared.steps.Step.{Step}
use Rattle.go_type.specs.declared.steps.Step.TheVariants as step
use Rattle.go_type.specs.declared.hits.Hit.{Hit}

-- a member, of its steps only whether a pointer is followed
pub data Plain : Type 0 where
  plain_field : Plain
  plain_method : (indirect : Bool) (of_ : Ty) (on_pointer : Bool) (params results : Tys) (variadic : Bool) → Plain

abbrev pub plain : Member → Plain
plain (field path) = plain_field
plain (method path of_ on_pointer params results variadic) = plain_method (has_pointer path) of_ on_pointer params results variadic

-- no member, the one, or several
pub data Look : Type 0 where
  none : Look
  one : (m : Plain) → Look
  several : Look

abbrev pub look : List Member → Look
look [] = none
look (m ∷ []) = one (plain m)
look (m ∷ n ∷ ms) = several

abbrev pub plus : Look → Look → Look
plus none b = b
plus (one m) none = one m
plus (one m) (one n) = several
plus (one m) several = several
plus several b = several

abbrev pub through_pointer : Bool → Plain → Plain
through_pointer b plain_field = plain_field
through_pointer b (plain_method indirect of_ on_pointer params results variadic) = plain_method (b || indirect) of_ on_pointer params results variadic

-- behind steps that follow a pointer, or don't
abbrev pub shift : Bool → Look → Look
shift b none = none
shift b (one m) = one (through_pointer b m)
shift b several = several

-- the members at a depth in a type
abbrev pub seen_in : List NamedTy → List Ty → Sought → ℕ → ℕ → Look
seen_in ns ts f k i = look (members_at ns f k (get_or ts i bool))

-- the members at a depth in these types, each behind a pointer or not
abbrev pub total : List NamedTy → List Ty → Sought → List (ℕ × Bool) → ℕ → Look
total ns ts f [] k = none
total ns ts f (e ∷ es) k = plus (shift e.1 (seen_in ns ts f k e.0)) (total ns ts f es k)

-- these types have no member at the depth
abbrev pub Quiet : List NamedTy → List Ty → Sought → List ℕ → ℕ → Type 0
Quiet ns ts f ids k = AllByRecursion (λ (i : ℕ). members_at ns f k (get_or ts i bool) ≡ []) ids

-- what was added to a list of types, where those that were seen before are quiet
pub record Expands (ns : List NamedTy) (ts : List Ty) (seen : List ℕ) (add : Sought → ℕ → Look) (old new : List (ℕ × Bool)) : Type 0 where
  pub is : (f : Sought) (k : ℕ) → Quiet ns ts f seen k → total ns ts f new k ≡ plus (total ns ts f old k) (add f k)

abbrev pub AllWithin : ℕ → List (ℕ × Bool) → Type 0
AllWithin n es = AllByRecursion (λ (e : ℕ × Bool). e.0 < n) es

-- how often a type is there
abbrev pub times_in : ℕ → List (ℕ × Bool) → ℕ
times_in i [] = 0
times_in i (e ∷ es) = (if nat_eq i e.0 then 1 else 0) + times_in i es

abbrev pub first_of : ℕ × Bool → ℕ
first_of e = e.0

abbrev pub pointer_if : Bool → List Step
pointer_if true = step.Pointer ∷ []
pointer_if false = []

-- what these types declare
abbrev pub spread : List NamedTy → List Ty → Sought → List (ℕ × Bool) → List Member
spread ns ts f [] = []
spread ns ts f (e ∷ es) = map (behind (pointer_if e.1)) (own_members ns f (get_or ts e.0 bool)) ++ spread ns ts f es

-- the shallowest depth with a member of the name, and what is seen there; none where there is no such depth
abbrev pub IsShallow : ℕ → List Ty → List NamedTy → Sought → Ty → Option (ℕ × Hit) → Type 0
IsShallow n ts ns f t None = (d : ℕ) → members_at ns f d t ≡ []
IsShallow n ts ns f t (Some r) = NoneBefore ns f t r.0 × Sees ts (members_at ns f r.0 t) r.1 × IsSomething r.1 × IsIn n r.1
