-- Own: scopes as lists of declarations whose types are ids; what go_typing's specs/Env and specs/Scopes do with them.
use Rattle.std.specs.Prelude.{ℕ, List, [], ◌∷◌, ◌++◌, Bool, true, false, Option, Some, None, bytes_eq, if◌then◌else◌}
use Rattle.gj_base.specs.declared.place.Place.{Place}
use Rattle.go_operands.specs.declared.scopes.declared.Declared.{Declared}

-- a declaration: the name, where it stands, and what it stands for
pub record Held : Type 0 where
  pub name : List ℕ
  pub place : Place
  pub what : Declared

-- what a name stands for in one scope
abbrev pub what_in : List ℕ → List Held → Option Declared
what_in x [] = None
what_in x (h ∷ hs) = if bytes_eq h.name x then Some h.what else what_in x hs

-- where a name is declared in one scope
abbrev pub place_held : List ℕ → List Held → Option Place
place_held x [] = None
place_held x (h ∷ hs) = if bytes_eq h.name x then Some h.place else place_held x hs

abbrev pub add_at : Option Place → Held → List Held → List Held
add_at (Some at) h hs = hs
add_at None h hs = hs ++ h ∷ []

-- one more declaration, unless the name is there
abbrev pub declare_held : Held → List Held → List Held
declare_held h hs = add_at (place_held h.name hs) h hs

-- what a name stands for changes
abbrev pub settle_held : List ℕ → Declared → List Held → List Held
settle_held x d [] = []
settle_held x d (h ∷ hs) = if bytes_eq h.name x then record h { what = d } ∷ hs else h ∷ settle_held x d hs

-- ---- several scopes, the innermost last

-- what a name stands for
abbrev pub first_of : Option Declared → Option Declared → Option Declared
first_of (Some d) o = Some d
first_of None o = o

abbrev pub seek : List ℕ → List (List Held) → Option Declared
seek x [] = None
seek x (s ∷ ss) = first_of (seek x ss) (what_in x s)

abbrev pub first_place : Option Place → Option Place → Option Place
first_place (Some at) o = Some at
first_place None o = o

-- where its innermost declaration stands
abbrev pub sought : List ℕ → List (List Held) → Option Place
sought x [] = None
sought x (s ∷ ss) = first_place (sought x ss) (place_held x s)

-- the innermost scope changes so
abbrev pub last_with : (List Held → List Held) → List (List Held) → List (List Held)
last_with change [] = []
last_with change (s ∷ []) = change s ∷ []
last_with change (s ∷ r ∷ ss) = s ∷ last_with change (r ∷ ss)

abbrev pub without_innermost : List (List Held) → List (List Held)
without_innermost [] = []
without_innermost (s ∷ []) = []
without_innermost (s ∷ r ∷ ss) = s ∷ without_innermost (r ∷ ss)

abbrev pub last_of : List (List Held) → List Held
last_of [] = []
last_of (s ∷ []) = s
last_of (s ∷ r ∷ ss) = last_of (r ∷ ss)

-- ---- the scopes of packages

pub record HeldPackage : Type 0 where
  pub path : List ℕ
  pub binds : List Held

abbrev pub held_at : List ℕ → List HeldPackage → List Held
held_at path [] = []
held_at path (p ∷ ps) = if bytes_eq p.path path then p.binds else held_at path ps

-- the scope of a package changes so
abbrev pub package_with : (List Held → List Held) → List ℕ → List HeldPackage → List HeldPackage
package_with change path [] = []
package_with change path (p ∷ ps) = if bytes_eq p.path path then record p { binds = change p.binds } ∷ ps else p ∷ package_with change path ps

abbrev pub has_held : List ℕ → List HeldPackage → Bool
has_held path [] = false
has_held path (p ∷ ps) = if bytes_eq p.path path then true else has_held path ps

-- a package with an empty scope where the path is new
abbrev pub enter_held : List ℕ → List HeldPackage → List HeldPackage
enter_held path ps = if has_held path ps then ps else ps ++ record { path = path; binds = [] } ∷ []
