-- Go specification (as of Go 1.17), "Blocks", "Declarations and scope", "Uniqueness of identifiers": scopes as they are
-- entered, left and filled.
use Rattle.std.specs.Prelude.{◌≡◌, ℕ, List, [], ◌∷◌, ◌++◌, Bool, true, false, Option, Some, None, bytes_eq, if◌then◌else◌}
use Rattle.gj_base.specs.declared.place.Place.{Place}
use Rattle.go_type.specs.Named.{NamedTy}
use Rattle.go_typing.specs.Env.{Decl, Bind, find, lookup, universe, iota_in}

-- the scope of a package by its path
pub record PackageScope : Type 0 where
  pub path : List ℕ
  pub binds : List Bind

-- Named types, the universe scope, and the scopes of packages. Inside a package, the scopes of files, functions and
-- blocks that are open, from the outside in; inside a constant specification, its number.
pub record Env : Type 0 where
  pub named_types : List NamedTy
  pub universe_scope : List Bind
  pub packages : List PackageScope
  pub current : Option (List ℕ)
  pub blocks : List (List Bind)
  pub iota : Option ℕ

abbrev pub new_env : List NamedTy → Env
new_env ns = record { named_types = ns; universe_scope = universe None; packages = []; current = None; blocks = []; iota = None }

abbrev pub scope_of : List ℕ → List PackageScope → List Bind
scope_of path [] = []
scope_of path (p ∷ ps) = if bytes_eq p.path path then p.binds else scope_of path ps

abbrev pub package_scopes : Env → Option (List ℕ) → List (List Bind)
package_scopes env None = []
package_scopes env (Some path) = scope_of path env.packages ∷ []

-- what is in scope: the innermost scope is the last
abbrev pub visible : Env → List (List Bind)
visible env = (env.universe_scope ++ iota_in env.iota) ∷ package_scopes env env.current ++ env.blocks

abbrev pub has_package : List ℕ → List PackageScope → Bool
has_package path [] = false
has_package path (p ∷ ps) = if bytes_eq p.path path then true else has_package path ps

-- a package with an empty scope where the path is new
abbrev pub with_package : List ℕ → List PackageScope → List PackageScope
with_package path ps = if has_package path ps then ps else ps ++ record { path = path; binds = [] } ∷ []

-- all scopes are left, and the package's is entered
abbrev pub entered : List ℕ → Env → Env
entered path env = record env { packages = with_package path env.packages; current = Some path; blocks = [] }

-- a scope is opened
abbrev pub pushed : Env → Env
pushed env = record env { blocks = env.blocks ++ [] ∷ [] }

abbrev pub without_last : List (List Bind) → List (List Bind)
without_last [] = []
without_last (s ∷ []) = []
without_last (s ∷ r ∷ ss) = s ∷ without_last (r ∷ ss)

-- the innermost scope is closed
abbrev pub popped : Env → Env
popped env = record env { blocks = without_last env.blocks }

-- the number of the constant specification that is typed next, or none after the last
abbrev pub counting : Option ℕ → Env → Env
counting n env = record env { iota = n }

-- ---- the innermost scope

-- the innermost scope changes so
abbrev pub last_changed : (List Bind → List Bind) → List (List Bind) → List (List Bind)
last_changed change [] = []
last_changed change (s ∷ []) = change s ∷ []
last_changed change (s ∷ r ∷ ss) = s ∷ last_changed change (r ∷ ss)

abbrev pub package_changed : (List Bind → List Bind) → List ℕ → List PackageScope → List PackageScope
package_changed change path [] = []
package_changed change path (p ∷ ps) =
    if bytes_eq p.path path then record p { binds = change p.binds } ∷ ps else p ∷ package_changed change path ps

abbrev pub outside_changed : (List Bind → List Bind) → Option (List ℕ) → Env → Env
outside_changed change None env = record env { universe_scope = change env.universe_scope }
outside_changed change (Some path) env = record env { packages = package_changed change path env.packages }

abbrev pub innermost_changed : (List Bind → List Bind) → List (List Bind) → Env → Env
innermost_changed change [] env = outside_changed change env.current env
innermost_changed change (s ∷ ss) env = record env { blocks = last_changed change (s ∷ ss) }

abbrev pub last_scope : List (List Bind) → List Bind
last_scope [] = []
last_scope (s ∷ []) = s
last_scope (s ∷ r ∷ ss) = last_scope (r ∷ ss)

abbrev pub outside_scope : Option (List ℕ) → Env → List Bind
outside_scope None env = env.universe_scope
outside_scope (Some path) env = scope_of path env.packages

abbrev pub innermost_of : List (List Bind) → Env → List Bind
innermost_of [] env = outside_scope env.current env
innermost_of (s ∷ ss) env = last_scope (s ∷ ss)

abbrev pub innermost : Env → List Bind
innermost env = innermost_of env.blocks env

-- where a name is declared in a scope
abbrev pub place_in : List ℕ → List Bind → Option Place
place_in x [] = None
place_in x (b ∷ bs) = if bytes_eq b.name x then Some b.place else place_in x bs

abbrev pub with_bind : Bind → List Bind → List Bind
with_bind b bs = bs ++ b ∷ []

abbrev pub declared_at : Bind → Option Place → Env → Env
declared_at b (Some at) env = env
declared_at b None env = innermost_changed (with_bind b) env.blocks env

-- a name is declared once in a block: a name that the innermost scope has changes nothing, and
-- its earlier place is told (`place_in`); else it is added to that scope
abbrev pub declared : Bind → Env → Env
declared b env = declared_at b (place_in b.name (innermost env)) env

abbrev pub settle_in : List ℕ → Decl → List Bind → List Bind
settle_in x what [] = []
settle_in x what (b ∷ bs) = if bytes_eq b.name x then record b { what = what } ∷ bs else b ∷ settle_in x what bs

-- what a name of the innermost scope stands for changes
abbrev pub settled : List ℕ → Decl → Env → Env
settled x what env = innermost_changed (settle_in x what) env.blocks env

-- ---- laws

-- a scope that is opened and closed leaves what was there
abbrev pub PopsWhatWasPushed : Type 0
PopsWhatWasPushed = (env : Env) → popped (pushed env) ≡ env

-- "An identifier declared in a block may be redeclared in an inner block. While the identifier of the inner
-- declaration is in scope, it denotes the entity declared by the inner declaration."
abbrev pub InnermostDecides : Type 0
InnermostDecides = (x : List ℕ) (ss : List (List Bind)) (s : List Bind) (d : Decl) → find x s ≡ Some d → lookup x (ss ++ s ∷ []) ≡ Some d

abbrev pub in_block : List (List Bind) → List Bind → Env → Env
in_block ss s env = record env { blocks = ss ++ s ∷ [] }

-- in a block, a name that is new in it stands for what was declared
abbrev pub DeclaresInside : Type 0
DeclaresInside = (env : Env) (ss : List (List Bind)) (s : List Bind) (b : Bind) → place_in b.name s ≡ None
    → lookup b.name (visible (declared b (in_block ss s env))) ≡ Some b.what

-- a name that its scope has already stays what it was
abbrev pub KeepsFirst : Type 0
KeepsFirst = (env : Env) (b : Bind) (at : Place) → place_in b.name (innermost env) ≡ Some at → declared b env ≡ env

-- any other name stands for what it did
abbrev pub KeepsOthers : Type 0
KeepsOthers = (env : Env) (b : Bind) (x : List ℕ) → bytes_eq b.name x ≡ false → lookup x (visible (declared b env)) ≡ lookup x (visible env)
