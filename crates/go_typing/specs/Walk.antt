-- own: how the statements of a function's body are gone through, in the order of the text.
use Rattle.std.specs.Prelude.{ℕ, suc, ◌+◌, List, [], ◌∷◌, ◌++◌, Bool, true, false, Option, Some, None, ◌==◌, ◌||◌, ◌&&◌, if◌then◌else◌, bytes_eq}
use Rattle.gj_base.specs.declared.place.Place.{Place}
use Rattle.go_syntax.specs.Tree as t
use Rattle.go_syntax.specs.declared.tree.Name.{Name}
use Rattle.go_type.specs.Tree.{Ty, Tys}
use Rattle.go_type.specs.Named.{NamedTy}
use Rattle.go_core.specs.CoreTree as core
use Rattle.go_core.specs.CoreTree.{Var}
use Rattle.go_typing.specs.Env.{Decl, variable, unknown, Bind, lookup, is_blank}
use Rattle.go_typing.specs.Answer.{Flaw}
use Rattle.go_typing.specs.Scopes.{last_changed, last_scope, with_bind, place_in, without_last}
use Rattle.go_typing.specs.Uses.{names_in, names_in_all}

-- What is known where a statement begins: named types, scopes (the innermost is the last), the number of the next
-- variable and of the next label, the variables so far, the names of those that statements declared, where the
-- names stand that were used, and how often a name was used whose declaration isn't typed.
pub record Walk : Type 0 where
  pub names : List NamedTy
  pub scopes : List (List Bind)
  pub next : ℕ
  pub next_label : ℕ
  pub vars : List Var
  pub declared : List Name
  pub used : List Place
  pub lost : ℕ

-- what a `break` or a `continue` may leave: its label's number, its name if it has one, and whether it is a loop
pub record Target : Type 0 where
  pub label : ℕ
  pub name : Option (List ℕ)
  pub is_loop : Bool

-- what is around a statement: the function's results if they are typed, whether they have names, and what may be left,
-- the innermost first
pub record Around : Type 0 where
  pub results : Option Tys
  pub named_results : Bool
  pub targets : List Target
  -- the label before the statement
  pub label : Option (List ℕ)
  -- where those labels of the function stand that have a fault
  pub wrong_labels : List Place
  -- own: where the function stands, if it is one too many
  pub too_far : Option Place

-- What comes of a statement: its core, its faults, and what is known after it. The core is one of a program only where
-- no statement of the body has a fault.
pub record Did : Type 0 where
  pub core : List core.Stmt
  pub flaws : List Flaw
  pub walk : Walk

abbrev pub did : List core.Stmt → Walk → Did
did ss w = record { core = ss; flaws = []; walk = w }

abbrev pub faulty : List Flaw → Walk → Did
faulty fs w = record { core = []; flaws = fs; walk = w }

abbrev pub after : Did → Did → Did
after d e = record { core = d.core ++ e.core; flaws = d.flaws ++ e.flaws; walk = e.walk }

-- one after the other
abbrev pub and_then : Did → (Walk → Did) → Did
and_then d f = after d (f d.walk)

abbrev pub also : List Flaw → Did → Did
also fs d = record d { flaws = fs ++ d.flaws }

abbrev pub body : List core.Stmt → core.Stmts
body [] = core.no_stmts
body (s ∷ ss) = core.stmt s (body ss)

-- ---- scopes

abbrev pub pushed : Walk → Walk
pushed w = record w { scopes = w.scopes ++ [] ∷ [] }

abbrev pub popped : Walk → Walk
popped w = record w { scopes = without_last w.scopes }

-- a scope that is closed at the end
abbrev pub closed : Did → Did
closed d = record d { walk = popped d.walk }

abbrev pub within : (Walk → Did) → Walk → Did
within f w = closed (f (pushed w))

abbrev pub bind_of : Name → Decl → Bind
bind_of n what = record { name = n.text; place = n.place; what = what }

-- a name in the innermost scope; `_` is declared nowhere
abbrev pub with_name : Name → Decl → Walk → Walk
with_name n what w = if is_blank n.text then w else record w { scopes = last_changed (with_bind (bind_of n what)) w.scopes }

-- the name is there already, in the innermost scope
abbrev pub is_there : Name → Walk → Option Place
is_there n w = if is_blank n.text then None else place_in n.text (last_scope w.scopes)

-- a name is declared once in a block (82)
abbrev pub redeclared : Name → Option Place → List Flaw
redeclared n None = []
redeclared n (Some at) = record { place = n.place; code = 82; name = n.text } ∷ []

abbrev pub var_of : ℕ → Ty → Var
var_of id ty = record { id = id; type_ = ty }

-- a fresh variable of a type
abbrev pub fresh : Ty → Walk → Walk
fresh ty w = record w { next = suc w.next; vars = w.vars ++ var_of w.next ty ∷ [] }

-- own: each use of it is looked for
abbrev pub noted : Name → Walk → Walk
noted n w = if is_blank n.text then w else record w { declared = w.declared ++ n ∷ [] }

-- a variable that a statement declares, with its name
abbrev pub with_variable : Name → Ty → Walk → Walk
with_variable n u w = with_name n (variable w.next u) (noted n (fresh u w))

-- the same where its type isn't known
abbrev pub with_unknown : Name → Walk → Walk
with_unknown n w = with_name n unknown (noted n w)

-- ---- uses

abbrev pub place_found : List ℕ → List Bind → List Place
place_found x [] = []
place_found x (b ∷ bs) = if bytes_eq b.name x then b.place ∷ [] else place_found x bs

abbrev pub first_of : List Place → List Place → List Place
first_of [] ps = ps
first_of (p ∷ qs) ps = p ∷ []

-- where the innermost declaration of the name stands
abbrev pub declared_place : List ℕ → List (List Bind) → List Place
declared_place x [] = []
declared_place x (s ∷ ss) = first_of (declared_place x ss) (place_found x s)

abbrev pub places_of : List (List ℕ) → List (List Bind) → List Place
places_of [] ss = []
places_of (x ∷ xs) ss = declared_place x ss ++ places_of xs ss

-- a name whose declaration isn't typed
abbrev pub is_untyped : Option Decl → Bool
is_untyped (Some unknown) = true
is_untyped d = false

abbrev pub count_untyped : List (List ℕ) → List (List Bind) → ℕ
count_untyped [] ss = 0
count_untyped (x ∷ xs) ss = (if is_untyped (lookup x ss) then 1 else 0) + count_untyped xs ss

abbrev pub with_lost : List (List ℕ) → Walk → Walk
with_lost xs w = record w { lost = w.lost + count_untyped xs w.scopes }

abbrev pub with_uses : List (List ℕ) → Walk → Walk
with_uses xs w = record w { used = w.used ++ places_of xs w.scopes; lost = w.lost + count_untyped xs w.scopes }

-- each variable whose name occurs in an expression is used
abbrev pub uses : t.Expr → Walk → Walk
uses e w = with_uses (names_in e) w

abbrev pub uses_all : t.Exprs → Walk → Walk
uses_all es w = with_uses (names_in_all es) w

abbrev pub same_place : Place → Place → Bool
same_place a b = (a.file == b.file) && (a.offset == b.offset)

abbrev pub is_among : Place → List Place → Bool
is_among p [] = false
is_among p (q ∷ qs) = same_place q p || is_among p qs

-- own: whether an expression uses each of the variables
abbrev pub all_used : List Name → List Place → Bool
all_used [] used = true
all_used (n ∷ ns) used = is_among n.place used && all_used ns used

-- own: variables that no expression uses (80)
abbrev pub unused : List Name → List Place → List Flaw
unused [] used = []
unused (n ∷ ns) used = if is_among n.place used then unused ns used else record { place = n.place; code = 80; name = n.text } ∷ unused ns used

-- ---- places

abbrev pub any_among : List Place → List Place → Bool
any_among [] qs = false
any_among (p ∷ ps) qs = is_among p qs || any_among ps qs
