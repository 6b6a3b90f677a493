-- One declaration, before it is typed and after that.
use Rattle.std.specs.Prelude.{◌≡◌, ℕ, List, Bool, true, false, Option}
use Rattle.go_syntax.specs.Tree as t
use Rattle.go_type.specs.Tree.{Ty, named}
use Rattle.go_type.specs.Named.{NamedTy}
use Rattle.go_typing.specs.Env.{unknown}
use Rattle.go_typing.specs.Scopes.{Env}
use Rattle.go_typing.specs.Items.{Item, items_of}
use Rattle.go_typing.specs.Known.{decl_of}
use Rattle.go_operands.specs.declared.scopes.declared.Declared.{Declared}
use Rattle.go_operands.specs.declared.scopes.declared.Declared.TheVariants as as_
use Rattle.go_walk.specs.declared.sets.numbers.NameMap.{NameMap}
use Rattle.go_sound.specs.Rows.{Row, items_in, named_row, known_by, one_typed}
use Rattle.go_items.specs.Stands.{Stands, IsRow, AreNumbers}

abbrev pub is_unknown : Declared → Bool
is_unknown as_.Unknown = true
is_unknown _ = false

-- it has no name itself
abbrev pub is_unnamed : Ty → Bool
is_unnamed (named id) = false
is_unnamed _ = true

-- it declares no named type
abbrev pub SetsNone : Item → Type 0
SetsNone i = (ns : List NamedTy) (o p : Option Ty) → named_row i o ns ≡ named_row i p ns

-- the declaration of this number among those of a package, of which the environment has what is known
pub record Before (rs : List Row) (n : ℕ) (i : Item) (numbers : NameMap) (e : Env) : Type 0 where
  pub decls : List t.Decl
  pub items : items_in rs ≡ items_of decls
  pub row : IsRow rs n i
  pub names : AreNumbers numbers rs
  pub stands : Stands (known_by rs) e

-- it is typed, and known from then on; or it can't be typed by what is known
abbrev pub Outcome : Bool → List Row → ℕ → Item → Env → Type 0
Outcome true rs n i e = (decl_of (known_by rs) i ≡ unknown → ⊥) × Stands (known_by (one_typed n rs)) e
Outcome false rs n i e = (decl_of (known_by rs) i ≡ unknown) × Stands (known_by rs) e
