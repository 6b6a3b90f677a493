-- Go specification (as of Go 1.17), "Declarations and scope", "Uniqueness of identifiers", "Package initialization": which names that
-- a package declares are faulty, said apart from the order in which this is told.
use Rattle.std.specs.Prelude.{◌≡◌, ◌≤◌, ◌⊎◌, ◌↔◌, ℕ, zero, suc, length, List, [], ◌∷◌, ◌++◌, true, false, None}
use Rattle.go_syntax.specs.declared.tree.Name.{Name}
use Rattle.go_typing.specs.Env.{Bind, universe, is_blank}
use Rattle.go_typing.specs.Answer.{Flaw, flaw}
use Rattle.go_typing.specs.Faulty.{IsIn}
use Rattle.go_typing.specs.Items.{Item, init_item, name_of, is_init}
use Rattle.go_typing.specs.Cycles.{is_among, needs_named, cycle_flaws}
use Rattle.go_typing.specs.Told.{names_told}

-- what declares the name in the package's scope: neither a function `init` nor `_` is declared there
abbrev pub Declares : Item → List ℕ → Type 0
Declares (init_item n) x = ⊥
Declares i x = ((name_of i).text ≡ x) × (is_blank x ≡ false)

abbrev pub IsDeclared : List Item → List ℕ → Type 0
IsDeclared [] x = ⊥
IsDeclared (i ∷ is) x = Declares i x ⊎ IsDeclared is x

-- declared before (82), or named as a function `init` is (99)
abbrev pub HasNameFault : (before : List Item) → Name → Flaw → Type 0
HasNameFault before n f = IsDeclared before n.text × (f ≡ record { place = n.place; code = 82; name = n.text }) ⊎ (is_init n ≡ true) × (f ≡ flaw n.place 99)

abbrev pub HasItemFault : (before : List Item) → Item → Flaw → Type 0
HasItemFault before (init_item n) f = ⊥
HasItemFault before i f = HasNameFault before (name_of i) f

-- a declaration among these has the fault
pub record SomeNameFault (is : List Item) (f : Flaw) : Type 0 where
  pub before : List Item
  pub item : Item
  pub after : List Item
  pub parts : is ≡ before ++ item ∷ after
  pub fault : HasItemFault before item f

abbrev pub NamesToldExactly : Type 0
NamesToldExactly = (is : List Item) (f : Flaw) → IsIn f (names_told [] is) ↔ SomeNameFault is f

-- ---- a name whose type or constant value can't be found without itself (74)

-- the first declaration of the one name needs the other, in so many further steps
abbrev pub NeedsAfter : List (List Bind) → List Item → ℕ → List ℕ → List ℕ → Type 0
NeedsAfter ss is zero x y = is_among y (needs_named ss is x is) ≡ true
NeedsAfter ss is (suc n) x y = (z : List ℕ) × NeedsAfter ss is n x z × (is_among y (needs_named ss is z is) ≡ true)

abbrev pub IsNamed : List Item → List ℕ → Type 0
IsNamed [] x = ⊥
IsNamed (i ∷ is) x = ((name_of i).text ≡ x) ⊎ IsNamed is x

-- a circle through the first declaration of a name that isn't blank
pub record SomeCircle (ss : List (List Bind)) (is : List Item) (f : Flaw) : Type 0 where
  pub before : List Item
  pub item : Item
  pub after : List Item
  pub parts : is ≡ before ++ item ∷ after
  pub not_blank : is_blank (name_of item).text ≡ false
  pub first : IsNamed before (name_of item).text → ⊥
  pub steps : ℕ
  pub few : steps ≤ length is
  pub circle : NeedsAfter ss is steps (name_of item).text (name_of item).text
  pub is_told : f ≡ flaw (name_of item).place 74

abbrev pub CirclesToldExactly : Type 0
CirclesToldExactly = (binds : List Bind) (is : List Item) (f : Flaw) → IsIn f (cycle_flaws binds is) ↔ SomeCircle (universe None ∷ binds ∷ []) is f
