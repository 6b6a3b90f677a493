-- Go specification (as of Go 1.17), "Exported identifiers", "Uniqueness of identifiers".
use Rattle.std.specs.Prelude.{◌≡◌, ℕ, Bool, true, false, ◌&&◌, List, [], ◌∷◌}
use Rattle.std.specs.Str.{chars, is_utf8}
use Rattle.ucd_category.specs.declared.GeneralCategory.{GeneralCategory}
use Rattle.ucd_category.specs.declared.GeneralCategory.TheVariants.{UppercaseLetter}
use Rattle.ucd_category.specs.GeneralCategory.{general_category}

-- an upper case letter: Unicode class Lu
abbrev pub is_upper : GeneralCategory → Bool
is_upper UppercaseLetter = true
is_upper _ = false

abbrev pub begins_upper : List ℕ → Bool
begins_upper [] = false
begins_upper (c ∷ cs) = is_upper (general_category c)

-- a name is exported where its first character is an upper case letter
unfoldable pub is_exported : List ℕ → Bool
is_exported name = is_utf8 name && begins_upper (chars name)

-- own: an exported name stands without its package
abbrev pub IsHeld : List ℕ → List ℕ → Type 0
IsHeld name package_ = is_exported name ≡ true → package_ ≡ []
