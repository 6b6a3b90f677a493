-- own: what the words of a command line ask for.
use Rattle.std.specs.Prelude.{List, [], ◌∷◌, ℕ, Bool, false, not, ◌&&◌, ◌==◌, Option, Some, None, codes, bytes_eq, if◌then◌else◌}

pub data Settings : Type 0 where
  -- compile the package in this folder
  build : (folder : List ℕ) → Settings

-- a folder's name isn't empty and doesn't begin with a dash
abbrev pub is_folder : List ℕ → Bool
is_folder [] = false
is_folder (b ∷ bs) = not (b == 45)

-- the settings of words that are `build` and a folder alone; all others have none here
abbrev pub settings_of : List (List ℕ) → Option Settings
settings_of (command ∷ folder ∷ []) = if bytes_eq command (codes "build") && is_folder folder then Some (build folder) else None
settings_of _ = None
