-- What lies under a folder, computed from paths.
use Rattle.std.specs.Prelude.{ℕ, List, [], ◌∷◌, Option, Some, None, Bool, cond, not, ◌&&◌, ◌==◌, is_some, length}
use Rattle.std.specs.List.{list_any, filter_map}
use Rattle.gj_base.specs.Tree.{slash}

-- what a path has after a folder and a `/`, where it lies under the folder
abbrev pub rest_under : List ℕ → List ℕ → Option (List ℕ)
rest_under [] [] = None
rest_under [] (byte ∷ path) = cond (byte == slash) (Some path) None
rest_under (first ∷ folder) [] = None
rest_under (first ∷ folder) (byte ∷ path) = cond (first == byte) (rest_under folder path) None

-- whether a text isn't empty and has no `/`
abbrev pub is_one_part : List ℕ → Bool
is_one_part text = not (length text == 0) && not (list_any (λ byte. byte == slash) text)

-- the text, if it is one part
abbrev pub one_part : Option (List ℕ) → Option (List ℕ)
one_part None = None
one_part (Some text) = cond (is_one_part text) (Some text) None

-- the name of what a path is directly under a folder
abbrev pub name_under : List ℕ → List ℕ → Option (List ℕ)
name_under folder path = one_part (rest_under folder path)

-- the names directly under a folder, in the order of the paths
abbrev pub names_under : List ℕ → List (List ℕ) → List (List ℕ)
names_under folder paths = filter_map (name_under folder) paths

-- whether some path lies under a folder
abbrev pub has_under : List ℕ → List (List ℕ) → Bool
has_under folder paths = list_any (λ path. is_some (rest_under folder path)) paths
