-- ECMA-262 5.1, 10.5: names once each, in the order in which they stand first.
use Rattle.std.specs.Prelude.{ℕ, suc, List, [], ◌∷◌, ◌++◌, Option, Some, None, option_map, Bool, if◌then◌else◌, map, bytes_eq, fold}
use Rattle.std.specs.Borrow.{Bor}
use Rattle.std.specs.List.{list_any}
use Rattle.js_tree.specs.Script.{Name, Item, function_item, global_item}

-- whether a name is one of several
abbrev pub is_among : List Name → Name → Bool
is_among xs x = list_any (bytes_eq x) xs

-- with a name at the end, unless it is there
abbrev pub with_name : List Name → Name → List Name
with_name xs x = if is_among xs x then xs else xs ++ x ∷ []

-- with names one after the other
abbrev pub with_names : List Name → List Name → List Name
with_names xs ys = fold with_name xs ys

-- names once each
abbrev pub distinct : List Name → List Name
distinct xs = with_names [] xs

-- where a name stands
abbrev pub index_in : List Name → Name → Option ℕ
index_in [] x = None
index_in (y ∷ ys) x = if bytes_eq x y then Some 0 else option_map suc (index_in ys x)

-- the names of the functions of a script
abbrev pub function_names : List Item → List Name
function_names [] = []
function_names (function_item f ∷ rest) = f.name ∷ function_names rest
function_names (global_item at x e ∷ rest) = function_names rest

-- the names of its top-level variables
abbrev pub global_names : List Item → List Name
global_names [] = []
global_names (function_item f ∷ rest) = global_names rest
global_names (global_item at x e ∷ rest) = x ∷ global_names rest

-- names that stand in the program
abbrev pub names_of : List (Bor Name) → List Name
names_of xs = map (λ x. x.now) xs
