-- For private clauses: what a declaration needs, the types of parameters once each, and the numbers of those names.
use Rattle.std.specs.Prelude.{ℕ, List, [], ◌∷◌, ◌++◌, Option, Some, None, if◌then◌else◌}
use Rattle.go_typing.specs.Env.{Bind}
use Rattle.go_typing.specs.Signature.{Param, params_of, results_of}
use Rattle.go_typing.specs.Items.{Item, constant_item, type_item, alias_item, function_item, variable_item, init_item}
use Rattle.go_typing.specs.Cycles.{needed, needs_of}

-- the type of a parameter where it is written with it
abbrev pub written : List (List Bind) → Param → List (List ℕ)
written ss p = if p.has_type then (if p.variadic then [] else needed ss p.type_) else []

abbrev pub all_written : List (List Bind) → List Param → List (List ℕ)
all_written ss [] = []
all_written ss (p ∷ ps) = written ss p ++ all_written ss ps

abbrev pub stated : List (List Bind) → Item → List (List ℕ)
stated ss (function_item n id s) = all_written ss (params_of s) ++ all_written ss (results_of s)
stated ss (constant_item n k u y all) = needs_of ss (constant_item n k u y all)
stated ss (type_item n k e) = needs_of ss (type_item n k e)
stated ss (alias_item n e) = needs_of ss (alias_item n e)
stated ss (variable_item n) = []
stated ss (init_item n) = []

-- the numbers of those names that have one
abbrev pub and_number : Option ℕ → List ℕ → List ℕ
and_number None ns = ns
and_number (Some n) ns = n ∷ ns

abbrev pub targets_by : (List ℕ → Option ℕ) → List (List ℕ) → List ℕ
targets_by f [] = []
targets_by f (x ∷ xs) = and_number (f x) (targets_by f xs)

abbrev pub edges_by : (List ℕ → Option ℕ) → List (List Bind) → List Item → List (List ℕ)
edges_by f ss [] = []
edges_by f ss (i ∷ is) = targets_by f (stated ss i) ∷ edges_by f ss is
