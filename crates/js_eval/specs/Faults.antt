-- The rules of scripts, on what the plain program has.
use Rattle.std.specs.Prelude.{ℕ, List, map, ◌++◌, Option, Some, None}
use Rattle.js_tree.specs.Script.{Name, Item, function_item, global_item}
use Rattle.js_tree.specs.Value.{holds}
use Rattle.js_tree.specs.Static as rule
use Rattle.js_eval.specs.declared.fault.Around.{Around}

abbrev pub around_of : Around → rule.Around
around_of a = record { is_loop = a.is_loop; label = a.label.now }

abbrev pub arounds_of : List Around → List rule.Around
arounds_of xs = map around_of xs

abbrev pub item_name : Item → Name
item_name (function_item f) = f.name
item_name (global_item at x e) = x

-- where an item breaks a rule, with the names of the items before it
abbrev pub item_faults : List Name → Item → List ℕ
item_faults before (function_item f) = rule.fault_if f.at (holds f.name (before ++ rule.preamble_names)) ++ rule.function_faults f
item_faults before (global_item at x e) = rule.fault_if at (holds x (before ++ rule.preamble_names))

-- the least of an offset, if there is one, and of others
abbrev pub least_more : Option ℕ → List ℕ → Option ℕ
least_more None ns = rule.least ns
least_more (Some n) ns = Some (rule.least_from n ns)
