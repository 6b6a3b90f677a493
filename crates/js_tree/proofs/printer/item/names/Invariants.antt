use Rattle.std.proofs.Common.{◌≡◌, ◌++◌, drop, Bool, true, false, List, ℕ}
use Rattle.js_tree.specs.Script.{Name}
use Rattle.js_tree.specs.Printed.{names_text, more_names}
use Rattle.js_tree.proofs.printer.item.names.Given as goal

-- the text of what is left of a list
abbrev left_text : Bool → List Name → List ℕ
left_text true xs = names_text xs
left_text false xs = more_names xs

abbrev pub invariant-loop-x : goal.invariant-loop-x
invariant-loop-x l = l.out ++ left_text l.is_first (drop l.x-index l.list) ≡ l.initial.out ++ names_text l.list
