use Rattle.std.proofs.Common.{◌≡◌, drop}
use Rattle.std.specs.List.{list_all}
use Rattle.js_tree.specs.Printable.{is_own_name}
use Rattle.js_printable.proofs.name.are_own_names.Given as goal

abbrev pub invariant-loop-x : goal.invariant-loop-x
invariant-loop-x l = list_all is_own_name (drop l.x-index l.list) ≡ list_all is_own_name l.list
