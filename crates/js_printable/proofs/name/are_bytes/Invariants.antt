use Rattle.std.proofs.Common.{◌≡◌, drop}
use Rattle.std.specs.List.{list_all}
use Rattle.js_tree.specs.Printable.{is_byte}
use Rattle.js_printable.proofs.name.are_bytes.Given as goal

abbrev pub invariant-loop-c : goal.invariant-loop-c
invariant-loop-c l = list_all is_byte (drop l.c-index l.c-items) ≡ list_all is_byte l.c-items
