use Rattle.std.proofs.Common.{◌≡◌, drop}
use Rattle.std.specs.Prelude.{map}
use Rattle.std.specs.List.{list_any}
use Rattle.go_syntax.specs.View.{decl_view}
use Rattle.go_load.specs.Faults.{is_main}
use Rattle.go_load.proofs.faults.declares_main.Given as goal

-- what is left has the same answer
abbrev pub invariant-loop-d : goal.invariant-loop-d
invariant-loop-d l = list_any is_main (map decl_view (drop l.d-index l.decls)) ≡ list_any is_main (map decl_view l.decls)
