use Rattle.std.proofs.Common.{◌≡◌, length, sym, Some, arith, ◌≤◌}
use Rattle.std.specs.List.{slice_get}
use Rattle.go_type.proofs.LevelLemmas.{tree_is}
use Rattle.go_type.proofs.Growth.{below_wider}
use Rattle.go_type.proofs.table.TypeTable.get.Goals as goal

pub returns-clause-tree : goal.returns-clause-tree
returns-clause-tree c =
    let s = c.args.self.now in
    let at : slice_get s.levels.keys c.args.t.0 ≡ Some c.in-Some.level.now = sym c.in-Some.ensures.key in
    sym (tree_is (length s.names.items) s.levels.keys c.args.t.0 c.in-Some.level.now s.rises at)

pub returns-clause-within : goal.returns-clause-within
returns-clause-within c =
    let s = c.args.self.now in
    let at : slice_get s.levels.keys c.args.t.0 ≡ Some c.in-Some.level.now = sym c.in-Some.ensures.key in
    let before : c.args.t.0 ≤ length s.levels.keys = omega (arith, c.requires) in
    below_wider c.args.t.0 (length s.levels.keys) (length s.names.items) before c.in-Some.level.now (s.rises c.args.t.0 c.in-Some.level.now at)
