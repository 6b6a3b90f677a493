use Rattle.std.proofs.Common.{ap}
use Rattle.gj_base.specs.Tree.{Tree, bytes_at}
use Rattle.gj_base.proofs.TreeLemmas.{bytes_at-lookup}
use Rattle.gj_base.proofs.file_tree.FileTree.get.Goals as goal

pub returns-in-Some : goal.returns-in-Some
returns-in-Some c =
    let found = bytes_at-lookup c.self.inside.files.entries c.args.path.now in
    let seen = ap (λ (t : Tree). bytes_at t c.args.path.now) c.self.view_is in
    cc (found, seen, c.in-Some.ensures.value, c.as_bytes.ensures)

pub returns-in-None : goal.returns-in-None
returns-in-None c =
    let found = bytes_at-lookup c.self.inside.files.entries c.args.path.now in
    let seen = ap (λ (t : Tree). bytes_at t c.args.path.now) c.self.view_is in
    cc (found, seen, c.in-None.ensures.value)
