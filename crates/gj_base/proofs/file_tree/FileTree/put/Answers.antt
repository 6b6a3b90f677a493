use Rattle.std.proofs.Common.{ap, ◌∙◌, List, ℕ, string_bytes}
use Rattle.gj_base.specs.Tree.{Tree, with_file}
use Rattle.gj_base.proofs.TreeLemmas.{tree_of-insert}
use Rattle.gj_base.proofs.file_tree.FileTree.put.Goals as goal

pub returns-clause-value : goal.returns-clause-value
returns-clause-value c =
    let old = c.self.inside.files in
    let key = c.in_ok-path.path in
    let bytes = c.in_ok-bytes.bytes in
    tree_of-insert old c.insert.new.self key bytes c.in_ok-insert.ensures.updates
    ∙ ap (λ (t : Tree). with_file t (string_bytes key) bytes) c.self.view_is
    ∙ ap (λ (p : List ℕ). with_file c.args.self.now p bytes) c.in_ok-path.ensures.ok
    ∙ ap (λ (b : List ℕ). with_file c.args.self.now c.args.path.now b) c.in_ok-bytes.ensures.value
