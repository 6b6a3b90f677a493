use Rattle.std.proofs.Common.{sym, subst, ◌∙◌}
use Rattle.gj_base.specs.Tree.{Tree, HasFolder}
use Rattle.gj_base.proofs.TreeLemmas.{HasFolder-has_under, has_under-HasFolder}
use Rattle.gj_base.proofs.file_tree.FileTree.has_folder.Goals as goal

pub returns : goal.returns
returns c =
    let entries = c.self.inside.files.entries in
    let folder = c.args.folder.now in
    let is = c.has_under.ensures in (
      (λ has. subst (λ (t : Tree). HasFolder t folder) c.self.view_is (HasFolder-has_under entries folder (sym is ∙ has))),
      (λ has. is ∙ has_under-HasFolder entries folder (subst (λ (t : Tree). HasFolder t folder) (sym c.self.view_is) has)),
    )
