use Rattle.std.proofs.Common.{All, sym, subst}
use Rattle.gj_base.specs.Tree.{Tree, IsName, AreNamesIn}
use Rattle.gj_base.specs.Folder.{names_under}
use Rattle.gj_base.specs.Entries.{paths_of}
use Rattle.gj_base.proofs.TreeLemmas.{names_are_names, names_in_tree}
use Rattle.gj_base.proofs.file_tree.FileTree.names.Goals as goal

pub returns-clause-names : goal.returns-clause-names
returns-clause-names c =
    subst (All IsName) (sym c.in_ok-names.ensures.names) (names_are_names c.self.inside.files.entries c.args.folder.now)

pub returns-clause-all : goal.returns-clause-all
returns-clause-all c =
    let folder = c.args.folder.now in
    let names = names_under folder (paths_of c.self.inside.files.entries) in
    let all = names_in_tree c.self.inside.files.entries folder c.names_under.ensures.ordered in
    subst (AreNamesIn c.args.self.now folder) (sym c.in_ok-names.ensures.names)
    (subst (λ (t : Tree). AreNamesIn t folder names) c.self.view_is all)
