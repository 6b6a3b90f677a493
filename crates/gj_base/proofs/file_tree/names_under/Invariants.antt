use Rattle.std.proofs.Common.{◌≡◌, ◌++◌}
use Rattle.gj_base.specs.Folder.{names_under}
use Rattle.gj_base.specs.Entries.{paths_of}
use Rattle.gj_base.proofs.file_tree.names_under.Given as goal

abbrev pub invariant-loop-path : goal.invariant-loop-path
invariant-loop-path l = l.names.items ++ names_under l.folder (paths_of l.path-iterator) ≡ names_under l.folder (paths_of l.files.entries)
