use Rattle.std.proofs.Common.{◌≡◌}
use Rattle.gj_base.specs.Folder.{has_under}
use Rattle.gj_base.specs.Entries.{paths_of}
use Rattle.gj_base.proofs.file_tree.has_under.Given as goal

abbrev pub invariant-loop-path : goal.invariant-loop-path
invariant-loop-path l = has_under l.folder (paths_of l.path-iterator) ≡ has_under l.folder (paths_of l.files.entries)
