use Rattle.std.proofs.Common.{◌≡◌, length}
use Rattle.std.specs.List.{sum_by}
use Rattle.go_load.proofs.GatherLemmas.{Progress}
use Rattle.go_load.specs.declared.sources.FileEntry.{FileEntry}
use Rattle.go_load.proofs.gather.gather.Given as goal

abbrev pub invariant-loop-name : goal.invariant-loop-name
invariant-loop-name g l = record {
  same : g.F.Files.state l.files ≡ g.F.Files.state l.fn.files;
  progress : Progress (g.F.Files.state l.fn.files).tree l.root l.sources l.names.keys;
  size : l.size ≡ sum_by (λ (e : FileEntry). length e.bytes) l.sources;
}

abbrev pub decreases-loop-name : goal.decreases-loop-name
decreases-loop-name g l = length l.names.keys
