use Rattle.std.proofs.Common.{◌≡◌, ◌+◌, ◌++◌, ◌∷◌, [], ◌≤◌, List, length, take, sym, ap, subst, arith}
use Rattle.std.specs.Prelude.{All, map}
use Rattle.go_load.specs.Root.{file_limit}
use Rattle.go_load.specs.Readings.{AreReadings}
use Rattle.go_load.specs.ReadingView.{reading_view}
use Rattle.go_load.specs.declared.sources.FileEntry.{FileEntry}
use Rattle.go_load.specs.declared.reading.Reading.{Reading}
use Rattle.go_load.proofs.ReadingLemmas.{read_more}
use Rattle.go_load.proofs.reading.read_all.Goals as goal

pub read-requires : goal.read-requires
read-requires c =
    let all = subst (λ (es : List FileEntry). All (λ (e : FileEntry). length e.bytes ≤ file_limit) es) (sym c.as_slice-entries.ensures) c.requires.short in
    subst (λ (e : FileEntry). length e.bytes ≤ file_limit) (sym c.index-entries-i.is) (all c.loop-i.i c.index-entries-i.result c.loop-i-test.true)

pub loop-i-preserved : goal.loop-i-preserved
loop-i-preserved c =
    subst (λ (rs : List Reading). AreReadings 0 (take (c.loop-i.i + 1) c.as_slice-entries.result.now) (map reading_view rs)) (sym c.in_ok-push.ensures.items)
    (read_more c.as_slice-entries.result.now c.loop-i.i c.index-entries-i.result c.loop-i.readings.items c.in_ok-read.field-0 c.loop-i-test.true c.index-entries-i.is c.loop-i.invariant c.in_ok-read.ensures)
