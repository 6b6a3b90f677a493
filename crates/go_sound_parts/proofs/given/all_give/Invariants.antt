use Rattle.std.proofs.Common.{◌≡◌, drop, map}
use Rattle.go_type.specs.Table.{places, names}
use Rattle.go_core.specs.CoreView.{expr_view, exprs_of}
use Rattle.go_core.specs.TypeOf.{all_types}
use Rattle.go_sound_parts.specs.Given.{wanted_of}
use Rattle.go_sound_parts.proofs.given.all_give.Given as goal

abbrev pub invariant-loop-e : goal.invariant-loop-e
invariant-loop-e l =
    let ts = places l.table in
    all_types (names l.table) (exprs_of (map (expr_view ts) (drop l.e-index l.e-items))) ≡ wanted_of ts l.rest
    → all_types (names l.table) (exprs_of (map (expr_view ts) l.e-items)) ≡ wanted_of ts l.fn.wanted
