use Rattle.std.proofs.Common.{◌≡◌, ◌≤◌, ◌+◌, drop, map, ℕ, List}
use Rattle.go_type.specs.Tree.{Ty}
use Rattle.go_core.specs.Communicate.{waiting_at_gate}
use Rattle.go_core.specs.CoreTree.{CoreProgram}
use Rattle.go_core.specs.Goroutine.{Move}
use Rattle.go_state.specs.StateSeen.{goroutine_of}
use Rattle.go_partners.proofs.partners.gates.waiting_at_gate.Given as goal

abbrev pub invariant-goroutines : goal.invariant-goroutines
invariant-goroutines l =
    record {
      counts :
          (ts : List Ty) (p : CoreProgram) (g : ℕ) (free : Move)
          → l.count + waiting_at_gate p g free l.base (drop l.i (map (goroutine_of ts) l.goroutines)) ≡ waiting_at_gate p g free l.base (map (goroutine_of ts) l.goroutines);
      within : l.count ≤ l.i;
    }
