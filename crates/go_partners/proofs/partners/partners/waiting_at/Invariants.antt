use Rattle.std.proofs.Common.{◌≡◌, ◌≤◌, ◌+◌, drop, map, ℕ, List}
use Rattle.go_type.specs.Tree.{Ty}
use Rattle.go_core.specs.Communicate.{waiting_at}
use Rattle.go_core.specs.CoreTree.{CoreProgram}
use Rattle.go_core.specs.Goroutine.{Move}
use Rattle.go_state.specs.StateSeen.{goroutine_of}
use Rattle.go_partners.proofs.partners.partners.waiting_at.Given as goal

abbrev pub invariant-goroutines : goal.invariant-goroutines
invariant-goroutines l =
    record {
      counts :
          (ts : List Ty) (p : CoreProgram) (g : ℕ) (free : Move)
          → l.count + waiting_at p g free l.name (drop l.i (map (goroutine_of ts) l.goroutines)) ≡ waiting_at p g free l.name (map (goroutine_of ts) l.goroutines);
      within : l.count ≤ l.i;
    }
