use Rattle.std.proofs.Common.{◌≡◌, ◌++◌, drop, map}
use Rattle.go_body.proofs.leaf.spare.and_places.Given as goal

-- those so far and those that are left are all
abbrev pub invariant-loop-i : goal.invariant-loop-i
invariant-loop-i l = l.used.items ++ map (λ n. n.place) (drop l.i l.names) ≡ l.initial.used.items ++ map (λ n. n.place) (drop l.before l.names)
