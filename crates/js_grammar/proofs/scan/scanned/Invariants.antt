use Rattle.std.proofs.Common.{◌≡◌, ◌-◌, ◌≤◌, length, drop}
use Rattle.js_grammar.specs.Scan.{scan, with_front}
use Rattle.js_grammar.specs.declared.scan.Inside.TheVariants.{Plain}
use Rattle.js_grammar.proofs.scan.scanned.Given as goal

abbrev pub invariant-bytes : goal.invariant-bytes
invariant-bytes l = record { within : l.at ≤ length l.raw; same : with_front l.out.items (scan l.inside (drop l.at l.raw)) ≡ with_front l.initial.out.items (scan Plain l.raw) }

abbrev pub decreases-bytes : goal.decreases-bytes
decreases-bytes l = length l.raw - l.at
