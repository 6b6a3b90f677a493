use Rattle.go_items.proofs.PlaceLemmas.{place_here, place_further}
use Rattle.go_items.proofs.items.count.place_at.Goals as goal

pub returns-then-left-eq0 : goal.returns-then-left-eq0
returns-then-left-eq0 c = record { value = λ rest. place_here c.args.left c.args.at rest c.if-left-eq0.true }

pub returns : goal.returns
returns c = record { value = λ rest. place_further c.args.left c.args.at rest c.if-left-eq0.false }
