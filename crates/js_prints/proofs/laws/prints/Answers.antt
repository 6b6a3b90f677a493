use Rattle.js_prints.proofs.Simulation.{faithful}
use Rattle.js_prints.proofs.laws.prints.Goals as goal

pub returns : goal.returns
returns c = record { faithful = faithful }
