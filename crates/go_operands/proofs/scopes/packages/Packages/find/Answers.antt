use Rattle.std.proofs.Common.{◌∙◌, ap}
use Rattle.go_operands.specs.Held.{what_in}
use Rattle.go_operands.proofs.HeldLemmas.{binds_or, held_at-lookup}
use Rattle.go_operands.proofs.scopes.packages.Packages.find.Goals as goal

pub returns-in-Some : goal.returns-in-Some
returns-in-Some c =
    record { value = c.find.ensures.value ∙ ap (what_in c.args.name.now) (ap binds_or c.in-Some.ensures.value ∙ held_at-lookup c.args.path.now c.args.self.now.scopes.entries) }

pub returns-in-None : goal.returns-in-None
returns-in-None c = record { value = ap (what_in c.args.name.now) (ap binds_or c.in-None.ensures.value ∙ held_at-lookup c.args.path.now c.args.self.now.scopes.entries) }
