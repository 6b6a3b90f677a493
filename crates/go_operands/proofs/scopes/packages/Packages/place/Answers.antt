use Rattle.std.proofs.Common.{◌∙◌, ap}
use Rattle.go_operands.specs.Held.{place_held}
use Rattle.go_operands.proofs.HeldLemmas.{binds_or, held_at-lookup}
use Rattle.go_operands.proofs.scopes.packages.Packages.place.Goals as goal

pub returns-in-Some : goal.returns-in-Some
returns-in-Some c =
    record { value = c.place.ensures.value ∙ ap (place_held c.args.name.now) (ap binds_or c.in-Some.ensures.value ∙ held_at-lookup c.args.path.now c.args.self.now.scopes.entries) }

pub returns-in-None : goal.returns-in-None
returns-in-None c = record { value = ap (place_held c.args.name.now) (ap binds_or c.in-None.ensures.value ∙ held_at-lookup c.args.path.now c.args.self.now.scopes.entries) }
