use Rattle.std.proofs.Common.{◌∙◌, ap, option_map}
use Rattle.go_operands.specs.declared.scopes.declared.Declaration.{Declaration}
use Rattle.go_operands.proofs.HeldLemmas.{what-lookup}
use Rattle.go_operands.proofs.scopes.scope.Scope.find.Goals as goal

pub returns-in-Some : goal.returns-in-Some
returns-in-Some c = record { value = ap (option_map (λ (d : Declaration). d.what)) c.in-Some.ensures.value ∙ what-lookup c.args.name.now c.args.self.now.binds.entries }

pub returns-in-None : goal.returns-in-None
returns-in-None c = record { value = ap (option_map (λ (d : Declaration). d.what)) c.in-None.ensures.value ∙ what-lookup c.args.name.now c.args.self.now.binds.entries }
