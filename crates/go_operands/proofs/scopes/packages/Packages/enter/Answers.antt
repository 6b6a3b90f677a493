use Rattle.std.proofs.Common.{◌∙◌, ap, sym, map}
use Rattle.go_operands.specs.Holds.{held_package}
use Rattle.go_operands.proofs.HeldLemmas.{entered-old, entered-new}
use Rattle.go_operands.proofs.scopes.packages.Packages.enter.Goals as goal

pub returns-then-contains_key-clause-value : goal.returns-then-contains_key-clause-value
returns-then-contains_key-clause-value c = entered-old c.args.path.now c.args.self.now.scopes.entries (sym c.contains_key.ensures ∙ c.if-contains_key.true)

pub returns-clause-value : goal.returns-clause-value
returns-clause-value c =
    ap (map held_package) c.in_ok-insert.ensures.entries
    ∙ entered-new c.args.path.now c.args.self.now.scopes.entries c.in_ok-path.path c.new.result c.in_ok-path.ensures.items c.new.ensures (sym c.contains_key.ensures ∙ c.if-contains_key.false)
