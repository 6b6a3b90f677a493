use Rattle.std.proofs.Common.{◌∙◌, ap, sym, map}
use Rattle.go_operands.specs.Held.{settle_held}
use Rattle.go_operands.specs.Holds.{held_package}
use Rattle.go_operands.proofs.HeldLemmas.{package-set, package-none}
use Rattle.go_operands.proofs.scopes.packages.Packages.settle.Goals as goal

pub returns-in-Some : goal.returns-in-Some
returns-in-Some c =
    record {
      value = ap (map held_package) (c.get_mut.follows.holds c.settle.new.self).0
          ∙ package-set (settle_held c.args.name.now c.args.what) c.args.path.now c.args.self.now.scopes.entries c.in-Some.scope.now c.settle.new.self (sym c.in-Some.ensures.value) c.settle.ensures.value;
    }

pub returns-in_default : goal.returns-in_default
returns-in_default c =
    record {
      value = ap (λ m. map held_package m.entries) c.get_mut.follows.holds-at-none
          ∙ package-none (settle_held c.args.name.now c.args.what) c.args.path.now c.args.self.now.scopes.entries (sym c.in_default.ensures.value);
    }
