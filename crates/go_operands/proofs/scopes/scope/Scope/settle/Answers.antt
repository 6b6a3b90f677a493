use Rattle.std.proofs.Common.{◌∙◌, ap, sym, map}
use Rattle.go_operands.specs.Holds.{held_of}
use Rattle.go_operands.proofs.HeldLemmas.{settle-set, settle-none}
use Rattle.go_operands.proofs.scopes.scope.Scope.settle.Goals as goal

pub returns-in-Some : goal.returns-in-Some
returns-in-Some c =
    record {
      value = ap (map held_of) (c.get_mut.follows.holds (record { place = c.in-Some.declaration.now.place; what = c.args.what })).0
          ∙ settle-set c.args.name.now c.args.what c.args.self.now.binds.entries c.in-Some.declaration.now (sym c.in-Some.ensures.value);
    }

pub returns-in_default : goal.returns-in_default
returns-in_default c =
    record { value = ap (λ m. map held_of m.entries) c.get_mut.follows.holds-at-none ∙ settle-none c.args.name.now c.args.what c.args.self.now.binds.entries (sym c.in_default.ensures.value) }
