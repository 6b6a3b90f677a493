use Rattle.std.proofs.Common.{◌≡◌, ◌∙◌, ap, map, None}
use Rattle.go_operands.specs.Held.{place_held}
use Rattle.go_operands.specs.Holds.{held, held_of}
use Rattle.go_operands.proofs.HeldLemmas.{declare-new}
use Rattle.go_operands.proofs.scopes.scope.Scope.declare.Goals as goal

pub returns-clause-value : goal.returns-clause-value
returns-clause-value c =
    let none : place_held c.args.name (held c.args.self.now) ≡ None = cc in
    ap (map held_of) c.in_ok-insert.ensures.entries
    ∙ declare-new c.args.self.now.binds.entries c.into_vec.result (record { place = c.args.place; what = c.args.what }) c.args.name c.into_vec.ensures none
