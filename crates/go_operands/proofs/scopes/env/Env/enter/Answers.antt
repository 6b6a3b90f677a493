use Rattle.std.proofs.Common.{◌∙◌, ap, refl}
use Rattle.std.specs.Prelude.{ℕ, List, Some}
use Rattle.go_type.specs.Table.{places, names}
use Rattle.go_operands.specs.Held.{enter_held}
use Rattle.go_operands.specs.Holds.{held, held_blocks, held_packages}
use Rattle.go_operands.specs.Counted.{number_of}
use Rattle.go_operands.proofs.EnvLemmas.{made-same, enters}
use Rattle.go_operands.proofs.scopes.env.Env.enter.Goals as goal

pub returns-clause-value : goal.returns-clause-value
returns-clause-value c =
    made-same (places c.args.self.now.table) (names c.args.self.now.table) (number_of c.args.self.now.iota.what) refl (c.in_ok-enter.ensures.value ∙ ap (λ (p : List ℕ). enter_held p (held_packages c.args.self.now.packages)) c.as_bytes.ensures) (ap Some c.in_ok-current.ensures.cases) c.clear.ensures.value
    ∙ enters (places c.args.self.now.table) (names c.args.self.now.table) (number_of c.args.self.now.iota.what) (held c.args.self.now.universe) (held_packages c.args.self.now.packages) c.args.self.now.current (held_blocks c.args.self.now.blocks) c.args.path.now
