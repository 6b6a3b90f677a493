use Rattle.std.proofs.Common.{arith, ◌≡◌, ◌∙◌, ap}
use Rattle.std.specs.Prelude.{◌<◌, ℕ, List, length}
use Rattle.go_type.specs.Table.{places, names}
use Rattle.go_operands.specs.Held.{place_held, held_at}
use Rattle.go_operands.specs.Holds.{held, held_blocks, held_packages}
use Rattle.go_operands.specs.Counted.{number_of}
use Rattle.go_operands.proofs.EnvLemmas.{place-blocks, place-current, place-none}
use Rattle.go_operands.proofs.scopes.env.Env.place.Goals as goal

pub returns-then-len-gt0 : goal.returns-then-len-gt0
returns-then-len-gt0 c =
    let e = c.args.self.now in
    let k : 0 < length (held_blocks e.blocks) = omega arith in
    record { value = c.place.ensures.value ∙ place-blocks (places e.table) (names e.table) (number_of e.iota.what) (held e.universe) (held_packages e.packages) e.current (held_blocks e.blocks) c.args.name.now k }

pub returns-in-Some : goal.returns-in-Some
returns-in-Some c =
    let e = c.args.self.now in
    let k : length (held_blocks e.blocks) ≡ 0 = omega arith in
    record {
      value = c.place-in-Some.ensures.value ∙ ap (λ (p : List ℕ). place_held c.args.name.now (held_at p (held_packages e.packages))) c.as_bytes.ensures
          ∙ place-current (places e.table) (names e.table) (number_of e.iota.what) (held e.universe) (held_packages e.packages) e.current (held_blocks e.blocks) c.in-Some.path c.args.name.now c.in-Some.is k;
    }

pub returns-in-None : goal.returns-in-None
returns-in-None c =
    let e = c.args.self.now in
    let k : length (held_blocks e.blocks) ≡ 0 = omega arith in
    record { value = c.place-in-None.ensures.value ∙ place-none (places e.table) (names e.table) (number_of e.iota.what) (held e.universe) (held_packages e.packages) e.current (held_blocks e.blocks) c.args.name.now c.in-None.is k }
