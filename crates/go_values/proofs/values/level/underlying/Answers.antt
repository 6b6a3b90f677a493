use Rattle.std.proofs.Common.{◌∙◌, sym, ap, arith}
use Rattle.go_type.specs.Table.{names}
use Rattle.go_type.specs.Underlying.{underlying}
use Rattle.go_values.proofs.ValuesLevelLemmas.{outside}
use Rattle.go_values.proofs.values.level.underlying.Goals as goal

pub returns-else-t-len : goal.returns-else-t-len
returns-else-t-len c =
    let o = outside c.args.table.now c.args.t (omega (arith, c.if-t-len.false, c.len.ensures.value)) in
    record { tree = o ∙ sym (ap (underlying (names c.args.table.now)) o) }
