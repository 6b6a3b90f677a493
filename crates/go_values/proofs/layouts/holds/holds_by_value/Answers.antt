use Rattle.std.proofs.Common.{◌∙◌, sym, ap, arith, ℕ}
use Rattle.go_type.specs.Tree.{Ty}
use Rattle.go_type.specs.Levels.{tree_of}
use Rattle.go_type.specs.Table.{places, names}
use Rattle.go_core.specs.Layout.{holds_with, name_holds, holds_by_value}
use Rattle.go_values.specs.Asked.{asked_of}
use Rattle.go_values.proofs.HoldsLemmas.{bool_asked}
use Rattle.go_values.proofs.LayoutsLevelLemmas.{count_names, outside}
use Rattle.go_values.proofs.layouts.holds.holds_by_value.Goals as goal

pub returns-then-t-len : goal.returns-then-t-len
returns-then-t-len c =
    let w = c.args.table.now in
    let test = asked_of c.args.asked in
    record { value = c.holds.ensures.value ∙ ap (λ (k : ℕ). holds_with test (name_holds test (names w) k) (tree_of (places w) c.args.t)) (c.name_len.ensures ∙ count_names w) }

pub returns-else-t-len : goal.returns-else-t-len
returns-else-t-len c =
    let w = c.args.table.now in
    record { value = bool_asked c.args.asked ∙ ap (λ (u : Ty). holds_by_value (asked_of c.args.asked) (names w) u) (sym (outside w c.args.t (omega (arith, c.if-t-len.false, c.len.ensures.value)))) }
