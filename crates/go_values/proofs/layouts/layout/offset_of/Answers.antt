use Rattle.std.proofs.Common.{◌≡◌, ◌∙◌, sym, ap, subst, arith, ℕ}
use Rattle.std.specs.Prelude.{IfOk}
use Rattle.go_type.specs.Tree.{Ty}
use Rattle.go_type.specs.Levels.{tree_of}
use Rattle.go_type.specs.Table.{places, names}
use Rattle.go_core.specs.Layout.{offset_in, part_of, shape_of, shape_with, name_shape}
use Rattle.go_values.proofs.LayoutsLevelLemmas.{count_names, outside}
use Rattle.go_values.proofs.layouts.layout.offset_of.Goals as goal

pub returns-then-t-len : goal.returns-then-t-len
returns-then-t-len c =
    let w = c.args.table.now in
    record {
      value = subst (λ (k : ℕ). IfOk c.offset_at.result (λ (n : ℕ). n ≡ offset_in (part_of (shape_with (name_shape (names w) k) (tree_of (places w) c.args.t)) c.args.number))) (c.name_len.ensures ∙ count_names w) c.offset_at.ensures.value;
    }

pub returns-else-t-len : goal.returns-else-t-len
returns-else-t-len c =
    let w = c.args.table.now in
    record { value = ap (λ (u : Ty). offset_in (part_of (shape_of (names w) u) c.args.number)) (sym (outside w c.args.t (omega (arith, c.if-t-len.false, c.len.ensures.value)))) }
