use Rattle.std.proofs.Common.{◌∙◌, sym, subst, arith, ℕ, true}
use Rattle.std.proofs.lemmas.Result.{on_ok_weaker}
use Rattle.go_type.specs.Tree.{Ty}
use Rattle.go_type.specs.Levels.{tree_of}
use Rattle.go_type.specs.Table.{places, names}
use Rattle.go_core.specs.Layout.{shape_of, shape_with, name_shape}
use Rattle.go_values.specs.Laid.{Adds}
use Rattle.go_values.proofs.LayoutsLevelLemmas.{count_names, outside}
use Rattle.go_values.proofs.layouts.layout.lay_any.Goals as goal

pub returns-then-t-len : goal.returns-then-t-len
returns-then-t-len c =
    let w = c.args.table.now in
    record {
      value = on_ok_weaker c.lay.result (subst (λ (k : ℕ). Adds (places w) c.args.out.now c.lay.new.out true (shape_with (name_shape (names w) k) (tree_of (places w) c.args.t))) (c.name_len.ensures ∙ count_names w)) c.lay.ensures.value;
    }

pub returns-else-t-len : goal.returns-else-t-len
returns-else-t-len c =
    let w = c.args.table.now in
    record {
      value = on_ok_weaker c.lay_bool.result (λ h. subst (λ (u : Ty). Adds (places w) c.args.out.now c.lay_bool.new.out true (shape_of (names w) u)) (sym (outside w c.args.t (omega (arith, c.if-t-len.false, c.len.ensures.value)))) (h (places w))) c.lay_bool.ensures.value;
    }
