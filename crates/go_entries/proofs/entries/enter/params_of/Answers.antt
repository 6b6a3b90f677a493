use Rattle.std.proofs.Common.{◌∙◌, sym, ap, take, List}
use Rattle.std.specs.List.{take-map}
use Rattle.go_core.specs.CoreView.{var_of}
use Rattle.go_core.specs.declared.node.Var.{Var}
use Rattle.go_state.specs.StateSeen.{vars_of}
use Rattle.go_entries.proofs.entries.enter.params_of.Goals as goal

pub returns : goal.returns
returns c = record {
  value = λ ts.
      ap (vars_of ts) (c.some_of.ensures.value ∙ ap (λ (vs : List Var). take c.args.count vs) c.as_slice.ensures.value)
      ∙ sym (take-map (var_of ts) c.args.count c.args.func.now.vars.items.items);
}
