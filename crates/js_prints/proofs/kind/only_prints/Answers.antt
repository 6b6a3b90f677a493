use Rattle.std.proofs.Common.{◌∙◌, sym, ap}
use Rattle.std.specs.Prelude.{Option}
use Rattle.go_type.specs.Table.{places}
use Rattle.go_core.specs.CoreTree.{CoreFunc}
use Rattle.go_core.specs.CoreView.{func_view}
use Rattle.js_prints.specs.Prints.{is_printing}
use Rattle.js_prints.proofs.ListLemmas.{item_seen, none_seen}
use Rattle.js_prints.proofs.kind.only_prints.Goals as goal

pub returns-in-Some : goal.returns-in-Some
returns-in-Some c =
    let ts = places c.args.program.now.types in
    record {
      value = c.printing.ensures.value ts
          ∙ ap (λ (o : Option CoreFunc). is_printing o) (sym (item_seen (func_view ts) _ c.args.program.now.funcs.items.items c.args.program.now.main.0 c.in-Some.main c.as_slice.ensures.value c.in-Some.ensures.lookup));
    }

pub returns-in-None : goal.returns-in-None
returns-in-None c =
    let ts = places c.args.program.now.types in
    record { value = ap (λ (o : Option CoreFunc). is_printing o) (sym (none_seen (func_view ts) _ c.args.program.now.funcs.items.items c.args.program.now.main.0 c.as_slice.ensures.value c.in-None.ensures.lookup)) }
