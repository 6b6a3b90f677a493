use Rattle.std.proofs.Common.{◌<◌, ◌∙◌, ap, arith, length, List}
use Rattle.std.specs.Prelude.{swap_remove}
use Rattle.go_values.specs.declared.values.memory.Entry.{Entry}
use Rattle.go_slices.proofs.PutLemmas.{swapped_in}
use Rattle.go_slices.proofs.maps.maps.put_in.Goals as goal

pub returns-in_ok-push : goal.returns-in_ok-push
returns-in_ok-push c =
    let xs = c.args.entries.now.items in
    let h : c.args.i < length xs = omega (arith, c.if-i-len.true, c.len.ensures, c.args.entries.now.ok.0) in
    record {
      value =
          c.swap_remove-gone.ensures.items
          ∙ ap (λ (ys : List Entry). swap_remove ys c.args.i c.swap_remove-gone.result) c.in_ok-push.ensures.items
          ∙ swapped_in xs c.args.fresh c.swap_remove-gone.result c.args.i h;
    }
