use Rattle.std.proofs.Common.{arith, ◌≡◌, ◌∙◌, ◌+◌, ap}
use Rattle.go_typing.specs.Checked as go
use Rattle.go_items.proofs.FunctionLemmas.{two_more}
use Rattle.go_items.proofs.hidden.functions.hidden_functions.Goals as goal

pub returns-in-Ok-and_func-2 : goal.returns-in-Ok-and_func-2
returns-in-Ok-and_func-2 c =
    let e = c.in_ok-second.ensures.value in
    let f = c.in_ok-third.ensures.value in
    let same : c.in_ok-third.third ≡ c.args.next_var + 2 = omega (arith, e, f) in
    record {
      value = λ ts h k.
          two_more ts c.args.funcs.now.items c.and_func.new.items.items c.and_func-in-Ok-runtime_function.new.items.items c.in-Ok.f c.in-Ok-runtime_function.g (go.error_function c.args.next_var) (go.runtime_function (c.args.next_var + 2))
          c.in-Ok-and_func.ensures.items c.in-Ok-and_func-2.ensures.items (c.in-Ok.ensures.value ts h k) (c.in-Ok-runtime_function.ensures.value ts h ∙ ap go.runtime_function same);
    }
