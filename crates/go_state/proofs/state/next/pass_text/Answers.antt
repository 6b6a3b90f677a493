use Rattle.std.proofs.Common.{ap, sym, ◌∙◌, drop}
use Rattle.std.specs.Prelude.{Some, option_map}
use Rattle.go_state.specs.StateSeen.{stack_of}
use Rattle.go_state.proofs.state.next.pass_text.Goals as goal

pub returns-in-Some-clause-past : goal.returns-in-Some-clause-past
returns-in-Some-clause-past c = λ ts.
    ap (option_map (λ n. drop n (stack_of ts c.args.values.now.items))) (sym (c.in-Some.ensures.value ts))
    ∙ ap Some (sym (c.drop_values.ensures.value ts))

pub returns-in-None-clause-step : goal.returns-in-None-clause-step
returns-in-None-clause-step c = λ ts. ap (option_map (λ n. drop n (stack_of ts c.args.values.now.items))) (sym (c.in-None.ensures.value ts))
