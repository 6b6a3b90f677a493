use Rattle.std.proofs.Common.{◌∙◌, sym, ap}
use Rattle.go_walk.specs.WalkView.{walk_of}
use Rattle.go_define.specs.SimpleTold.{is_function}
use Rattle.go_define.proofs.CallLemmas.{called_within}
use Rattle.go_define.proofs.simple.expression.+calls_function.Goals as goal

pub returns-in-Paren : goal.returns-in-Paren
returns-in-Paren t c = record {
  value = λ ts. c.calls_function.ensures.value ts ∙ ap is_function (sym (called_within (walk_of ts c.args.walk.now) c.args.e.now c.deref.result.now c.in-Paren.x c.deref.ensures c.in-Paren.is));
}
