use Rattle.gj_base.specs.declared.kind.Kind.{Kind}
use Rattle.go_core.specs.CoreView.{constant_of}
use Rattle.js_body.specs.State.{State}
use Rattle.js_values.specs.Steps.{by_kind}
use Rattle.js_values.specs.Values.{constant_done}
use Rattle.js_values.proofs.constants.constant.Goals as goal

pub returns : goal.returns
returns c = by_kind c.args.b.now c.constant_at.new.b c.args.t c.int_kind-kind.result (λ (k : Kind) (s : State). constant_done k (constant_of c.args.value.now) s) c.int_kind-kind.ensures c.constant_at.ensures
