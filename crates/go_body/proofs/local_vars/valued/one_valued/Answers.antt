use Rattle.std.specs.Prelude.{option_map}
use Rattle.go_type.specs.Levels.{tree_of}
use Rattle.go_calls.specs.Words.{types_of}
use Rattle.go_operands.specs.AnswerView.{answer_view}
use Rattle.go_typing.specs.Declare.{spec_var_type}
use Rattle.go_assign.specs.SpecView.{spec_view}
use Rattle.go_body.proofs.NameLemmas.{puts_as}
use Rattle.go_body.proofs.local_vars.valued.one_valued.Goals as goal

pub returns-in-Ok-put-clause-puts : goal.returns-in-Ok-put-clause-puts
returns-in-Ok-put-clause-puts c =
    let a = c.args.walk.now in
    let ts = types_of a.env in
    puts_as c.args.n.now c.args.at (option_map (tree_of ts) c.var_type-ty.result) (spec_var_type (spec_view ts c.args.s) (answer_view ts c.args.valued.answer)) a c.put.new.walk c.args.out.now.items c.put.new.out.items c.args.targets.now.items c.put.new.targets.items c.var_type-ty.ensures.value c.in-Ok-put.ensures.puts
