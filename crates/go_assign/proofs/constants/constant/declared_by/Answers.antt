use Rattle.std.specs.Prelude.{option_map}
use Rattle.go_operands.specs.AnswerView.{answer_view}
use Rattle.go_calls.specs.Words.{types_of}
use Rattle.go_operands.specs.EnvView.{table_of}
use Rattle.go_type.specs.Levels.{tree_of}
use Rattle.go_type.specs.Table.{size}
use Rattle.go_assign.proofs.ConstantLemmas.{declared_as}
use Rattle.go_assign.proofs.constants.constant.declared_by.Goals as goal

pub returns : goal.returns
returns c =
    let ts = types_of c.args.env.now in
    record {
      value =
          declared_as (answer_view ts c.args.answer) (option_map (tree_of ts) c.type_of-ty.result) c.constant_of.result _ (c.with_type.ensures.value ts) c.type_of-ty.ensures.value (c.constant_of.ensures.value ts);
      within = c.with_type.ensures.within (size (table_of c.args.env.now)) c.type_of-ty.ensures.within;
    }
