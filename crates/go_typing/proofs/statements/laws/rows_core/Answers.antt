use Rattle.std.proofs.Common.{refl}
use Rattle.go_typing.proofs.statements.laws.rows_core.Goals as goal

pub returns : goal.returns
returns _ = record {
  rows = record {
    declared_and_used = refl;
    zero_variable = refl;
    new_and_old = refl;
    operator_and_assignment = refl;
    stepped = refl;
    values_of_a_call = refl;
    performed = refl;
    call_with_a_result = refl;
    printed = refl;
    condition = refl;
    loop_with_a_condition = refl;
    loop_with_a_header = refl;
    branches = refl;
    switch_on_a_value = refl;
    return_alone = refl;
    constants_do_nothing = refl;
    empty_block_does_nothing = refl;
  };
}
