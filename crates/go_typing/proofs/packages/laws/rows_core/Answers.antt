use Rattle.std.proofs.Common.{refl}
use Rattle.go_typing.proofs.packages.laws.rows_core.Goals as goal

pub returns : goal.returns
returns _ = record {
  rows = record {
    functions_and_constants = refl;
    named_types = refl;
    a_function_after_main = refl;
  };
}
