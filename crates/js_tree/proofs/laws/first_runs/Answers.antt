use Rattle.std.proofs.Common.{refl}
use Rattle.std.specs.Fmt.{digits}
use Rattle.js_tree.proofs.laws.first_runs.Goals as goal

pub returns : goal.returns
unfolding digits
returns c = record {
  rows = record {
    without_ticks = refl;
    with_one_tick = refl;
    with_two_ticks = refl;
    rest_has_the_sign_of_the_dividend = refl;
    sum_past_the_range = refl;
    ended_by_the_host = refl;
    number_is_not_printed = refl;
    call_without_a_value = refl;
    missing_key = refl;
    throw_that_is_not_caught = refl;
  };
}
