use Rattle.std.proofs.Common.{refl}
use Rattle.js_tree.proofs.laws.halves_rows.Goals as goal

pub returns : goal.returns
returns c = record {
  rows = record {
    greatest_squared = refl;
    a_third_of_the_greatest = refl;
    the_greatest_to_the_right = refl;
    least_by_minus_one = refl;
    rest_of_least_by_minus_one = refl;
    minus_seven_by_two = refl;
    rest_of_minus_seven_by_two = refl;
    minus_eight_to_the_right = refl;
    minus_one_is_less = refl;
    the_greatest_is_greater = refl;
  };
}
