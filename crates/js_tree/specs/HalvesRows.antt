-- Numbers of 64 bits, worked out by hand.
use Rattle.std.specs.Prelude.{◌≡◌, ◌*◌, ◌%◌, ◌^◌, pos, negsuc, true, false}
use Rattle.js_tree.specs.Halves.{number_of, bits_of, quotient, remains, shifted, order}

pub record HalvesRows : Type 0 where
  pub greatest_squared : 18446744073709551615 * 18446744073709551615 % 2 ^ 64 ≡ 1
  pub a_third_of_the_greatest : quotient false 18446744073709551615 3 ≡ 6148914691236517205
  pub the_greatest_to_the_right : shifted false 18446744073709551615 60 ≡ 15
  pub least_by_minus_one : quotient true 9223372036854775808 18446744073709551615 ≡ 9223372036854775808
  pub rest_of_least_by_minus_one : remains true 9223372036854775808 18446744073709551615 ≡ 0
  pub minus_seven_by_two : quotient true (bits_of (negsuc 6)) 2 ≡ bits_of (negsuc 2)
  pub rest_of_minus_seven_by_two : remains true (bits_of (negsuc 6)) 2 ≡ bits_of (negsuc 0)
  pub minus_eight_to_the_right : shifted true (bits_of (negsuc 7)) 40 ≡ bits_of (negsuc 0)
  pub minus_one_is_less : order (number_of true 18446744073709551615) (number_of true 0) ≡ negsuc 0
  pub the_greatest_is_greater : order (number_of false 18446744073709551615) (number_of false 0) ≡ pos 1
