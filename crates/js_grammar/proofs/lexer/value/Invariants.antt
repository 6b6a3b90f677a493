use Rattle.std.proofs.Common.{◌≡◌, ◌-◌, ◌≤◌, length, drop}
use Rattle.std.specs.Str.{all_ascii_digits}
use Rattle.js_grammar.specs.Scan.{value_after}
use Rattle.js_grammar.proofs.lexer.value.Given as goal

abbrev pub invariant-digits : goal.invariant-digits
invariant-digits l = record {
  within : l.at ≤ length l.digits;
  small : l.n ≤ 9007199254740992;
  same : value_after l.n (drop l.at l.digits) ≡ value_after 0 l.digits;
  all : all_ascii_digits (drop l.at l.digits) ≡ all_ascii_digits l.digits;
}

abbrev pub decreases-digits : goal.decreases-digits
decreases-digits l = length l.digits - l.at
