use Rattle.std.proofs.Common.{arith, ◌+◌, ◌*◌, ◌-◌, get_or}
use Rattle.std.specs.Str.{all_ascii_digits}
use Rattle.js_grammar.specs.Scan.{value_after}
use Rattle.js_grammar.proofs.Runs.{too_large}
use Rattle.js_grammar.proofs.lexer.value.Goals as goal

pub returns-then-n-gt-LARGEST : goal.returns-then-n-gt-LARGEST
returns-then-n-gt-LARGEST c =
    too_large c.args.digits.now c.digits.at c.digits.n (10 * c.digits.n + (get_or c.args.digits.now c.digits.at 0 - 48)) (value_after 0 c.args.digits.now) (all_ascii_digits c.args.digits.now)
    (omega arith) c.digits.invariant.same (omega arith) (omega arith)
