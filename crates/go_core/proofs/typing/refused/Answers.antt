use Rattle.go_core.proofs.SampleRefused as refused
use Rattle.go_core.proofs.typing.refused.Goals as goal

pub returns : goal.returns
returns c = record {
  rows = refused.two_rows;
  ranges = refused.ranges_without_value;
  assertions = refused.assertions_without_method;
  pointers = refused.named_pointers;
  numbers = refused.numbers_are_no_runes;
  nil = refused.values_of_nil;
}
