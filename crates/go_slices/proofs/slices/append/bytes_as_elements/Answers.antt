use Rattle.std.proofs.Common.{sym, ap, length}
use Rattle.go_core.specs.Memory.{Value}
use Rattle.go_slices.proofs.slices.append.bytes_as_elements.Goals as goal

pub returns : goal.returns
returns c = record { value = λ ts one m f. ap (λ (v : Value). f v (length c.args.bytes.now)) (sym (c.in_ok-cells.ensures.value ts)) }
