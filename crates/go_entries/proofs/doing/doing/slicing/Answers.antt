use Rattle.std.proofs.Common.{refl}
use Rattle.go_entries.proofs.doing.doing.slicing.Goals as goal

pub returns : goal.returns
returns c = record {
  value = λ ts t e rest.
      rw (c.has-l.ensures.value ts, c.has-h.ensures.value ts, c.has-m.ensures.value ts, c.one_if-a.ensures.value ts, c.one_if-b.ensures.value ts, c.one_if-c.ensures.value ts) refl;
}
