use Rattle.std.proofs.Common.{arith, ◌∙◌, ◌-◌, length}
use Rattle.go_type.specs.Table.{places}
use Rattle.go_is_sound.proofs.LastLemmas.{ends_last}
use Rattle.go_is_sound.proofs.ends.+ends.Goals as goal

pub ends_terminating-returns-in-len1-up : goal.ends_terminating-returns-in-len1-up
ends_terminating-returns-in-len1-up t c = record {
  value =
      c.is_terminating.ensures.value
      ∙ ends_last (places c.args.table.now) c.args.list.now c.as_slice.result.now (length c.as_slice.result.now - 1) c.last-item.result c.as_slice.ensures.value (omega (arith, c.in-len1-up.len_at_least))
      c.last-item.is;
}
