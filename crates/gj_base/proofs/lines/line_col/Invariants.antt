use Rattle.std.proofs.Common.{◌≡◌, ◌≤◌, ◌+◌, take}
use Rattle.gj_base.specs.LineColumn.{line_after, column_after}
use Rattle.gj_base.proofs.lines.line_col.Given as goal

abbrev pub invariant-loop-byte : goal.invariant-loop-byte
invariant-loop-byte l = record {
  line_is : l.line ≡ line_after (take l.byte-index l.byte-items);
  column_is : l.column ≡ column_after (take l.byte-index l.byte-items);
  line_fits : l.line ≤ l.byte-index + 1;
  column_fits : l.column ≤ l.byte-index + 1;
}
