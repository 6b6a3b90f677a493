use Rattle.std.proofs.Common.{map}
use Rattle.go_core.specs.CoreView.{var_of, stmts_view}
use Rattle.go_typing.specs.Checked as go
use Rattle.go_items.proofs.FunctionLemmas.{made_same}
use Rattle.go_items.proofs.hidden.functions.made.Goals as goal

pub returns : goal.returns
returns c = record {
  value = λ ts.
      made_same ts go.first_byte c.new.result c.new-2.result c.from_vec.result c.args.results.items (map (var_of ts) c.args.vars.items) c.new-3.result.items (stmts_view ts c.body.result) _ c.new.ensures c.new-2.ensures c.from_vec.ensures
      c.new-3.ensures.items (c.body.ensures.value ts);
}
