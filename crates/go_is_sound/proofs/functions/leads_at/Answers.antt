use Rattle.std.proofs.Common.{rules, ◌≡◌}
use Rattle.go_type.specs.Table.{places}
use Rattle.go_core.specs.CoreView.{method_row_view, program_view}
use Rattle.go_is_sound.proofs.ListLemmas.{contains_got}
use Rattle.go_is_sound.proofs.functions.leads_at.Goals as goal

pub returns-in-Some : goal.returns-in-Some
returns-in-Some c = record {
  is = λ h.
      let p = c.args.p.now in
      let r = method_row_view (places p.types) c.in-Some.row.now in
      let e : r.func ≡ c.args.id.0 = search rules in
      (r, contains_got (program_view p).methods c.args.at r c.in-Some.ensures.is, e);
}
