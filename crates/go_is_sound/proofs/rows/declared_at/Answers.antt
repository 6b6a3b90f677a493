use Rattle.std.proofs.Common.{ℕ, List, subst}
use Rattle.go_type.specs.Levels.{tree_of}
use Rattle.go_type.specs.Table.{places}
use Rattle.go_core.specs.CoreView.{program_view}
use Rattle.go_sound_parts.specs.Index.{IsRowAt}
use Rattle.go_is_sound.proofs.RowLemmas.{declared_row}
use Rattle.go_is_sound.proofs.rows.declared_at.Goals as goal

pub returns-then-leads_to : goal.returns-then-leads_to
returns-then-leads_to c = record {
  is = λ has.
      let p = c.args.p.now in
      let t = tree_of (places p.types) c.args.t in
      let spec = c.args.spec.now in
      let there =
      subst (λ (name : List ℕ). IsRowAt (program_view p) (record { type_ = t; name = name; package_ = spec.package }) c.in-Some.at) c.as_bytes.ensures
      (subst (λ (home : List ℕ). IsRowAt (program_view p) (record { type_ = t; name = c.as_bytes.result.now; package_ = home }) c.in-Some.at) c.as_bytes-2.ensures c.in-Some.ensures.is) in
      declared_row p c.args.t spec c.in-Some.at has there (c.leads_to.ensures.is c.if-leads_to.true);
}
