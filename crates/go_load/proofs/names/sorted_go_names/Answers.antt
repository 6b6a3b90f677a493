use Rattle.std.proofs.lemmas.List.{nil_from_length}
use Rattle.std.proofs.Common.{[], sym, ap, ◌∙◌, ◌≡◌}
use Rattle.go_load.specs.GoFiles.{is_go_name}
use Rattle.go_load.proofs.NameLemmas.{gathered, passed_over, finished, sorts}
use Rattle.go_load.proofs.names.sorted_go_names.Goals as goal

pub loop-name-preserved-in_ok-insert : goal.loop-name-preserved-in_ok-insert
loop-name-preserved-in_ok-insert c = record {
  rising = c.in_ok-insert.ensures.ordered;
  chosen = λ q. gathered c.loop-name.names.items c.pop.new.self.items c.in-Some.name c.loop-name.found c.insert.new.self q c.in-Some.ensures.items
      (ap is_go_name (sym c.as_bytes.ensures) ∙ sym (c.if-is_go_name.ensures)) c.in_ok-insert.ensures.updates _ (c.loop-name.invariant.chosen q);
}

pub loop-name-preserved : goal.loop-name-preserved
loop-name-preserved c = record {
  rising = c.loop-name.invariant.rising;
  chosen = λ q. passed_over c.loop-name.names.items c.pop.new.self.items c.in-Some.name q _ c.in-Some.ensures.items
      (ap is_go_name (sym c.as_bytes.ensures) ∙ sym (c.if-is_go_name.ensures)) _ (c.loop-name.invariant.chosen q);
}

pub returns : goal.returns
returns c =
    let none : c.loop-name.names.items ≡ [] = nil_from_length _ (sym c.loop-name.names.ok.0 ∙ c.in_default.ensures.cases.0) in
    sorts c.args.names.items c.loop-name.found c.loop-name.invariant.rising (λ q. finished c.loop-name.names.items q _ _ none (c.loop-name.invariant.chosen q))
