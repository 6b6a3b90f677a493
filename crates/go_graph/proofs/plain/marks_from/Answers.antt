use Rattle.std.proofs.Common.{rules, arith, ◌≡◌, ◌<◌, ◌+◌, ◌∙◌, ℕ, [], ◌∷◌, ◌++◌, List, Bool, Some, ap, sym, subst, slice_get, false, replicate, length}
use Rattle.std.proofs.lemmas.Grind.{get_or_default_zero}
use Rattle.go_graph.specs.Cycle.{lists}
use Rattle.go_graph.proofs.ListLemmas.{length_lists, get_at}
use Rattle.go_graph.proofs.SearchLemmas.{Searches, IsClosedBelow, starts, visit_node, closed_node, longer_node, all_closed, marks_reached}
use Rattle.go_graph.proofs.plain.marks_from.Goals as goal

pub loop-next-init : goal.loop-next-init
loop-next-init c =
    let es = lists c.args.edges.now in
    let made : c.in_ok-marks.marks.items ≡ replicate (length c.args.edges.now) false = c.in_ok-marks.ensures.items_if_clones_equal (search rules) in
    record {
      searches = subst (λ (q : List ℕ). Searches es c.args.start c.in_ok-marks.marks.items q) (sym (c.in_ok-push.ensures.items ∙ ap (λ (q : List ℕ). q ++ c.args.start ∷ []) c.new-queue.ensures.items))
          (starts es c.args.start c.in_ok-marks.marks.items (made ∙ ap (λ (n : ℕ). replicate n false) (sym (length_lists c.args.edges.now))));
      closed = λ k p j h. absurd (omega (arith, h));
      within = omega arith;
    }

pub loop-next-preserved : goal.loop-next-preserved
loop-next-preserved c =
    let es = lists c.args.edges.now in
    let m = c.loop-next.marks.items in
    let q = c.loop-next.queue.items in
    let next = c.loop-next.next in
    let node = c.index-node.result.now in
    let within : next < length q = omega (arith, c.loop-next-test.true, c.len.ensures) in
    let spot : slice_get q next ≡ Some node = get_at q next within ∙ ap Some (sym (c.index-node.ensures ∙ get_or_default_zero q next node within)) in
    let after = c.in_ok-visit.ensures.ok in
    record {
      searches = subst (λ (r : List Bool × List ℕ). Searches es c.args.start r.0 r.1) after (visit_node es c.args.start m q next node spot c.loop-next.invariant.searches);
      closed = subst (λ (r : List Bool × List ℕ). IsClosedBelow es r.0 r.1 (next + 1)) after (closed_node es c.args.start m q next node spot within c.loop-next.invariant.closed);
      within = let longer = subst (λ (r : List Bool × List ℕ). next < length r.1) after (longer_node es c.args.start m q next node spot) in omega (arith, longer);
    }

pub returns : goal.returns
returns c =
    let es = lists c.args.edges.now in
    let m = c.loop-next.marks.items in
    let q = c.loop-next.queue.items in
    let good = c.loop-next.invariant.searches in
    record {
      value = marks_reached es c.args.start m good.count good.reached (all_closed es c.args.start m q c.loop-next.next good c.loop-next.invariant.closed (omega (arith, c.loop-next-test.false, c.len.ensures)));
    }
