use Rattle.std.proofs.Common.{◌≡◌, ◌<◌, ◌≤◌, ◌∙◌, ◌+◌, ◌++◌, refl, ap, sym, subst, arith, List, [], ◌∷◌, drop, length, map}
use Rattle.std.specs.Prelude.{option_map}
use Rattle.std.specs.Borrow.{Bor}
use Rattle.std.proofs.lemmas.List.{drop-drop, drop_all, length-drop, length-map, map-append}
use Rattle.go_type.specs.Table.{places}
use Rattle.go_core.specs.Communicate.{offers_by, offers_from}
use Rattle.go_core.specs.CoreTree as core
use Rattle.go_core.specs.Opened.{cases_of}
use Rattle.go_core.specs.declared.statement.CoreCases.{out-CoreCases}
use Rattle.go_state.specs.TasksSeen.{case_view, cases_from}
use Rattle.go_state.proofs.ListsLemmas.{cases_whole}
use Rattle.go_values.specs.ValuesSeen.{value_of, values_of}
use Rattle.go_values.specs.declared.values.scalar.Scalar.{Scalar}
use Rattle.go_state.specs.StateSeen.{offer_of}
use Rattle.go_state.specs.declared.state.state.Offer as held
use Rattle.go_partners.proofs.OfferLemmas.{before_all, lacks_handed, offers_end, offers_lack, offers_next, offers_over, rest_from}
use Rattle.go_partners.specs.Ways.{Lacks, offers_by_first}
use Rattle.go_partners.proofs.selects.offers.offers_from.Goals as goal

pub clauses-init : goal.clauses-init
clauses-init c = record {
  within = omega arith;
  found = λ p g free q.
      let ts = places c.args.c.now.table.now in
      let vs = values_of ts c.args.vs.now in
      let all = offers_from p g free (cases_of (cases_from ts c.args.cases.now 0)) vs in
      ap (λ (z : core.Cases). offers_from p g free (cases_of z) vs) (cases_whole ts c.args.cases.now)
      ∙ sym (before_all all)
      ∙ sym (ap (λ (xs : List held.Offer). option_map (λ os. map (offer_of ts) xs ++ os) all) c.new-offers.ensures.items);
}

pub clauses-preserved : goal.clauses-preserved
clauses-preserved c =
    let cases = c.args.cases.now in
    let vs = c.args.vs.now in
    let at = c.clauses.at in
    let i = c.clauses.i in
    let way = c.in_ok-way.way in
    let counted = (out-CoreCases cases).items.ok.0 in
    let l : i < length (out-CoreCases cases).items.items = omega (arith, c.clauses-test.true, c.len-i-end.ensures, counted) in
    record {
      within = omega (arith, c.in_ok-way.ensures.within, ap (λ (ys : List (Bor (List Scalar))). length ys) (rest_from at vs), length-drop at vs, c.clauses.invariant.within);
      found = λ p g free q.
          let ts = places c.args.c.now.table.now in
          let o = offer_of ts way.offer in
          c.clauses.invariant.found p g free q
          ∙ offers_next p g free ts cases (out-CoreCases cases).items.items i c.index.result.now (values_of ts (drop at vs)) refl l c.index.ensures
          (map (offer_of ts) c.clauses.offers.items) (map (offer_of ts) c.add.new.offers.items) o (values_of ts (drop (at + way.count) vs))
          (ap (λ (xs : List held.Offer). map (offer_of ts) xs) c.in_ok-add.ensures.value ∙ map-append (offer_of ts) c.clauses.offers.items (way.offer ∷ []))
          (λ others.
          let first = λ (ys : List (Bor (List Scalar))). offers_by_first (offers_by p g free) (cases_of (case_view ts c.index.result.now core.no_cases)) (values_of ts ys) others in
          sym (ap first (rest_from at vs))
          ∙ c.in_ok-way.ensures.value p g free q others
          ∙ ap (λ (ys : List (Bor (List Scalar))). option_map (λ os. o ∷ os) (others (values_of ts (drop way.count ys)))) (rest_from at vs)
          ∙ ap (λ (ys : List (Bor (List Scalar))). option_map (λ os. o ∷ os) (others (values_of ts ys))) (drop-drop way.count at vs));
    }

pub returns-in_err-way : goal.returns-in_err-way
returns-in_err-way c = record {
  value = λ p g free q.
      let ts = places c.args.c.now.table.now in
      let cases = c.args.cases.now in
      let vs = c.args.vs.now in
      let i = c.clauses.i in
      let counted = (out-CoreCases cases).items.ok.0 in
      let l : i < length (out-CoreCases cases).items.items = omega (arith, c.clauses-test.true, c.len-i-end.ensures, counted) in
      let x = c.in_err-way.field-0.0 in
      lacks_handed ts c.from_residual.result x _ c.from_residual.ensures.1
      (offers_lack p g free ts cases (out-CoreCases cases).items.items i c.index.result.now (values_of ts (drop c.clauses.at vs)) refl l c.index.ensures
      x (map (offer_of ts) c.clauses.offers.items) _ (c.clauses.invariant.found p g free q)
      (λ others. subst (λ (ys : List (Bor (List Scalar))). Lacks x (offers_by_first (offers_by p g free) (cases_of (case_view ts c.index.result.now core.no_cases)) (values_of ts ys) others)) (rest_from c.clauses.at vs) (c.in_err-way.ensures.value p g free q others)));
}

pub returns-then-at-vs : goal.returns-then-at-vs
returns-then-at-vs c = record {
  value = λ p g free q.
      let ts = places c.args.c.now.table.now in
      let cases = c.args.cases.now in
      let vs = c.args.vs.now in
      let i = c.clauses.i in
      let counted = (out-CoreCases cases).items.ok.0 in
      let over : length (out-CoreCases cases).items.items ≤ i = omega (arith, c.clauses-test.false, c.len-i-end.ensures, counted) in
      let more : length (values_of ts (drop c.clauses.at vs)) ≡ 0 → ⊥ = λ e. c.if-at-vs.true (omega (arith, e, length-map (drop c.clauses.at vs) (λ (v : Bor (List Scalar)). value_of ts v.now), length-drop c.clauses.at vs, c.clauses.invariant.within)) in
      c.clauses.invariant.found p g free q
      ∙ offers_over p g free ts cases (out-CoreCases cases).items.items i (map (offer_of ts) c.clauses.offers.items) (values_of ts (drop c.clauses.at vs)) refl over more;
}

pub returns : goal.returns
returns c = record {
  value = λ p g free q.
      let ts = places c.args.c.now.table.now in
      let cases = c.args.cases.now in
      let vs = c.args.vs.now in
      let i = c.clauses.i in
      let counted = (out-CoreCases cases).items.ok.0 in
      let over : length (out-CoreCases cases).items.items ≤ i = omega (arith, c.clauses-test.false, c.len-i-end.ensures, counted) in
      let none : drop c.clauses.at vs ≡ [] = drop_all c.clauses.at vs (omega (arith, c.if-at-vs.false)) in
      c.clauses.invariant.found p g free q
      ∙ ap (λ (ys : List (Bor (List Scalar))). option_map (λ os. map (offer_of ts) c.clauses.offers.items ++ os) (offers_from p g free (cases_of (cases_from ts cases i)) (values_of ts ys))) none
      ∙ offers_end p g free ts cases (out-CoreCases cases).items.items i (map (offer_of ts) c.clauses.offers.items) refl over;
}
