use Rattle.std.proofs.Common.{◌∙◌, refl, sym, ap, arith, get_or, map, ℕ, List}
use Rattle.std.specs.Prelude.{Some}
use Rattle.std.proofs.lemmas.List.{length-map}
use Rattle.go_core.specs.Calls.{bases_of}
use Rattle.go_core.specs.CoreView.{id_of}
use Rattle.go_state.specs.StateSeen.{places_of}
use Rattle.go_state.proofs.Lists.{no_id, split_map}
use Rattle.go_state.proofs.BindLemmas.{bases_begin, bases_step, bases_none, bases_end}
use Rattle.go_state.proofs.bindings.captured.bases_of.Goals as goal

pub each-init : goal.each-init
each-init c = bases_begin c.new-bases.result.items (bases_of (map id_of c.args.captured.now) (places_of c.args.at.now)) c.new-bases.ensures.items

pub each-preserved : goal.each-preserved
each-preserved c =
    let i = c.each.i in
    let v = get_or c.args.captured.now i no_id in
    bases_step (places_of c.args.at.now) (map id_of c.args.captured.now) _ i v.0 c.in-Some.base c.each.bases.items _
    (split_map id_of c.args.captured.now i v no_id (omega (arith, c.each-test.true)) refl)
    (sym c.base_of.ensures.value ∙ c.in-Some.is) c.in_ok-push-in-Some.ensures.items c.each.invariant

pub returns-in-None : goal.returns-in-None
returns-in-None c =
    let i = c.each.i in
    let v = get_or c.args.captured.now i no_id in
    record {
      value =
          bases_none (places_of c.args.at.now) (map id_of c.args.captured.now) _ i v.0 c.each.bases.items
          (split_map id_of c.args.captured.now i v no_id (omega (arith, c.each-test.true)) refl)
          (sym c.base_of.ensures.value ∙ c.in-None.is) c.each.invariant;
    }

pub returns : goal.returns
returns c =
    record {
      value =
          ap (λ (xs : List ℕ). Some xs) (c.in_ok-held.ensures ∙ c.as_slice.ensures.value)
          ∙ bases_end (places_of c.args.at.now) (map id_of c.args.captured.now) _ c.each.i c.each.bases.items (omega (arith, c.each-test.false, length-map c.args.captured.now id_of)) c.each.invariant;
    }
