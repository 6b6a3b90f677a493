use Rattle.std.proofs.Common.{◌∙◌, ◌+◌, sym, ap, ℕ, List, ◌++◌, drop, append_assoc}
use Rattle.std.proofs.lemmas.List.{append-nil}
use Rattle.std.specs.Borrow.{Bor}
use Rattle.gj_base.specs.declared.place.Place.{Place}
use Rattle.go_operands.specs.EnvView.{env_of}
use Rattle.go_typing.specs.Scopes.{visible}
use Rattle.go_typing.specs.Walk.{declared_place, places_of}
use Rattle.go_walk.specs.Texts.{texts}
use Rattle.go_walk.proofs.WalkSteps.{next_at, past}
use Rattle.go_walk.proofs.walk.uses.use_names.Goals as goal

pub loop-x-preserved : goal.loop-x-preserved
loop-x-preserved c =
    let ss = visible (env_of c.args.env.now) in
    let x = c.x-item.result.now in
    let rest = places_of (texts (drop (c.loop-x.x-index + 1) c.args.names.now)) ss in
    ap (λ (ps : List Place). ps ++ rest) c.in_ok-use_name.ensures.value
    ∙ append_assoc c.loop-x.used.items (declared_place x ss) rest
    ∙ ap (λ (xs : List (Bor (List ℕ))). c.loop-x.used.items ++ places_of (texts xs) ss) (sym (next_at c.args.names.now c.loop-x.x-index c.x-item.result c.loop-x-test.true c.x-item.is))
    ∙ c.loop-x.invariant

pub returns : goal.returns
returns c = record {
  value =
      let ss = visible (env_of c.args.env.now) in
      sym (append-nil c.loop-x.used.items)
      ∙ ap (λ (xs : List (Bor (List ℕ))). c.loop-x.used.items ++ places_of (texts xs) ss) (sym (past c.args.names.now c.loop-x.x-index c.loop-x-test.false))
      ∙ c.loop-x.invariant;
}
