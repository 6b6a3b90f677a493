use Rattle.std.proofs.Common.{◌≡◌, ◌∙◌, ℕ, List, [], ◌∷◌, sym, ap}
use Rattle.go_typing.specs.Scopes.{visible}
use Rattle.go_operands.specs.EnvView.{env_of}
use Rattle.go_operands.specs.Origin.{origin}
use Rattle.go_typing.specs.Walk.{declared_place}
use Rattle.go_walk.specs.WalkView.{walk_outside}
use Rattle.go_walk.proofs.ScopeLemmas.{stands, listed}
use Rattle.go_decls.proofs.OwnLemmas.{own_blank, own_found, own_lost}
use Rattle.go_decls.proofs.heads.head.is_own.Goals as goal

pub returns-then-is_blank : goal.returns-then-is_blank
returns-then-is_blank c = record { value = own_blank c.args.n.now (walk_outside c.args.env.now) (sym c.is_blank.ensures.value ∙ c.if-is_blank.true) }

pub returns-in-Some : goal.returns-in-Some
returns-in-Some c =
    let x = c.args.n.now.text in
    let ss = visible (env_of c.args.env.now) in
    let found : declared_place x ss ≡ c.in-Some.place ∷ [] = stands x ss ∙ sym (ap listed (c.in-Some.ensures.value ∙ ap (λ (y : List ℕ). origin y ss) c.as_bytes.ensures)) in
    record { value = own_found c.args.n.now (walk_outside c.args.env.now) c.in-Some.place c.same_place.result (sym c.is_blank.ensures.value ∙ c.if-is_blank.false) found c.same_place.ensures.value }

pub returns-in-None : goal.returns-in-None
returns-in-None c =
    let x = c.args.n.now.text in
    let ss = visible (env_of c.args.env.now) in
    let found : declared_place x ss ≡ [] = stands x ss ∙ sym (ap listed (c.in-None.ensures.value ∙ ap (λ (y : List ℕ). origin y ss) c.as_bytes.ensures)) in
    record { value = own_lost c.args.n.now (walk_outside c.args.env.now) (sym c.is_blank.ensures.value ∙ c.if-is_blank.false) found }
