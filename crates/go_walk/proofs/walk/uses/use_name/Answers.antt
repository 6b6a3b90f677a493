use Rattle.std.proofs.Common.{◌∙◌, sym, ap, ℕ, List, ◌++◌}
use Rattle.std.proofs.lemmas.List.{append-nil}
use Rattle.gj_base.specs.declared.place.Place.{Place}
use Rattle.go_typing.specs.Scopes.{visible}
use Rattle.go_operands.specs.EnvView.{env_of}
use Rattle.go_operands.specs.Origin.{origin}
use Rattle.go_walk.proofs.AnswerLemmas.{on_ok}
use Rattle.go_walk.proofs.ScopeLemmas.{stands, listed}
use Rattle.go_walk.proofs.walk.uses.use_name.Goals as goal

pub returns-in-Some : goal.returns-in-Some
returns-in-Some c =
    let ss = visible (env_of c.args.env.now) in
    record {
      value = on_ok c.and_place.result (λ q. q ∙ ap (λ (ps : List Place). c.args.used.now.items ++ ps) (ap listed (c.in-Some.ensures.value ∙ ap (λ (y : List ℕ). origin y ss) c.as_bytes.ensures) ∙ sym (stands c.args.x.now ss))) c.and_place.ensures.value;
    }

pub returns-in-None : goal.returns-in-None
returns-in-None c =
    let ss = visible (env_of c.args.env.now) in
    record {
      value = sym (append-nil c.args.used.now.items)
          ∙ ap (λ (ps : List Place). c.args.used.now.items ++ ps) (ap listed (c.in-None.ensures.value ∙ ap (λ (y : List ℕ). origin y ss) c.as_bytes.ensures) ∙ sym (stands c.args.x.now ss));
    }
