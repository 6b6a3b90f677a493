use Rattle.std.proofs.Common.{◌≡◌, ◌∷◌, rules}
use Rattle.go_is_sound.proofs.BodyLemmas.{own_one}
use Rattle.go_is_sound.proofs.functions.after_receiver.Goals as goal

pub returns-in-Some : goal.returns-in-Some
returns-in-Some c = record {
  is = λ ts.
      let e : c.args.vars.now ≡ c.in-Some._first.now ∷ c.in-Some.rest.now = search rules in
      own_one ts c.args.vars.now c.in-Some._first.now c.in-Some.rest.now c.args.is_method c.if-not-is_method.false e;
}
