use Rattle.std.proofs.Common.{rules, true, ◌≡◌, ℕ, arith}
use Rattle.std.specs.Prelude.{Some, slice_get}
use Rattle.std.proofs.lemmas.Option.{slice_get_within}
use Rattle.go_core.specs.declared.node.Var.{Var}
use Rattle.go_sound_parts.proofs.RowLemmas.{up_to}
use Rattle.go_is_sound.proofs.facts.are_placed.Goals as goal

pub vars-preserved : goal.vars-preserved
vars-preserved c =
    let b : c.is_placed.result ≡ true = search rules in
    up_to (λ (k : ℕ). (v : Var) → slice_get c.args.vars.now k ≡ Some v → slice_get c.args.places.now v.id.0 ≡ Some k) c.vars.i c.vars.invariant (c.is_placed.ensures.is b)

pub returns : goal.returns
returns c = record { is = λ h k v e. c.vars.invariant k (let w = slice_get_within c.args.vars.now k v e in omega (arith, c.vars-test.false, w)) v e }
