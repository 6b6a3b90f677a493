use Rattle.std.specs.Prelude.{None}
use Rattle.go_decls.proofs.KnownLemmas.{some_step, none_step, some_end, below_step}
use Rattle.go_decls.proofs.signatures.known.all_known.Goals as goal

pub loop-ty-preserved : goal.loop-ty-preserved
loop-ty-preserved c =
    let types = c.args.types.now in
    let i = c.loop-ty.ty-index in
    let t = c.in-Some.t in
    let old = c.loop-ty.ids.items in
    let new = c.push.new.self.items in
    record {
      some = λ ts us. some_step ts types i None t old new c.loop-ty-test.true c.in-Some.is c.in_ok-push-in-Some.ensures.items (c.loop-ty.invariant.some ts) us;
      none = λ ts. none_step ts types i None t c.loop-ty-test.true c.in-Some.is (c.loop-ty.invariant.none ts);
      within = λ n l. below_step n types i None t old new c.loop-ty-test.true c.in-Some.is c.in_ok-push-in-Some.ensures.items l (c.loop-ty.invariant.within n l);
    }

pub returns-clause-value : goal.returns-clause-value
returns-clause-value c = λ ts. some_end ts c.args.types.now c.loop-ty.ty-index c.loop-ty.ids.items c.loop-ty-test.false (c.loop-ty.invariant.some ts)
