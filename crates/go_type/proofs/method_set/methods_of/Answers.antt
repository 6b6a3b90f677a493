use Rattle.std.proofs.Common.{◌≤◌, sym, refl, arith}
use Rattle.go_type.specs.Levels.{tree_of}
use Rattle.go_type.specs.Table.{places, names, size}
use Rattle.go_type.proofs.ReachLemmas.{is_held, past_at, few_ids}
use Rattle.go_type.proofs.TryLemmas.{no_methods, tried_step, all_tried}
use Rattle.go_type.proofs.method_set.methods_of.Goals as goal

pub loop-next-init : goal.loop-next-init
loop-next-init c =
    let w = c.args.table.now in
    record {
      are = no_methods (size w) (places w) (names w) (tree_of (places w) c.args.t) c.args.indirect c.no_methods-specs.result.items c.no_methods-specs.ensures;
      tried = λ j l. absurd (omega arith);
    }

pub try_own-requires-clause-of : goal.try_own-requires-clause-of
try_own-requires-clause-of c = c.requires.below.below c.in-Some.id (is_held c.args.ids.now.keys c.loop-next.next c.in-Some.id (sym c.in-Some.ensures))

pub loop-next-preserved : goal.loop-next-preserved
loop-next-preserved c =
    let w = c.args.table.now in
    record {
      are = c.in_ok-try_own-in-Some.ensures.are;
      tried = tried_step (size w) (places w) (names w) (tree_of (places w) c.args.t) c.args.indirect c.loop-next.next c.in-Some.id c.args.ids.now.keys c.loop-next.specs.items c.try_own.new.specs.items (sym c.in-Some.ensures) c.loop-next.invariant.tried c.in_ok-try_own-in-Some.ensures;
    }

pub returns-in-None : goal.returns-in-None
returns-in-None c =
    let w = c.args.table.now in
    let ids = c.args.ids.now.keys in
    all_tried (size w) (places w) (names w) (tree_of (places w) c.args.t) c.args.indirect ids c.args.t.0 c.loop-next.specs.items c.requires.closed c.requires.start refl c.loop-next.invariant.are c.loop-next.next (past_at ids c.loop-next.next (sym c.in-None.ensures)) c.loop-next.invariant.tried

pub returns : goal.returns
returns c =
    let w = c.args.table.now in
    let ids = c.args.ids.now.keys in
    let few = few_ids (size w) ids c.requires.below in
    let end : size w ≤ c.loop-next.next = omega (arith, c.len-next-end.ensures.value, c.loop-next-test.false) in
    all_tried (size w) (places w) (names w) (tree_of (places w) c.args.t) c.args.indirect ids c.args.t.0 c.loop-next.specs.items c.requires.closed c.requires.start refl c.loop-next.invariant.are c.loop-next.next (omega (arith, few, end)) c.loop-next.invariant.tried
