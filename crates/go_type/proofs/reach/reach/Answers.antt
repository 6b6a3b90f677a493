use Rattle.std.proofs.Common.{◌≤◌, ◌∙◌, sym, subst, arith}
use Rattle.std.specs.List.{AllByRecursion}
use Rattle.go_type.specs.Tree.{Ty}
use Rattle.go_type.specs.Table.{places, names, size}
use Rattle.go_type.specs.Members.{fields_in}
use Rattle.go_type.specs.Chains.{bases_of}
use Rattle.go_type.specs.Reached.{Reaches}
use Rattle.go_type.proofs.ReachLemmas.{only_held, only_below, is_held, held_extended, closed_step, closed_all, past_at, few_ids}
use Rattle.go_type.proofs.reach.reach.Goals as goal

pub loop-next-init : goal.loop-next-init
loop-next-init c = record {
  start = only_held c.args.t.0 c.in_ok-ids.ids.keys c.in_ok-ids.ensures.keys;
  ids = record { below = only_below (size c.args.table.now) c.args.t.0 c.in_ok-ids.ids.keys c.in_ok-ids.ensures.keys c.requires; distinct = c.in_ok-ids.ensures.distinct };
  closed = λ j l. absurd (omega arith);
}

pub underlying-requires : goal.underlying-requires
underlying-requires c = c.loop-next.invariant.ids.below c.in-Some.id (is_held c.loop-next.ids.keys c.loop-next.next c.in-Some.id (sym c.in-Some.ensures))

pub loop-next-preserved : goal.loop-next-preserved
loop-next-preserved c =
    let ns = names c.args.table.now in
    let ts = places c.args.table.now in
    let old = c.loop-next.ids.keys in
    let new = c.embed_level.new.ids.keys in
    let x = c.in_ok-embed_level-in-Some.ensures.more in
    let here = subst (λ (u : Ty). AllByRecursion (Reaches ts new) (bases_of (fields_in u))) (c.get-under.ensures.tree ∙ c.underlying.ensures.tree) c.in_ok-embed_level-in-Some.ensures.reached in
    record {
      start = held_extended old new c.args.t.0 x c.loop-next.invariant.start;
      ids = c.in_ok-embed_level-in-Some.ensures.below;
      closed = closed_step ns ts old new c.loop-next.next c.in-Some.id x (sym c.in-Some.ensures) c.loop-next.invariant.closed here;
    }

pub returns-in-None-clause-closed : goal.returns-in-None-clause-closed
returns-in-None-clause-closed c =
    closed_all (names c.args.table.now) (places c.args.table.now) c.loop-next.ids.keys c.loop-next.next c.loop-next.invariant.closed (past_at c.loop-next.ids.keys c.loop-next.next (sym c.in-None.ensures))

pub returns-clause-closed : goal.returns-clause-closed
returns-clause-closed c =
    let s = c.args.table.now in
    let few = few_ids (size s) c.loop-next.ids.keys c.loop-next.invariant.ids in
    let end : size s ≤ c.loop-next.next = omega (arith, c.len-next-end.ensures.value, c.loop-next-test.false) in
    closed_all (names s) (places s) c.loop-next.ids.keys c.loop-next.next c.loop-next.invariant.closed (omega (arith, few, end))
