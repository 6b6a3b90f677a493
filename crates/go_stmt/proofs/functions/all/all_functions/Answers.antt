use Rattle.std.proofs.Common.{◌≡◌, ◌∙◌, [], refl, sym}
use Rattle.std.proofs.lemmas.List.{nil_from_length}
use Rattle.go_walk.specs.WalkView.{walk_outside}
use Rattle.go_stmt.proofs.LoopLemmas.{left_first, can_start, left_next, left_end}
use Rattle.go_stmt.proofs.functions.all.all_functions.Goals as goal

pub loop-head-init : goal.loop-head-init
loop-head-init c = left_first c.args.walk.now c.args.heads.items c.args.flaws.now.items c.args.done.now.items c.requires.ready c.requires.none

pub function-requires : goal.function-requires
function-requires c = record {
  start =
      can_start (walk_outside c.args.walk.now.env) c.args.walk.now c.args.heads.items c.loop-head.heads.items c.pop.new.self.items c.in-Some.head c.loop-head.walk c.args.flaws.now.items c.loop-head.flaws.items c.loop-head.done.items
      c.loop-head.invariant c.in-Some.ensures.items c.requires.plain refl;
}

pub loop-head-preserved : goal.loop-head-preserved
loop-head-preserved c =
    left_next (walk_outside c.args.walk.now.env) c.args.walk.now c.args.heads.items c.loop-head.heads.items c.pop.new.self.items c.in-Some.head c.loop-head.walk c.args.flaws.now.items c.loop-head.flaws.items c.loop-head.done.items
    c.function.new.walk c.function.new.flaws.items c.and_func.new.items.items c.in-Ok.f c.loop-head.invariant c.in-Some.ensures.items c.in_ok-and_func-in-Ok.ensures.items (c.in-Ok.ensures.done (walk_outside c.args.walk.now.env))

pub returns : goal.returns
returns c =
    let none : c.loop-head.heads.items ≡ [] = nil_from_length _ (sym c.loop-head.heads.ok.0 ∙ c.in_default.ensures.cases.0) in
    record {
      left = left_end (walk_outside c.args.walk.now.env) c.args.walk.now c.args.heads.items c.loop-head.heads.items c.loop-head.walk c.args.flaws.now.items c.loop-head.flaws.items c.loop-head.done.items c.loop-head.invariant none;
    }
