use Rattle.std.proofs.Common.{List, ℕ, map, subst, sym, ◌∙◌, ap}
use Rattle.std.proofs.lemmas.List.{take_all}
use Rattle.js_pool.specs.Names.{name_bytes}
use Rattle.js_pool.specs.Says as says
use Rattle.js_pool.specs.Says.{NamesAre}
use Rattle.js_pool.proofs.More.{name_more}
use Rattle.js_pool.proofs.pool.Pool.name_texts.Goals as goal

pub loop-i-preserved : goal.loop-i-preserved
loop-i-preserved c = name_more _ c.loop-i.i c.in_ok-x.x _ _ _ c.in_ok-x.ensures c.in_ok-push.ensures.items c.loop-i.invariant c.in_ok-x-2.ensures

pub returns : goal.returns
returns c = subst (λ (ts : List (List ℕ)). NamesAre c.args.self.now c.args.names ts) (sym (c.loop-i.invariant ∙ ap (map name_bytes) (take_all c.loop-i.i c.in_ok-part.part.now c.loop-i-test.false))) (says.names_are (rw c.as_slice.ensures.value at c.in_ok-part.ensures))
