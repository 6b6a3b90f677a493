use Rattle.std.proofs.Common.{rules, tests, nat_eq}
use Rattle.std.proofs.lemmas.Iterator.{YieldsList-from_slice}
use Rattle.std.proofs.lemmas.Iterator.Search.{any_from_yields_List}
use Rattle.js_body.specs.declared.body.Home.{Home}
use Rattle.js_body.proofs.body.has_slot.Goals as goal

pub returns : goal.returns
returns c = any_from_yields_List (λ (h : Home). nat_eq h.slot c.args.n) _ _ _ c.any.ensures.ran (YieldsList-from_slice c.args.homes.now cc) (λ x b q k. search (rules, tests))
