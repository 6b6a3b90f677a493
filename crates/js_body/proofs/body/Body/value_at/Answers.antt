use Rattle.std.proofs.Common.{refl}
use Rattle.js_body.proofs.Places.{item_at, none_at, parts_value_at, parts_past}
use Rattle.js_body.proofs.body.Body.value_at.Goals as goal

pub returns-in-Some : goal.returns-in-Some
returns-in-Some c s t = parts_value_at _ _ c.args.self.now.stack.items _ _ _ s c.args.place c.in-Some.o.now (item_at _ _ _ c.in-Some.o c.deref.ensures.value c.in-Some.ensures.lookup) t

pub returns-in-None : goal.returns-in-None
returns-in-None c s t = parts_past _ _ c.args.self.now.stack.items _ _ _ s c.args.place _ (none_at _ _ _ c.deref.ensures.value c.in-None.ensures.lookup) refl refl t
