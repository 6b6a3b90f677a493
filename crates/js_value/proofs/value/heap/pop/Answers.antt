use Rattle.std.proofs.Common.{subst, List, length, ◌<◌, ◌≡◌, None}
use Rattle.js_value.specs.declared.value.heap.Object.{Object}
use Rattle.js_value.specs.ValueSeen.{value_of, objects_of, object_at}
use Rattle.js_value.proofs.ValueObjects.{popped_is, popped_none, same_none}
use Rattle.js_value.proofs.value.heap.pop.Goals as goal

pub returns-in-Some-clause-value : goal.returns-in-Some-clause-value
returns-in-Some-clause-value c = popped_is c.args.objects.now.items c.in-Some.id c.index_mut.result.now c.pop_in.new.object (value_of c.args.a.now) c.pop_in.result c.in-Some.ensures.found.0 (subst (λ (os : List Object). c.in-Some.id < length os) c.as_slice.ensures.value c.in-Some.ensures.found.1) c.index_mut.ensures.value c.pop_in.ensures.value

pub returns-in-Some-clause-same : goal.returns-in-Some-clause-same
returns-in-Some-clause-same c = same_none c.args.objects.now.items c.in-Some.id c.index_mut.result.now c.pop_in.new.object c.pop_in.result c.index_mut.ensures.value c.pop_in.ensures.same

pub returns-in-None-clause-value : goal.returns-in-None-clause-value
returns-in-None-clause-value c = popped_none (objects_of c.args.objects.now.items) (value_of c.args.a.now) (subst (λ (os : List Object). object_at (objects_of os) (value_of c.args.a.now) ≡ None) c.as_slice.ensures.value c.in-None.ensures.none)
