use Rattle.std.proofs.Common.{subst, List, length, ◌<◌, ◌≡◌, None}
use Rattle.js_value.specs.declared.heap.heap.Object.{Object}
use Rattle.js_value.specs.HeapSeen.{value_of, objects_of, object_at}
use Rattle.js_value.proofs.HeapObjects.{removed_is, removed_none, same_is}
use Rattle.js_value.proofs.heap.heap.remove.Goals as goal

pub returns-in-Some-clause-value : goal.returns-in-Some-clause-value
returns-in-Some-clause-value c = removed_is c.args.objects.now.items c.in-Some.id c.index_mut.result.now c.remove_in.new.object (value_of c.args.a) (value_of c.args.k) c.remove_in.result c.in-Some.ensures.found.0 (subst (λ (os : List Object). c.in-Some.id < length os) c.as_slice.ensures.value c.in-Some.ensures.found.1) c.index_mut.ensures.value c.remove_in.ensures.value

pub returns-in-Some-clause-same : goal.returns-in-Some-clause-same
returns-in-Some-clause-same c = λ h. same_is c.args.objects.now.items c.in-Some.id c.index_mut.result.now c.remove_in.new.object c.index_mut.ensures.value (c.remove_in.ensures.same h)

pub returns-in-None-clause-value : goal.returns-in-None-clause-value
returns-in-None-clause-value c = removed_none (objects_of c.args.objects.now.items) (value_of c.args.a) (value_of c.args.k) (subst (λ (os : List Object). object_at (objects_of os) (value_of c.args.a) ≡ None) c.as_slice.ensures.value c.in-None.ensures.none)
