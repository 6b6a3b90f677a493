use Rattle.std.proofs.Common.{map}
use Rattle.std.specs.declared.vec.Vec.{Vec}
use Rattle.std.specs.declared.alloc.Global.{Global}
use Rattle.go_type.specs.Levels.{tree_of, SpecsBelow}
use Rattle.go_type.specs.Table.{places, names, size}
use Rattle.go_type.specs.MethodList.{IsMethodSet, spec_of}
use Rattle.go_type.specs.Tried.{AreAllMethods}
use Rattle.go_type.specs.declared.types.MethodSpec.{MethodSpec}
use Rattle.go_type.proofs.TryLemmas.{whole_set, on_ok}
use Rattle.go_type.proofs.method_set.method_list.Goals as goal

pub returns-in-Some-clause-exact : goal.returns-in-Some-clause-exact
returns-in-Some-clause-exact c =
    let w = c.args.table.now in
    let ts = places w in
    let ns = names w in
    let u = tree_of ts c.args.t in
    let b = tree_of ts c.in-Some.from.0 in
    let i = c.in-Some.from.1 in
    on_ok (λ (v : Vec MethodSpec Global). AreAllMethods (size w) ts ns b i v.items) (λ (v : Vec MethodSpec Global). IsMethodSet ns u (map (spec_of ts) v.items))
    (λ v a. whole_set (size w) ts ns b i u v.items c.in-Some.ensures.0 a) c.methods_from.result c.methods_from.ensures

pub returns-in-Some-clause-within : goal.returns-in-Some-clause-within
returns-in-Some-clause-within c =
    let w = c.args.table.now in
    let ts = places w in
    let b = tree_of ts c.in-Some.from.0 in
    on_ok (λ (v : Vec MethodSpec Global). AreAllMethods (size w) ts (names w) b c.in-Some.from.1 v.items) (λ (v : Vec MethodSpec Global). SpecsBelow (size w) v.items)
    (λ v a. a.are.below) c.methods_from.result c.methods_from.ensures
