use Rattle.std.proofs.Common.{◌≡◌, ℕ, List, ◌∷◌, length, map, sym, subst, rules}
use Rattle.go_type.specs.Levels.{tree_of}
use Rattle.go_type.specs.Named.{method_of}
use Rattle.go_type.specs.Table.{places, names, size}
use Rattle.go_type.specs.Members.{method_found, methods_found}
use Rattle.go_type.specs.Tried.{held_package, Tries, TriesName}
use Rattle.go_type.specs.declared.types.Method.{Method}
use Rattle.go_type.proofs.TryLemmas.{tries_both, tries_method, methods_end}
use Rattle.go_type.proofs.tries.try_methods.Goals as goal

pub names-preserved : goal.names-preserved
names-preserved c =
    let w = c.args.table.now in
    let ts = places w in
    let ns = names w in
    let t = tree_of ts c.args.t in
    let m = c.in-Some.method.now in
    let others = c.in-Some.others.now in
    let old = c.names.specs.items in
    let mid = c.try_name.new.specs.items in
    let e : c.names.rest.now ≡ m ∷ others = search rules in
    let got : TriesName (size w) ts ns t c.args.indirect m.name (held_package m.name c.args.home.now) old mid = subst (λ (p : List ℕ). TriesName (size w) ts ns t c.args.indirect m.name p old mid) c.in_ok-package.ensures c.in_ok-try_name.ensures in
    record {
      are = got.are;
      rest = λ of_ new h. c.names.invariant.rest of_ new (subst (λ (xs : List Method). Tries (size w) ts ns t c.args.indirect (λ s. methods_found s of_ c.args.home.now (map (method_of ts) xs)) old new) (sym e)
          (tries_both (size w) ts ns t c.args.indirect (λ s. method_found s of_ c.args.home.now (method_of ts m)) (λ s. methods_found s of_ c.args.home.now (map (method_of ts) others)) old mid new (tries_method (size w) ts ns t c.args.indirect of_ c.args.home.now (method_of ts m) old mid got) h));
    }

pub returns : goal.returns
returns c of_ =
    let w = c.args.table.now in
    let ts = places w in
    let ns = names w in
    let t = tree_of ts c.args.t in
    let e : length c.names.rest.now ≡ 0 = search rules in
    c.names.invariant.rest of_ c.names.specs.items (methods_end (size w) ts ns t c.args.indirect of_ c.args.home.now c.names.rest.now c.names.specs.items e c.names.invariant.are)
