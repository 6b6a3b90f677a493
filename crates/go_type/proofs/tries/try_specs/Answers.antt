use Rattle.std.proofs.Common.{◌≡◌, List, ◌∷◌, length, sym, subst, rules}
use Rattle.go_type.specs.Levels.{tree_of, trees_of, specs_of}
use Rattle.go_type.specs.Table.{places, names, size}
use Rattle.go_type.specs.Members.{spec_found, specs_found}
use Rattle.go_type.specs.Tried.{Tries, TriesName}
use Rattle.go_type.specs.declared.types.MethodSpec.{MethodSpec}
use Rattle.go_type.proofs.TryLemmas.{tries_both, tries_spec, specs_end}
use Rattle.go_type.proofs.tries.try_specs.Goals as goal

pub names-preserved : goal.names-preserved
names-preserved c =
    let w = c.args.table.now in
    let ts = places w in
    let ns = names w in
    let t = tree_of ts c.args.t in
    let m = c.in-Some.spec.now in
    let others = c.in-Some.others.now in
    let old = c.names.specs.items in
    let mid = c.try_name.new.specs.items in
    let e : c.names.rest.now ≡ m ∷ others = search rules in
    let got : TriesName (size w) ts ns t c.args.indirect m.name m.package old mid = c.in_ok-try_name.ensures in
    record {
      are = got.are;
      rest = λ of_ new h. c.names.invariant.rest of_ new (subst (λ (xs : List MethodSpec). Tries (size w) ts ns t c.args.indirect (λ s. specs_found s of_ (specs_of ts xs)) old new) (sym e)
          (tries_both (size w) ts ns t c.args.indirect (λ s. spec_found s of_ m.name m.package (trees_of ts m.sig.params) (trees_of ts m.sig.results) m.sig.variadic) (λ s. specs_found s of_ (specs_of ts others)) old mid new (tries_spec (size w) ts ns t c.args.indirect of_ m.name m.package (trees_of ts m.sig.params) (trees_of ts m.sig.results) m.sig.variadic old mid got) h));
    }

pub returns : goal.returns
returns c of_ =
    let w = c.args.table.now in
    let ts = places w in
    let ns = names w in
    let t = tree_of ts c.args.t in
    let e : length c.names.rest.now ≡ 0 = search rules in
    c.names.invariant.rest of_ c.names.specs.items (specs_end (size w) ts ns t c.args.indirect of_ c.names.rest.now c.names.specs.items e c.names.invariant.are)
