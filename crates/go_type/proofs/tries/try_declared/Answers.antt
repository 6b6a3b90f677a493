use Rattle.std.proofs.Common.{◌≡◌, List, map, ap, sym, ◌∙◌}
use Rattle.go_type.specs.Tree.{Ty, named}
use Rattle.go_type.specs.Levels.{tree_of, level}
use Rattle.go_type.specs.Named.{method_of, named_of}
use Rattle.go_type.specs.Table.{places, names, size}
use Rattle.go_type.specs.Members.{methods_found, declared_found}
use Rattle.go_type.specs.Tried.{Tries}
use Rattle.go_type.specs.declared.types.Method.{Method}
use Rattle.go_type.proofs.TryLemmas.{tries_declared, on_ok}
use Rattle.go_type.proofs.tries.try_declared.Goals as goal
use Rattle.std.proofs.Common.{subst}

pub returns-in-Named : goal.returns-in-Named
returns-in-Named c =
    let w = c.args.table.now in
    let ts = places w in
    let ns = names w in
    let t = tree_of ts c.args.t in
    let u = tree_of ts c.args.«of» in
    let old = c.args.specs.now.items in
    let new = c.try_methods.new.specs.items in
    let home = c.named-named.result.now.«package» in
    let list = c.as_slice.result.now in
    let y = named_of ts c.named-named.result.now in
    let e : named c.in-Named.id.0 ≡ u = sym (ap (level ts) c.in-Named.is) ∙ c.get.ensures.tree in
    on_ok (λ _. (of_ : Ty) → Tries (size w) ts ns t c.args.indirect (λ s. methods_found s of_ home (map (method_of ts) list)) old new) (λ _. Tries (size w) ts ns t c.args.indirect (λ s. declared_found ns s u) old new)
    (λ _ h. tries_declared (size w) ts ns t c.args.indirect u c.in-Named.id.0 y old new e c.named-named.ensures.value
    (subst (λ (ms : List Method). Tries (size w) ts ns t c.args.indirect (λ s. methods_found s u home (map (method_of ts) ms)) old new) c.as_slice.ensures (h u)))
    c.try_methods.result c.try_methods.ensures
