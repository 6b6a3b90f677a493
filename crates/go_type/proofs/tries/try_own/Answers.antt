use Rattle.std.proofs.Common.{◌≡◌, ◌∙◌, subst}
use Rattle.go_type.specs.Tree.{Ty}
use Rattle.go_type.specs.Levels.{tree_of, level}
use Rattle.go_type.specs.Underlying.{underlying}
use Rattle.go_type.specs.Table.{places, names, size}
use Rattle.go_type.specs.Members.{shape_found, declared_found, own_members}
use Rattle.go_type.specs.Tried.{Tries}
use Rattle.go_type.proofs.TryLemmas.{tries_both, on_ok}
use Rattle.go_type.proofs.tries.try_own.Goals as goal

pub try_declared-requires-clause-are : goal.try_declared-requires-clause-are
try_declared-requires-clause-are c = (c.in_ok-try_shape.ensures (tree_of (places c.args.table.now) c.args.«of»)).are

pub returns : goal.returns
returns c =
    let w = c.args.table.now in
    let ts = places w in
    let ns = names w in
    let t = tree_of ts c.args.t in
    let u = tree_of ts c.args.«of» in
    let old = c.args.specs.now.items in
    let mid = c.try_shape.new.specs.items in
    let new = c.try_declared.new.specs.items in
    let e : level ts c.get-under.result.now ≡ underlying ns u = c.get-under.ensures.tree ∙ c.underlying.ensures.tree in
    let shape : Tries (size w) ts ns t c.args.indirect (λ s. shape_found s u (underlying ns u)) old mid =
    subst (λ (v : Ty). Tries (size w) ts ns t c.args.indirect (λ s. shape_found s u v) old mid) e (c.in_ok-try_shape.ensures u) in
    on_ok (λ _. Tries (size w) ts ns t c.args.indirect (λ s. declared_found ns s u) mid new) (λ _. Tries (size w) ts ns t c.args.indirect (λ s. own_members ns s u) old new)
    (λ _ h. tries_both (size w) ts ns t c.args.indirect (λ s. shape_found s u (underlying ns u)) (λ s. declared_found ns s u) old mid new shape h)
    c.try_declared.result c.try_declared.ensures
