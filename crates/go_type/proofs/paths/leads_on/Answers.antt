use Rattle.std.proofs.Common.{◌≡◌, true, false, sym, subst, rules}
use Rattle.std.specs.Prelude.{Bool, ◌==◌}
use Rattle.go_type.specs.Tree.{Ty}
use Rattle.go_type.specs.Levels.{tree_of}
use Rattle.go_type.specs.Table.{places, names}
use Rattle.go_type.specs.Members.{sought, members_at, base_of}
use Rattle.go_type.specs.Paths.{LeadsOn, LeadsOnTo}
use Rattle.go_type.specs.Members.{NoneBefore}
use Rattle.go_type.proofs.WalkLemmas.{leads_test}
use Rattle.go_type.proofs.paths.leads_on.Goals as goal

pub returns-in-Some : goal.returns-in-Some
returns-in-Some c =
    let w = c.args.table.now in
    let ts = places w in
    let ns = names w in
    let f = sought c.args.name.now c.args.«package».now in
    let p = members_at ns f c.args.depth in
    let t = tree_of ts c.args.field.now.ty in
    let yes_ : c.args.field.now.embedded ≡ true = search rules in
    let e : tree_of ts c.base.result.0 ≡ base_of t = c.base.ensures.tree in
    let quiet = subst (λ (u : Ty). NoneBefore ns f u c.args.depth) (sym e) (c.requires.quiet yes_) in
    let x = leads_test ts ns f (tree_of ts c.base.result.0) c.args.depth c.in-Some.found.0 c.in-Some.found.1 quiet c.in-Some.ensures.before c.in-Some.ensures.here c.in-Some.ensures.something in
    let y = subst (λ (u : Ty). LeadsOnTo (p u) (c.in-Some.found.0 == c.args.depth)) e x in
    subst (λ (b : Bool). LeadsOn p t b (c.in-Some.found.0 == c.args.depth)) (sym yes_) y

pub returns-in-None : goal.returns-in-None
returns-in-None c =
    let w = c.args.table.now in
    let ts = places w in
    let ns = names w in
    let f = sought c.args.name.now c.args.«package».now in
    let p = members_at ns f c.args.depth in
    let t = tree_of ts c.args.field.now.ty in
    let yes_ : c.args.field.now.embedded ≡ true = search rules in
    let e : tree_of ts c.base.result.0 ≡ base_of t = c.base.ensures.tree in
    let y = subst (λ (u : Ty). LeadsOnTo (p u) false) e (c.in-None.ensures.none c.args.depth) in
    subst (λ (b : Bool). LeadsOn p t b false) (sym yes_) y
