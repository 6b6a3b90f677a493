use Rattle.std.proofs.Common.{◌∙◌, subst}
use Rattle.go_type.specs.Levels.{tree_of}
use Rattle.go_type.specs.Table.{places, names}
use Rattle.go_type.specs.Members.{sought, members_at, field, method}
use Rattle.go_type.specs.Hits.{Sees}
use Rattle.go_type.specs.declared.hits.Hit.{Hit}
use Rattle.go_type.proofs.select.selected.Goals as goal

pub returns-in_ok-steps-in-Field : goal.returns-in_ok-steps-in-Field
returns-in_ok-steps-in-Field c =
    let ts = places c.args.table.now in
    let f = sought c.args.name.now c.args.«package».now in
    let ms = members_at (names c.args.table.now) f c.args.depth (tree_of ts c.args.t) in
    let s = subst (λ (h : Hit). Sees ts ms h) c.in-Field.is c.requires.here in
    (c.args.depth, s.0, record { before = c.requires.before; here = s.1 }, c.from_vec.ensures ∙ c.in_ok-steps-in-Field.ensures (field s.0) s.1)

pub returns-in_ok-steps-in-Method : goal.returns-in_ok-steps-in-Method
returns-in_ok-steps-in-Method c =
    let ts = places c.args.table.now in
    let f = sought c.args.name.now c.args.«package».now in
    let ms = members_at (names c.args.table.now) f c.args.depth (tree_of ts c.args.t) in
    let s = subst (λ (h : Hit). Sees ts ms h) c.in-Method.is c.requires.here in
    (c.args.depth, s.0, _, _, _, _, record { before = c.requires.before; here = s.1 }, c.from_vec-in-Method.ensures ∙ c.in_ok-steps-in-Method.ensures (method s.0 _ _ _ _ _) s.1)
