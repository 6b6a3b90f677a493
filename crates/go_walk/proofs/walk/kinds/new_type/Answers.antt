use Rattle.std.proofs.Common.{◌≡◌, ◌<◌, ◌∙◌, sym, ap, subst, refl, ℕ, length}
use Rattle.go_type.specs.Tree as ty
use Rattle.go_type.specs.Tree.{Ty}
use Rattle.go_type.specs.Levels.{tree_of}
use Rattle.go_type.specs.Named.{IsUnnamed}
use Rattle.go_type.specs.Table.{places, names, size}
use Rattle.go_type.specs.Underlying.{underlying}
use Rattle.go_type.specs.declared.types.TypeId.{TypeId}
use Rattle.go_operands.specs.EnvView.{table_of, env_of}
use Rattle.go_walk.proofs.AnswerLemmas.{if_ok, any_ok}
use Rattle.go_walk.proofs.TypeLemmas.{adds_type, counted, keeps_over, read_before}
use Rattle.go_walk.proofs.walk.kinds.new_type.Goals as goal

pub set_named-requires-clause-unnamed : goal.set_named-requires-clause-unnamed
set_named-requires-clause-unnamed c =
    let t = table_of c.args.env.now in
    let under = c.underlying-under.result in
    let before = read_before t c.table.result.now under c.args.of c.table.ensures.value c.underlying-under.ensures.tree in
    subst IsUnnamed (sym (ap (λ ts. tree_of ts under) c.in_ok-id.ensures.places ∙ before)) c.requires.set

pub returns-clause-env : goal.returns-clause-env
returns-clause-env c =
    let t = table_of c.args.env.now in
    let under = c.underlying-under.result in
    let before = read_before t c.table.result.now under c.args.of c.table.ensures.value c.underlying-under.ensures.tree in
    any_ok c.add.result (adds_type (env_of c.args.env.now) (env_of c.add_named.new.self) (env_of c.set_named.new.self) (env_of c.add.new.self)
    (names t) (names (table_of c.add_named.new.self)) (names (table_of c.set_named.new.self)) c.in_ok-id.id.0 c.in_ok-text.text c.args.n.now.text c.new.result
    (tree_of (places (table_of c.add_named.new.self)) under) (underlying (names t) (tree_of (places t) c.args.of))
    c.in_ok-id.ensures.env refl c.set_named.ensures.env c.add.ensures.env (c.in_ok-id.ensures.id ∙ counted t) c.set_named.ensures.names c.in_ok-text.ensures.cases c.new.ensures
    (ap (λ ts. tree_of ts under) c.in_ok-id.ensures.places ∙ before))

pub returns-clause-tree : goal.returns-clause-tree
returns-clause-tree c = if_ok c.add.result (λ (i : TypeId) q. q ∙ ap ty.named (c.in_ok-id.ensures.id ∙ counted (table_of c.args.env.now))) c.add.ensures.tree

pub returns-clause-kept : goal.returns-clause-kept
returns-clause-kept c =
    keeps_over (table_of c.args.env.now) (table_of c.set_named.new.self) (table_of c.add.new.self) (c.set_named.ensures.places ∙ c.in_ok-id.ensures.places) (c.set_named.ensures.counts.0 ∙ c.in_ok-id.ensures.counts.0) c.add.ensures.kept
