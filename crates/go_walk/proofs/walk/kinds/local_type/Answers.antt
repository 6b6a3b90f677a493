use Rattle.std.proofs.Common.{◌≡◌, ◌<◌, ◌∙◌, sym, ap, subst, ℕ, List, ◌++◌, ◌∷◌, [], length, map}
use Rattle.go_type.specs.Tree.{Ty}
use Rattle.go_type.specs.Named.{NamedTy}
use Rattle.go_type.specs.Levels.{tree_of}
use Rattle.go_type.specs.Table.{places, names}
use Rattle.go_type.specs.Underlying.{underlying}
use Rattle.go_core.specs.CoreView.{var_of}
use Rattle.go_typing.specs.Env.{Bind, is_blank}
use Rattle.go_typing.specs.Scopes.{Env, visible, last_scope, place_in}
use Rattle.go_operands.specs.EnvView.{table_of, env_of}
use Rattle.go_walk.specs.WalkView.{named_for}
use Rattle.go_walk.proofs.ScopeLemmas.{types_same}
use Rattle.go_walk.proofs.WalkLemmas.{there_still}
use Rattle.go_walk.proofs.TypeLemmas.{declares_type}
use Rattle.go_walk.proofs.walk.kinds.local_type.Goals as goal

pub name-requires-clause-missing : goal.name-requires-clause-missing
name-requires-clause-missing c = λ ts.
    let e = env_of c.args.walk.now.env in
    there_still c.args.n.now (visible e) (visible (env_of c.new_type.new.env)) (ap visible c.in_ok-ty.ensures.env ∙ types_same (names (table_of c.args.walk.now.env) ++ named_for c.args.n.now.text (underlying (names (table_of c.args.walk.now.env)) (tree_of (places (table_of c.args.walk.now.env)) c.args.of)) ∷ []) e) (c.requires.missing ts)

pub name-requires-clause-depth : goal.name-requires-clause-depth
name-requires-clause-depth c = subst (λ (e : Env). 0 < length e.blocks) (sym c.in_ok-ty.ensures.env) c.requires.depth

pub returns-clause-value : goal.returns-clause-value
returns-clause-value c = λ ts.
    let w = c.args.walk.now in
    let e = env_of w.env in
    let f = env_of c.new_type.new.env in
    let u = tree_of (places (table_of w.env)) c.args.of in
    c.in_ok-name.ensures.value ts
    ∙ declares_type c.args.n.now u (tree_of (places (table_of c.new_type.new.env)) c.in_ok-ty.ty) (names (table_of w.env)) (names (table_of c.new_type.new.env)) (visible e) (visible f)
    w.next w.next_label (map (var_of ts) w.vars.items) w.declared.items w.used.items w.lost c.in_ok-ty.ensures.tree (ap (λ (g : Env). g.named_types) c.in_ok-ty.ensures.env) (ap visible c.in_ok-ty.ensures.env ∙ types_same (names (table_of c.args.walk.now.env) ++ named_for c.args.n.now.text (underlying (names (table_of c.args.walk.now.env)) (tree_of (places (table_of c.args.walk.now.env)) c.args.of)) ∷ []) e)

pub returns-clause-depth : goal.returns-clause-depth
returns-clause-depth c = c.in_ok-name.ensures.depth ∙ ap (λ (e : Env). length e.blocks) c.in_ok-ty.ensures.env
