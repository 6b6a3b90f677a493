use Rattle.std.proofs.Common.{◌≡◌, ◌∙◌, sym, ap, ℕ}
use Rattle.go_type.specs.Tree.{Ty}
use Rattle.go_type.specs.Levels.{tree_of}
use Rattle.go_type.specs.Table.{places}
use Rattle.go_typing.specs.Env.{Decl, variable}
use Rattle.go_typing.specs.Scopes.{visible}
use Rattle.go_operands.specs.EnvView.{table_of, env_of}
use Rattle.go_operands.specs.declared.scopes.env.Env.{Env}
use Rattle.go_typing.specs.Walk.{noted, with_name}
use Rattle.go_walk.specs.WalkView.{walk_of}
use Rattle.go_walk.proofs.WalkLemmas.{there_still}
use Rattle.go_walk.proofs.walk.variables.variable.Goals as goal

pub name-requires-clause-missing : goal.name-requires-clause-missing
name-requires-clause-missing c = λ ts.
    there_still c.args.n.now (visible (env_of c.args.walk.now.env)) (visible (env_of c.note.new.walk.env)) (ap (λ (e : Env). visible (env_of e)) (c.in_ok-note.ensures.env ∙ c.in_ok-id.ensures.env)) (c.requires.missing ts)

pub returns-clause-value : goal.returns-clause-value
returns-clause-value c = λ ts keeps.
    let w = c.args.walk.now in
    let n = c.args.n.now in
    c.in_ok-name.ensures.value ts
    ∙ ap (λ (e : Env). with_name n (variable c.in_ok-id.id.0 (tree_of (places (table_of e)) c.args.ty)) (walk_of ts c.note.new.walk)) (c.in_ok-note.ensures.env ∙ c.in_ok-id.ensures.env)
    ∙ ap (λ (i : ℕ). with_name n (variable i (tree_of (places (table_of w.env)) c.args.ty)) (walk_of ts c.note.new.walk)) c.in_ok-id.ensures.id
    ∙ ap (λ (u : Ty). with_name n (variable w.next u) (walk_of ts c.note.new.walk)) (sym (keeps c.args.ty c.requires.below))
    ∙ ap (with_name n (variable w.next (tree_of ts c.args.ty))) (c.in_ok-note.ensures.value ts ∙ ap (noted n) (c.in_ok-id.ensures.value ts))
