use Rattle.std.proofs.Common.{◌≡◌, ◌∙◌, sym, ap, ℕ, List, false, map}
use Rattle.go_type.specs.Table.{places, names}
use Rattle.go_core.specs.CoreView.{var_of}
use Rattle.go_typing.specs.Env.{is_blank}
use Rattle.go_typing.specs.Scopes as scopes
use Rattle.go_operands.specs.EnvView.{table_of, env_of}
use Rattle.go_operands.specs.View.{decl_of}
use Rattle.go_typing.specs.Walk.{bind_of}
use Rattle.go_walk.proofs.ScopeLemmas.{declare_count}
use Rattle.go_walk.proofs.WalkLemmas.{names_it}
use Rattle.go_walk.proofs.walk.scopes.name.Goals as goal

pub returns-clause-value : goal.returns-clause-value
returns-clause-value c = λ ts.
    let w = c.args.walk.now in
    let n = c.args.n.now in
    let e = env_of w.env in
    let d = decl_of (places (table_of w.env)) c.args.what in
    let off : is_blank n.text ≡ false = sym c.is_blank.ensures.value ∙ c.if-is_blank.false in
    let named : env_of c.declare.new.self ≡ scopes.declared (bind_of n d) e =
    c.in_ok-declare.ensures.value ∙ ap (λ (x : List ℕ). scopes.declared (record { name = x; place = n.place; what = d }) e) c.in_ok-text.ensures.cases in
    names_it e (env_of c.declare.new.self) (names (table_of w.env)) (names (table_of c.declare.new.self)) n d w.next w.next_label (map (var_of ts) w.vars.items) w.declared.items w.used.items w.lost
    c.requires.depth off (c.requires.missing ts) named (ap names c.declare.ensures.rest.0)

pub returns-clause-depth : goal.returns-clause-depth
returns-clause-depth c =
    declare_count (env_of c.args.walk.now.env) (env_of c.declare.new.self)
    (record { name = c.in_ok-text.text; place = c.args.n.now.place; what = decl_of (places (table_of c.args.walk.now.env)) c.args.what }) c.in_ok-declare.ensures.value
