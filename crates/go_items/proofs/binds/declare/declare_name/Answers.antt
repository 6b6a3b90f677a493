use Rattle.std.proofs.Common.{◌≡◌, ◌∙◌, sym, ap, subst, ℕ, List, false, true}
use Rattle.go_typing.specs.Env.{unknown, is_blank}
use Rattle.go_typing.specs.Scopes as scopes
use Rattle.go_typing.specs.Known.{with_item}
use Rattle.go_operands.specs.EnvView.{env_of}
use Rattle.go_typing.specs.Walk.{bind_of}
use Rattle.go_items.specs.Stands.{Stands}
use Rattle.go_items.proofs.StandLemmas.{blank_kept, name_added}
use Rattle.go_items.proofs.binds.declare.declare_name.Goals as goal

pub returns-then-is_blank : goal.returns-then-is_blank
returns-then-is_blank c = record {
  value = λ k h.
      let on : is_blank c.args.n.now.text ≡ true = sym c.is_blank.ensures.value ∙ c.if-is_blank.true in
      blank_kept k (env_of c.args.env.now) c.args.n.now on h;
}

pub returns : goal.returns
returns c = record {
  value = λ k h.
      let n = c.args.n.now in
      let e = env_of c.args.env.now in
      let off : is_blank n.text ≡ false = sym c.is_blank.ensures.value ∙ c.if-is_blank.false in
      let named : env_of c.declare.new.self ≡ scopes.declared (bind_of n unknown) e =
      c.in_ok-declare.ensures.value ∙ ap (λ (x : List ℕ). scopes.declared (record { name = x; place = n.place; what = unknown }) e) c.in_ok-text.ensures.cases in
      subst (Stands (record k { binds = with_item n unknown k.binds })) (sym named) (name_added k e n off h);
}
