use Rattle.std.proofs.Common.{◌≡◌, ◌∙◌, sym, ap, subst, false, true}
use Rattle.std.specs.Prelude.{Some}
use Rattle.go_type.specs.Table.{places}
use Rattle.go_operands.specs.EnvView.{table_of, env_of}
use Rattle.go_operands.specs.View.{decl_of}
use Rattle.go_walk.specs.SetsHas.{number_of}
use Rattle.go_syntax.specs.declared.tree.Name.{Name}
use Rattle.go_typing.specs.Env.{is_blank}
use Rattle.go_typing.specs.Scopes.{settled}
use Rattle.go_items.proofs.SettleLemmas.{settled_blank, settled_first, settled_later}
use Rattle.go_items.proofs.binds.settle.settle.Goals as goal

pub returns-then-is_blank-clause-value : goal.returns-then-is_blank-clause-value
returns-then-is_blank-clause-value c = λ i rs h q r are d.
    settled_blank i rs c.args.number (env_of c.args.env.now) h r (ap (λ (m : Name). is_blank m.text) q ∙ sym c.is_blank.ensures.value ∙ c.if-is_blank.true)

pub returns-then-is_first-clause-value : goal.returns-then-is_first-clause-value
returns-then-is_first-clause-value c = λ i rs h q r are d.
    let e = env_of c.args.env.now in
    let what = decl_of (places (table_of c.args.env.now)) c.args.what in
    settled_first i rs c.args.number e h r c.args.numbers.now are (ap (λ (m : Name). is_blank m.text) q ∙ sym c.is_blank.ensures.value ∙ c.if-is_blank.false)
    (subst (λ (m : Name). number_of m.text c.args.numbers.now ≡ Some c.args.number) (sym q) (c.is_first.ensures.value.0 c.if-is_first.true))
    what d (env_of c.settle.new.self) (c.settle.ensures.value ∙ ap (λ (m : Name). settled m.text what e) (sym q))

pub returns-clause-value : goal.returns-clause-value
returns-clause-value c = λ i rs h q r are d.
    settled_later i rs c.args.number (env_of c.args.env.now) h r c.args.numbers.now are
    (λ s. let t : true ≡ false = sym (c.is_first.ensures.value.1 (subst (λ (m : Name). number_of m.text c.args.numbers.now ≡ Some c.args.number) q s)) ∙ c.if-is_first.false in cc)
