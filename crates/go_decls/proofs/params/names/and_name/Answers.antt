use Rattle.std.proofs.Common.{◌≡◌, ◌++◌, sym, subst, map}
use Rattle.std.specs.Prelude.{Option, option_map}
use Rattle.std.proofs.lemmas.List.{append-nil}
use Rattle.go_operands.specs.AnswerView.{flaw_view}
use Rattle.go_items.specs.ParamView.{named_view}
use Rattle.go_items.specs.declared.items.param.Named.{Named}
use Rattle.go_typing.specs.Signature.{bound, name_flaws}
use Rattle.go_typing.specs.Scopes.{last_scope}
use Rattle.go_decls.specs.Seen.{HasNames}
use Rattle.go_decls.proofs.params.names.and_name.Goals as goal

pub returns-in-None-clause-told : goal.returns-in-None-clause-told
returns-in-None-clause-told c = λ v h.
    let fs = map flaw_view c.args.flaws.now.items in
    subst (λ (o : Option Named). fs ≡ fs ++ name_flaws (option_map named_view o) v) (sym c.in-None.is) (sym (append-nil fs))

pub returns-in_ok-and_named-in-Some-clause-told : goal.returns-in_ok-and_named-in-Some-clause-told
returns-in_ok-and_named-in-Some-clause-told c = λ v h.
    subst (λ (o : Option Named). map flaw_view c.and_named.new.flaws.items ≡ map flaw_view c.args.flaws.now.items ++ name_flaws (option_map named_view o) v) (sym c.in-Some.is) (c.in_ok-and_named-in-Some.ensures.told v h)

pub returns-in_ok-and_named-in-Some-clause-seen : goal.returns-in_ok-and_named-in-Some-clause-seen
returns-in_ok-and_named-in-Some-clause-seen c = λ v u l h. subst (λ (o : Option Named). HasNames c.and_named.new.seen (last_scope (bound (option_map named_view o) u v).scopes)) (sym c.in-Some.is) (c.in_ok-and_named-in-Some.ensures.seen v u l h)
