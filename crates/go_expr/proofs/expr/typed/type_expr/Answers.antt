use Rattle.std.proofs.Common.{rules, ◌≡◌, ◌∙◌, ap, ◌++◌, List, map}
use Rattle.std.specs.Prelude.{option_map}
use Rattle.go_syntax.specs.View as tree
use Rattle.go_type.specs.Levels.{tree_of}
use Rattle.go_core.specs.CoreView.{expr_view}
use Rattle.go_typing.specs.Answer.{Flaw, Answer, Part, own}
use Rattle.go_typing.specs.Typing.{flaws}
use Rattle.go_operands.specs.AnswerView.{answer_view, flaw_view}
use Rattle.go_calls.specs.Words.{types_of, names_of, scopes_of}
use Rattle.go_expr.specs.declared.expr.typed.Typed as code
use Rattle.go_expr.specs.Typed.{fitted, result_of, faults_of, core_in, type_in, constant_in, print_in, print_view, fault_view, Shows}
use Rattle.go_expr.proofs.TypedLemmas.{if_ok, none_before}
use Rattle.go_expr.proofs.expr.typed.type_expr.Goals as goal

pub returns-in-Ok-clause-core : goal.returns-in-Ok-clause-core
returns-in-Ok-clause-core c =
    let eq : (fitted (names_of c.part_in.new.env) c.in-Ok.part.place (option_map (tree_of (types_of c.part_in.new.env)) c.args.wanted) (answer_view (types_of c.part_in.new.env) c.in-Ok.part.answer)) ≡ (result_of (names_of c.part_in.new.env) (scopes_of c.part_in.new.env) (option_map (tree_of (types_of c.part_in.new.env)) c.args.wanted) (tree.expr_view c.args.expr.now)) = ap (λ (p : Part). fitted (names_of c.part_in.new.env) p.place (option_map (tree_of (types_of c.part_in.new.env)) c.args.wanted) p.answer) c.in-Ok.ensures.view in
    if_ok c.typed_in.result (λ (r : code.Typed). Shows (types_of c.part_in.new.env) (fitted (names_of c.part_in.new.env) c.in-Ok.part.place (option_map (tree_of (types_of c.part_in.new.env)) c.args.wanted) (answer_view (types_of c.part_in.new.env) c.in-Ok.part.answer)) r.faults.items.items r) (λ (r : code.Typed). option_map (expr_view (types_of c.part_in.new.env)) r.core ≡ core_in (result_of (names_of c.part_in.new.env) (scopes_of c.part_in.new.env) (option_map (tree_of (types_of c.part_in.new.env)) c.args.wanted) (tree.expr_view c.args.expr.now))) (λ r s. s.core ∙ ap core_in eq) c.typed_in.ensures.shows

pub returns-in-Ok-clause-ty : goal.returns-in-Ok-clause-ty
returns-in-Ok-clause-ty c =
    let eq : (fitted (names_of c.part_in.new.env) c.in-Ok.part.place (option_map (tree_of (types_of c.part_in.new.env)) c.args.wanted) (answer_view (types_of c.part_in.new.env) c.in-Ok.part.answer)) ≡ (result_of (names_of c.part_in.new.env) (scopes_of c.part_in.new.env) (option_map (tree_of (types_of c.part_in.new.env)) c.args.wanted) (tree.expr_view c.args.expr.now)) = ap (λ (p : Part). fitted (names_of c.part_in.new.env) p.place (option_map (tree_of (types_of c.part_in.new.env)) c.args.wanted) p.answer) c.in-Ok.ensures.view in
    if_ok c.typed_in.result (λ (r : code.Typed). Shows (types_of c.part_in.new.env) (fitted (names_of c.part_in.new.env) c.in-Ok.part.place (option_map (tree_of (types_of c.part_in.new.env)) c.args.wanted) (answer_view (types_of c.part_in.new.env) c.in-Ok.part.answer)) r.faults.items.items r) (λ (r : code.Typed). option_map (tree_of (types_of c.part_in.new.env)) r.ty ≡ type_in (result_of (names_of c.part_in.new.env) (scopes_of c.part_in.new.env) (option_map (tree_of (types_of c.part_in.new.env)) c.args.wanted) (tree.expr_view c.args.expr.now))) (λ r s. s.ty ∙ ap type_in eq) c.typed_in.ensures.shows

pub returns-in-Ok-clause-value : goal.returns-in-Ok-clause-value
returns-in-Ok-clause-value c =
    let eq : (fitted (names_of c.part_in.new.env) c.in-Ok.part.place (option_map (tree_of (types_of c.part_in.new.env)) c.args.wanted) (answer_view (types_of c.part_in.new.env) c.in-Ok.part.answer)) ≡ (result_of (names_of c.part_in.new.env) (scopes_of c.part_in.new.env) (option_map (tree_of (types_of c.part_in.new.env)) c.args.wanted) (tree.expr_view c.args.expr.now)) = ap (λ (p : Part). fitted (names_of c.part_in.new.env) p.place (option_map (tree_of (types_of c.part_in.new.env)) c.args.wanted) p.answer) c.in-Ok.ensures.view in
    if_ok c.typed_in.result (λ (r : code.Typed). Shows (types_of c.part_in.new.env) (fitted (names_of c.part_in.new.env) c.in-Ok.part.place (option_map (tree_of (types_of c.part_in.new.env)) c.args.wanted) (answer_view (types_of c.part_in.new.env) c.in-Ok.part.answer)) r.faults.items.items r) (λ (r : code.Typed). r.value ≡ constant_in (result_of (names_of c.part_in.new.env) (scopes_of c.part_in.new.env) (option_map (tree_of (types_of c.part_in.new.env)) c.args.wanted) (tree.expr_view c.args.expr.now))) (λ r s. s.value ∙ ap constant_in eq) c.typed_in.ensures.shows

pub returns-in-Ok-clause-prints : goal.returns-in-Ok-clause-prints
returns-in-Ok-clause-prints c =
    let eq : (fitted (names_of c.part_in.new.env) c.in-Ok.part.place (option_map (tree_of (types_of c.part_in.new.env)) c.args.wanted) (answer_view (types_of c.part_in.new.env) c.in-Ok.part.answer)) ≡ (result_of (names_of c.part_in.new.env) (scopes_of c.part_in.new.env) (option_map (tree_of (types_of c.part_in.new.env)) c.args.wanted) (tree.expr_view c.args.expr.now)) = ap (λ (p : Part). fitted (names_of c.part_in.new.env) p.place (option_map (tree_of (types_of c.part_in.new.env)) c.args.wanted) p.answer) c.in-Ok.ensures.view in
    if_ok c.typed_in.result (λ (r : code.Typed). Shows (types_of c.part_in.new.env) (fitted (names_of c.part_in.new.env) c.in-Ok.part.place (option_map (tree_of (types_of c.part_in.new.env)) c.args.wanted) (answer_view (types_of c.part_in.new.env) c.in-Ok.part.answer)) r.faults.items.items r) (λ (r : code.Typed). option_map (print_view (types_of c.part_in.new.env)) r.prints ≡ print_in (result_of (names_of c.part_in.new.env) (scopes_of c.part_in.new.env) (option_map (tree_of (types_of c.part_in.new.env)) c.args.wanted) (tree.expr_view c.args.expr.now))) (λ r s. s.prints ∙ ap print_in eq) c.typed_in.ensures.shows

pub returns-in-Ok-clause-faults : goal.returns-in-Ok-clause-faults
returns-in-Ok-clause-faults c =
    let eq : (fitted (names_of c.part_in.new.env) c.in-Ok.part.place (option_map (tree_of (types_of c.part_in.new.env)) c.args.wanted) (answer_view (types_of c.part_in.new.env) c.in-Ok.part.answer)) ≡ (result_of (names_of c.part_in.new.env) (scopes_of c.part_in.new.env) (option_map (tree_of (types_of c.part_in.new.env)) c.args.wanted) (tree.expr_view c.args.expr.now)) = ap (λ (p : Part). fitted (names_of c.part_in.new.env) p.place (option_map (tree_of (types_of c.part_in.new.env)) c.args.wanted) p.answer) c.in-Ok.ensures.view in
    let told : map flaw_view c.part_in.new.flaws.items ≡ flaws (names_of c.part_in.new.env) (scopes_of c.part_in.new.env) (tree.expr_view c.args.expr.now) = none_before c.new-flaws.result.items _ _ c.in-Ok.ensures.told (search rules) in
    if_ok c.typed_in.result (λ (r : code.Typed). map fault_view r.faults.items.items ≡ map flaw_view c.part_in.new.flaws.items ++ own (fitted (names_of c.part_in.new.env) c.in-Ok.part.place (option_map (tree_of (types_of c.part_in.new.env)) c.args.wanted) (answer_view (types_of c.part_in.new.env) c.in-Ok.part.answer))) (λ (r : code.Typed). map fault_view r.faults.items.items ≡ faults_of (names_of c.part_in.new.env) (scopes_of c.part_in.new.env) (option_map (tree_of (types_of c.part_in.new.env)) c.args.wanted) (tree.expr_view c.args.expr.now))
    (λ r s. s ∙ ap (λ (fs : List Flaw). fs ++ own (fitted (names_of c.part_in.new.env) c.in-Ok.part.place (option_map (tree_of (types_of c.part_in.new.env)) c.args.wanted) (answer_view (types_of c.part_in.new.env) c.in-Ok.part.answer))) told ∙ ap (λ (a : Answer). flaws (names_of c.part_in.new.env) (scopes_of c.part_in.new.env) (tree.expr_view c.args.expr.now) ++ own a) eq) c.typed_in.ensures.faults
