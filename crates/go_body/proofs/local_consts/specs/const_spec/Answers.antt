use Rattle.std.proofs.Common.{◌≡◌, ◌∙◌, ap, subst, List, [], map}
use Rattle.go_syntax.specs.Tree as t
use Rattle.go_syntax.specs.View.{expr_view}
use Rattle.go_type.specs.Table.{places}
use Rattle.go_type.specs.declared.table.TypeTable.{TypeTable}
use Rattle.go_core.specs.declared.statement.CoreStmt.{CoreStmt}
use Rattle.go_operands.specs.EnvView.{table_of, env_of}
use Rattle.go_calls.specs.Words.{types_of, names_of}
use Rattle.go_typing.specs.Declare.{const_spec, counting}
use Rattle.go_expr.specs.Raw.{raws_view}
use Rattle.go_assign.specs.Outcome.{Does}
use Rattle.go_items.specs.ItemView.{type_in, values_in}
use Rattle.go_assign.specs.SpecView.{spec_view}
use Rattle.go_body.specs.LocalConstsSpecs.{const_given}
use Rattle.go_body.proofs.LocalConstsPlainLemmas.{no_iota, plain_after}
use Rattle.go_body.proofs.LocalConstsSpecLemmas.{spec_does}
use Rattle.go_body.proofs.local_consts.specs.const_spec.Goals as goal

pub count-requires : goal.count-requires
count-requires c = record { none = no_iota (env_of c.args.walk.now.env) c.requires.plain }

pub returns-in-Ok-given_consts : goal.returns-in-Ok-given_consts
returns-in-Ok-given_consts c =
    let at = c.args.at in
    let n = c.args.number in
    let names = c.args.names.now in
    let ty = type_in c.args.source in
    let a = c.args.walk.now in
    let d = c.all_typed.new.walk in
    let g = c.all_used.new.walk in
    let h = c.given_consts.new.walk in
    let f0 = c.args.flaws.now.items in
    let f1 = c.told_source.new.flaws.items in
    let f2 = c.given_consts.new.flaws.items in
    let s = c.in_ok-s.s in
    let raws = c.in-Ok.raws in
    let table : table_of g.env ≡ table_of d.env = ap table_of (c.all_used.ensures.env ∙ c.use_source.ensures.env) ∙ c.count_none.ensures.table in
    let done : (out : List CoreStmt) → Does (λ w. const_spec at (counting n w) names ty (values_in c.args.source) w) a h f0 f2 out out =
    (λ out.
    subst (λ (x : t.Exprs). Does (λ w. const_spec at (counting n w) names ty x w) a h f0 f2 out out) c.values_of-values.ensures.value
    (spec_does at n names ty (map expr_view c.values_of-values.result.now) s (raws_view (types_of d.env) raws) a c.count.new.walk c.told_source.new.walk d c.count_none.new.walk c.use_source.new.walk g h f0 f1 f2 out (no_iota (env_of a.env) c.requires.plain) c.count.ensures.value c.count.ensures.env c.count.ensures.table
    c.in_ok-s.ensures.view c.in_ok-s.ensures.below c.in_ok-s.ensures.told c.in_ok-s.ensures.stays c.in-Ok.ensures.view c.in-Ok.ensures.stays c.count_none.ensures.env c.count_none.ensures.table c.count_none.ensures.kept c.count_none.ensures.lost c.count_none.ensures.numbers c.in-Ok-use_source.ensures.moves c.use_source.ensures.env c.in-Ok-all_used.ensures.moves
    c.all_used.ensures.env (subst (λ (x : TypeTable). Does (const_given (names_of g.env) at (spec_view (types_of g.env) s) names (raws_view (places x) raws)) g h f1 f2 out out) table (c.in-Ok-given_consts.ensures.does out)))) in
    record {
      does = done;
      plain = plain_after at n names ty (values_in c.args.source) a h f0 f2 [] [] c.requires.plain (done []);
    }
