use Rattle.std.proofs.Common.{arith, ◌∙◌, refl, sym, subst}
use Rattle.go_calls.specs.Words.{types_of}
use Rattle.go_operands.specs.EnvView.{table_of}
use Rattle.go_define.specs.AroundView.{ResultsBelow}
use Rattle.go_type.specs.Table.{size}
use Rattle.go_type.specs.declared.table.TypeTable.{TypeTable}
use Rattle.go_stmt.proofs.FunctionLemmas.{plain_begun, function_done}
use Rattle.go_stmt.proofs.functions.function.function.Goals as goal

pub begin-requires : goal.begin-requires
begin-requires c = record { count = c.requires.start.ready.count; below = c.requires.start.ready.types }

pub function_body-requires : goal.function_body-requires
function_body-requires c =
    let ts = types_of c.args.walk.now.env in
    let e = c.in_ok-begin.ensures.value ts c.requires.start.outside (λ i l. refl) (c.requires.start.ready.each ts (λ i l. refl)) in
    record {
      ready = record {
        depth = let d = c.in_ok-begin.ensures.depth in omega (arith, d);
        plain = plain_begun ts c.args.head c.requires.start.outside c.args.walk.now c.begin.new.walk c.requires.start.plain e;
        results = subst (λ (t : TypeTable). ResultsBelow (size t) c.results_of.result) (sym c.in_ok-begin.ensures.table) (c.results_of.ensures.within (size (table_of c.args.walk.now.env)) c.requires.start.ready.sig);
      };
    }

pub end-requires : goal.end-requires
end-requires c = record { depth = let d = c.in_ok-begin.ensures.depth in let e = c.in-Ok.ensures.does.depth in omega (arith, d, e) }

pub returns-in-Ok : goal.returns-in-Ok
returns-in-Ok c = record {
  done = λ w o r.
      function_done w c.args.head c.results_of.result c.as_slice.result.now c.args.walk.now c.begin.new.walk c.function_body.new.walk c.end.new.walk c.args.flaws.now.items c.function_body.new.flaws.items c.in-Ok.stmts.items c.end.result (c.as_slice.ensures.value ∙ c.new-none.ensures.items) o r
      (λ ts k. c.in_ok-begin.ensures.value ts w k (r.each ts k)) c.in_ok-begin.ensures.table c.results_of.ensures.value c.in-Ok.ensures.does c.end.ensures.func c.end.ensures.scopes c.end.ensures.table c.end.ensures.next;
  depth = let d = c.in_ok-begin.ensures.depth in let e = c.in-Ok.ensures.does.depth in let f = c.end.ensures.depth in omega (arith, d, e, f);
}
