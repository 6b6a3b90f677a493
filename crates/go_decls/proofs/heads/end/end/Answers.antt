use Rattle.std.proofs.Common.{◌∙◌, ◌+◌, ℕ, ap, List, [], map, false}
use Rattle.std.specs.Prelude.{option_map}
use Rattle.go_core.specs.CoreView.{var_of, id_of, stmts_view}
use Rattle.go_core.specs.declared.node.Var.{Var}
use Rattle.go_core.specs.declared.node.VarId.{VarId}
use Rattle.go_typing.specs.Functions.{params_typed, results_typed, results_or_none}
use Rattle.go_operands.specs.EnvView.{table_of, env_of}
use Rattle.go_operands.specs.declared.scopes.env.Env.{Env}
use Rattle.go_decls.specs.SigView.{sig_found}
use Rattle.go_typing.specs.Walk.{Walk, body}
use Rattle.go_type.specs.Levels.{trees_of}
use Rattle.go_typing.specs.Scopes.{visible}
use Rattle.go_decls.proofs.EndLemmas.{body_is, func_same, depth_same}
use Rattle.go_decls.proofs.heads.end.end.Goals as goal

pub returns : goal.returns
returns c = record {
  func = λ ts d core walk.
      let s = option_map (sig_found ts) c.args.head.sig in
      func_same c.args.head.place c.args.head.name (trees_of ts c.core_sig.result.params) (params_typed s) (trees_of ts c.core_sig.result.results) (results_or_none (results_typed s)) c.core_sig.result.variadic false
      (map (var_of ts) c.take_vars-vars.result.items) d.walk.vars (map id_of c.new.result.items) [] (stmts_view ts c.body.result) (body d.core) (c.core_sig.ensures.params ts) (c.core_sig.ensures.results ts) c.core_sig.ensures.variadic
      (ap (λ (vs : List Var). map (var_of ts) vs) c.take_vars-vars.ensures.value ∙ ap (λ (w : Walk). w.vars) (c.pop.ensures.value ts) ∙ ap (λ (w : Walk). w.vars) walk) (ap (λ (vs : List VarId). map id_of vs) c.new.ensures.items)
      (c.body.ensures.value ts ∙ body_is _ ∙ ap body core);
  scopes = ap (λ (e : Env). visible (env_of e)) c.take_vars-vars.ensures.env ∙ ap (λ (w : Walk). w.scopes) (c.pop.ensures.value []);
  depth = ap (λ (n : ℕ). n + 1) (depth_same c.take_vars-vars.new.self c.pop.new.walk c.take_vars-vars.ensures.env) ∙ c.pop.ensures.depth;
  table = ap table_of c.take_vars-vars.ensures.env ∙ c.pop.ensures.table;
  next = c.take_vars-vars.ensures.next ∙ ap (λ (w : Walk). w.next) (c.pop.ensures.value []);
}
