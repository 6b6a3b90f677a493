use Rattle.std.proofs.Common.{◌∷◌, sym, subst}
use Rattle.go_syntax.specs.Tree as t
use Rattle.go_decls.specs.HeadView.{HeadsLeft}
use Rattle.go_decls.proofs.HeadLemmas.{function_seen}
use Rattle.go_decls.proofs.heads.heads.and_decl.Goals as goal

pub returns-in_ok-and_function-in-None : goal.returns-in_ok-and_function-in-None
returns-in_ok-and_function-in-None c = record {
  value = λ rest.
      subst (λ (d : t.Decl). HeadsLeft c.args.far c.args.env.now c.and_function.new.env c.args.heads.now.items c.and_function.new.heads.items rest (d ∷ rest))
      (sym (function_seen c.args.d.now c.deref.result.now c.in-Func.receiver c.in-Func.n c.in-Func.sig c.in-Func.b c.deref.ensures c.in-Func.is c.in-None.is)) (c.in_ok-and_function-in-None.ensures.value rest);
}
