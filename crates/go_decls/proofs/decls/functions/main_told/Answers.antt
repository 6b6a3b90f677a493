use Rattle.std.proofs.Common.{◌∙◌, ◌++◌, sym, ap, map}
use Rattle.std.specs.Prelude.{Option, option_map}
use Rattle.go_operands.specs.AnswerView.{flaw_view}
use Rattle.go_typing.specs.Told.{main_told}
use Rattle.go_decls.specs.SigView.{sig_found}
use Rattle.go_decls.specs.declared.signatures.signature.SigTypes.{SigTypes}
use Rattle.go_decls.proofs.FunctionLemmas.{lost_passes}
use Rattle.go_decls.proofs.decls.functions.main_told.Goals as goal

pub returns-in-None : goal.returns-in-None
returns-in-None c = record {
  told = λ ts. lost_passes c.args.n.now (option_map (sig_found ts) c.args.types.now) (map flaw_view c.args.flaws.now.items) (ap (λ (o : Option SigTypes). option_map (sig_found ts) o) c.in-None.is);
}

pub returns-in_ok-typed_told-in-Some : goal.returns-in_ok-typed_told-in-Some
returns-in_ok-typed_told-in-Some c = record {
  told = λ ts.
      c.in_ok-typed_told-in-Some.ensures.told ts
      ∙ sym (ap (λ (o : Option SigTypes). map flaw_view c.args.flaws.now.items ++ main_told c.args.n.now (option_map (sig_found ts) o)) c.in-Some.is);
}
