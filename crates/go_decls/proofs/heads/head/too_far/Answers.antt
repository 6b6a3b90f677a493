use Rattle.std.proofs.Common.{◌∙◌, sym, ap}
use Rattle.std.specs.Prelude.{Option, option_map}
use Rattle.go_typing.specs.Functions.{too_far}
use Rattle.go_decls.specs.SigView.{sig_found}
use Rattle.go_decls.specs.declared.signatures.signature.SigTypes.{SigTypes}
use Rattle.go_walk.specs.WalkView.{walk_outside}
use Rattle.go_decls.proofs.heads.head.too_far.Goals as goal

pub returns-in-Some : goal.returns-in-Some
returns-in-Some c = record {
  value = λ ts.
      c.typed_far.ensures.value ts ∙ sym (ap (λ (o : Option SigTypes). too_far c.args.far (walk_outside c.args.env.now) c.args.at c.args.n.now (option_map (sig_found ts) o)) c.in-Some.is);
}

pub returns-in-None : goal.returns-in-None
returns-in-None c = record { value = λ ts. sym (ap (λ (o : Option SigTypes). too_far c.args.far (walk_outside c.args.env.now) c.args.at c.args.n.now (option_map (sig_found ts) o)) c.in-None.is) }
