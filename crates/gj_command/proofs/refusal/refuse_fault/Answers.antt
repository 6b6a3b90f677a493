use Rattle.std.proofs.Common.{arith, ◌≡◌, ◌∙◌, ℕ, List, ap, subst, refl, inl, length, get_or}
use Rattle.std.proofs.lemmas.Bool.Decides.{nat_tests}
use Rattle.go_load.specs.declared.sources.FileEntry.{FileEntry}
use Rattle.gj_command.specs.FaultText.{fault_line}
use Rattle.gj_command.specs.declared.outcome.Outcome.TheVariants as outcome
use Rattle.gj_command.proofs.TopLemmas.{told_at}
use Rattle.gj_command.proofs.refusal.refuse_fault.Goals as goal

pub returns : goal.returns
returns g c =
    let fault = c.args.fault in
    let entry = c.index-as_slice-place.result in
    let past = c.if-place-as_slice.false in
    let count = ap length c.as_slice.ensures in (
      fault_line c.args.sources.now fault,
      inl (ap (λ (t : List ℕ). outcome.Fault (record fault { text = t })) c.in-Ok.ensures, refl),
      told_at c.args.sources.now fault entry c.as_bytes.result.now (g.E.Sink.state c.args.err.now) (g.E.Sink.state c.tell_at.new.err)
          (subst (λ (es : List FileEntry). entry ≡ get_or es fault.place.file entry) c.as_slice-2.ensures c.index-as_slice-place.is) (grind (arith, nat_tests, past, count)) (c.as_bytes.ensures ∙ c.in-Ok.ensures) c.tell_at.ensures,
    )
