use Rattle.std.proofs.Common.{arith, ◌≡◌, List, ap, subst, refl, length, get_or}
use Rattle.std.proofs.lemmas.Bool.Decides.{nat_tests}
use Rattle.gj_base.specs.declared.fault.Fault.{Fault}
use Rattle.go_load.specs.declared.sources.FileEntry.{FileEntry}
use Rattle.gj_command.specs.FaultText.{whole_line}
use Rattle.gj_command.proofs.CommandLemmas.{told_whole_at}
use Rattle.gj_command.proofs.refusal.refuse_beyond.Goals as goal

pub returns : goal.returns
returns g c =
    let fault : Fault = record c.args.fault { text = c.in-Ok.text } in
    let entry = c.index-as_slice-number.result in
    let past = c.if-number-as_slice.false in
    let count = ap length c.as_slice.ensures in (
      whole_line c.args.sources.now fault,
      (c.args.sources.now, refl),
      told_whole_at c.args.sources.now fault entry c.in-Ok-whole_name.name c.in-Ok.text (g.E.Sink.state c.args.err.now) (g.E.Sink.state c.tell_named.new.err)
          (subst (λ (es : List FileEntry). entry ≡ get_or es fault.place.file entry) c.as_slice-2.ensures c.index-as_slice-number.is) (grind (arith, nat_tests, past, count)) c.in-Ok-whole_name.ensures refl c.tell_named.ensures,
    )
