use Rattle.std.proofs.Common.{◌≡◌, List, [], ◌++◌, map, rules, sym, subst}
use Rattle.go_core.specs.declared.node.Var.{Var}
use Rattle.go_type.specs.Table.{places}
use Rattle.go_core.specs.CoreView.{func_view, program_view, var_of}
use Rattle.go_core.specs.Sound.{SoundStmts}
use Rattle.go_is_sound.specs.Bodies.{AreCaptured, HasBody}
use Rattle.go_is_sound.proofs.BodyLemmas.{body_of}
use Rattle.go_is_sound.proofs.ListLemmas.{yes_then}
use Rattle.go_is_sound.proofs.bodies.body_is_sound.Goals as goal

pub returns-in-Some : goal.returns-in-Some
returns-in-Some c = record {
  is = λ h.
      let p = c.args.p.now in
      let f = c.args.f.now in
      let ts = places p.types in
      let g = func_view ts f in
      let vs = c.as_slice.result.now in
      let e : c.as_slice.result.now ≡ c.in-Some.captured.items = search rules in
      let a : AreCaptured p g.captured c.in-Some.captured.items = search rules in
      yes_then c.body_with.result
      (SoundStmts (program_view p) (record { vars = map (var_of ts) c.args.head.now ++ map (var_of ts) vs; declarable = map (var_of ts) c.args.own.now; results = g.results; breaks = []; continues = [] }) g.body)
      (HasBody p f (map (var_of ts) c.args.head.now) (map (var_of ts) c.args.own.now))
      (λ s. body_of p f c.args.head.now c.args.own.now vs (subst (λ (us : List Var). AreCaptured p g.captured us) (sym e) a) s)
      (c.body_with.ensures.is h);
}
