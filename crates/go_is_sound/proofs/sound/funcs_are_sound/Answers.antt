use Rattle.std.proofs.Common.{◌≡◌, ℕ, length, map, arith}
use Rattle.std.specs.Prelude.{Some, slice_get}
use Rattle.std.proofs.lemmas.List.{length-map}
use Rattle.std.proofs.lemmas.Option.{slice_get_within}
use Rattle.go_type.specs.Table.{places}
use Rattle.go_core.specs.CoreTree.{CoreFunc}
use Rattle.go_core.specs.CoreView.{func_view, program_view}
use Rattle.go_core.specs.SoundProgram.{SoundFunc}
use Rattle.go_sound_parts.proofs.RowLemmas.{up_to}
use Rattle.go_is_sound.proofs.sound.funcs_are_sound.Goals as goal

pub funcs-preserved : goal.funcs-preserved
funcs-preserved c = λ h.
    let q = program_view c.args.p.now in
    up_to (λ (k : ℕ). (f : CoreFunc) → slice_get q.funcs k ≡ Some f → SoundFunc q k f) c.funcs.k (c.funcs.invariant h) (c.in_ok-is_sound_at.ensures.is h c.if-not-branch.false)

pub returns : goal.returns
returns c = record {
  is = λ h.
      let p = c.args.p.now in
      let fs = p.funcs.items.items in
      let l : length (map (func_view (places p.types)) fs) ≡ length fs = length-map fs (func_view (places p.types)) in
      let n = p.funcs.items.ok.0 in
      record {
        few_functions = omega (arith, l, n);
        functions = λ k f e. c.funcs.invariant h k (let w = slice_get_within (map (func_view (places p.types)) fs) k f e in omega (arith, l, n, w)) f e;
      };
}
