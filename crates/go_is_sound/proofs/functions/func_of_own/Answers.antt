use Rattle.std.proofs.Common.{◌≡◌, true, rules, map}
use Rattle.go_type.specs.Table.{places}
use Rattle.go_core.specs.CoreView.{var_of}
use Rattle.go_is_sound.specs.Bodies.{HasBody}
use Rattle.go_is_sound.specs.Functions.{IsFuncOf}
use Rattle.go_is_sound.proofs.ListLemmas.{yes_then}
use Rattle.go_is_sound.proofs.functions.func_of_own.Goals as goal

pub returns : goal.returns
returns c = record {
  is = λ h.
      let p = c.args.p.now in
      let f = c.args.f.now in
      let ts = places p.types in
      let g : c.are_good_vars.result ≡ true = search rules in
      let n : c.ends.result ≡ true = search rules in
      let head = c.head_of-head.result.now in
      yes_then c.body_is_sound.result (HasBody p f (map (var_of ts) head) (map (var_of ts) c.args.own.now)) (IsFuncOf p f c.args.own.now)
      (λ x. record { head = head; is_head = c.head_of-head.ensures.is; sound_types = c.are_good_vars.ensures.is h.types_fit g; terminates = c.ends.ensures.is n; body = x })
      (c.body_is_sound.ensures.is h);
}
