use Rattle.go_type.specs.Levels.{tree_of}
use Rattle.go_type.specs.Table.{places}
use Rattle.go_sound_parts.proofs.parts.pair_fits.Goals as goal

pub returns-in-Some : goal.returns-in-Some
returns-in-Some c = record {
  is = λ h.
      let ts = places c.args.p.now.types in
      let g = c.each_gives.ensures.is h in
      (tree_of ts c.in-Some.types.0, tree_of ts c.in-Some.types.1, g.0, g.1, c.in-Some.ensures.is);
}
