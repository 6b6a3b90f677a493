use Rattle.go_is_sound.proofs.ImportLemmas.{all_packages}
use Rattle.go_is_sound.proofs.packages.are_sound.Goals as goal

pub returns-then-are_ranked : goal.returns-then-are_ranked
returns-then-are_ranked c = record { is = λ h e. all_packages c.args.p.now c.args.ranks.now (c.are_ranked.ensures.is c.if-are_ranked.true) (c.all_have_inits.ensures.is h e) }
