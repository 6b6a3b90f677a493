use Rattle.std.proofs.Common.{refl}
use Rattle.gj_command.proofs.TopLemmas.{answers_build, answers_other, headline, completes, counts, leaves, none_some, stays}
use Rattle.gj_command.proofs.top.gopherjs.Goals as goal

pub returns-in-Some-clause-answer : goal.returns-in-Some-clause-answer
returns-in-Some-clause-answer g c = (
  c.build.ensures.0,
  answers_build _ c.in-Some.folder.now c.build.result c.build.ensures.0 _ (g.F.Files.state c.args.files.now) (g.F.Files.state c.build.new.files) c.in-Some.ensures c.build.ensures.1,
  c.build.ensures.2,
)

pub returns-in-Some-clause-headline : goal.returns-in-Some-clause-headline
returns-in-Some-clause-headline g c = headline _ c.in-Some.folder.now c.build.result c.build.ensures.0 _ _ c.in-Some.ensures c.build.ensures.1

pub returns-in-Some-clause-complete : goal.returns-in-Some-clause-complete
returns-in-Some-clause-complete g c = completes c.derives_one_file.ensures.one _ c.in-Some.folder.now c.build.result c.build.ensures.0 _ _ c.in-Some.ensures c.build.ensures.1

pub returns-in-Some-clause-counts : goal.returns-in-Some-clause-counts
returns-in-Some-clause-counts g c = counts c.build.result _ _ (leaves c.build.result c.build.ensures.0 c.in-Some.folder.now _ _ _ _ c.build.ensures.1)

pub returns-in-Some-clause-same : goal.returns-in-Some-clause-same
returns-in-Some-clause-same g c = stays c.build.result _ _ (leaves c.build.result c.build.ensures.0 c.in-Some.folder.now _ _ _ _ c.build.ensures.1)

pub returns-in-Some-clause-out : goal.returns-in-Some-clause-out
returns-in-Some-clause-out g c = λ folder named. refl

pub returns-in-None-clause-answer : goal.returns-in-None-clause-answer
returns-in-None-clause-answer g c = (
  c.other_words.ensures.0,
  answers_other _ c.other_words.result c.other_words.ensures.0 _ (g.F.Files.state c.args.files.now) (g.F.Files.state c.other_words.new.files) c.in-None.ensures c.other_words.ensures.1 c.other_words.ensures.2,
  c.other_words.ensures.3,
)

pub returns-in-None-clause-headline : goal.returns-in-None-clause-headline
returns-in-None-clause-headline g c = λ folder named done. absurd (none_some _ folder c.in-None.ensures named)

pub returns-in-None-clause-complete : goal.returns-in-None-clause-complete
returns-in-None-clause-complete g c = λ folder named. absurd (none_some _ folder c.in-None.ensures named)

pub returns-in-None-clause-out : goal.returns-in-None-clause-out
returns-in-None-clause-out g c = λ folder named. absurd (none_some _ folder c.in-None.ensures named)

pub returns-in-None-clause-counts : goal.returns-in-None-clause-counts
returns-in-None-clause-counts g c = counts c.other_words.result _ _ c.other_words.ensures.1

pub returns-in-None-clause-same : goal.returns-in-None-clause-same
returns-in-None-clause-same g c = stays c.other_words.result _ _ c.other_words.ensures.1
