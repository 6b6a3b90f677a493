use Rattle.std.proofs.Common.{◌≡◌, ◌∙◌, subst, inl}
use Rattle.gj_base.specs.Files.{FilesState, ReadFailed}
use Rattle.go_load.specs.Root.{IsRead}
use Rattle.go_load.proofs.JudgeLemmas.{loads}
use Rattle.go_load.proofs.loading.load.Goals as goal

pub returns : goal.returns
returns g c =
    let read = subst (λ (s : FilesState). IsRead s.tree c.args.root.now c.in_ok-gather.field-0.sources) c.in_ok-names.ensures.0 c.in_ok-gather.ensures.1 in
    loads c.judge.result c.args.root.now c.in_ok-gather.field-0.sources _ _ (c.in_ok-gather.ensures.0 ∙ c.in_ok-names.ensures.0) read c.judge.ensures
