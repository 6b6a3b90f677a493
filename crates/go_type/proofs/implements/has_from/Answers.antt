use Rattle.std.proofs.Common.{◌≡◌, ℕ, length, sym, ◌∙◌, subst}
use Rattle.go_type.specs.Levels.{trees, trees_of, tree_of, SigBelow}
use Rattle.go_type.specs.Table.{names}
use Rattle.go_type.specs.Members.{sought}
use Rattle.go_type.specs.Hits.{IsIn}
use Rattle.go_type.specs.declared.types.Sig.{Sig}
use Rattle.go_type.proofs.LevelLemmas.{length_trees}
use Rattle.go_type.proofs.Identity.{same_sig}
use Rattle.go_type.proofs.MethodLemmas.{to_has, from_has}
use Rattle.go_type.proofs.implements.has_from.Goals as goal

pub returns-in-Some : goal.returns-in-Some
returns-in-Some c =
    let s = c.args.table.now in
    let gs = s.levels.keys in
    let ts = trees gs in
    let ns = names s in
    let t = tree_of ts c.args.t in
    let f = sought c.args.spec.now.name c.args.spec.now.«package» in
    let sig = c.args.spec.now.sig in
    let len : length ts ≡ length gs = length_trees gs in
    let same : (a : Sig) → SigBelow (length ts) a → trees_of ts a.params ≡ trees_of ts sig.params → trees_of ts a.results ≡ trees_of ts sig.results → a.variadic ≡ sig.variadic → a ≡ sig =
    λ a l p r v. same_sig (length s.names.items) gs s.rises s.distinct a sig (subst (λ (n : ℕ). SigBelow n a) len l) c.requires.sig p r v in (
      λ h. to_has ns f t c.args.indirect ts sig same c.in-Some.field-0-0 c.in-Some.ensures.before c.in-Some.hit c.in-Some.ensures.here (sym c.fits.ensures ∙ h),
      λ x. c.fits.ensures ∙ from_has ns f t c.args.indirect ts sig same c.in-Some.field-0-0 c.in-Some.ensures.before x c.in-Some.hit c.in-Some.ensures.here c.in-Some.ensures.something (subst (λ (n : ℕ). IsIn n c.in-Some.hit) (sym len) c.in-Some.ensures.within),
    )
