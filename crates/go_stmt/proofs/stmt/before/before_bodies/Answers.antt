use Rattle.std.proofs.Common.{arith, List, ap, map, ◌++◌, ◌∙◌, append_assoc}
use Rattle.go_operands.specs.AnswerView.{flaw_view}
use Rattle.go_items.specs.ItemView.{decls_of}
use Rattle.go_typing.specs.Checked.{known_in}
use Rattle.go_typing.specs.Known.{outside}
use Rattle.go_typing.specs.Told.{decls_told}
use Rattle.go_syntax.specs.View.{file_view}
use Rattle.go_typing.specs.Answer.{Flaw}
use Rattle.go_stmt.specs.Checks.{names_flaws}
use Rattle.go_stmt.proofs.CheckLemmas.{grown, has_hidden}
use Rattle.go_stmt.proofs.stmt.before.before_bodies.Goals as goal

pub hidden_type-requires : goal.hidden_type-requires
hidden_type-requires c = has_hidden (decls_of (map file_view c.args.files.now)) c.in_ok-env.env c.in_ok-env.ensures.stands

pub outside_bodies-requires : goal.outside_bodies-requires
outside_bodies-requires c =
    record { stands = grown (known_in (decls_of (map file_view c.args.files.now))) c.in_ok-env.env c.hidden_type.new.env c.hidden_type.ensures.grows c.in_ok-env.ensures.stands }

pub returns : goal.returns
returns c =
    let ds = decls_of (map file_view c.args.files.now) in
    let old = map flaw_view c.args.flaws.now.items in
    let more = decls_told (outside (known_in ds)) ds in
    let grows = c.in_ok-heads.ensures.grows in
    let there = c.in_ok-hidden.ensures.within in
    record {
      stands = c.in_ok-heads.ensures.stands;
      hidden = grows.kept c.in_ok-hidden.hidden there ∙ c.in_ok-hidden.ensures.tree;
      within = let counts = grows.counts in omega (arith, counts, there);
      view = c.in_ok-heads.ensures.view;
      ready = c.in_ok-heads.ensures.ready;
      told = c.in_ok-heads.ensures.told ∙ ap (λ (fs : List Flaw). fs ++ more) c.in_ok-env.ensures.told ∙ append_assoc old (names_flaws ds) more;
    }

pub invariant_of-env : goal.invariant_of-env
invariant_of-env c =
    let e = c.hidden_type.new.env in
    record { begins = e.begins; universe_within = e.universe_within; packages_within = e.packages_within; blocks_within = e.blocks_within }

pub invariant_of-env-in_err-heads : goal.invariant_of-env-in_err-heads
invariant_of-env-in_err-heads c =
    let e = c.outside_bodies.new.env in
    record { begins = e.begins; universe_within = e.universe_within; packages_within = e.packages_within; blocks_within = e.blocks_within }
