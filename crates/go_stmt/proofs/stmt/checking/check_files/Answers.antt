use Rattle.std.proofs.Common.{List, ap, map, ◌++◌, ◌∙◌}
use Rattle.go_operands.specs.AnswerView.{flaw_view}
use Rattle.go_operands.specs.declared.answers.answer.Flaw as answers
use Rattle.go_items.specs.ItemView.{decls_of}
use Rattle.go_syntax.specs.View.{file_view}
use Rattle.go_stmt.specs.Checks.{flaws_before}
use Rattle.go_stmt.proofs.MadeLemmas.{ready_in, plain_in, made_of, told_of, starts_at}
use Rattle.go_stmt.proofs.stmt.checking.check_files.Goals as goal

pub functions-requires : goal.functions-requires
functions-requires c =
    let ds = decls_of (map file_view c.args.files.now) in
    let e = c.in_ok-before.before.env in
    record {
      ready = ready_in ds e c.new-walk.result.env c.in_ok-before.before.heads.items c.new-walk.ensures.env c.in_ok-before.ensures.stands c.in_ok-before.ensures.ready;
      plain = plain_in ds e c.new-walk.result.env c.new-walk.ensures.env c.in_ok-before.ensures.stands;
    }

pub after_bodies-requires : goal.after_bodies-requires
after_bodies-requires c =
    let ds = decls_of (map file_view c.args.files.now) in
    let e = c.in_ok-before.before.env in
    let w = c.new-walk.result in
    let v = c.functions.new.walk in
    let hs = c.in_ok-before.before.heads.items in
    let none = starts_at w e c.new-walk.ensures.value in
    let told = c.in_ok-before.ensures.told ∙ ap (λ (fs : List answers.Flaw). map flaw_view fs ++ flaws_before ds) c.new-flaws.ensures.items in
    record {
      made =
          made_of ds e w v hs c.new-walk.ensures.env none c.in_ok-before.ensures.stands c.in_ok-before.ensures.view c.by_heads.ensures.law c.in-Ok.ensures.back c.in-Ok.funcs.items c.in_ok-before.before.hidden c.in_ok-before.ensures.hidden
          c.in_ok-before.ensures.within c.in-Ok.ensures.funcs c.in-Ok.ensures.between;
      told =
          told_of ds e w v hs c.new-walk.ensures.env none c.in_ok-before.ensures.stands c.in_ok-before.ensures.view c.by_heads.ensures.law c.in-Ok.ensures.back (map flaw_view c.before_bodies.new.flaws.items)
          (map flaw_view c.functions.new.flaws.items) told c.in-Ok.ensures.told;
      count = c.in_ok-count.ensures.value;
    }

pub invariant_of-walk : goal.invariant_of-walk
invariant_of-walk c =
    let e = c.functions.new.walk.env in
    record { begins = e.begins; universe_within = e.universe_within; packages_within = e.packages_within; blocks_within = e.blocks_within }
