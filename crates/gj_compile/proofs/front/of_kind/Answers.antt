use Rattle.std.proofs.Common.{◌∙◌, sym}
use Rattle.gj_compile.specs.declared.front.Checked.{Checked}
use Rattle.gj_compile.proofs.FrontLemmas.{checked, unplain, went_on}
use Rattle.gj_compile.proofs.front.of_kind.Goals as goal

pub returns-then-is_plain : goal.returns-then-is_plain
returns-then-is_plain c =
    let made : Checked = record { program = c.args.program; files = c.into_files.result; is_plain = c.args.is_plain } in
    checked c.plain.ensures.alone c.args.packages made c.requires.right c.requires.is c.if-is_plain.true (sym c.if-is_plain.true ∙ c.requires.asked)

pub returns : goal.returns
returns c = went_on c.only_sound.result c.args.packages (unplain c.args.packages c.requires.right (sym c.if-is_plain.false ∙ c.requires.asked)) c.only_sound.ensures
