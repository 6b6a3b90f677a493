use Rattle.js_tree.specs.Steady.{cut, steady_exec_all, steady_call}
use Rattle.js_tree.proofs.laws.parts_stop.Goals as goal

pub returns : goal.returns
returns c = record {
  statements = λ script choices sc ss f d o h fuel before few l. cut (steady_exec_all script choices sc ss) h fuel before few l;
  calls = λ script choices at v vs w d o h fuel before few l. cut (steady_call script choices at v vs) h fuel before few l;
}
