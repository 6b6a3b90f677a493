-- Answers of calls on constants, whatever takes memory.
use Rattle.std.specs.Prelude.{◌≡◌, Result, Ok, Err}
use Rattle.go_const.specs.declared.constant.Const.{Const}
use Rattle.go_const.specs.declared.constant.ConstRefusal.{ConstRefusal}
use Rattle.go_const.specs.declared.constant.ConstRefusal.TheVariants.{Code, NoMemory}
use Rattle.go_const.specs.Answer.{OrNoMemory}

pub same_answer : (r x : Result Const ConstRefusal) → r ≡ x → OrNoMemory (Unit {0}) r x
same_answer (Ok k) x h = h
same_answer (Err (Code n)) x h = h
same_answer (Err NoMemory) x h = tt
