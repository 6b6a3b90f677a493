-- Answers of calls on constants, whatever takes memory.
use Rattle.std.specs.Prelude.{Result, Ok, Err}
use Rattle.go_const.specs.declared.constant.Const.{Const}
use Rattle.go_const.specs.declared.constant.ConstRefusal.{ConstRefusal}
use Rattle.go_const.specs.declared.constant.ConstRefusal.TheVariants.{Code, NoMemory}
use Rattle.go_const.specs.Answer.{OrNoMemory}

pub any_memory : (P : Type 0) (r x : Result Const ConstRefusal) → OrNoMemory P r x → OrNoMemory (Unit {0}) r x
any_memory P (Ok k) x h = h
any_memory P (Err (Code n)) x h = h
any_memory P (Err NoMemory) x h = tt
