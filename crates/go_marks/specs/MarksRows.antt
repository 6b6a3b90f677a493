-- Which functions may wait, as worked out by hand.
use Rattle.std.specs.Prelude.{ℕ, List, [], ◌∷◌, false, Some, codes}
use Rattle.go_type.specs.Tree as ty
use Rattle.go_type.specs.declared.types.Dir.TheVariants as direction
use Rattle.go_type.specs.Tree.{Ty, no_tys, more_tys, no_fields, more_fields}
use Rattle.go_type.specs.Named.{NamedTy}
use Rattle.go_core.specs.CoreTree as core
use Rattle.go_core.specs.CoreTree.{CoreFunc, Expr, Stmt, CoreProgram}
use Rattle.go_core.specs.MeaningWords.{int, var, exprs, run_, go_, let_var, set, var_of, func_of, program, program_with}
use Rattle.go_marks.specs.Marks.{IsMarked}

-- ---- "Conversions": a conversion may change tags

abbrev pub with_tag : List ℕ → Ty
with_tag tag = ty.struct (more_fields (codes "X") [] int false tag no_fields)

abbrev pub taker : List ℕ → Ty
taker tag = ty.func (more_tys (with_tag tag) no_tys) no_tys false

-- `type W func(struct { X int })`
abbrev pub taker_type : Ty
taker_type = ty.named 1

abbrev pub taker_name : NamedTy
taker_name = record { name = codes "W"; package_ = codes "main"; under = Some (taker []); methods = [] }

abbrev pub numbers : Ty
numbers = ty.chan direction.Both int

-- `func call(w W) { w(struct { X int }{}) }`
abbrev pub caller : CoreFunc
caller = func_of (taker_type ∷ []) [] (var_of 10 taker_type ∷ []) []
    (core.perform (core.call no_tys (core.func_value (var taker_type 10)) (exprs (core.zero_value (with_tag []) ∷ []))) 0 ∷ [])

-- `func(struct { X int "t" }) { <-c }`
abbrev pub waiter : CoreFunc
waiter = func_of (with_tag (codes "t") ∷ []) [] (var_of 20 (with_tag (codes "t")) ∷ []) (1 ∷ []) (core.perform (core.receive numbers false (var numbers 1)) 1 ∷ [])

-- `c := make(chan int); call(W(func(struct { X int "t" }) { <-c }))`
abbrev pub tagged_body : List Stmt
tagged_body = let_var 1 numbers ∷ set 1 numbers (core.make_chan numbers core.no_bound)
    ∷ run_ 2 (core.convert (taker (codes "t")) taker_type (core.closure (taker (codes "t")) 3) ∷ []) ∷ []

abbrev pub tagged_main : CoreFunc
tagged_main = func_of [] [] [] [] tagged_body

abbrev pub tagged_call : CoreProgram
tagged_call = program_with (taker_name ∷ []) [] tagged_body (caller ∷ waiter ∷ [])

-- ---- "Go statements", "Defer statements": what is started isn't called

-- `func wait() { <-c }`, with the channel as an operand
abbrev pub wait : CoreFunc
wait = func_of (numbers ∷ []) [] (var_of 30 numbers ∷ []) [] (core.perform (core.receive numbers false (var numbers 30)) 1 ∷ [])

abbrev pub nil_channel : Expr
nil_channel = core.zero_value numbers

-- a function that starts one that waits
abbrev pub starter : CoreFunc
starter = func_of [] [] [] [] (go_ 2 (nil_channel ∷ []) ∷ [])

-- a function that calls it
abbrev pub waker : CoreFunc
waker = func_of [] [] [] [] (run_ 2 (nil_channel ∷ []) ∷ [])

abbrev pub quiet_main : CoreFunc
quiet_main = func_of [] [] [] [] (run_ 3 [] ∷ [])

abbrev pub started : CoreProgram
started = program (run_ 3 [] ∷ []) (wait ∷ starter ∷ waker ∷ [])

pub record MarksRows : Type 0 where
  -- the function value waits, so its caller may, and so may `main`
  pub waits : IsMarked tagged_call 3
  pub calls_it : IsMarked tagged_call 2
  pub calls_the_caller : IsMarked tagged_call 0
  pub is_called : IsMarked started 4
  pub is_started : IsMarked started 3 → ⊥
  pub starter_is_called : IsMarked started 0 → ⊥
