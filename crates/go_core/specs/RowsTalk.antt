-- Rows on communication, worked out by hand: Go specification (as of Go 1.17), "Send statements", "Receive
-- operator", "Select statements", "Close", "Go statements". Gates, numbers and the deadlock are own.
use Rattle.std.specs.Prelude.{◌≡◌, ℕ, ℤ, pos, negsuc, List, [], ◌∷◌, ◌++◌, true, false, Option, Some, codes}
use Rattle.go_type.specs.declared.types.Dir.TheVariants as dir
use Rattle.go_type.specs.Tree as ty
use Rattle.go_type.specs.Tree.{Ty, Tys, no_tys, more_tys, no_specs, more_specs, no_fields, more_fields}
use Rattle.go_core.specs.CoreTree as core
use Rattle.go_core.specs.CoreTree.{CoreProgram, CoreFunc, Expr, Stmt, Stmts, no_stmts, no_exprs, expr, Var}
use Rattle.go_core.specs.Goroutine.{Move, exit, fatal}
use Rattle.go_core.specs.Run.{start}
use Rattle.go_core.specs.MeaningWords.{int, num, n_, str, var, body, say, let_var, define, var_of, func_of, program, plain_move, played, shown_if_ended, outcome, Shown, prints, ends, panics_with, break_, go_}

abbrev pub ch : Ty
ch = ty.chan dir.Both int

abbrev pub make : ℕ → Expr
make n = core.make_chan ch (core.bound (n_ n))

abbrev pub chan_ : ℕ → Expr
chan_ v = var ch v

abbrev pub send : ℕ → Expr → Stmt
send v e = core.send ch (chan_ v) e

abbrev pub receive : ℕ → Expr
receive v = core.receive ch false (chan_ v)

abbrev pub close : ℕ → Stmt
close v = core.close_ (chan_ v)

-- `v, ok := <-c`, then both are said
abbrev pub say_received : ℕ → Stmt
say_received v = say (core.receive ch true (chan_ v) ∷ [])

-- function 2 sends a number to a channel, function 3 says what it receives
abbrev pub sender : CoreFunc
sender = func_of (ch ∷ int ∷ []) [] (var_of 20 ch ∷ var_of 21 int ∷ []) [] (core.send ch (var ch 20) (var int 21) ∷ say (str (codes "sent") ∷ var int 21 ∷ []) ∷ [])

abbrev pub receiver : CoreFunc
receiver = func_of (ch ∷ []) [] (var_of 30 ch ∷ []) [] (say (core.receive ch true (var ch 30) ∷ []) ∷ [])

abbrev pub talking : List Stmt → CoreProgram
talking ss = program ss (sender ∷ receiver ∷ [])

-- `main` waits at its receive, and goes on with what the other sends
abbrev pub receive_waits : CoreProgram
receive_waits = talking (define 1 ch (make 0) ++ go_ 2 (chan_ 1 ∷ n_ 5 ∷ []) ∷ say (receive 1 ∷ []) ∷ core.yield_ ∷ [])

-- `main` waits at its send
abbrev pub send_waits : CoreProgram
send_waits = talking (define 1 ch (make 0) ++ go_ 3 (chan_ 1 ∷ []) ∷ send 1 (n_ 5) ∷ say (str (codes "sent") ∷ []) ∷ [])

-- the second goroutine moves first wherever it can
abbrev pub second_first : List Move
second_first = plain_move 1 0 ∷ plain_move 0 1 ∷ []

abbrev pub played_so : CoreProgram → List Move → List ℕ → Option Shown
played_so p moves choices = shown_if_ended (played p choices moves 120 (Some (start p [])))

abbrev pub buffered : CoreProgram
buffered = talking (define 1 ch (make 2) ++ send 1 (n_ 5) ∷ send 1 (n_ 6) ∷ say (core.len ch (chan_ 1) ∷ core.cap ch (chan_ 1) ∷ receive 1 ∷ core.len ch (chan_ 1) ∷ []) ∷ close 1 ∷ say_received 1 ∷ say_received 1 ∷ [])

-- a full buffer has no room
abbrev pub full_buffer : CoreProgram
full_buffer = talking (define 1 ch (make 1) ++ send 1 (n_ 5) ∷ send 1 (n_ 6) ∷ say (str (codes "not here") ∷ []) ∷ [])

abbrev pub send_on_closed : CoreProgram
send_on_closed = talking (define 1 ch (make 1) ++ close 1 ∷ send 1 (n_ 5) ∷ [])

abbrev pub closed_twice : CoreProgram
closed_twice = talking (define 1 ch (make 0) ++ close 1 ∷ close 1 ∷ [])

abbrev pub closed_nil : CoreProgram
closed_nil = talking (let_var 1 ch ∷ close 1 ∷ [])

abbrev pub receive_from_nil : CoreProgram
receive_from_nil = talking (let_var 1 ch ∷ say (receive 1 ∷ []) ∷ [])

-- a waiting send panics where its channel is closed
abbrev pub closed_under_a_send : CoreProgram
closed_under_a_send = talking (define 1 ch (make 0) ++ go_ 2 (chan_ 1 ∷ n_ 5 ∷ []) ∷ core.yield_ ∷ close 1 ∷ core.yield_ ∷ core.yield_ ∷ say (str (codes "main") ∷ []) ∷ [])

-- a waiting receive gets zero and false
abbrev pub closed_under_a_receive : CoreProgram
closed_under_a_receive = talking (define 1 ch (make 0) ++ go_ 3 (chan_ 1 ∷ []) ∷ core.yield_ ∷ close 1 ∷ core.yield_ ∷ [])

-- `main` doesn't wait for others
abbrev pub main_ends : CoreProgram
main_ends = talking (define 1 ch (make 0) ++ go_ 3 (chan_ 1 ∷ []) ∷ say (str (codes "end") ∷ []) ∷ [])

abbrev pub go_of_nil : CoreProgram
go_of_nil = talking (core.go_call (core.func_value (core.zero_value (ty.func no_tys no_tys false))) no_exprs ∷ [])

-- ---- select

abbrev pub receives : ℕ → List Var → core.Communication
receives v vars = core.receives ch (chan_ v) vars

abbrev pub case_ : core.Communication → List Stmt → core.Cases → core.Cases
case_ c ss cs = core.case c (body ss) cs

abbrev pub said : ℕ → List ℕ → List Stmt
said v bytes = say (str bytes ∷ var int v ∷ []) ∷ []

-- two channels that hold 1 and 2
abbrev pub two_ready : CoreProgram
two_ready = talking (define 1 ch (make 1) ++ define 2 ch (make 1) ++ send 1 (n_ 1) ∷ send 2 (n_ 2)
    ∷ core.select_step 9 (case_ (receives 1 (var_of 40 int ∷ [])) (said 40 (codes "a")) (case_ (receives 2 (var_of 41 int ∷ [])) (said 41 (codes "b")) core.no_cases)) false no_stmts
    ∷ [])

-- of three cases the first isn't ready
abbrev pub one_ready : CoreProgram
one_ready = talking (define 1 ch (make 1) ++ define 2 ch (make 1) ++ send 2 (n_ 2)
    ∷ core.select_step 9 (case_ (receives 1 (var_of 40 int ∷ [])) (said 40 (codes "a")) (case_ (receives 2 (var_of 41 int ∷ var_of 42 ty.bool ∷ [])) (say (var int 41 ∷ var ty.bool 42 ∷ []) ∷ break_ 9 ∷ say [] ∷ []) core.no_cases)) true (body (say (str (codes "default") ∷ []) ∷ []))
    ∷ [])

abbrev pub none_ready : CoreProgram
none_ready = talking (define 1 ch (make 0) ++ let_var 2 ch
    ∷ core.select_step 9 (case_ (receives 1 []) [] (case_ (core.sends ch (chan_ 2) (n_ 1)) [] core.no_cases)) true (body (say (str (codes "default") ∷ []) ∷ []))
    ∷ [])

-- a goroutine that is about to send is no partner
abbrev pub about_to_send : CoreProgram
about_to_send = talking (define 1 ch (make 0) ++ go_ 2 (chan_ 1 ∷ n_ 5 ∷ [])
    ∷ core.select_step 9 (case_ (receives 1 []) (say (str (codes "received") ∷ []) ∷ []) core.no_cases) true (body (say (str (codes "default") ∷ []) ∷ []))
    ∷ [])

-- a select that waits takes no number when it goes on
abbrev pub waiting_select : CoreProgram
waiting_select = talking (define 1 ch (make 0) ++ define 2 ch (make 0) ++ go_ 2 (chan_ 2 ∷ n_ 5 ∷ [])
    ∷ core.select_step 9 (case_ (receives 1 (var_of 40 int ∷ [])) (said 40 (codes "a")) (case_ (receives 2 (var_of 41 int ∷ [])) (said 41 (codes "b")) core.no_cases)) false no_stmts
    ∷ [])

-- the way of the waiting select that the sender meets is the second one
abbrev pub second_way : List Move
second_way = plain_move 0 1 ∷ record (plain_move 1 0) { partner_way = 1 } ∷ []

-- a select sends where a receiver waits
abbrev pub select_sends : CoreProgram
select_sends = talking (define 1 ch (make 0) ++ go_ 3 (chan_ 1 ∷ []) ∷ core.yield_
    ∷ core.select_step 9 (case_ (core.sends ch (chan_ 1) (n_ 7)) (say (str (codes "sent") ∷ []) ∷ []) core.no_cases) true (body (say (str (codes "default") ∷ []) ∷ []))
    ∷ core.yield_ ∷ [])

abbrev pub no_case : CoreProgram
no_case = talking (core.select_step 9 core.no_cases false no_stmts ∷ [])

-- ---- gates: `struct { gate *int }`, whose field is of package `sync`

abbrev pub lock : Ty
lock = ty.struct (more_fields (codes "gate") (codes "sync") (ty.pointer int) false [] no_fields)

abbrev pub gate : Expr
gate = core.gate_make (core.address (ty.pointer (ty.pointer int)) (core.field lock 0 (core.local_ 1)))

abbrev pub add : ℤ → Expr
add n = core.gate_add gate (num n)

-- a take sets 1, so an add of -1 answers 0
abbrev pub gates : CoreProgram
gates = program (let_var 1 lock ∷ core.gate_await gate ∷ core.gate_take gate ∷ say (add (pos 0) ∷ add (negsuc 0) ∷ []) ∷ core.gate_await gate ∷ say (add (pos 2147483647) ∷ add (pos 1) ∷ []) ∷ []) []

abbrev pub taken_twice : CoreProgram
taken_twice = program (let_var 1 lock ∷ core.gate_take gate ∷ core.gate_take gate ∷ []) []

-- the other takes once the cell is 0
abbrev pub handed_over : CoreProgram
handed_over = program (let_var 1 lock ∷ core.gate_take gate ∷ go_ 2 [] ∷ core.yield_ ∷ say (str (codes "main") ∷ add (negsuc 0) ∷ []) ∷ core.gate_await gate ∷ say (str (codes "end") ∷ []) ∷ [])
    (func_of [] [] [] (1 ∷ []) (core.gate_take gate ∷ say (str (codes "taken") ∷ []) ∷ core.perform (add (negsuc 0)) 1 ∷ []) ∷ [])

pub record RowsTalk : Type 0 where
  pub sender_finds_a_receiver : outcome receive_waits [] ≡ prints (codes "5\n")
  pub both_go_on : played_so receive_waits second_first [] ≡ prints (codes "sent 5\n5\n")
  pub receiver_finds_a_sender : played_so send_waits second_first [] ≡ prints (codes "5 true\nsent\n")
  pub main_goes_on_first : outcome send_waits [] ≡ prints (codes "sent\n")
  pub buffers_hold : outcome buffered [] ≡ prints (codes "2 2 5 1\n6 true\n0 false\n")
  pub full_buffer_waits : outcome full_buffer [] ≡ ends [] (fatal (codes "all goroutines are asleep - deadlock!"))
  pub send_on_closed_panics : outcome send_on_closed [] ≡ panics_with [] (codes "send on closed channel")
  pub closing_twice_panics : outcome closed_twice [] ≡ panics_with [] (codes "close of closed channel")
  pub closing_nil_panics : outcome closed_nil [] ≡ panics_with [] (codes "close of nil channel")
  pub nil_is_never_ready : outcome receive_from_nil [] ≡ ends [] (fatal (codes "all goroutines are asleep - deadlock!"))
  pub waiting_send_panics : played_so closed_under_a_send second_first [] ≡ panics_with [] (codes "send on closed channel")
  pub waiting_receive_gets_zero : played_so closed_under_a_receive second_first [] ≡ prints (codes "0 false\n")
  pub main_waits_for_nobody : outcome main_ends [] ≡ prints (codes "end\n")
  pub go_of_nil_panics : outcome go_of_nil [] ≡ panics_with [] (codes "runtime error: invalid memory address or nil pointer dereference")
  pub first_by_number : outcome two_ready [] ≡ Some (record { printed = codes "a 1\n"; taken = 1; end = exit 0 })
  pub second_by_number : outcome two_ready (1 ∷ []) ≡ Some (record { printed = codes "b 2\n"; taken = 1; end = exit 0 })
  pub number_modulo_the_count : outcome two_ready (4 ∷ []) ≡ Some (record { printed = codes "a 1\n"; taken = 1; end = exit 0 })
  pub one_takes_no_number : outcome one_ready (1 ∷ []) ≡ prints (codes "2 true\n")
  pub none_takes_default : outcome none_ready [] ≡ prints (codes "default\n")
  pub about_is_no_partner : outcome about_to_send [] ≡ prints (codes "default\n")
  pub waiting_one_is_a_partner : played_so about_to_send second_first [] ≡ prints (codes "sent 5\nreceived\n")
  pub waiting_select_takes_no_number : played_so waiting_select second_way (1 ∷ []) ≡ prints (codes "b 5\n")
  pub select_finds_a_receiver : played_so select_sends second_first [] ≡ prints (codes "7 true\nsent\n")
  pub select_without_cases_waits : outcome no_case [] ≡ ends [] (fatal (codes "all goroutines are asleep - deadlock!"))
  pub gate_counts : outcome gates [] ≡ prints (codes "1 0\n2147483647 -2147483648\n")
  pub second_take_waits : outcome taken_twice [] ≡ ends [] (fatal (codes "all goroutines are asleep - deadlock!"))
  pub gate_is_handed_over : played_so handed_over second_first [] ≡ prints (codes "taken\nmain 0\nend\n")
