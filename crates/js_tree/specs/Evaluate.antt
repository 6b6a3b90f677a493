-- ECMA-262 5.1, 8.9, 11, 12 and 13: what expressions, statements and calls do, cut to the subset. The functions of the host and ticks are own.
use Rattle.std.specs.Prelude.{ℕ, zero, suc, ◌+◌, ◌%◌, ◌^◌, ◌==◌, ◌&&◌, ◌||◌, pos, List, [], ◌∷◌, ◌++◌, Option, Some, None, is_some, Bool, true, false, if◌then◌else◌, nat_le, nat_lt, length, slice_index, codes, bytes_eq}
use Rattle.js_tree.specs.Script.{Name, Expr, unary, binary, both, either, choice, call, index, length_of, pop, char_code_at, substring, array, dictionary, decimal_of, from_char_code, Exprs, no_exprs, expr, Stmt, declare, assign, store, perform, push, remove, branch, while, forever, switch, return, throw, break, continue, attempt, Stmts, no_stmts, stmt, Else, no_else, else_block, else_if, Cases, no_cases, default, case, Function, Item, function_item, global_item, ScriptTree}
use Rattle.js_tree.specs.Script as tree
use Rattle.js_tree.specs.Value.{Value, whole, bytes, truth, nothing, object, function, Object, items, entries, Going, Ended, Stuck, World, Locals, Frame, Outcome, gives, throws, over, and_then, in_frame, choose, given, tick, lookup, with_entry, holds}
use Rattle.js_tree.specs.Operation.{in_range, unary_value, binary_value, same_value, element, stored, removed, pushed, popped, length_value, char_code, part_of, decimal_text, one_byte}

-- what a call comes to: a value, or none
abbrev pub Called : Type 0
Called = Outcome World (Option Value)

-- what parts of a script are evaluated with: the script, the numbers to choose by, and what a function does once its call has taken a tick
pub record Setting : Type 0 where
  pub script : ScriptTree
  pub choices : List ℕ
  pub enter : Function → List Value → World → Called

-- what stays the same in a call, or in a block after `catch`: the names of the locals, and what was caught
pub record Scope : Type 0 where
  pub names : List Name
  pub caught : Option Value

-- 8.9: how a statement completes other than by a throw
pub data Flow : Type 0 where
  onward : Flow
  breaks : (label : Option Name) → Flow
  continues : (label : Option Name) → Flow
  returns : (v : Option Value) → Flow

-- own: the functions of the host
pub data Host : Type 0 where
  write : Host
  pick : Host
  finish : Host

abbrev pub host_named : Name → Option Host
host_named x =
    if bytes_eq x (codes "$write") then Some write else if bytes_eq x (codes "$pick") then Some pick
    else if bytes_eq x (codes "$end") then Some finish else None

-- the function of a name
abbrev pub find_function : Name → List Item → Option Function
find_function x [] = None
find_function x (function_item f ∷ rest) = if bytes_eq x f.name then Some f else find_function x rest
find_function x (global_item at y e ∷ rest) = find_function x rest

-- whether a name is that of a top-level variable
abbrev pub is_global : Name → List Item → Bool
is_global x [] = false
is_global x (function_item f ∷ rest) = is_global x rest
is_global x (global_item at y e ∷ rest) = if bytes_eq x y then true else is_global x rest

-- 10.3.1: a function, or a top-level variable that has been set
abbrev pub global_value : Setting → Name → World → Option Value
global_value st x w =
    if is_some (host_named x) || is_some (find_function x st.script.items) then Some (function x) else lookup x w.globals

-- 10.3.1, 12.14: what was caught, or a local that has been set, or what is at the top
abbrev pub name_value : Setting → Scope → Locals → Name → World → Option Value
name_value st sc locals x w =
    if bytes_eq x (codes "$catch") then sc.caught
    else if holds x sc.names then lookup x locals else global_value st x w

-- own: `$write(s)` prints a string
abbrev pub written : ℕ → List Value → World → Called
written at (bytes s ∷ []) w = and_then (tick w) (λ _ w. gives None (record w { printed = w.printed ++ s }))
written at _ w = over (Stuck at) w

-- the number in a place, and 0 after the last one
abbrev pub choice_number : List ℕ → ℕ → ℕ
choice_number choices place = slice_index choices place

-- own: `$pick(k)`, k from 2 to 2^32 - 1, takes the next number and gives it modulo k
abbrev pub picked : ℕ → List ℕ → List Value → World → Called
picked at choices (whole (pos k) ∷ []) w =
    if nat_le 2 k && nat_lt k (2 ^ 32)
    then and_then (tick w) (λ _ w. gives (Some (whole (pos (choice_number choices w.taken % k)))) (record w { taken = w.taken + 1 }))
    else over (Stuck at) w
picked at choices _ w = over (Stuck at) w

-- own: `$end(c, t)`, c below 256, ends the run
abbrev pub finished : ℕ → List Value → World → Called
finished at (whole (pos c) ∷ bytes t ∷ []) w =
    if nat_lt c 256 then and_then (tick w) (λ _ w. over (Ended c t) w) else over (Stuck at) w
finished at _ w = over (Stuck at) w

abbrev pub call_host : Setting → ℕ → Host → List Value → World → Called
call_host st at write vs w = written at vs w
call_host st at pick vs w = picked at st.choices vs w
call_host st at finish vs w = finished at vs w

-- 13.2.1: a function takes as many arguments as it has parameters
abbrev pub call_function : Setting → ℕ → Option Function → List Value → World → Called
call_function st at None vs w = over (Stuck at) w
call_function st at (Some f) vs w =
    if length vs == length f.params then and_then (tick w) (λ _ w. st.enter f vs w) else over (Stuck at) w

abbrev pub call_named : Setting → ℕ → Option Host → Name → List Value → World → Called
call_named st at None x vs w = call_function st at (find_function x st.script.items) vs w
call_named st at (Some h) x vs w = call_host st at h vs w

-- 11.2.3: a call of a value at an offset; its tick is taken when it is known to be a call
abbrev pub call_value : Setting → ℕ → Value → List Value → World → Called
call_value st at (function x) vs w = call_named st at (host_named x) x vs w
call_value st at _ vs w = over (Stuck at) w

-- a boolean as a condition
abbrev pub truth_of : ℕ → Value → World → Outcome World Bool
truth_of at (truth b) w = gives b w
truth_of at _ w = over (Stuck at) w

-- with the arrays and dictionaries so
abbrev pub with_objects : List Object → World → World
with_objects objects w = record w { objects = objects }

-- 11.1.4: a new array or dictionary
abbrev pub allocated : Object → World → Outcome World Value
allocated o w = gives (object (length w.objects)) (with_objects (w.objects ++ o ∷ []) w)

-- goes on with the value, and the objects as they were left
abbrev pub after_pop : Value × List Object → World → Outcome World Value
after_pop p w = gives p.0 (with_objects p.1 w)

abbrev mutual
  -- 11: the value of an expression
  pub eval : Setting → Scope → Locals → Expr → World → Outcome World Value
  eval st sc ls (tree.number at n) w = given at (in_range (pos n)) w
  eval st sc ls (tree.string at s) w = gives (bytes s) w
  eval st sc ls (tree.boolean at b) w = gives (truth b) w
  eval st sc ls (tree.null at) w = gives nothing w
  eval st sc ls (tree.name at x) w = given at (name_value st sc ls x w) w
  eval st sc ls (unary at op e) w = and_then (eval st sc ls e w) (λ v w. given at (unary_value op v) w)
  eval st sc ls (binary at op a b) w =
      and_then (eval st sc ls a w) (λ u w. and_then (eval st sc ls b w) (λ v w. given at (binary_value w.objects op u v) w))
  eval st sc ls (both at a b) w =
      and_then (eval st sc ls a w) (λ u w. and_then (truth_of at u w) (λ t. choose t (eval st sc ls b) (gives (truth false))))
  eval st sc ls (either at a b) w =
      and_then (eval st sc ls a w) (λ u w. and_then (truth_of at u w) (λ t. choose t (gives (truth true)) (eval st sc ls b)))
  eval st sc ls (choice at test a b) w =
      and_then (eval st sc ls test w) (λ u w. and_then (truth_of at u w) (λ t. choose t (eval st sc ls a) (eval st sc ls b)))
  eval st sc ls (call at f es) w =
      and_then (eval st sc ls f w) (λ u w. and_then (eval_all st sc ls es w) (λ vs w. and_then (call_value st at u vs w) (given at)))
  eval st sc ls (index at e i) w =
      and_then (eval st sc ls e w) (λ u w. and_then (eval st sc ls i w) (λ v w. given at (element w.objects u v) w))
  eval st sc ls (length_of at e) w = and_then (eval st sc ls e w) (λ u w. given at (length_value w.objects u) w)
  eval st sc ls (pop at e) w =
      and_then (eval st sc ls e w) (λ u w. and_then (given at (popped w.objects u) w) after_pop)
  eval st sc ls (char_code_at at e i) w =
      and_then (eval st sc ls e w) (λ u w. and_then (eval st sc ls i w) (λ v w. given at (char_code u v) w))
  eval st sc ls (substring at e i j) w =
      and_then (eval st sc ls e w) (λ u w. and_then (eval st sc ls i w) (λ v w. and_then (eval st sc ls j w) (λ x w. given at (part_of u v x) w)))
  eval st sc ls (array at es) w = and_then (eval_all st sc ls es w) (λ vs w. allocated (items vs) w)
  eval st sc ls (dictionary at) w = allocated (entries []) w
  eval st sc ls (decimal_of at e) w = and_then (eval st sc ls e w) (λ u w. given at (decimal_text u) w)
  eval st sc ls (from_char_code at e) w = and_then (eval st sc ls e w) (λ u w. given at (one_byte u) w)

  -- 11.2.4: the values of expressions, from the left
  pub eval_all : Setting → Scope → Locals → Exprs → World → Outcome World (List Value)
  eval_all st sc ls no_exprs w = gives [] w
  eval_all st sc ls (expr e es) w =
      and_then (eval st sc ls e w) (λ v w. and_then (eval_all st sc ls es w) (λ vs w. gives (v ∷ vs) w))

-- 12.4: an expression as a statement, which may be a call that gives no value
abbrev pub eval_dropped : Setting → Scope → Locals → Expr → World → Outcome World (Option Value)
eval_dropped st sc ls (call at f es) w =
    and_then (eval st sc ls f w) (λ u w. and_then (eval_all st sc ls es w) (λ vs w. call_value st at u vs w))
eval_dropped st sc ls e w = and_then (eval st sc ls e w) (λ v w. gives (Some v) w)

abbrev pub frame : Locals → World → Frame
frame ls w = record { locals = ls; world = w }

-- the value of an expression, in a function's call
abbrev pub value : Setting → Scope → Expr → Frame → Outcome Frame Value
value st sc e f = in_frame f.locals (eval st sc f.locals e f.world)

-- a condition of the statement at an offset
abbrev pub condition : Setting → Scope → ℕ → Expr → Frame → Outcome Frame Bool
condition st sc at e f = in_frame f.locals (and_then (eval st sc f.locals e f.world) (truth_of at))

-- goes on after the operation of the statement at an offset
abbrev pub done : ℕ → Option (List Object) → Frame → Outcome Frame Flow
done at objects f = in_frame f.locals (and_then (given at objects f.world) (λ os w. gives onward (with_objects os w)))

abbrev pub set_local : Name → Value → Frame → Outcome Frame Flow
set_local x v f = gives onward (frame (with_entry x v f.locals) f.world)

-- 8.7.2: a local, else a top-level variable, is set
abbrev pub set_name : Setting → Scope → ℕ → Name → Value → Frame → Outcome Frame Flow
set_name st sc at x v f =
    if holds x sc.names then set_local x v f
    else if is_global x st.script.items
    then gives onward (frame f.locals (record f.world { globals = with_entry x v f.world.globals }))
    else over (Stuck at) f.world

-- after a statement, unless it left
abbrev pub go_on : (Frame → Outcome Frame Flow) → Flow → Frame → Outcome Frame Flow
go_on next onward f = next f
go_on next flow f = gives flow f

-- 12.7, 12.8: whether a jump leads to a statement with this label
abbrev pub is_target : Option Name → Option Name → Bool
is_target None label = true
is_target (Some x) None = false
is_target (Some x) (Some label) = bytes_eq x label

-- 12.6: after a turn of a loop
abbrev pub after_turn : Option Name → (Frame → Outcome Frame Flow) → Flow → Frame → Outcome Frame Flow
after_turn label next onward f = next f
after_turn label next (breaks x) f = choose (is_target x label) (gives onward) (gives (breaks x)) f
after_turn label next (continues x) f = choose (is_target x label) next (gives (continues x)) f
after_turn label next (returns v) f = gives (returns v) f

-- 12.11: after the statements of a `switch`
abbrev pub after_switch : Option Name → Flow → Frame → Outcome Frame Flow
after_switch label (breaks x) f = choose (is_target x label) (gives onward) (gives (breaks x)) f
after_switch label flow f = gives flow f

-- 12.6.2, 12.6.3: at most so many turns, each of which takes a tick when the condition has given true. Where no turn is left no tick is.
abbrev pub turns : ℕ → Option Name → (Frame → Outcome Frame Bool) → (Frame → Outcome Frame Flow) → Frame → Outcome Frame Flow
turns zero label test body f = and_then (test f) (λ t. choose t (λ f. over Going f.world) (gives onward))
turns (suc n) label test body f =
    and_then (test f) (λ t. choose t (λ f. and_then (in_frame f.locals (tick f.world)) (λ _ f. and_then (body f) (after_turn label (turns n label test body)))) (gives onward))

-- a loop makes no more turns than there are ticks
abbrev pub loop : Option Name → (Frame → Outcome Frame Bool) → (Frame → Outcome Frame Flow) → Frame → Outcome Frame Flow
loop label test body f = turns f.world.left label test body f

-- 12.14: what is done with a throw
abbrev pub rescued : Outcome Frame Flow → (Value → Frame → Outcome Frame Flow) → Outcome Frame Flow
rescued (gives flow f) handler = gives flow f
rescued (throws at v f) handler = handler v f
rescued (over e w) handler = over e w

abbrev mutual
  -- 12: what a statement does
  pub exec : Setting → Scope → Stmt → Frame → Outcome Frame Flow
  exec st sc (declare at x e) f = and_then (value st sc e f) (λ v f. set_local x v f)
  exec st sc (assign at x e) f = and_then (value st sc e f) (λ v f. set_name st sc at x v f)
  exec st sc (store at e i x) f =
      and_then (value st sc e f) (λ u f. and_then (value st sc i f) (λ k f. and_then (value st sc x f) (λ v f. done at (stored f.world.objects u k v) f)))
  exec st sc (perform at e) f =
      and_then (in_frame f.locals (eval_dropped st sc f.locals e f.world)) (λ v f. gives onward f)
  exec st sc (push at e x) f =
      and_then (value st sc e f) (λ u f. and_then (value st sc x f) (λ v f. done at (pushed f.world.objects u v) f))
  exec st sc (remove at e k) f =
      and_then (value st sc e f) (λ u f. and_then (value st sc k f) (λ v f. done at (removed f.world.objects u v) f))
  exec st sc (branch at test ss other) f =
      and_then (condition st sc at test f) (λ t. choose t (exec_all st sc ss) (exec_else st sc other))
  exec st sc (while at label test ss) f = loop label (condition st sc at test) (exec_all st sc ss) f
  exec st sc (forever at label ss) f = loop label (gives true) (exec_all st sc ss) f
  exec st sc (switch at label e cases) f =
      and_then (value st sc e f) (λ v f. and_then (exec_cases st sc cases v f) (after_switch label))
  exec st sc (return at None) f = gives (returns None) f
  exec st sc (return at (Some e)) f = and_then (value st sc e f) (λ v f. gives (returns (Some v)) f)
  exec st sc (throw at e) f = and_then (value st sc e f) (λ v f. throws at v f)
  exec st sc (break at label) f = gives (breaks label) f
  exec st sc (continue at label) f = gives (continues label) f
  exec st sc (attempt at ss handler) f =
      rescued (exec_all st sc ss f) (λ v f. exec_all st (record sc { caught = Some v }) handler f)

  -- 12.1: statements in order
  pub exec_all : Setting → Scope → Stmts → Frame → Outcome Frame Flow
  exec_all st sc no_stmts f = gives onward f
  exec_all st sc (stmt s ss) f = and_then (exec st sc s f) (go_on (exec_all st sc ss))

  -- 12.5: what stands after the block of an `if` whose condition gave false
  pub exec_else : Setting → Scope → Else → Frame → Outcome Frame Flow
  exec_else st sc no_else f = gives onward f
  exec_else st sc (else_block ss) f = exec_all st sc ss f
  exec_else st sc (else_if at test ss other) f =
      and_then (condition st sc at test f) (λ t. choose t (exec_all st sc ss) (exec_else st sc other))

  -- 12.11: from the first case whose number the value is, else from `default`, on
  pub exec_cases : Setting → Scope → Cases → Value → Frame → Outcome Frame Flow
  exec_cases st sc no_cases v f = gives onward f
  exec_cases st sc (default ss) v f = exec_all st sc ss f
  exec_cases st sc (case n ss rest) v f =
      choose (same_value v (whole (pos n))) (λ f. and_then (exec_all st sc ss f) (go_on (exec_through st sc rest))) (exec_cases st sc rest v) f

  -- 12.11: the statements of every case from here on
  pub exec_through : Setting → Scope → Cases → Frame → Outcome Frame Flow
  exec_through st sc no_cases f = gives onward f
  exec_through st sc (default ss) f = exec_all st sc ss f
  exec_through st sc (case n ss rest) f = and_then (exec_all st sc ss f) (go_on (exec_through st sc rest))

abbrev mutual
  -- 10.5: the names that have a `var` in a statement
  pub declared : Stmt → List Name
  declared (declare at x e) = x ∷ []
  declared (branch at test ss other) = declared_all ss ++ declared_else other
  declared (while at label test ss) = declared_all ss
  declared (forever at label ss) = declared_all ss
  declared (switch at label e cases) = declared_cases cases
  declared (attempt at ss handler) = declared_all ss ++ declared_all handler
  declared _ = []

  pub declared_all : Stmts → List Name
  declared_all no_stmts = []
  declared_all (stmt s ss) = declared s ++ declared_all ss

  pub declared_else : Else → List Name
  declared_else no_else = []
  declared_else (else_block ss) = declared_all ss
  declared_else (else_if at test ss other) = declared_all ss ++ declared_else other

  pub declared_cases : Cases → List Name
  declared_cases no_cases = []
  declared_cases (default ss) = declared_all ss
  declared_cases (case n ss rest) = declared_all ss ++ declared_cases rest

-- 10.5: the parameters with their values
abbrev pub bound : List Name → List Value → Locals
bound (x ∷ xs) (v ∷ vs) = (x, v) ∷ bound xs vs
bound _ _ = []

-- 13.2.1: what a body comes to
abbrev pub call_result : Outcome Frame Flow → Called
call_result (gives (returns v) f) = gives v f.world
call_result (gives _ f) = gives None f.world
call_result (throws at v f) = throws at v f.world
call_result (over e w) = over e w

-- 10.5: a function's names: its parameters, and those that have a `var` in it
abbrev pub scope_of : Function → Scope
scope_of f = record { names = f.params ++ declared_all f.body; caught = None }

-- 13.2.1: what a function does with arguments, after the tick of its call
abbrev pub body_does : Setting → Function → List Value → World → Called
body_does st f vs w = call_result (exec_all st (scope_of f) f.body (frame (bound f.params vs) w))

-- own: calls nested at most so deep; each takes a tick, so that they never are deeper than there are ticks
abbrev pub enter_within : ScriptTree → List ℕ → ℕ → Function → List Value → World → Called
enter_within script choices zero f vs w = over Going w
enter_within script choices (suc n) f vs w =
    body_does (record { script = script; choices = choices; enter = enter_within script choices n }) f vs w

-- what parts of a script are evaluated with, where there are at most so many ticks
abbrev pub setting : ScriptTree → List ℕ → ℕ → Setting
setting script choices n = record { script = script; choices = choices; enter = enter_within script choices n }
