-- Go specification (as of Go 1.17), "If statements", "For statements", "Switch statements", "Break statements",
-- "Continue statements", "Fallthrough statements", "Logical operators": what remains.
use Rattle.std.specs.Prelude.{ℕ, suc, ◌+◌, ◌*◌, ◌==◌, pos, negsuc, List, [], ◌∷◌, Bool, true, false, ◌&&◌, ◌||◌, not, if◌then◌else◌, nat_lt, nat_le, Option, Some, None, slice_get, take, drop, option_and_then}
use Rattle.go_type.specs.Tree.{Ty, int, str, array, slice, pointer, mapping}
use Rattle.go_type.specs.Underlying.{underlying}
use Rattle.go_core.specs.Layout.{shape_of, size, weight}
use Rattle.go_core.specs.Memory as cell
use Rattle.go_core.specs.Memory.{Value, Memory, Entry, MapState, with_written, read_cells}
use Rattle.go_core.specs.CoreTree.{Expr, Bound, no_bound, bound, Stmts, Tests, Clauses, BranchKind, break_, continue_, Var, CoreProgram}
use Rattle.go_core.specs.RunPanic.{nil_used}
use Rattle.go_core.specs.Text.{rune_of}
use Rattle.go_core.specs.StepMemory.{count_of}
use Rattle.go_core.specs.StepMaps.{entries_at}
use Rattle.go_core.specs.Opened.{evaluated, all_opened, loop_opened, tests_opened, clause_opened}
use Rattle.go_core.specs.Goroutine.{Task, turn_again, leave, next_range, Cursor, numbers, copied, elements, characters, entries, Ranged, Frame, Place, State, base_in, moved, with_memory}
use Rattle.go_core.specs.Frames.{panic_step, on_operand, with_more}

-- the frame with tasks before what remains
abbrev pub with_first : (List Task → List Task) → Frame → Frame
with_first first f = record f { tasks = first f.tasks }

-- a truth value chooses
abbrev pub with_choice : (Bool → Frame → Option State) → Value → Frame → Option State
with_choice k (cell.truth b ∷ []) f = k b f
with_choice k _ f = None

abbrev pub on_choice : Frame → (Bool → Frame → Option State) → Option State
on_choice f k = on_operand f (with_choice k)

-- ---- branches

-- after the statement with this label
abbrev pub left : ℕ → List Task → List Task
left label [] = []
left label (leave l ∷ ts) = if l == label then ts else left label ts
left label (turn_again l c b p ∷ ts) = if l == label then ts else left label ts
left label (next_range r c ∷ ts) = if r.label == label then ts else left label ts
left label (t ∷ ts) = left label ts

-- at the next turn of the loop with this label
abbrev pub continued : ℕ → List Task → List Task
continued label [] = []
continued label (turn_again l c b p ∷ ts) = if l == label then turn_again l c b p ∷ ts else continued label ts
continued label (next_range r c ∷ ts) = if r.label == label then next_range r c ∷ ts else continued label ts
continued label (t ∷ ts) = continued label ts

abbrev pub branched : BranchKind → ℕ → List Task → List Task
branched break_ label ts = left label ts
branched continue_ label ts = continued label ts

module _ (p : CoreProgram) (g : ℕ) where
  abbrev pub go_on : (List Task → List Task) → ℕ → Frame → List Frame → State → Option State
  go_on first units f below s = Some (moved g (with_first first f ∷ below) (1 + units) s)

  -- ---- "Logical operators"

  abbrev pub right_or : Bool → Bool → Expr → Frame → List Frame → State → Option State
  right_or true value right f below s = go_on (evaluated right) 0 f below s
  right_or false value right f below s = Some (moved g (with_more ((cell.truth value ∷ []) ∷ []) f ∷ below) 1 s)

  abbrev pub where_true_step : Expr → Frame → List Frame → State → Option State
  where_true_step right f below s = on_choice f λ b f'. right_or b false right f' below s

  abbrev pub where_false_step : Expr → Frame → List Frame → State → Option State
  where_false_step right f below s = on_choice f λ b f'. right_or (not b) true right f' below s

  -- ---- if and for

  abbrev pub choose_step : Stmts → Stmts → Frame → List Frame → State → Option State
  choose_step a b f below s = on_choice f λ c f'. go_on (all_opened (if c then a else b)) 0 f' below s

  abbrev pub turn_body : ℕ → Bound → Stmts → Stmts → Frame → List Frame → State → Option State
  turn_body label c body post f below s = go_on (λ rest. all_opened body (turn_again label c body post ∷ rest)) 0 f below s

  abbrev pub turned : Bool → ℕ → Bound → Stmts → Stmts → Frame → List Frame → State → Option State
  turned true label c body post f below s = turn_body label c body post f below s
  turned false label c body post f below s = Some (moved g (f ∷ below) 1 s)

  -- a missing condition is true
  abbrev pub turn_step : ℕ → Bound → Stmts → Stmts → Frame → List Frame → State → Option State
  turn_step label no_bound body post f below s = turn_body label no_bound body post f below s
  turn_step label (bound e) body post f below s = on_choice f λ c f'. turned c label (bound e) body post f' below s

  -- the post statement, and then the condition again
  abbrev pub again_step : ℕ → Bound → Stmts → Stmts → Frame → List Frame → State → Option State
  again_step label c body post f below s = go_on (λ rest. all_opened post (loop_opened label c body post rest)) 0 f below s

  -- ---- switch

  abbrev pub clause_or_next : Bool → ℕ → Tests → Clauses → Option ℕ → Frame → List Frame → State → Option State
  clause_or_next true n ts clauses default_ f below s = go_on (clause_opened clauses n) 1 f below s
  clause_or_next false n ts clauses default_ f below s = go_on (tests_opened ts clauses default_) 1 f below s

  abbrev pub clause_step : ℕ → Tests → Clauses → Option ℕ → Frame → List Frame → State → Option State
  clause_step n ts clauses default_ f below s = on_choice f λ c f'. clause_or_next c n ts clauses default_ f' below s

  abbrev pub default_step : Clauses → Option ℕ → Frame → List Frame → State → Option State
  default_step _ None f below s = go_on (λ rest. rest) 0 f below s
  default_step clauses (Some n) f below s = go_on (clause_opened clauses n) 0 f below s

  -- ---- "For statements with range clause"

  abbrev pub over_array : Ty → Value → ℕ → Option Cursor
  over_array (array n t) (cell.pointer base ∷ []) next = Some (elements next n base)
  over_array (array n t) (cell.nil ∷ []) next = Some (numbers 0 0)
  over_array _ x next = None

  -- before the first of a map's entries
  abbrev pub births_of : ℕ → Option MapState → Option Cursor
  births_of name None = None
  births_of name (Some st) = Some (entries (Some name) [] st.next_birth)

  -- nothing where it is nil
  abbrev pub cursor_of : Ty → Value → Memory → Option Cursor
  cursor_of (int name) (cell.whole (pos n) ∷ []) m = Some (numbers 0 n)
  cursor_of (int name) (cell.whole (negsuc n) ∷ []) m = Some (numbers 0 0)
  cursor_of (array n t) x m = Some (copied 0 (if n == 0 then [] else x))
  cursor_of (pointer t) x m = over_array (underlying p.names t) x 0
  cursor_of (slice t) (cell.slice base len capacity ∷ []) m = Some (elements 0 len base)
  cursor_of (slice t) (cell.nil ∷ []) m = Some (numbers 0 0)
  cursor_of str (cell.text bytes ∷ []) m = Some (characters 0 bytes)
  cursor_of (mapping k v) (cell.map name ∷ []) m = births_of name (slice_get m.maps name)
  cursor_of (mapping k v) (cell.nil ∷ []) m = Some (entries None [] 0)
  cursor_of _ x m = None

  -- the array that a nil pointer points to has no elements to go over, unless it has none at all
  abbrev pub is_nil_array : Ty → Value → Bool
  is_nil_array (pointer t) (cell.nil ∷ []) = not (count_of (underlying p.names t) == 0)
  is_nil_array _ x = false

  abbrev pub range_begun : Option Cursor → Ranged → Frame → List Frame → State → Option State
  range_begun None r f below s = None
  range_begun (Some c) r f below s = go_on (λ rest. next_range r c ∷ rest) 0 f below s

  abbrev pub begun_with : Bool → Value → Ranged → Frame → List Frame → State → Option State
  begun_with true x r f below s = panic_step p.hidden g nil_used 0 f below s
  begun_with false x r f below s = range_begun (cursor_of (underlying p.names r.from) x s.memory) r f below s

  -- the expression is evaluated once
  abbrev pub begin_range_step : Ranged → Frame → List Frame → State → Option State
  begin_range_step r f below s = on_operand f λ x f'. begun_with (is_nil_array (underlying p.names r.from) x) x r f' below s

  -- the next key and value, if any, and how far the range has come then
  pub data Next : Type 0 where
    next : (key value : Value) (cursor : Cursor) → Next
    over : Next
    -- Go doesn't let it go on in this way
    not_so : Next

  abbrev pub number_value : ℕ → Value
  number_value n = cell.whole (pos n) ∷ []

  abbrev pub target_size : Ty → ℕ
  target_size (array n u) = size (shape_of p.names u)
  target_size _ = 1

  abbrev pub element_size : Ty → ℕ
  element_size (array n t) = size (shape_of p.names t)
  element_size (slice t) = size (shape_of p.names t)
  element_size (pointer t) = target_size (underlying p.names t)
  element_size _ = 1

  abbrev pub is_in : ℕ → List ℕ → Bool
  is_in n [] = false
  is_in n (m ∷ ms) = (n == m) || is_in n ms

  -- an entry that is there and not yet produced
  abbrev pub entry_born : ℕ → List ℕ → List Entry → Option Entry
  entry_born birth produced [] = None
  entry_born birth produced (e ∷ es) =
      if (e.birth == birth) && not (is_in birth produced) then Some e else entry_born birth produced es

  -- each entry that is there was produced, or born since
  abbrev pub all_produced : List ℕ → ℕ → List Entry → Bool
  all_produced produced since [] = true
  all_produced produced since (e ∷ es) = (is_in e.birth produced || nat_le since e.birth) && all_produced produced since es

  abbrev pub entries_of : Option ℕ → Memory → List Entry
  entries_of None m = []
  entries_of (Some name) m = entries_at (cell.map name ∷ []) m

  abbrev pub entry_next : Option ℕ → ℕ → List ℕ → ℕ → Option Entry → Next
  entry_next name birth produced since None = not_so
  entry_next name birth produced since (Some e) = next e.key e.value (entries name (birth ∷ produced) since)

  -- the order of a map is free
  abbrev pub next_entry : Option ℕ → Option ℕ → List ℕ → ℕ → Memory → Next
  next_entry None name produced since m = if all_produced produced since (entries_of name m) then over else not_so
  next_entry (Some birth) name produced since m = entry_next name birth produced since (entry_born birth produced (entries_of name m))

  abbrev pub next_character : ℕ → List ℕ → Next
  next_character offset [] = over
  next_character offset (b ∷ bs) =
      let r = rune_of b bs in next (number_value offset) (number_value r.code) (characters (offset + r.width) (drop r.width (b ∷ bs)))

  abbrev pub next_of : Ty → Option ℕ → Cursor → Memory → Next
  next_of t birth (numbers i n) m = if nat_lt i n then next (number_value i) (number_value i) (numbers (suc i) n) else over
  next_of t birth (copied i []) m = over
  next_of t birth (copied i (x ∷ xs)) m =
      next (number_value i) (take (element_size t) (x ∷ xs)) (copied (suc i) (drop (element_size t) (x ∷ xs)))
  next_of t birth (elements i n base) m =
      if nat_lt i n
      then next (number_value i) (read_cells (base + i * element_size t) (element_size t) m.cells) (elements (suc i) n base)
      else over
  next_of t birth (characters offset bytes) m = next_character offset bytes
  next_of t birth (entries name produced since) m = next_entry birth name produced since m

  abbrev pub var_written : Option Var → Value → List Place → Memory → Option Memory
  var_written None x places m = Some m
  var_written (Some v) x places m = option_and_then (λ b. Some (with_written m b x)) (base_in v.id places)

  abbrev pub var_weight : Option Var → ℕ
  var_weight None = 0
  var_weight (Some v) = weight (shape_of p.names v.type_)

  abbrev pub range_turn : Option Memory → Ranged → Cursor → Frame → List Frame → State → Option State
  range_turn None r c f below s = None
  range_turn (Some m) r c f below s =
      option_and_then (λ s'. Some (with_memory m s')) (go_on (λ rest. all_opened r.body (next_range r c ∷ rest)) (var_weight r.key + var_weight r.value) f below s)

  abbrev pub range_on : Next → Ranged → Frame → List Frame → State → Option State
  range_on (next k v c) r f below s =
      range_turn (option_and_then (var_written r.value v f.places) (var_written r.key k f.places s.memory)) r c f below s
  range_on over r f below s = Some (moved g (f ∷ below) 1 s)
  range_on not_so r f below s = None

  abbrev pub next_range_step : Option ℕ → Ranged → Cursor → Frame → List Frame → State → Option State
  next_range_step birth r c f below s = range_on (next_of (underlying p.names r.from) birth c s.memory) r f below s
