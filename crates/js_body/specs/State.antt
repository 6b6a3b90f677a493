-- The body of a function so far, without tables: the statements of its open blocks and the values on the stack, the last one first.
use Rattle.std.specs.Prelude.{ℕ, ℤ, zero, suc, ◌+◌, ◌-◌, ◌==◌, ◌&&◌, nat_lt, nat_le, min, List, [], ◌∷◌, ◌++◌, length, replicate, reverse, set, take, drop, get_or, slice_get, Bool, true, false, not, if◌then◌else◌, nat_eq, Option, Some, None, codes, bytes_eq, decimal}
use Rattle.std.specs.List.{list_any}
use Rattle.js_tree.specs.Script as script
use Rattle.js_tree.specs.Script.{Expr, Exprs, expr, Stmts, no_stmts, stmt}
use Rattle.js_pool.specs.Tree as tree
use Rattle.js_pool.specs.declared.pool.Mark.{Mark}
use Rattle.go_core.specs.declared.statement.Label.{Label}
use Rattle.go_core.specs.declared.tree.FuncId.{FuncId}
use Rattle.go_core.specs.declared.node.VarId.{VarId}
use Rattle.go_type.specs.declared.types.TypeId.{TypeId}
use Rattle.js_facts.specs.declared.facts.Facts.{Facts}
use Rattle.js_facts.specs.declared.facts.VarFact.{VarFact}
use Rattle.gj_base.specs.declared.kind.Kind.{Kind}
use Rattle.js_tree.specs.declared.tree.BinaryOp.TheVariants.{Same, Different, GreaterEqual, ShiftRightUnsigned}
use Rattle.js_facts.specs.Held.{How, truth, text, small, wide, how_held, is_block, is_signed, is_wide}
use Rattle.js_facts.specs.Vars.{var_fact}
use Rattle.js_body.specs.declared.body.Exits.{Exits}
use Rattle.js_body.specs.declared.body.Home.{Home}
use Rattle.js_body.specs.declared.slices.Noted.{Noted}
use Rattle.js_body.specs.declared.body.Known.{Known}
use Rattle.js_body.specs.declared.body.Known.TheVariants as known

-- a name of the compiler's own: a word, alone or with a number after it
pub data Word : Type 0 where
  alone : List ℕ → Word
  numbered : List ℕ → ℕ → Word

abbrev pub word_bytes : Word → List ℕ
word_bytes (alone w) = w
word_bytes (numbered w n) = w ++ decimal n

-- a statement of an open block: `var x = e;`, `x = e;`, or another one
pub data Line : Type 0 where
  declares : Word → Expr → Line
  assigns : Word → Expr → Line
  says : script.Stmt → Line

abbrev pub line_tree : Line → script.Stmt
line_tree (declares x e) = script.declare 0 (word_bytes x) e
line_tree (assigns x e) = script.assign 0 (word_bytes x) e
line_tree (says s) = s

-- the statements of a block, of which these are the last ones, before others
abbrev pub block_tree : List Line → Stmts → Stmts
block_tree [] ss = ss
block_tree (l ∷ ls) ss = block_tree ls (stmt (line_tree l) ss)

-- the expressions of a list, of which these are the last ones, before others
abbrev pub list_tree : List Expr → Exprs → Exprs
list_tree [] ts = ts
list_tree (u ∷ us) ts = list_tree us (expr u ts)

-- a value on the stack, with what is known of it before the script runs
pub record Value : Type 0 where
  pub tree : Expr
  pub known : Known

-- what a body knows besides: facts, its function, slots of variables, slices that are to be opened before a loop, labels
pub record Around : Type 0 where
  pub facts : Facts
  pub plain : Bool
  pub func : Option FuncId
  pub slots : List ℕ
  pub results : List Home
  pub defers : Bool
  pub mentions_results : Bool
  pub loops : ℕ
  pub opened : List Noted
  pub exits : List Exits
  pub next_case : ℕ
  pub next_slot : ℕ
  pub open_case : ℕ
  pub open_lines : Mark
  pub first_case : Mark
  pub adapters : ℕ

-- a case of a `switch`
pub record Arm : Type 0 where
  pub number : ℕ
  pub body : Stmts

-- the cases of a `switch`, of which these are the last ones, before others
abbrev pub cases_tree : List Arm → script.Cases → script.Cases
cases_tree [] ds = ds
cases_tree (a ∷ bs) ds = cases_tree bs (script.case a.number a.body ds)

-- all but the number of temporaries has the last one first; the expressions and the cases are those of lists that are open
pub record State : Type 0 where
  pub lines : List Line
  pub items : List Expr
  pub arms : List Arm
  pub stack : List Value
  pub temps : ℕ
  pub declared : List Bool
  pub around : Around

abbrev pub with_lines_of : List Line → State → State
with_lines_of ls s = record s { lines = ls }

-- the statements since a mark, and a state without them
abbrev pub lines_since : ℕ → State → List Line
lines_since mark s = take (length s.lines - mark) s.lines

abbrev pub cut_to : ℕ → State → State
cut_to mark s = with_lines_of (drop (length s.lines - mark) s.lines) s

abbrev pub with_items_of : List Expr → State → State
with_items_of ts s = record s { items = ts }

abbrev pub with_item : Expr → State → State
with_item t s = record s { items = t ∷ s.items }

abbrev pub with_arm : Arm → State → State
with_arm a s = record s { arms = a ∷ s.arms }

abbrev pub with_arms_of : List Arm → State → State
with_arms_of cs s = record s { arms = cs }

-- ---- how a body begins

-- nothing is known but what is around
abbrev pub empty : Around → State
empty near = record { lines = []; items = []; arms = []; stack = []; temps = 0; declared = []; around = near }

-- no function is begun yet
abbrev pub no_function : Facts → Around
no_function f = record {
  facts = f;
  plain = false;
  func = None;
  slots = [];
  results = [];
  defers = false;
  mentions_results = false;
  loops = 0;
  opened = [];
  exits = [];
  next_case = 2;
  next_slot = 8;
  open_case = 1;
  open_lines = record { 0 = 0 };
  first_case = record { 0 = 0 };
  adapters = 0;
}

-- a function begins, a plain one or a machine, whose cases begin at a mark
abbrev pub begun_near : Bool → Mark → Around → Around
begun_near b m near = record near {
  plain = b;
  func = None;
  results = [];
  defers = false;
  mentions_results = false;
  loops = 0;
  exits = [];
  next_case = 2;
  next_slot = 8;
  first_case = m;
}

abbrev pub mark_at : ℕ → Mark
mark_at n = record { 0 = n }

abbrev pub begun : Bool → State → State
begun b s = record s { stack = []; temps = 0; declared = []; around = begun_near b (mark_at (length s.arms)) s.around }

-- ---- the stack

abbrev pub no_value : Value
no_value = record { tree = tree.null; known = known.Nil }

abbrev pub first_value : List Value → Value
first_value [] = no_value
first_value (v ∷ vs) = v

abbrev pub rest_of : {A : Type 0} → List A → List A
rest_of [] = []
rest_of (v ∷ vs) = vs

abbrev pub depth : State → ℕ
depth s = length s.stack

abbrev pub last_value : State → Value
last_value s = first_value s.stack

abbrev pub popped : State → State
popped s = record s { stack = rest_of s.stack }

abbrev pub pushed_value : Value → State → State
pushed_value v s = record s { stack = v ∷ s.stack }

-- one more value, which is known before the script runs
abbrev pub pushed_known : Known → Expr → State → State
pushed_known k t s = pushed_value (record { tree = t; known = k }) s

-- a truth value, `null`, a number of up to 32 bits
abbrev pub truth_pushed : Bool → State → State
truth_pushed b s = pushed_known known.Constant (tree.boolean b) s

abbrev pub nil_pushed : State → State
nil_pushed s = pushed_known known.Nil tree.null s

abbrev pub number_pushed : ℤ → State → State
number_pushed n s = pushed_known (known.Number n) (tree.whole_tree n) s

-- ---- temporaries: the one with the number of its place on the stack holds a value

-- the greatest number is no temporary's
abbrev pub temp_number : ℕ → ℕ
temp_number place = if nat_lt place 4294967295 then place else 0

abbrev pub temp_word : ℕ → Word
temp_word place = numbered (codes "$t") (temp_number place)

abbrev pub temp_tree : ℕ → Expr
temp_tree place = tree.name (word_bytes (temp_word place))

abbrev pub with_line : Line → State → State
with_line l s = record s { lines = l ∷ s.lines }

-- whether a statement that sets the temporary of a place is to declare it
abbrev pub is_first : ℕ → State → Bool
is_first place s = s.around.plain && not (get_or s.declared place false)

-- declared up to a place, and there as told
abbrev pub marked : ℕ → Bool → List Bool → List Bool
marked place b ds = set (ds ++ replicate (place + 1 - length ds) false) place b

abbrev pub with_declared : ℕ → Bool → State → State
with_declared place b s = record s { declared = marked place b s.declared }

abbrev pub with_temp : ℕ → State → State
with_temp k s = record s { temps = if nat_le s.temps k then min (k + 1) 4294967295 else s.temps }

-- the first statement of a plain function that sets a temporary declares it
abbrev pub set_name : ℕ → Word → Expr → State → State
set_name place x t s =
    if is_first place s then with_line (declares x t) (with_declared place true s)
    else with_line (assigns x t) s

abbrev pub set_temp : ℕ → Expr → State → State
set_temp place t s = set_name place (temp_word place) t (with_temp (temp_number place) s)

-- one more value, in its temporary
abbrev pub pushed : Expr → State → State
pushed t s = pushed_known known.Nothing (temp_tree (depth s)) (set_temp (depth s) t s)

-- one more value, of which this is known
abbrev pub pushed_operand : Known → Expr → State → State
pushed_operand known.Nothing t s = pushed t s
pushed_operand k t s = pushed_known k t s

-- ---- the last statement, where it sets the temporary of the last value

abbrev pub is_temp : Word → ℕ → Bool
is_temp (alone w) place = false
is_temp (numbered w k) place = (k == place) && bytes_eq w (codes "$t")

abbrev pub set_by : ℕ → List Line → Option Expr
set_by place (declares x e ∷ ls) = if is_temp x place then Some e else None
set_by place (assigns x e ∷ ls) = if is_temp x place then Some e else None
set_by place _ = None

abbrev pub is_temporary : Known → Bool
is_temporary known.Nothing = true
is_temporary _ = false

abbrev pub set_last : State → Option Expr
set_last s = if is_temporary (last_value s).known then set_by (depth s - 1) s.lines else None

abbrev pub just_set : State → Option Expr
just_set s = if s.around.plain then set_last s else None

abbrev pub declares_first : List Line → Bool
declares_first (declares x e ∷ ls) = true
declares_first _ = false

abbrev pub dropped_line : State → State
dropped_line s = record s { lines = rest_of s.lines }

-- without the last statement, which sets the temporary of a place
abbrev pub unset : ℕ → State → State
unset place s = if declares_first s.lines then with_declared place false (dropped_line s) else dropped_line s

abbrev pub tree_or : Expr → Option Expr → Expr
tree_or t (Some e) = e
tree_or t None = t

-- the last value, for a statement right after that uses it once
abbrev pub taken_tree : State → Expr
taken_tree s = tree_or (last_value s).tree (just_set s)

abbrev pub taken_by : Option Expr → State → State
taken_by (Some e) s = unset (depth s) s
taken_by None s = s

abbrev pub taken : State → State
taken s = taken_by (just_set s) (popped s)

-- ---- `&&` and `||` of two sides that are one expression each

-- what the temporary of a place is set to by a block that does nothing else
abbrev pub only_set : ℕ → List Line → Option Expr
only_set place (assigns x e ∷ []) = if is_temp x place then Some e else None
only_set place _ = None

abbrev pub is_joined : Expr → Bool
is_joined (script.both at a b) = true
is_joined (script.either at a b) = true
is_joined _ = false

abbrev pub can_join : Expr → Expr → Bool
can_join t u = not (is_joined t) && not (is_joined u)

abbrev pub joined_tree : Bool → Expr → Expr → Expr
joined_tree both t u = if both then tree.both t u else tree.either t u

abbrev pub may_join : Option Expr → Option Expr → Bool
may_join (Some t) (Some u) = can_join t u
may_join (Some t) None = false
may_join None z = false

abbrev pub set_joined : ℕ → Bool → Expr → Expr → State → State
set_joined place both t u s = set_temp place (joined_tree both t u) (unset place s)

abbrev pub sides_joined : ℕ → Bool → Option Expr → Option Expr → State → State
sides_joined place both (Some t) (Some u) s = if can_join t u then set_joined place both t u s else s
sides_joined place both (Some t) None s = s
sides_joined place both None z s = s

-- the last value with what a block of these statements sets it to, where that is all that the block does
abbrev pub is_join : List Line → State → Bool
is_join ls s = may_join (just_set s) (only_set (depth s - 1) ls)

abbrev pub joined : Bool → List Line → State → State
joined both ls s = sides_joined (depth s - 1) both (just_set s) (only_set (depth s - 1) ls) s

-- ---- an operand of a call: no call stands in it

abbrev pub is_operation : Expr → Bool
is_operation (script.unary at op a) = true
is_operation (script.binary at op a b) = true
is_operation (script.index at a b) = true
is_operation (script.length_of at a) = true
is_operation _ = false

abbrev pub is_taken : Option Expr → Bool
is_taken (Some t) = is_operation t
is_taken None = false

abbrev pub operand_tree : State → Expr
operand_tree s = if is_taken (just_set s) then taken_tree s else (last_value s).tree

abbrev pub operand_taken : State → State
operand_taken s = if is_taken (just_set s) then taken s else popped s

-- ---- constants and variables on the stack become temporaries

abbrev pub is_variable : Known → Bool
is_variable known.Variable = true
is_variable _ = false

abbrev pub settled_value : Value → State → State
settled_value v s = if is_temporary v.known then pushed_value v s else pushed v.tree s

abbrev pub settled : State → State
settled s = settled_value (last_value s) (popped s)

-- unless it is a variable
abbrev pub constant_settled : State → State
constant_settled s = if is_variable (last_value s).known then s else settled s

-- a temporary above all values is set
abbrev pub scratched : Expr → State → State
scratched t s = popped (pushed t s)

-- ---- values by their places, the first one at 0

abbrev pub value_at : ℕ → State → Value
value_at place s = get_or (reverse s.stack) place no_value

-- the values before a place alone
abbrev pub dropped_to : ℕ → State → State
dropped_to place s = record s { stack = reverse (take place (reverse s.stack)) }

abbrev pub with_value : ℕ → Value → State → State
with_value place v s = record s { stack = reverse (set (reverse s.stack) place v) }

-- the temporary of a value is set anew
abbrev pub set_value : ℕ → Expr → State → State
set_value place t s = with_value place (record { tree = temp_tree place; known = known.Nothing }) (set_temp place t s)

abbrev pub settled_at : ℕ → State → State
settled_at place s = if is_variable (value_at place s).known then set_value place (value_at place s).tree s else s

abbrev pub settled_upto : ℕ → State → State
settled_upto zero s = s
settled_upto (suc n) s = settled_at n (settled_upto n s)

-- values that are variables become temporaries
abbrev pub variables_settled : State → State
variables_settled s = settled_upto (depth s) s

-- ---- run-time panics

abbrev pub panic_line : Expr → Line
panic_line t = says (script.perform 0 (tree.call (tree.name (codes "$panic")) (tree.list1 t)))

-- a value is thrown as a panic
abbrev pub panicked : Expr → State → State
panicked t s = with_line (panic_line t) s

-- the value of the run-time panic with a number
abbrev pub panic_tree : ℕ → Expr
panic_tree n = tree.name (codes "$p" ++ decimal n)

-- that panic where a test holds
abbrev pub panicked_if : ℕ → Expr → State → State
panicked_if n t s = with_line (says (script.branch 0 t (block_tree (panic_line (panic_tree n) ∷ []) no_stmts) script.no_else)) s

-- a panic where a value is nil
abbrev pub nil_refused : Expr → State → State
nil_refused t s = panicked_if 2 (tree.binary Same t tree.null) s

-- ---- indexes

-- the decimal text of a number
abbrev pub told_tree : Kind → Expr → Expr
told_tree k t = if is_wide k then tree.call (tree.name (codes "$str64")) (tree.list2 t (tree.boolean (is_signed k))) else tree.decimal_of t

abbrev pub wide_outside_tree : Expr → Expr → Expr
wide_outside_tree t u = tree.either (tree.binary Different (tree.index t (tree.number 0)) (tree.number 0)) (tree.binary GreaterEqual (tree.index t (tree.number 1)) u)

abbrev pub signed_outside_tree : Expr → Expr → Expr
signed_outside_tree t u = tree.binary GreaterEqual (tree.binary ShiftRightUnsigned t (tree.number 0)) u

-- whether an index isn't below a length
abbrev pub outside_tree : Kind → Expr → Expr → Expr
outside_tree k t u = if is_wide k then wide_outside_tree t u else (if is_signed k then signed_outside_tree t u else tree.binary GreaterEqual t u)

-- the number that an index is
abbrev pub within_tree : Kind → Expr → Expr
within_tree k t = if is_wide k then tree.index t (tree.number 1) else t

abbrev pub index_line : Kind → Expr → Expr → Line
index_line k t u = says (script.perform 0 (tree.call (tree.name (codes "$index")) (tree.list2 (told_tree k t) u)))

-- the panic of an index that isn't below a length
abbrev pub index_told : Kind → Expr → Expr → State → State
index_told k t u s = with_line (index_line k t u) s

-- that panic where a test holds
abbrev pub index_panicked_if : Kind → Expr → Expr → Expr → State → State
index_panicked_if k test t u s = with_line (says (script.branch 0 test (block_tree (index_line k t u ∷ []) no_stmts) script.no_else)) s

-- that panic where it isn't
abbrev pub index_refused : Kind → Expr → Expr → State → State
index_refused k t u s = index_panicked_if k (outside_tree k t u) t u s

-- ---- numbers of slots, of cases and of labels

abbrev pub with_around : Around → State → State
with_around near s = record s { around = near }

abbrev pub next_slot : State → ℕ
next_slot s = s.around.next_slot

abbrev pub with_slots : ℕ → State → State
with_slots n s = with_around (record (s.around) { next_slot = min (s.around.next_slot + n) 4294967295 }) s

abbrev pub next_case : State → ℕ
next_case s = s.around.next_case

abbrev pub with_cases : ℕ → State → State
with_cases n s = with_around (record (s.around) { next_case = min (s.around.next_case + n) 4294967295 }) s

-- ---- frames that call plain functions

-- one for so many arguments is needed
abbrev pub more_adapters : ℕ → ℕ → ℕ
more_adapters n adapters = if nat_le adapters n then min (n + 1) 4294967295 else adapters

abbrev pub adapted : ℕ → State → State
adapted n s = with_around (record (s.around) { adapters = more_adapters n s.around.adapters }) s

-- ---- loops

abbrev pub looped : State → State
looped s = with_around (record (s.around) { loops = min (s.around.loops + 1) 4294967295 }) s

abbrev pub unlooped : State → State
unlooped s = with_around (record (s.around) { loops = s.around.loops - 1 }) s

-- ---- the labels around, the innermost one last

abbrev pub entered : Label → ℕ → ℕ → State → State
entered l after next s = with_around (record (s.around) { exits = s.around.exits ++ record { label = l; after = after; next = next; continued = false } ∷ [] }) s

abbrev pub no_exit : Label → Exits
no_exit l = record { label = l; after = 0; next = 0; continued = false }

abbrev pub exits_among : Label → List Exits → Exits
exits_among l [] = no_exit l
exits_among l (e ∷ es) = if nat_eq e.label.0 l.0 then e else exits_among l es

-- where branches to a label lead
abbrev pub exits_of : Label → State → Exits
exits_of l s = exits_among l s.around.exits

-- a branch goes on with the next turn of a label's loop
abbrev pub gone_on : Label → Exits → Exits
gone_on l e = if nat_eq e.label.0 l.0 then record e { continued = true } else e

abbrev pub gone_on_at : Label → ℕ → List Exits → List Exits
gone_on_at l n es = set es n (gone_on l (get_or es n (no_exit l)))

abbrev pub continued_upto : Label → ℕ → State → State
continued_upto l zero s = s
continued_upto l (suc n) s =
    let r = continued_upto l n s in
    with_around (record (r.around) { exits = gone_on_at l n r.around.exits }) r

abbrev pub continued : Label → State → State
continued l s = continued_upto l (length s.around.exits) s

abbrev pub was_continued : Option Exits → Bool
was_continued (Some e) = e.continued
was_continued None = false

abbrev pub is_continued : State → Bool
is_continued s = was_continued (slice_get s.around.exits (length s.around.exits - 1))

abbrev pub left : State → State
left s = with_around (record (s.around) { exits = take (length s.around.exits - 1) s.around.exits }) s

-- ---- slots: elements of the frame in a machine, variables of the script in a plain function

abbrev pub frame_tree : Expr
frame_tree = tree.name (codes "$f")

abbrev pub var_word : ℕ → Word
var_word n = numbered (codes "$v") n

-- what stands in a slot
abbrev pub slot_tree : ℕ → State → Expr
slot_tree n s = if s.around.plain then tree.name (word_bytes (var_word n)) else tree.index frame_tree (tree.number n)

abbrev pub has_slot : ℕ → List Home → Bool
has_slot n homes = list_any (λ (h : Home). nat_eq h.slot n) homes

-- a plain function notes that it mentions a result
abbrev pub noted : ℕ → Around → Around
noted n near = record near { mentions_results = if has_slot n near.results then true else near.mentions_results }

abbrev pub mentioned : ℕ → State → State
mentioned n s = with_around (noted n s.around) s

abbrev pub slot_read : ℕ → State → State
slot_read n s = if s.around.plain then mentioned n s else s

abbrev pub slot_set : ℕ → Expr → State → State
slot_set n t s =
    if s.around.plain then with_line (assigns (var_word n) t) (mentioned n s)
    else with_line (says (script.store 0 frame_tree (tree.number n) t)) s

-- the first time: a plain function declares it
abbrev pub slot_begun : ℕ → Expr → State → State
slot_begun n t s = if s.around.plain then with_line (declares (var_word n) t) s else slot_set n t s

-- ---- types, as the program's table has them

abbrev pub held_type : TypeId → State → How
held_type t s = how_held s.around.facts.«program».now.types t

-- ---- variables: one that is boxed stands in an array of its own

abbrev pub home_at : VarFact → Bool → ℕ → Home
home_at f boxed slot = record { ty = f.ty; boxed = boxed; slot = slot }

abbrev pub home_with : VarFact → Bool → ℕ → Home
home_with f block slot = home_at f (f.boxed && not block) slot

abbrev pub home_near : VarFact → State → Home
home_near f s = home_with f (is_block (held_type f.ty s)) (get_or s.around.slots f.number 0)

abbrev pub home_of : VarId → State → Home
home_of v s = home_near (var_fact s.around.facts v) s

-- the value of a variable
abbrev pub var_tree : Home → State → Expr
var_tree h s = if h.boxed then tree.index (slot_tree h.slot s) (tree.number 0) else slot_tree h.slot s

-- what stands in the slot of a fresh variable
abbrev pub fresh_tree : Bool → Expr → Expr
fresh_tree boxed t = if boxed then tree.array (tree.list1 t) else t

-- a fresh variable with a value
abbrev pub bound : Home → Expr → State → State
bound h t s = slot_begun h.slot (fresh_tree h.boxed t) s

-- the zero value of what is no struct or array
abbrev pub wide_zero_tree : Expr
wide_zero_tree = tree.array (tree.list2 (tree.number 0) (tree.number 0))

abbrev pub zero_tree : How → Expr
zero_tree truth = tree.boolean false
zero_tree text = tree.string []
zero_tree (small k) = tree.number 0
zero_tree (wide k) = wide_zero_tree
zero_tree _ = tree.null

abbrev pub zero_of : TypeId → State → Expr
zero_of t s = zero_tree (held_type t s)

-- a fresh variable at zero
abbrev pub var_declared : VarId → State → State
var_declared v s = bound (home_of v s) (zero_of (home_of v s).ty s) s
