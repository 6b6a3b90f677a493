-- Control of a plain function: what statements make of a body's state.
use Rattle.std.specs.Prelude.{ℕ, zero, suc, take, drop, ◌+◌, ◌-◌, ◌&&◌, ◌++◌, min, nat_eq, nat_lt, List, [], ◌∷◌, length, Bool, true, false, not, if◌then◌else◌, Option, Some, None, codes, decimal}
use Rattle.std.specs.List.{slice_get}
use Rattle.js_tree.specs.Script as script
use Rattle.js_tree.specs.Script.{Expr, no_exprs, Stmts, no_stmts}
use Rattle.js_tree.specs.declared.tree.UnaryOp.TheVariants.{Not}
use Rattle.js_pool.specs.Tree as tree
use Rattle.js_pool.specs.StmtTree.{else_tree}
use Rattle.js_pool.specs.declared.pool.Mark.{Mark}
use Rattle.go_core.specs.declared.statement.Label.{Label}
use Rattle.go_core.specs.declared.statement.BranchKind.{BranchKind}
use Rattle.go_core.specs.declared.statement.BranchKind.TheVariants as kind
use Rattle.js_facts.specs.declared.facts.Facts.{Facts}
use Rattle.js_facts.specs.Held.{is_block, how_held}
use Rattle.js_body.specs.declared.body.Exits.{Exits}
use Rattle.js_body.specs.declared.body.Home.{Home}
use Rattle.js_body.specs.State.{State, Line, Arm, says, block_tree, cases_tree, with_arm, with_arms_of, lines_since, cut_to, with_line, mark_at, taken, taken_tree, next_case, with_cases, looped, unlooped, entered, left, is_continued, exits_of, continued, scratched, depth, list_tree, with_item, with_items_of, value_at, dropped_to, var_tree, slot_read}
use Rattle.js_plain.specs.declared.control.If.{If}
use Rattle.js_plain.specs.declared.control.Labeled.{Labeled}
use Rattle.js_plain.specs.declared.control.Turns.{Turns}
use Rattle.js_plain.specs.declared.control.Clauses.{Clauses}

-- ---- labels

abbrev pub label_bytes : ℕ → List ℕ
label_bytes n = codes "$L" ++ decimal n

-- what has a label is left
abbrev pub leave_line : ℕ → Line
leave_line n = says (script.break 0 (Some (label_bytes n)))

abbrev pub left_at : ℕ → State → State
left_at n s = with_line (leave_line n) s

abbrev pub when_line : Expr → List Line → Line
when_line t ls = says (script.branch 0 t (block_tree ls no_stmts) script.no_else)

-- where a test holds
abbrev pub left_where : ℕ → Expr → State → State
left_where n t s = with_line (when_line t (leave_line n ∷ [])) s

-- where the last value doesn't hold
abbrev pub left_unless : ℕ → State → State
left_unless n s = left_where n (tree.unary Not (taken_tree s)) (taken s)

-- a block that `break` with a label leaves
abbrev pub block_line : ℕ → List Line → Line
block_line n ls = says (script.switch 0 (Some (label_bytes n)) (tree.number 0) (script.case 0 (block_tree ls no_stmts) script.no_cases))

-- the statements since a mark become such a block
abbrev pub closed_at : ℕ → ℕ → State → State
closed_at mark n s = with_line (block_line n (lines_since mark s)) (cut_to mark s)

-- ---- blocks that `break` leaves

abbrev pub labeled_with : ℕ → Mark → Labeled
labeled_with end mark = record { end = end; mark = mark }

abbrev pub labeled_at : State → Labeled
labeled_at s = labeled_with (next_case s) (mark_at (length s.lines))

abbrev pub labeled_begun : Label → State → State
labeled_begun l s = entered l (next_case s) (next_case s) (with_cases 1 s)

abbrev pub labeled_ended : Labeled → State → State
labeled_ended l s = closed_at l.mark.0 l.end (left s)

-- ---- ifs

abbrev pub is_none : Option ℕ → Bool
is_none None = true
is_none (Some n) = false

abbrev pub begins_chain : Option ℕ → Bool → Bool
begins_chain around goes_on = goes_on && is_none around

-- the label of the block around the chain
abbrev pub chain_label : Option ℕ → Bool → State → Option ℕ
chain_label around begins s = if begins then Some (next_case s) else around

abbrev pub chain_labelled : Bool → State → State
chain_labelled begins s = if begins then with_cases 1 s else s

abbrev pub chain_end : Option ℕ → Bool → State → Option ℕ
chain_end around goes_on s = chain_label around (begins_chain around goes_on) s

abbrev pub chain_begun : Option ℕ → Bool → State → State
chain_begun around goes_on s = chain_labelled (begins_chain around goes_on) s

abbrev pub if_with : Bool → Option ℕ → Mark → If
if_with begins end mark = record { end = end; begins = begins; mark = mark }

abbrev pub if_begun : Option ℕ → Bool → State → If
if_begun around goes_on s = if_with (begins_chain around goes_on) (chain_end around goes_on s) (mark_at (length s.lines))

-- the chain is left after an arm
abbrev pub arm_left : Option ℕ → State → State
arm_left None s = s
arm_left (Some n) s = left_at n s

abbrev pub said_where : Option ℕ → Expr → List Line → State → State
said_where None t ls s = s
said_where (Some n) t ls s = with_line (when_line t ls) s

abbrev pub arm_lines : If → ℕ → State → List Line
arm_lines c mark s = lines_since mark (arm_left c.end s)

abbrev pub arm_ended : If → Expr → ℕ → State → State
arm_ended c t mark s = said_where c.end t (arm_lines c mark s) (cut_to mark (arm_left c.end s))

abbrev pub else_line : Expr → List Line → List Line → Line
else_line t ls os = says (script.branch 0 t (block_tree ls no_stmts) (else_tree (block_tree os no_stmts)))

abbrev pub if_line : Expr → List Line → List Line → Line
if_line t ls [] = when_line t ls
if_line t ls (o ∷ os) = else_line t ls (o ∷ os)

abbrev pub chain_ended : If → ℕ → State → State
chain_ended c n s = if c.begins then closed_at c.mark.0 n s else s

abbrev pub if_ended_by : Option ℕ → If → Expr → List Line → ℕ → State → State
if_ended_by (Some n) c t ls mark s = chain_ended c n s
if_ended_by None c t ls mark s = with_line (if_line t ls (lines_since mark s)) (cut_to mark s)

abbrev pub if_ended : If → Expr → List Line → ℕ → State → State
if_ended c t ls mark s = if_ended_by c.end c t ls mark s

-- ---- loops

abbrev pub turn_next : Bool → ℕ → ℕ
turn_next has_post end = if has_post then min (end + 1) 4294967295 else end

abbrev pub turns_of : ℕ → Mark → ℕ → Turns
turns_of end mark next = record { end = end; next = next; mark = mark }

abbrev pub turns_with : Bool → ℕ → Mark → Turns
turns_with has_post end mark = turns_of end mark (turn_next has_post end)

abbrev pub turns_begun : Bool → State → Turns
turns_begun has_post s = turns_with has_post (next_case s) (mark_at (length s.lines))

abbrev pub loop_begun : State → State
loop_begun s = with_cases 2 (looped s)

abbrev pub turn_begun : Label → Turns → State → State
turn_begun l t s = entered l t.end t.next s

-- a turn that goes on with what follows it is a block
abbrev pub block_turn : Turns → Bool → Bool
block_turn l goes_on = goes_on && not (nat_eq l.next l.end)

abbrev pub is_block_turn : Turns → State → Bool
is_block_turn l s = block_turn l (is_continued s)

abbrev pub turn_ended : Turns → ℕ → State → State
turn_ended l mark s = if is_block_turn l s then closed_at mark l.next (left s) else left s

abbrev pub loop_line : ℕ → List Line → Line
loop_line n ls = says (script.forever 0 (Some (label_bytes n)) (block_tree ls no_stmts))

abbrev pub loop_ended : Turns → State → State
loop_ended l s = with_line (loop_line l.end (lines_since l.mark.0 s)) (unlooped (cut_to l.mark.0 s))

-- ---- branches

abbrev pub again_line : ℕ → Line
again_line n = says (script.continue 0 (Some (label_bytes n)))

abbrev pub gone_on_to : Exits → State → State
gone_on_to e s = if nat_eq e.next e.after then with_line (again_line e.after) s else left_at e.next s

abbrev pub branched_by : BranchKind → Exits → Label → State → State
branched_by kind.Break e l s = left_at e.after s
branched_by kind.Continue e l s = gone_on_to e (continued l s)

abbrev pub branched : BranchKind → Label → State → State
branched k l s = branched_by k (exits_of l s) l s

-- ---- clauses

abbrev pub counted : ℕ → ℕ
counted many = if nat_lt many 4294967295 then many else 0

abbrev pub clauses_at : ℕ → ℕ → ℕ → Mark → Clauses
clauses_at chosen end many mark = record { chosen = chosen; end = end; many = many; mark = mark }

abbrev pub choice_begun : ℕ → State → Clauses
choice_begun many s = clauses_at (next_case s) (min (next_case s + 1) 4294967295) (counted many) (mark_at (length s.lines))

-- the number of the chosen clause stands in the first temporary
abbrev pub chosen_set : ℕ → State → State
chosen_set n s = scratched (tree.number n) s

abbrev pub choice_said : Clauses → ℕ → State → State
choice_said c n s = left_at c.chosen (chosen_set n s)

abbrev pub chosen_by : Clauses → ℕ → Expr → State → State
chosen_by c n t s = with_line (when_line t (lines_since (length s.lines) (choice_said c n s))) (cut_to (length s.lines) (choice_said c n s))

-- a clause is chosen where the last value holds
abbrev pub chosen : Clauses → ℕ → State → State
chosen c n s = chosen_by c n (taken_tree s) (taken s)

abbrev pub default_of : Option ℕ → ℕ → ℕ
default_of None many = many
default_of (Some n) many = n

-- the default is chosen where nothing was
abbrev pub choice_ended : Clauses → ℕ → State → State
choice_ended c n s = closed_at c.mark.0 c.chosen (chosen_set n s)

abbrev pub clause_begun : Clauses → Label → State → State
clause_begun c l s = entered l c.end c.end s

abbrev pub clause_left : Clauses → Bool → State → State
clause_left c falls_through s = if falls_through then left s else left_at c.end (left s)

abbrev pub clause_arm : ℕ → List Line → Arm
clause_arm n ls = record { number = n; body = block_tree ls no_stmts }

-- the statements since a mark are those of a case
abbrev pub case_closed : ℕ → ℕ → State → State
case_closed n mark s = with_arm (clause_arm n (lines_since mark s)) (cut_to mark s)

abbrev pub clause_ended : Clauses → ℕ → Bool → ℕ → State → State
clause_ended c n falls_through mark s = case_closed n mark (clause_left c falls_through s)

abbrev pub arms_since : ℕ → State → List Arm
arms_since mark s = take (length s.arms - mark) s.arms

abbrev pub switch_line : ℕ → Expr → List Arm → Line
switch_line n t bs = says (script.switch 0 (Some (label_bytes n)) t (cases_tree bs script.no_cases))

-- the cases since a mark are those of a `switch`
abbrev pub clauses_ended : Clauses → ℕ → Expr → State → State
clauses_ended c mark t s = with_line (switch_line c.end t (arms_since mark s)) (with_arms_of (drop (length s.arms - mark) s.arms) s)

-- ---- returns

abbrev pub return_line : Expr → Line
return_line t = says (script.return 0 (Some t))

-- the last value is returned
abbrev pub value_returned : State → State
value_returned s = with_line (return_line (taken_tree s)) (taken s)

-- the expressions of open lists since a mark are returned in an array
abbrev pub array_line : List Expr → Line
array_line ts = return_line (tree.array (list_tree ts no_exprs))

abbrev pub array_returned : ℕ → State → State
array_returned mark s = with_line (array_line (take (length s.items - mark) s.items)) (with_items_of (drop (length s.items - mark) s.items) s)

-- the values up to a place are those of a list
abbrev pub value_listed : ℕ → State → State
value_listed place s = with_item (value_at place s).tree s

abbrev pub values_upto : ℕ → State → State
values_upto zero s = s
values_upto (suc n) s = value_listed n (values_upto n s)

abbrev pub values_listed : State → State
values_listed s = values_upto (depth s) s

abbrev pub several_returned : State → State
several_returned s = array_returned (length s.items) (dropped_to 0 (values_listed s))

-- a variable is one more of a list, or is returned
abbrev pub var_listed : Home → State → State
var_listed h s = with_item (var_tree h s) (slot_read h.slot s)

abbrev pub var_returned : Home → State → State
var_returned h s = with_line (return_line (var_tree h s)) (slot_read h.slot s)

abbrev pub result_listed : Option Home → State → State
result_listed (Some h) s = var_listed h s
result_listed None s = s

abbrev pub result_returned : Option Home → State → State
result_returned (Some h) s = var_returned h s
result_returned None s = s

abbrev pub results_upto : ℕ → State → State
results_upto zero s = s
results_upto (suc n) s = result_listed (slice_get (results_upto n s).around.results n) (results_upto n s)

abbrev pub results_listed : State → State
results_listed s = results_upto (length s.around.results) s

-- the results as they stand are returned
abbrev pub first_returned : State → State
first_returned s = result_returned (slice_get s.around.results 0) s

abbrev pub all_returned : State → State
all_returned s = array_returned (length s.items) (results_listed s)

abbrev pub named_returned : State → State
named_returned s = if nat_eq (length s.around.results) 1 then first_returned s else all_returned s

abbrev pub none_line : Line
none_line = says (script.return 0 None)

abbrev pub results_returned : State → State
results_returned s = if nat_eq (length s.around.results) 0 then with_line none_line s else named_returned s

abbrev pub others_returned : State → State
others_returned s = if nat_eq (depth s) 0 then results_returned s else several_returned s

-- the values on the stack are returned; the results as they stand where there are none
abbrev pub returned : State → State
returned s = if nat_eq (depth s) 1 then value_returned s else others_returned s

-- whether what is there is a struct or an array
abbrev pub block_held : Option Home → Facts → Bool
block_held None f = false
block_held (Some h) f = is_block (how_held f.«program».now.types h.ty)
