-- Each run of the script of a program that only prints is matched by steps of the program.
use Rattle.std.proofs.Common.{◌≡◌, ◌++◌, ◌+◌, ◌-◌, ◌*◌, ◌≤◌, ℕ, zero, suc, List, [], ◌∷◌, Bool, true, false, not, ◌&&◌, length, refl, sym, ap, subst, ◌∙◌, append_assoc, append-nil, arith}
use Rattle.std.specs.Prelude.{Option, Some, None, option_and_then, slice_get, nat_lt, if◌then◌else◌}
use Rattle.js_tree.specs.Script.{no_stmts, stmt, ScriptTree, Function}
use Rattle.js_tree.specs.Script as script
use Rattle.js_tree.specs.View.{stmts_of}
use Rattle.js_tree.specs.Value as script_value
use Rattle.js_tree.specs.Value.{World, Outcome, gives, throws, over}
use Rattle.js_tree.specs.Evaluate.{Setting, setting, Scope, Called, frame, exec_all, call_result, scope_of, body_does, declared_all}
use Rattle.js_tree.specs.Static.{static_fault, stmts_faults, least}
use Rattle.js_tree.specs.ScriptRun.{result_of, run_if_sound}
use Rattle.go_type.specs.Tree.{Tys, no_tys, more_tys}
use Rattle.go_core.specs.Memory as cell
use Rattle.go_core.specs.Memory.{Value, Memory}
use Rattle.go_core.specs.CoreTree as core
use Rattle.go_core.specs.CoreTree.{Expr, Exprs, Stmt, Stmts, CoreFunc, CoreProgram, text_constant}
use Rattle.go_core.specs.Text.{texts_of, output_of}
use Rattle.go_core.specs.StepNumbers.{most_bytes}
use Rattle.go_core.specs.RunPanic.{bad_size}
use Rattle.go_core.specs.Did as did
use Rattle.go_core.specs.Opened.{opened, all_opened, all_evaluated, values_of}
use Rattle.go_core.specs.Goroutine.{Task, print_values, finish, normal, called, Frame, able, State, going, exit, Move, Popped, popped_before}
use Rattle.go_core.specs.Frames.{did_step, with_popped}
use Rattle.go_core.specs.Calls.{Resolved, ready, function_with, bases_of, called_step, entered_above, entered_at}
use Rattle.go_core.specs.GoStep as go_step
use Rattle.go_core.specs.Run.{after, start, IsReached}
use Rattle.go_core.specs.Run as go
use Rattle.js_prints.specs.Faithful.{EndsAlike, Matches, Faithful}
use Rattle.js_prints.specs.Prints.{is_text, are_texts, is_print, all_print, has_no_types, has_no_numbers, is_printing, only_prints}
use Rattle.js_prints.specs.Emitted.{write_of, text_in, texts_in, output, writes_of, all_writes_of, start_of, script_of, body_in, body_of_main}

-- the world of a run that makes and sets nothing
abbrev world : ℕ → List ℕ → World
world left printed = record { left = left; printed = printed; taken = 0; objects = []; globals = [] }

-- what waits for the end of `main`
abbrev waiting_frame : Frame
waiting_frame = record { func = None; tasks = finish ∷ []; values = []; places = []; deferred_calls = []; results = []; mode = normal; purpose = called }

abbrev main_frame : ℕ → List Task → List Value → Frame
main_frame main tasks values = record { func = Some main; tasks = tasks; values = values; places = []; deferred_calls = []; results = []; mode = normal; purpose = called }

-- the one goroutine, in `main`
abbrev in_main : ℕ → Memory → List Task → List Value → List ℕ → ℕ → State
in_main main m tasks values printed units = record {
  goroutines = record { frames = main_frame main tasks values ∷ waiting_frame ∷ []; waiting = able } ∷ [];
  memory = m;
  printed = printed;
  taken = 0;
  units = units;
  end = going;
}

-- the one goroutine moves
abbrev first : Move
first = record { goroutine = 0; way = 0; partner = 0; partner_way = 0; capacity = 0; birth = None }

-- ---- words

left_of : (a b : Bool) → (a && b) ≡ true → a ≡ true
left_of true b e = refl
left_of false b e = absurd (cc)

right_of : (a b : Bool) → (a && b) ≡ true → b ≡ true
right_of true b e = e
right_of false b e = absurd (cc)

opposite : (b : Bool) → not b ≡ true → b ≡ false
opposite false e = refl
opposite true e = absurd (cc)

-- a text's value
abbrev text_value : Expr → Value
text_value e = cell.text (text_in e) ∷ []

abbrev values_in : Exprs → List Value
values_in core.no_exprs = []
values_in (core.expr e es) = text_value e ∷ values_in es

texts_again : (es : Exprs) → texts_of (values_in es) ≡ texts_in es
texts_again core.no_exprs = refl
texts_again (core.expr e es) = ap (λ (ts : List (List ℕ)). text_in e ∷ ts) (texts_again es)

output_again : (ends_line : Bool) (es : Exprs) → output_of ends_line (values_in es) ≡ output ends_line (texts_in es)
output_again true es = ap (output true) (texts_again es)
output_again false es = ap (output false) (texts_again es)

module _ (p : CoreProgram) (choices : List ℕ) (n : ℕ) where
  -- some moves from here lead to what the script's run did
  record Reaches (o : Called) (s : State) : Type 0 where
    moves : List Move
    state : State
    run : after p choices moves s ≡ Some state
    matches : Matches (result_of n o) state

  -- a step before
  ahead : (o : Called) (s t : State) → go.step p choices first s ≡ Some t → Reaches o t → Reaches o s
  ahead o s t e r = record { moves = first ∷ r.moves; state = r.state; run = ap (λ (next : Option State). option_and_then (after p choices r.moves) next) e ∙ r.run; matches = r.matches }

  -- the scope of the start function, which has no names
  abbrev no_names : Scope
  no_names = record { names = []; caught = None }

  -- the ticks so far are few against the units so far
  few : (left units : ℕ) → n ≤ left + units → n - left ≤ 4096 * ((units + 1) * (units + 1))
  few left units le = omega arith

  -- where no tick is left the program goes on too
  stops : (s : State) (printed : List ℕ) (units : ℕ) → s.printed ≡ printed → s.taken ≡ 0 → s.end ≡ going → s.units ≡ units → n ≤ units
      → Reaches (over script_value.Going (world 0 printed)) s
  stops s printed units q t e u le = record {
    moves = [];
    state = s;
    run = refl;
    matches = record {
      printed = sym q;
      taken = sym t;
      ends = subst (λ x. EndsAlike script_value.Going x) (sym e) tt;
      within = rw u (few 0 units (omega arith));
    };
  }

  module _ (main : ℕ) (m : Memory) where
    -- the operands' values, on top of others
    abbrev onto : Exprs → List Value → List Value
    onto core.no_exprs values = values
    onto (core.expr e es) values = onto es (text_value e ∷ values)

    abbrev units_after : Exprs → ℕ → ℕ
    units_after core.no_exprs units = units
    units_after (core.expr e es) units = units_after es (units + (1 + length (text_in e)))

    units_grow : (es : Exprs) (units : ℕ) → units ≤ units_after es units
    units_grow core.no_exprs units = omega arith
    units_grow (core.expr e es) units = omega (arith, units_grow es (units + (1 + length (text_in e))))

    -- evaluating an operand
    evaluates_one : (o : Called) (e : Expr) → is_text e ≡ true → (tasks : List Task) (values : List Value) (printed : List ℕ) (units : ℕ)
        → Reaches o (in_main main m tasks (text_value e ∷ values) printed (units + (1 + length (text_in e))))
        → Reaches o (in_main main m (all_evaluated (core.expr e core.no_exprs) tasks) values printed units)
    evaluates_one o (core.constant t (text_constant bytes)) h tasks values printed units r =
        let fits : nat_lt most_bytes (length bytes) ≡ false = opposite (nat_lt most_bytes (length bytes)) h in
        ahead o _ (in_main main m tasks ((cell.text bytes ∷ []) ∷ values) printed (units + (1 + length bytes)))
        (ap (λ (b : Bool). did_step p.hidden 0 (if b then did.panics bad_size 0 else did.gives ((cell.text bytes ∷ []) ∷ []) m (length bytes)) (main_frame main tasks values) (waiting_frame ∷ []) (in_main main m (all_evaluated (core.expr (core.constant t (text_constant bytes)) core.no_exprs) tasks) values printed units)) fits)
        r
    evaluates_one o _ h tasks values printed units r = absurd (cc)

    evaluates : (o : Called) (es : Exprs) → are_texts es ≡ true → (tasks : List Task) (values : List Value) (printed : List ℕ) (units : ℕ)
        → Reaches o (in_main main m tasks (onto es values) printed (units_after es units)) → Reaches o (in_main main m (all_evaluated es tasks) values printed units)
    evaluates o core.no_exprs h tasks values printed units r = r
    evaluates o (core.expr e es) h tasks values printed units r =
        evaluates_one o e (left_of (is_text e) (are_texts es) h) (all_evaluated es tasks) values printed units
        (evaluates o es (right_of (is_text e) (are_texts es) h) tasks (text_value e ∷ values) printed (units + (1 + length (text_in e))) r)

    -- a constant gives one value
    one_value : (e : Expr) (es : Exprs) → is_text e ≡ true → values_of (core.expr e es) ≡ 1 + values_of es
    one_value (core.constant t c) es h = refl
    one_value _ es h = absurd (cc)

    -- the operands' values are found again, in order
    found : (es : Exprs) → are_texts es ≡ true → (k : ℕ) (values vs : List Value) → popped_before (values_of es + k) (onto es values) vs ≡ popped_before k values (values_in es ++ vs)
    found core.no_exprs h k values vs =
        let none : 0 + k ≡ k = omega arith in
        ap (λ (j : ℕ). popped_before j values vs) none
    found (core.expr e es) h k values vs =
        let one = one_value e es (left_of (is_text e) (are_texts es) h) in
        let count : values_of (core.expr e es) + k ≡ values_of es + suc k = omega (arith, one) in
        ap (λ (j : ℕ). popped_before j (onto es (text_value e ∷ values)) vs) count
        ∙ found es (right_of (is_text e) (are_texts es) h) (suc k) (text_value e ∷ values) vs

    all_found : (es : Exprs) → are_texts es ≡ true → popped_before (values_of es) (onto es []) [] ≡ Some (record { operands = values_in es; others = [] })
    all_found es h =
        let count : values_of es ≡ values_of es + 0 = omega arith in
        ap (λ (j : ℕ). popped_before j (onto es []) []) count ∙ found es h 0 [] [] ∙ ap (λ (vs : List Value). Some (record { operands = vs; others = [] })) (append-nil (values_in es))

    -- the print of the evaluated operands
    prints : (o : Called) (es : Exprs) → are_texts es ≡ true → (ends_line : Bool) (tasks : List Task) (printed : List ℕ) (units : ℕ)
        → Reaches o (in_main main m tasks [] (printed ++ output ends_line (texts_in es)) (units + (1 + length (output ends_line (texts_in es)))))
        → Reaches o (in_main main m (print_values (values_of es) ends_line ∷ tasks) (onto es []) printed units)
    prints o es h ends_line tasks printed units r =
        ahead o _ (in_main main m tasks [] (printed ++ output ends_line (texts_in es)) (units + (1 + length (output ends_line (texts_in es)))))
        (ap (λ (q : Option Popped). printed_with q) (all_found es h) ∙ ap (λ (bytes : List ℕ). Some (in_main main m tasks [] (printed ++ bytes) (units + (1 + length bytes)))) (output_again ends_line es))
        r
      where
        printed_with : Option Popped → Option State
        printed_with q =
            with_popped q (main_frame main tasks (onto es []))
            (λ (vs : List Value) (f : Frame). go_step.with_printed p choices first 0 (output_of ends_line vs) f (waiting_frame ∷ []) (in_main main m (print_values (values_of es) ends_line ∷ tasks) (onto es []) printed units))

    module _ (st : Setting) where
      -- what is left of the script's body
      abbrev left_to_do : List script.Stmt → ℕ → List ℕ → Called
      left_to_do ws left printed = call_result (exec_all st no_names (stmts_of ws) (frame [] (world left printed)))

      -- from such a state on, the program does what is left of the script's body
      abbrev Follows : List script.Stmt → List Task → Type 0
      Follows ws tasks = (left units : ℕ) (printed : List ℕ) → n ≤ left + units → Reaches (left_to_do ws left printed) (in_main main m tasks [] printed units)

      -- a print is one call of `$write`
      print_follows : (es : Exprs) → are_texts es ≡ true → (ends_line : Bool) (ws : List script.Stmt) (tasks : List Task) → Follows ws tasks
          → Follows (write_of (output ends_line (texts_in es)) ∷ ws) (all_evaluated es (print_values (values_of es) ends_line ∷ tasks))
      print_follows es h ends_line ws tasks f zero units printed le = stops _ printed units refl refl refl refl (omega (arith, le))
      print_follows es h ends_line ws tasks f (suc left) units printed le =
          evaluates _ es h (print_values (values_of es) ends_line ∷ tasks) [] printed units
          (prints _ es h ends_line tasks printed (units_after es units)
          (f left (units_after es units + (1 + length (output ends_line (texts_in es)))) (printed ++ output ends_line (texts_in es)) (omega (arith, units_grow es units))))

      stmt_follows : (s : Stmt) → is_print s ≡ true → (ws : List script.Stmt) (tasks : List Task) → Follows ws tasks → Follows (writes_of s ++ ws) (opened s tasks)
      stmt_follows (core.print es ends_line) h ws tasks f = print_follows es h ends_line ws tasks f
      stmt_follows _ h ws tasks f = absurd (cc)

      stmts_follow : (ss : Stmts) → all_print ss ≡ true → (ws : List script.Stmt) (tasks : List Task) → Follows ws tasks → Follows (all_writes_of ss ++ ws) (all_opened ss tasks)
      stmts_follow core.no_stmts h ws tasks f = f
      stmts_follow (core.stmt s ss) h ws tasks f = λ left units printed le.
          let rest = stmt_follows s (left_of (is_print s) (all_print ss) h) (all_writes_of ss ++ ws) (all_opened ss tasks) (stmts_follow ss (right_of (is_print s) (all_print ss) h) ws tasks f) left units printed le in
          subst (λ (all : List script.Stmt). Reaches (left_to_do all left printed) (in_main main m (opened s (all_opened ss tasks)) [] printed units)) (sym (append_assoc (writes_of s) (all_writes_of ss) ws)) rest

      -- `main` returns, and the program ends
      returns : Follows [] []
      returns left units printed le = record {
        moves = first ∷ first ∷ [];
        state = record { goroutines = record { frames = []; waiting = able } ∷ []; memory = m; printed = printed; taken = 0; units = units + 1 + 1; end = exit 0 };
        run = refl;
        matches = record { printed = refl; taken = refl; ends = (refl, refl); within = few left (units + 1 + 1) (omega arith) };
      }

-- ---- calls of `$write` declare nothing, and break no static rule

declares_none : (ws : List script.Stmt) (s : Stmt) → is_print s ≡ true → declared_all (stmts_of ws) ≡ [] → declared_all (stmts_of (writes_of s ++ ws)) ≡ []
declares_none ws (core.print es ends_line) h e = e
declares_none ws _ h e = absurd (cc)

all_declare_none : (ss : Stmts) → all_print ss ≡ true → declared_all (stmts_of (all_writes_of ss)) ≡ []
all_declare_none core.no_stmts h = refl
all_declare_none (core.stmt s ss) h = declares_none (all_writes_of ss) s (left_of (is_print s) (all_print ss) h) (all_declare_none ss (right_of (is_print s) (all_print ss) h))

breaks_none : (ws : List script.Stmt) (s : Stmt) → is_print s ≡ true → stmts_faults [] (stmts_of ws) ≡ [] → stmts_faults [] (stmts_of (writes_of s ++ ws)) ≡ []
breaks_none ws (core.print es ends_line) h e = e
breaks_none ws _ h e = absurd (cc)

all_break_none : (ss : Stmts) → all_print ss ≡ true → stmts_faults [] (stmts_of (all_writes_of ss)) ≡ []
all_break_none core.no_stmts h = refl
all_break_none (core.stmt s ss) h = breaks_none (all_writes_of ss) s (left_of (is_print s) (all_print ss) h) (all_break_none ss (right_of (is_print s) (all_print ss) h))

no_scope : (body : Stmts) → all_print body ≡ true → scope_of (start_of body) ≡ record { names = []; caught = None }
no_scope body h = ap (λ (names : List (List ℕ)). record { names = names; caught = None }) (all_declare_none body h)

no_fault : (body : Stmts) → all_print body ≡ true → static_fault (script_of body) ≡ None
no_fault body h = ap (λ (faults : List ℕ). least (faults ++ [])) (all_break_none body h)

-- ---- the whole

-- the first move enters `main`
enters : (p : CoreProgram) (choices : List ℕ) (f : CoreFunc) → slice_get p.funcs p.main ≡ Some f → f.results ≡ no_tys → f.captured ≡ []
    → go.step p choices first (start p []) ≡ Some (in_main p.main (start p []).memory (all_opened f.body []) [] [] ((start p []).units + 1))
enters p choices f found none bare =
    let s = start p [] in
    let resolves : function_with p.main [] (option_and_then (λ (c : CoreFunc). bases_of c.captured []) (slice_get p.funcs p.main)) ≡ ready p.main [] None [] =
    ap (λ (o : Option CoreFunc). function_with p.main [] (option_and_then (λ (c : CoreFunc). bases_of c.captured []) o)) found
    ∙ ap (λ (ns : List ℕ). function_with p.main [] (bases_of ns [])) bare in
    ap (λ (r : Resolved). called_step p 0 r waiting_frame [] s) resolves
    ∙ ap (λ (o : Option CoreFunc). entered_above p 0 (entered_at p p.main o [] None [] called s.memory) waiting_frame [] s) found
    ∙ ap (λ (g : CoreFunc). entered_above p 0 (entered_at p p.main (Some g) [] None [] called s.memory) waiting_frame [] s) same
    ∙ adds
  where
    plain : CoreFunc
    plain = record { name = f.name; params = f.params; results = no_tys; variadic = f.variadic; vars = f.vars; captured = []; body = f.body; place = f.place }

    same : f ≡ plain
    same = λ i. record { name = f.name; params = f.params; results = none i; variadic = f.variadic; vars = f.vars; captured = bare i; body = f.body; place = f.place }

    adds : entered_above p 0 (entered_at p p.main (Some plain) [] None [] called (start p []).memory) waiting_frame [] (start p []) ≡ Some (in_main p.main (start p []).memory (all_opened f.body []) [] [] ((start p []).units + 1))
    adds = refl

module _ (p : CoreProgram) (f : CoreFunc) (found : slice_get p.funcs p.main ≡ Some f) (none : f.results ≡ no_tys) (bare : f.captured ≡ []) (all : all_print f.body ≡ true) where
  -- what the script's start function does, once its call has taken a tick
  does : (choices : List ℕ) (k : ℕ)
      → Reaches p choices (suc k) (body_does (setting (script_of f.body) choices k) (start_of f.body) [] (world k [])) (in_main p.main (start p []).memory (all_opened f.body []) [] [] ((start p []).units + 1))
  does choices k =
      let st : Setting = setting (script_of f.body) choices k in
      let s = start p [] in
      let from = in_main p.main s.memory (all_opened f.body []) [] [] (s.units + 1) in
      let follows = stmts_follow p choices (suc k) p.main s.memory st f.body all [] [] (returns p choices (suc k) p.main s.memory st) k (s.units + 1) [] (omega arith) in
      let whole_body = subst (λ (ws : List script.Stmt). Reaches p choices (suc k) (call_result (exec_all st (record { names = []; caught = None }) (stmts_of ws) (frame [] (world k [])))) from) (append-nil (all_writes_of f.body)) follows in
      subst (λ (sc : Scope). Reaches p choices (suc k) (call_result (exec_all st sc (stmts_of (all_writes_of f.body)) (frame [] (world k [])))) from) (sym (no_scope f.body all)) whole_body

  faithful_to : Faithful (script_of f.body) p []
  faithful_to choices zero = (
    start p [],
    ([], refl),
    subst (λ (fault : Option ℕ). Matches (run_if_sound fault (script_of f.body) choices 0) (start p [])) (sym (no_fault f.body all))
        (record { printed = refl; taken = refl; ends = tt; within = omega arith }),
  )
  faithful_to choices (suc k) =
      let r = does choices k in (
        r.state,
        (first ∷ r.moves, ap (λ (next : Option State). option_and_then (after p choices r.moves) next) (enters p choices f found none bare) ∙ r.run),
        subst (λ (fault : Option ℕ). Matches (run_if_sound fault (script_of f.body) choices (suc k)) r.state) (sym (no_fault f.body all)) r.matches,
      )

no_types : (ts : Tys) → has_no_types ts ≡ true → ts ≡ no_tys
no_types no_tys h = refl
no_types (more_tys t ts) h = absurd (cc)

no_numbers : (ns : List ℕ) → has_no_numbers ns ≡ true → ns ≡ []
no_numbers [] h = refl
no_numbers (k ∷ ns) h = absurd (cc)

faithful_in : (p : CoreProgram) (o : Option CoreFunc) → slice_get p.funcs p.main ≡ o → is_printing o ≡ true → Faithful (script_of (body_in o)) p []
faithful_in p None found h = absurd (cc)
faithful_in p (Some f) found h =
    let bare = right_of (has_no_types f.results) (has_no_numbers f.captured && all_print f.body) h in
    faithful_to p f found
    (no_types f.results (left_of (has_no_types f.results) (has_no_numbers f.captured && all_print f.body) h))
    (no_numbers f.captured (left_of (has_no_numbers f.captured) (all_print f.body) bare))
    (right_of (has_no_numbers f.captured) (all_print f.body) bare)

-- the script of a program that only prints does what the program does
pub faithful : (p : CoreProgram) → only_prints p ≡ true → Faithful (script_of (body_of_main p)) p []
faithful p h = faithful_in p (slice_get p.funcs p.main) refl h
