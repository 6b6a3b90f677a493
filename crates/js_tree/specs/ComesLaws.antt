-- Laws of `Comes`, proved here for the crates above: how what parts of a script come to is put together.
use Rattle.std.specs.Prelude.{◌≡◌, ◌≤◌, ◌+◌, ◌*◌, ◌==◌, ◌++◌, ◌^◌, ◌%◌, ◌&&◌, pos, nat_le, nat_lt, codes, ℕ, zero, suc, List, [], ◌∷◌, length, Option, Some, None, true, false, if◌then◌else◌, refl}
use Rattle.std.proofs.Common.{sym, ◌∙◌, ap, subst, arith}
use Rattle.js_tree.specs.Script.{Name, Expr, Stmt, while, forever, Stmts, stmt, Function, ScriptTree}
use Rattle.js_tree.specs.Value.{Value, whole, bytes, function, End, Ended, Stuck, World, Locals, Frame, Outcome, gives, throws, over, and_then, in_frame, choose, tick}
use Rattle.js_tree.specs.Evaluate.{Setting, setting, Scope, Flow, onward, choice_number, host_named, find_function, body_does, call_value, call_named, call_function, eval, value, exec, exec_all, condition, after_turn, go_on, rescued}
use Rattle.js_tree.specs.Ticks.{States, world_with, worlds, frames, outcome_with, Comes}
use Rattle.js_tree.specs.Keeping.{more, more-sum}
use Rattle.js_tree.specs.Laws.{call_does, while_does, forever_does}

module _ {S A : Type 0} {states : States S} {script : ScriptTree} {choices : List ℕ} where
  -- what gives at once takes no tick
  pub comes_gives : (a : A) (s : S) → Comes states script choices (λ _. gives a) s 0 (gives a s)
  comes_gives a s = record {
    runs = λ fuel before left e l.
        let same : before ≡ left = omega arith in
        ap (λ n. gives a (states.with_left n s)) same;
  }

  -- the same part by other words
  pub comes_by : {part other : Setting → S → Outcome S A} {s : S} {d : ℕ} {o : Outcome S A}
      → ((fuel n : ℕ) → n ≤ fuel → part (setting script choices fuel) (states.with_left n s) ≡ other (setting script choices fuel) (states.with_left n s))
      → Comes states script choices other s d o → Comes states script choices part s d o
  comes_by same h = record { runs = λ fuel before left e l. same fuel before l ∙ h.runs fuel before left e l }

module _ {S A B : Type 0} {states : States S} {script : ScriptTree} {choices : List ℕ} {part : Setting → S → Outcome S A} {s t : S} {d : ℕ} where
  -- one part after another
  pub comes_then : (next : Setting → A → S → Outcome S B) {a : A} {e : ℕ} {o : Outcome S B}
      → Comes states script choices part s d (gives a t) → Comes states script choices (λ st. next st a) t e o
      → Comes states script choices (λ st s. and_then (part st s) (next st)) s (d + e) o
  comes_then next {a} {e} {o} h k = record {
    runs = λ fuel before left q l.
        ap (λ x. and_then x (next (setting script choices fuel))) (h.runs fuel before (left + e) (omega arith) l) ∙ k.runs fuel (left + e) left refl (omega arith);
  }

  -- a part that throws, or that ends the run, is the last one
  pub comes_thrown : (next : Setting → A → S → Outcome S B) {at : ℕ} {v : Value}
      → Comes states script choices part s d (throws at v t) → Comes states script choices (λ st s. and_then (part st s) (next st)) s d (throws at v t)
  comes_thrown next {at} {v} h = record { runs = λ fuel before left q l. ap (λ x. and_then x (next (setting script choices fuel))) (h.runs fuel before left q l) }

module _ {S A B : Type 0} {states : States S} {script : ScriptTree} {choices : List ℕ} {part : Setting → S → Outcome S A} {s : S} {d : ℕ} where
  pub comes_over : (next : Setting → A → S → Outcome S B) {e : End} {w : World}
      → Comes states script choices part s d (over e w) → Comes states script choices (λ st s. and_then (part st s) (next st)) s d (over e w)
  comes_over next {e} {w} h = record { runs = λ fuel before left q l. ap (λ x. and_then x (next (setting script choices fuel))) (h.runs fuel before left q l) }

module _ {script : ScriptTree} {choices : List ℕ} {part : Setting → Frame → Outcome Frame Flow} (handler : Setting → Value → Frame → Outcome Frame Flow) {f : Frame} {d : ℕ} where
  -- 12.14: a throw goes to the handler, and all else passes it
  pub comes_caught : {g : Frame} {at e : ℕ} {v : Value} {o : Outcome Frame Flow}
      → Comes frames script choices part f d (throws at v g) → Comes frames script choices (λ st. handler st v) g e o
      → Comes frames script choices (λ st f. rescued (part st f) (handler st)) f (d + e) o
  comes_caught {g} {at} {e} {v} {o} h k = record {
    runs = λ fuel before left q l.
        ap (λ x. rescued x (handler (setting script choices fuel))) (h.runs fuel before (left + e) (omega arith) l) ∙ k.runs fuel (left + e) left refl (omega arith);
  }

  pub comes_uncaught : {g : Frame} {flow : Flow}
      → Comes frames script choices part f d (gives flow g) → Comes frames script choices (λ st f. rescued (part st f) (handler st)) f d (gives flow g)
  comes_uncaught h = record { runs = λ fuel before left q l. ap (λ x. rescued x (handler (setting script choices fuel))) (h.runs fuel before left q l) }

  pub comes_past : {e : End} {w : World}
      → Comes frames script choices part f d (over e w) → Comes frames script choices (λ st f. rescued (part st f) (handler st)) f d (over e w)
  comes_past h = record { runs = λ fuel before left q l. ap (λ x. rescued x (handler (setting script choices fuel))) (h.runs fuel before left q l) }

in_frame_with : {A : Type 0} (n : ℕ) (ls : Locals) (o : Outcome World A) → in_frame ls (outcome_with worlds n o) ≡ outcome_with frames n (in_frame ls o)
in_frame_with n ls (gives a w) = refl
in_frame_with n ls (throws at v w) = refl
in_frame_with n ls (over e w) = refl

-- an expression in a function's call
pub comes_value : {script : ScriptTree} {choices : List ℕ} (sc : Scope) (e : Expr) {f : Frame} {d : ℕ} {o : Outcome World Value}
    → Comes worlds script choices (λ st. eval st sc f.locals e) f.world d o → Comes frames script choices (λ st. value st sc e) f d (in_frame f.locals o)
comes_value {script} {choices} sc e {f} {d} {o} h = record {
  runs = λ fuel before left q l.
      ap (in_frame f.locals) (h.runs fuel before left q l) ∙ in_frame_with left f.locals o;
}

-- 13.2.1: a function's call takes a tick, and does what its body does
pub comes_call : {script : ScriptTree} {choices : List ℕ} (at : ℕ) (x : Name) {f : Function} (vs : List Value) {w : World} {d : ℕ} {o : Outcome World (Option Value)}
    → host_named x ≡ None → find_function x script.items ≡ Some f → (length vs == length f.params) ≡ true
    → Comes worlds script choices (λ st. body_does st f vs) w d o → Comes worlds script choices (λ st. call_value st at (function x) vs) w (suc d) o
comes_call {script} {choices} at x {f} vs {w} {d} {o} no_host found counts h = record {
  runs = λ fuel before left q l.
      let st = setting script choices fuel in
      let one_more : before ≡ suc (left + d) = omega arith in
      ap (λ n. call_named st at n x vs (world_with before w)) no_host
      ∙ ap (λ g. call_function st at g vs (world_with before w)) found
      ∙ ap (λ b. if b then and_then (tick (world_with before w)) (λ _ w. st.enter f vs w) else over (Stuck at) (world_with before w)) counts
      ∙ ap (λ n. and_then (tick (world_with n w)) (λ _ w. st.enter f vs w)) one_more
      ∙ call_does script choices fuel f vs (world_with (left + d) w) (omega arith)
      ∙ h.runs fuel (left + d) left refl (omega arith);
}

module _ {script : ScriptTree} {choices : List ℕ} (sc : Scope) (at : ℕ) (label : Option Name) (test : Expr) (ss : Stmts) {f g : Frame} where
  -- 12.6.2: a turn of a loop, and what follows it
  pub comes_turn : {h : Frame} {flow : Flow} {d e c : ℕ} {o : Outcome Frame Flow}
      → Comes frames script choices (λ st. condition st sc at test) f d (gives true g) → Comes frames script choices (λ st. exec_all st sc ss) g e (gives flow h)
      → Comes frames script choices (λ st. after_turn label (exec st sc (while at label test ss)) flow) h c o
      → Comes frames script choices (λ st. exec st sc (while at label test ss)) f (d + suc (e + c)) o
  comes_turn {h} {flow} {d} {e} {c} {o} tested turned rest = record {
    runs = λ fuel before left q l.
        let st = setting script choices fuel in
        let one_more : left + suc (e + c) ≡ suc (left + (e + c)) = omega arith in
        while_does script choices fuel sc at label test ss (frames.with_left before f) l
        ∙ ap (λ x. and_then x (λ t. choose t (λ f. and_then (in_frame f.locals (tick f.world)) (λ _ f. and_then (exec_all st sc ss f) (after_turn label (exec st sc (while at label test ss))))) (gives onward))) (tested.runs fuel before (left + suc (e + c)) (omega arith) l)
        ∙ ap (λ n. and_then (in_frame g.locals (tick (world_with n g.world))) (λ _ f. and_then (exec_all st sc ss f) (after_turn label (exec st sc (while at label test ss))))) one_more
        ∙ ap (λ x. and_then x (after_turn label (exec st sc (while at label test ss)))) (turned.runs fuel (left + (e + c)) (left + c) (omega arith) (omega arith))
        ∙ rest.runs fuel (left + c) left refl (omega arith);
  }

  -- 12.6.2: a loop whose condition gives false
  pub comes_to_the_end : {d : ℕ}
      → Comes frames script choices (λ st. condition st sc at test) f d (gives false g) → Comes frames script choices (λ st. exec st sc (while at label test ss)) f d (gives onward g)
  comes_to_the_end {d} tested = record {
    runs = λ fuel before left q l.
        let st = setting script choices fuel in
        while_does script choices fuel sc at label test ss (frames.with_left before f) l
        ∙ ap (λ x. and_then x (λ t. choose t (λ f. and_then (in_frame f.locals (tick f.world)) (λ _ f. and_then (exec_all st sc ss f) (after_turn label (exec st sc (while at label test ss))))) (gives onward))) (tested.runs fuel before left q l);
  }

-- 12.6.3: a turn of a loop without a condition, and what follows it
pub comes_round : {script : ScriptTree} {choices : List ℕ} (sc : Scope) (at : ℕ) (label : Option Name) (ss : Stmts) {f g : Frame} {flow : Flow} {d e : ℕ} {o : Outcome Frame Flow}
    → Comes frames script choices (λ st. exec_all st sc ss) f d (gives flow g)
    → Comes frames script choices (λ st. after_turn label (exec st sc (forever at label ss)) flow) g e o
    → Comes frames script choices (λ st. exec st sc (forever at label ss)) f (suc (d + e)) o
comes_round {script} {choices} sc at label ss {f} {g} {flow} {d} {e} {o} turned rest = record {
  runs = λ fuel before left q l.
      let st = setting script choices fuel in
      let one_more : before ≡ suc (left + (d + e)) = omega arith in
      forever_does script choices fuel sc at label ss (frames.with_left before f) l
      ∙ ap (λ n. and_then (in_frame f.locals (tick (world_with n f.world))) (λ _ f. and_then (exec_all st sc ss f) (after_turn label (exec st sc (forever at label ss))))) one_more
      ∙ ap (λ x. and_then x (after_turn label (exec st sc (forever at label ss)))) (turned.runs fuel (left + (d + e)) (left + e) (omega arith) (omega arith))
      ∙ rest.runs fuel (left + e) left refl (omega arith);
}

-- 12.1: a statement that doesn't leave, and those after it
pub comes_stmts : {script : ScriptTree} {choices : List ℕ} (sc : Scope) (s : Stmt) (ss : Stmts) {f g : Frame} {d e : ℕ} {o : Outcome Frame Flow}
    → Comes frames script choices (λ st. exec st sc s) f d (gives onward g) → Comes frames script choices (λ st. exec_all st sc ss) g e o
    → Comes frames script choices (λ st. exec_all st sc (stmt s ss)) f (d + e) o
comes_stmts sc s ss h k = comes_then (λ st. go_on (exec_all st sc ss)) h k

-- own: what the functions of the host come to
pub comes_write : {script : ScriptTree} {choices : List ℕ} (at : ℕ) (s : List ℕ) (w : World)
    → Comes worlds script choices (λ st. call_value st at (function (codes "$write")) (bytes s ∷ [])) w 1 (gives None (record w { printed = w.printed ++ s }))
comes_write {script} {choices} at s w = record {
  runs = λ fuel before left q l.
      let one_more : before ≡ suc left = omega arith in
      ap (λ n. call_value (setting script choices fuel) at (function (codes "$write")) (bytes s ∷ []) (world_with n w)) one_more;
}

pub comes_pick : {script : ScriptTree} {choices : List ℕ} (at n : ℕ) (w : World) → (nat_le 2 n && nat_lt n (2 ^ 32)) ≡ true
    → Comes worlds script choices (λ st. call_value st at (function (codes "$pick")) (whole (pos n) ∷ [])) w 1 (gives (Some (whole (pos (choice_number choices w.taken % n)))) (record w { taken = w.taken + 1 }))
comes_pick {script} {choices} at n w fits = record {
  runs = λ fuel before left q l.
      let one_more : before ≡ suc left = omega arith in
      ap (λ m. call_value (setting script choices fuel) at (function (codes "$pick")) (whole (pos n) ∷ []) (world_with m w)) one_more
      ∙ ap (λ b. if b then gives (Some (whole (pos (choice_number choices w.taken % n)))) (record w { left = left; taken = w.taken + 1 }) else over (Stuck at) (world_with (suc left) w)) fits;
}

pub comes_end : {script : ScriptTree} {choices : List ℕ} (at c : ℕ) (t : List ℕ) (w : World) → nat_lt c 256 ≡ true
    → Comes worlds script choices (λ st. call_value st at (function (codes "$end")) (whole (pos c) ∷ bytes t ∷ [])) w 1 (over (Ended c t) w)
comes_end {script} {choices} at c t w fits = record {
  runs = λ fuel before left q l.
      let one_more : before ≡ suc left = omega arith in
      ap (λ m. call_value (setting script choices fuel) at (function (codes "$end")) (whole (pos c) ∷ bytes t ∷ []) (world_with m w)) one_more
      ∙ ap (λ b. if b then over (Ended c t) (world_with left w) else over (Stuck at) (world_with (suc left) w)) fits;
}

module _ {S A : Type 0} {states : States S} {script : ScriptTree} {choices : List ℕ} {part : Setting → S → Outcome S A} {s : S} where
  -- a part that is evaluated with d ticks on top of those that it leaves, which computes for a numeral d
  pub comes_in : {o : Outcome S A} (d : ℕ)
      → ((fuel n : ℕ) → more d n ≤ fuel → part (setting script choices fuel) (states.with_left (more d n) s) ≡ outcome_with states n o)
      → Comes states script choices part s d o
  comes_in {o} d h = record {
    runs = λ fuel before left q l.
        let same : before ≡ more d left = q ∙ sym (more-sum d left) in
        ap (λ n. part (setting script choices fuel) (states.with_left n s)) same ∙ h fuel left (omega arith);
  }

  -- how many ticks the state has left doesn't matter
  pub comes_from_any : {d : ℕ} {o : Outcome S A} (n : ℕ) → Comes states script choices part s d o → Comes states script choices part (states.with_left n s) d o
  comes_from_any {d} {o} n h = record {
    runs = λ fuel before left q l. ap (part (setting script choices fuel)) (states.the_last_counts before n s) ∙ h.runs fuel before left q l;
  }

-- 12.6.2: a loop of n turns, where a turn leads from each state to the one before it, and takes d ticks besides its own
pub comes_turns : {script : ScriptTree} {choices : List ℕ} (sc : Scope) (at : ℕ) (label : Option Name) (test : Expr) (ss : Stmts) (state : ℕ → Frame) (d : ℕ)
    → ((i : ℕ) → Comes frames script choices (λ st. condition st sc at test) (state (suc i)) 0 (gives true (state (suc i))))
    → ((i : ℕ) → Comes frames script choices (λ st. exec_all st sc ss) (state (suc i)) d (gives onward (state i)))
    → Comes frames script choices (λ st. condition st sc at test) (state zero) 0 (gives false (state zero))
    → (n : ℕ) → Comes frames script choices (λ st. exec st sc (while at label test ss)) (state n) (n * suc d) (gives onward (state zero))
comes_turns {script} {choices} sc at label test ss state d tested turned ended zero = comes_to_the_end sc at label test ss (subst (λ (t : ℕ). Comes frames script choices (λ st. condition st sc at test) (state zero) t (gives false (state zero))) (omega arith) ended)
comes_turns {script} {choices} sc at label test ss state d tested turned ended (suc n) =
    let sum : 0 + suc (d + n * suc d) ≡ suc n * suc d = omega arith in
    subst (λ (t : ℕ). Comes frames script choices (λ st. exec st sc (while at label test ss)) (state (suc n)) t (gives onward (state zero))) sum
    (comes_turn sc at label test ss (tested n) (turned n) (comes_turns sc at label test ss state d tested turned ended n))
