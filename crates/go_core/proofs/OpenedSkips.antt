-- Looking for a label passes over what is opened of expressions and of left sides.
use Rattle.std.proofs.Common.{refl, ◌∙◌}
use Rattle.std.specs.Prelude.{◌≡◌, ◌+◌, List, [], ◌∷◌, Bool, true, false, length}
use Rattle.go_core.specs.CoreTree as core
use Rattle.go_core.specs.CoreTree.{Expr, Exprs, CorePlace, Bound, Elements, Pairs, Callee, Target, Communication, Cases, no_exprs, expr, no_bound, bound, no_elements, element, no_pairs, pair, no_cases, case}
use Rattle.go_core.specs.Operator as operator
use Rattle.go_core.specs.Goroutine.{Task, operate, at_local, make_closure, only_where_true, only_where_false, bind_vars, call_with, recover_here, receive_from, add_to_gate, leave, turn_again, next_range}
use Rattle.go_core.specs.Opened.{has, one_if, indexes_of, pair_count, called_of, call_count, evaluated, placed, all_evaluated, bound_first, elements_first, pairs_first, callee_first, operands_first, target_first, targets_first, communication_first, cases_first}

-- where a label can lead
abbrev pub is_mark : Task → Bool
is_mark (leave label) = true
is_mark (turn_again label c body post) = true
is_mark (next_range r c) = true
is_mark t = false

module _ (S : List Task → List Task) (sk : (t : Task) (ts : List Task) → is_mark t ≡ false → S (t ∷ ts) ≡ S ts) where
  mutual
    pub ev : (e : Expr) (rest : List Task) → S (evaluated e rest) ≡ S rest
    ev (core.constant t c) rest = (sk (operate (operator.give_constant c) 0) (rest) refl ∙ refl)
    ev (core.zero_value t) rest = (sk (operate (operator.give_zero t) 0) (rest) refl ∙ refl)
    ev (core.read t place) rest = (pl place (operate (operator.read_place t) 1 ∷ rest) ∙ (sk (operate (operator.read_place t) 1) (rest) refl ∙ refl))
    ev (core.address t place) rest = (pl place (operate operator.to_address 1 ∷ rest) ∙ (sk (operate operator.to_address 1) (rest) refl ∙ refl))
    ev (core.unary op t e) rest = (ev e (operate (operator.to_unary op t) 1 ∷ rest) ∙ (sk (operate (operator.to_unary op t) 1) (rest) refl ∙ refl))
    ev (core.binary op t a b) rest = (ev a (evaluated b (operate (operator.to_binary op t) 2 ∷ rest)) ∙ (ev b (operate (operator.to_binary op t) 2 ∷ rest) ∙ (sk (operate (operator.to_binary op t) 2) (rest) refl ∙ refl)))
    ev (core.concat t a b) rest = (ev a (evaluated b (operate operator.to_concat 2 ∷ rest)) ∙ (ev b (operate operator.to_concat 2 ∷ rest) ∙ (sk (operate operator.to_concat 2) (rest) refl ∙ refl)))
    ev (core.equal negated t u a b) rest = (ev a (evaluated b (operate (operator.to_equal negated t) 2 ∷ rest)) ∙ (ev b (operate (operator.to_equal negated t) 2 ∷ rest) ∙ (sk (operate (operator.to_equal negated t) 2) (rest) refl ∙ refl)))
    ev (core.less op t u a b) rest = (ev a (evaluated b (operate (operator.to_less op t) 2 ∷ rest)) ∙ (ev b (operate (operator.to_less op t) 2 ∷ rest) ∙ (sk (operate (operator.to_less op t) 2) (rest) refl ∙ refl)))
    ev (core.and_then t a b) rest = (ev a (only_where_true b ∷ rest) ∙ (sk (only_where_true b) (rest) refl ∙ refl))
    ev (core.or_else t a b) rest = (ev a (only_where_false b ∷ rest) ∙ (sk (only_where_false b) (rest) refl ∙ refl))
    ev (core.not_ t e) rest = (ev e (operate operator.to_not 1 ∷ rest) ∙ (sk (operate operator.to_not 1) (rest) refl ∙ refl))
    ev (core.convert from to e) rest = (ev e (operate (operator.to_converted from to) 1 ∷ rest) ∙ (sk (operate (operator.to_converted from to) 1) (rest) refl ∙ refl))
    ev (core.byte_at e i) rest = (ev e (evaluated i (operate operator.to_byte 2 ∷ rest)) ∙ (ev i (operate operator.to_byte 2 ∷ rest) ∙ (sk (operate operator.to_byte 2) (rest) refl ∙ refl)))
    ev (core.slice_of from t e low high limit) rest = (ev e (bound_first low (bound_first high (bound_first limit (operate (operator.to_slice from (has low) (has high) (has limit)) (1 + one_if low + one_if high + one_if limit) ∷ rest)))) ∙ (bd low (bound_first high (bound_first limit (operate (operator.to_slice from (has low) (has high) (has limit)) (1 + one_if low + one_if high + one_if limit) ∷ rest))) ∙ (bd high (bound_first limit (operate (operator.to_slice from (has low) (has high) (has limit)) (1 + one_if low + one_if high + one_if limit) ∷ rest)) ∙ (bd limit (operate (operator.to_slice from (has low) (has high) (has limit)) (1 + one_if low + one_if high + one_if limit) ∷ rest) ∙ (sk (operate (operator.to_slice from (has low) (has high) (has limit)) (1 + one_if low + one_if high + one_if limit)) (rest) refl ∙ refl)))))
    ev (core.build t count es) rest = (el es (operate (operator.to_built t count (indexes_of es)) (length (indexes_of es)) ∷ rest) ∙ (sk (operate (operator.to_built t count (indexes_of es)) (length (indexes_of es))) (rest) refl ∙ refl))
    ev (core.build_map t ps) rest = (pr ps (operate (operator.to_built_map t) (pair_count ps + pair_count ps) ∷ rest) ∙ (sk (operate (operator.to_built_map t) (pair_count ps + pair_count ps)) (rest) refl ∙ refl))
    ev (core.closure t f) rest = (sk (make_closure f) (rest) refl ∙ refl)
    ev (core.bind t n e) rest = (ev e (operate (operator.to_bound n) 1 ∷ rest) ∙ (sk (operate (operator.to_bound n) 1) (rest) refl ∙ refl))
    ev (core.bind_dynamic t name package_ e) rest = (ev e (operate (operator.to_bound_dynamic name package_) 1 ∷ rest) ∙ (sk (operate (operator.to_bound_dynamic name package_) 1) (rest) refl ∙ refl))
    ev (core.call results callee es) rest = (ca callee (all_evaluated es (call_with (called_of callee) (call_count callee es) ∷ rest)) ∙ (exs es (call_with (called_of callee) (call_count callee es) ∷ rest) ∙ (sk (call_with (called_of callee) (call_count callee es)) (rest) refl ∙ refl)))
    ev (core.map_get t ok e key) rest = (ev e (evaluated key (operate (operator.get_entry t ok) 2 ∷ rest)) ∙ (ev key (operate (operator.get_entry t ok) 2 ∷ rest) ∙ (sk (operate (operator.get_entry t ok) 2) (rest) refl ∙ refl)))
    ev (core.len from e) rest = (ev e (operate (operator.to_len from) 1 ∷ rest) ∙ (sk (operate (operator.to_len from) 1) (rest) refl ∙ refl))
    ev (core.cap from e) rest = (ev e (operate (operator.to_cap from) 1 ∷ rest) ∙ (sk (operate (operator.to_cap from) 1) (rest) refl ∙ refl))
    ev (core.append t from a b) rest = (ev a (evaluated b (operate (operator.to_appended t) 2 ∷ rest)) ∙ (ev b (operate (operator.to_appended t) 2 ∷ rest) ∙ (sk (operate (operator.to_appended t) 2) (rest) refl ∙ refl)))
    ev (core.copy_elems t from a b) rest = (ev a (evaluated b (operate (operator.to_copied t) 2 ∷ rest)) ∙ (ev b (operate (operator.to_copied t) 2 ∷ rest) ∙ (sk (operate (operator.to_copied t) 2) (rest) refl ∙ refl)))
    ev (core.make_slice t n capacity) rest = (ev n (bound_first capacity (operate (operator.to_new_slice t) (1 + one_if capacity) ∷ rest)) ∙ (bd capacity (operate (operator.to_new_slice t) (1 + one_if capacity) ∷ rest) ∙ (sk (operate (operator.to_new_slice t) (1 + one_if capacity)) (rest) refl ∙ refl)))
    ev (core.make_map t count) rest = (bd count (operate operator.to_new_map (one_if count) ∷ rest) ∙ (sk (operate operator.to_new_map (one_if count)) (rest) refl ∙ refl))
    ev (core.make_chan t capacity) rest = (bd capacity (operate operator.to_new_channel (one_if capacity) ∷ rest) ∙ (sk (operate operator.to_new_channel (one_if capacity)) (rest) refl ∙ refl))
    ev (core.new_ t) rest = (sk (operate (operator.to_new t) 0) (rest) refl ∙ refl)
    ev (core.wrap from t e) rest = (ev e (operate (operator.to_interface from) 1 ∷ rest) ∙ (sk (operate (operator.to_interface from) 1) (rest) refl ∙ refl))
    ev (core.assert_ t ok e) rest = (ev e (operate (operator.to_asserted t ok) 1 ∷ rest) ∙ (sk (operate (operator.to_asserted t ok) 1) (rest) refl ∙ refl))
    ev (core.basic t e) rest = (ev e (operate operator.to_basic 1 ∷ rest) ∙ (sk (operate operator.to_basic 1) (rest) refl ∙ refl))
    ev (core.receive t ok e) rest = (ev e (receive_from t ok ∷ rest) ∙ (sk (receive_from t ok) (rest) refl ∙ refl))
    ev (core.recover_ t) rest = (sk (recover_here) (rest) refl ∙ refl)
    ev (core.gate_make e) rest = (ev e (operate operator.to_gate 1 ∷ rest) ∙ (sk (operate operator.to_gate 1) (rest) refl ∙ refl))
    ev (core.gate_add e n) rest = (ev e (evaluated n (add_to_gate ∷ rest)) ∙ (ev n (add_to_gate ∷ rest) ∙ (sk (add_to_gate) (rest) refl ∙ refl)))
    ev (core.let_in vars es body) rest = (exs es (bind_vars vars ∷ evaluated body rest) ∙ (sk (bind_vars vars) (evaluated body rest) refl ∙ (ev body rest ∙ refl)))

    pub pl : (c : CorePlace) (rest : List Task) → S (placed c rest) ≡ S rest
    pl (core.local_ v) rest = (sk (at_local v) (rest) refl ∙ refl)
    pl (core.global n) rest = (sk (operate (operator.at_global n) 0) (rest) refl ∙ refl)
    pl (core.deref e) rest = (ev e (operate operator.at_pointer 1 ∷ rest) ∙ (sk (operate operator.at_pointer 1) (rest) refl ∙ refl))
    pl (core.field t n place) rest = (pl place (operate (operator.at_field t n) 1 ∷ rest) ∙ (sk (operate (operator.at_field t n) 1) (rest) refl ∙ refl))
    pl (core.elem t place i) rest = (pl place (evaluated i (operate (operator.at_elem t) 2 ∷ rest)) ∙ (ev i (operate (operator.at_elem t) 2 ∷ rest) ∙ (sk (operate (operator.at_elem t) 2) (rest) refl ∙ refl)))
    pl (core.slice_elem t e i) rest = (ev e (evaluated i (operate (operator.at_slice_elem t) 2 ∷ rest)) ∙ (ev i (operate (operator.at_slice_elem t) 2 ∷ rest) ∙ (sk (operate (operator.at_slice_elem t) 2) (rest) refl ∙ refl)))

    pub exs : (es : Exprs) (rest : List Task) → S (all_evaluated es rest) ≡ S rest
    exs no_exprs rest = refl
    exs (expr e es) rest = (ev e (all_evaluated es rest) ∙ (exs es rest ∙ refl))

    pub bd : (b : Bound) (rest : List Task) → S (bound_first b rest) ≡ S rest
    bd no_bound rest = refl
    bd (bound e) rest = (ev e rest ∙ refl)

    pub el : (es : Elements) (rest : List Task) → S (elements_first es rest) ≡ S rest
    el no_elements rest = refl
    el (element i e es) rest = (ev e (elements_first es rest) ∙ (el es rest ∙ refl))

    pub pr : (ps : Pairs) (rest : List Task) → S (pairs_first ps rest) ≡ S rest
    pr no_pairs rest = refl
    pr (pair k v ps) rest = (ev k (evaluated v (pairs_first ps rest)) ∙ (ev v (pairs_first ps rest) ∙ (pr ps rest ∙ refl)))

    pub ca : (c : Callee) (rest : List Task) → S (callee_first c rest) ≡ S rest
    ca (core.function f) rest = refl
    ca (core.method n) rest = refl
    ca (core.func_value e) rest = (ev e rest ∙ refl)
    ca (core.dynamic name package_ e) rest = (ev e rest ∙ refl)

  pub of : (c : CorePlace) (rest : List Task) → S (operands_first c rest) ≡ S rest
  of (core.local_ v) rest = refl
  of (core.global n) rest = refl
  of (core.deref e) rest = (ev e rest ∙ refl)
  of (core.field t n place) rest = (of place rest ∙ refl)
  of (core.elem t place i) rest = (of place (evaluated i rest) ∙ (ev i rest ∙ refl))
  of (core.slice_elem t e i) rest = (ev e (evaluated i rest) ∙ (ev i rest ∙ refl))

  pub tg : (t : Target) (rest : List Task) → S (target_first t rest) ≡ S rest
  tg core.blank rest = refl
  tg (core.to_place t place) rest = (of place rest ∙ refl)
  tg (core.to_entry t e key) rest = (ev e (evaluated key rest) ∙ (ev key rest ∙ refl))

  pub tgs : (ts : List Target) (rest : List Task) → S (targets_first ts rest) ≡ S rest
  tgs [] rest = refl
  tgs (t ∷ ts) rest = (tg t (targets_first ts rest) ∙ (tgs ts rest ∙ refl))

  pub cm : (c : Communication) (rest : List Task) → S (communication_first c rest) ≡ S rest
  cm (core.sends t e v) rest = (ev e (evaluated v rest) ∙ (ev v rest ∙ refl))
  cm (core.receives t e vars) rest = (ev e rest ∙ refl)

  pub cf : (cs : Cases) (rest : List Task) → S (cases_first cs rest) ≡ S rest
  cf no_cases rest = refl
  cf (case c body cs) rest = (cm c (cases_first cs rest) ∙ (cf cs rest ∙ refl))
