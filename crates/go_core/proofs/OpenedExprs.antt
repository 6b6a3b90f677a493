-- The tasks of a sound expression give values of its types to what remains.
use Rattle.std.proofs.Common.{inl, inr, refl, sym, ap, ◌∙◌, subst, arith}
use Rattle.std.specs.Prelude.{◌≡◌, ℕ, zero, suc, ◌+◌, List, [], ◌∷◌, ◌++◌, length, Option, Some, None, slice_get}
use Rattle.std.proofs.lemmas.List.{length-append}
use Rattle.gj_base.specs.declared.kind.Op.{Op}
use Rattle.go_type.specs.declared.types.IntName.TheVariants as integer
use Rattle.go_type.specs.Tree as ty
use Rattle.go_type.specs.Tree.{Ty, Tys}
use Rattle.go_type.specs.Underlying.{underlying}
use Rattle.go_core.specs.CoreTree as core
use Rattle.go_core.specs.CoreTree.{Expr, Exprs, no_exprs, expr, CorePlace, Bound, no_bound, bound, Elements, no_elements, element, Pairs, no_pairs, pair, Callee, Var, CoreFunc, CoreProgram}
use Rattle.go_core.specs.TypeOf.{listed_types, types_of, all_types, one_type, value_type, channel_type, with_truth, field_in, FieldTy, int_type}
use Rattle.go_core.specs.SoundNode.{Around, with_all, IsInt, IsMap, IsGate, IsChannel, IsInterface, MayBe, Calls, BuildsPart, IsSignature, method_at, under_one, CallsValue, CallsDynamic, types_of_vars}
use Rattle.go_core.specs.Sound.{SoundExpr, SoundExprs, SoundPlace, SoundBound, SoundElements, SoundPairs, SoundCallee, SoundGate, Gives, LiesAt, IsMapOf, IsChannelOf, BinaryFits}
use Rattle.go_core.specs.Operator as op
use Rattle.go_core.specs.Opened.{evaluated, placed, all_evaluated, bound_first, elements_first, pairs_first, callee_first, has, one_if, indexes_of, pair_count, value_count, values_of, callee_count, call_count, called_of}
use Rattle.go_core.specs.Goroutine as task
use Rattle.go_core.specs.Goroutine.{Task}
use Rattle.go_core.specs.Typed.{World}
use Rattle.go_core.specs.Applies.{Slot, a_value, a_place, values_of_types, pushed_slots, slot_if, pair_slots, BuildsParts, constant_applies, zero_applies, global_applies, pointer_applies, field_applies, elem_applies, slice_elem_applies, read_applies, address_applies, place_applies, unary_applies, binary_applies, concat_applies, not_applies, equal_applies, less_applies, convert_applies, byte_applies, slice_applies, build_applies, build_map_applies, bind_applies, bind_dynamic_applies, get_applies, len_applies, cap_applies, append_applies, copy_applies, new_slice_applies, new_map_applies, new_channel_applies, new_applies, wrap_applies, assert_applies, basic_applies, gate_applies}
use Rattle.go_core.specs.TasksTyped.{with_ids, ScopeTyped, CallTyped, calls_method, TasksTyped, operate_typed, local_typed, closure_typed, where_true_typed, where_false_typed, bind_typed, call_typed, recover_typed, receive_typed, add_typed}
use Rattle.go_core.proofs.OpenedLemmas.{pushed_append, values_append, types_counted, truth_counted, pointed, array_is, slice_is, field_is, map_is, scope_var}
use Rattle.go_core.proofs.OpenedScope.{same_world, within_ids, declarable_vars, scope_all, captured_had, func_value}
use Rattle.go_core.proofs.OpenedCalls.{one_of, function_call, value_call, dynamic_call}
use Rattle.go_core.proofs.TasksGrow.{tasks_grow}

-- ---- counts

pair_length : (n : ℕ) (k v : Ty) → length (pair_slots n k v) ≡ n + n
pair_length zero k v = refl
pair_length (suc n) k v = let e = pair_length n k v in omega arith

slot_length : (b : Bound) (t : Ty) → length (slot_if (has b) t) ≡ one_if b
slot_length no_bound t = refl
slot_length (bound e) t = refl

sliced_length : (x : Slot) (ls gs ms : List Slot) (i j k : ℕ) → length ls ≡ i → length gs ≡ j → length ms ≡ k → length (x ∷ ls ++ gs ++ ms) ≡ 1 + i + j + k
sliced_length x ls gs ms i j k f g h = let e : length ((ls ++ gs) ++ ms) ≡ length (ls ++ gs) + length ms = length-append (ls ++ gs) ms in let d : length (ls ++ gs) ≡ length ls + length gs = length-append ls gs in omega (arith, e, d, f, g, h)

pub channel_of : (u : Ty) → IsChannel u → (t : Ty) × (channel_type u ≡ Some t) × IsChannelOf u t
channel_of (ty.chan d t) h = (t, refl, refl)
channel_of _ h = absurd h

of_map : (u k v a b : Ty) → u ≡ ty.mapping k v → IsMapOf u a b → (k ≡ a) × (v ≡ b)
of_map u k v a b e h = subst (λ x. IsMapOf x a b) e h

map_types : (u : Ty) → IsMap u → (k : Ty) × (v : Ty) × (u ≡ ty.mapping k v)
map_types (ty.mapping k v) h = (k, v, refl)
map_types _ h = absurd h

gate_field : (o : Option FieldTy) → IsGate o → (f : FieldTy) × (o ≡ Some f) × (f.type_ ≡ ty.pointer int_type)
gate_field None h = absurd h
gate_field (Some f) h = (f, refl, h.1)

builds_none : (p : CoreProgram) (t u : Ty) (count i : ℕ) → BuildsPart p t u count i None → ⊥
builds_none p t (ty.slice u) count i h = h
builds_none p t (ty.array n u) count i h = h
builds_none p t (ty.struct fs) count i h = h
builds_none p t _ count i h = h

-- what is asked of is an interface value
asked : (p : CoreProgram) (t u : Ty) → MayBe p t u → IsInterface u
asked p t (ty.interface ms) h = tt
asked p t _ h = absurd h

binary_is : (p : CoreProgram) (o : Op) (t : Ty) (a b : Expr) → IsInt (underlying p.names t) → BinaryFits p o t a b → Gives p a t × (u : Ty) × Gives p b u × IsInt (underlying p.names u)
binary_is p o t a b i (inl h) = (h.1, t, h.2, i)
binary_is p o t a b i (inr h) = (h.1, h.2.0, h.2.1, h.2.2)

module _ (p : CoreProgram) where
  -- how many values a sound expression gives
  pub counted : (e : Expr) (a : Around) → SoundExpr p a e → length (types_of p.names e) ≡ value_count e
  counted (core.call rs c es) a h = types_counted rs
  counted (core.map_get t ok e key) a h = let m = map_is (underlying p.names t) h.3 h.5 in ap (λ (u : Ty). length (with_truth ok (value_type u))) m.1 ∙ truth_counted ok m.0
  counted (core.assert_ t ok e) a h = truth_counted ok t
  counted (core.receive t ok e) a h = let c = channel_of (underlying p.names t) h.2 in ap (λ o. length (with_truth ok o)) c.1 ∙ truth_counted ok c.0
  counted (core.let_in vars es body) a h = counted body (with_all vars a) h.3
  counted _ a h = refl

  pub all_counted : (es : Exprs) (a : Around) → SoundExprs p a es → length (all_types p.names es) ≡ values_of es
  all_counted no_exprs a h = refl
  all_counted (expr e es) a h =
      let m = counted e a h.0 in let n = all_counted es a h.1 in let l = length-append (types_of p.names e) (all_types p.names es) in omega arith

  pub bound_type : (a : Around) (b : Bound) → SoundBound p a b → (t : Ty) × IsInt (underlying p.names t)
  bound_type a no_bound h = (int_type, tt)
  bound_type a (bound e) h = (h.1.0, h.1.2)

  -- the types of what a callee itself gives
  abbrev pub callee_types : Callee → List Ty
  callee_types (core.function f) = []
  callee_types (core.method n) = []
  callee_types (core.func_value e) = types_of p.names e
  callee_types (core.dynamic name package_ e) = types_of p.names e

  -- what is called takes that, and the operands
  pub record CalleeTyped (had : List ℕ) (c : Callee) (operands : List Ty) (results : Tys) : Type 0 where
    pub counted_before : length (callee_types c) ≡ callee_count c
    pub calls : CallTyped p had (called_of c) (callee_types c ++ operands) (listed_types results)

  pub callee_typed : (had : List ℕ) (a : Around) (c : Callee) (operands : List Ty) (results : Tys) → ScopeTyped p had a → Calls p a.vars c operands results → CalleeTyped had c operands results
  callee_typed had a (core.function f) os rs s h = record { counted_before = refl; calls = function_call p had a.vars f os rs s.in_scope h.1 h.0 }
  callee_typed had a (core.method n) os rs s h = record { counted_before = refl; calls = calls_method n os rs h }
  callee_typed had a (core.func_value e) os rs s h =
      let o = one_of (λ t. CallsValue (under_one p t) os rs) (types_of p.names e) (λ x. x) h in
      record {
        counted_before = ap length o.1;
        calls = subst (λ ts. CallTyped p had task.the_value (ts ++ os) (listed_types rs)) (sym o.1) (value_call p had o.0 os rs o.2);
      }
  callee_typed had a (core.dynamic name package_ e) os rs s h =
      let o = one_of (λ t. CallsDynamic (method_at name package_ (under_one p t)) os rs) (types_of p.names e) (λ x. x) h in
      record {
        counted_before = ap length o.1;
        calls = subst (λ ts. CallTyped p had (task.the_dynamic name package_) (ts ++ os) (listed_types rs)) (sym o.1) (dynamic_call p had o.0 name package_ os rs o.2);
      }

  -- the type of an element that is built
  pub element_is : (t : Ty) (count i : ℕ) (e : Expr) → BuildsPart p t (underlying p.names t) count i (one_type (types_of p.names e))
      → (v : Ty) × (types_of p.names e ≡ v ∷ []) × BuildsPart p t (underlying p.names t) count i (Some v)
  element_is t count i e h = one_of (λ o. BuildsPart p t (underlying p.names t) count i o) (types_of p.names e) (builds_none p t (underlying p.names t) count i) h

  pub element_types : (a : Around) (t : Ty) (count : ℕ) (es : Elements) → SoundElements p a t count es → List Ty
  element_types a t count no_elements h = []
  element_types a t count (element i e es) h = (element_is t count i e h.1).0 ∷ element_types a t count es h.2

  pub elements_build : (a : Around) (t : Ty) (count : ℕ) (es : Elements) (h : SoundElements p a t count es) → BuildsParts p t count (indexes_of es) (element_types a t count es h)
  unfolding element_types
  elements_build a t count no_elements h = tt
  elements_build a t count (element i e es) h = ((element_is t count i e h.1).2, elements_build a t count es h.2)

  pub elements_counted : (a : Around) (t : Ty) (count : ℕ) (es : Elements) (h : SoundElements p a t count es) → length (values_of_types (element_types a t count es h)) ≡ length (indexes_of es)
  unfolding element_types
  elements_counted a t count no_elements h = refl
  elements_counted a t count (element i e es) h = ap suc (elements_counted a t count es h.2)

module _ (p : CoreProgram) (w : World) (results : List Ty) where
  abbrev T : List ℕ → List Slot → List Task → Type 0
  T had st ts = TasksTyped p w results had st ts

  pub one : (had : List ℕ) (e : Expr) (t : Ty) → Gives p e t → (st : List Slot) (rest : List Task) → T had (a_value t ∷ st) rest → T had (pushed_slots (values_of_types (types_of p.names e)) st) rest
  one had e t g st rest h = subst (λ ts. T had (pushed_slots (values_of_types ts) st) rest) (sym g) h

  pub of_types : (had : List ℕ) (ts us : List Ty) → ts ≡ us → (st : List Slot) (rest : List Task) → T had (pushed_slots (values_of_types us) st) rest → T had (pushed_slots (values_of_types ts) st) rest
  of_types had ts us g st rest h = subst (λ xs. T had (pushed_slots (values_of_types xs) st) rest) (sym g) h

  pub both : (had : List ℕ) (xs ys : List Ty) (st : List Slot) (rest : List Task) → T had (pushed_slots (values_of_types (xs ++ ys)) st) rest
      → T had (pushed_slots (values_of_types ys) (pushed_slots (values_of_types xs) st)) rest
  both had xs ys st rest h = subst (λ ss. T had ss rest) (ap (λ l. pushed_slots l st) (values_append xs ys) ∙ pushed_append (values_of_types xs) (values_of_types ys) st) h

  apart : (had : List ℕ) (xs ys st : List Slot) (rest : List Task) → T had (pushed_slots (xs ++ ys) st) rest → T had (pushed_slots ys (pushed_slots xs st)) rest
  apart had xs ys st rest h = subst (λ ss. T had ss rest) (pushed_append xs ys st) h

  mutual
    unfolding bound_type element_types

    pub ev : (e : Expr) (had : List ℕ) (a : Around) (st : List Slot) (rest : List Task) → ScopeTyped p had a → SoundExpr p a e
        → T had (pushed_slots (values_of_types (types_of p.names e)) st) rest → T had st (evaluated e rest)
    ev (core.constant t c) had a st rest s h k = operate_typed had [] (a_value t ∷ []) st (op.give_constant c) 0 rest (constant_applies c t h) refl k
    ev (core.zero_value t) had a st rest s h k = operate_typed had [] (a_value t ∷ []) st (op.give_zero t) 0 rest (zero_applies t) refl k
    ev (core.read t place) had a st rest s h k = pl place had a st (task.operate (op.read_place t) 1 ∷ rest) t s h.0 h.1 (operate_typed had (a_place t ∷ []) (a_value t ∷ []) st (op.read_place t) 1 rest (read_applies t) refl k)
    ev (core.address t place) had a st rest s h k =
        pl place had a st (task.operate op.to_address 1 ∷ rest) h.1 s h.0 h.2
        (operate_typed had (a_place h.1 ∷ []) (a_value (ty.pointer h.1) ∷ []) st op.to_address 1 rest (address_applies h.1) refl (subst (λ u. T had (a_value u ∷ st) rest) h.3 k))
    ev (core.unary o t e) had a st rest s h k =
        ev e had a st (task.operate (op.to_unary o t) 1 ∷ rest) s h.0 (one had e t h.2 st _ (operate_typed had (a_value t ∷ []) (a_value t ∷ []) st (op.to_unary o t) 1 rest (unary_applies o t h.3) refl k))
    ev (core.binary o t l r) had a st rest s h k =
        let b = binary_is p o t l r h.2 h.3 in
        ev l had a st (evaluated r (task.operate (op.to_binary o t) 2 ∷ rest)) s h.0 (one had l t b.0 st _
        (ev r had a (a_value t ∷ st) (task.operate (op.to_binary o t) 2 ∷ rest) s h.1 (one had r b.1 b.2 (a_value t ∷ st) _
        (operate_typed had (a_value t ∷ a_value b.1 ∷ []) (a_value t ∷ []) st (op.to_binary o t) 2 rest (binary_applies o t b.1 h.2 b.3) refl k))))
    ev (core.concat t l r) had a st rest s h k =
        ev l had a st (evaluated r (task.operate op.to_concat 2 ∷ rest)) s h.0 (one had l t h.2 st _
        (ev r had a (a_value t ∷ st) (task.operate op.to_concat 2 ∷ rest) s h.1 (one had r t h.3 (a_value t ∷ st) _
        (operate_typed had (a_value t ∷ a_value t ∷ []) (a_value t ∷ []) st op.to_concat 2 rest (concat_applies t h.4) refl k))))
    ev (core.equal negated t u l r) had a st rest s h k =
        ev l had a st (evaluated r (task.operate (op.to_equal negated t) 2 ∷ rest)) s h.0 (one had l t h.2 st _
        (ev r had a (a_value t ∷ st) (task.operate (op.to_equal negated t) 2 ∷ rest) s h.1 (one had r t h.3 (a_value t ∷ st) _
        (operate_typed had (a_value t ∷ a_value t ∷ []) (a_value u ∷ []) st (op.to_equal negated t) 2 rest (equal_applies negated t u h.5) refl k))))
    ev (core.less o t u l r) had a st rest s h k =
        ev l had a st (evaluated r (task.operate (op.to_less o t) 2 ∷ rest)) s h.0 (one had l t h.3 st _
        (ev r had a (a_value t ∷ st) (task.operate (op.to_less o t) 2 ∷ rest) s h.1 (one had r t h.4 (a_value t ∷ st) _
        (operate_typed had (a_value t ∷ a_value t ∷ []) (a_value u ∷ []) st (op.to_less o t) 2 rest (less_applies o t u h.5 h.6) refl k))))
    ev (core.and_then t l r) had a st rest s h k =
        ev l had a st (task.only_where_true r ∷ rest) s h.0 (one had l t h.2 st _ (where_true_typed had st t r rest h.4 (ev r had a st rest s h.1 (one had r t h.3 st rest k)) k))
    ev (core.or_else t l r) had a st rest s h k =
        ev l had a st (task.only_where_false r ∷ rest) s h.0 (one had l t h.2 st _ (where_false_typed had st t r rest h.4 (ev r had a st rest s h.1 (one had r t h.3 st rest k)) k))
    ev (core.not_ t e) had a st rest s h k =
        ev e had a st (task.operate op.to_not 1 ∷ rest) s h.0 (one had e t h.1 st _ (operate_typed had (a_value t ∷ []) (a_value t ∷ []) st op.to_not 1 rest (not_applies t h.2) refl k))
    ev (core.convert from to e) had a st rest s h k =
        ev e had a st (task.operate (op.to_converted from to) 1 ∷ rest) s h.0 (one had e from h.1 st _
        (operate_typed had (a_value from ∷ []) (a_value to ∷ []) st (op.to_converted from to) 1 rest (convert_applies from to h.3) refl k))
    ev (core.byte_at e i) had a st rest s h k =
        ev e had a st (evaluated i (task.operate op.to_byte 2 ∷ rest)) s h.0 (one had e h.2.0 h.2.1 st _
        (ev i had a (a_value h.2.0 ∷ st) (task.operate op.to_byte 2 ∷ rest) s h.1 (one had i h.3.0 h.3.1 (a_value h.2.0 ∷ st) _
        (operate_typed had (a_value h.2.0 ∷ a_value h.3.0 ∷ []) (a_value (ty.int integer.Uint8) ∷ []) st op.to_byte 2 rest (byte_applies h.2.0 h.3.0 h.2.2 h.3.2) refl k))))
    ev (core.slice_of from t e low high limit) had a st rest s h k =
        let l = bound_type p a low h.1 in let g = bound_type p a high h.2 in let m = bound_type p a limit h.3 in
        let ls = slot_if (has low) l.0 in let gs = slot_if (has high) g.0 in let ms = slot_if (has limit) m.0 in
        let n = 1 + one_if low + one_if high + one_if limit in
        let o = op.to_slice from (has low) (has high) (has limit) in
        let count = sliced_length (a_value from) ls gs ms (one_if low) (one_if high) (one_if limit) (slot_length low l.0) (slot_length high g.0) (slot_length limit m.0) in
        ev e had a st (bound_first low (bound_first high (bound_first limit (task.operate o n ∷ rest)))) s h.0 (one had e from h.4 st _
        (bd low had a (a_value from ∷ st) (bound_first high (bound_first limit (task.operate o n ∷ rest))) s h.1
        (bd high had a (pushed_slots ls (a_value from ∷ st)) (bound_first limit (task.operate o n ∷ rest)) s h.2
        (bd limit had a (pushed_slots gs (pushed_slots ls (a_value from ∷ st))) (task.operate o n ∷ rest) s h.3
        (subst (λ ss. T had (pushed_slots ms ss) (task.operate o n ∷ rest)) (pushed_append ls gs (a_value from ∷ st)) (apart had (ls ++ gs) ms (a_value from ∷ st) _
        (operate_typed had (a_value from ∷ ls ++ gs ++ ms) (a_value t ∷ []) st o n rest (slice_applies from t (has low) (has high) (has limit) l.0 g.0 m.0 l.1 g.1 m.1 h.5) count k)))))))
    ev (core.build t count es) had a st rest s h k =
        el es had a t count st (task.operate (op.to_built t count (indexes_of es)) (length (indexes_of es)) ∷ rest) s h.0
        (operate_typed had (values_of_types (element_types p a t count es h.0)) (a_value t ∷ []) st (op.to_built t count (indexes_of es)) (length (indexes_of es)) rest
        (build_applies t count (indexes_of es) (element_types p a t count es h.0) (elements_build p a t count es h.0) h.2) (elements_counted p a t count es h.0) k)
    ev (core.build_map t ps) had a st rest s h k =
        let m = map_types (underlying p.names t) h.2 in
        pr ps had a t m.0 m.1 m.2 st (task.operate (op.to_built_map t) (pair_count ps + pair_count ps) ∷ rest) s h.0
        (operate_typed had (pair_slots (pair_count ps) m.0 m.1) (a_value t ∷ []) st (op.to_built_map t) (pair_count ps + pair_count ps) rest
        (build_map_applies t m.0 m.1 (pair_count ps) m.2) (pair_length (pair_count ps) m.0 m.1) k)
    ev (core.closure t f) had a st rest s h k =
        let g = func_value (slice_get p.funcs f) a.vars t h.0 in
        closure_typed had st f g.0 rest g.1 (captured_had p had a.vars g.0.captured s.in_scope g.2) h.1 (subst (λ u. T had (a_value u ∷ st) rest) g.3 k)
    ev (core.bind t n e) had a st rest s h k =
        ev e had a st (task.operate (op.to_bound n) 1 ∷ rest) s h.0 (one had e n.type_ h.1 st _
        (operate_typed had (a_value n.type_ ∷ []) (a_value t ∷ []) st (op.to_bound n) 1 rest (bind_applies n t h.2) refl k))
    ev (core.bind_dynamic t name package_ e) had a st rest s h k =
        let o = one_of (λ u. IsSignature (method_at name package_ (under_one p u)) t) (types_of p.names e) (λ x. x) h.1 in
        ev e had a st (task.operate (op.to_bound_dynamic name package_) 1 ∷ rest) s h.0 (one had e o.0 o.1 st _
        (operate_typed had (a_value o.0 ∷ []) (a_value t ∷ []) st (op.to_bound_dynamic name package_) 1 rest (bind_dynamic_applies name package_ o.0 t o.2) refl k))
    ev (core.call rs c es) had a st rest s h k =
        let g = callee_typed p had a c (all_types p.names es) rs s h.2 in
        let n = all_counted p es a h.1 in let m = g.counted_before in let l = length-append (callee_types p c) (all_types p.names es) in
        let last = task.call_with (called_of c) (call_count c es) ∷ rest in
        ca c had a st (all_evaluated es last) s h.0 (exs es had a (pushed_slots (values_of_types (callee_types p c)) st) last s h.1
        (both had (callee_types p c) (all_types p.names es) st last
        (call_typed had st (called_of c) (callee_types p c ++ all_types p.names es) (listed_types rs) (call_count c es) rest g.calls (omega arith) k)))
    ev (core.map_get t ok e key) had a st rest s h k =
        let m = map_is (underlying p.names t) h.3 h.5 in
        ev e had a st (evaluated key (task.operate (op.get_entry t ok) 2 ∷ rest)) s h.0 (one had e t h.2 st _
        (ev key had a (a_value t ∷ st) (task.operate (op.get_entry t ok) 2 ∷ rest) s h.1 (one had key h.3 h.4 (a_value t ∷ st) _
        (operate_typed had (a_value t ∷ a_value h.3 ∷ []) (values_of_types (with_truth ok (Some m.0))) st (op.get_entry t ok) 2 rest (get_applies t h.3 m.0 ok m.1) refl
        (subst (λ (u : Ty). T had (pushed_slots (values_of_types (with_truth ok (value_type u))) st) rest) m.1 k)))))
    ev (core.len from e) had a st rest s h k =
        ev e had a st (task.operate (op.to_len from) 1 ∷ rest) s h.0 (one had e from h.1 st _ (operate_typed had (a_value from ∷ []) (a_value int_type ∷ []) st (op.to_len from) 1 rest (len_applies from h.2) refl k))
    ev (core.cap from e) had a st rest s h k =
        ev e had a st (task.operate (op.to_cap from) 1 ∷ rest) s h.0 (one had e from h.1 st _ (operate_typed had (a_value from ∷ []) (a_value int_type ∷ []) st (op.to_cap from) 1 rest (cap_applies from h.2) refl k))
    ev (core.append t from l r) had a st rest s h k =
        ev l had a st (evaluated r (task.operate (op.to_appended t) 2 ∷ rest)) s h.0 (one had l t h.2 st _
        (ev r had a (a_value t ∷ st) (task.operate (op.to_appended t) 2 ∷ rest) s h.1 (one had r from h.3 (a_value t ∷ st) _
        (operate_typed had (a_value t ∷ a_value from ∷ []) (a_value t ∷ []) st (op.to_appended t) 2 rest (append_applies t from h.4) refl k))))
    ev (core.copy_elems t from l r) had a st rest s h k =
        ev l had a st (evaluated r (task.operate (op.to_copied t) 2 ∷ rest)) s h.0 (one had l t h.2 st _
        (ev r had a (a_value t ∷ st) (task.operate (op.to_copied t) 2 ∷ rest) s h.1 (one had r from h.3 (a_value t ∷ st) _
        (operate_typed had (a_value t ∷ a_value from ∷ []) (a_value int_type ∷ []) st (op.to_copied t) 2 rest (copy_applies t from h.4) refl k))))
    ev (core.make_slice t n capacity) had a st rest s h k =
        let c = bound_type p a capacity h.1 in let l = slot_length capacity c.0 in
        let last = task.operate (op.to_new_slice t) (1 + one_if capacity) ∷ rest in
        ev n had a st (bound_first capacity last) s h.0 (one had n h.2.0 h.2.1 st _
        (bd capacity had a (a_value h.2.0 ∷ st) last s h.1
        (operate_typed had (a_value h.2.0 ∷ slot_if (has capacity) c.0) (a_value t ∷ []) st (op.to_new_slice t) (1 + one_if capacity) rest (new_slice_applies t h.2.0 (has capacity) c.0 h.2.2 c.1 h.4) (omega arith) k)))
    ev (core.make_map t count) had a st rest s h k =
        let c = bound_type p a count h.0 in
        bd count had a st (task.operate op.to_new_map (one_if count) ∷ rest) s h.0
        (operate_typed had (slot_if (has count) c.0) (a_value t ∷ []) st op.to_new_map (one_if count) rest (new_map_applies t (has count) c.0 c.1 h.2) (slot_length count c.0) k)
    ev (core.make_chan t capacity) had a st rest s h k =
        let c = bound_type p a capacity h.0 in
        bd capacity had a st (task.operate op.to_new_channel (one_if capacity) ∷ rest) s h.0
        (operate_typed had (slot_if (has capacity) c.0) (a_value t ∷ []) st op.to_new_channel (one_if capacity) rest (new_channel_applies t (has capacity) c.0 c.1 h.2) (slot_length capacity c.0) k)
    ev (core.new_ t) had a st rest s h k = operate_typed had [] (a_value (ty.pointer t) ∷ []) st (op.to_new t) 0 rest (new_applies t) refl k
    ev (core.wrap from t e) had a st rest s h k =
        ev e had a st (task.operate (op.to_interface from) 1 ∷ rest) s h.0 (one had e from h.1 st _
        (operate_typed had (a_value from ∷ []) (a_value t ∷ []) st (op.to_interface from) 1 rest (wrap_applies from t h.2) refl k))
    ev (core.assert_ t ok e) had a st rest s h k =
        ev e had a st (task.operate (op.to_asserted t ok) 1 ∷ rest) s h.0 (one had e h.1.0 h.1.1 st _
        (operate_typed had (a_value h.1.0 ∷ []) (values_of_types (with_truth ok (Some t))) st (op.to_asserted t ok) 1 rest (assert_applies h.1.0 t ok (asked p t (underlying p.names h.1.0) h.1.2)) refl k))
    ev (core.basic t e) had a st rest s h k =
        ev e had a st (task.operate op.to_basic 1 ∷ rest) s h.0 (one had e t h.1 st _ (operate_typed had (a_value t ∷ []) (a_value t ∷ []) st op.to_basic 1 rest (basic_applies t h.2) refl k))
    ev (core.receive t ok e) had a st rest s h k =
        let c = channel_of (underlying p.names t) h.2 in
        ev e had a st (task.receive_from t ok ∷ rest) s h.0 (one had e t h.1 st _
        (receive_typed had st t c.0 ok rest c.2 (subst (λ o. T had (pushed_slots (values_of_types (with_truth ok o)) st) rest) c.1 k)))
    ev (core.recover_ t) had a st rest s h k = recover_typed had st t rest h k
    ev (core.gate_make e) had a st rest s h k = absurd h
    ev (core.gate_add cell n) had a st rest s h k =
        ga cell had a st (evaluated n (task.add_to_gate ∷ rest)) s h.0
        (ev n had a (a_place int_type ∷ st) (task.add_to_gate ∷ rest) s h.1 (one had n int_type h.2 (a_place int_type ∷ st) _ (add_typed had st rest k)))
    ev (core.let_in vars es body) had a st rest s h k =
        let vs = declarable_vars p a.declarable vars s.declarable h.1 in
        exs es had a st (task.bind_vars vars ∷ evaluated body rest) s h.0 (of_types had (all_types p.names es) (types_of_vars vars) h.2 st _
        (bind_typed had st vars (evaluated body rest) vs (ev body (with_ids vars had) (with_all vars a) st rest (scope_all p vars had a s vs) h.3
        (tasks_grow p w w results (same_world w) had _ rest k (with_ids vars had) (within_ids vars had)))))

    pub ga : (e : Expr) (had : List ℕ) (a : Around) (st : List Slot) (rest : List Task) → ScopeTyped p had a → SoundGate p a e → T had (a_place int_type ∷ st) rest → T had st (evaluated e rest)
    ga (core.gate_make (core.address t (core.field q n place))) had a st rest s h k =
        let g = gate_field (field_in (underlying p.names q) n) h.2 in
        pl place had a st (task.operate (op.at_field q n) 1 ∷ task.operate op.to_address 1 ∷ task.operate op.to_gate 1 ∷ rest) q s h.0 h.1
        (operate_typed had (a_place q ∷ []) (a_place g.0.type_ ∷ []) st (op.at_field q n) 1 _ (field_applies q n g.0 g.1) refl
        (operate_typed had (a_place g.0.type_ ∷ []) (a_place g.0.type_ ∷ []) st op.to_address 1 _ (place_applies g.0.type_) refl
        (subst (λ u. T had (a_place u ∷ st) (task.operate op.to_gate 1 ∷ rest)) (sym g.2)
        (operate_typed had (a_place (ty.pointer int_type) ∷ []) (a_place int_type ∷ []) st op.to_gate 1 rest gate_applies refl k))))
    ga _ had a st rest s h k = absurd h

    pub pl : (place : CorePlace) (had : List ℕ) (a : Around) (st : List Slot) (rest : List Task) (t : Ty) → ScopeTyped p had a → SoundPlace p a place → LiesAt p a.vars place t
        → T had (a_place t ∷ st) rest → T had st (placed place rest)
    pl (core.local_ v) had a st rest t s h l k = local_typed had st v t rest (scope_var p had a.vars v t s.in_scope l) k
    pl (core.global n) had a st rest t s h l k = operate_typed had [] (a_place t ∷ []) st (op.at_global n) 0 rest (global_applies n t l) refl k
    pl (core.deref e) had a st rest t s h l k =
        let d = pointed p (types_of p.names e) t l in
        ev e had a st (task.operate op.at_pointer 1 ∷ rest) s h.0 (one had e d.by d.is_one st _
        (operate_typed had (a_value d.by ∷ []) (a_place t ∷ []) st op.at_pointer 1 rest (pointer_applies d.by t d.points) refl k))
    pl (core.field q n place) had a st rest t s h l k =
        let g = field_is (field_in (underlying p.names q) n) t l in
        pl place had a st (task.operate (op.at_field q n) 1 ∷ rest) q s h.0 h.1
        (operate_typed had (a_place q ∷ []) (a_place g.0.type_ ∷ []) st (op.at_field q n) 1 rest (field_applies q n g.0 g.1) refl (subst (λ u. T had (a_place u ∷ st) rest) (sym g.2) k))
    pl (core.elem q place i) had a st rest t s h l k =
        let n = array_is (underlying p.names q) t h.3 l in
        pl place had a st (evaluated i (task.operate (op.at_elem q) 2 ∷ rest)) q s h.0 h.2
        (ev i had a (a_place q ∷ st) (task.operate (op.at_elem q) 2 ∷ rest) s h.1 (one had i h.4.0 h.4.1 (a_place q ∷ st) _
        (operate_typed had (a_place q ∷ a_value h.4.0 ∷ []) (a_place t ∷ []) st (op.at_elem q) 2 rest (elem_applies q h.4.0 t n.0 n.1 h.4.2) refl k)))
    pl (core.slice_elem q e i) had a st rest t s h l k =
        ev e had a st (evaluated i (task.operate (op.at_slice_elem q) 2 ∷ rest)) s h.0 (one had e q h.2 st _
        (ev i had a (a_value q ∷ st) (task.operate (op.at_slice_elem q) 2 ∷ rest) s h.1 (one had i h.4.0 h.4.1 (a_value q ∷ st) _
        (operate_typed had (a_value q ∷ a_value h.4.0 ∷ []) (a_place t ∷ []) st (op.at_slice_elem q) 2 rest (slice_elem_applies q h.4.0 t (slice_is (underlying p.names q) t h.3 l) h.4.2) refl k))))

    pub exs : (es : Exprs) (had : List ℕ) (a : Around) (st : List Slot) (rest : List Task) → ScopeTyped p had a → SoundExprs p a es
        → T had (pushed_slots (values_of_types (all_types p.names es)) st) rest → T had st (all_evaluated es rest)
    exs no_exprs had a st rest s h k = k
    exs (expr e es) had a st rest s h k =
        ev e had a st (all_evaluated es rest) s h.0 (exs es had a (pushed_slots (values_of_types (types_of p.names e)) st) rest s h.1 (both had (types_of p.names e) (all_types p.names es) st rest k))

    pub bd : (b : Bound) (had : List ℕ) (a : Around) (st : List Slot) (rest : List Task) (s : ScopeTyped p had a) (h : SoundBound p a b)
        → T had (pushed_slots (slot_if (has b) (bound_type p a b h).0) st) rest → T had st (bound_first b rest)
    bd no_bound had a st rest s h k = k
    bd (bound e) had a st rest s h k = ev e had a st rest s h.0 (one had e h.1.0 h.1.1 st rest k)

    pub el : (es : Elements) (had : List ℕ) (a : Around) (t : Ty) (count : ℕ) (st : List Slot) (rest : List Task) (s : ScopeTyped p had a) (h : SoundElements p a t count es)
        → T had (pushed_slots (values_of_types (element_types p a t count es h)) st) rest → T had st (elements_first es rest)
    el no_elements had a t count st rest s h k = k
    el (element i e es) had a t count st rest s h k =
        let v = element_is p t count i e h.1 in
        ev e had a st (elements_first es rest) s h.0 (one had e v.0 v.1 st _ (el es had a t count (a_value v.0 ∷ st) rest s h.2 k))

    pub pr : (ps : Pairs) (had : List ℕ) (a : Around) (t x y : Ty) → underlying p.names t ≡ ty.mapping x y → (st : List Slot) (rest : List Task) → ScopeTyped p had a → SoundPairs p a t ps
        → T had (pushed_slots (pair_slots (pair_count ps) x y) st) rest → T had st (pairs_first ps rest)
    pr no_pairs had a t x y m st rest s h k = k
    pr (pair key e ps) had a t x y m st rest s h k =
        let o = of_map (underlying p.names t) x y h.2.0 h.2.1 m h.2.4 in
        ev key had a st (evaluated e (pairs_first ps rest)) s h.0 (one had key x (h.2.2 ∙ ap (λ u. u ∷ []) (sym o.0)) st _
        (ev e had a (a_value x ∷ st) (pairs_first ps rest) s h.1 (one had e y (h.2.3 ∙ ap (λ u. u ∷ []) (sym o.1)) (a_value x ∷ st) _
        (pr ps had a t x y m (a_value y ∷ a_value x ∷ st) rest s h.3 k))))

    pub ca : (c : Callee) (had : List ℕ) (a : Around) (st : List Slot) (rest : List Task) → ScopeTyped p had a → SoundCallee p a c
        → T had (pushed_slots (values_of_types (callee_types p c)) st) rest → T had st (callee_first c rest)
    ca (core.function f) had a st rest s h k = k
    ca (core.method n) had a st rest s h k = k
    ca (core.func_value e) had a st rest s h k = ev e had a st rest s h k
    ca (core.dynamic name package_ e) had a st rest s h k = ev e had a st rest s h k
