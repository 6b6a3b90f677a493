-- A function that is called with operands of its types has a frame that is typed.
use Rattle.std.proofs.Common.{◌⊎◌, inl, inr, refl, sym, ap, ◌∙◌, subst}
use Rattle.std.specs.Prelude.{◌≡◌, ℕ, suc, List, [], ◌∷◌, ◌++◌, Bool, true, false, if◌then◌else◌, Option, Some, None, slice_get, length, take, drop}
use Rattle.std.proofs.lemmas.List.{take-append-drop}
use Rattle.go_type.specs.Tree as ty
use Rattle.go_type.specs.Tree.{Ty, Tys, Fields, Specs, no_tys, more_tys, no_fields, more_fields, no_specs, more_specs}
use Rattle.go_core.specs.Layout.{shape_of}
use Rattle.go_core.specs.SameType.{same_type}
use Rattle.go_core.specs.Untagged.{untagged_list, AreAlike}
use Rattle.go_core.specs.Memory as cell
use Rattle.go_core.specs.Memory.{Value, Memory, zeros, next_base, with_fresh}
use Rattle.go_core.specs.CoreTree.{Var, CoreFunc, MethodRow, CoreProgram}
use Rattle.go_core.specs.TypeOf.{listed_types}
use Rattle.go_core.specs.SoundNode.{Around, types_of_vars, IsRowOf}
use Rattle.go_core.specs.SoundProgram.{Sound, SoundFunc, captured_vars}
use Rattle.go_core.specs.Opened.{all_opened, type_count}
use Rattle.go_core.specs.Goroutine.{Task, push_value, receive_through, Purpose, called, deferred, reporting, Frame}
use Rattle.go_core.specs.Calls.{Bindings, with_vars, with_zeros, captured_places, as_it_is, through, to_a_copy, receiver_of, Adapted, adapted, Entered, result_vars, frame_of, with_results, entered_with, entered_at, entered}
use Rattle.go_core.specs.Leaves.{leaves_of}
use Rattle.go_core.specs.Typed.{World, AreAt, Takes, OperandsFit, IsOf, MemoryTyped, Extends}
use Rattle.go_core.specs.TasksTyped.{with_ids, AreVars, HasVar, HasVars, labels_typed, TasksTyped, no_task, push_typed, through_typed}
use Rattle.go_core.specs.Applies.{values_of_types, AreIn}
use Rattle.go_core.specs.WellFormed.{ids_of, PurposeFits, FrameTyped, Remains}
use Rattle.go_core.proofs.TypedGrowth.{lists_grow, are_in_grow, are_at}
use Rattle.go_core.proofs.TasksGrow.{Within, has_vars}
use Rattle.go_core.proofs.UntaggedLemmas.{string_alike, are_alike}
use Rattle.go_core.proofs.LeavesLemmas.{zeros_of}
use Rattle.go_core.proofs.MemoryLemmas.{same_world, both_worlds, with_cells, cells_extend, fresh, fresh_lies}
use Rattle.go_core.proofs.SameTypeLemmas.{type_one}
use Rattle.go_core.proofs.TypedScalars.{as_pointer}
use Rattle.go_core.proofs.OperatorsInterfaces.{row_sound}
use Rattle.go_core.proofs.OpenedLemmas.{types_counted}
use Rattle.go_core.proofs.OpenedScope.{within_ids}
use Rattle.go_core.proofs.OpenedStmts as stmts
use Rattle.go_core.proofs.TypeSame.{not_same}
use Rattle.go_core.proofs.EnteredVars.{contained_at, none_contained, take_front, drop_front, apart, first_one, first_var, parted, vars_length, func_vars_known, vars_front, vars_back, had_all, had_both, captured_typed, captured_ids, captured_had, binds, zero_binds}

some_inj : {A : Type 0} (x y : A) → Some x ≡ Some y → x ≡ y
some_inj x y e = cc

module _ (p : CoreProgram) where
  -- ---- the body

  body_typed : (v : World) (k : ℕ) (f : CoreFunc) (sf : SoundFunc p k f) (first second : List Var) (bases had : List ℕ) → take sf.header f.vars ≡ first ++ second → types_of_vars second ≡ listed_types f.results
      → AreVars p f.vars → AreAt p v.cells f.captured bases → HasVars p had first → HasVars p had second → Within f.captured had → TasksTyped p v (types_of_vars second) had [] (all_opened f.body [])
  body_typed v k f sf first second bases had e r hv at held1 held2 i =
      let vars : AreVars p (take sf.header f.vars ++ drop sf.header f.vars) = subst (AreVars p) (sym (take-append-drop sf.header f.vars)) hv in
      let taken : HasVars p had (take sf.header f.vars) = subst (HasVars p had) (sym e) (had_both p had first second held1 held2) in
      let held : HasVars p had (take sf.header f.vars ++ captured_vars p f.captured) = had_both p had (take sf.header f.vars) (captured_vars p f.captured) taken (captured_had p v f.captured bases had at i) in
      let a : Around = record { vars = take sf.header f.vars ++ captured_vars p f.captured; declarable = drop sf.header f.vars; results = f.results; breaks = []; continues = [] } in
      stmts.all p v (types_of_vars second) f.body had a [] (sym r) (record { in_scope = held; declarable = vars_back p (take sf.header f.vars) (drop sf.header f.vars) vars }) sf.sound_body
      (labels_typed had a [] (λ l c. absurd (none_contained l c)) (λ l c. absurd (none_contained l c))) (no_task had [])

  -- ---- a new frame

  pub record Entry (w : World) (results : List Ty) (purpose : Purpose) (o : Option Entered) : Type 0 where
    pub entry : Entered
    pub is_entry : o ≡ Some entry
    pub world : World
    pub extends : Extends w world
    pub memory_typed : MemoryTyped p world entry.memory
    pub frame_typed : (below : List Frame) → PurposeFits p world purpose results below → FrameTyped p world [] entry.frame below
    pub remains : Remains p world entry.frame [] entry.frame.tasks
    pub gives : AreAlike (types_of_vars entry.frame.results) results
    pub with_purpose : entry.frame.purpose ≡ purpose

  values_count : (ts : List Ty) (w : World) (xs : List Value) → AreIn p w (values_of_types ts) xs → length ts ≡ length xs
  values_count [] w [] h = refl
  values_count [] w (x ∷ xs) h = absurd h
  values_count (t ∷ ts) w [] h = absurd h
  values_count (t ∷ ts) w (x ∷ xs) h = ap suc (values_count ts w xs h.1)

  -- what the frame does first stays typed before the body
  abbrev Begins : World → List Ty → List Var → List Task → Type 0
  Begins u rs first begin =
      (v : World) (had : List ℕ) → Extends u v → HasVars p had first → (ts : List Task) → TasksTyped p v rs had [] ts → TasksTyped p v rs had [] (begin ++ ts)

  enters : (w : World) (k : ℕ) (f : CoreFunc) (sf : SoundFunc p k f) (first second : List Var) (bases : List ℕ) (a : Adapted) (u : World) (purpose : Purpose)
      → take sf.header f.vars ≡ first ++ second → types_of_vars second ≡ listed_types f.results → AreVars p f.vars → AreAt p u.cells f.captured bases → Extends w u → MemoryTyped p u a.memory
      → AreIn p u (values_of_types (types_of_vars first)) a.operands → Begins u (types_of_vars second) first a.first
      → Entry w (listed_types f.results) purpose (entered_with p.names k f bases purpose a)
  enters w k f sf first second bases a u purpose e r hv at x mt h begin =
      let ds = drop sf.header f.vars in
      let vars : AreVars p (take sf.header f.vars ++ ds) = subst (AreVars p) (sym (take-append-drop sf.header f.vars)) hv in
      let taken : AreVars p (first ++ second) = subst (AreVars p) e (vars_front p (take sf.header f.vars) ds vars) in
      let c : Bindings = record { places = captured_places f.captured bases; memory = a.memory; units = 0 } in
      let b1 = binds p u first a.operands c u (same_world u) mt (captured_typed p u f.captured bases at) (vars_front p first second taken) h in
      let b2 = zero_binds p u second b1.after b1.world b1.extends b1.memory_typed b1.places_typed (vars_back p first second taken) in
      let b3 = with_zeros p.names second b1.after in
      let n : length first ≡ length a.operands = sym (vars_length first) ∙ values_count (types_of_vars first) u a.operands h in
      let m : length second ≡ type_count f.results = sym (vars_length second) ∙ ap length r ∙ types_counted f.results in
      let whole : f.vars ≡ first ++ (second ++ ds) = sym (take-append-drop sf.header f.vars) ∙ ap (λ l. l ++ ds) e ∙ apart first second ds in
      let front : take (length a.operands) f.vars ≡ first = ap (take (length a.operands)) whole ∙ take_front (length a.operands) first (second ++ ds) n in
      let results : result_vars f (length a.operands) ≡ second =
      ap (λ l. take (type_count f.results) (drop (length a.operands) l)) whole ∙ ap (take (type_count f.results)) (drop_front (length a.operands) first (second ++ ds) n) ∙ take_front (type_count f.results) second ds m in
      let had = ids_of b3.places in
      let ids1 = with_ids first f.captured in
      let ids2 = with_ids second ids1 in
      let i : ids2 ≡ had = sym (b2.ids ∙ ap (with_ids second) (b1.ids ∙ ap (with_ids first) (captured_ids p u f.captured bases at))) in
      let held1 : HasVars p had first = subst (λ is. HasVars p is first) i (has_vars p ids1 ids2 first (within_ids second ids1) (had_all p first f.captured (vars_front p first second taken))) in
      let held2 : HasVars p had second = subst (λ is. HasVars p is second) i (had_all p second ids1 (vars_back p first second taken)) in
      let held3 : Within f.captured had = subst (λ is. Within f.captured is) i (λ y z. within_ids second ids1 y (within_ids first f.captured y z)) in
      let at2 : AreAt p b2.world.cells f.captured bases = are_at p u b2.world b2.extends f.captured bases at in
      let t = body_typed b2.world k f sf first second bases had e r hv at2 held1 held2 held3 in
      record {
        entry = frame_of k f purpose a.first second b3;
        is_entry =
            ap (λ vs. with_results p.names k f purpose a (with_vars p.names vs a.operands c)) front ∙ ap (with_results p.names k f purpose a) b1.is_after
            ∙ ap (λ rs. Some (frame_of k f purpose a.first rs (with_zeros p.names rs b1.after))) results;
        world = b2.world;
        extends = both_worlds w u b2.world x b2.extends;
        memory_typed = b2.memory_typed;
        frame_typed = λ below fits. record {
          values_typed = tt;
          places_typed = b2.places_typed;
          results_had = held2;
          deferred_typed = tt;
          mode_typed = tt;
          purpose_fits = subst (λ rs. PurposeFits p b2.world purpose rs below) (sym r) fits;
        };
        remains = begin b2.world had b2.extends held1 (all_opened f.body []) t;
        gives = ap untagged_list r;
        with_purpose = refl;
      }

-- ---- by the row that is called

receiver_type : (first rest others : List Var) (v : Var) (t : Ty) (ts : List Ty) → types_of_vars first ≡ t ∷ ts → first ++ rest ≡ v ∷ others → t ≡ v.type_
receiver_type [] rest others v t ts e f = absurd (cc)
receiver_type (h ∷ hs) rest others v t ts e f = sym (first_one h.type_ t (types_of_vars hs) ts e) ∙ ap (λ (y : Var). y.type_) (first_var h v (hs ++ rest) others f)

receiver_had : (p : CoreProgram) (had : List ℕ) (first rest others : List Var) (v : Var) (t : Ty) (ts : List Ty) → types_of_vars first ≡ t ∷ ts → first ++ rest ≡ v ∷ others → HasVars p had first → HasVar p had v.id v.type_
receiver_had p had [] rest others v t ts e f h = absurd (cc)
receiver_had p had (y ∷ ys) rest others v t ts e f h = subst (λ (z : Var). HasVar p had z.id z.type_) (first_var y v (ys ++ rest) others f) h.0

module _ (p : CoreProgram) (sound : Sound p) where
  plain : (w : World) (k : ℕ) (f : CoreFunc) → slice_get p.funcs k ≡ Some f → (bases : List ℕ) → AreAt p w.cells f.captured bases → (ts : List Ty) → (IsRowOf p k → ⊥) → AreAlike ts (listed_types f.params)
      → (vs : List Value) (purpose : Purpose) (m : Memory) → MemoryTyped p w m → AreIn p w (values_of_types ts) vs → Entry p w (listed_types f.results) purpose (entered_at p k (Some f) bases None vs purpose m)
  plain w k f e bases at ts no_row fit vs purpose m mt h = by_kind (sound.functions k f e) (sound.functions k f e).is_method
    where
      by_kind : (sf : SoundFunc p k f) → ((sf.receiver ≡ []) × (IsRowOf p k → ⊥) ⊎ (t : Ty) × (sf.receiver ≡ t ∷ []) × IsRowOf p k) → Entry p w (listed_types f.results) purpose (entered_at p k (Some f) bases None vs purpose m)
      by_kind sf (inr c) = absurd (no_row c.2)
      by_kind sf (inl c) =
          let q = parted (take sf.header f.vars) (listed_types f.params) (listed_types f.results) (sf.begins ∙ ap (λ r. r ++ listed_types f.params ++ listed_types f.results) c.0) in
          enters p w k f sf q.first q.second bases (record { operands = vs; first = []; memory = m }) w purpose q.whole q.second_types (func_vars_known p sound k f e) at (same_world w) mt
          (subst (λ us. AreIn p w (values_of_types us) vs) (sym q.first_types) (are_alike p w ts (listed_types f.params) vs fit h)) (λ v had x y us t. t)

  of_row : (w : World) (k : ℕ) (f : CoreFunc) → slice_get p.funcs k ≡ Some f → (v : Var) (others : List Var) → f.vars ≡ v ∷ others → IsRowOf p k → (bases : List ℕ) (a : Adapted) (u : World) (purpose : Purpose) → AreAt p u.cells f.captured bases
      → Extends w u → MemoryTyped p u a.memory → AreIn p u (values_of_types (v.type_ ∷ listed_types f.params)) a.operands
      → ((y : World) (rs : List Ty) (had : List ℕ) → Extends u y → HasVar p had v.id v.type_ → (ts : List Task) → TasksTyped p y rs had [] ts → TasksTyped p y rs had [] (a.first ++ ts))
      → Entry p w (listed_types f.results) purpose (entered_with p.names k f bases purpose a)
  of_row w k f e v others hv row bases a u purpose at x mt h begin = by_kind (sound.functions k f e) (sound.functions k f e).is_method
    where
      by_kind : (sf : SoundFunc p k f) → ((sf.receiver ≡ []) × (IsRowOf p k → ⊥) ⊎ (t : Ty) × (sf.receiver ≡ t ∷ []) × IsRowOf p k) → Entry p w (listed_types f.results) purpose (entered_with p.names k f bases purpose a)
      by_kind sf (inl c) = absurd (c.1 row)
      by_kind sf (inr c) =
          let q = parted (take sf.header f.vars) (c.0 ∷ listed_types f.params) (listed_types f.results) (sf.begins ∙ ap (λ r. r ++ listed_types f.params ++ listed_types f.results) c.1) in
          let ds = drop sf.header f.vars in
          let whole : q.first ++ (q.second ++ ds) ≡ v ∷ others = sym (sym (take-append-drop sf.header f.vars) ∙ ap (λ l. l ++ ds) q.whole ∙ apart q.first q.second ds) ∙ hv in
          let same : c.0 ≡ v.type_ = receiver_type q.first (q.second ++ ds) others v c.0 (listed_types f.params) q.first_types whole in
          enters p w k f sf q.first q.second bases a u purpose q.whole q.second_types (func_vars_known p sound k f e) at x mt
          (subst (λ us. AreIn p u (values_of_types us) a.operands) (sym (q.first_types ∙ ap (λ t. t ∷ listed_types f.params) same)) h)
          (λ y had z held ts t. begin y (types_of_vars q.second) had z (receiver_had p had q.first (q.second ++ ds) others v c.0 (listed_types f.params) q.first_types whole held) ts t)

  -- the receiver as it is, read through the pointer, or a pointer to a copy
  by_receiver : (w : World) (k : ℕ) (f : CoreFunc) → slice_get p.funcs k ≡ Some f → (v : Var) (others : List Var) → f.vars ≡ v ∷ others → IsRowOf p k → (bases : List ℕ) → AreAt p w.cells f.captured bases
      → (r : MethodRow) → ((v.type_ ≡ r.type_) ⊎ (r.type_ ≡ ty.pointer v.type_) ⊎ (v.type_ ≡ ty.pointer r.type_))
      → (vs : List Value) (purpose : Purpose) (m : Memory) → MemoryTyped p w m → AreIn p w (values_of_types (r.type_ ∷ listed_types f.params)) vs
      → Entry p w (listed_types f.results) purpose (entered_with p.names k f bases purpose (adapted p.names (receiver_of (Some r) (v ∷ others)) vs m))
  by_receiver w k f e v others hv row bases at r fits [] purpose m mt h = absurd h
  by_receiver w k f e v others hv row bases at r fits (x ∷ xs) purpose m mt h = by_pointer (same_type r.type_ (ty.pointer v.type_)) refl
    where
      by_fit : ((v.type_ ≡ r.type_) ⊎ (r.type_ ≡ ty.pointer v.type_) ⊎ (v.type_ ≡ ty.pointer r.type_)) → same_type r.type_ (ty.pointer v.type_) ≡ false → same_type v.type_ (ty.pointer r.type_) ≡ false → v.type_ ≡ r.type_
      by_fit (inl c) a b = c
      by_fit (inr (inl c)) a b = absurd (not_same r.type_ (ty.pointer v.type_) c a)
      by_fit (inr (inr c)) a b = absurd (not_same v.type_ (ty.pointer r.type_) c b)

      as_given : v.type_ ≡ r.type_ → Entry p w (listed_types f.results) purpose (entered_with p.names k f bases purpose (adapted p.names as_it_is (x ∷ xs) m))
      as_given c =
          of_row w k f e v others hv row bases (record { operands = x ∷ xs; first = []; memory = m }) w purpose at (same_world w) mt
          (subst (λ t. IsOf p w t x) (sym c) h.0, h.1) (λ y rs had z q ts t. t)

      copied : v.type_ ≡ ty.pointer r.type_ → Entry p w (listed_types f.results) purpose (entered_with p.names k f bases purpose (adapted p.names to_a_copy (x ∷ xs) m))
      copied c =
          let ls = leaves_of p.names r.type_ in
          let u = with_cells w ls in
          let z = cells_extend w ls in
          of_row w k f e v others hv row bases (record { operands = (cell.pointer (next_base m) ∷ []) ∷ xs; first = []; memory = with_fresh m x }) u purpose
          (are_at p w u z f.captured bases at) z (fresh p w m ls x mt h.0)
          (subst (λ t. IsOf p u t (cell.pointer (next_base m) ∷ [])) (sym c) (as_pointer p u r.type_ (next_base m) (fresh_lies p w m ls mt), tt), are_in_grow p w u z (values_of_types (listed_types f.params)) xs h.1)
          (λ y rs had z2 q ts t. t)

      read : r.type_ ≡ ty.pointer v.type_ → Entry p w (listed_types f.results) purpose (entered_with p.names k f bases purpose (adapted p.names (through v) (x ∷ xs) m))
      read c =
          of_row w k f e v others hv row bases (record { operands = zeros (shape_of p.names v.type_) ∷ xs; first = push_value x ∷ receive_through v ∷ []; memory = m }) w purpose at (same_world w) mt
          (zeros_of p w p.names v.type_, h.1)
          (λ y rs had z q ts t. push_typed had [] (ty.pointer v.type_) x (receive_through v ∷ ts) (lists_grow p w y z (leaves_of p.names (ty.pointer v.type_)) x (subst (λ j. IsOf p w j x) c h.0)) (through_typed had [] v ts q t))

      by_copy : (b : Bool) → same_type v.type_ (ty.pointer r.type_) ≡ b → same_type r.type_ (ty.pointer v.type_) ≡ false
          → Entry p w (listed_types f.results) purpose (entered_with p.names k f bases purpose (adapted p.names (if b then to_a_copy else as_it_is) (x ∷ xs) m))
      by_copy true c a = copied (type_one v.type_ (ty.pointer r.type_) c)
      by_copy false c a = as_given (by_fit fits a c)

      by_pointer : (b : Bool) → same_type r.type_ (ty.pointer v.type_) ≡ b
          → Entry p w (listed_types f.results) purpose (entered_with p.names k f bases purpose (adapted p.names (if b then through v else (if same_type v.type_ (ty.pointer r.type_) then to_a_copy else as_it_is)) (x ∷ xs) m))
      by_pointer true c = read (type_one r.type_ (ty.pointer v.type_) c)
      by_pointer false c = by_copy (same_type v.type_ (ty.pointer r.type_)) refl c

  by_fit : (w : World) (k : ℕ) (f : CoreFunc) → slice_get p.funcs k ≡ Some f → (bases : List ℕ) → AreAt p w.cells f.captured bases → (row : Option ℕ) (ts : List Ty) → OperandsFit p k row f ts
      → (vs : List Value) (purpose : Purpose) (m : Memory) → MemoryTyped p w m → AreIn p w (values_of_types ts) vs → Entry p w (listed_types f.results) purpose (entered_at p k (Some f) bases row vs purpose m)
  by_fit w k f e bases at None ts fit vs purpose m mt h = plain w k f e bases at ts fit.0 fit.1 vs purpose m mt h
  by_fit w k f e bases at (Some n) ts fit vs purpose m mt h =
      let r : MethodRow = fit.0 in
      let s = row_sound p sound n r fit.1 in
      let same : s.function ≡ f = some_inj s.function f (sym s.is_function ∙ ap (slice_get p.funcs) fit.2 ∙ e) in
      let hv : f.vars ≡ s.receiver ∷ s.others = ap (λ (y : CoreFunc). y.vars) (sym same) ∙ s.has_vars in
      subst (λ o. Entry p w (listed_types f.results) purpose (entered_with p.names k f bases purpose (adapted p.names (receiver_of o f.vars) vs m))) (sym fit.1)
      (subst (λ l. Entry p w (listed_types f.results) purpose (entered_with p.names k f bases purpose (adapted p.names (receiver_of (Some r) l) vs m))) (sym hv)
      (by_receiver w k f e s.receiver s.others hv (r, contained_at p.methods n r fit.1, fit.2) bases at r s.fits vs purpose m mt (are_alike p w ts (r.type_ ∷ listed_types f.params) vs fit.3 h)))

  -- results are asked for of types that differ in tags alone
  fits_alike : (w : World) (purpose : Purpose) (rs results : List Ty) (below : List Frame) → AreAlike results rs → PurposeFits p w purpose results below → PurposeFits p w purpose rs below
  fits_alike w called rs results below e h = tt
  fits_alike w deferred rs results below e h = tt
  fits_alike w reporting rs results below e h = (string_alike rs (sym e ∙ ap untagged_list h.0), h.1)

  entry_alike : (w : World) (purpose : Purpose) (rs results : List Ty) (o : Option Entered) → AreAlike results rs → Entry p w rs purpose o → Entry p w results purpose o
  entry_alike w purpose rs results o e h = record {
    entry = h.entry;
    is_entry = h.is_entry;
    world = h.world;
    extends = h.extends;
    memory_typed = h.memory_typed;
    frame_typed = λ below fits. h.frame_typed below (fits_alike h.world purpose rs results below e fits);
    remains = h.remains;
    gives = h.gives ∙ sym e;
    with_purpose = h.with_purpose;
  }

  -- what is called with operands of its types has a frame, which is typed
  pub enter : (w : World) (func : ℕ) (bases : List ℕ) (row : Option ℕ) (ts results : List Ty) (vs : List Value) (purpose : Purpose) (m : Memory) → MemoryTyped p w m → Takes p w.cells func bases row ts results
      → AreIn p w (values_of_types ts) vs → Entry p w results purpose (entered p func bases row vs purpose m)
  enter w func bases row ts results vs purpose m mt t h =
      entry_alike w purpose (listed_types t.function.results) results (entered p func bases row vs purpose m) t.results_fit
      (subst (λ o. Entry p w (listed_types t.function.results) purpose (entered_at p func o bases row vs purpose m)) (sym t.is_function)
      (by_fit w func t.function t.is_function bases t.captured_lie row ts t.operands_fit vs purpose m mt h))
