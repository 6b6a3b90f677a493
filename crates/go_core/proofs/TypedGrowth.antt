-- Typing stays in a world that has more in it, and for a frame that has more variables.
use Rattle.std.proofs.Common.{sym, subst}
use Rattle.std.specs.Prelude.{◌≡◌, ℕ, zero, suc, List, [], ◌∷◌, ◌++◌, Option, Some, slice_get}
use Rattle.go_type.specs.Tree.{Ty}
use Rattle.go_core.specs.Memory as cell
use Rattle.go_core.specs.Memory.{Scalar, Scalars, no_scalars, scalar, Value}
use Rattle.go_core.specs.CoreTree.{CoreProgram}
use Rattle.go_core.specs.Leaves.{Leaf, Spans, leaves_of}
use Rattle.go_core.specs.Typed.{World, MapTypes, VarAt, AreAt, Takes, ScalarTyped, ScalarsTyped, truth_typed, whole_typed, text_typed, nil_typed, pointer_typed, slice_typed, function_typed, method_typed, interface_typed, map_typed, channel_typed, none_typed, more_typed, Lists, Extends}
use Rattle.go_core.specs.Applies.{Slot, a_value, a_place, IsIn, AreIn, PlaceOf}

pub get_front : {A : Type 0} (xs ys : List A) (i : ℕ) (x : A) → slice_get xs i ≡ Some x → slice_get (xs ++ ys) i ≡ Some x
get_front [] ys i x e = absurd (cc)
get_front (z ∷ xs) ys zero x e = e
get_front (z ∷ xs) ys (suc i) x e = get_front xs ys i x e

pub spans_front : (cells more : List Leaf) (base : ℕ) (ls : List Leaf) → Spans cells base ls → Spans (cells ++ more) base ls
spans_front cells more base [] h = tt
spans_front cells more base (l ∷ ls) h = (get_front cells more base l h.0, spans_front cells more (suc base) ls h.1)

module _ (p : CoreProgram) (w w' : World) (x : Extends w w') where
  pub spans : (base : ℕ) (ls : List Leaf) → Spans w.cells base ls → Spans w'.cells base ls
  spans base ls h = subst (λ cs. Spans cs base ls) (sym x.cells_stay) (spans_front w.cells x.more_cells base ls h)

  pub map_at : (name : ℕ) (t : MapTypes) → slice_get w.maps name ≡ Some t → slice_get w'.maps name ≡ Some t
  map_at name t h = subst (λ ms. slice_get ms name ≡ Some t) (sym x.maps_stay) (get_front w.maps x.more_maps name t h)

  pub channel_at : (name : ℕ) (t : Ty) → slice_get w.channels name ≡ Some t → slice_get w'.channels name ≡ Some t
  channel_at name t h = subst (λ ms. slice_get ms name ≡ Some t) (sym x.channels_stay) (get_front w.channels x.more_channels name t h)

  pub var_at : (v b : ℕ) → VarAt p w.cells v b → VarAt p w'.cells v b
  var_at v b h = record { type_ = h.type_; is_known = h.is_known; lies = spans b (leaves_of p.names h.type_) h.lies }

  pub are_at : (vs bs : List ℕ) → AreAt p w.cells vs bs → AreAt p w'.cells vs bs
  are_at [] [] h = tt
  are_at [] (b ∷ bs) h = absurd h
  are_at (v ∷ vs) [] h = absurd h
  are_at (v ∷ vs) (b ∷ bs) h = (var_at v b h.0, are_at vs bs h.1)

  pub takes : (func : ℕ) (bases : List ℕ) (row : Option ℕ) (os rs : List Ty) → Takes p w.cells func bases row os rs → Takes p w'.cells func bases row os rs
  takes func bases row os rs h =
      record { function = h.function; is_function = h.is_function; captured_lie = are_at h.function.captured bases h.captured_lie; operands_fit = h.operands_fit; results_fit = h.results_fit }

  mutual
    pub scalar_grows : (l : Leaf) (s : Scalar) → ScalarTyped p w l s → ScalarTyped p w' l s
    scalar_grows l s (truth_typed b) = truth_typed b
    scalar_grows l s (whole_typed name n) = whole_typed name n
    scalar_grows l s (text_typed bytes) = text_typed bytes
    scalar_grows l s (nil_typed k h) = nil_typed k h
    scalar_grows l s (pointer_typed t base h) = pointer_typed t base (spans base _ h)
    scalar_grows l s (slice_typed t base len capacity le h) = slice_typed t base len capacity le (spans base _ h)
    scalar_grows l s (function_typed ps rs v func bases h) = function_typed ps rs v func bases (takes func bases _ _ _ h)
    scalar_grows l s (method_typed ps rs v row receiver r at h k) = method_typed ps rs v row receiver r at (takes _ _ _ _ _ h) (scalars_grow _ _ k)
    scalar_grows l s (interface_typed ms t xs h k) = interface_typed ms t xs h (scalars_grow _ _ k)
    scalar_grows l s (map_typed k v name h) = map_typed k v name (map_at name _ h)
    scalar_grows l s (channel_typed d t name h) = channel_typed d t name (channel_at name t h)

    pub scalars_grow : (ls : List Leaf) (xs : Scalars) → ScalarsTyped p w ls xs → ScalarsTyped p w' ls xs
    scalars_grow ls xs none_typed = none_typed
    scalars_grow ls xs (more_typed l ls' y ys h k) = more_typed l ls' y ys (scalar_grows l y h) (scalars_grow ls' ys k)

  pub lists_grow : (ls : List Leaf) (xs : Value) → Lists p w ls xs → Lists p w' ls xs
  lists_grow [] [] h = tt
  lists_grow [] (y ∷ ys) h = absurd h
  lists_grow (l ∷ ls) [] h = absurd h
  lists_grow (l ∷ ls) (y ∷ ys) h = (scalar_grows l y h.0, lists_grow ls ys h.1)

  place_grows : (t : Ty) (y : Value) → PlaceOf p w t y → PlaceOf p w' t y
  place_grows t (cell.pointer base ∷ []) h = spans base (leaves_of p.names t) h
  place_grows t _ h = absurd h

  pub in_grows : (s : Slot) (y : Value) → IsIn p w s y → IsIn p w' s y
  in_grows (a_value t) y h = lists_grow (leaves_of p.names t) y h
  in_grows (a_place t) y h = place_grows t y h

  pub are_in_grow : (ss : List Slot) (ys : List Value) → AreIn p w ss ys → AreIn p w' ss ys
  are_in_grow [] [] h = tt
  are_in_grow [] (y ∷ ys) h = absurd h
  are_in_grow (s ∷ ss) [] h = absurd h
  are_in_grow (s ∷ ss) (y ∷ ys) h = (in_grows s y h.0, are_in_grow ss ys h.1)
