-- That memory only grows under each kind of node's step.
use Rattle.std.proofs.Common.{refl, ◌∙◌, arith}
use Rattle.std.proofs.lemmas.List.{length-set, length-append}
use Rattle.std.specs.Prelude.{◌≡◌, ◌≤◌, ℕ, suc, ◌+◌, ℤ, List, [], ◌∷◌, length, Bool, true, false, if◌then◌else◌, slice_set}
use Rattle.go_core.specs.Memory as cell
use Rattle.go_core.specs.Memory.{Scalar, Value, Memory, MapState, Channel, Entry, written, with_written, with_fresh, with_map, with_channel, set_map, set_channel, zeros, next_base, read_cells}
use Rattle.go_core.specs.Did.{Did, gives, panics, no_step, on_none, on_one, on_two, on_truth, on_whole, on_text, on_place}
use Rattle.go_core.specs.Growth.{MemoryGrows}

pub same : (m : Memory) → MemoryGrows m m
same m = record { cells_stay = omega arith; maps_stay = omega arith; channels_stay = omega arith }

pub later : (a b c : Memory) → MemoryGrows a b → MemoryGrows b c → MemoryGrows a c
later a b c h k =
    let h1 = h.cells_stay in let k1 = k.cells_stay in
    let h2 = h.maps_stay in let k2 = k.maps_stay in
    let h3 = h.channels_stay in let k3 = k.channels_stay in
    record { cells_stay = omega arith; maps_stay = omega arith; channels_stay = omega arith }

length_written : (cells : List Scalar) (b : ℕ) (xs : Value) → length (written cells b xs) ≡ length cells
length_written cells b [] = refl
length_written cells b (x ∷ xs) = length_written (slice_set cells b x) (suc b) xs ∙ length-set cells b x

as_long : (a b : ℕ) → b ≡ a → a ≤ b
as_long a b e = omega arith

longer : (a b c : ℕ) → b ≡ a + c → a ≤ b
longer a b c e = omega arith

as_it_is : (a : ℕ) → a ≤ a
as_it_is a = omega arith

pub writes : (m : Memory) (b : ℕ) (xs : Value) → MemoryGrows m (with_written m b xs)
writes m b xs = record { cells_stay = as_long _ _ (length_written m.cells b xs); maps_stay = as_it_is _; channels_stay = as_it_is _ }

pub makes : (m : Memory) (xs : Value) → MemoryGrows m (with_fresh m xs)
makes m xs = record { cells_stay = longer _ _ _ (length-append m.cells xs); maps_stay = as_it_is _; channels_stay = as_it_is _ }

pub maps : (m : Memory) (s : MapState) → MemoryGrows m (with_map m s)
maps m s = record { cells_stay = as_it_is _; maps_stay = longer _ _ _ (length-append m.maps (s ∷ [])); channels_stay = as_it_is _ }

pub channels : (m : Memory) (c : Channel) → MemoryGrows m (with_channel m c)
channels m c = record { cells_stay = as_it_is _; maps_stay = as_it_is _; channels_stay = longer _ _ _ (length-append m.channels (c ∷ [])) }

pub sets_map : (m : Memory) (n : ℕ) (s : MapState) → MemoryGrows m (set_map m n s)
sets_map m n s = record { cells_stay = as_it_is _; maps_stay = as_long _ _ (length-set m.maps n s); channels_stay = as_it_is _ }

pub sets_channel : (m : Memory) (n : ℕ) (c : Channel) → MemoryGrows m (set_channel m n c)
sets_channel m n c = record { cells_stay = as_it_is _; maps_stay = as_it_is _; channels_stay = as_long _ _ (length-set m.channels n c) }

-- ---- what a step does

abbrev pub DidGrow : Memory → Did → Type 0
DidGrow m (gives vs m' u) = MemoryGrows m m'
DidGrow m (panics q u) = Unit {0}
DidGrow m no_step = Unit {0}

module _ (m : Memory) where
  pub if_grow : (b : Bool) (d e : Did) → DidGrow m d → DidGrow m e → DidGrow m (if b then d else e)
  if_grow true d e h k = h
  if_grow false d e h k = k

  pub none_grow : (vs : List Value) (d : Did) → DidGrow m d → DidGrow m (on_none vs d)
  none_grow [] d h = h
  none_grow (v ∷ vs) d h = tt

  pub one_grow : (vs : List Value) (f : Value → Did) → ((x : Value) → DidGrow m (f x)) → DidGrow m (on_one vs f)
  one_grow (x ∷ []) f h = h x
  one_grow _ f h = tt

  pub two_grow : (vs : List Value) (f : Value → Value → Did) → ((x y : Value) → DidGrow m (f x y)) → DidGrow m (on_two vs f)
  two_grow (x ∷ y ∷ []) f h = h x y
  two_grow _ f h = tt

  pub truth_grow : (x : Value) (f : Bool → Did) → ((b : Bool) → DidGrow m (f b)) → DidGrow m (on_truth x f)
  truth_grow (cell.truth b ∷ []) f h = h b
  truth_grow _ f h = tt

  pub whole_grow : (x : Value) (f : ℤ → Did) → ((n : ℤ) → DidGrow m (f n)) → DidGrow m (on_whole x f)
  whole_grow (cell.whole n ∷ []) f h = h n
  whole_grow _ f h = tt

  pub text_grow : (x : Value) (f : List ℕ → Did) → ((bytes : List ℕ) → DidGrow m (f bytes)) → DidGrow m (on_text x f)
  text_grow (cell.text bytes ∷ []) f h = h bytes
  text_grow _ f h = tt

  pub place_grow : (x : Value) (f : ℕ → Did) → ((base : ℕ) → DidGrow m (f base)) → DidGrow m (on_place x f)
  place_grow (cell.pointer base ∷ []) f h = h base
  place_grow _ f h = tt
