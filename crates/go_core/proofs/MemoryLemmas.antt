-- Reads, writes and fresh variables in a memory that holds values of its places' types.
use Rattle.std.proofs.Common.{refl, sym, ap, ◌∙◌, subst, arith}
use Rattle.std.specs.Prelude.{◌≡◌, ℕ, zero, suc, ◌+◌, List, [], ◌∷◌, ◌++◌, length, Some, slice_get, slice_set, take, drop}
use Rattle.std.proofs.lemmas.List.{append-nil}
use Rattle.go_type.specs.Tree.{Ty}
use Rattle.go_core.specs.Memory.{Scalar, Scalars, Value, Memory, Entry, MapState, Channel, listed, packed, read_cells, written, with_written, with_fresh, with_map, with_channel, set_map, next_base}
use Rattle.go_core.specs.Untagged.{untagged}
use Rattle.go_core.specs.CoreTree.{CoreProgram}
use Rattle.go_core.specs.Leaves.{Leaf, Spans, leaves_of}
use Rattle.go_core.specs.Typed.{World, MapTypes, untagged_map, ScalarTyped, ScalarsTyped, none_typed, more_typed, Lists, AllOf, EntriesOf, MapsTyped, ChannelsTyped, MemoryTyped, Extends}
use Rattle.go_core.proofs.TypedGrowth.{lists_grow}
use Rattle.go_core.proofs.UntaggedLemmas.{twice, all_alike, entries_alike}
use Rattle.go_core.proofs.LeavesLemmas.{lists_append}

some_inj : {A : Type 0} (x y : A) → Some x ≡ Some y → x ≡ y
some_inj x y e = cc

module _ (p : CoreProgram) (w : World) where
  pub lists_length : (ls : List Leaf) (xs : Value) → Lists p w ls xs → length xs ≡ length ls
  lists_length [] [] h = refl
  lists_length [] (x ∷ xs) h = absurd h
  lists_length (l ∷ ls) [] h = absurd h
  lists_length (l ∷ ls) (x ∷ xs) h = ap suc (lists_length ls xs h.1)

  pub to_lists : (ls : List Leaf) (xs : Scalars) → ScalarsTyped p w ls xs → Lists p w ls (listed xs)
  to_lists _ _ none_typed = tt
  to_lists _ _ (more_typed l ls x xs h k) = (h, to_lists ls xs k)

  pub from_lists : (ls : List Leaf) (xs : Value) → Lists p w ls xs → ScalarsTyped p w ls (packed xs)
  from_lists [] [] h = none_typed
  from_lists [] (x ∷ xs) h = absurd h
  from_lists (l ∷ ls) [] h = absurd h
  from_lists (l ∷ ls) (x ∷ xs) h = more_typed l ls x (packed xs) h.0 (from_lists ls xs h.1)

  -- what lies at a place
  pub record Found (l : Leaf) (cells : List Scalar) (i : ℕ) : Type 0 where
    pub at : Scalar
    pub is_at : slice_get cells i ≡ Some at
    pub typed : ScalarTyped p w l at

  pub found : (ls : List Leaf) (cells : List Scalar) (i : ℕ) (l : Leaf) → Lists p w ls cells → slice_get ls i ≡ Some l → Found l cells i
  found [] cells i l h e = absurd (cc)
  found (k ∷ ls) [] i l h e = absurd h
  found (k ∷ ls) (x ∷ cells) zero l h e = record { at = x; is_at = refl; typed = subst (λ j. ScalarTyped p w j x) (some_inj k l e) h.0 }
  found (k ∷ ls) (x ∷ cells) (suc i) l h e = let f = found ls cells i l h.1 e in record { at = f.at; is_at = f.is_at; typed = f.typed }

  read_one : (cells : List Scalar) (i n : ℕ) (x : Scalar) → slice_get cells i ≡ Some x → take (suc n) (drop i cells) ≡ x ∷ take n (drop (suc i) cells)
  read_one [] i n x e = absurd (cc)
  read_one (y ∷ cells) zero n x e = ap (λ z. z ∷ take n cells) (some_inj y x e)
  read_one (y ∷ cells) (suc i) n x e = read_one cells i n x e

  read_at : (cs : List Leaf) (cells : List Scalar) (base : ℕ) (ls : List Leaf) → Lists p w cs cells → Spans cs base ls → Lists p w ls (take (length ls) (drop base cells))
  read_at cs cells base [] h s = tt
  read_at cs cells base (l ∷ ls) h s =
      let f = found cs cells base l h s.0 in
      subst (λ xs. Lists p w (l ∷ ls) xs) (sym (read_one cells base (length ls) f.at f.is_at)) (f.typed, read_at cs cells (suc base) ls h s.1)

  pub reads : (m : Memory) (base n : ℕ) (ls : List Leaf) → MemoryTyped p w m → Spans w.cells base ls → n ≡ length ls → Lists p w ls (read_cells base n m.cells)
  reads m base n ls h s e = subst (λ k. Lists p w ls (read_cells base k m.cells)) (sym e) (read_at w.cells m.cells base ls h.cells_typed s)

  set_at : (cs : List Leaf) (cells : List Scalar) (i : ℕ) (l : Leaf) (x : Scalar) → Lists p w cs cells → slice_get cs i ≡ Some l → ScalarTyped p w l x → Lists p w cs (slice_set cells i x)
  set_at [] cells i l x h e t = absurd (cc)
  set_at (c ∷ cs) [] i l x h e t = absurd h
  set_at (c ∷ cs) (y ∷ cells) zero l x h e t = (subst (λ j. ScalarTyped p w j x) (sym (some_inj c l e)) t, h.1)
  set_at (c ∷ cs) (y ∷ cells) (suc i) l x h e t = (h.0, set_at cs cells i l x h.1 e t)

  -- scalars written over those of the same leaves
  pub written_over : (cs : List Leaf) (cells : List Scalar) (base : ℕ) (ls : List Leaf) (xs : Value) → Lists p w cs cells → Spans cs base ls → Lists p w ls xs → Lists p w cs (written cells base xs)
  written_over cs cells base [] [] h s k = h
  written_over cs cells base [] (x ∷ xs) h s k = absurd k
  written_over cs cells base (l ∷ ls) [] h s k = absurd k
  written_over cs cells base (l ∷ ls) (x ∷ xs) h s k = written_over cs (slice_set cells base x) (suc base) ls xs (set_at cs cells base l x h s.0 k.0) s.1 k.1

  pub writes : (m : Memory) (base : ℕ) (ls : List Leaf) (xs : Value) → MemoryTyped p w m → Spans w.cells base ls → Lists p w ls xs → MemoryTyped p w (with_written m base xs)
  writes m base ls xs h s k = record { cells_typed = written_over w.cells m.cells base ls xs h.cells_typed s k; maps_typed = h.maps_typed; channels_typed = h.channels_typed }

-- ---- a larger world

pub same_world : (w : World) → Extends w w
same_world w = record { more_cells = []; more_maps = []; more_channels = []; cells_stay = sym (append-nil w.cells); maps_stay = sym (append-nil w.maps); channels_stay = sym (append-nil w.channels) }

append_apart : {A : Type 0} (xs ys zs : List A) → (xs ++ ys) ++ zs ≡ xs ++ (ys ++ zs)
append_apart [] ys zs = refl
append_apart (x ∷ xs) ys zs = ap (λ l. x ∷ l) (append_apart xs ys zs)

pub both_worlds : (a b c : World) → Extends a b → Extends b c → Extends a c
both_worlds a b c f g = record {
  more_cells = f.more_cells ++ g.more_cells;
  more_maps = f.more_maps ++ g.more_maps;
  more_channels = f.more_channels ++ g.more_channels;
  cells_stay = g.cells_stay ∙ ap (λ l. l ++ g.more_cells) f.cells_stay ∙ append_apart a.cells f.more_cells g.more_cells;
  maps_stay = g.maps_stay ∙ ap (λ l. l ++ g.more_maps) f.maps_stay ∙ append_apart a.maps f.more_maps g.more_maps;
  channels_stay = g.channels_stay ∙ ap (λ l. l ++ g.more_channels) f.channels_stay ∙ append_apart a.channels f.more_channels g.more_channels;
}

abbrev pub with_cells : World → List Leaf → World
with_cells w ls = record { cells = w.cells ++ ls; maps = w.maps; channels = w.channels }

abbrev pub with_map_types : World → MapTypes → World
with_map_types w t = record { cells = w.cells; maps = w.maps ++ t ∷ []; channels = w.channels }

abbrev pub with_channel_type : World → Ty → World
with_channel_type w t = record { cells = w.cells; maps = w.maps; channels = w.channels ++ t ∷ [] }

pub cells_extend : (w : World) (ls : List Leaf) → Extends w (with_cells w ls)
cells_extend w ls = record { more_cells = ls; more_maps = []; more_channels = []; cells_stay = refl; maps_stay = sym (append-nil w.maps); channels_stay = sym (append-nil w.channels) }

pub map_extends : (w : World) (t : MapTypes) → Extends w (with_map_types w t)
map_extends w t = record { more_cells = []; more_maps = t ∷ []; more_channels = []; cells_stay = sym (append-nil w.cells); maps_stay = refl; channels_stay = sym (append-nil w.channels) }

pub channel_extends : (w : World) (t : Ty) → Extends w (with_channel_type w t)
channel_extends w t = record { more_cells = []; more_maps = []; more_channels = t ∷ []; cells_stay = sym (append-nil w.cells); maps_stay = sym (append-nil w.maps); channels_stay = refl }

past_get : {A : Type 0} (front xs : List A) (i : ℕ) (x : A) → slice_get xs i ≡ Some x → slice_get (front ++ xs) (length front + i) ≡ Some x
past_get [] xs i x e = let z : i ≡ 0 + i = omega arith in subst (λ n. slice_get xs n ≡ Some x) z e
past_get (y ∷ front) xs i x e = let z : suc (length front + i) ≡ suc (length front) + i = omega arith in subst (λ n. slice_get (y ∷ (front ++ xs)) n ≡ Some x) z (past_get front xs i x e)

-- what lies past the front
pub past : (front cells : List Leaf) (base : ℕ) (ls : List Leaf) → Spans cells base ls → Spans (front ++ cells) (length front + base) ls
past front cells base [] h = tt
past front cells base (l ∷ ls) h =
    (past_get front cells base l h.0, let z : length front + suc base ≡ suc (length front + base) = omega arith in subst (λ n. Spans (front ++ cells) n ls) z (past front cells (suc base) ls h.1))

pub whole : (ls : List Leaf) → Spans ls 0 ls
whole [] = tt
whole (l ∷ ls) = (refl, past (l ∷ []) ls 0 ls (whole ls))

module _ (p : CoreProgram) (w w' : World) (x : Extends w w') where
  pub all_grow : (t : Ty) (xs : List Value) → AllOf p w t xs → AllOf p w' t xs
  all_grow t [] h = tt
  all_grow t (y ∷ ys) h = (lists_grow p w w' x (leaves_of p.names t) y h.0, all_grow t ys h.1)

  entries_grow : (k v : Ty) (es : List Entry) → EntriesOf p w k v es → EntriesOf p w' k v es
  entries_grow k v [] h = tt
  entries_grow k v (e ∷ es) h = ((lists_grow p w w' x (leaves_of p.names k) e.key h.0.0, lists_grow p w w' x (leaves_of p.names v) e.value h.0.1), entries_grow k v es h.1)

  maps_grow : (ts : List MapTypes) (ms : List MapState) → MapsTyped p w ts ms → MapsTyped p w' ts ms
  maps_grow [] [] h = tt
  maps_grow [] (m ∷ ms) h = absurd h
  maps_grow (t ∷ ts) [] h = absurd h
  maps_grow (t ∷ ts) (m ∷ ms) h = (entries_grow t.key t.value m.entries h.0, maps_grow ts ms h.1)

  channels_grow : (ts : List Ty) (cs : List Channel) → ChannelsTyped p w ts cs → ChannelsTyped p w' ts cs
  channels_grow [] [] h = tt
  channels_grow [] (c ∷ cs) h = absurd h
  channels_grow (t ∷ ts) [] h = absurd h
  channels_grow (t ∷ ts) (c ∷ cs) h = (all_grow t c.values h.0, channels_grow ts cs h.1)

module _ (p : CoreProgram) (w : World) where
  -- a fresh variable, whose leaves lie at the next base
  pub fresh : (m : Memory) (ls : List Leaf) (xs : Value) → MemoryTyped p w m → Lists p w ls xs → MemoryTyped p (with_cells w ls) (with_fresh m xs)
  fresh m ls xs h k =
      let v = with_cells w ls in
      let x = cells_extend w ls in
      record {
        cells_typed = lists_append p v w.cells ls m.cells xs (lists_grow p w v x w.cells m.cells h.cells_typed) (lists_grow p w v x ls xs k);
        maps_typed = maps_grow p w v x w.maps m.maps h.maps_typed;
        channels_typed = channels_grow p w v x w.channels m.channels h.channels_typed;
      }

  pub fresh_lies : (m : Memory) (ls : List Leaf) → MemoryTyped p w m → Spans (with_cells w ls).cells (next_base m) ls
  fresh_lies m ls h =
      let e = lists_length p w w.cells m.cells h.cells_typed in
      let z : length w.cells + 0 ≡ length m.cells = omega (arith, e) in
      subst (λ n. Spans (w.cells ++ ls) n ls) z (past w.cells ls 0 ls (whole ls))

  pub maps_append : (ts : List MapTypes) (ms : List MapState) (t : MapTypes) (s : MapState) → MapsTyped p w ts ms → EntriesOf p w t.key t.value s.entries → MapsTyped p w (ts ++ t ∷ []) (ms ++ s ∷ [])
  maps_append [] [] t s h k = (k, tt)
  maps_append [] (m ∷ ms) t s h k = absurd h
  maps_append (u ∷ ts) [] t s h k = absurd h
  maps_append (u ∷ ts) (m ∷ ms) t s h k = (h.0, maps_append ts ms t s h.1 k)

  pub channels_append : (ts : List Ty) (cs : List Channel) (t : Ty) (c : Channel) → ChannelsTyped p w ts cs → AllOf p w t c.values → ChannelsTyped p w (ts ++ t ∷ []) (cs ++ c ∷ [])
  channels_append [] [] t c h k = (k, tt)
  channels_append [] (d ∷ ds) t c h k = absurd h
  channels_append (u ∷ ts) [] t c h k = absurd h
  channels_append (u ∷ ts) (d ∷ ds) t c h k = (h.0, channels_append ts ds t c h.1 k)

  pub maps_length : (ts : List MapTypes) (ms : List MapState) → MapsTyped p w ts ms → length ms ≡ length ts
  maps_length [] [] h = refl
  maps_length [] (m ∷ ms) h = absurd h
  maps_length (t ∷ ts) [] h = absurd h
  maps_length (t ∷ ts) (m ∷ ms) h = ap suc (maps_length ts ms h.1)

  pub channels_length : (ts : List Ty) (cs : List Channel) → ChannelsTyped p w ts cs → length cs ≡ length ts
  channels_length [] [] h = refl
  channels_length [] (c ∷ cs) h = absurd h
  channels_length (t ∷ ts) [] h = absurd h
  channels_length (t ∷ ts) (c ∷ cs) h = ap suc (channels_length ts cs h.1)

  pub record MapFound (t : MapTypes) (ms : List MapState) (i : ℕ) : Type 0 where
    pub at : MapState
    pub is_at : slice_get ms i ≡ Some at
    pub typed : EntriesOf p w t.key t.value at.entries

  found_at : (ts : List MapTypes) (ms : List MapState) (i : ℕ) (t : MapTypes) → MapsTyped p w ts ms → slice_get ts i ≡ Some t → MapFound t ms i
  found_at [] ms i t h e = absurd (cc)
  found_at (u ∷ ts) [] i t h e = absurd h
  found_at (u ∷ ts) (m ∷ ms) zero t h e = record { at = m; is_at = refl; typed = subst (λ (v : MapTypes). EntriesOf p w v.key v.value m.entries) (some_inj u t e) h.0 }
  found_at (u ∷ ts) (m ∷ ms) (suc i) t h e = let f = found_at ts ms i t h.1 e in record { at = f.at; is_at = f.is_at; typed = f.typed }

  -- of these types, whatever their tags
  to_untagged : (t : MapTypes) (es : List Entry) → EntriesOf p w t.key t.value es → EntriesOf p w (untagged t.key) (untagged t.value) es
  to_untagged t es h = entries_alike p w t.key t.value (untagged t.key) (untagged t.value) es (sym (twice t.key)) (sym (twice t.value)) h

  pub map_found : (ts : List MapTypes) (ms : List MapState) (i : ℕ) (t : MapTypes) → MapsTyped p w ts ms → slice_get ts i ≡ Some (untagged_map t) → MapFound t ms i
  map_found ts ms i t h e =
      let f = found_at ts ms i (untagged_map t) h e in
      record { at = f.at; is_at = f.is_at; typed = entries_alike p w (untagged t.key) (untagged t.value) t.key t.value f.at.entries (twice t.key) (twice t.value) f.typed }

  map_set_at : (ts : List MapTypes) (ms : List MapState) (i : ℕ) (t : MapTypes) (s : MapState) → MapsTyped p w ts ms → slice_get ts i ≡ Some t → EntriesOf p w t.key t.value s.entries → MapsTyped p w ts (slice_set ms i s)
  map_set_at [] ms i t s h e k = absurd (cc)
  map_set_at (u ∷ ts) [] i t s h e k = absurd h
  map_set_at (u ∷ ts) (m ∷ ms) zero t s h e k = (subst (λ (v : MapTypes). EntriesOf p w v.key v.value s.entries) (sym (some_inj u t e)) k, h.1)
  map_set_at (u ∷ ts) (m ∷ ms) (suc i) t s h e k = (h.0, map_set_at ts ms i t s h.1 e k)

  pub sets_map : (m : Memory) (i : ℕ) (t : MapTypes) (s : MapState) → MemoryTyped p w m → slice_get w.maps i ≡ Some (untagged_map t) → EntriesOf p w t.key t.value s.entries → MemoryTyped p w (set_map m i s)
  sets_map m i t s h e k = record { cells_typed = h.cells_typed; maps_typed = map_set_at w.maps m.maps i (untagged_map t) s h.maps_typed e (to_untagged t s.entries k); channels_typed = h.channels_typed }

module _ (p : CoreProgram) (w : World) where
  pub fresh_map : (m : Memory) (t : MapTypes) (s : MapState) → MemoryTyped p w m → EntriesOf p w t.key t.value s.entries → MemoryTyped p (with_map_types w (untagged_map t)) (with_map m s)
  fresh_map m t s h k =
      let u = untagged_map t in
      let v = with_map_types w u in
      let x = map_extends w u in
      record {
        cells_typed = lists_grow p w v x w.cells m.cells h.cells_typed;
        maps_typed = maps_append p v w.maps m.maps u s (maps_grow p w v x w.maps m.maps h.maps_typed) (entries_grow p w v x u.key u.value s.entries (to_untagged p w t s.entries k));
        channels_typed = channels_grow p w v x w.channels m.channels h.channels_typed;
      }

  pub fresh_channel : (m : Memory) (t : Ty) (c : Channel) → MemoryTyped p w m → AllOf p w t c.values → MemoryTyped p (with_channel_type w (untagged t)) (with_channel m c)
  fresh_channel m t c h k =
      let u = untagged t in
      let v = with_channel_type w u in
      let x = channel_extends w u in
      record {
        cells_typed = lists_grow p w v x w.cells m.cells h.cells_typed;
        maps_typed = maps_grow p w v x w.maps m.maps h.maps_typed;
        channels_typed = channels_append p v w.channels m.channels u c (channels_grow p w v x w.channels m.channels h.channels_typed) (all_grow p w v x u c.values (all_alike p w t u c.values (sym (twice t)) k));
      }

pub last_one : {A : Type 0} (xs : List A) (x : A) → slice_get (xs ++ x ∷ []) (length xs) ≡ Some x
last_one [] x = refl
last_one (y ∷ xs) x = last_one xs x
