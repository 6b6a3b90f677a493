-- What names stand for, by the places that they have.
use Rattle.std.proofs.Common.{◌≡◌, refl, ap, sym, subst, ◌∙◌, ℕ, List, Option, Some, None, Bool, true, false, cond, bytes_eq, codes, option_map, slice_get}
use Rattle.js_tree.specs.Script as tree
use Rattle.js_tree.specs.Script.{Name}
use Rattle.js_tree.specs.Value.{function, given}
use Rattle.js_tree.specs.Evaluate as run
use Rattle.js_tree.specs.Evaluate.{host_named, eval}
use Rattle.js_code.specs.declared.slots.place.Place.{Place}
use Rattle.js_code.specs.declared.slots.place.Place.TheVariants.{Caught, Local, Host, Function as in_function, Global, Nowhere}
use Rattle.js_code.specs.declared.slots.place.Host as host
use Rattle.js_code.specs.Names.{index_in, distinct, global_names}
use Rattle.js_code.specs.Places.{Table, table_of, placed, place_of, host_here, global_place}
use Rattle.js_code.specs.Slots.{slots_of, host_value, value_at}
use Rattle.js_code.specs.NameLaws.{same_name, index_found}
use Rattle.js_code.specs.SlotLaws.{reads_slots}
use Rattle.js_code.specs.Parts.{name}
use Rattle.js_value.specs.HeapSeen.{value_of}
use Rattle.js_value.specs.declared.heap.heap.Object.{Object}
use Rattle.js_simple.specs.declared.state.Context.{Context}
use Rattle.js_simple.specs.Seen.{Point, Stands, slots_in, world_with}

abbrev number_of : Place → ℕ
number_of (in_function i) = i
number_of _ = 0

abbrev host_in : host.Host → Place → host.Host
host_in h (Host k) = k
host_in h _ = h

-- a function's place is where it stands among the functions
pub at_function : (t : Table) (x : Name) (i : ℕ) → in_function i ≡ place_of t x → option_map function (slice_get t.functions i) ≡ Some (function x)
at_function t x i q = ap (option_map function) (index_found t.functions x i (by (bytes_eq x (codes "$catch")) (index_in t.locals x) (host_named x) (index_in t.functions x) refl q))
  where
    in_globals : (g : Option ℕ) → in_function i ≡ placed g Global Nowhere → index_in t.functions x ≡ Some i
    in_globals (Some j) q = cc
    in_globals None q = cc

    by : (b : Bool) (l : Option ℕ) (h : Option run.Host) (f : Option ℕ) → index_in t.functions x ≡ f
        → in_function i ≡ cond b Caught (placed l Local (placed h (λ h. Host (host_here h)) (placed f in_function (global_place t x)))) → index_in t.functions x ≡ Some i
    by true l h f e q = cc
    by false (Some j) h f e q = cc
    by false None (Some h) f e q = cc
    by false None None (Some j) e q = e ∙ ap Some (sym (ap number_of q))
    by false None None None e q = in_globals (index_in t.globals x) q

-- a function of the host has the name by which it was found
host_known : (x : Name) (h : run.Host) → host_named x ≡ Some h → host_value (host_here h) ≡ function x
host_known x h found = by (bytes_eq x (codes "$write")) (bytes_eq x (codes "$pick")) (bytes_eq x (codes "$end")) refl refl refl found
  where
    by : (a b c : Bool) → bytes_eq x (codes "$write") ≡ a → bytes_eq x (codes "$pick") ≡ b → bytes_eq x (codes "$end") ≡ c
        → cond a (Some run.write) (cond b (Some run.pick) (cond c (Some run.finish) None)) ≡ Some h → host_value (host_here h) ≡ function x
    by true b c p q r e = let w : run.write ≡ h = cc in subst (λ (h : run.Host). host_value (host_here h) ≡ function x) w (ap function (sym (same_name x (codes "$write") p)))
    by false true c p q r e = let w : run.pick ≡ h = cc in subst (λ (h : run.Host). host_value (host_here h) ≡ function x) w (ap function (sym (same_name x (codes "$pick") q)))
    by false false true p q r e = let w : run.finish ≡ h = cc in subst (λ (h : run.Host). host_value (host_here h) ≡ function x) w (ap function (sym (same_name x (codes "$end") r)))
    by false false false p q r e = cc

-- a function of the host stands for its name
pub at_host : (t : Table) (x : Name) (h : host.Host) → Host h ≡ place_of t x → host_value h ≡ function x
at_host t x h q = by (bytes_eq x (codes "$catch")) (index_in t.locals x) (host_named x) (index_in t.functions x) refl q
  where
    in_globals : (g : Option ℕ) → Host h ≡ placed g Global Nowhere → host_value h ≡ function x
    in_globals (Some j) q = cc
    in_globals None q = cc

    by : (b : Bool) (l : Option ℕ) (k : Option run.Host) (f : Option ℕ) → host_named x ≡ k
        → Host h ≡ cond b Caught (placed l Local (placed k (λ h. Host (host_here h)) (placed f in_function (global_place t x)))) → host_value h ≡ function x
    by true l k f e q = cc
    by false (Some j) k f e q = cc
    by false None (Some k) f e q = ap host_value (ap (host_in h) q) ∙ host_known x k e
    by false None None (Some j) e q = cc
    by false None None None e q = in_globals (index_in t.globals x) q

-- a name of the code is what its place holds
pub name_at : (c : Context) (p : Point) (os : List Object) (number at : ℕ) (x : Name) (place : Place) → Stands c p → slice_get c.code.now number ≡ Some (name at x place)
    → eval p.setting p.scope p.locals (tree.name at x) (world_with os p.world)
    ≡ given at (value_at (table_of p.setting.script p.scope.names) (option_map value_of c.caught) (slots_in c.locals.now) (slots_in c.globals.now) place) (world_with os p.world)
name_at c p os number at x place s held =
    let t = table_of p.setting.script p.scope.names in
    let w = world_with os p.world in
    ap (λ o. given at o w)
    (reads_slots p.setting p.scope p.locals x w s.only
    ∙ ap (λ k. value_at t k (slots_of (distinct p.scope.names) p.locals) (slots_of (distinct (global_names p.setting.script.items)) p.world.globals) (place_of t x)) s.caught
    ∙ ap (λ k. value_at t (option_map value_of c.caught) k (slots_of (distinct (global_names p.setting.script.items)) p.world.globals) (place_of t x)) s.locals
    ∙ ap (λ k. value_at t (option_map value_of c.caught) (slots_in c.locals.now) k (place_of t x)) s.globals
    ∙ ap (value_at t (option_map value_of c.caught) (slots_in c.locals.now) (slots_in c.globals.now)) (sym (s.code.placed number (name at x place) held)))
