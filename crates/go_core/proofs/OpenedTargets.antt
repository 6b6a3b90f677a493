-- The operands of sound left sides, and of a select's communications.
use Rattle.std.proofs.Common.{ap, ◌∙◌, subst}
use Rattle.std.specs.Prelude.{◌≡◌, ℕ, List, [], ◌∷◌, ◌++◌}
use Rattle.go_type.specs.Tree as ty
use Rattle.go_type.specs.Tree.{Ty}
use Rattle.go_type.specs.Underlying.{underlying}
use Rattle.go_core.specs.CoreTree as core
use Rattle.go_core.specs.CoreTree.{CorePlace, Target, CoreProgram}
use Rattle.go_core.specs.TypeOf.{types_of, field_in}
use Rattle.go_core.specs.SoundNode.{Around}
use Rattle.go_core.specs.Sound.{SoundPlace, LiesAt, SoundTarget, SoundTargets, IsMapOf}
use Rattle.go_core.specs.Opened.{evaluated, operands_first, target_first, targets_first}
use Rattle.go_core.specs.Goroutine.{Task}
use Rattle.go_core.specs.Typed.{World}
use Rattle.go_core.specs.Applies.{Slot, a_value, pushed_slots}
use Rattle.go_core.specs.TasksTyped.{ScopeTyped, PlaceTyped, local_place, global_place, deref_place, field_place, elem_place, slice_place, TargetTyped, blank_target, place_target, entry_target, TargetsTyped, no_target, more_targets, TasksTyped}
use Rattle.go_core.proofs.OpenedLemmas.{pushed_append, pointed, array_is, slice_is, field_is, scope_var}
use Rattle.go_core.proofs.OpenedExprs.{ev, one}

map_of_is : (u k v : Ty) → IsMapOf u k v → u ≡ ty.mapping k v
map_of_is (ty.mapping a b) k v h = ap (λ x. ty.mapping x b) h.0 ∙ ap (λ x. ty.mapping k x) h.1
map_of_is _ k v h = absurd h

module _ (p : CoreProgram) (w : World) (results : List Ty) (had : List ℕ) (a : Around) (s : ScopeTyped p had a) where
  abbrev T : List Slot → List Task → Type 0
  T st ts = TasksTyped p w results had st ts

  apart : (xs ys st : List Slot) (rest : List Task) → T (pushed_slots (xs ++ ys) st) rest → T (pushed_slots ys (pushed_slots xs st)) rest
  apart xs ys st rest h = subst (λ ss. T ss rest) (pushed_append xs ys st) h

  -- a place's operands, and that they are opened
  pub record PlaceOpens (c : CorePlace) (t : Ty) : Type 0 where
    pub slots : List Slot
    pub typed : PlaceTyped p had c slots t
    pub opens : (st : List Slot) (rest : List Task) → T (pushed_slots slots st) rest → T st (operands_first c rest)

  pub place_opens : (c : CorePlace) (t : Ty) → SoundPlace p a c → LiesAt p a.vars c t → PlaceOpens c t
  place_opens (core.local_ v) t h l = record { slots = []; typed = local_place v t (scope_var p had a.vars v t s.in_scope l); opens = λ st rest k. k }
  place_opens (core.global n) t h l = record { slots = []; typed = global_place n t l; opens = λ st rest k. k }
  place_opens (core.deref e) t h l =
      let d = pointed p (types_of p.names e) t l in
      record { slots = a_value d.by ∷ []; typed = deref_place e d.by t d.points; opens = λ st rest k. ev p w results e had a st rest s h.0 (one p w results had e d.by d.is_one st rest k) }
  place_opens (core.field q n c) t h l =
      let g = field_is (field_in (underlying p.names q) n) t l in
      let i = place_opens c q h.0 h.1 in
      record { slots = i.slots; typed = subst (λ u. PlaceTyped p had (core.field q n c) i.slots u) g.2 (field_place q n c i.slots g.0 i.typed g.1); opens = i.opens }
  place_opens (core.elem q c e) t h l =
      let n = array_is (underlying p.names q) t h.3 l in
      let i = place_opens c q h.0 h.2 in
      record {
        slots = i.slots ++ a_value h.4.0 ∷ [];
        typed = elem_place q t h.4.0 n.0 c e i.slots i.typed n.1 h.4.2;
        opens = λ st rest k. i.opens st (evaluated e rest) (ev p w results e had a (pushed_slots i.slots st) rest s h.1 (one p w results had e h.4.0 h.4.1 (pushed_slots i.slots st) rest (apart i.slots (a_value h.4.0 ∷ []) st rest k)));
      }
  place_opens (core.slice_elem q e k) t h l =
      record {
        slots = a_value q ∷ a_value h.4.0 ∷ [];
        typed = slice_place q t h.4.0 e k (slice_is (underlying p.names q) t h.3 l) h.4.2;
        opens = λ st rest x. ev p w results e had a st (evaluated k rest) s h.0 (one p w results had e q h.2 st (evaluated k rest) (ev p w results k had a (a_value q ∷ st) rest s h.1 (one p w results had k h.4.0 h.4.1 (a_value q ∷ st) rest x)));
      }

  pub record TargetOpens (x : Target) (t : Ty) : Type 0 where
    pub slots : List Slot
    pub typed : TargetTyped p had x slots t
    pub opens : (st : List Slot) (rest : List Task) → T (pushed_slots slots st) rest → T st (target_first x rest)

  pub target_opens : (x : Target) (t : Ty) → SoundTarget p a x t → TargetOpens x t
  target_opens core.blank t h = record { slots = []; typed = blank_target t; opens = λ st rest k. k }
  target_opens (core.to_place u c) t h =
      let i = place_opens c u h.0 h.1 in
      record { slots = i.slots; typed = subst (λ v. TargetTyped p had (core.to_place u c) i.slots v) h.2 (place_target u c i.slots i.typed); opens = i.opens }
  target_opens (core.to_entry m e key) t h =
      record {
        slots = a_value m ∷ a_value h.3 ∷ [];
        typed = entry_target m h.3 t e key (map_of_is (underlying p.names m) h.3 t h.5);
        opens = λ st rest x. ev p w results e had a st (evaluated key rest) s h.0 (one p w results had e m h.2 st (evaluated key rest) (ev p w results key had a (a_value m ∷ st) rest s h.1 (one p w results had key h.3 h.4 (a_value m ∷ st) rest x)));
      }

  pub record TargetsOpen (xs : List Target) (ts : List Ty) : Type 0 where
    pub slots : List Slot
    pub typed : TargetsTyped p had xs slots ts
    pub opens : (st : List Slot) (rest : List Task) → T (pushed_slots slots st) rest → T st (targets_first xs rest)

  pub targets_open : (xs : List Target) (ts : List Ty) → SoundTargets p a xs ts → TargetsOpen xs ts
  targets_open [] [] h = record { slots = []; typed = no_target; opens = λ st rest k. k }
  targets_open [] (t ∷ ts) h = absurd h
  targets_open (x ∷ xs) [] h = absurd h
  targets_open (x ∷ xs) (t ∷ ts) h =
      let i = target_opens x t h.0 in
      let j = targets_open xs ts h.1 in
      record {
        slots = i.slots ++ j.slots;
        typed = more_targets x xs i.slots j.slots t ts i.typed j.typed;
        opens = λ st rest k. i.opens st (targets_first xs rest) (j.opens (pushed_slots i.slots st) rest (apart i.slots j.slots st rest k));
      }
