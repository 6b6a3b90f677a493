-- Names that count as used where a form stands that is not built yet.
use Rattle.std.proofs.Common.{arith, ◌≡◌, ◌<◌, ◌≤◌, ◌+◌, ◌∙◌, ℕ, zero, suc, refl, sym, ap, subst, List, [], ◌∷◌, ◌++◌, append_assoc, map, length, drop, get_or, Bool, true, false, ◌||◌}
use Rattle.std.specs.Prelude.{◌==◌}
use Rattle.std.proofs.lemmas.List.{append-nil}
use Rattle.std.proofs.lemmas.Bool.Decides.{nat_tests}
use Rattle.gj_base.specs.declared.place.Place.{Place}
use Rattle.go_syntax.specs.declared.tree.Name.{Name}
use Rattle.go_type.specs.Tree.{Ty}
use Rattle.go_core.specs.CoreView as views
use Rattle.go_core.specs.declared.statement.CoreStmt.{CoreStmt}
use Rattle.go_typing.specs.Answer as typing
use Rattle.go_typing.specs.Scopes as scopes
use Rattle.go_operands.specs.EnvView.{table_of, env_of}
use Rattle.go_operands.specs.declared.scopes.env.Env.{Env}
use Rattle.go_type.specs.Table.{size, KeepsTrees}
use Rattle.go_operands.specs.AnswerView.{flaw_view}
use Rattle.go_operands.specs.declared.answers.answer.Flaw.{Flaw}
use Rattle.go_typing.specs.Walk as go
use Rattle.go_typing.specs.Walk.{Did}
use Rattle.go_typing.specs.Statements.{has_unbuilt, and_places, spared}
use Rattle.go_walk.specs.WalkView.{walk_of, depth, Keeps}
use Rattle.go_walk.specs.declared.walk.walk.Walk.{Walk}
use Rattle.go_assign.specs.Outcome.{Does}
use Rattle.go_body.specs.Spared.{with_spared}
use Rattle.go_body.proofs.FallsLemmas.{next_at, past}

abbrev unbuilt : List Flaw → Bool
unbuilt fs = has_unbuilt (map flaw_view fs)

zero_is : (n : ℕ) → n ≡ 0 → (n == 0) ≡ true
zero_is n h = grind (arith, nat_tests)

some_is : (n : ℕ) → (n ≡ 0 → ⊥) → (n == 0) ≡ false
some_is n h = grind (arith, nat_tests)

pub unbuilt_here : (fs : List Flaw) (i : ℕ) (f : Flaw) (all : Bool) → i < length fs → f ≡ get_or fs i f → f.code ≡ 0 → has_unbuilt (map flaw_view (drop i fs)) ≡ all → true ≡ all
unbuilt_here fs i f all h e z p = sym (ap unbuilt (next_at fs i f h e) ∙ ap (λ (b : Bool). b || unbuilt (drop (i + 1) fs)) (zero_is f.code z)) ∙ p

pub unbuilt_on : (fs : List Flaw) (i : ℕ) (f : Flaw) (all : Bool) → i < length fs → f ≡ get_or fs i f → (f.code ≡ 0 → ⊥) → has_unbuilt (map flaw_view (drop i fs)) ≡ all → has_unbuilt (map flaw_view (drop (i + 1) fs)) ≡ all
unbuilt_on fs i f all h e z p = sym (ap unbuilt (next_at fs i f h e) ∙ ap (λ (b : Bool). b || unbuilt (drop (i + 1) fs)) (some_is f.code z)) ∙ p

pub unbuilt_end : (fs : List Flaw) (i : ℕ) (all : Bool) → length fs ≤ i → has_unbuilt (map flaw_view (drop i fs)) ≡ all → false ≡ all
unbuilt_end fs i all h p = sym (ap unbuilt (past fs i h)) ∙ p

abbrev place_in : Name → Place
place_in n = n.place

pub places_on : (ns : List Name) (i : ℕ) (n : Name) (old now all : List Place) → i < length ns → n ≡ get_or ns i n → now ≡ old ++ n.place ∷ [] → old ++ map (λ m. m.place) (drop i ns) ≡ all → now ++ map (λ m. m.place) (drop (i + 1) ns) ≡ all
places_on ns i n old now all h e q p =
    ap (λ (x : List Place). x ++ map place_in (drop (i + 1) ns)) q ∙ append_assoc old (n.place ∷ []) (map place_in (drop (i + 1) ns)) ∙ ap (λ (x : List Name). old ++ map place_in x) (sym (next_at ns i n h e)) ∙ p

pub places_end : (ns : List Name) (i : ℕ) (now all : List Place) → length ns ≤ i → now ++ map (λ m. m.place) (drop i ns) ≡ all → now ≡ all
places_end ns i now all h p = sym (append-nil now) ∙ ap (λ (x : List Name). now ++ map place_in x) (sym (past ns i h)) ∙ p

-- ---- the statement

drop_all : {X : Type 0} (xs ys : List X) → drop (length xs) (xs ++ ys) ≡ ys
drop_all [] ys = refl
drop_all (x ∷ xs) ys = drop_all xs ys

drop_map : (n : ℕ) (fs : List Flaw) → drop n (map flaw_view fs) ≡ map flaw_view (drop n fs)
drop_map zero fs = refl
drop_map (suc n) [] = refl
drop_map (suc n) (f ∷ fs) = drop_map n fs

length_view : (fs : List Flaw) → length (map flaw_view fs) ≡ length fs
length_view [] = refl
length_view (f ∷ fs) = ap suc (length_view fs)

new_flaws : (f0 f1 : List Flaw) (n : ℕ) (gs : List typing.Flaw) → n ≡ length f0 → map flaw_view f1 ≡ map flaw_view f0 ++ gs → map flaw_view (drop n f1) ≡ gs
new_flaws f0 f1 n gs p h = sym (drop_map n f1) ∙ (λ j. drop ((p ∙ sym (length_view f0)) j) (h j)) ∙ drop_all (map flaw_view f0) gs

abbrev using_places : go.Walk → List Place → go.Walk
using_places w us = record w { used = us }

pub spared_does : (d : go.Walk → Did) (a b c : Walk) (f0 f1 : List Flaw) (o0 o1 : List CoreStmt) (names before : ℕ) → names ≡ length a.declared.items → before ≡ length f0 → Does d a b f0 f1 o0 o1 → c.env ≡ b.env
    → ((ts : List Ty) → walk_of ts c ≡ with_spared (has_unbuilt (map flaw_view (drop before f1))) names (walk_of ts b)) → Does (λ w. spared w (d w)) a c f0 f1 o0 o1
spared_does d a b c f0 f1 o0 o1 names before p q h e w = record {
  told = λ ts l. h.told ts (to_b ts l);
  core = λ ts l. h.core ts (to_b ts l);
  walk = λ ts l. w ts ∙ (λ j. with_spared (has_unbuilt (new_flaws f0 f1 before (d (walk_of ts a)).flaws q (h.told ts (to_b ts l)) j)) (p j) (h.walk ts (to_b ts l) j));
  depth = ap (λ (x : Env). length (env_of x).blocks) e ∙ h.depth;
  kept = subst (λ (x : Env). KeepsTrees (table_of a.env) (table_of x)) (sym e) h.kept;
  counts = subst (λ (x : Env). size (table_of a.env) ≤ size (table_of x)) (sym e) h.counts;
}
  where
    to_b : (ts : List Ty) → Keeps (table_of c.env) ts → Keeps (table_of b.env) ts
    to_b ts l = subst (λ (x : Env). Keeps (table_of x) ts) e l
