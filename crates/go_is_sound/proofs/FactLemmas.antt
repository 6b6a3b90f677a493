-- Facts of a program.
use Rattle.std.proofs.Common.{◌⊎◌, inl, inr, refl, sym, ap, ◌∙◌, subst, arith}
use Rattle.std.specs.Prelude.{◌≡◌, ◌<◌, ◌+◌, ℕ, List, [], ◌∷◌, ◌++◌, Bool, true, false, Option, Some, None, length, map, slice_get, Contains, All, AllPairs}
use Rattle.std.specs.List.{AllByRecursion}
use Rattle.std.proofs.lemmas.List.{length-append}
use Rattle.go_type.specs.Tree.{Ty}
use Rattle.go_type.specs.Levels.{tree_of}
use Rattle.go_type.specs.Table.{places}
use Rattle.go_type.specs.declared.types.TypeId.{TypeId}
use Rattle.go_core.specs.declared.node.Var as declared
use Rattle.go_core.specs.declared.program.MethodRow as rows
use Rattle.go_core.specs.declared.program.Program.{Program}
use Rattle.go_core.specs.CoreTree.{CoreProgram, MethodRow}
use Rattle.go_core.specs.CoreView.{method_row_view, program_view, var_of}
use Rattle.go_core.specs.SoundNode.{HasRows, IsGoodType, IsRowOf}
use Rattle.go_core.specs.SoundProgram.{DifferInId, all_vars}
use Rattle.go_sound_parts.specs.Measures.{AreKnown}
use Rattle.go_is_sound.specs.declared.facts.Facts.{Facts}
use Rattle.go_sound_parts.proofs.MeasureLemmas.{got_push}
use Rattle.go_is_sound.specs.Facts.{ArePlaced, Holds, IsMarked, RowsFit, RowsKnown}
use Rattle.go_is_sound.specs.Rows.{AreDeclared, IsDeclaredAt}
use Rattle.go_is_sound.proofs.ListLemmas.{some_one, contains_of_map, each_got, pairs_got}

two_marks : (o : Option Bool) → o ≡ Some true → o ≡ Some false → ⊥
two_marks o h k = cc

pub no_row : (ts : List Ty) (marks : List Bool) (rs : List rows.MethodRow) → AllByRecursion (IsMarked marks) rs
    → (k : ℕ) → slice_get marks k ≡ Some false → (row : MethodRow) × Contains (map (method_row_view ts) rs) row × (row.func ≡ k) → ⊥
no_row ts marks rs h k e r =
    let g = contains_of_map (method_row_view ts) rs r.0 r.1 in
    let m : slice_get marks g.0.func.0 ≡ Some true = each_got (IsMarked marks) rs g.1 g.0 h g.2 in
    let n : g.0.func.0 ≡ k = ap (λ (x : MethodRow). x.func) g.3 ∙ r.2 in
    two_marks (slice_get marks k) (subst (λ (i : ℕ). slice_get marks i ≡ Some true) n m) e

pub rows_more : (p : Program) (marks : List Bool) (i : ℕ) (b : Bool) → RowsKnown p marks i
    → (b ≡ true → HasRows (program_view p) (tree_of (places p.types) (record { 0 = i }))) → RowsKnown p (marks ++ b ∷ []) (i + 1)
rows_more p marks i b h f = record {
  counted = let e = h.counted in let l = length-append marks (b ∷ []) in omega (arith, e, l);
  has_rows = λ t e. by_place t (got_push marks t.0 b true e);
}
  where
    by_place : (t : TypeId) → (slice_get marks t.0 ≡ Some true) ⊎ ((t.0 ≡ length marks) × (b ≡ true)) → HasRows (program_view p) (tree_of (places p.types) t)
    by_place t (inl g) = h.has_rows t g
    by_place t (inr g) = subst (λ (k : ℕ). HasRows (program_view p) (tree_of (places p.types) (record { 0 = k }))) (sym (g.0 ∙ h.counted)) (f g.1)

nothing : None ≡ Some true → ⊥
nothing e = cc

no_yes : false ≡ true → ⊥
no_yes e = cc

pub no_rows_yet : (p : Program) → RowsKnown p [] 0
no_rows_yet p = record { counted = refl; has_rows = λ t e. absurd (nothing e) }

-- where no mark is set
pub none_marked : (q : CoreProgram) → AreDeclared q []
none_marked q = λ i e. absurd (nothing e)

pub not_marked : (q : CoreProgram) (done : List Bool) → AreDeclared q done → AreDeclared q (done ++ false ∷ [])
not_marked q done h i e = by_place (got_push done i false true e)
  where
    by_place : (slice_get done i ≡ Some true) ⊎ ((i ≡ length done) × (false ≡ true)) → IsDeclaredAt q i
    by_place (inl g) = h i g
    by_place (inr g) = absurd (no_yes g.1)

two_places : (i j : ℕ) (o : Option ℕ) → o ≡ Some i → o ≡ Some j → i < j → ⊥
two_places i j o h k l = let e : i ≡ j = some_one i j (sym h ∙ k) in omega (arith, e)

pub placed_differ : (ts : List Ty) (vars : List declared.Var) (ps : List ℕ) → ArePlaced vars ps → AllPairs DifferInId (map (var_of ts) vars)
placed_differ ts vars ps h =
    pairs_got DifferInId (var_of ts) vars
    (λ i j v w l e f. λ same. two_places i j (slice_get ps v.id.0) (h i v e) (subst (λ (n : ℕ). slice_get ps n ≡ Some j) (sym same) (h j w f)) l)

pub facts_hold : (p : Program) (f : Facts) → All (IsGoodType (program_view p)) (program_view p).types → AreKnown (program_view p).names (places p.types) f.measures.items
    → ((k : ℕ) → slice_get f.is_method.items k ≡ Some false → IsRowOf (program_view p) k → ⊥) → RowsFit p f.has_rows.items
    → map (var_of (places p.types)) f.vars.items ≡ all_vars (program_view p) → ArePlaced f.vars.items f.places.items → Holds p f
facts_hold p f a b c d e h = record {
  types_fit = a;
  measures_fit = b;
  is_method = c;
  rows_fit = d;
  vars_fit = e;
  vars_differ = subst (AllPairs DifferInId) e (placed_differ (places p.types) f.vars.items f.places.items h);
}
