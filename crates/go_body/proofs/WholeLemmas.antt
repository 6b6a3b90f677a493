-- What is told of a body as a whole.
use Rattle.std.proofs.Common.{arith, ◌≡◌, ◌<◌, ◌≤◌, ◌+◌, ◌-◌, ◌∙◌, ℕ, suc, refl, sym, ap, List, [], ◌∷◌, ◌++◌, append_assoc, map, length, drop, get_or, Bool, true, false}
use Rattle.std.specs.Prelude.{Option, Some, None, if◌then◌else◌, ◌==◌}
use Rattle.std.specs.Borrow.{Bor}
use Rattle.std.proofs.lemmas.List.{append-nil}
use Rattle.std.proofs.lemmas.Bool.Decides.{nat_tests}
use Rattle.gj_base.specs.declared.place.Place.{Place}
use Rattle.go_type.specs.Tree.{Ty}
use Rattle.go_type.specs.Table.{places}
use Rattle.go_type.specs.declared.types.TypeId.{TypeId}
use Rattle.go_type.specs.declared.table.TypeTable.{TypeTable}
use Rattle.go_core.specs.CoreView as views
use Rattle.go_core.specs.Terminating.{is_terminating, ends_terminating}
use Rattle.go_core.specs.declared.statement.CoreStmt.{CoreStmt}
use Rattle.go_typing.specs.Answer as typing
use Rattle.go_typing.specs.Answer.{flaw}
use Rattle.go_operands.specs.EnvView.{table_of}
use Rattle.go_calls.specs.Words.{types_of}
use Rattle.go_operands.specs.AnswerView.{flaw_view}
use Rattle.go_operands.specs.declared.answers.answer.Flaw.{Flaw}
use Rattle.go_typing.specs.Walk.{unused}
use Rattle.go_typing.specs.Statements.{where_clean, far_told, flaw_places}
use Rattle.go_walk.specs.declared.walk.parts.Before.{Before}
use Rattle.go_walk.specs.declared.walk.walk.Walk.{Walk}
use Rattle.go_define.specs.declared.simple.around.Around.{Around}
use Rattle.go_body.specs.Whole.{missing, if_clean, function_told, rest_told}
use Rattle.go_body.proofs.FallsLemmas.{next_at, past}
use Rattle.go_body.proofs.LeafLemmas.{clean_is, length_view, length_more}

-- ---- what is told where control comes to the end

module _ (o : Option (Bor (List TypeId))) (end : Place) (e : Bool) where
  pub no_types : (f : List Flaw) → o ≡ None → map flaw_view f ≡ map flaw_view f ++ missing o end e
  no_types f p = sym (append-nil (map flaw_view f)) ∙ ap (λ (x : Option (Bor (List TypeId))). map flaw_view f ++ missing x end e) (sym p)

  pub no_results : (is : Bor (List TypeId)) (f : List Flaw) → o ≡ Some is → length is.now ≡ 0 → map flaw_view f ≡ map flaw_view f ++ missing o end e
  no_results is f p q =
      sym (append-nil (map flaw_view f)) ∙ (λ j. map flaw_view f ++ (if (sym (zero_is (length is.now) q) j) then [] else if e then [] else flaw end 87 ∷ []))
      ∙ ap (λ (x : Option (Bor (List TypeId))). map flaw_view f ++ missing x end e) (sym p)
    where
      zero_is : (n : ℕ) → n ≡ 0 → (n == 0) ≡ true
      zero_is n h = grind (arith, nat_tests)

  some_is : (n : ℕ) → (n ≡ 0 → ⊥) → (n == 0) ≡ false
  some_is n h = grind (arith, nat_tests)

  pub ended : (is : Bor (List TypeId)) (f : List Flaw) → o ≡ Some is → (length is.now ≡ 0 → ⊥) → e ≡ true → map flaw_view f ≡ map flaw_view f ++ missing o end e
  ended is f p q h =
      sym (append-nil (map flaw_view f)) ∙ (λ j. map flaw_view f ++ (if (sym (some_is (length is.now) q) j) then [] else if (sym h j) then [] else flaw end 87 ∷ []))
      ∙ ap (λ (x : Option (Bor (List TypeId))). map flaw_view f ++ missing x end e) (sym p)

  pub not_ended : (is : Bor (List TypeId)) (f0 f1 : List Flaw) → o ≡ Some is → (length is.now ≡ 0 → ⊥) → e ≡ false → map flaw_view f1 ≡ map flaw_view f0 ++ flaw end 87 ∷ [] → map flaw_view f1 ≡ map flaw_view f0 ++ missing o end e
  not_ended is f0 f1 p q h k =
      k ∙ (λ j. map flaw_view f0 ++ (if (sym (some_is (length is.now) q) j) then [] else if (sym h j) then [] else flaw end 87 ∷ []))
      ∙ ap (λ (x : Option (Bor (List TypeId))). map flaw_view f0 ++ missing x end e) (sym p)

-- ---- what is told of a function as a whole

pub far_some : (o : Option Place) (at : Place) (f0 f1 : List Flaw) → o ≡ Some at → map flaw_view f1 ≡ map flaw_view f0 ++ flaw at 79 ∷ [] → map flaw_view f1 ≡ map flaw_view f0 ++ far_told o
far_some o at f0 f1 p h = h ∙ ap (λ (x : Option Place). map flaw_view f0 ++ far_told x) (sym p)

pub far_none : (o : Option Place) (f : List Flaw) → o ≡ None → map flaw_view f ≡ map flaw_view f ++ far_told o
far_none o f p = sym (append-nil (map flaw_view f)) ∙ ap (λ (x : Option Place). map flaw_view f ++ far_told x) (sym p)

module _ (o : Option (Bor (List TypeId))) (far : Option Place) (end : Place) (ends b : Bool) (before : ℕ) (f0 f1 : List Flaw) (p : before ≡ length f0) (h : map flaw_view f1 ≡ map flaw_view f0 ++ missing o end ends) (e : b ≡ (length f1 == before)) where
  as_clean : if_clean (length f1 == before) (far_told far) ≡ where_clean (missing o end ends) (far_told far)
  as_clean =
      let counted : (length f1 == before) ≡ (length f0 + length (missing o end ends) == length f0) = λ j. length_more f0 f1 (missing o end ends) h j == p j in
      ap (λ (x : Bool). if_clean x (far_told far)) counted ∙ clean_is (length f0) (missing o end ends) (far_told far)

  pub function_clean : (f2 : List Flaw) → b ≡ true → map flaw_view f2 ≡ map flaw_view f1 ++ far_told far → map flaw_view f2 ≡ map flaw_view f0 ++ function_told o far end ends
  function_clean f2 q k =
      let ms = missing o end ends in
      let fs = far_told far in
      let all : fs ≡ where_clean ms fs = ap (λ (x : Bool). if_clean x fs) (sym q ∙ e) ∙ as_clean in
      k ∙ ap (λ (x : List typing.Flaw). x ++ fs) h ∙ append_assoc (map flaw_view f0) ms fs ∙ ap (λ (x : List typing.Flaw). map flaw_view f0 ++ (ms ++ x)) all

  pub function_other : b ≡ false → map flaw_view f1 ≡ map flaw_view f0 ++ function_told o far end ends
  function_other q =
      let ms = missing o end ends in
      let none : if_clean false (far_told far) ≡ where_clean ms (far_told far) = ap (λ (x : Bool). if_clean x (far_told far)) (sym q ∙ e) ∙ as_clean in
      h ∙ ap (λ (x : List typing.Flaw). map flaw_view f0 ++ x) (sym (append-nil ms) ∙ ap (λ (x : List typing.Flaw). ms ++ x) none)

pub typed_so : (m n : ℕ) (fs : List typing.Flaw) (f0 f1 : List Flaw) → m ≡ n → map flaw_view f1 ≡ map flaw_view f0 ++ fs → map flaw_view f1 ≡ map flaw_view f0 ++ (if m == n then fs else [])
typed_so m n fs f0 f1 p h = h ∙ ap (λ (x : Bool). map flaw_view f0 ++ if_clean x fs) (sym (equal m n p))
  where
    equal : (x y : ℕ) → x ≡ y → (x == y) ≡ true
    equal x y q = grind (arith, nat_tests)

pub typed_not : (m n : ℕ) (fs : List typing.Flaw) (f : List Flaw) → (m ≡ n → ⊥) → map flaw_view f ≡ map flaw_view f ++ (if m == n then fs else [])
typed_not m n fs f p = sym (append-nil (map flaw_view f)) ∙ ap (λ (x : Bool). map flaw_view f ++ if_clean x fs) (sym (unequal m n p))
  where
    unequal : (x y : ℕ) → (x ≡ y → ⊥) → (x == y) ≡ false
    unequal x y q = grind (arith, nat_tests)

-- ---- where faults stand

pub places_next : (fs : List Flaw) (i : ℕ) (f : Flaw) (old now all : List Place) → i < length fs → f ≡ get_or fs i f → now ≡ old ++ f.place ∷ [] → old ++ flaw_places (map flaw_view (drop i fs)) ≡ all → now ++ flaw_places (map flaw_view (drop (i + 1) fs)) ≡ all
places_next fs i f old now all h e q p =
    let rest = flaw_places (map flaw_view (drop (i + 1) fs)) in
    ap (λ (x : List Place). x ++ rest) q ∙ append_assoc old (f.place ∷ []) rest ∙ ap (λ (gs : List Flaw). old ++ flaw_places (map flaw_view gs)) (sym (next_at fs i f h e)) ∙ p

pub places_last : (fs : List Flaw) (i : ℕ) (now all : List Place) → length fs ≤ i → now ++ flaw_places (map flaw_view (drop i fs)) ≡ all → now ≡ all
places_last fs i now all h p = sym (append-nil now) ∙ ap (λ (gs : List Flaw). now ++ flaw_places (map flaw_view gs)) (sym (past fs i h)) ∙ p

-- ---- one after the other

module _ (a : Around) (end : Place) (before : Before) (ls : List typing.Flaw) (w : Walk) (ends b : Bool) (f0 f1 f2 : List Flaw) (h : map flaw_view f1 ≡ map flaw_view f0 ++ ls) (k : map flaw_view f2 ≡ map flaw_view f1 ++ unused w.declared.items w.used.items) (e : b ≡ (length f2 == before.flaws)) where
  abbrev us : List typing.Flaw
  us = unused w.declared.items w.used.items

  abbrev rest : List typing.Flaw
  rest = if w.lost == before.lost then function_told a.results a.too_far end ends else []

  so_far : map flaw_view f2 ≡ map flaw_view f0 ++ ls ++ us
  so_far = k ∙ ap (λ (x : List typing.Flaw). x ++ us) h

  same_count : b ≡ (length (map flaw_view f0 ++ ls ++ us) == before.flaws)
  same_count = e ∙ ap (λ (n : ℕ). n == before.flaws) (sym (length_view f2) ∙ ap (λ (x : List typing.Flaw). length x) so_far)

  pub whole_clean : (f3 : List Flaw) → b ≡ true → map flaw_view f3 ≡ map flaw_view f2 ++ rest → map flaw_view f3 ≡ map flaw_view f0 ++ rest_told a end before (map flaw_view f0) ls w ends
  whole_clean f3 q m =
      m ∙ ap (λ (x : List typing.Flaw). x ++ rest) (so_far ∙ append_assoc (map flaw_view f0) ls us) ∙ append_assoc (map flaw_view f0) (ls ++ us) rest
      ∙ ap (λ (x : Bool). map flaw_view f0 ++ (ls ++ us ++ if_clean x rest)) (sym q ∙ same_count)

  pub whole_other : b ≡ false → map flaw_view f2 ≡ map flaw_view f0 ++ rest_told a end before (map flaw_view f0) ls w ends
  whole_other q =
      so_far ∙ append_assoc (map flaw_view f0) ls us ∙ ap (λ (x : List typing.Flaw). map flaw_view f0 ++ x) (sym (append-nil (ls ++ us)))
      ∙ ap (λ (x : Bool). map flaw_view f0 ++ (ls ++ us ++ if_clean x rest)) (sym q ∙ same_count)

-- ---- the last statement decides

ends_last : (w : Walk) (t : List Ty) (xs : List CoreStmt) (n : ℕ) (s : CoreStmt) → n ≡ length xs → (n ≡ 0 → ⊥) → s ≡ get_or xs (n - 1) s → is_terminating (views.stmt_view t s) ≡ ends_terminating (views.stmts_of (map (views.stmt_view t) xs))
ends_last w t [] n s h k e = absurd (k h)
ends_last w t (x ∷ []) n s h k e = let one : n - 1 ≡ 0 = omega (arith, h) in ap (λ (y : CoreStmt). is_terminating (views.stmt_view t y)) (e ∙ ap (λ (i : ℕ). get_or (x ∷ []) i s) one)
ends_last w t (x ∷ y ∷ xs) n s h k e =
    let one : n - 1 ≡ suc (length xs) = omega (arith, h) in
    let less : length xs ≡ suc (length xs) - 1 = omega arith in
    let some : suc (length xs) ≡ 0 → ⊥ = omega arith in
    ends_last w t (y ∷ xs) (suc (length xs)) s refl some (e ∙ ap (λ (i : ℕ). get_or (x ∷ y ∷ xs) i s) one ∙ ap (λ (i : ℕ). get_or (y ∷ xs) i s) less)

pub ends_at : (w : Walk) (table : TypeTable) (xs : List CoreStmt) (n : ℕ) (s : CoreStmt) (b : Bool) → table ≡ table_of w.env → n ≡ length xs → (n ≡ 0 → ⊥) → s ≡ get_or xs (n - 1) s → b ≡ is_terminating (views.stmt_view (places table) s)
    → b ≡ ends_terminating (views.stmts_of (map (views.stmt_view (types_of w.env)) xs))
ends_at w table xs n s b p h k e q = q ∙ ap (λ (x : TypeTable). is_terminating (views.stmt_view (places x) s)) p ∙ ends_last w (types_of w.env) xs n s h k e

pub ends_none : (t : List Ty) (xs : List CoreStmt) (n : ℕ) → n ≡ length xs → n ≡ 0 → false ≡ ends_terminating (views.stmts_of (map (views.stmt_view t) xs))
ends_none t [] n h k = refl
ends_none t (x ∷ xs) n h k = absurd (omega (arith, h, k))
