-- The order of the rows' programs.
use Rattle.std.proofs.Common.{inl, inr, refl, sym, ap, ◌∙◌, subst, arith}
use Rattle.std.specs.Prelude.{◌≡◌, ◌≤◌, ◌⊎◌, ℕ, zero, suc, List, [], ◌∷◌, Some, Contains, slice_get, IsTrue}
use Rattle.go_core.specs.CoreTree.{CoreFunc, PackageVar, PackageRow, initialise, call_init}
use Rattle.go_core.specs.MeaningWords.{error_func, func_of}
use Rattle.go_core.specs.Text.{text_less}
use Rattle.go_mentions.specs.Mentions.{in_stmts, in_bound}
use Rattle.go_init.specs.InitOrder.{Reference, to_variable, to_function, references, SetsIt, Refers, variable_refers, function_refers, LeadsTo, at_once, through, DependsOn, IsVariableOf, IsReady, IsNext, AreSetWith, IsHolder, SetsVariables, all_set, next_set, InitialisesPackage, IsReadyPackage, IsNextPackage, InitialisesPackages, all_done, next_done}
use Rattle.go_init.specs.OrderRows.{root, reader, init_func, plain_main, var_a, var_b, var_c, by_need, round_reader, var_round, round, OrderRows}
use Rattle.go_init.proofs.Each.{Each, of_each, some_inj}

here : {X : Type 0} (x : X) (xs : List X) → Contains (x ∷ xs) x
here x xs = (0, omega arith, refl)

further : {X : Type 0} (x y : X) (xs : List X) → Contains xs x → Contains (y ∷ xs) x
further x y xs (k, lt, e) = (suc k, omega (arith, lt), e)

none : {X : Type 0} (x : X) → Contains [] x → ⊥
none x (k, lt, e) = omega (arith, lt)

-- ---- package variables by their places

number_at : (n : ℕ) (x : PackageVar) → slice_get by_need.globals n ≡ Some x → x.number ≡ n
number_at zero x e = ap (λ (v : PackageVar). v.number) (sym (some_inj var_a x e))
number_at (suc zero) x e = ap (λ (v : PackageVar). v.number) (sym (some_inj var_b x e))
number_at (suc (suc zero)) x e = ap (λ (v : PackageVar). v.number) (sym (some_inj var_c x e))
number_at (suc (suc (suc n))) x e = absurd (cc)

first_at : (n : ℕ) (x : PackageVar) → slice_get by_need.globals n ≡ Some x → x.first ≡ n
first_at zero x e = ap (λ (v : PackageVar). v.first) (sym (some_inj var_a x e))
first_at (suc zero) x e = ap (λ (v : PackageVar). v.first) (sym (some_inj var_b x e))
first_at (suc (suc zero)) x e = ap (λ (v : PackageVar). v.first) (sym (some_inj var_c x e))
first_at (suc (suc (suc n))) x e = absurd (cc)

-- ---- references

-- what holds of each reference
module _ (P : Reference → Reference → Type 0) (a : P (to_variable 0) (to_variable 1)) (b : P (to_variable 1) (to_function 2)) (c : P (to_function 2) (to_variable 2)) where
  of_holder : (n : ℕ) (x : PackageVar) (r : Reference) → slice_get by_need.globals n ≡ Some x → Contains (references by_need (in_bound by_need.names x.initialiser)) r → P (to_variable n) r
  of_holder zero x r e h = of_each (P (to_variable 0)) (to_variable 1 ∷ []) (a, tt) r (subst (λ (v : PackageVar). Contains (references by_need (in_bound by_need.names v.initialiser)) r) (sym (some_inj var_a x e)) h)
  of_holder (suc zero) x r e h = of_each (P (to_variable 1)) (to_function 2 ∷ []) (b, tt) r (subst (λ (v : PackageVar). Contains (references by_need (in_bound by_need.names v.initialiser)) r) (sym (some_inj var_b x e)) h)
  of_holder (suc (suc zero)) x r e h = of_each (P (to_variable 2)) [] tt r (subst (λ (v : PackageVar). Contains (references by_need (in_bound by_need.names v.initialiser)) r) (sym (some_inj var_c x e)) h)
  of_holder (suc (suc (suc n))) x r e h = absurd (cc)

  of_function : (k : ℕ) (f : CoreFunc) (r : Reference) → slice_get by_need.funcs k ≡ Some f → Contains (references by_need (in_stmts by_need.names f.body)) r → P (to_function k) r
  of_function zero f r e h = of_each (P (to_function 0)) [] tt r (subst (λ (g : CoreFunc). Contains (references by_need (in_stmts by_need.names g.body)) r) (sym (some_inj plain_main f e)) h)
  of_function (suc zero) f r e h = of_each (P (to_function 1)) [] tt r (subst (λ (g : CoreFunc). Contains (references by_need (in_stmts by_need.names g.body)) r) (sym (some_inj error_func f e)) h)
  of_function (suc (suc zero)) f r e h = of_each (P (to_function 2)) (to_variable 2 ∷ []) (c, tt) r (subst (λ (g : CoreFunc). Contains (references by_need (in_stmts by_need.names g.body)) r) (sym (some_inj reader f e)) h)
  of_function (suc (suc (suc zero))) f r e h = of_each (P (to_function 3)) [] tt r (subst (λ (g : CoreFunc). Contains (references by_need (in_stmts by_need.names g.body)) r) (sym (some_inj init_func f e)) h)
  of_function (suc (suc (suc (suc k)))) f r e h = absurd (cc)

  of_refers : (x y : Reference) → Refers by_need x y → P x y
  of_refers x y (variable_refers n holder r s h) =
      let e : s.at ≡ n = sym (number_at s.at holder s.is_holder) ∙ s.first_one ∙ first_at n s.variable s.is_variable in
      of_holder n holder r (subst (λ (k : ℕ). slice_get by_need.globals k ≡ Some holder) e s.is_holder) h
  of_refers x y (function_refers k f r e h) = of_function k f r e h

-- what a reference leads to
abbrev After : Reference → Reference → Type 0
After (to_variable zero) r = (r ≡ to_variable 1) ⊎ (r ≡ to_function 2) ⊎ (r ≡ to_variable 2)
After (to_variable (suc zero)) r = (r ≡ to_function 2) ⊎ (r ≡ to_variable 2)
After (to_variable (suc (suc n))) r = ⊥
After (to_function zero) r = ⊥
After (to_function (suc zero)) r = ⊥
After (to_function (suc (suc zero))) r = r ≡ to_variable 2
After (to_function (suc (suc (suc k)))) r = ⊥

abbrev Comes : Reference → Reference → Type 0
Comes x y = After x y × ((z : Reference) → After y z → After x z)

comes : (x y : Reference) → Refers by_need x y → Comes x y
comes x y h = of_refers Comes (inl refl, (λ z k. inr k)) (inl refl, (λ z k. inr k)) (refl, (λ z k. absurd k)) x y h

after : (x y : Reference) → LeadsTo by_need x y → After x y
after x y (at_once a b h) = (comes a b h).0
after x y (through a b c h l) = (comes a b h).1 c (after b c l)

-- what the variables depend on
of_b : (m : ℕ) → DependsOn by_need 1 m → 2 ≡ m
of_b m h = by_one (after (to_variable 1) (to_variable m) h)
  where
    by_one : (to_variable m ≡ to_function 2) ⊎ (to_variable m ≡ to_variable 2) → 2 ≡ m
    by_one (inl e) = absurd (cc)
    by_one (inr e) = cc

of_a : (m : ℕ) → DependsOn by_need 0 m → (1 ≡ m) ⊎ (2 ≡ m)
of_a m h = by_one (after (to_variable 0) (to_variable m) h)
  where
    by_one : (to_variable m ≡ to_variable 1) ⊎ (to_variable m ≡ to_function 2) ⊎ (to_variable m ≡ to_variable 2) → (1 ≡ m) ⊎ (2 ≡ m)
    by_one (inl e) = inl (cc)
    by_one (inr (inl e)) = absurd (cc)
    by_one (inr (inr e)) = inr (cc)

sets_a : SetsIt by_need 0 var_a
sets_a = record { at = 0; variable = var_a; is_variable = refl; is_holder = refl; same_package = refl; first_one = refl }

sets_b : SetsIt by_need 1 var_b
sets_b = record { at = 1; variable = var_b; is_variable = refl; is_holder = refl; same_package = refl; first_one = refl }

a_needs_b : DependsOn by_need 0 1
a_needs_b = at_once (to_variable 0) (to_variable 1) (variable_refers 0 var_a (to_variable 1) sets_a (here (to_variable 1) []))

b_needs_c : DependsOn by_need 1 2
b_needs_c = through (to_variable 1) (to_function 2) (to_variable 2) (variable_refers 1 var_b (to_function 2) sets_b (here (to_function 2) []))
    (at_once (to_function 2) (to_variable 2) (function_refers 2 reader (to_variable 2) refl (here (to_variable 2) [])))

-- ---- one after another

is_a : IsVariableOf by_need [] 0 var_a
is_a = record { is_variable = refl; of_package = refl }

is_b : IsVariableOf by_need [] 1 var_b
is_b = record { is_variable = refl; of_package = refl }

is_c : IsVariableOf by_need [] 2 var_c
is_c = record { is_variable = refl; of_package = refl }

-- one more variable is set, alone
set_with : (n : ℕ) (x : PackageVar) (old : List ℕ) → IsVariableOf by_need [] n x → AreSetWith by_need [] x old (n ∷ old)
set_with n x old is = record {
  old_stay = λ m h. further m n old h;
  together = λ m y v e. subst (Contains (n ∷ old)) (sym (first_at n x is.is_variable) ∙ refl ∙ sym e ∙ first_at m y v.is_variable) (here n old);
  no_more = λ m h not_old. alone m h not_old;
}
  where
    alone : (m : ℕ) → Contains (n ∷ old) m → (Contains old m → ⊥) → (y : PackageVar) × IsVariableOf by_need [] m y × (y.first ≡ x.first)
    alone m (zero, lt, e) not_old = (x, subst (λ (k : ℕ). IsVariableOf by_need [] k x) e is, refl)
    alone m (suc k, lt, e) not_old = absurd (not_old (k, omega (arith, lt), e))

c_is_next : IsNext by_need [] [] 2 var_c
c_is_next = record {
  is_ready = record { is_variable = is_c; not_set = none 2; rests_on_set = λ m y v h. absurd (after (to_variable 2) (to_variable m) h) };
  earliest = earliest;
}
  where
    earliest : (m : ℕ) (y : PackageVar) → IsReady by_need [] [] m y → 2 ≤ y.number
    earliest zero y r = absurd (none 1 (r.rests_on_set 1 var_b is_b a_needs_b))
    earliest (suc zero) y r = absurd (none 2 (r.rests_on_set 2 var_c is_c b_needs_c))
    earliest (suc (suc m)) y r = omega (arith, number_at (suc (suc m)) y r.is_variable.is_variable)

b_is_next : IsNext by_need [] (2 ∷ []) 1 var_b
b_is_next = record {
  is_ready = record { is_variable = is_b; not_set = not_set; rests_on_set = λ m y v h. subst (Contains {X = ℕ} (2 ∷ [])) (of_b m h) (here 2 []) };
  earliest = earliest;
}
  where
    not_set : Contains {X = ℕ} (2 ∷ []) 1 → ⊥
    not_set h = of_each {X = ℕ} (λ k. k ≡ 1 → ⊥) (2 ∷ []) ((λ e. cc), tt) 1 h refl

    earliest : (m : ℕ) (y : PackageVar) → IsReady by_need [] (2 ∷ []) m y → 1 ≤ y.number
    earliest zero y r = absurd (not_set (r.rests_on_set 1 var_b is_b a_needs_b))
    earliest (suc m) y r = omega (arith, number_at (suc m) y r.is_variable.is_variable)

a_is_next : IsNext by_need [] (1 ∷ 2 ∷ []) 0 var_a
a_is_next = record {
  is_ready = record { is_variable = is_a; not_set = not_set; rests_on_set = λ m y v h. among m (of_a m h) };
  earliest = λ m y r. omega arith;
}
  where
    not_set : Contains {X = ℕ} (1 ∷ 2 ∷ []) 0 → ⊥
    not_set h = of_each {X = ℕ} (λ k. k ≡ 0 → ⊥) (1 ∷ 2 ∷ []) ((λ e. cc), ((λ e. cc), tt)) 0 h refl

    among : (m : ℕ) → (1 ≡ m) ⊎ (2 ≡ m) → Contains {X = ℕ} (1 ∷ 2 ∷ []) m
    among m (inl e) = subst (Contains {X = ℕ} (1 ∷ 2 ∷ [])) e (here 1 (2 ∷ []))
    among m (inr e) = subst (Contains {X = ℕ} (1 ∷ 2 ∷ [])) e (further 2 1 (2 ∷ []) (here 2 []))

all_there : (n : ℕ) (x : PackageVar) → IsVariableOf by_need [] n x → Contains {X = ℕ} (0 ∷ 1 ∷ 2 ∷ []) n
all_there zero x v = (0, omega arith, refl)
all_there (suc zero) x v = (1, omega arith, refl)
all_there (suc (suc zero)) x v = (2, omega arith, refl)
all_there (suc (suc (suc n))) x v = let e = v.is_variable in absurd (cc)

sets : SetsVariables by_need [] [] (initialise 2 ∷ initialise 1 ∷ initialise 0 ∷ [])
sets =
    next_set [] (2 ∷ []) 2 2 var_c (initialise 1 ∷ initialise 0 ∷ []) c_is_next (record { holder = var_c; is_variable = is_c; first_one = refl }) (set_with 2 var_c [] is_c)
    (next_set (2 ∷ []) (1 ∷ 2 ∷ []) 1 1 var_b (initialise 0 ∷ []) b_is_next (record { holder = var_b; is_variable = is_b; first_one = refl }) (set_with 1 var_b (2 ∷ []) is_b)
    (next_set (1 ∷ 2 ∷ []) (0 ∷ 1 ∷ 2 ∷ []) 0 0 var_a [] a_is_next (record { holder = var_a; is_variable = is_a; first_one = refl }) (set_with 0 var_a (1 ∷ 2 ∷ []) is_a)
    (all_set (0 ∷ 1 ∷ 2 ∷ []) all_there)))

whole : InitialisesPackage by_need root (initialise 2 ∷ initialise 1 ∷ initialise 0 ∷ call_init 3 ∷ [])
whole = record { variables = initialise 2 ∷ initialise 1 ∷ initialise 0 ∷ []; sets_variables = sets; then_inits = refl }

is_next : IsNextPackage by_need [] root
is_next = record {
  is_ready = record { is_row = here root []; not_done = none []; imports_done = λ path h. absurd (none path h) };
  least = λ other ready ne. of_each (λ (o : PackageRow). (o.path ≡ root.path → ⊥) → IsTrue (text_less root.path o.path)) (root ∷ []) ((λ n. absurd (n refl)), tt) other ready.is_row ne;
}

first_order : InitialisesPackages by_need [] (initialise 2 ∷ initialise 1 ∷ initialise 0 ∷ call_init 3 ∷ [])
first_order =
    next_done [] root (initialise 2 ∷ initialise 1 ∷ initialise 0 ∷ call_init 3 ∷ []) [] is_next whole
    (all_done ([] ∷ []) (λ row h. of_each (λ (r : PackageRow). Contains ([] ∷ []) r.path) (root ∷ []) (here [] [], tt) row h))

-- ---- round

sets_round : SetsIt round 0 var_round
sets_round = record { at = 0; variable = var_round; is_variable = refl; is_holder = refl; same_package = refl; first_one = refl }

is_round : DependsOn round 0 0
is_round = through (to_variable 0) (to_function 2) (to_variable 0) (variable_refers 0 var_round (to_function 2) sets_round (here (to_function 2) []))
    (at_once (to_function 2) (to_variable 0) (function_refers 2 round_reader (to_variable 0) refl (here (to_variable 0) [])))

pub order_rows : OrderRows
order_rows = record { needed_come_first = first_order; round_is_cyclic = is_round }
