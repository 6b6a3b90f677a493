-- Which variables of the row's functions are boxed.
use Rattle.std.proofs.Common.{inl, inr, refl, sym, ap, ◌∙◌, subst, arith}
use Rattle.std.specs.Prelude.{◌≡◌, ◌⊎◌, ℕ, zero, suc, List, [], ◌∷◌, Some, Contains, slice_get, map}
use Rattle.go_core.specs.CoreTree.{Var, CoreFunc}
use Rattle.go_core.specs.MeaningWords.{int, var_of, func_of}
use Rattle.go_mentions.specs.Mentions.{Mention, calls_function, starts_function, takes_function, takes_address, in_stmts}
use Rattle.go_mentions.specs.Boxed.{NamesFunction, id_of, CapturesIt, IsBoxed, was_captured, is_captured, is_addressed, AreBoxed}
use Rattle.go_mentions.specs.BoxedRows.{counting, count_func, step_func}
use Rattle.go_mentions.proofs.Each.{of_each, some_inj}

first : {X : Type 0} (x : X) (xs : List X) → Contains (x ∷ xs) x
first x xs = (0, omega arith, refl)

second : {X : Type 0} (x y : X) (xs : List X) → Contains (x ∷ y ∷ xs) y
second x y xs = (1, omega arith, refl)

none : {X : Type 0} (x : X) → Contains [] x → ⊥
none x (k, lt, e) = omega (arith, lt)

-- an address names no function, and a literal names itself
no_address : (v j : ℕ) → NamesFunction (takes_address v) j → ⊥
no_address v j (inl e) = cc
no_address v j (inr (inl e)) = cc
no_address v j (inr (inr e)) = cc

by_taking : (i j : ℕ) → NamesFunction (takes_function i) j → i ≡ j
by_taking i j (inl e) = absurd (cc)
by_taking i j (inr (inl e)) = absurd (cc)
by_taking i j (inr (inr e)) = cc

abbrev Boxed : ℕ → Type 0
Boxed v = IsBoxed counting count_func v

captured : Boxed 10
captured = is_captured (0, omega arith, refl) (record { mention = takes_function 3; is_mentioned = second (takes_address 11) (takes_function 3) []; number = 3; names_it = inr (inr refl); literal = step_func; is_literal = refl; captures = first 10 [] })

addressed : Boxed 11
addressed = is_addressed (1, omega arith, refl) (first (takes_address 11) (takes_function 3 ∷ []))

-- of the literals that the function names, only one is there
of_literal : (m : Mention) (j : ℕ) → Contains (takes_address 11 ∷ takes_function 3 ∷ []) m → NamesFunction m j → 3 ≡ j
of_literal m j h n = of_each (λ m'. NamesFunction m' j → 3 ≡ j) (takes_address 11 ∷ takes_function 3 ∷ []) ((λ x. absurd (no_address 11 j x)), ((λ x. by_taking 3 j x), tt)) m h n

abbrev Listed : ℕ → Type 0
Listed v = Contains (10 ∷ 11 ∷ []) v

by_capture : (v : ℕ) → CapturesIt counting count_func v → Listed v
by_capture v c =
    let e = of_literal c.mention c.number c.is_mentioned c.names_it in
    let f = some_inj step_func c.literal (ap (slice_get counting.funcs) e ∙ c.is_literal) in
    of_each Listed (10 ∷ []) (first 10 (11 ∷ []), tt) v (subst (λ (g : CoreFunc). Contains g.captured v) (sym f) c.captures)

by_address : (v : ℕ) → Contains (takes_address 11 ∷ takes_function 3 ∷ []) (takes_address v) → Listed v
by_address v h =
    let e : 11 ≡ v = of_each (λ m. m ≡ takes_address v → 11 ≡ v) (takes_address 11 ∷ takes_function 3 ∷ []) ((λ x. cc), ((λ x. absurd (cc)), tt)) (takes_address v) h refl in
    subst Listed e (second 10 11 [])

listed : (v : ℕ) → Boxed v → Listed v
listed v (was_captured h) = absurd (none v h)
listed v (is_captured h c) = by_capture v c
listed v (is_addressed h a) = by_address v a

pub of_the_function : AreBoxed counting 2 (10 ∷ 11 ∷ [])
of_the_function = record {
  each_boxed = λ f is v h. subst (λ g. IsBoxed counting g v) (some_inj count_func f is) (of_each Boxed (10 ∷ 11 ∷ []) (captured, (addressed, tt)) v h);
  all_boxed = λ f is v b. listed v (subst (λ g. IsBoxed counting g v) (sym (some_inj count_func f is)) b);
}

-- ---- the literal, whose body mentions nothing

abbrev Inner : ℕ → Type 0
Inner v = IsBoxed counting step_func v

inner : (v : ℕ) → Inner v → Contains (10 ∷ []) v
inner v (was_captured h) = h
inner v (is_captured h c) = absurd (none c.mention c.is_mentioned)
inner v (is_addressed h a) = absurd (none (takes_address v) a)

pub of_the_literal : AreBoxed counting 3 (10 ∷ [])
of_the_literal = record {
  each_boxed = λ f is v h. subst (λ g. IsBoxed counting g v) (some_inj step_func f is) (was_captured h);
  all_boxed = λ f is v b. inner v (subst (λ g. IsBoxed counting g v) (sym (some_inj step_func f is)) b);
}
