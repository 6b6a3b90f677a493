-- The numbers that a step and a run take, in order.
use Rattle.std.proofs.Common.{refl, sym, ap, ◌∙◌, subst, arith}
use Rattle.std.specs.Prelude.{◌≡◌, ℕ, zero, suc, ◌+◌, List, [], ◌∷◌, ◌++◌, length, Bool, true, false, ◌&&◌, ◌||◌, if◌then◌else◌, Option, Some, None, slice_get, option_and_then}
use Rattle.go_core.specs.CoreTree.{CoreProgram}
use Rattle.go_core.specs.Goroutine as gr
use Rattle.go_core.specs.Goroutine.{Frame, Goroutine, Waiting, State, End, going, exit, panicked, fatal, Move}
use Rattle.go_core.specs.Communicate.{any_moves, can_move, waiting_ready, has_frames}
use Rattle.go_core.specs.GoStep.{goroutine_step}
use Rattle.go_core.specs.Run.{step, after, start, deadlocked, while_going}
use Rattle.go_laws.specs.Selecting.{Selecting, select_of, select_by, where_going, selecting, ways_of, several, chooses}
use Rattle.go_laws.specs.Numbers.{number_at, numbers_from, next_if, numbers_of_moves, numbers_of_run}
use Rattle.go_laws.specs.InOrder.{StepsCount, NextChooses, OthersDont, NothingElseChooses, RunsTake, RunsTakeTheFirst, TheFirstDecide}
use Rattle.go_laws.proofs.Combine.{Taken}
use Rattle.go_laws.proofs.TalkTakes.{taken_after, Agree}
use Rattle.go_laws.proofs.TasksTake as tasks
use Rattle.go_laws.proofs.TasksTake.{By, Chosen}

-- ---- where no goroutine can move, none has come to a select

no_select : (p : CoreProgram) (move : Move) (k : ℕ) (s : State) (w : Waiting) (fs : List Frame)
    → has_frames fs && waiting_ready k s w ≡ false → select_of p move w fs ≡ None
no_select p move k s gr.able [] h = refl
no_select p move k s gr.able (fr ∷ below) h = cc
no_select p move k s (gr.at_channels os) fs h = refl
no_select p move k s (gr.at_take b) fs h = refl
no_select p move k s (gr.at_await b) fs h = refl

left_false : (a b : Bool) → a || b ≡ false → a ≡ false
left_false false b h = refl
left_false true b h = h

right_false : (a b : Bool) → a || b ≡ false → b ≡ false
right_false false b h = h
right_false true b h = cc

asleep : (p : CoreProgram) (move : Move) (k j : ℕ) (gs : List Goroutine) (s : State)
    → any_moves k gs s ≡ false → select_by p move (slice_get gs j) ≡ None
asleep p move k j [] s h = refl
asleep p move k zero (x ∷ xs) s h = no_select p move k s x.waiting x.frames (left_false (can_move k s x) (any_moves (suc k) xs s) h)
asleep p move k (suc j) (x ∷ xs) s h = asleep p move (suc k) j xs s (right_false (can_move k s x) (any_moves (suc k) xs s) h)

-- ---- a step

module _ (p : CoreProgram) (move : Move) where
  takes_at : (choices : List ℕ) (e : End) (b : Bool) (x : Option Goroutine) (s : State) → (b ≡ false → select_by p move x ≡ None)
      → Taken (taken_after (several (ways_of p move (where_going p move e (select_by p move x)) s)) s.taken)
      (while_going e (if b then goroutine_step p choices move move.goroutine x s else Some (deadlocked s)))
  takes_at choices going true x s h = tasks.takes p move choices x s
  takes_at choices going false x s h =
      subst (λ (c : Option Selecting). Taken (taken_after (several (ways_of p move c s)) s.taken) (Some (deadlocked s))) (sym (h refl)) refl
  takes_at choices (exit j) b x s h = tt
  takes_at choices (panicked text) b x s h = tt
  takes_at choices (fatal text) b x s h = tt

  chosen_at : (choices : List ℕ) (e : End) (b : Bool) (x : Option Goroutine) (s : State) → (b ≡ false → select_by p move x ≡ None)
      → Chosen p move choices (where_going p move e (select_by p move x)) s
      (while_going e (if b then goroutine_step p choices move move.goroutine x s else Some (deadlocked s)))
  chosen_at choices going true x s h = tasks.chosen p move choices x s
  chosen_at choices going false x s h = subst (λ (c : Option Selecting). Chosen p move choices c s (Some (deadlocked s))) (sym (h refl)) tt
  chosen_at choices (exit j) b x s h = tt
  chosen_at choices (panicked text) b x s h = tt
  chosen_at choices (fatal text) b x s h = tt

  same_at : (choices choices' : List ℕ) (e : End) (b : Bool) (x : Option Goroutine) (s : State)
      → Agree (several (ways_of p move (where_going p move e (select_by p move x)) s)) s.taken choices choices'
      → while_going e (if b then goroutine_step p choices move move.goroutine x s else Some (deadlocked s))
      ≡ while_going e (if b then goroutine_step p choices' move move.goroutine x s else Some (deadlocked s))
  same_at choices choices' going true x s h = tasks.same p move choices choices' x s h
  same_at choices choices' going false x s h = refl
  same_at choices choices' (exit j) b x s h = refl
  same_at choices choices' (panicked text) b x s h = refl
  same_at choices choices' (fatal text) b x s h = refl

  takes : (choices : List ℕ) (s : State) → Taken (taken_after (chooses p move s) s.taken) (step p choices move s)
  takes choices s =
      takes_at choices s.end (any_moves 0 s.goroutines s) (slice_get s.goroutines move.goroutine) s
      (asleep p move 0 move.goroutine s.goroutines s)

  chosen : (choices : List ℕ) (s : State) → Chosen p move choices (selecting p move s) s (step p choices move s)
  chosen choices s =
      chosen_at choices s.end (any_moves 0 s.goroutines s) (slice_get s.goroutines move.goroutine) s
      (asleep p move 0 move.goroutine s.goroutines s)

  same : (choices choices' : List ℕ) (s : State) → Agree (chooses p move s) s.taken choices choices' → step p choices move s ≡ step p choices' move s
  same choices choices' s h = same_at choices choices' s.end (any_moves 0 s.goroutines s) (slice_get s.goroutines move.goroutine) s h

-- ---- the laws of a step

got : (n : ℕ) (o : Option State) (s : State) → Taken n o → o ≡ Some s → s.taken ≡ n
got n o s h e = subst (λ (o' : Option State). Taken n o') e h

counted : (choices : List ℕ) (b : Bool) (n m : ℕ) → taken_after b n ≡ n + length (next_if choices b m)
counted choices true n m = omega arith
counted choices false n m = omega arith

pub steps_count : StepsCount
steps_count p choices move s s' e =
    got (taken_after (chooses p move s) s.taken) (step p choices move s) s' (takes p move choices s) e ∙ counted choices (chooses p move s) s.taken s.taken

pub next_chooses : NextChooses
next_chooses p choices move s c v w ws e e' =
    let ways = subst (λ (x : Option Selecting). ways_of p move x s ≡ v ∷ w ∷ ws) e e' in
    let h = subst (λ (x : Option Selecting). Chosen p move choices x s (step p choices move s)) e (chosen p move choices s) in
    subst (λ (l : List ℕ). By p move choices c l s (step p choices move s)) ways h

agree_by : (b : Bool) (n : ℕ) (choices choices' : List ℕ) → number_at choices n ≡ number_at choices' n → Agree b n choices choices'
agree_by true n choices choices' h = h
agree_by false n choices choices' h = tt

pub others_dont : OthersDont
others_dont p choices choices' move s h = same p move choices choices' s (agree_by (chooses p move s) s.taken choices choices' h)

pub nothing_else : NothingElseChooses
nothing_else p choices choices' move s h =
    same p move choices choices' s (subst (λ (b : Bool). Agree b s.taken choices choices') (sym h) tt)

-- ---- runs

-- what a run takes, where so many were taken before
abbrev pub Takes : List ℕ → ℕ → List ℕ → State → Type 0
Takes choices n numbers s = (numbers ≡ numbers_from choices n (length numbers)) × (s.taken ≡ n + length numbers)

same_state : (x y : State) → Some x ≡ Some y → x.taken ≡ y.taken
same_state x y e = ap (λ (o : Option State). taken_in o) e
  where
    taken_in : Option State → ℕ
    taken_in None = 0
    taken_in (Some s) = s.taken

module _ (p : CoreProgram) (choices : List ℕ) where
  one_more : (n : ℕ) (numbers : List ℕ) (s s' : State) → s.taken ≡ suc n → Takes choices s.taken numbers s' → Takes choices n (number_at choices n ∷ numbers) s'
  one_more n numbers s s' e h = (
    ap (λ l. number_at choices n ∷ l) (subst (λ (m : ℕ). numbers ≡ numbers_from choices m (length numbers)) e h.0),
    h.1 ∙ ap (λ m. m + length numbers) e ∙ more n (length numbers),
  )
    where
      more : (a b : ℕ) → suc a + b ≡ a + suc b
      more a b = omega arith

  taken_on : (moves : List Move) (b : Bool) (n : ℕ) (o : Option State) (s' : State)
      → ((s : State) → after p choices moves s ≡ Some s' → Takes choices s.taken (numbers_of_run p choices moves s) s')
      → Taken (taken_after b n) o → option_and_then (after p choices moves) o ≡ Some s'
      → Takes choices n (next_if choices b n ++ numbers_of_moves p choices moves o) s'
  taken_on moves b n None s' h t e = cc
  taken_on moves true n (Some s) s' h t e = one_more n (numbers_of_run p choices moves s) s s' t (h s e)
  taken_on moves false n (Some s) s' h t e = subst (λ (m : ℕ). Takes choices m (numbers_of_run p choices moves s) s') t (h s e)

  pub takes_in_order : (moves : List Move) (s s' : State) → after p choices moves s ≡ Some s' → Takes choices s.taken (numbers_of_run p choices moves s) s'
  takes_in_order [] s s' e = (refl, sym (same_state s s' e) ∙ none s.taken)
    where
      none : (n : ℕ) → n ≡ n + 0
      none n = omega arith
  takes_in_order (move ∷ moves) s s' e =
      taken_on moves (chooses p move s) s.taken (step p choices move s) s' (λ s1. takes_in_order moves s1 s') (takes p move choices s) e

pub runs_take : RunsTake
runs_take p choices moves s s' e = takes_in_order p choices moves s s' e

pub runs_take_the_first : RunsTakeTheFirst
runs_take_the_first p order choices moves s e =
    let h = takes_in_order p choices moves (start p order) s e in
    h.0 ∙ ap (λ m. numbers_from choices 0 m) (sym (h.1 ∙ nothing_before (length (numbers_of_run p choices moves (start p order)))))
  where
    nothing_before : (n : ℕ) → 0 + n ≡ n
    nothing_before n = omega arith

-- ---- other choices that begin with the same numbers

abbrev first_of : List ℕ → ℕ
first_of [] = 0
first_of (x ∷ xs) = x

abbrev rest_of : List ℕ → List ℕ
rest_of [] = []
rest_of (x ∷ xs) = xs

module _ (p : CoreProgram) (choices choices' : List ℕ) where
  -- they agree on what a run takes
  abbrev pub Same : ℕ → List ℕ → Type 0
  Same n numbers = numbers_from choices' n (length numbers) ≡ numbers_from choices n (length numbers)

  decided_on : (moves : List Move) (b : Bool) (n : ℕ) (o : Option State) (s' : State)
      → ((s : State) → after p choices moves s ≡ Some s' → Same s.taken (numbers_of_run p choices moves s) → after p choices' moves s ≡ Some s')
      → Taken (taken_after b n) o → option_and_then (after p choices moves) o ≡ Some s'
      → Same n (next_if choices b n ++ numbers_of_moves p choices moves o)
      → Agree b n choices choices' × (option_and_then (after p choices' moves) o ≡ Some s')
  decided_on moves b n None s' h t e a = cc
  decided_on moves true n (Some s) s' h t e a =
      (sym (ap first_of a), h s e (subst (λ (m : ℕ). Same m (numbers_of_run p choices moves s)) (sym t) (ap rest_of a)))
  decided_on moves false n (Some s) s' h t e a = (tt, h s e (subst (λ (m : ℕ). Same m (numbers_of_run p choices moves s)) (sym t) a))

  pub decides : (moves : List Move) (s s' : State) → after p choices moves s ≡ Some s' → Same s.taken (numbers_of_run p choices moves s)
      → after p choices' moves s ≡ Some s'
  decides [] s s' e a = e
  decides (move ∷ moves) s s' e a =
      let h = decided_on moves (chooses p move s) s.taken (step p choices move s) s' (λ s1. decides moves s1 s') (takes p move choices s) e a in
      ap (λ o. option_and_then (after p choices' moves) o) (sym (same p move choices choices' s h.0)) ∙ h.1

pub the_first_decide : TheFirstDecide
the_first_decide p order choices choices' moves s e a =
    let h = takes_in_order p choices moves (start p order) s e in
    decides p choices choices' moves (start p order) s e
    (subst (λ (m : ℕ). numbers_from choices' 0 m ≡ numbers_from choices 0 m) (h.1 ∙ nothing_before (length (numbers_of_run p choices moves (start p order)))) a)
  where
    nothing_before : (n : ℕ) → 0 + n ≡ n
    nothing_before n = omega arith
