-- `if`, `for` and `switch` statements of which nothing is told.
use Rattle.std.proofs.Common.{◌≡◌, ◌≤◌, ◌<◌, ◌⊎◌, inl, inr, ◌||◌, ℕ, suc, ◌+◌, List, [], ◌∷◌, ◌++◌, refl, sym, subst, ◌∙◌, arith, Bool, true, false, Option, Some, None, Contains}
use Rattle.std.proofs.lemmas.List.Elements.{Contains-append_left, Contains-push}
use Rattle.gj_base.specs.declared.place.Place.{Place}
use Rattle.go_const.specs.declared.constant.Const.{Const}
use Rattle.go_syntax.specs.Tree as t
use Rattle.go_type.specs.Tree as ty
use Rattle.go_type.specs.Tree.{Ty, Tys}
use Rattle.go_type.specs.Named.{NamedTy}
use Rattle.go_core.specs.CoreTree as core
use Rattle.go_core.specs.CoreTree.{Var, CoreProgram}
use Rattle.go_core.specs.SoundNode as node
use Rattle.go_core.specs.SoundNode.{with_break, with_loop, IsBool}
use Rattle.go_core.specs.TypeOf.{var_type, all_types}
use Rattle.go_core.specs.Sound.{Gives, GivesSome, SoundExpr, SoundStmts, SoundCondition, SoundTargets, SoundTests, SoundClauses, HasClause, HasDefault}
use Rattle.go_core.proofs.OpenedLabels.{contains_more, contains_split}
use Rattle.go_typing.specs.Answer.{Flaw, own}
use Rattle.go_typing.specs.Typing.{place_of}
use Rattle.go_typing.specs.Walk.{Walk, Around, Target, Did, fresh, var_of, uses, body}
use Rattle.go_typing.specs.Expressions.{flaws_in, condition, core_of}
use Rattle.go_typing.specs.Statements.{if_did, unlabeled, with_target, next_label, condition_core, condition_told, condition_uses, for_did, case_answer, case_constant, and_constant, repeated_flaws, repeated, case_tests, Clauses, default_from, default_flaws, Tests, one_clause}
use Rattle.go_sound.specs.Added.{TypeIsSet}
use Rattle.go_sound.specs.GoesOn.{GoesOn}
use Rattle.go_sound.specs.Lost.{NothingUnknown}
use Rattle.go_sound.specs.SoundTyped.{HasOperators, AllHaveOperators, BoundHasOperators, IsScalarType}
use Rattle.go_sound.specs.SoundValues.{IsReady}
use Rattle.go_sound.proofs.SoundWords.{scalar_good}
use Rattle.go_sound.proofs.SoundBodies.{condition_here}
use Rattle.go_sound.proofs.GoesOnSteps.{stays, then_on, uses_on, fresh_on}
use Rattle.go_sound.proofs.GoesOnBodies.{condition_uses_on, next_label_on}
use Rattle.go_sound.specs.SoundStatements.{TargetsAreAround, IsAround, Holds}
use Rattle.go_sound.proofs.Words.{at_vars, after_vars, after_append, sound_append, Extends, extends_then, extends_var, newest, contains_first, one_of_three, three_of_three, one_of_four, two_of_four, three_of_four, four_of_four}
use Rattle.go_sound.proofs.Ready.{State, Like, like_same, like_uses, state_like, ready_vars, ready_around, before_more, next_on, holds_part, names_of, around_on, state_on, state_later, Done, Says, Scoped, scoped_fresh, Adds, adds_none, adds_like, adds_then, adds_var}
use Rattle.go_sound.proofs.Here.{case_there}

-- the label before a statement is nothing to its parts
pub relabeled : (p : CoreProgram) (a : node.Around) (vs : List Var) (b : Around) (o : Option (List ℕ)) (w : Walk) → State p a vs b w → State p a vs (record b { label = o }) w
relabeled p a vs b o w s = record {
  ready = s.ready;
  before = s.before;
  around = record { results = c.results; results_scalar = c.results_scalar; results_set = c.results_set; targets = c.targets; labels_before = c.labels_before };
}
  where
    c : IsAround p a b w
    c = s.around

-- what is done by a function of what is known
abbrev pub DoneBy : CoreProgram → node.Around → Around → (Walk → Did) → Type 0
DoneBy p a b f = (vs : List Var) (w : Walk) → State p a vs b w → Holds p a.declarable w (f w).walk → (f w).flaws ≡ [] → Done p a vs w (f w)

-- what is known goes on by it
abbrev pub OnBy : (Walk → Did) → Type 0
OnBy f = (w : Walk) → GoesOn w (f w).walk

-- a last statement that declares nothing, after others
said_last : (p : CoreProgram) (a : node.Around) (vs : List Var) (w : Walk) (d : Did) (s : core.Stmt) (fs : List Flaw) (z : Walk) → Done p a vs w d → SoundStmts p (at_vars a (after_vars d.core vs)) (body (s ∷ []))
    → after_vars (s ∷ []) (after_vars d.core vs) ≡ after_vars d.core vs → Adds p w z → Says p a vs w (record { core = d.core ++ s ∷ []; flaws = fs; walk = z })
said_last p a vs w d s fs z h k e i = record {
  adds = i;
  is_sound = sound_append p a d.core (s ∷ []) vs h.is_sound k;
  extends = subst (Extends w.next vs) (sym (after_append d.core (s ∷ []) vs ∙ e)) h.extends;
}

-- ---- `if`

pub if_says : (p : CoreProgram) (a : node.Around) (b : Around) (x : t.Expr) (init then_ else_ : Walk → Did) → HasOperators x → DoneBy p a b init → DoneBy p a b then_ → DoneBy p a b else_ → OnBy init → OnBy then_ → OnBy else_
    → ((w : Walk) → (then_ w).walk.scopes ≡ w.scopes) → (vs : List Var) (w : Walk) → State p a vs b w → Holds p a.declarable w (if_did x init then_ else_ w).walk → (if_did x init then_ else_ w).flaws ≡ [] → Says p a vs w (if_did x init then_ else_ w)
if_says p a b x init then_ else_ o di dt de gi gt ge kept vs w s k h =
    said_last p a vs w d (core.if_ (core_of (condition d.walk x).answer) (body e.core) (body f.core)) _ f.walk first ((c.0, c.1, second.is_sound, third.is_sound), tt) refl added
  where
    d : Did
    d = init w

    e : Did
    e = then_ (uses x d.walk)

    f : Did
    f = else_ e.walk

    to_then : GoesOn w (uses x d.walk)
    to_then = then_on w d.walk (uses x d.walk) (gi w) (uses_on x d.walk)

    to_end : GoesOn (uses x d.walk) f.walk
    to_end = then_on (uses x d.walk) e.walk f.walk (gt (uses x d.walk)) (ge e.walk)

    first : Done p a vs w d
    first = di vs w s (holds_part p a.declarable w w d.walk f.walk (stays w) (then_on d.walk (uses x d.walk) f.walk (uses_on x d.walk) to_end) k) (one_of_four d.flaws (condition d.walk x).flaws e.flaws f.flaws h)

    us : List Var
    us = after_vars d.core vs

    state : State p a us b d.walk
    state = state_on p a vs b w d s (gi w) first

    inside : State p a us b (uses x d.walk)
    inside = state_like p a us b d.walk (uses x d.walk) (like_uses x d.walk state.ready.all_typed) state

    c : SoundExpr p (at_vars a us) (core_of (condition d.walk x).answer) × GivesSome p (core_of (condition d.walk x).answer) IsBool
    c = condition_here p (at_vars a us) d.walk state.ready x o (two_of_four d.flaws (condition d.walk x).flaws e.flaws f.flaws h)

    second : Done p a us (uses x d.walk) e
    second = dt us (uses x d.walk) inside (holds_part p a.declarable w (uses x d.walk) e.walk f.walk to_then (ge e.walk) k) (three_of_four d.flaws (condition d.walk x).flaws e.flaws f.flaws h)

    held : Holds p a.declarable e.walk f.walk
    held = holds_part p a.declarable w e.walk f.walk f.walk (then_on w (uses x d.walk) e.walk to_then (gt (uses x d.walk))) (stays f.walk) k

    later : State p a us b e.walk
    later = state_later p a us b (uses x d.walk) e.walk inside (gt (uses x d.walk)) (kept (uses x d.walk)) (names_of p a.declarable w e.walk (holds_part p a.declarable w w e.walk f.walk (stays w) (ge e.walk) k))

    third : Done p a us e.walk f
    third = de us e.walk later held (four_of_four d.flaws (condition d.walk x).flaws e.flaws f.flaws h)

    added : Adds p w f.walk
    added =
        adds_then p w d.walk f.walk first.adds (adds_then p d.walk (uses x d.walk) f.walk (adds_like p d.walk (uses x d.walk) (like_uses x d.walk state.ready.all_typed)) (adds_then p (uses x d.walk) e.walk f.walk second.adds third.adds))

-- ---- labels

targets_more : (a : node.Around) (label : ℕ) (gs : List Target) → TargetsAreAround a gs → TargetsAreAround (with_loop label a) gs
targets_more a label [] h = tt
targets_more a label (g ∷ gs) h = (contains_more label a.breaks g.label h.0, λ e. contains_more label a.continues g.label (h.1 e), targets_more a label gs h.2)

targets_left : (a : node.Around) (label : ℕ) (gs : List Target) → TargetsAreAround a gs → TargetsAreAround (with_break label a) gs
targets_left a label [] h = tt
targets_left a label (g ∷ gs) h = (contains_more label a.breaks g.label h.0, h.1, targets_left a label gs h.2)

labels_more : (a : node.Around) (label : ℕ) (w : Walk) → label < w.next_label → ((l : ℕ) → Contains a.breaks l → l < w.next_label) → (l : ℕ) → Contains (label ∷ a.breaks) l → l < w.next_label
labels_more a label w k h l c = by_case (contains_split label a.breaks l c)
  where
    by_case : (label ≡ l) ⊎ Contains a.breaks l → l < w.next_label
    by_case (inl e) = omega arith
    by_case (inr d) = h l d

-- inside a loop, and inside a switch
loop_state : (p : CoreProgram) (a : node.Around) (vs : List Var) (b : Around) (label : ℕ) (w : Walk) → label < w.next_label → State p a vs b w → State p (with_loop label a) vs (with_target label true b) w
loop_state p a vs b label w l s = record {
  ready = ready_around p a (with_loop label a) vs w s.ready;
  before = s.before;
  around = record {
    results = c.results;
    results_scalar = c.results_scalar;
    results_set = c.results_set;
    targets = (contains_first label a.breaks, λ e. contains_first label a.continues, targets_more a label b.targets c.targets);
    labels_before = labels_more a label w l c.labels_before;
  };
}
  where
    c : IsAround p a b w
    c = s.around

switch_state : (p : CoreProgram) (a : node.Around) (vs : List Var) (b : Around) (label : ℕ) (w : Walk) → label < w.next_label → State p a vs b w → State p (with_break label a) vs (with_target label false b) w
switch_state p a vs b label w l s = record {
  ready = ready_around p a (with_break label a) vs w s.ready;
  before = s.before;
  around = record {
    results = c.results;
    results_scalar = c.results_scalar;
    results_set = c.results_set;
    targets = (contains_first label a.breaks, λ e. cc, targets_left a label b.targets c.targets);
    labels_before = labels_more a label w l c.labels_before;
  };
}
  where
    c : IsAround p a b w
    c = s.around

label_state : (p : CoreProgram) (a : node.Around) (vs : List Var) (b : Around) (w : Walk) → State p a vs b w → State p a vs b (next_label w)
label_state p a vs b w s = record {
  ready = record { scopes = r.scopes; types_set = r.types_set; all_typed = r.all_typed; further = r.further; names_kept = r.names_kept };
  before = s.before;
  around = record {
    results = c.results;
    results_scalar = c.results_scalar;
    results_set = c.results_set;
    targets = c.targets;
    labels_before = λ l d. let k = c.labels_before l d in omega arith;
  };
}
  where
    r : IsReady p (at_vars a vs) w
    r = s.ready

    c : IsAround p a b w
    c = s.around

-- a label that comes next isn't used around
new_label : (p : CoreProgram) (a : node.Around) (b : Around) (w : Walk) → IsAround p a b w → (label : ℕ) → w.next_label ≤ label → Contains a.breaks label → ⊥
new_label p a b w c label l d = let k = c.labels_before label d in omega arith

like_condition : (x : t.MaybeExpr) (w : Walk) → NothingUnknown w.scopes → Like w (condition_uses x w)
like_condition t.NoExpr w h = like_same w
like_condition (t.AnExpr e) w h = like_uses e w h

condition_sound : (p : CoreProgram) (a : node.Around) (w : Walk) (r : IsReady p a w) (x : t.MaybeExpr) → BoundHasOperators x → condition_told w x ≡ [] → SoundCondition p a (condition_core w x)
condition_sound p a w r t.NoExpr o h = tt
condition_sound p a w r (t.AnExpr e) o h = condition_here p a w r e o h

-- ---- `for`

pub for_says : (p : CoreProgram) (a : node.Around) (b : Around) (x : t.MaybeExpr) (init post : Walk → Did) (inside : ℕ → Walk → Did) → BoundHasOperators x → DoneBy p a (unlabeled b) init → DoneBy p a (unlabeled b) post
    → ((label : ℕ) → DoneBy p (with_loop label a) (with_target label true b) (inside label)) → OnBy init → OnBy post → ((label : ℕ) → OnBy (inside label)) → ((w : Walk) → (post w).walk.scopes ≡ w.scopes)
    → (vs : List Var) (w : Walk) → State p a vs b w → Holds p a.declarable w (for_did x init post inside w).walk → (for_did x init post inside w).flaws ≡ [] → Says p a vs w (for_did x init post inside w)
for_says p a b x init post inside o di dp de gi gp ge kept vs w s k h =
    said_last p a vs w d (core.loop w.next_label (condition_core d.walk x) (body e.core) (body q.core)) _ e.walk first
    ((new_label p a b w s.around w.next_label (omega arith), condition_sound p (at_vars a us) d.walk state.ready x o (two_of_four d.flaws (condition_told d.walk x) q.flaws e.flaws h), third.is_sound, second.is_sound), tt) refl added
  where
    d : Did
    d = init w

    v : Walk
    v = condition_uses x d.walk

    q : Did
    q = post v

    e : Did
    e = inside w.next_label (next_label q.walk)

    to_post : GoesOn w v
    to_post = then_on w d.walk v (gi w) (condition_uses_on x d.walk)

    to_body : GoesOn v (next_label q.walk)
    to_body = then_on v q.walk (next_label q.walk) (gp v) (next_label_on q.walk)

    after_label : GoesOn q.walk e.walk
    after_label = then_on q.walk (next_label q.walk) e.walk (next_label_on q.walk) (ge w.next_label (next_label q.walk))

    after_post : GoesOn v e.walk
    after_post = then_on v (next_label q.walk) e.walk to_body (ge w.next_label (next_label q.walk))

    first : Done p a vs w d
    first = di vs w (relabeled p a vs b None w s) (holds_part p a.declarable w w d.walk e.walk (stays w) (then_on d.walk v e.walk (condition_uses_on x d.walk) after_post) k) (one_of_four d.flaws (condition_told d.walk x) q.flaws e.flaws h)

    us : List Var
    us = after_vars d.core vs

    state : State p a us b d.walk
    state = state_on p a vs b w d s (gi w) first

    at_post : State p a us b v
    at_post = state_like p a us b d.walk v (like_condition x d.walk state.ready.all_typed) state

    second : Done p a us v q
    second = dp us v (relabeled p a us b None v at_post) (holds_part p a.declarable w v q.walk e.walk to_post after_label k) (three_of_four d.flaws (condition_told d.walk x) q.flaws e.flaws h)

    later : State p a us b q.walk
    later = state_later p a us b v q.walk at_post (gp v) (kept v) (names_of p a.declarable w q.walk (holds_part p a.declarable w w q.walk e.walk (stays w) after_label k))

    low : w.next_label < (next_label q.walk).next_label
    low = let m = to_post in let n = gp v in let i = m.labels in let j = n.labels in omega arith

    third : Done p (with_loop w.next_label a) us (next_label q.walk) e
    third =
        de w.next_label us (next_label q.walk) (loop_state p a us b w.next_label (next_label q.walk) low (label_state p a us b q.walk later))
        (holds_part p a.declarable w (next_label q.walk) e.walk e.walk (then_on w v (next_label q.walk) to_post to_body) (stays e.walk) k) (four_of_four d.flaws (condition_told d.walk x) q.flaws e.flaws h)

    added : Adds p w e.walk
    added =
        adds_then p w d.walk e.walk first.adds
        (adds_then p d.walk v e.walk (adds_like p d.walk v (like_condition x d.walk state.ready.all_typed))
        (adds_then p v q.walk e.walk second.adds (adds_then p q.walk (next_label q.walk) e.walk (adds_none p q.walk (next_label q.walk) refl refl refl) third.adds)))

-- ---- `switch`

-- the tests of a clause
module _ (p : CoreProgram) (a : node.Around) (vs : List Var) (w : Walk) (r : IsReady p (at_vars a vs) w) (tag : ℕ) (u : Ty) (lies : var_type tag vs ≡ Some u) (scalar : IsScalarType p u) (set : TypeIsSet w.names u) where
  tests_say : (number : ℕ) (xs : t.Exprs) (seen : List Const) → AllHaveOperators xs → (case_tests w tag (Some u) number xs seen).flaws ≡ [] → (cs : core.Clauses) → HasClause cs number → (ts : core.Tests) → SoundTests p (at_vars a vs) ts cs
      → SoundTests p (at_vars a vs) ((case_tests w tag (Some u) number xs seen).tests ts) cs
  tests_say number t.NoExprs seen o h cs c ts k = k
  tests_say number (t.MoreExprs x xs) seen o h cs c ts k =
      (q.0, (ty.bool, q.1, tt), c, tests_say number xs (and_constant (case_constant w (Some u) x) seen) o.1 (four_of_four (flaws_in w x) compared again (case_tests w tag (Some u) number xs (and_constant (case_constant w (Some u) x) seen)).flaws h) cs c ts k)
    where
      compared : List Flaw
      compared = own (case_answer w tag (Some u) x)

      again : List Flaw
      again = repeated_flaws (place_of x) (repeated (case_constant w (Some u) x) seen)

      q : SoundExpr p (at_vars a vs) (core_of (case_answer w tag (Some u) x)) × Gives p (core_of (case_answer w tag (Some u) x)) ty.bool
      q =
          case_there p (at_vars a vs) w r (place_of x) (place_of x) (core.read u (core.local_ tag)) u x o.0 scalar set ((u, lies), lies) refl
          (one_of_four (flaws_in w x) compared again (case_tests w tag (Some u) number xs (and_constant (case_constant w (Some u) x) seen)).flaws h)
          (two_of_four (flaws_in w x) compared again (case_tests w tag (Some u) number xs (and_constant (case_constant w (Some u) x) seen)).flaws h)

-- what comes of the clauses from one on, among all of them
pub record ClausesSay (p : CoreProgram) (a : node.Around) (label : ℕ) (vs : List Var) (number : ℕ) (w : Walk) (r : Clauses) : Type 0 where
  pub adds : Adds p w r.walk
  pub tests : (cs : core.Clauses) → ((n : ℕ) → HasClause r.clauses n → HasClause cs (number + n)) → SoundTests p (at_vars a vs) r.tests cs
  pub clauses : SoundClauses p (at_vars (with_break label a) vs) r.clauses
  pub default_in : (cs : core.Clauses) → ((n : ℕ) → HasClause r.clauses n → HasClause cs (number + n)) → HasDefault cs r.default_

pub clauses_none : (p : CoreProgram) (a : node.Around) (label : ℕ) (vs : List Var) (number : ℕ) (w : Walk) → ClausesSay p a label vs number w (record { tests = core.no_tests; clauses = core.no_clauses; default_ = None; flaws = []; walk = w })
clauses_none p a label vs number w = record { adds = adds_like p w w (like_same w); tests = λ cs f. tt; clauses = tt; default_in = λ cs f. tt }

first_clause : (number : ℕ) (cs : core.Clauses) → HasClause cs (number + 0) → HasClause cs number
first_clause number cs h = let e : number + 0 ≡ number = omega arith in subst (HasClause cs) e h

next_clause : (number n : ℕ) (cs : core.Clauses) → HasClause cs (number + suc n) → HasClause cs (suc number + n)
next_clause number n cs h = let e : number + suc n ≡ suc number + n = omega arith in subst (HasClause cs) e h

default_says : (is_def : Bool) (number : ℕ) (o : Option ℕ) (cs : core.Clauses) → HasClause cs number → HasDefault cs o → HasDefault cs (default_from is_def number o)
default_says true number o cs h k = h
default_says false number o cs h k = k

pub one_clause_says : (p : CoreProgram) (a : node.Around) (label : ℕ) (vs : List Var) (number : ℕ) (tag : ℕ) (u : Ty) (at : Place) (xs : t.Exprs) (seen : List Const) (is_def had onward : Bool) (w v : Walk) (inside : Walk → Did)
    (others : List Const → Bool → Walk → Clauses) → (r : IsReady p (at_vars a vs) w) → var_type tag vs ≡ Some u → IsScalarType p u → TypeIsSet w.names u → AllHaveOperators xs
    → (one_clause at (case_tests w tag (Some u) number xs seen) number is_def had onward inside others v).flaws ≡ []
    → ((inside v).flaws ≡ [] → SoundStmts p (at_vars (with_break label a) vs) (body (inside v).core) × Adds p v (inside v).walk)
    → ((others (case_tests w tag (Some u) number xs seen).seen (is_def || had) (inside v).walk).flaws ≡ [] → ClausesSay p a label vs (suc number) (inside v).walk (others (case_tests w tag (Some u) number xs seen).seen (is_def || had) (inside v).walk))
    → Like w v → ClausesSay p a label vs number w (one_clause at (case_tests w tag (Some u) number xs seen) number is_def had onward inside others v)
one_clause_says p a label vs number tag u at xs seen is_def had onward w v inside others r lies scalar set o h said rest like = record {
  adds = adds_then p w v q.walk (adds_like p w v like) (adds_then p v (inside v).walk q.walk inner.1 k.adds);
  tests = λ cs f. tests_say p a vs w r tag u lies scalar set number xs seen o (two_of_four (default_flaws at is_def had) ts.flaws (inside v).flaws q.flaws h) cs (first_clause number cs (f 0 tt)) q.tests (k.tests cs (λ n g. next_clause number n cs (f (suc n) g)));
  clauses = (inner.0, k.clauses);
  default_in = λ cs f. default_says is_def number q.default_ cs (first_clause number cs (f 0 tt)) (k.default_in cs (λ n g. next_clause number n cs (f (suc n) g)));
}
  where
    ts : Tests
    ts = case_tests w tag (Some u) number xs seen

    q : Clauses
    q = others ts.seen (is_def || had) (inside v).walk

    inner : SoundStmts p (at_vars (with_break label a) vs) (body (inside v).core) × Adds p v (inside v).walk
    inner = said (three_of_four (default_flaws at is_def had) ts.flaws (inside v).flaws q.flaws h)

    k : ClausesSay p a label vs (suc number) (inside v).walk q
    k = rest (four_of_four (default_flaws at is_def had) ts.flaws (inside v).flaws q.flaws h)

-- a switch on a value of a type
abbrev pub switch_at : Ty → core.Expr → List Flaw → t.MaybeExpr → (init : Walk → Did) → (clauses : ℕ → Option Ty → ℕ → Walk → Clauses) → Walk → Did
switch_at ty c fs x init clauses w =
    let d = init w in
    let u = condition_uses x d.walk in
    let r = clauses u.next (Some ty) u.next_label (next_label (fresh ty u)) in
    record {
      core = d.core ++ core.declare (var_of u.next ty) ∷ core.store (core.to_place ty (core.local_ u.next) ∷ []) (core.expr c core.no_exprs) ∷ core.switch_on u.next_label r.tests r.clauses r.default_ ∷ [];
      flaws = d.flaws ++ fs ++ r.flaws;
      walk = r.walk;
    }

pub switch_says : (p : CoreProgram) (a : node.Around) (b : Around) (ty : Ty) (c : core.Expr) (fs : List Flaw) (x : t.MaybeExpr) (init : Walk → Did) (clauses : ℕ → Option Ty → ℕ → Walk → Clauses) → DoneBy p a (unlabeled b) init → OnBy init
    → ((i : ℕ) (o : Option Ty) (j : ℕ) (v : Walk) → GoesOn v (clauses i o j v).walk)
    → ((label tag : ℕ) (vs : List Var) (v : Walk) → State p (with_break label a) vs (with_target label false b) v → var_type tag vs ≡ Some ty → TypeIsSet v.names ty → Holds p a.declarable v (clauses tag (Some ty) label v).walk → (clauses tag (Some ty) label v).flaws ≡ []
    → ClausesSay p a label vs 0 v (clauses tag (Some ty) label v))
    → (vs : List Var) (w : Walk) → State p a vs b w → IsScalarType p ty → TypeIsSet (init w).walk.names ty
    → ((us : List Var) → IsReady p (at_vars a us) (init w).walk → SoundExpr p (at_vars a us) c × Gives p c ty) → Holds p a.declarable w (switch_at ty c fs x init clauses w).walk → (switch_at ty c fs x init clauses w).flaws ≡ []
    → Says p a vs w (switch_at ty c fs x init clauses w)
switch_says p a b ty c fs x init clauses di gi gc say vs w s scalar set value k h = record {
  adds =
      adds_then p w d.walk r.walk first.adds
      (adds_then p d.walk u r.walk (adds_like p d.walk u like) (adds_then p u v r.walk (adds_var p u v y refl refl refl scalar) said.adds));
  is_sound = sound_append p a d.core (core.declare y ∷ core.store (core.to_place ty (core.local_ u.next) ∷ []) (core.expr c core.no_exprs) ∷ core.switch_on u.next_label r.tests r.clauses r.default_ ∷ []) vs first.is_sound
      ((held, scalar_good p ty scalar), (((given.0, tt), stored), ((new_label p a b u at_u.around u.next_label (omega arith), said.tests r.clauses clause_of, said.clauses, said.default_in r.clauses clause_of), tt)));
  extends = subst (Extends w.next vs) (sym (after_append d.core _ vs)) (extends_then w.next u.next vs us ts (let e = like.next in let f = next_on w d.walk (gi w) in omega arith) first.extends (extends_var y us));
}
  where
    d : Did
    d = init w

    u : Walk
    u = condition_uses x d.walk

    y : Var
    y = var_of u.next ty

    v : Walk
    v = next_label (fresh ty u)

    r : Clauses
    r = clauses u.next (Some ty) u.next_label v

    u_to_v : GoesOn u v
    u_to_v = then_on u (fresh ty u) v (fresh_on ty u) (next_label_on (fresh ty u))

    to_end : GoesOn v r.walk
    to_end = gc u.next (Some ty) u.next_label v

    d_to_v : GoesOn d.walk v
    d_to_v = then_on d.walk u v (condition_uses_on x d.walk) u_to_v

    first : Done p a vs w d
    first = di vs w (relabeled p a vs b None w s) (holds_part p a.declarable w w d.walk r.walk (stays w) (then_on d.walk v r.walk d_to_v to_end) k) (one_of_three d.flaws fs r.flaws h)

    us : List Var
    us = after_vars d.core vs

    ts : List Var
    ts = y ∷ us

    state : State p a us b d.walk
    state = state_on p a vs b w d s (gi w) first

    like : Like d.walk u
    like = like_condition x d.walk state.ready.all_typed

    at_u : State p a us b u
    at_u = state_like p a us b d.walk u like state

    scoped : Scoped p a ts (fresh ty u)
    scoped = scoped_fresh p a us u ty (record { ready = at_u.ready; before = at_u.before })

    at_v : State p a ts b v
    at_v = record { ready = record { scopes = q.scopes; types_set = q.types_set; all_typed = q.all_typed; further = q.further; names_kept = q.names_kept }; before = scoped.before; around = around_on p a b u v u_to_v at_u.around }
      where
        q : IsReady p (at_vars a ts) (fresh ty u)
        q = scoped.ready

    given : SoundExpr p (at_vars a ts) c × Gives p c ty
    given = value ts (ready_vars p a u.next us ts d.walk (extends_var y us) (before_more d.walk.next u.next d.walk.scopes (let e = like.next in omega arith) state.before) state.ready)

    lies : var_type u.next ts ≡ Some ty
    lies = newest y us

    stored : SoundTargets p (at_vars a ts) (core.to_place ty (core.local_ u.next) ∷ []) (all_types p.names (core.expr c core.no_exprs))
    stored = subst (λ (zs : List Ty). SoundTargets p (at_vars a ts) (core.to_place ty (core.local_ u.next) ∷ []) (zs ++ [])) (sym given.1) (((ty, lies), lies, refl), tt)

    held : Contains a.declarable y
    held =
        k.variables y (let e = like.next in let f = next_on w d.walk (gi w) in omega arith)
        (subst (λ (xs : List Var). Contains xs y) (sym to_end.variables_added) (Contains-append_left v.vars to_end.variables y (Contains-push u.vars y)))

    said : ClausesSay p a u.next_label ts 0 v r
    said =
        say u.next_label u.next ts v (switch_state p a ts b u.next_label v (omega arith) at_v) lies (subst (λ (ns : List NamedTy). TypeIsSet ns ty) (sym like.names) set)
        (holds_part p a.declarable w v r.walk r.walk (then_on w d.walk v (gi w) d_to_v) (stays r.walk) k) (three_of_three d.flaws fs r.flaws h)

    clause_of : (n : ℕ) → HasClause r.clauses n → HasClause r.clauses (0 + n)
    clause_of n g = let e : n ≡ 0 + n = omega arith in subst (HasClause r.clauses) e g
