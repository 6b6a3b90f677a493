-- What is no condition is told.
use Rattle.std.proofs.Common.{◌≡◌, refl, sym, ap, List, [], ◌∷◌, ◌++◌, Bool, true, false}
use Rattle.std.specs.Prelude.{Option, if◌then◌else◌}
use Rattle.std.proofs.lemmas.List.{append-nil}
use Rattle.gj_base.specs.declared.place.Place.{Place}
use Rattle.go_const.specs.declared.constant.Const.{Const}
use Rattle.go_core.specs.CoreTree as core
use Rattle.go_type.specs.Tree.{Ty}
use Rattle.go_type.specs.Underlying.{underlying}
use Rattle.go_typing.specs.Answer.{Flaw, flaw, Answer, value, pending, type_, package_, built_in, blank, does, wrong, untyped_part, bad}
use Rattle.go_typing.specs.Operand.{is_bool}
use Rattle.go_typing.specs.Walk.{Walk}
use Rattle.go_typing.specs.Expressions.{Valued, checked_condition}
use Rattle.go_assign.specs.Taken.{decides}

abbrev with_flaws : Answer → List Flaw → Valued
with_flaws a fs = record { answer = a; flaws = fs }

same : (a : Answer) (fs : List Flaw) → with_flaws a fs ≡ with_flaws a (fs ++ [])
same a fs = ap (with_flaws a) (sym (append-nil fs))

decided : (at : Place) (c : core.Expr) (u : Ty) (v : Option Const) (fs : List Flaw) (b : Bool) → true ≡ b → with_flaws (value c u v) fs ≡ with_flaws (if b then value c u v else bad at 86) (fs ++ (if b then [] else flaw at 86 ∷ []))
decided at c u v fs true h = same (value c u v) fs
decided at c u v fs false h = absurd (cc)

undecided : (at : Place) (c : core.Expr) (u : Ty) (v : Option Const) (fs : List Flaw) (b : Bool) → false ≡ b → with_flaws (bad at 86) (fs ++ flaw at 86 ∷ []) ≡ with_flaws (if b then value c u v else bad at 86) (fs ++ (if b then [] else flaw at 86 ∷ []))
undecided at c u v fs true h = absurd (cc)
undecided at c u v fs false h = refl

kept : (w : Walk) (at : Place) (a : Answer) (fs : List Flaw) → true ≡ decides w.names a → with_flaws a fs ≡ checked_condition w at (with_flaws a fs)
kept w at (value c u v) fs h = decided at c u v fs (is_bool (underlying w.names u)) h
kept w at (pending p b) fs h = same (pending p b) fs
kept w at (type_ u) fs h = same (type_ u) fs
kept w at (package_ p) fs h = same (package_ p) fs
kept w at (built_in b) fs h = same (built_in b) fs
kept w at blank fs h = same blank fs
kept w at (does s) fs h = same (does s) fs
kept w at (wrong f gs) fs h = same (wrong f gs) fs
kept w at untyped_part fs h = same untyped_part fs

refused : (w : Walk) (at : Place) (a : Answer) (fs : List Flaw) → false ≡ decides w.names a → with_flaws (bad at 86) (fs ++ flaw at 86 ∷ []) ≡ checked_condition w at (with_flaws a fs)
refused w at (value c u v) fs h = undecided at c u v fs (is_bool (underlying w.names u)) h
refused w at (pending p b) fs h = absurd (cc)
refused w at (type_ u) fs h = absurd (cc)
refused w at (package_ p) fs h = absurd (cc)
refused w at (built_in b) fs h = absurd (cc)
refused w at blank fs h = absurd (cc)
refused w at (does s) fs h = absurd (cc)
refused w at (wrong f gs) fs h = absurd (cc)
refused w at untyped_part fs h = absurd (cc)

-- a value that may decide stays, and any other has a fault
pub condition_kept : (w : Walk) (at : Place) (x : Valued) → true ≡ decides w.names x.answer → x ≡ checked_condition w at x
condition_kept w at x h = kept w at x.answer x.flaws h

pub condition_refused : (w : Walk) (at : Place) (x : Valued) → false ≡ decides w.names x.answer → with_flaws (bad at 86) (x.flaws ++ flaw at 86 ∷ []) ≡ checked_condition w at x
condition_refused w at x h = refused w at x.answer x.flaws h
