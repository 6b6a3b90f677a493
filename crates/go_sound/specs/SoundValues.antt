-- Go specification (as of Go 1.17), "Assignability", "If statements", "For statements": values in the statements of a body of which
-- nothing is told have cores that have a meaning.
use Rattle.std.specs.Prelude.{◌≡◌, List, [], ◌++◌, Some}
use Rattle.go_syntax.specs.Tree.{Expr}
use Rattle.go_type.specs.Tree.{Ty}
use Rattle.go_type.specs.Named.{NamedTy}
use Rattle.go_core.specs.CoreTree.{CoreProgram}
use Rattle.go_core.specs.SoundNode as sound
use Rattle.go_core.specs.SoundNode.{IsBool}
use Rattle.go_core.specs.Sound.{Gives, GivesSome, SoundExpr}
use Rattle.go_typing.specs.Walk.{Walk}
use Rattle.go_typing.specs.Expressions.{value_at, value_alone, condition, core_of, type_of}
use Rattle.go_sound.specs.Added.{TypeIsSet, ScopesAreSet}
use Rattle.go_sound.specs.Lost.{NothingUnknown}
use Rattle.go_sound.specs.SoundTyped.{HasOperators, IsScalarType, ScopesAreSound}

-- what is in scope has a meaning in the program and is typed, and the program has the named types so far, and further ones
pub record IsReady (p : CoreProgram) (a : sound.Around) (w : Walk) : Type 0 where
  pub scopes : ScopesAreSound p a w.scopes
  pub types_set : ScopesAreSet w.names w.scopes
  pub all_typed : NothingUnknown w.scopes
  pub further : List NamedTy
  pub names_kept : p.names ≡ w.names ++ further

-- where a value of a type is wanted
abbrev pub ValuesAreSound : Type 0
ValuesAreSound = (p : CoreProgram) (a : sound.Around) (w : Walk) → IsReady p a w → (e : Expr) → HasOperators e → (u : Ty) → IsScalarType p u → TypeIsSet w.names u
    → (value_at w u e).flaws ≡ [] → SoundExpr p a (core_of (value_at w u e).answer) × Gives p (core_of (value_at w u e).answer) u

-- where any value is wanted, whose type is that of the variable that it is for
pub record IsAnyValue (p : CoreProgram) (a : sound.Around) (w : Walk) (e : Expr) : Type 0 where
  pub type_ : Ty
  pub has_type : type_of (value_alone w e).answer ≡ Some type_
  pub is_sound : SoundExpr p a (core_of (value_alone w e).answer)
  pub gives : Gives p (core_of (value_alone w e).answer) type_
  pub scalar : IsScalarType p type_
  pub set : TypeIsSet w.names type_

abbrev pub AnyValuesAreSound : Type 0
AnyValuesAreSound = (p : CoreProgram) (a : sound.Around) (w : Walk) → IsReady p a w → (e : Expr) → HasOperators e → (value_alone w e).flaws ≡ [] → IsAnyValue p a w e

abbrev pub ConditionsAreSound : Type 0
ConditionsAreSound = (p : CoreProgram) (a : sound.Around) (w : Walk) → IsReady p a w → (e : Expr) → HasOperators e → (condition w e).flaws ≡ []
    → SoundExpr p a (core_of (condition w e).answer) × GivesSome p (core_of (condition w e).answer) IsBool
