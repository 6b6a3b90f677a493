-- own: the functions that may wait, as the least set that these rules close. A conversion may change the tags of a
-- function type and of an interface type, so what one call may reach is told by signatures without tags.
use Rattle.std.specs.Prelude.{◌≡◌, ℕ, List, Bool, Option, Some, None, Contains, slice_get}
use Rattle.go_type.specs.Tree.{Ty, Tys, func}
use Rattle.go_type.specs.Underlying.{underlying}
use Rattle.go_core.specs.CoreTree.{CoreFunc, MethodName, MethodRow, PackageVar, CoreProgram}
use Rattle.go_core.specs.StepInterfaces.{row_of}
use Rattle.go_core.specs.Untagged.{untagged_types}
use Rattle.go_core.specs.TypeOf.{Signature, method_in}
use Rattle.go_mentions.specs.Mentions.{Mention, blocks, calls_function, calls_method, calls_value, calls_dynamic, takes_function, takes_method, takes_dynamic, in_stmts, in_bound}

-- the body of a function mentions it
pub record BodyMentions (p : CoreProgram) (k : ℕ) (m : Mention) : Type 0 where
  pub function : CoreFunc
  pub is_function : slice_get p.funcs k ≡ Some function
  pub mentioned : Contains (in_stmts p.names function.body) m

-- some body or initialiser mentions it
pub data IsMentioned (p : CoreProgram) (m : Mention) : Type 0 where
  in_a_body : (k : ℕ) → BodyMentions p k m → IsMentioned p m
  in_an_initialiser : (n : ℕ) (x : PackageVar)
      → slice_get p.globals n ≡ Some x → Contains (in_bound p.names x.initialiser) m → IsMentioned p m

-- the signature with no tags
abbrev pub untagged_signature : Tys → Tys → Bool → Signature
untagged_signature params results variadic = record { params = untagged_types params; results = untagged_types results; variadic = variadic }

abbrev pub signature_of : CoreFunc → Signature
signature_of f = untagged_signature f.params f.results f.variadic

-- a method's row leads to the function
pub record IsMethodFunc (p : CoreProgram) (row : MethodRow) (k : ℕ) (signature : Signature) : Type 0 where
  pub is_row : Contains p.methods row
  pub leads : row.func ≡ k
  pub function : CoreFunc
  pub is_function : slice_get p.funcs k ≡ Some function
  pub has_signature : signature ≡ signature_of function

pub record IsNamed (p : CoreProgram) (n : MethodName) (k : ℕ) : Type 0 where
  pub at : ℕ
  pub row : MethodRow
  pub found : row_of p n ≡ Some at
  pub is_row : slice_get p.methods at ≡ Some row
  pub leads : row.func ≡ k

abbrev pub under_option : CoreProgram → Option Ty → Option Ty
under_option p None = None
under_option p (Some t) = Some (underlying p.names t)

abbrev pub without_tags : Option Signature → Option Signature
without_tags None = None
without_tags (Some s) = Some (untagged_signature s.params s.results s.variadic)

abbrev pub method_of : List ℕ → List ℕ → Option Ty → Option Signature
method_of name package_ None = None
method_of name package_ (Some t) = without_tags (method_in name package_ t)

abbrev pub func_signature : Option Ty → Option Signature
func_signature (Some (func ps rs v)) = Some (untagged_signature ps rs v)
func_signature _ = None

-- the function is taken as a value
pub data IsTaken (p : CoreProgram) (k : ℕ) : Type 0 where
  as_function : IsMentioned p (takes_function k) → IsTaken p k
  -- a method value takes its method
  as_method : (n : MethodName) → IsMentioned p (takes_method n) → IsNamed p n k → IsTaken p k
  -- a method value of an interface takes every method of that name and signature
  as_dynamic : (row : MethodRow) (t : Option Ty) (signature : Signature)
      → IsMentioned p (takes_dynamic row.name row.package_ t)
      → method_of row.name row.package_ (under_option p t) ≡ Some signature
      → IsMethodFunc p row k signature → IsTaken p k

-- a class of functions that one call may reach
pub data Class : Type 0 where
  of_values : (signature : Signature) → Class
  of_methods : (name package_ : List ℕ) (signature : Signature) → Class

pub data IsMember (p : CoreProgram) (k : ℕ) : Class → Type 0 where
  a_value : (f : CoreFunc) → slice_get p.funcs k ≡ Some f → IsTaken p k → IsMember p k (of_values (signature_of f))
  a_method : (row : MethodRow) (signature : Signature) → IsMethodFunc p row k signature → IsMember p k (of_methods row.name row.package_ signature)

-- the body of a function calls through a class
pub data CallsThrough (p : CoreProgram) (k : ℕ) : Class → Type 0 where
  a_value : (t : Option Ty) (signature : Signature)
      → BodyMentions p k (calls_value t) → func_signature (under_option p t) ≡ Some signature
      → CallsThrough p k (of_values signature)
  a_method : (name package_ : List ℕ) (t : Option Ty) (signature : Signature)
      → BodyMentions p k (calls_dynamic name package_ t) → method_of name package_ (under_option p t) ≡ Some signature
      → CallsThrough p k (of_methods name package_ signature)

-- the least set: a function may wait itself, or it calls one that may, or it is of a class with one that may, or
-- calls through such a class. A function that is only started is not called.
pub data IsMarked (p : CoreProgram) : ℕ → Type 0 where
  waits_itself : (k : ℕ) → BodyMentions p k blocks → IsMarked p k
  calls_one : (k j : ℕ) → BodyMentions p k (calls_function j) → IsMarked p j → IsMarked p k
  calls_its_method : (k j : ℕ) (n : MethodName) → BodyMentions p k (calls_method n) → IsNamed p n j → IsMarked p j → IsMarked p k
  of_its_class : (k j : ℕ) (c : Class) → IsMember p k c → IsMember p j c → IsMarked p j → IsMarked p k
  calls_a_class : (k j : ℕ) (c : Class) → CallsThrough p k c → IsMember p j c → IsMarked p j → IsMarked p k

-- marks that meet the rules, though perhaps not the least
pub record MeetRules (p : CoreProgram) (marks : List ℕ) : Type 0 where
  pub waits_itself : (k : ℕ) → BodyMentions p k blocks → Contains marks k
  pub calls_one : (k j : ℕ) → BodyMentions p k (calls_function j) → Contains marks j → Contains marks k
  pub calls_its_method : (k j : ℕ) (n : MethodName) → BodyMentions p k (calls_method n) → IsNamed p n j → Contains marks j → Contains marks k
  pub of_its_class : (k j : ℕ) (c : Class) → IsMember p k c → IsMember p j c → Contains marks j → Contains marks k
  pub calls_a_class : (k j : ℕ) (c : Class) → CallsThrough p k c → IsMember p j c → Contains marks j → Contains marks k

-- exactly the least set
pub record AreMarks (p : CoreProgram) (marks : List ℕ) : Type 0 where
  pub each_marked : (k : ℕ) → Contains marks k → IsMarked p k
  pub all_marked : (k : ℕ) → IsMarked p k → Contains marks k
