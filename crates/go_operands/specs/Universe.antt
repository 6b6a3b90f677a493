-- Own: the universe scope of go_typing's specs/Env, with the ids that predeclared types have in each table.
use Rattle.std.specs.Prelude.{ℕ, List, [], ◌∷◌, ◌++◌, Bool, true, false, codes}
use Rattle.go_const.specs.declared.constant.Const.TheVariants as form
use Rattle.go_type.specs.declared.types.TypeId.{TypeId}
use Rattle.go_typing.specs.Env.{nowhere}
use Rattle.go_operands.specs.declared.rules.builtin.Builtin.{Builtin}
use Rattle.go_operands.specs.declared.rules.builtin.Builtin.TheVariants as one
use Rattle.go_operands.specs.declared.scopes.declared.Declared.{Declared}
use Rattle.go_operands.specs.declared.scopes.declared.Declared.TheVariants as as_
use Rattle.go_operands.specs.Held.{Held, declare_held}

abbrev pub predeclared : List ℕ → Declared → Held
predeclared name what = record { name = name; place = nowhere; what = what }

abbrev pub id : ℕ → TypeId
id n = record { 0 = n }

abbrev pub type_name : List ℕ → ℕ → Held
type_name name n = predeclared name (as_.TypeName (id n))

abbrev pub built_in : List ℕ → Builtin → Held
built_in name b = predeclared name (as_.Builtin b)

abbrev pub truth : List ℕ → Bool → Held
truth name b = predeclared name (as_.Const (form.Bool b) (id 3))

abbrev pub refused : List ℕ → ℕ → Held
refused name n = predeclared name (as_.Refused n)

abbrev pub first_types : List Held
first_types =
    type_name (codes "bool") 0 ∷ type_name (codes "byte") 13 ∷ refused (codes "complex64") 71 ∷ refused (codes "complex128") 71
    ∷ refused (codes "error") 0 ∷ refused (codes "float32") 71 ∷ refused (codes "float64") 71 ∷ []

abbrev pub signed_types : List Held
signed_types =
    type_name (codes "int") 7 ∷ type_name (codes "int8") 8 ∷ type_name (codes "int16") 9 ∷ type_name (codes "int32") 10
    ∷ type_name (codes "int64") 11 ∷ type_name (codes "rune") 10 ∷ type_name (codes "string") 1 ∷ []

abbrev pub unsigned_types : List Held
unsigned_types =
    type_name (codes "uint") 12 ∷ type_name (codes "uint8") 13 ∷ type_name (codes "uint16") 14 ∷ type_name (codes "uint32") 15
    ∷ type_name (codes "uint64") 16 ∷ type_name (codes "uintptr") 17 ∷ []

abbrev pub values : List Held
values = truth (codes "true") true ∷ truth (codes "false") false ∷ predeclared (codes "nil") as_.Nil ∷ []

abbrev pub first_functions : List Held
first_functions =
    built_in (codes "append") one.Append ∷ built_in (codes "cap") one.Cap ∷ built_in (codes "close") one.Close
    ∷ built_in (codes "complex") one.Complex ∷ built_in (codes "copy") one.Copy ∷ built_in (codes "delete") one.Delete
    ∷ built_in (codes "imag") one.Imag ∷ built_in (codes "len") one.Len ∷ []

abbrev pub last_functions : List Held
last_functions =
    built_in (codes "make") one.Make ∷ built_in (codes "new") one.New ∷ built_in (codes "panic") one.Panic
    ∷ built_in (codes "print") one.Print ∷ built_in (codes "println") one.Println ∷ built_in (codes "real") one.Real
    ∷ built_in (codes "recover") one.Recover ∷ []

abbrev pub universe_held : List Held
universe_held = first_types ++ signed_types ++ unsigned_types ++ values ++ first_functions ++ last_functions

-- these declarations after one another
abbrev pub declare_all : List Held → List Held → List Held
declare_all hs [] = hs
declare_all hs (b ∷ bs) = declare_all (declare_held b hs) bs
