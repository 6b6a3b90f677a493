-- What the tests of a token mean.
use Rattle.std.proofs.Common.{◌≡◌, Bool, true, false, ℕ, List, [], ◌∷◌, Option, Some, None, refl, ap, sym, ◌∙◌, subst, bytes_eq, if◌then◌else◌}
use Rattle.std.proofs.lemmas.Slice.Eq.{bytes_eq-Decides}
use Rattle.gj_base.specs.declared.place.Place.{Place}
use Rattle.go_syntax.specs.Token.{Token}
use Rattle.go_syntax.specs.Spelling.{operator_text, keyword_text}
use Rattle.go_syntax.specs.declared.kind.TokenKind.{TokenKind}
use Rattle.go_syntax.specs.declared.kind.TokenKind.TheVariants as kind
use Rattle.go_syntax.specs.declared.keyword.Keyword.{Keyword}
use Rattle.go_syntax.specs.declared.keyword.Keyword.TheVariants as word
use Rattle.go_syntax.specs.declared.operator.Operator.{Operator}
use Rattle.go_syntax.specs.declared.operator.Operator.TheVariants as o
use Rattle.go_grammar.specs.Classes.{IsOp, IsWord, IsName, IsString, IsSemicolon, written, inserted}
use Rattle.go_grammar.specs.Nodes.{is_op, is_word, is_name_token, is_string, is_semicolon}

some_same : {A : Type 0} (x y : A) → Some x ≡ Some y → x ≡ y
some_same x y q = cc

abbrev operators : List Operator
operators = o.Add ∷ o.Sub ∷ o.Mul ∷ o.Div ∷ o.Rem ∷ o.And ∷ o.Or ∷ o.Xor ∷ o.Shl ∷ o.Shr ∷ o.AndNot ∷ o.AddAssign ∷ o.SubAssign ∷ o.MulAssign ∷ o.DivAssign ∷ o.RemAssign ∷ o.AndAssign ∷ o.OrAssign ∷ o.XorAssign ∷ o.ShlAssign ∷ o.ShrAssign ∷ o.AndNotAssign ∷ o.AndThen ∷ o.OrElse ∷ o.Arrow ∷ o.Increment ∷ o.Decrement ∷ o.Eq ∷ o.Lt ∷ o.Gt ∷ o.Assign ∷ o.Not ∷ o.Ne ∷ o.Le ∷ o.Ge ∷ o.Define ∷ o.Ellipsis ∷ o.LeftParen ∷ o.RightParen ∷ o.LeftBracket ∷ o.RightBracket ∷ o.LeftBrace ∷ o.RightBrace ∷ o.Comma ∷ o.Dot ∷ o.Colon ∷ []

abbrev keywords : List Keyword
keywords = word.Break ∷ word.Case ∷ word.Chan ∷ word.Const ∷ word.Continue ∷ word.Default ∷ word.Defer ∷ word.Else ∷ word.Fallthrough ∷ word.For ∷ word.Func ∷ word.Go ∷ word.Goto ∷ word.If ∷ word.Import ∷ word.Interface ∷ word.Map ∷ word.Package ∷ word.Range ∷ word.Return ∷ word.Select ∷ word.Struct ∷ word.Switch ∷ word.Type ∷ word.Var ∷ []

abbrev look_op : List Operator → List ℕ → Option Operator
look_op [] text = None
look_op (x ∷ xs) text = if bytes_eq (operator_text x) text then Some x else look_op xs text

abbrev look_word : List Keyword → List ℕ → Option Keyword
look_word [] text = None
look_word (x ∷ xs) text = if bytes_eq (keyword_text x) text then Some x else look_word xs text

op_found : (x : Operator) → look_op operators (operator_text x) ≡ Some x
op_found o.Add = refl
op_found o.Sub = refl
op_found o.Mul = refl
op_found o.Div = refl
op_found o.Rem = refl
op_found o.And = refl
op_found o.Or = refl
op_found o.Xor = refl
op_found o.Shl = refl
op_found o.Shr = refl
op_found o.AndNot = refl
op_found o.AddAssign = refl
op_found o.SubAssign = refl
op_found o.MulAssign = refl
op_found o.DivAssign = refl
op_found o.RemAssign = refl
op_found o.AndAssign = refl
op_found o.OrAssign = refl
op_found o.XorAssign = refl
op_found o.ShlAssign = refl
op_found o.ShrAssign = refl
op_found o.AndNotAssign = refl
op_found o.AndThen = refl
op_found o.OrElse = refl
op_found o.Arrow = refl
op_found o.Increment = refl
op_found o.Decrement = refl
op_found o.Eq = refl
op_found o.Lt = refl
op_found o.Gt = refl
op_found o.Assign = refl
op_found o.Not = refl
op_found o.Ne = refl
op_found o.Le = refl
op_found o.Ge = refl
op_found o.Define = refl
op_found o.Ellipsis = refl
op_found o.LeftParen = refl
op_found o.RightParen = refl
op_found o.LeftBracket = refl
op_found o.RightBracket = refl
op_found o.LeftBrace = refl
op_found o.RightBrace = refl
op_found o.Comma = refl
op_found o.Dot = refl
op_found o.Colon = refl

word_found : (x : Keyword) → look_word keywords (keyword_text x) ≡ Some x
word_found word.Break = refl
word_found word.Case = refl
word_found word.Chan = refl
word_found word.Const = refl
word_found word.Continue = refl
word_found word.Default = refl
word_found word.Defer = refl
word_found word.Else = refl
word_found word.Fallthrough = refl
word_found word.For = refl
word_found word.Func = refl
word_found word.Go = refl
word_found word.Goto = refl
word_found word.If = refl
word_found word.Import = refl
word_found word.Interface = refl
word_found word.Map = refl
word_found word.Package = refl
word_found word.Range = refl
word_found word.Return = refl
word_found word.Select = refl
word_found word.Struct = refl
word_found word.Switch = refl
word_found word.Type = refl
word_found word.Var = refl

same_op : (x y : Operator) → bytes_eq (operator_text x) (operator_text y) ≡ true → y ≡ x
same_op x y q =
    let d = bytes_eq-Decides (operator_text x) (operator_text y) in
    some_same y x (sym (op_found y) ∙ (ap (look_op operators) (sym (d.0 q)) ∙ op_found x))

same_word : (x y : Keyword) → bytes_eq (keyword_text x) (keyword_text y) ≡ true → y ≡ x
same_word x y q =
    let d = bytes_eq-Decides (keyword_text x) (keyword_text y) in
    some_same y x (sym (word_found y) ∙ (ap (look_word keywords) (sym (d.0 q)) ∙ word_found x))

op_kind : (x : Operator) (k : TokenKind) (at : Place) (text : List ℕ) → is_op x (record { kind = k; place = at; text = text }) ≡ true → k ≡ kind.Op x
op_kind x (kind.Op y) at text q = ap kind.Op (same_op x y q)
op_kind x kind.Name at text q = cc
op_kind x kind.Int at text q = cc
op_kind x kind.Rune at text q = cc
op_kind x kind.Str at text q = cc
op_kind x (kind.Word w) at text q = cc
op_kind x kind.Semi at text q = cc
op_kind x kind.Auto at text q = cc
op_kind x kind.End at text q = cc

pub op_of : {x : Operator} {u : Token} → is_op x u ≡ true → IsOp x u
op_of {x} {u} q = record { op = op_kind x u.kind u.place u.text q }

word_kind : (x : Keyword) (k : TokenKind) (at : Place) (text : List ℕ) → is_word x (record { kind = k; place = at; text = text }) ≡ true → k ≡ kind.Word x
word_kind x (kind.Word y) at text q = ap kind.Word (same_word x y q)
word_kind x kind.Name at text q = cc
word_kind x kind.Int at text q = cc
word_kind x kind.Rune at text q = cc
word_kind x kind.Str at text q = cc
word_kind x (kind.Op y) at text q = cc
word_kind x kind.Semi at text q = cc
word_kind x kind.Auto at text q = cc
word_kind x kind.End at text q = cc

pub word_of : {x : Keyword} {u : Token} → is_word x u ≡ true → IsWord x u
word_of {x} {u} q = record { word = word_kind x u.kind u.place u.text q }

op_test : (x : Operator) (k : TokenKind) (at : Place) (text : List ℕ) → kind.Op x ≡ k → is_op x (record { kind = k; place = at; text = text }) ≡ true
op_test x k at text q = subst (λ j. is_op x (record { kind = j; place = at; text = text }) ≡ true) q ((bytes_eq-Decides (operator_text x) (operator_text x)).1 refl)

-- a test that fails
pub no_op : {x : Operator} {u : Token} → is_op x u ≡ false → IsOp x u → ⊥
no_op {x} {u} q d = let e : is_op x u ≡ true = op_test x u.kind u.place u.text (sym d.op) in cc

word_test : (x : Keyword) (k : TokenKind) (at : Place) (text : List ℕ) → kind.Word x ≡ k → is_word x (record { kind = k; place = at; text = text }) ≡ true
word_test x k at text q = subst (λ j. is_word x (record { kind = j; place = at; text = text }) ≡ true) q ((bytes_eq-Decides (keyword_text x) (keyword_text x)).1 refl)

pub no_word : {x : Keyword} {u : Token} → is_word x u ≡ false → IsWord x u → ⊥
no_word {x} {u} q d = let e : is_word x u ≡ true = word_test x u.kind u.place u.text (sym d.word) in cc

name_kind : (k : TokenKind) → is_name_token k ≡ true → k ≡ kind.Name
name_kind kind.Name q = refl
name_kind (kind.Op y) q = cc
name_kind kind.Int q = cc
name_kind kind.Rune q = cc
name_kind kind.Str q = cc
name_kind (kind.Word w) q = cc
name_kind kind.Semi q = cc
name_kind kind.Auto q = cc
name_kind kind.End q = cc

pub name_is : {u : Token} → is_name_token u.kind ≡ true → IsName u
name_is {u} q = record { name = name_kind u.kind q }

string_kind : (k : TokenKind) → is_string k ≡ true → k ≡ kind.Str
string_kind kind.Str q = refl
string_kind (kind.Op y) q = cc
string_kind kind.Int q = cc
string_kind kind.Rune q = cc
string_kind kind.Name q = cc
string_kind (kind.Word w) q = cc
string_kind kind.Semi q = cc
string_kind kind.Auto q = cc
string_kind kind.End q = cc

pub string_is : {u : Token} → is_string u.kind ≡ true → IsString u
string_is {u} q = record { string = string_kind u.kind q }

semicolon_kind : (k : TokenKind) (at : Place) (text : List ℕ) → is_semicolon k ≡ true → IsSemicolon (record { kind = k; place = at; text = text })
semicolon_kind kind.Semi at text q = written refl
semicolon_kind kind.Auto at text q = inserted refl
semicolon_kind (kind.Op y) at text q = absurd (cc)
semicolon_kind kind.Int at text q = absurd (cc)
semicolon_kind kind.Rune at text q = absurd (cc)
semicolon_kind kind.Name at text q = absurd (cc)
semicolon_kind kind.Str at text q = absurd (cc)
semicolon_kind (kind.Word w) at text q = absurd (cc)
semicolon_kind kind.End at text q = absurd (cc)

pub semicolon_is : {u : Token} → is_semicolon u.kind ≡ true → IsSemicolon u
semicolon_is {u} q = semicolon_kind u.kind u.place u.text q

-- splitting on a test
test_case : {A : Type 0} (P : A → Type 0) (b : Bool) {x y : A} → (b ≡ true → P x) → (b ≡ false → P y) → P (if b then x else y)
test_case P true f g = f refl
test_case P false f g = g refl

pub by_test : {A : Type 0} (P : A → Type 0) (b : Bool) {x y : A} → (b ≡ true → P x) → (b ≡ false → P y) → P (if b then x else y)
by_test P b f g = test_case P b f g
