-- The types of a package have their numbers in the order of the files.
use Rattle.std.proofs.Common.{ℕ, suc, List, [], ◌∷◌, ◌++◌, refl, sym, subst, Bool, true, false, if◌then◌else◌}
use Rattle.go_syntax.specs.Tree as t
use Rattle.go_syntax.specs.declared.tree.Name.{Name}
use Rattle.go_typing.specs.Declare.{names_count}
use Rattle.go_typing.specs.Items.{Item, constant_item, type_item, alias_item, function_item, variable_item, init_item, is_init, each_name, spec_items, constant_items, each_variable, variable_items, type_items, types_after, items_from, items_of}
use Rattle.go_sound.proofs.KnownWords.{NumberedTo}

append : (k m n : ℕ) (is js : List Item) → NumberedTo k is m → NumberedTo m js n → NumberedTo k (is ++ js) n
append k m n [] js h l = subst (λ (j : ℕ). NumberedTo j js n) (sym h) l
append k m n (type_item x number e ∷ is) js h l = (h.0, append (suc k) m n is js h.1 l)
append k m n (constant_item x j u y all ∷ is) js h l = append k m n is js h l
append k m n (alias_item x e ∷ is) js h l = append k m n is js h l
append k m n (function_item x id s ∷ is) js h l = append k m n is js h l
append k m n (variable_item x ∷ is) js h l = append k m n is js h l
append k m n (init_item x ∷ is) js h l = append k m n is js h l

each_numbered : (k j : ℕ) (u : t.MaybeExpr) (all : t.Exprs) (ns : List Name) (ys : t.Exprs) → NumberedTo k (each_name j u all ns ys) k
each_numbered k j u all [] ys = refl
each_numbered k j u all (n ∷ ns) t.NoExprs = each_numbered k j u all ns t.NoExprs
each_numbered k j u all (n ∷ ns) (t.MoreExprs y ys) = each_numbered k j u all ns ys

constants_numbered : (k j : ℕ) (u : t.MaybeExpr) (ys : t.Exprs) (vs : t.ValueSpecs) → NumberedTo k (constant_items j u ys vs) k
constants_numbered k j u ys t.NoValues = refl
constants_numbered k j u ys (t.MoreValues ns v t.NoExprs vs) = append k k k (spec_items j u ns ys) _ (each_numbered k j u ys ns (if names_count ns ys then ys else t.NoExprs)) (constants_numbered k (suc j) u ys vs)
constants_numbered k j u ys (t.MoreValues ns v (t.MoreExprs z zs) vs) =
    append k k k (spec_items j v ns (t.MoreExprs z zs)) _ (each_numbered k j v (t.MoreExprs z zs) ns (if names_count ns (t.MoreExprs z zs) then t.MoreExprs z zs else t.NoExprs)) (constants_numbered k (suc j) v (t.MoreExprs z zs) vs)

variable_numbered : (k : ℕ) (ns : List Name) → NumberedTo k (each_variable ns) k
variable_numbered k [] = refl
variable_numbered k (n ∷ ns) = variable_numbered k ns

variables_numbered : (k : ℕ) (vs : t.ValueSpecs) → NumberedTo k (variable_items vs) k
variables_numbered k t.NoValues = refl
variables_numbered k (t.MoreValues ns u ys vs) = append k k k (each_variable ns) (variable_items vs) (variable_numbered k ns) (variables_numbered k vs)

types_numbered : (k : ℕ) (ts : t.TypeSpecs) → NumberedTo k (type_items k ts) (types_after k ts)
types_numbered k t.NoTypes = refl
types_numbered k (t.MoreTypes n true e ts) = types_numbered k ts
types_numbered k (t.MoreTypes n false e ts) = (refl, types_numbered (suc k) ts)

-- a function is no type
function_numbered : (k m : ℕ) (n : Name) (id : ℕ) (s : t.Sig) (b : Bool) (is : List Item) → NumberedTo k is m → NumberedTo k ((if b then init_item n else function_item n id s) ∷ is) m
function_numbered k m n id s true is h = h
function_numbered k m n id s false is h = h

-- some number comes after the last type
pub record IsNumbered (is : List Item) : Type 0 where
  pub last : ℕ
  pub numbered : NumberedTo 0 is last

from_numbered : (k id : ℕ) (ds : List t.Decl) → (m : ℕ) × NumberedTo k (items_from k id ds) m
from_numbered k id [] = (k, refl)
from_numbered k id (t.ConstDecl at vs ∷ ds) = let r = from_numbered k id ds in (r.0, append k k r.0 (constant_items 0 t.NoExpr t.NoExprs vs) (items_from k id ds) (constants_numbered k 0 t.NoExpr t.NoExprs vs) r.1)
from_numbered k id (t.TypeDecl at ts ∷ ds) = let r = from_numbered (types_after k ts) id ds in (r.0, append k (types_after k ts) r.0 (type_items k ts) (items_from (types_after k ts) id ds) (types_numbered k ts) r.1)
from_numbered k id (t.VarDecl at vs ∷ ds) = let r = from_numbered k id ds in (r.0, append k k r.0 (variable_items vs) (items_from k id ds) (variables_numbered k vs) r.1)
from_numbered k id (t.FuncDecl at n s b ∷ ds) = let r = from_numbered k (suc id) ds in (r.0, function_numbered k r.0 n id s (is_init n) (items_from k (suc id) ds) r.1)
from_numbered k id (t.MethodDecl at p rs n s b ∷ ds) = from_numbered k (suc id) ds

pub items_numbered : (ds : List t.Decl) → IsNumbered (items_of ds)
items_numbered ds = let r = from_numbered 0 0 ds in record { last = r.0; numbered = r.1 }
