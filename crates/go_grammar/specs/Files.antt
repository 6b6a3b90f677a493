-- The grammar of a file: File = "package" name ";" {"import" Group(Spec) ";"} {Top ";"} End.
use Rattle.std.specs.Prelude.{List, [], ◌∷◌, ◌++◌, Some, None}
use Rattle.gj_base.specs.declared.place.Place.{Place}
use Rattle.go_syntax.specs.Tree as t
use Rattle.go_syntax.specs.Token.{Token}
use Rattle.go_syntax.specs.declared.keyword.Keyword.TheVariants as word
use Rattle.go_syntax.specs.declared.operator.Operator.TheVariants as o
use Rattle.go_grammar.specs.Classes.{IsOp, IsWord, IsName, IsString, IsSemicolon, IsEnd, name_of}
use Rattle.go_grammar.specs.Grammar.{IsDecl, AreParams, IsSig, IsBlock}

-- Spec = [name | "."] string
pub data IsImport : List Token → t.Import → Type 0 where
  plain_import : {u : Token} → IsString u → IsImport (u ∷ []) (record { place = u.place; name = None; path = u.text; path_place = u.place })
  named_import : {u v : Token} → IsName u → IsString v → IsImport (u ∷ v ∷ []) (record { place = u.place; name = Some (name_of u); path = v.text; path_place = v.place })
  -- the name is the one of the dot
  dot_import : {u v : Token} → IsOp o.Dot u → IsString v → IsImport (u ∷ v ∷ []) (record { place = u.place; name = Some (name_of u); path = v.text; path_place = v.place })

-- {Spec ";"}, the last ";" at will
pub data AreImportSpecs : List Token → List t.Import → Type 0 where
  no_import_specs : AreImportSpecs [] []
  last_import_spec : {ts : List Token} {x : t.Import} → IsImport ts x → AreImportSpecs ts (x ∷ [])
  more_import_specs : {ts us : List Token} {x : t.Import} {xs : List t.Import} {u : Token} → IsImport ts x → IsSemicolon u → AreImportSpecs us xs → AreImportSpecs (ts ++ u ∷ us) (x ∷ xs)

-- {"import" Group(Spec) ";"}
pub data AreImports : List Token → List t.Import → Type 0 where
  no_imports : AreImports [] []
  import_one : {ts us : List Token} {x : t.Import} {xs : List t.Import} {u v : Token} → IsWord word.Import u → IsImport ts x → IsSemicolon v → AreImports us xs → AreImports (u ∷ ts ++ v ∷ us) (x ∷ xs)
  import_group : {ts us : List Token} {xs ys : List t.Import} {u v w x : Token} → IsWord word.Import u → IsOp o.LeftParen v → AreImportSpecs ts xs → IsOp o.RightParen w → IsSemicolon x → AreImports us ys → AreImports (u ∷ v ∷ ts ++ w ∷ x ∷ us) (xs ++ ys)

-- Top = Decl | "func" [Params] name Sig Block
pub data IsTop : List Token → t.Decl → Type 0 where
  top_decl : {ts : List Token} {d : t.Decl} → IsDecl ts d → IsTop ts d
  function_decl : {ts us : List Token} {sig : t.Sig} {b : t.Block} {u v : Token} → IsWord word.Func u → IsName v → IsSig ts sig → IsBlock us b → IsTop (u ∷ v ∷ ts ++ us) (t.FuncDecl u.place (name_of v) sig b)
  method_decl : {rs ts us : List Token} {at : Place} {receiver : t.Params} {sig : t.Sig} {b : t.Block} {u w : Token} → IsWord word.Func u → AreParams rs at receiver → IsName w → IsSig ts sig → IsBlock us b → IsTop (u ∷ rs ++ w ∷ ts ++ us) (t.MethodDecl u.place at receiver (name_of w) sig b)

-- {Top ";"}
pub data AreTops : List Token → List t.Decl → Type 0 where
  no_tops : AreTops [] []
  more_tops : {ts us : List Token} {d : t.Decl} {ds : List t.Decl} {u : Token} → IsTop ts d → IsSemicolon u → AreTops us ds → AreTops (ts ++ u ∷ us) (d ∷ ds)

-- the tokens of a file are this tree
pub data IsFile : List Token → t.File → Type 0 where
  file : {ts us : List Token} {imports : List t.Import} {decls : List t.Decl} {u v w x : Token} → IsWord word.Package u → IsName v → IsSemicolon w → AreImports ts imports → AreTops us decls → IsEnd x → IsFile (u ∷ v ∷ w ∷ ts ++ us ++ x ∷ []) (record { «package» = name_of v; imports = imports; decls = decls })
