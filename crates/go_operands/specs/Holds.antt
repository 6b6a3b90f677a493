-- Own: the declarations that the code's scopes hold.
use Rattle.std.specs.Prelude.{ℕ, List, map, Vec}
use Rattle.std.specs.declared.alloc.Global.{Global}
use Rattle.go_operands.specs.declared.scopes.declared.Declaration.{Declaration}
use Rattle.go_operands.specs.declared.scopes.scope.Scope.{Scope}
use Rattle.go_operands.specs.declared.scopes.blocks.Blocks.{Blocks}
use Rattle.go_operands.specs.declared.scopes.packages.Packages.{Packages}
use Rattle.go_operands.specs.Held.{Held, HeldPackage}

abbrev pub held_of : Vec ℕ Global × Declaration → Held
held_of e = record { name = e.0.items; place = e.1.place; what = e.1.what }

-- the declarations of a scope, in order
abbrev pub held : Scope → List Held
held s = map held_of s.binds.entries

abbrev pub held_blocks : Blocks → List (List Held)
held_blocks b = map held b.scopes.items

abbrev pub held_package : Vec ℕ Global × Scope → HeldPackage
held_package e = record { path = e.0.items; binds = held e.1 }

abbrev pub held_packages : Packages → List HeldPackage
held_packages p = map held_package p.scopes.entries
