-- Ranks of packages: an import has a lower one, so none leads back.
use Rattle.std.proofs.Common.{refl, sym, ap, ◌∙◌, subst, arith}
use Rattle.std.specs.Prelude.{◌≡◌, ℕ, List, [], ◌∷◌, Bool, true, false, if◌then◌else◌, bytes_eq, Option, Some, Contains, All}
use Rattle.std.specs.List.{AllByRecursion}
use Rattle.go_type.proofs.PlaceLemmas.{bytes_one}
use Rattle.go_core.specs.declared.program.PackageRow as declared
use Rattle.go_core.specs.declared.program.Program.{Program}
use Rattle.go_core.specs.CoreTree.{PackageRow}
use Rattle.go_core.specs.CoreView.{func_number, package_row_view, program_view}
use Rattle.go_core.specs.SoundProgram.{Imports, LeadsToPackage, at_once, through, IsPlainFunc, SoundPackage}
use Rattle.go_is_sound.specs.Imports.{IsBelow, ImportsBelow, rank}
use Rattle.go_is_sound.specs.Packages.{HasInits}
use Rattle.go_is_sound.proofs.ListLemmas.{here, later, some_one, contains_of_map, each_got, each_there, all_mapped}

-- a package with a rank is there
row_of_rank : (rows : List PackageRow) (ranks path : List ℕ) (k : ℕ) → rank rows ranks path ≡ Some k → (r : PackageRow) × Contains rows r × (r.path ≡ path)
row_of_rank [] ranks path k h = absurd (cc)
row_of_rank (r ∷ rs) [] path k h = absurd (cc)
row_of_rank (r ∷ rs) (n ∷ ns) path k h = by_test (bytes_eq r.path path) refl h (row_of_rank rs ns path k)
  where
    by_test : (b : Bool) → bytes_eq r.path path ≡ b → (if b then Some n else rank rs ns path) ≡ Some k → (rank rs ns path ≡ Some k → (x : PackageRow) × Contains rs x × (x.path ≡ path))
        → (x : PackageRow) × Contains (r ∷ rs) x × (x.path ≡ path)
    by_test true e g f = (r, here r rs, bytes_one r.path path e)
    by_test false e g f = let x = f g in (x.0, later r x.0 rs x.1, x.2)

one_rank : (x y : ℕ) (o : Option ℕ) → o ≡ Some x → o ≡ Some y → x ≡ y
one_rank x y o h k = some_one x y (sym h ∙ k)

module _ (p : Program) (ranks : List ℕ) (h : AllByRecursion (ImportsBelow (program_view p).packages ranks) p.packages.items.items) where
  imports_lower : (a b : List ℕ) → Imports (program_view p) a b → IsBelow (program_view p).packages ranks b a
  imports_lower a b i =
      let g = contains_of_map package_row_view p.packages.items.items i.0 i.1 in
      let m : ImportsBelow (program_view p).packages ranks g.0 = each_got (ImportsBelow (program_view p).packages ranks) p.packages.items.items g.1 g.0 h g.2 in
      let c : Contains g.0.imports.items.items b = subst (λ (r : PackageRow). Contains r.imports b) (sym g.3) i.3 in
      subst (λ (x : List ℕ). IsBelow (program_view p).packages ranks b x) (ap (λ (r : PackageRow). r.path) g.3 ∙ i.2)
      (each_there (λ (path : List ℕ). IsBelow (program_view p).packages ranks path g.0.path) g.0.imports.items.items b m c)

  lower : (a b c : List ℕ) → IsBelow (program_view p).packages ranks b a → IsBelow (program_view p).packages ranks c b → IsBelow (program_view p).packages ranks c a
  lower a b c x y = record {
    low = y.low;
    high = x.high;
    has_low = y.has_low;
    has_high = x.has_high;
    less = let e : x.low ≡ y.high = one_rank x.low y.high (rank (program_view p).packages ranks b) x.has_low y.has_high in omega (arith, e, x.less, y.less);
  }

  leads_lower : (a b : List ℕ) → LeadsToPackage (program_view p) a b → IsBelow (program_view p).packages ranks b a
  leads_lower a b (at_once _ _ i) = imports_lower a b i
  leads_lower a c (through _ b _ i l) = lower a b c (imports_lower a b i) (leads_lower b c l)

  no_way_back : (a : List ℕ) → LeadsToPackage (program_view p) a a → ⊥
  no_way_back a l =
      let x = leads_lower a a l in
      let e : x.low ≡ x.high = one_rank x.low x.high (rank (program_view p).packages ranks a) x.has_low x.has_high in
      omega (arith, e, x.less)

  inits_of : (row : declared.PackageRow) → HasInits p row → All (IsPlainFunc (program_view p)) (package_row_view row).inits
  inits_of row g = all_mapped (IsPlainFunc (program_view p)) func_number row.inits.items.items g

  package_of : (row : declared.PackageRow) → ImportsBelow (program_view p).packages ranks row → HasInits p row → SoundPackage (program_view p) (package_row_view row)
  package_of row m g = record {
    inits_fit = inits_of row g;
    imports_known = λ path c.
        let x = each_there (λ (q : List ℕ). IsBelow (program_view p).packages ranks q row.path) row.imports.items.items path m c in
        row_of_rank (program_view p).packages ranks path x.low x.has_low;
    no_cycle = no_way_back row.path;
  }

  each_package : (rs : List declared.PackageRow) → AllByRecursion (ImportsBelow (program_view p).packages ranks) rs → AllByRecursion (HasInits p) rs
      → AllByRecursion (λ (r : declared.PackageRow). SoundPackage (program_view p) (package_row_view r)) rs
  each_package [] m g = tt
  each_package (r ∷ rs) m g = (package_of r m.0 g.0, each_package rs m.1 g.1)

  pub all_packages : AllByRecursion (HasInits p) p.packages.items.items → All (SoundPackage (program_view p)) (program_view p).packages
  all_packages g = all_mapped (SoundPackage (program_view p)) package_row_view p.packages.items.items (each_package p.packages.items.items h g)
