-- What comes of files that were read, answer by answer; only private clauses cite this file.
use Rattle.std.specs.Prelude.{◌≡◌, ◌<◌, List, [], Result, Ok, Err, length}
use Rattle.go_load.specs.Load.{IsFaultOf, ArePackages}
use Rattle.go_load.specs.declared.sources.FileEntry.{FileEntry}
use Rattle.go_load.specs.declared.packages.Packages.{Packages}
use Rattle.go_load.specs.declared.packages.LoadRefusal.{LoadRefusal}
use Rattle.go_load.specs.declared.packages.LoadRefusal.TheVariants.{Fault, ReadFault, NoMemory}

abbrev pub Judges : Result Packages LoadRefusal → List FileEntry → Type 0
Judges (Ok packages) entries = (packages.files ≡ entries) × (0 < length entries) × ArePackages packages
Judges (Err (Fault fault others)) entries = (others ≡ entries) × (0 < length entries) × IsFaultOf entries fault
Judges (Err ReadFault) entries = entries ≡ []
Judges (Err NoMemory) entries = Unit {0}
