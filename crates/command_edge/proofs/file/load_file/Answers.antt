use Rattle.std.proofs.Common.{◌≡◌, ◌≤◌, refl, subst, sym, ℕ, List, length, IfOk, Some}
use Rattle.std.specs.Option.{ForSome}
use Rattle.sn_edge.specs.Loaded.{IfBytes}
use Rattle.sn_edge.specs.Told.{FolderKept, FolderTold}
use Rattle.sn_edge.specs.declared.folder.Loaded.{Loaded}
use Rattle.sn_edge.specs.declared.folder.Loaded.TheVariants.{Bytes, Absent, TooBig, Failed, NoMemory}
use Rattle.command_edge.specs.Files.{IsLoaded, bytes_of}
use Rattle.command_edge.proofs.file.load_file.Goals as goal

-- what a load answers, as bytes
loaded_of : {S : Type 0} (told : S → FolderTold) (gives : S → List ℕ → ℕ → Loaded → S → Type 0) (limit : ℕ) (name : List ℕ) (u v : S) (own : List ℕ) (answer : Loaded)
    → gives u name limit answer v → FolderKept (told u) (told v) → IfBytes answer (λ bytes. length bytes ≤ limit)
    → IfBytes answer (λ bytes. ForSome (told u).files (λ at. at name ≡ Some bytes)) → IfOk (bytes_of answer own) (λ bytes. IsLoaded told gives limit name u bytes.items v)
loaded_of told gives limit name u v own (Bytes bytes) answered kept within is =
    record { answer = bytes; answered = answered; is = refl; file = (within, is); kept = kept }
loaded_of told gives limit name u v own Absent answered kept within is = tt
loaded_of told gives limit name u v own TooBig answered kept within is = tt
loaded_of told gives limit name u v own Failed answered kept within is = tt
loaded_of told gives limit name u v own NoMemory answered kept within is = tt

pub returns-clause-loaded : goal.returns-clause-loaded
returns-clause-loaded g c =
    subst (λ result. IfOk result (λ bytes. IsLoaded g.F.Folder.told g.F.Folder.load_gives c.args.limit c.args.name.now c.args.folder.now bytes.items c.load.new.self)) (sym c.bytes_of.ensures)
    (loaded_of g.F.Folder.told g.F.Folder.load_gives c.args.limit c.args.name.now c.args.folder.now c.load.new.self _ c.load.result
    c.load.ensures.gives c.load.ensures.kept c.load.ensures.within c.load.ensures.bytes)
