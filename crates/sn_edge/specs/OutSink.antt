-- The output of the program as a sink.
use Rattle.std.specs.Prelude.{ℕ, ◌≡◌, ◌<◌, List, Option}
use Rattle.std.specs.Io.KnownBytes.{append_known}
use Rattle.sn_edge.specs.declared.sink.Put.{Put}
use Rattle.sn_edge.specs.Pieces.{IsPrefix}
use Rattle.sn_edge.specs.Put.{OnAll, OnFailed, OnNoMemory}

-- the output, and how often a put failed
pub record OutState (W : Type 0) : Type 0 where
  pub output : W
  pub faults : ℕ

-- A put of a piece answers so and leaves this, by what outputs tell of what they hold: at All it holds the piece more, at Failed a beginning of it.
pub record IsOutPut {W : Type 0} (contents : W → Option (List ℕ)) (old : OutState W) (piece : List ℕ) (answer : Put) (new : OutState W) : Type 0 where
  pub all : OnAll answer (contents new.output ≡ append_known (contents old.output) piece)
  pub part : (part : List ℕ) × IsPrefix part piece × (contents new.output ≡ append_known (contents old.output) part)
  pub nothing : OnNoMemory answer (new ≡ old)
  pub failed : OnFailed answer (old.faults < new.faults)
