-- Bytes kept in memory.
use Rattle.std.specs.Prelude.{ℕ, ◌+◌, ◌≡◌, Contains, List, ◌++◌, take}
use Rattle.sn_edge.specs.declared.sink.Put.{Put}
use Rattle.sn_edge.specs.declared.sink.Put.TheVariants.{All, Failed, NoMemory}

-- the bytes taken, the numbers of the calls that fail, how many bytes such a call keeps, and the counts
pub record SinkState : Type 0 where
  pub bytes : List ℕ
  pub failing : List ℕ
  pub kept : ℕ
  pub calls : ℕ
  pub faults : ℕ

-- A put counts itself and takes its piece, or the first bytes of it where it fails; without memory it leaves all as it was.
abbrev pub after_put : SinkState → List ℕ → Put → SinkState
after_put old piece All = record old { bytes = old.bytes ++ piece; calls = old.calls + 1 }
after_put old piece Failed = record old {
  bytes = old.bytes ++ take old.kept piece;
  calls = old.calls + 1;
  faults = old.faults + 1;
}
after_put old piece NoMemory = old

-- a put of a piece answers so and leaves this
pub record IsPut (old : SinkState) (piece : List ℕ) (answer : Put) (new : SinkState) : Type 0 where
  pub failing : answer ≡ Failed → Contains old.failing old.calls
  pub all : answer ≡ All → ¬ Contains old.failing old.calls
  pub next : new ≡ after_put old piece answer
