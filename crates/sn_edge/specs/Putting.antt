-- What a sink takes of a text that is put in pieces.
use Rattle.std.specs.Prelude.{ℕ, ◌≡◌, ◌⊎◌, List, [], ◌∷◌, ◌++◌}
use Rattle.std.specs.List.{concat}
use Rattle.std.specs.Io.KnownBytes.{append_known}
use Rattle.sn_edge.specs.Pieces.{IsPrefix}
use Rattle.sn_edge.specs.Told.{SinkTold}
use Rattle.sn_edge.specs.declared.sink.Put.{Put}
use Rattle.sn_edge.specs.declared.sink.Put.TheVariants.{All, Failed, NoMemory}

-- by what sinks tell, and what one put may answer and leave
module _ {S : Type 0} (told : S → SinkTold) (gives : S → List ℕ → Put → S → Type 0) where
  -- these pieces were put in order, and each was taken whole
  abbrev pub AllPut : S → List (List ℕ) → S → Type 0
  AllPut u [] v = v ≡ u
  AllPut u (piece ∷ pieces) v = (m : S) × gives u piece All m × AllPut m pieces v

  -- the bytes were put in pieces, each of which was taken whole, and nothing else was put
  pub record Takes (u : S) (bytes : List ℕ) (v : S) : Type 0 where
    pub pieces : List (List ℕ)
    pub joined : concat pieces ≡ bytes
    pub puts : AllPut u pieces v
    pub taken : (told v).taken ≡ append_known (told u).taken bytes

  -- pieces were put so, and behind them one that failed, a beginning of which was taken
  pub record TakesPart (u : S) (bytes : List ℕ) (v : S) : Type 0 where
    pub whole : List ℕ
    pub before : S
    pub takes : Takes u whole before
    pub piece : List ℕ
    pub fails : gives before piece Failed v
    pub part : List ℕ
    pub begins : IsPrefix part piece
    pub is : bytes ≡ whole ++ part
    pub taken : (told v).taken ≡ append_known (told u).taken bytes

  -- pieces were put so, and behind them none, or one for which there was no memory
  pub record TakesUntil (u : S) (bytes : List ℕ) (v : S) : Type 0 where
    pub before : S
    pub takes : Takes u bytes before
    pub rest : (v ≡ before) ⊎ ((piece : List ℕ) × gives before piece NoMemory v × ((told v).taken ≡ (told before).taken))
