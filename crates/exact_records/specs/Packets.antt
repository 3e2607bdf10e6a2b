-- What records say of the walks of packets.
use Rattle.std.specs.Prelude.{ℕ, ◌≡◌, ◌⊎◌, List, [], ◌∷◌, ◌++◌, map, Ok}
use Rattle.std.specs.List.{AllByRecursion}
use Rattle.lin_term.specs.Terms.{LinearTerm, value_at}
use Rattle.refutation_check.specs.declared.outcome.Verdict.TheVariants.{Sat, Undecided}
use Rattle.cell_stacks.specs.Valued.{cell_valued}
use Rattle.sefl_meaning.specs.declared.walk.Decision.{Decision}
use Rattle.sefl_meaning.specs.Network.{Network, Entry}
use Rattle.sefl_meaning.specs.Carried.{Carried}
use Rattle.sefl_meaning.specs.Fields.{Fields, fields_of}
use Rattle.sefl_meaning.specs.Injected.{Starts, unknown_count, walks_from}
use Rattle.sefl_meaning.specs.Order.{BeginsWith, Has}
use Rattle.sefl_meaning.specs.Start.{start_of}
use Rattle.sefl_meaning.specs.Valued.{progress_valued}
use Rattle.sefl_meaning.specs.Walks.{Passage, Trail}
use Rattle.term_values.specs.TermValues.{terms}
use Rattle.exact_records.specs.Records.{RecordTree, SymStart, Takes, decisions_of, path, pruned, unexplored}
use Rattle.exact_records.specs.Exact.{AreExact, AreExactUpTo, ExactlyOne, IsUpTo}

-- a function of the values of all cells; what is unset stays so
abbrev pub fields_valued : {V W : Type 0} → (V → W) → Fields V → Fields W
fields_valued f x = record {
  tags = x.tags;
  heads = map (λ head. (head.0, map (cell_valued f) head.1)) x.heads;
  metas = map (λ meta. (meta.0, meta.1, map (cell_valued f) meta.2)) x.metas;
}

-- what terms are at a packet
abbrev pub fields_at : List ℕ → Fields LinearTerm → Fields ℕ
fields_at v fields = fields_valued (λ t. value_at t v) fields

-- the record of a walk of the packet: the path with its decisions, its places, its end and its fields; or one not tried
abbrev pub Shows : List ℕ → Trail → RecordTree → Type 0
Shows v w (path ds places end' fields verdict) =
    (ds ≡ w.decisions) × (places ≡ w.places) × (end' ≡ w.end') × (fields_at v fields ≡ fields_of w.state)
Shows v w (pruned ds before refutation) = ⊥
Shows v w (unexplored ds) = Unit {0}

-- exactly one record has decisions that those of the walk begin with, and it shows the walk
pub record IsShown (v : List ℕ) (w : Trail) (rs : List RecordTree) : Type 0 where
  pub once : ExactlyOne (λ x. BeginsWith (decisions_of x) w.decisions) rs
  pub shown : AllByRecursion (λ x. BeginsWith (decisions_of x) w.decisions → Shows v w x) rs

-- the passage of a packet is what the route of its decisions is at the packet: its arrivals, its end, and what is carried
pub record IsAlong (start : SymStart) (v : List ℕ) (u : Passage) : Type 0 where
  pub takes : Takes start v u.decisions
  pub arrivals : map (λ a. (a.0, progress_valued (λ t. value_at t v) a.1)) takes.way.arrivals ≡ u.arrivals
  pub ended : takes.end' ≡ u.end'
  pub progress : progress_valued (λ t. value_at t v) takes.progress ≡ u.progress

module _ (net : Network) (i : Entry) (hops : ℕ) where
  -- the walk is one of a packet that meets the injection
  abbrev pub IsWalkOf : List ℕ → Trail → Type 0
  IsWalkOf v w = (s : Carried ℕ) × Starts net i v s × Has (walks_from net i v hops s) w

  -- the packet meets the injection, and one of its walks has these decisions
  abbrev pub HasWalk : List ℕ → List Decision → Type 0
  HasWalk v ds = (w : Trail) × IsWalkOf v w × (w.decisions ≡ ds)

  -- the values that a path has are those of a packet, and one of its walks has the path's decisions
  abbrev pub HasPacket : RecordTree → Type 0
  HasPacket (path ds places end' fields (Sat values)) = HasWalk values ds
  HasPacket (path ds places end' fields (Undecided cause)) = Unit {0}
  HasPacket (pruned ds before refutation) = Unit {0}
  HasPacket (unexplored ds) = Unit {0}

  -- no walk of a packet goes by a refuted side
  abbrev pub IsNotTaken : RecordTree → Type 0
  IsNotTaken (path ds places end' fields verdict) = Unit {0}
  IsNotTaken (pruned ds before refutation) = (v : List ℕ) (w : Trail) → IsWalkOf v w → BeginsWith ds w.decisions → ⊥
  IsNotTaken (unexplored ds) = Unit {0}

  -- this is what is explored
  abbrev pub IsExplored : SymStart → Type 0
  IsExplored start = start_of (terms (unknown_count i)) net i hops ≡ Ok start

  -- The records are exact for the net, the injection, the hops and the limit. So each walk of each packet that meets the
  -- injection is shown by exactly one of them, the values of each path are a packet that takes it, and no packet takes a
  -- refuted side.
  pub record AreExactFor (limit : ℕ) (rs : List RecordTree) : Type 0 where
    pub start : SymStart
    pub explored : IsExplored start
    pub exact : AreExact start limit rs
    pub walks : (v : List ℕ) (w : Trail) → IsWalkOf v w → IsShown v w rs
    pub packets : AllByRecursion HasPacket rs
    pub refuted : AllByRecursion IsNotTaken rs

  -- The records until this last one are exact so far: each walk that goes on from the last one, or is not behind it, is shown;
  -- and the limit is kept.
  pub record AreExactUpToFor (limit : ℕ) (done : List RecordTree) (last : RecordTree) : Type 0 where
    pub start : SymStart
    pub explored : IsExplored start
    pub exact : AreExactUpTo start limit done last
    pub walks : (v : List ℕ) (w : Trail) → IsWalkOf v w
        → BeginsWith (decisions_of last) w.decisions ⊎ IsUpTo w.decisions (decisions_of last) → IsShown v w (done ++ last ∷ [])
    pub packets : AllByRecursion HasPacket (done ++ last ∷ [])
    pub refuted : AllByRecursion IsNotTaken (done ++ last ∷ [])

  -- none yet, or exact up to the last one
  pub record AreExactSoFarFor (limit : ℕ) (rs : List RecordTree) : Type 0 where
    pub is : (rs ≡ []) ⊎ ((done : List RecordTree) × (last : RecordTree) × (rs ≡ done ++ last ∷ []) × AreExactUpToFor limit done last)
