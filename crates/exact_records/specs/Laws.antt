-- What the laws of exact records say.
use Rattle.std.specs.Prelude.{ℕ, ◌≡◌, ◌<◌, ◌≤◌, ◌↔◌, List, [], ◌∷◌, ◌++◌, length, Option, None, Some}
use Rattle.std.specs.List.{AllByRecursion}
use Rattle.lin_term.specs.Terms.{LinearTerm}
use Rattle.path_formula.specs.Formulas.{FormulaTree}
use Rattle.path_cond.specs.Seen.{AllTyped, itself}
use Rattle.refutation_check.specs.declared.outcome.Verdict.{Verdict}
use Rattle.refutation_check.specs.declared.steps.Refute.{Refute}
use Rattle.sefl_meaning.specs.declared.walk.Decision.{Decision}
use Rattle.sefl_meaning.specs.declared.walk.End.{End}
use Rattle.sefl_meaning.specs.Network.{Network, Entry}
use Rattle.sefl_meaning.specs.Carried.{Carried}
use Rattle.sefl_meaning.specs.Injected.{Starts, passages_from}
use Rattle.sefl_meaning.specs.Walks.{Passage}
use Rattle.sefl_meaning.specs.Courses.{Asking, Progress}
use Rattle.sefl_meaning.specs.Trees.{over, tests, splits, Copies}
use Rattle.sefl_meaning.specs.Fields.{fields_of}
use Rattle.sefl_meaning.specs.Order.{Has, Parts}
use Rattle.exact_records.specs.Records.{HasMeaning, IsFoundRefuted, IsVerdictOn, RecordTree, SymCondition, SymStart, SymTree, Takes, decisions_of, path, pruned, unexplored}
use Rattle.exact_records.specs.Exact.{AreExact, AreExactSoFar, AreExactUpTo, IsTried, IsUnexplored}
use Rattle.exact_records.specs.Packets.{AreExactFor, AreExactSoFarFor, AreExactUpToFor, HasPacket, HasWalk, IsAlong, IsExplored, IsNotTaken}
use Rattle.exact_records.specs.Points.{Arrives, IsBefore, IsKnown, Known, Point, Stands, Obligation, condition_at, copy_obligations, decided, filled_verdict, first_point, side_obligations, to_decide}

-- each step of an exploration keeps that the records and the obligations stand for the whole
pub record StepsStand (s : SymStart) : Type 0 where
  -- nothing is done, and the whole is left
  pub begins : (limit : ℕ) → Stands s limit [] ((first_point s, to_decide None) ∷ [])
  -- the condition was decided, and is not refuted
  pub decides : (limit : ℕ) (done : List RecordTree) (a : Point) (before : Option Verdict) (verdict : Verdict) (rest : List Obligation)
      → AllTyped itself a.widths (condition_at s a).entries → IsVerdictOn (condition_at s a) verdict
      → Stands s limit done ((a, to_decide before) ∷ rest) → Stands s limit done ((a, decided verdict) ∷ rest)
  -- it is refuted
  pub prunes : (limit : ℕ) (done : List RecordTree) (a : Point) (before written : Option Verdict) (refutation : List Refute) (rest : List Obligation)
      → length done < limit → IsBefore s a before written → IsFoundRefuted (condition_at s a) refutation
      → Stands s limit done ((a, to_decide before) ∷ rest) → Stands s limit (done ++ pruned a.decisions written refutation ∷ []) rest
  -- the run is over at its next node
  pub ends : (limit : ℕ) (done : List RecordTree) (a b : Point) (verdict written : Verdict) (p : Progress LinearTerm) (end' : End) (rest : List Obligation)
      → length done < limit → Arrives s a b → b.tree ≡ over p end' → IsVerdictOn (condition_at s b) written
      → Stands s limit done ((a, decided verdict) ∷ rest) → Stands s limit (done ++ path b.decisions b.places end' (fields_of p.state) written ∷ []) rest
  -- it asks a test there
  pub asks : (limit : ℕ) (done : List RecordTree) (a b : Point) (verdict : Verdict) (asking : Asking) (p : Progress LinearTerm) (test : FormulaTree)
      (held broken : SymTree) (rest : List Obligation) → length done < limit → Arrives s a b → b.tree ≡ tests asking p test held broken
      → Stands s limit done ((a, decided verdict) ∷ rest) → Stands s limit done (side_obligations b verdict asking test held broken ++ rest)
  -- it splits there
  pub forks : (limit : ℕ) (done : List RecordTree) (a b : Point) (verdict : Verdict) (p : Progress LinearTerm) (branches : Copies LinearTerm FormulaTree)
      (rest : List Obligation) → length done < limit → Arrives s a b → b.tree ≡ splits p branches
      → Stands s limit done ((a, decided verdict) ∷ rest) → Stands s limit done (copy_obligations b verdict 0 branches ++ rest)
  -- at the limit, the obligation is left
  pub leaves : (limit : ℕ) (done : List RecordTree) (a : Point) (known : Known) (rest : List Obligation) → limit ≤ length done
      → Stands s limit done ((a, known) ∷ rest) → Stands s limit (done ++ unexplored a.decisions ∷ []) rest

-- what is known stays known, and can be written
pub record VerdictsStay (s : SymStart) : Type 0 where
  -- at the next node
  pub next : (a b : Point) (verdict : Verdict) → Arrives s a b → IsKnown (condition_at s a) verdict → IsKnown (condition_at s b) verdict
  -- with zeros for the symbols that came since
  pub written : (c : SymCondition) (verdict : Verdict) → IsKnown c verdict → IsVerdictOn c (filled_verdict (length c.widths) verdict)
  pub before : (a : Point) (verdict : Verdict) → IsBefore s a (Some verdict) (Some (filled_verdict (length a.widths) verdict))

-- records that stand are exact: so far at each moment, and all in the end
pub record StandingIsExact (s : SymStart) : Type 0 where
  pub so_far : (limit : ℕ) (done : List RecordTree) (obligations : List Obligation) → Stands s limit done obligations → AreExactSoFar s limit done
  pub up_to : (limit : ℕ) (done : List RecordTree) (last : RecordTree) (obligations : List Obligation) → Stands s limit (done ++ last ∷ []) obligations → AreExactUpTo s limit done last
  -- nothing is left, and nothing was left out
  pub whole : (limit : ℕ) (done : List RecordTree) → Stands s limit done [] → AllByRecursion IsTried done → length done ≤ limit → AreExact s limit done
  -- nothing is left but what was left out, behind as many records as the limit allows
  pub partial : (limit : ℕ) (done : List RecordTree) (last : RecordTree) (left : List RecordTree) → Stands s limit ((done ++ last ∷ []) ++ left) []
      → AllByRecursion IsTried (done ++ last ∷ []) → length (done ++ last ∷ []) ≡ limit → AllByRecursion IsUnexplored left → (left ≡ [] → ⊥)
      → AreExact s limit ((done ++ last ∷ []) ++ left)
  -- the last record comes before the next obligation
  pub apart : (limit : ℕ) (done : List RecordTree) (last : RecordTree) (obligation : Obligation) (obligations : List Obligation)
      → Stands s limit (done ++ last ∷ []) (obligation ∷ obligations) → Parts (decisions_of last) obligation.0.decisions

-- what holds for the packets of the net, of what is explored there
module _ (net : Network) (i : Entry) (hops : ℕ) where
  -- the decisions that values take are those of the walks of this packet
  abbrev pub PacketsTakeRoutes : Type 0
  PacketsTakeRoutes = (start : SymStart) → IsExplored net i hops start → (v : List ℕ) (ds : List Decision)
      → Takes start v ds ↔ HasWalk net i hops v ds

  -- each passage of a packet is along the route of its decisions
  abbrev pub PassagesTakeRoutes : Type 0
  PassagesTakeRoutes = (start : SymStart) → IsExplored net i hops start → (v : List ℕ) (s : Carried ℕ) → Starts net i v s
      → (u : Passage) → Has (passages_from net i v hops s) u → IsAlong start v u

  -- a path with values has a packet that takes it, and no packet takes a refuted side
  abbrev pub RecordsTellPackets : Type 0
  RecordsTellPackets = (start : SymStart) → IsExplored net i hops start → (x : RecordTree) → HasMeaning start x
      → HasPacket net i hops x × IsNotTaken net i hops x

  -- records that are exact of what is explored show the walks of all packets
  pub record ExactRecordsShowWalks : Type 0 where
    pub exact : (start : SymStart) (limit : ℕ) (rs : List RecordTree) → IsExplored net i hops start → AreExact start limit rs
        → AreExactFor net i hops limit rs
    pub up_to : (start : SymStart) (limit : ℕ) (done : List RecordTree) (last : RecordTree) → IsExplored net i hops start
        → AreExactUpTo start limit done last → AreExactUpToFor net i hops limit done last
    pub so_far : (start : SymStart) (limit : ℕ) (rs : List RecordTree) → IsExplored net i hops start → AreExactSoFar start limit rs
        → AreExactSoFarFor net i hops limit rs
