-- A loop on a satisfiable path has a packet that goes round for ever.
use Rattle.std.proofs.Common.{◌≡◌, ◌∙◌, ℕ, suc, inl, inr, List, [], ◌∷◌, sym, subst}
use Rattle.std.specs.List.{AllByRecursion}
use Rattle.refutation_check.specs.declared.outcome.Verdict.TheVariants.{Sat, Undecided}
use Rattle.net_check.specs.Network.{Network, Entry}
use Rattle.exact_records.specs.Exact.{IsGood}
use Rattle.exact_records.specs.Packets.{HasPacket, IsExplored}
use Rattle.exact_records.specs.Records.{RecordTree, SymStart, decisions_of, path, pruned, unexplored}
use Rattle.loop_meaning.specs.declared.answer.LoopAnswer.{LoopAnswer}
use Rattle.loop_meaning.specs.declared.answer.LoopAnswer.TheVariants.{Loop, Open}
use Rattle.loop_meaning.specs.Answers.{CutPath}
use Rattle.loop_meaning.specs.Ends.{CutPathsArrive}
use Rattle.loop_meaning.specs.Loops.{IsRight}
use Rattle.loop_check.specs.Finding.{AreFound, AreRight, IsCutRecord}
use Rattle.loops_command.specs.Endless.{GoesRound}
use Rattle.loops_command.proofs.OnceLemmas.{cut_path, ok_same}

module _ (net : Network) (i : Entry) (hops : ℕ) (arrive : CutPathsArrive net i hops) (start : SymStart) (explored : IsExplored net i hops start) where
  round : (x : RecordTree) (answer : LoopAnswer) → IsCutRecord x → IsGood start x → HasPacket net i hops x → IsRight net i hops (decisions_of x) answer
      → GoesRound net i hops x answer
  round (path ds places end' fields (Sat values)) (Loop first) cut good packet right =
      let same : start ≡ right.start = ok_same (sym explored ∙ right.explored) in
      let own = cut_path net i hops arrive start explored (path ds places end' fields (Sat values)) cut good in
      right.holds (subst (λ (s : SymStart). CutPath s ds) same own) values packet
  round (path ds places end' fields (Sat values)) (Open differs) cut good packet right = tt
  round (path ds places end' fields (Undecided cause)) answer cut good packet right = tt
  round (pruned ds before refutation) answer cut good packet right = tt
  round (unexplored ds) answer cut good packet right = tt

  pub all_round : (number : ℕ) (xs : List RecordTree) (found : List (ℕ × LoopAnswer)) → AllByRecursion (IsGood start) xs
      → AllByRecursion (HasPacket net i hops) xs → AreRight net i hops number xs found → AreFound (GoesRound net i hops) number xs found
  all_round number [] found good packets h = h
  all_round number (x ∷ xs) found good packets (inl h) =
      inl (record {
        cut = h.cut;
        answer = h.answer;
        rest = h.rest;
        is = h.is;
        so = round x h.answer h.cut good.0 packets.0 h.so;
        others = all_round (suc number) xs h.rest good.1 packets.1 h.others;
      })
  all_round number (x ∷ xs) found good packets (inr h) = inr (h.0, all_round (suc number) xs found good.1 packets.1 h.1)
