-- Which packets a loop has.
use Rattle.std.specs.Prelude.{ℕ, ◌<◌}
use Rattle.refutation_check.specs.declared.outcome.Verdict.TheVariants.{Sat}
use Rattle.net_check.specs.Network.{Network, Entry}
use Rattle.exact_records.specs.Records.{RecordTree, path}
use Rattle.loop_meaning.specs.declared.answer.LoopAnswer.{LoopAnswer}
use Rattle.loop_meaning.specs.declared.answer.LoopAnswer.TheVariants.{Loop}
use Rattle.loop_meaning.specs.Loops.{GoesOn}

-- where the path is satisfiable and a loop, its packet goes round for ever: with any more hops it has a walk that is cut and goes by the path's
-- decisions first
abbrev pub GoesRound : Network → Entry → ℕ → RecordTree → LoopAnswer → Type 0
GoesRound net i hops (path ds places end' fields (Sat values)) (Loop first) = (more : ℕ) → hops < more → GoesOn net i hops values more ds
GoesRound net i hops _ _ = Unit {0}
