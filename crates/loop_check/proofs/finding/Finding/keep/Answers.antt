use Rattle.std.proofs.Common.{◌++◌, ◌∷◌, [], List, length-append, sym, subst, arith, ℕ}
use Rattle.loop_meaning.specs.declared.answer.LoopAnswer.{LoopAnswer}
use Rattle.path_questions.specs.Deciding.{entry_of, net_of}
use Rattle.symbolic_engine.specs.Finds.{found_tree}
use Rattle.loop_check.specs.Finding.{AreFound, IsAnswerTo}
use Rattle.loop_check.proofs.Found.{found_with}
use Rattle.loop_check.proofs.finding.Finding.keep.Goals as goal

pub returns-clause-keeps : goal.returns-clause-keeps
returns-clause-keeps g c = λ xs counted found.
    let s = c.args.self.now.subject in
    let old = c.args.self.now in
    let x = found_tree c.args.found.now c.args.decisions.now in (
      omega (arith, counted, c.in-Some.ensures.1, length-append xs (x ∷ [])),
      subst (λ (fs : List (ℕ × LoopAnswer)). AreFound (IsAnswerTo (net_of s) (entry_of s) s.hops) 0 (xs ++ x ∷ []) fs) (sym c.in_ok-note.ensures.notes)
          (found_with (net_of s) (entry_of s) s.hops xs x old.count old.found.items c.in_ok-answer.answer counted found c.in_ok-answer.ensures),
    )
