-- From what an observer finds to the loops of a job, and what of it is written.
use Rattle.std.proofs.Common.{◌≡◌, ◌∙◌, ◌+◌, ◌<◌, ℕ, List, [], ◌∷◌, ◌++◌, length, map, drop, get_or, refl, sym, ap, subst, append_assoc, arith, Ok}
use Rattle.std.proofs.lemmas.List.{drop_more}
use Rattle.net_check.specs.Network.{Network, Entry}
use Rattle.exact_records.specs.Packets.{AreExactFor}
use Rattle.exact_records.specs.Records.{RecordTree}
use Rattle.path_exec.specs.declared.exploration.Ended.{Ended}
use Rattle.path_exec.specs.declared.exploration.Ended.TheVariants as ended
use Rattle.path_exec.specs.Handing.{Handed}
use Rattle.path_exec.specs.Receiving.{Receiving}
use Rattle.path_questions.specs.declared.subject.Subject.{Subject}
use Rattle.symbolic_engine.specs.declared.found.Found.{Found}
use Rattle.symbolic_engine.specs.Exploring.{ObservedFor}
use Rattle.symbolic_engine.specs.Finds.{handed_tree}
use Rattle.loop_meaning.specs.declared.answer.LoopAnswer.{LoopAnswer}
use Rattle.loop_check.specs.Finding.{AreFound, AreRight, IsAnswerTo, IsFindingOf}
use Rattle.ask_command.specs.Answering.{ending_of}
use Rattle.loops_command.specs.Loops.{AreLoops}
use Rattle.loops_command.specs.Texts.{loops_in, open_in, with_loop, with_open}

-- ---- what is written

abbrev Answered : Type 0
Answered = ℕ × LoopAnswer

module _ (found : List Answered) (k : ℕ) (f : Answered) (less : k < length found) (at : f ≡ get_or found k f) where
  split : drop k found ≡ f ∷ drop (k + 1) found
  split = drop_more found k f less ∙ ap (λ (g : Answered). g ∷ drop (k + 1) found) (sym at)

  pub loops_split : loops_in (drop k found) ≡ with_loop f.0 f.1 (loops_in (drop (k + 1) found))
  loops_split = ap loops_in split

  pub open_split : open_in (drop k found) ≡ with_open f.0 f.1 (open_in (drop (k + 1) found))
  open_split = ap open_in split

-- ---- what is found

module _ (net : Network) (i : Entry) (hops limit : ℕ)
    (laws : (records : List RecordTree) (found : List Answered) → AreExactFor net i hops limit records → AreFound (IsAnswerTo net i hops) 0 records found → AreRight net i hops 0 records found) where
  -- an exploration shown to an observer that finds loops
  loops_found : (E : Type 0) (m : Receiving (Handed Found)) (subject : Subject) (found : List Answered) (count : ℕ)
      → ((items : List (Handed Found)) → m.StandsFor items → IsFindingOf net i hops subject found count (map handed_tree items))
      → m.stops ≡ 0 → (before after : ℕ) (how : Ended) → ObservedFor net i hops {E = E} limit 0 m before after (Ok how)
      → AreLoops hops limit net i (ending_of how) found
  loops_found E m subject found count stands none before after ended.Whole h = record {
    records = map handed_tree h.items;
    exact = h.exact;
    ends = h.tried;
    right = laws (map handed_tree h.items) found h.exact (stands h.items h.stands).finds;
  }
  loops_found E m subject found count stands none before after ended.Partial h = record {
    records = map handed_tree h.items;
    exact = h.exact;
    ends = h.untried;
    right = laws (map handed_tree h.items) found h.exact (stands h.items h.stands).finds;
  }
  loops_found E m subject found count stands none before after ended.Stopped h =
      let bad : ⊥ = (let c = h.cause in omega (arith, c, none)) in absurd bad

-- the same of an exploration of the net, the injection and the hops that are asked about
pub loops_of_own : (E : Type 0) (net own : Network) (i its : Entry) (hops h limit : ℕ)
    → ((records : List RecordTree) (found : List Answered) → AreExactFor net i hops limit records → AreFound (IsAnswerTo net i hops) 0 records found → AreRight net i hops 0 records found)
    → own ≡ net → its ≡ i → h ≡ hops → (m : Receiving (Handed Found)) (subject : Subject) (found : List Answered) (count : ℕ)
    → ((items : List (Handed Found)) → m.StandsFor items → IsFindingOf net i hops subject found count (map handed_tree items))
    → m.stops ≡ 0 → (before after : ℕ) (how : Ended) → ObservedFor own its h {E = E} limit 0 m before after (Ok how)
    → AreLoops hops limit net i (ending_of how) found
loops_of_own E net own i its hops h limit laws a b e m subject found count stands none before after how explored =
    loops_found net i hops limit laws E m subject found count stands none before after how
    (subst (λ (k : ℕ). ObservedFor net i k {E = E} limit 0 m before after (Ok how)) e
    (subst (λ (x : Entry). ObservedFor net x h {E = E} limit 0 m before after (Ok how)) b
    (subst (λ (n : Network). ObservedFor n its h {E = E} limit 0 m before after (Ok how)) a explored)))
