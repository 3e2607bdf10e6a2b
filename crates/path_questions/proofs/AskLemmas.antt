-- Words that ask questions, one after another.
use Rattle.std.proofs.Common.{◌≡◌, ◌∙◌, ℕ, ◌+◌, ◌<◌, List, [], ◌∷◌, ◌++◌, length, map, drop, take, get_or, sym, ap, subst, arith}
use Rattle.std.specs.List.{AllByRecursion}
use Rattle.std.proofs.lemmas.List.{length-map, length-take-le, map-append, map_more, take-append-drop, take-map}
use Rattle.sefl_syntax.specs.Trees.{AskTree}
use Rattle.sefl_syntax.specs.Views.{ask_tree}
use Rattle.sefl_syntax.specs.declared.job.Ask.{Ask}
use Rattle.net_check.specs.Network.{Network, Entry}
use Rattle.path_questions.specs.declared.placing.AskFault.{AskFault}
use Rattle.path_questions.specs.declared.question.Question.{Question}
use Rattle.path_questions.specs.Asked.{AreAsked, AsksSome, IsAsked, IsBadAsk, IsFault, question_seen}
use Rattle.path_questions.proofs.FieldLemmas.{next_is}

module _ (net : Network) (i : Entry) where
  asked_more : (ws : List AskTree) (qs : List Question) (a : AskTree) (q : Question) → AreAsked net i ws qs → IsAsked net i a q → AreAsked net i (ws ++ a ∷ []) (qs ++ q ∷ [])
  asked_more [] [] a q h k = (k, tt)
  asked_more [] (p ∷ qs) a q h k = absurd h
  asked_more (b ∷ ws) [] a q h k = absurd h
  asked_more (b ∷ ws) (p ∷ qs) a q h k = (h.0, asked_more ws qs a q h.1 k)

  some_of : (ws : List AskTree) (qs : List Question) → AreAsked net i ws qs → AllByRecursion (AsksSome net i) ws
  some_of [] [] h = tt
  some_of [] (p ∷ qs) h = absurd h
  some_of (b ∷ ws) [] h = absurd h
  some_of (b ∷ ws) (p ∷ qs) h = ((question_seen p, h.0), some_of ws qs h.1)

  module _ (asks : List Ask) (n : ℕ) (ask : Ask) (less : n < length asks) (is : ask ≡ get_or asks n ask) (qs : List Question)
      (asked : AreAsked net i (take n (map ask_tree asks)) qs) where
    pub asked_next : (q : Question) (now : List Question) → now ≡ qs ++ q ∷ [] → IsAsked net i (ask_tree ask) q → AreAsked net i (take (n + 1) (map ask_tree asks)) now
    asked_next q now e k =
        let more : take (n + 1) (map ask_tree asks) ≡ take n (map ask_tree asks) ++ ask_tree ask ∷ [] =
        take-map ask_tree (n + 1) asks ∙ (map_more ask_tree asks n ask less
        ∙ (ap (λ ws. ws ++ ask_tree (get_or asks n ask) ∷ []) (sym (take-map ask_tree n asks))
        ∙ ap (λ (a : Ask). take n (map ask_tree asks) ++ ask_tree a ∷ []) (sym is))) in
        subst (λ ws. AreAsked net i ws now) (sym more)
        (subst (AreAsked net i (take n (map ask_tree asks) ++ ask_tree ask ∷ [])) (sym e) (asked_more (take n (map ask_tree asks)) qs (ask_tree ask) q asked k))

    whole : map ask_tree asks ≡ take n (map ask_tree asks) ++ ask_tree ask ∷ map ask_tree (drop (n + 1) asks)
    whole =
        ap (map ask_tree) (sym (take-append-drop n asks))
        ∙ (map-append ask_tree (take n asks) (drop n asks)
        ∙ (ap (λ xs. xs ++ map ask_tree (drop n asks)) (sym (take-map ask_tree n asks))
        ∙ ap (λ (xs : List Ask). take n (map ask_tree asks) ++ map ask_tree xs) (next_is asks n ask less is)))

    pub bad_here : (number : ℕ) (fault : AskFault) → number ≡ n → IsFault net i (ask_tree ask) fault → IsBadAsk net i (map ask_tree asks) number fault
    bad_here number fault e h =
        let size : length (take n (map ask_tree asks)) ≡ n = length-take-le n (map ask_tree asks) (let l = length-map asks ask_tree in omega (arith, less, l)) in
        record {
          front = take n (map ask_tree asks);
          bad = ask_tree ask;
          rest = map ask_tree (drop (n + 1) asks);
          is = whole;
          numbered = e ∙ sym size;
          good = some_of (take n (map ask_tree asks)) qs asked;
          fault_is = h;
        }
