-- One question over a list of records.
use Rattle.std.proofs.Common.{◌≡◌, ◌∙◌, ℕ, zero, suc, ◌+◌, ◌<◌, ◌≤◌, arith, List, [], ◌∷◌, ◌++◌, length, take, get_or, refl, sym, ap, subst}
use Rattle.std.proofs.lemmas.List.{length-map, length-take-le, map_more}
use Rattle.sefl_syntax.specs.Trees.{AskTree, reach, invariant, visible}
use Rattle.net_check.specs.Network.{Network, Entry}
use Rattle.path_records.specs.declared.records.Record.{Record}
use Rattle.exact_records.specs.Packets.{AreExactFor}
use Rattle.exact_records.specs.Records.{RecordTree}
use Rattle.exact_records.specs.View.{record_tree, record_trees}
use Rattle.path_questions.specs.Laws.{IsOfInjection, KeptIsRight}
use Rattle.path_questions.specs.Placing.{Asks}
use Rattle.path_questions.specs.Questions.{Question}
use Rattle.path_questions.specs.Questions as questions
use Rattle.path_questions.specs.Telling.{IsKept, Outcome, left_open, saying}
use Rattle.queries.specs.Answers.{IsAnswerTo, Reply, reply_of}

-- the field of a question is one of the injection
pub own_of : (net : Network) (i : Entry) (ask : AskTree) (q : Question) → Asks net i ask q → IsOfInjection net i q
own_of net i (reach raw test) (questions.reach place own) h = tt
own_of net i (reach raw test) (questions.invariant place field) h = absurd h
own_of net i (reach raw test) (questions.visible place field) h = absurd h
own_of net i (invariant target raw) (questions.reach place own) h = absurd h
own_of net i (invariant target raw) (questions.invariant place field) h = (target, h.2)
own_of net i (invariant target raw) (questions.visible place field) h = absurd h
own_of net i (visible target raw) (questions.reach place own) h = absurd h
own_of net i (visible target raw) (questions.invariant place field) h = absurd h
own_of net i (visible target raw) (questions.visible place field) h = (target, h.1)

pub taken_all : {A : Type 0} (n : ℕ) (xs : List A) → length xs ≤ n → take n xs ≡ xs
taken_all zero [] h = refl
taken_all (suc n) [] h = refl
taken_all zero (x ∷ xs) h = let bad : ⊥ = omega (arith, h) in absurd bad
taken_all (suc n) (x ∷ xs) h = ap (λ ys. x ∷ ys) (taken_all n xs (let less : length xs ≤ n = omega (arith, h) in less))

pub count_so_far : (records : List Record) (n : ℕ) → n < length records → length (record_trees (take n records)) ≡ n
count_so_far records n less =
    length-map (take n records) record_tree ∙ length-take-le n records (let l : n ≤ length records = omega (arith, less) in l)

module _ (net : Network) (i : Entry) (hops : ℕ) (q : Question) where
  pub nothing_told : IsKept (saying net i hops q) [] (left_open [])
  nothing_told = (tt, refl)

  module _ (records : List Record) (n : ℕ) (record' : Record) (less : n < length records) (is : record' ≡ get_or records n record') where
    next_trees : record_trees (take (n + 1) records) ≡ record_trees (take n records) ++ record_tree record' ∷ []
    next_trees =
        map_more record_tree records n record' less
        ∙ ap (λ (r : Record). record_trees (take n records) ++ record_tree r ∷ []) (sym is)

    pub next_told : (outcome : Outcome) → IsKept (saying net i hops q) (record_trees (take n records) ++ record_tree record' ∷ []) outcome
        → IsKept (saying net i hops q) (record_trees (take (n + 1) records)) outcome
    next_told outcome h = subst (λ xs. IsKept (saying net i hops q) xs outcome) (sym next_trees) h

  pub answers_it : KeptIsRight net i hops → (ask : AskTree) → Asks net i ask q → (limit : ℕ) (rs : List RecordTree) → AreExactFor net i hops limit rs
      → (outcome : Outcome) → IsKept (saying net i hops q) rs outcome → (reply : Reply) → reply ≡ reply_of q outcome → IsAnswerTo net i hops rs ask reply
  answers_it law ask asks limit rs exact outcome kept reply e = record {
    question = q;
    asked = asks;
    right = record { outcome = outcome; right = law limit rs q outcome exact kept; is = e };
  }
