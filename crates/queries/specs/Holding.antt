-- What is kept of questions.
use Rattle.std.specs.Prelude.{ℕ, zero, suc, ◌≡◌, Bool, false, List, [], ◌∷◌, ◌++◌, length}
use Rattle.std.specs.List.{AllByRecursion}
use Rattle.net_check.specs.Network.{Network, Entry}
use Rattle.net_check.specs.Sound.{AreOfOneJob}
use Rattle.exact_records.specs.Records.{RecordTree}
use Rattle.path_questions.specs.Laws.{IsOfInjection}
use Rattle.path_questions.specs.Questions.{Question}
use Rattle.path_questions.specs.Telling.{IsKept, Outcome, found, left_open, saying}
use Rattle.path_questions.specs.Asked.{question_seen}
use Rattle.path_questions.specs.Deciding.{entry_of, net_of}
use Rattle.path_questions.specs.Known.{outcome_seen}
use Rattle.path_questions.specs.declared.judging.Judged.{Judged}
use Rattle.path_questions.specs.declared.judging.Judged.TheVariants.{Hit, Open, RuledOut}
use Rattle.path_questions.specs.declared.kept.Kept.{Kept}
use Rattle.path_questions.specs.declared.question.Question as code
use Rattle.path_questions.specs.declared.subject.Subject.{Subject}

-- with one number more of records that leave the question open
abbrev pub left_open_with : ℕ → Outcome → Outcome
left_open_with number (found n values) = found n values
left_open_with number (left_open ns) = left_open (ns ++ number ∷ [])

-- with what the record of this number says, where no hit was known
abbrev pub outcome_with : ℕ → Judged → Outcome → Outcome
outcome_with number (Hit values) outcome = found number values
outcome_with number Open outcome = left_open_with number outcome
outcome_with number RuledOut outcome = outcome

-- the first ones have the first property, and the rest the other
abbrev pub Partly : {Q K : Type 0} → (Q → K → Type 0) → (Q → K → Type 0) → ℕ → List Q → List K → Type 0
Partly P R n [] [] = Unit {0}
Partly P R n [] (k ∷ ks) = ⊥
Partly P R n (q ∷ qs) [] = ⊥
Partly P R zero (q ∷ qs) (k ∷ ks) = R q k × Partly P R zero qs ks
Partly P R (suc n) (q ∷ qs) (k ∷ ks) = P q k × Partly P R n qs ks

module _ (net : Network) (i : Entry) (hops : ℕ) where
  -- it is what these records tell of the question
  abbrev pub IsKeptOf : List RecordTree → Question → Kept → Type 0
  IsKeptOf xs q kept = IsKept (saying net i hops q) xs (outcome_seen kept)

  -- for each question what is kept
  abbrev pub AreKept : List RecordTree → List code.Question → List Kept → Type 0
  AreKept xs qs ks = Partly (λ q k. IsKeptOf xs (question_seen q) k) (λ q k. IsKeptOf xs (question_seen q) k) 0 qs ks

-- the fields of the questions are those of the injection
abbrev pub AreOwn : Network → Entry → List code.Question → Type 0
AreOwn net i questions = AllByRecursion (λ q. IsOfInjection net i (question_seen q)) questions

-- the net and the injection are of one job, the fields of the questions are injected, and something is kept of each
pub record IsReady (subject : Subject) (questions : List code.Question) (kept : List Kept) : Type 0 where
  pub job : AreOfOneJob (net_of subject) (entry_of subject)
  pub own : AreOwn (net_of subject) (entry_of subject) questions
  pub one_each : length questions ≡ length kept

-- of this subject and these questions it keeps what these records tell, unless memory ended
pub record IsAskingOf (net : Network) (i : Entry) (hops : ℕ) (qs : List code.Question) (subject : Subject) (questions : List code.Question) (kept : List Kept)
    (count : ℕ) (failed : Bool) (xs : List RecordTree) : Type 0 where
  pub net_is : net_of subject ≡ net
  pub entry_is : entry_of subject ≡ i
  pub hops_is : subject.hops ≡ hops
  pub questions_are : questions ≡ qs
  pub counted : failed ≡ false → count ≡ length xs
  pub tells : failed ≡ false → AreKept net i hops xs qs kept

-- only what is kept and counted has changed
pub record IsSameAsking (before after : Subject) (asked now : List code.Question) (failed still : Bool) : Type 0 where
  pub subject : after ≡ before
  pub questions : now ≡ asked
  pub failed_is : still ≡ failed

-- an injection without fields; nobody asks about it
abbrev pub no_entry : Entry
no_entry = record { own = record { node = []; port = 0; tags = []; fields = []; tests = [] }; node = record { 0 = 0 }; most_choices = 0 }
