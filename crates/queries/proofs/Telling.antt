-- What the conditions of a question say, one after another.
use Rattle.std.proofs.Common.{◌≡◌, ℕ, true, List, [], ◌∷◌, map, refl, sym, ap, subst, ◌∙◌, Vec, Result, Ok, Err, IfOk}
use Rattle.std.specs.Global.{Global}
use Rattle.std.specs.List.{AllByRecursion}
use Rattle.path_cond.specs.Seen.{itself}
use Rattle.path_solver.specs.Judged.{AreExact}
use Rattle.lin_term.specs.Terms.{LinearTerm}
use Rattle.net_check.specs.Network.{Network, Entry}
use Rattle.path_formula.specs.Typed.{IsTyped}
use Rattle.sefl_meaning.specs.declared.walk.Decision.{Decision}
use Rattle.sefl_meaning.specs.Carried.{Carried}
use Rattle.sefl_meaning.specs.Routes.{route}
use Rattle.sefl_meaning.specs.Start.{widths_on}
use Rattle.exact_records.specs.Records.{RecordTree, SymCondition, SymRoute, condition_on, path, pruned, unexplored, with_test}
use Rattle.sym_state.specs.Symbolic.{Symbolic}
use Rattle.path_questions.specs.Formulas.{asked_on, condition_with, conditions_on, explored, formula_of}
use Rattle.path_questions.specs.Questions.{Question}
use Rattle.path_questions.specs.Telling.{HasRefutation, RulesItOut, ShowsNoHit}
use Rattle.path_questions.specs.declared.judging.Judged.{Judged}
use Rattle.path_questions.specs.declared.judging.Judged.TheVariants.{Hit, Open, RuledOut}
use Rattle.path_questions.specs.Deciding.{IsJudged, conditions_with}
use Rattle.queries.specs.declared.states.PathRun.{PathRun}
use Rattle.queries.specs.declared.seen.Seen.{Seen}
use Rattle.queries.specs.declared.seen.Seen.TheVariants.{Path}
use Rattle.queries.specs.declared.states.Stop.{Stop}
use Rattle.queries.specs.Judged.{IsPathWith, IsSaid, IsSeenOf, SaysOf}
use Rattle.symbolic_engine.specs.Origins.{condition_seen}
use Rattle.queries.proofs.Ways.{same_way}
use Rattle.queries.specs.Paths.{AreStatesOf, AsksNothing, IsJudgedOn, IsPathRun}

-- ---- the conditions of a path

map_map : {A B C : Type 0} (f : B → C) (g : A → B) (xs : List A) → map (λ x. f (g x)) xs ≡ map f (map g xs)
map_map f g [] = refl
map_map f g (x ∷ xs) = ap (λ zs. f (g x) ∷ zs) (map_map f g xs)

all_mapped : {A B : Type 0} (h : A → B) (P : B → Type 0) (xs : List A) → AllByRecursion P (map h xs) → AllByRecursion (λ x. P (h x)) xs
all_mapped h P [] k = tt
all_mapped h P (x ∷ xs) k = (k.0, all_mapped h P xs k.1)

pub all_weaker : {A : Type 0} (P Q : A → Type 0) (xs : List A) → ((x : A) → P x → Q x) → AllByRecursion P xs → AllByRecursion Q xs
all_weaker P Q [] f h = tt
all_weaker P Q (x ∷ xs) f h = (f x h.0, all_weaker P Q xs f h.1)

module _ (net : Network) (i : Entry) (hops : ℕ) (q : Question) where
  abbrev carried_of : Symbolic → Carried LinearTerm
  carried_of x = x.carried

  pub same_conditions : (c : SymCondition) (way : SymRoute) (states : List Symbolic) → c ≡ condition_on (explored net i hops) way
      → map carried_of states ≡ asked_on q way → conditions_with net i hops q c states ≡ conditions_on net i hops q way
  same_conditions c way states is are =
      map_map (λ s. with_test c (formula_of net i hops q s) true) carried_of states
      ∙ (λ j. map (λ s. with_test (is j) (formula_of net i hops q s) true) (are j))

  pub typed_there : (c : SymCondition) (way : SymRoute) (states : List Symbolic) → c ≡ condition_on (explored net i hops) way
      → map carried_of states ≡ asked_on q way
      → AllByRecursion (λ s. IsTyped (widths_on (explored net i hops) way) (formula_of net i hops q s)) (asked_on q way)
      → AllByRecursion (λ x. IsTyped c.widths (formula_of net i hops q x.carried)) states
  typed_there c way states is are h =
      subst (λ (d : SymCondition). AllByRecursion (λ x. IsTyped d.widths (formula_of net i hops q x.carried)) states) (sym is)
      (all_mapped carried_of (λ s. IsTyped (widths_on (explored net i hops) way) (formula_of net i hops q s)) states
      (subst (AllByRecursion (λ s. IsTyped (widths_on (explored net i hops) way) (formula_of net i hops q s))) (sym are) h))

  -- what the conditions of a path say, the path says
  pub said : (judged : Judged) (x : RecordTree) (run : PathRun) → IsPathRun net i hops run → IsPathWith run.decisions.now x
      → IsJudgedOn net i hops q run.decisions.now judged → IsSaid net i hops q x judged
  said (Hit values) (path es places end' fields verdict) run r same h =
      (r.way, ap (route (explored net i hops).tree) same ∙ r.leads, h r.way r.leads)
  said Open (path es places end' fields verdict) run r same h = (
    (λ way leads. (h way (ap (route (explored net i hops).tree) (sym same) ∙ leads)).0),
    (r.way, ap (route (explored net i hops).tree) same ∙ r.leads, (h r.way r.leads).1),
  )
  said RuledOut (path es places end' fields verdict) run r same h =
      λ way leads. h way (ap (route (explored net i hops).tree) (sym same) ∙ leads)
  said judged (pruned es before refutation) run r same h = absurd same
  said judged (unexplored es) run r same h = absurd same

  -- a path with nothing to ask rules the question out
  pub out_where_nothing : (ds : List Decision) (x : RecordTree) → AsksNothing net i hops ds → IsPathWith ds x → RulesItOut net i hops q x
  out_where_nothing ds (path es places end' fields verdict) h same = λ way leads.
      subst (AllByRecursion HasRefutation)
      (sym (ap (map (condition_with net i hops q way)) (h q way (ap (route (explored net i hops).tree) (sym same) ∙ leads)))) tt
  out_where_nothing ds (pruned es before refutation) h same = absurd same
  out_where_nothing ds (unexplored es) h same = absurd same

  -- a refuted condition is not met
  pub none_where_out : AreExact itself → (x : RecordTree) → RulesItOut net i hops q x → ShowsNoHit net i hops q x
  none_where_out verdicts (path ds places end' fields verdict) h = λ way leads.
      all_weaker _ _ (conditions_on net i hops q way) (λ c refuted values met. verdicts.not_met c values refuted.0 met) (h way leads)
  none_where_out verdicts (pruned ds before refutation) h = tt
  none_where_out verdicts (unexplored ds) h = tt

  -- and so does a record that is seen as that path
  pub path_says : {E : Type 0} (r : Result Judged E) (run : PathRun) (stops : Vec Stop Global) (seen : Seen) → seen ≡ Path run stops → IsPathRun net i hops run
      → IfOk r (IsJudgedOn net i hops q run.decisions.now) → IfOk r (SaysOf net i hops q seen)
  path_says (Ok judged) run stops seen e h k = λ x same.
      said judged x run h (subst (IsSeenOf net i hops x) e same) k
  path_says (Err error) run stops seen e h k = tt

  -- what conditions say that are those of a question on a path, the path says
  pub judged_on : {E : Type 0} (r : Result Judged E) (run : PathRun) → IsPathRun net i hops run → (c : SymCondition) (states : List Symbolic)
      → c ≡ condition_seen run.state → AreStatesOf net i hops q run.decisions.now states
      → IfOk r (IsJudged (conditions_with net i hops q c states)) → IfOk r (IsJudgedOn net i hops q run.decisions.now)
  judged_on (Ok judged) run h c states e are k = λ way leads.
      let same = same_way net i hops run.decisions.now h.way way h.leads leads in
      subst (λ cs. IsJudged cs judged)
      (same_conditions c way states (e ∙ (h.condition ∙ ap (condition_on (explored net i hops)) same)) (are way leads)) k
  judged_on (Err error) run h c states e are k = tt
