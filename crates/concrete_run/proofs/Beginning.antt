-- Which numbers fit, which test fails first, and what a packet carries at its start.
use Rattle.std.proofs.Common.{◌≡◌, ℕ, suc, ◌+◌, ◌<◌, ◌≤◌, Bool, true, false, not, ◌^◌, List, [], ◌∷◌, ◌++◌, length, get_or, drop, Option, Some, None, Result, Ok, Err, map, refl, sym, ap, ◌∙◌, arith, subst, add-one, drop-cons}
use Rattle.std.specs.List.{AllByRecursion}
use Rattle.std.proofs.lemmas.List.{drop_all, get_or_default}
use Rattle.std.proofs.lemmas.Nat.{pow_pos}
use Rattle.std.specs.Option.{is_some}
use Rattle.sn_width.specs.Width.{FitsWidth, max_value}
use Rattle.sn_width.specs.declared.ids.NodeId.{NodeId}
use Rattle.sefl_syntax.specs.Trees.{CondTree}
use Rattle.sefl_syntax.specs.Views.{cond_tree, injection_tree}
use Rattle.sefl_syntax.specs.declared.job.RawInjection.{RawInjection}
use Rattle.sn_width.specs.declared.faults.LayoutFault.{LayoutFault}
use Rattle.sn_width.specs.declared.faults.StepFault.{StepFault}
use Rattle.sn_width.specs.declared.faults.StepFault.TheVariants.{Layout}
use Rattle.sefl_syntax.specs.declared.cond.Cond.{Cond}
use Rattle.sefl_syntax.specs.declared.job.RawField.{RawField}
use Rattle.job_items.specs.AtomRules.{width_of}
use Rattle.net_check.specs.Network.{EntryParts, entry, width_unless}
use Rattle.sefl_meaning.specs.Carried.{Carried, Scene, scene_at}
use Rattle.sefl_meaning.specs.Injected.{FitWidths, IsTrueIn, Starts, injected, unknown_count, unknown_widths}
use Rattle.sefl_meaning.specs.Network.{Network}
use Rattle.sefl_meaning.specs.Values.{Values, numbers}
use Rattle.sefl_meaning.specs.declared.walk.Iteration.{Iteration}
use Rattle.instr_steps.specs.Scenes.{GivesBy}
use Rattle.concrete_run.specs.Starting.{Goes, IsFirstTooWide, IsFirstOther, StartsBut}

-- the member at a place, and those behind it
next_of : {A : Type 0} (xs : List A) (i : ℕ) (x : A) → i < length xs → x ≡ get_or xs i x → drop i xs ≡ x ∷ drop (i + 1) xs
next_of xs i x h is = rw add-one (drop-cons xs i x h ∙ ap (λ y. y ∷ drop (suc i) xs) (sym is))

-- what the test of a field's value tells
pub none_of : (value : Option ℕ) (b : Bool) → is_some value ≡ not b → b ≡ true → value ≡ None
none_of None b e h = refl
none_of (Some n) b e h = cc (ap not h)

pub some_of : (value : Option ℕ) (b : Bool) → is_some value ≡ not b → b ≡ false → (n : ℕ) × (value ≡ Some n)
some_of None b e h = cc (ap not h)
some_of (Some n) b e h = (n, refl)

-- what the greatest value of a width tells
pub fits_up_to : (w v m n : ℕ) → v ≡ w → m ≡ max_value v → n ≤ m → FitsWidth w n
fits_up_to w v m n e h le = let p = pow_pos v in subst (λ k. FitsWidth k n) e (omega (arith, h))

pub wide_above : (w v m n : ℕ) → v ≡ w → m ≡ max_value v → m < n → FitsWidth w n → ⊥
wide_above w v m n e h gt fit = let p = pow_pos v in omega (arith, h, ap (λ k. 2 ^ k) e)

-- the fields from a place on, with the numbers that are left for them, tell of all
pub record Fit (fields : List RawField) (i : ℕ) (v : List ℕ) (number : ℕ) : Type 0 where
  pub fits : FitWidths (unknown_widths (drop i fields)) (drop number v) → FitWidths (unknown_widths fields) v
  pub wide : (j : ℕ) → IsFirstTooWide (unknown_widths (drop i fields)) (drop number v) j → IsFirstTooWide (unknown_widths fields) v (number + j)
  pub enough : length (unknown_widths (drop i fields)) + number ≤ length v

pub fit_first : (fields : List RawField) (v : List ℕ) → length (unknown_widths fields) ≤ length v → Fit fields 0 v 0
fit_first fields v h = record {
  fits = λ f. f;
  wide = λ j w. subst (λ k. IsFirstTooWide (unknown_widths fields) v k) (omega arith) w;
  enough = omega arith;
}

-- the tests from a place on tell of all
pub record Hold (Holds : CondTree → Type 0) (tests left : List CondTree) (index : ℕ) : Type 0 where
  pub holds : AllByRecursion Holds left → AllByRecursion Holds tests
  pub fails : (j : ℕ) → IsFirstOther Holds left j → IsFirstOther Holds tests (index + j)

widths_at : (fields : List RawField) (i : ℕ) (f : RawField) → i < length fields → f ≡ get_or fields i f
    → unknown_widths (drop i fields) ≡ width_unless f.value (width_of f.target) ++ unknown_widths (drop (i + 1) fields)
widths_at fields i f h is = ap unknown_widths (next_of fields i f h is)

-- past a field with a value
pub fit_known : (fields : List RawField) (i : ℕ) (v : List ℕ) (number : ℕ) (f : RawField) (n : ℕ) → i < length fields → f ≡ get_or fields i f
    → f.value ≡ Some n → Fit fields i v number → Fit fields (i + 1) v number
fit_known fields i v number f n h is value before =
    let e : unknown_widths (drop i fields) ≡ unknown_widths (drop (i + 1) fields) =
    widths_at fields i f h is ∙ ap (λ x. width_unless x (width_of f.target) ++ unknown_widths (drop (i + 1) fields)) value in
    record {
      fits = λ q. before.fits (subst (λ l. FitWidths l (drop number v)) (sym e) q);
      wide = λ j q. before.wide j (subst (λ l. IsFirstTooWide l (drop number v) j) (sym e) q);
      enough = omega (arith, ap length e, before.enough);
    }

record Unknown (fields : List RawField) (i : ℕ) (v : List ℕ) (number : ℕ) (f : RawField) (n : ℕ) : Type 0 where
  widths : unknown_widths (drop i fields) ≡ width_of f.target ∷ unknown_widths (drop (i + 1) fields)
  numbers : drop number v ≡ n ∷ drop (number + 1) v

unknown_at : (fields : List RawField) (i : ℕ) (v : List ℕ) (number : ℕ) (f : RawField) (n : ℕ) → i < length fields → f ≡ get_or fields i f
    → f.value ≡ None → number < length v → n ≡ get_or v number 0 → Unknown fields i v number f n
unknown_at fields i v number f n h is value within at = record {
  widths = widths_at fields i f h is ∙ ap (λ x. width_unless x (width_of f.target) ++ unknown_widths (drop (i + 1) fields)) value;
  numbers = next_of v number n within (at ∙ get_or_default v number 0 n within);
}

-- a number is left for an unknown field
pub number_left : (fields : List RawField) (i : ℕ) (v : List ℕ) (number : ℕ) (f : RawField) → i < length fields → f ≡ get_or fields i f
    → f.value ≡ None → Fit fields i v number → number < length v
number_left fields i v number f h is value before =
    let e = widths_at fields i f h is ∙ ap (λ x. width_unless x (width_of f.target) ++ unknown_widths (drop (i + 1) fields)) value in
    omega (arith, ap length e, before.enough)

-- past a field whose number fits
pub fit_unknown : (fields : List RawField) (i : ℕ) (v : List ℕ) (number : ℕ) (f : RawField) (n : ℕ) → i < length fields → f ≡ get_or fields i f
    → f.value ≡ None → n ≡ get_or v number 0 → FitsWidth (width_of f.target) n → Fit fields i v number → Fit fields (i + 1) v (number + 1)
fit_unknown fields i v number f n h is value at fit before =
    let here = unknown_at fields i v number f n h is value (number_left fields i v number f h is value before) at in
    let w = width_of f.target in
    let ws = unknown_widths (drop (i + 1) fields) in
    record {
      fits = λ q. before.fits (subst (λ l. FitWidths l (drop number v)) (sym here.widths) (subst (λ m. FitWidths (w ∷ ws) m) (sym here.numbers) (fit, q)));
      wide = λ j q. subst (λ k. IsFirstTooWide (unknown_widths fields) v k) (omega arith)
          (before.wide (suc j) (subst (λ l. IsFirstTooWide l (drop number v) (suc j)) (sym here.widths) (subst (λ m. IsFirstTooWide (w ∷ ws) m (suc j)) (sym here.numbers) (fit, q))));
      enough = omega (arith, ap length here.widths, before.enough);
    }

-- at a field whose number does not fit
pub wide_unknown : (fields : List RawField) (i : ℕ) (v : List ℕ) (number : ℕ) (f : RawField) (n : ℕ) → i < length fields → f ≡ get_or fields i f
    → f.value ≡ None → n ≡ get_or v number 0 → (FitsWidth (width_of f.target) n → ⊥) → Fit fields i v number → IsFirstTooWide (unknown_widths fields) v number
wide_unknown fields i v number f n h is value at wide before =
    let here = unknown_at fields i v number f n h is value (number_left fields i v number f h is value before) at in
    let w = width_of f.target in
    let ws = unknown_widths (drop (i + 1) fields) in
    subst (λ k. IsFirstTooWide (unknown_widths fields) v k) (omega arith)
    (before.wide 0 (subst (λ l. IsFirstTooWide l (drop number v) 0) (sym here.widths) (subst (λ m. IsFirstTooWide (w ∷ ws) m 0) (sym here.numbers) wide)))

-- past the last field
pub fit_all : (fields : List RawField) (i : ℕ) (v : List ℕ) (number : ℕ) → length fields ≤ i → Fit fields i v number → FitWidths (unknown_widths fields) v
fit_all fields i v number h before = before.fits (subst (λ l. FitWidths (unknown_widths l) (drop number v)) (sym (drop_all i fields h)) tt)

module _ (Holds : CondTree → Type 0) (tests : List Cond) where
  abbrev pub HoldAt : ℕ → Type 0
  HoldAt i = Hold Holds (map cond_tree tests) (map cond_tree (drop i tests)) i

  pub hold_first : HoldAt 0
  hold_first = record { holds = λ h. h; fails = λ j h. subst (IsFirstOther Holds (map cond_tree tests)) (omega arith) h }

  trees_at : (i : ℕ) (t : Cond) → i < length tests → t ≡ get_or tests i t → map cond_tree (drop i tests) ≡ cond_tree t ∷ map cond_tree (drop (i + 1) tests)
  trees_at i t h is = ap (map cond_tree) (next_of tests i t h is)

  -- past a test that holds
  pub hold_next : (i : ℕ) (t : Cond) → i < length tests → t ≡ get_or tests i t → Holds (cond_tree t) → HoldAt i → HoldAt (i + 1)
  hold_next i t h is here before =
      let e = trees_at i t h is in
      record {
        holds = λ q. before.holds (subst (AllByRecursion Holds) (sym e) (here, q));
        fails = λ j q. subst (IsFirstOther Holds (map cond_tree tests)) (omega arith) (before.fails (suc j) (subst (λ l. IsFirstOther Holds l (suc j)) (sym e) (here, q)));
      }

  -- at a test that does not hold
  pub hold_fails : (i : ℕ) (t : Cond) → i < length tests → t ≡ get_or tests i t → (Holds (cond_tree t) → ⊥) → HoldAt i → IsFirstOther Holds (map cond_tree tests) i
  hold_fails i t h is here before =
      subst (IsFirstOther Holds (map cond_tree tests)) (omega arith)
      (before.fails 0 (subst (λ l. IsFirstOther Holds l 0) (sym (trees_at i t h is)) here))

  pub hold_all : (i : ℕ) → length tests ≤ i → HoldAt i → AllByRecursion Holds (map cond_tree tests)
  hold_all i h before = before.holds (subst (λ l. AllByRecursion Holds (map cond_tree l)) (sym (drop_all i tests h)) tt)

-- the code's names for the parts of a start are those of the definition
module _ (net : Network) (p : EntryParts) (v : List ℕ) (raw : RawInjection) (fields : List RawField) (tests : List Cond)
    (unknowns : ℕ) (node : NodeId) (iterations : List Iteration) (raw_is : raw ≡ p.raw) (fields_are : fields ≡ raw.fields.items)
    (tests_are : tests ≡ raw.tests.items) (count : unknowns ≡ unknown_count (entry p)) (place : node ≡ p.node) (none : iterations ≡ []) where
  abbrev At : Type 0
  At = Values ℕ Bool × Scene

  abbrev seen : At
  seen = (numbers v unknowns, record { net = net; node = node; iterations = iterations })

  same_at : seen ≡ (numbers v (unknown_count (entry p)), scene_at net p.node)
  same_at = λ j. (numbers v (count j), record { net = net; node = place j; iterations = none j })

  fit : FitWidths (unknown_widths fields) v → FitWidths (unknown_widths p.raw.fields.items) v
  fit h = subst (λ l. FitWidths (unknown_widths l) v) (fields_are ∙ ap (λ r. r.fields.items) raw_is) h

  all_tests : tests ≡ p.raw.tests.items
  all_tests = tests_are ∙ ap (λ r. r.tests.items) raw_is

  carried_so : (s : Carried ℕ) → injected seen.0 seen.1 (injection_tree raw) ≡ Ok s
      → injected (numbers v (unknown_count (entry p))) (scene_at net p.node) (injection_tree p.raw) ≡ Ok s
  carried_so s h =
      subst (λ (a : At). injected a.0 a.1 (injection_tree p.raw) ≡ Ok s) same_at
      (subst (λ r. injected seen.0 seen.1 (injection_tree r) ≡ Ok s) raw_is h)

  pub starts_but : (s : Carried ℕ) (index : ℕ) → FitWidths (unknown_widths fields) v → injected seen.0 seen.1 (injection_tree raw) ≡ Ok s
      → IsFirstOther (IsTrueIn seen.1 seen.0 s) (map cond_tree tests) index → StartsBut net (entry p) v index s
  starts_but s index f c h = record {
    fits = fit f;
    carries = carried_so s c;
    fails = subst (λ (a : At). IsFirstOther (IsTrueIn a.1 a.0 s) (map cond_tree p.raw.tests.items) index) same_at
        (subst (λ l. IsFirstOther (IsTrueIn seen.1 seen.0 s) (map cond_tree l) index) all_tests h);
  }

  pub goes : (s : Carried ℕ) → injected (numbers v (unknown_count (entry p))) (scene_at net p.node) (injection_tree p.raw) ≡ Ok s
      → Goes (injected seen.0 seen.1 (injection_tree raw))
  goes s h =
      subst (λ r. Goes (injected seen.0 seen.1 (injection_tree r))) (sym raw_is)
      (subst (λ (a : At). Goes (injected a.0 a.1 (injection_tree p.raw))) (sym same_at) (subst Goes (sym h) tt))

  pub starts : (s : Carried ℕ) → FitWidths (unknown_widths fields) v → injected seen.0 seen.1 (injection_tree raw) ≡ Ok s
      → AllByRecursion (IsTrueIn seen.1 seen.0 s) (map cond_tree tests) → Starts net (entry p) v s
  starts s f c h = record {
    fits = fit f;
    carries = carried_so s c;
    holds = subst (λ (a : At). AllByRecursion (IsTrueIn a.1 a.0 s) (map cond_tree p.raw.tests.items)) same_at
        (subst (λ l. AllByRecursion (IsTrueIn seen.1 seen.0 s) (map cond_tree l)) all_tests h);
  }

-- the fault of an evaluation that was refused
fault_seen : (truth : Result Bool LayoutFault) (found : StepFault) (fault : LayoutFault) → GivesBy (λ t. t) truth (Err found) → found ≡ Layout fault → truth ≡ Err fault
fault_seen truth found fault gives is = subst (λ f. GivesBy (λ t. t) truth (Err f)) is gives

-- the truth of a test that is not true
pub is_truth : (r : Result Bool StepFault) (t : Result Bool LayoutFault) (b : Bool) → GivesBy (λ truth. truth) t r → r ≡ Ok b → t ≡ Ok b
is_truth r t b gives is = subst (GivesBy (λ truth. truth) t) is gives

pub not_true : (r : Result Bool StepFault) (t : Result Bool LayoutFault) (b : Bool) → GivesBy (λ truth. truth) t r → r ≡ Ok b → b ≡ false → t ≡ Ok true → ⊥
not_true r t b gives is false_is h = let e = is_truth r t b gives is in cc

pub no_truth : (t : Result Bool LayoutFault) (found : StepFault) (fault : LayoutFault) → GivesBy (λ truth. truth) t (Err found) → found ≡ Layout fault → t ≡ Ok true → ⊥
no_truth t found fault gives is h = let e = fault_seen t found fault gives is in cc

-- an injection that goes is not refused
pub not_refused : (step : Result (Carried ℕ) LayoutFault) (fault : LayoutFault) → Goes step → step ≡ Err fault → ⊥
not_refused step fault g is = subst Goes is g
