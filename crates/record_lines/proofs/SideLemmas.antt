-- A refuted side that is only counted: no record of it is made, and there is one.
use denote.RawPtr.{null_ptr}
use Rattle.std.proofs.Common.{◌≡◌, refl, sym, ℕ, zero, suc, ◌-◌, ◌<◌, ◌^◌, arith, Bool, true, false, List, [], ◌∷◌, ◌++◌, length, Option, None, Some}
use Rattle.std.proofs.lemmas.Bool.{true≢false}
use Rattle.std.specs.Prelude.{option_map, replicate}
use Rattle.std.specs.Global.{Vec}
use Rattle.std.specs.List.{AllByRecursion}
use Rattle.std.specs.declared.alloc.Global.{Global}
use Rattle.net_check.specs.Network.{Network}
use Rattle.sefl_meaning.specs.declared.walk.Decision.{Decision}
use Rattle.sefl_meaning.specs.declared.walk.Decision.TheVariants.{Then, Else, Pass, Broken, Copy}
use Rattle.refutation_check.specs.declared.outcome.Cause.TheVariants.{Outside, Cases, Coupled}
use Rattle.refutation_check.specs.declared.outcome.Verdict.{Verdict}
use Rattle.refutation_check.specs.declared.outcome.Verdict.TheVariants.{Sat, Undecided}
use Rattle.path_records.specs.declared.records.Record.{Record}
use Rattle.path_records.specs.declared.records.Record.TheVariants.{Path, Pruned, Unexplored}
use Rattle.lin_term.specs.Terms.{LinearTerm}
use Rattle.refutation_check.specs.declared.steps.Refute.{Refute}
use Rattle.sefl_meaning.specs.declared.walk.End.{End}
use Rattle.sefl_meaning.specs.declared.walk.Place.{Place}
use Rattle.sefl_meaning.specs.Fields.{Fields}
use Rattle.exact_records.specs.Records as tree
use Rattle.exact_records.specs.Points.{filled, filled_verdict}
use Rattle.exact_records.specs.View.{record_tree}
use Rattle.path_exec.specs.Handing.{IsListed, IsNumbered, handed}
use Rattle.report_forms.specs.Fits.{BeforeFits, DecisionFits, Fit128, VerdictFits}
use Rattle.symbolic_engine.specs.declared.found.Before.{Before}
use Rattle.symbolic_engine.specs.declared.found.Found.{Found}
use Rattle.symbolic_engine.specs.declared.found.Found.TheVariants as found
use Rattle.symbolic_engine.specs.Finds.{filled_before, found_tree}
use Rattle.record_lines.specs.Lines.{BeforeInRange, IsFoundObligation, IsRecordObligation, IsSideObligation, is_only_counted, is_written}
use Rattle.path_records.specs.declared.sides.RefutedSides.{RefutedSides}
use Rattle.path_records.specs.declared.sides.RefutedSides.TheVariants.{Written, Counted}
use Rattle.record_lines.specs.declared.lines.Obligation.{Obligation}
use Rattle.record_lines.specs.declared.lines.Obligation.TheVariants as obligation

-- the decisions as a list of the program
abbrev vec_of : Global → (ds : List Decision) → length ds < 2 ^ 63 → Vec Decision
vec_of heap ds short = record { ptr = null_ptr; len = length ds; cap = length ds; alloc = heap; items = ds; ok = (refl, omega arith); small = short }

decision_fits : (d : Decision) → IsNumbered d → DecisionFits d
decision_fits Then numbered = tt
decision_fits Else numbered = tt
decision_fits Pass numbered = tt
decision_fits Broken numbered = tt
decision_fits (Copy number) numbered = numbered

decisions_fit : (ds : List Decision) → AllByRecursion IsNumbered ds → AllByRecursion DecisionFits ds
decisions_fit [] all = tt
decisions_fit (d ∷ ds) all = (decision_fits d all.0, decisions_fit ds all.1)

zeros_fit : (n : ℕ) → Fit128 (replicate n 0)
zeros_fit zero = tt
zeros_fit (suc n) = (omega arith, zeros_fit n)

both_fit : (xs ys : List ℕ) → Fit128 xs → Fit128 ys → Fit128 (xs ++ ys)
both_fit [] ys all more = more
both_fit (x ∷ xs) ys all more = (all.0, both_fit xs ys all.1 more)

filled_fit : (count : ℕ) (values : List ℕ) → Fit128 values → Fit128 (filled count values)
filled_fit count values all = both_fit values (replicate (count - length values) 0) all (zeros_fit (count - length values))

verdict_fits : (count : ℕ) (verdict : Verdict) → VerdictFits verdict → VerdictFits (filled_verdict count verdict)
verdict_fits count (Sat values) fits = filled_fit count values fits
verdict_fits count (Undecided (Outside pick values)) fits = (fits.0, filled_fit count values fits.1)
verdict_fits count (Undecided (Cases number)) fits = fits
verdict_fits count (Undecided (Coupled number)) fits = fits

before_fits : (before : Option Before) → BeforeInRange before → BeforeFits (option_map filled_before before)
before_fits None range = tt
before_fits (Some before) range = verdict_fits before.symbols before.verdict.value range

-- what is not only counted is written
pruned_is_no_path : (ds es : List Decision) (before : Option Verdict) (steps : List Refute) (ps : List Place) (how : End) (fields : Fields LinearTerm) (verdict : Verdict)
    → tree.pruned ds before steps ≡ tree.path es ps how fields verdict → ⊥
pruned_is_no_path ds es before steps ps how fields verdict e = cc

pruned_is_not_untried : (ds es : List Decision) (before : Option Verdict) (steps : List Refute) → tree.pruned ds before steps ≡ tree.unexplored es → ⊥
pruned_is_not_untried ds es before steps e = cc

written_where : (sides : RefutedSides) (side : Found) (made : Record) (ds : List Decision) → is_only_counted sides side ≡ false
    → record_tree made ≡ found_tree side ds → is_written sides made ≡ true
written_where Written side made ds only is = refl
written_where Counted side (Path decisions places ended fields verdict) ds only is = refl
written_where Counted side (Unexplored decisions) ds only is = refl
written_where Counted (found.Path state how verdict) (Pruned decisions before refutation) ds only is = absurd (pruned_is_no_path _ _ _ _ _ _ _ _ is)
written_where Counted (found.Pruned earlier steps) (Pruned decisions before refutation) ds only is = absurd (true≢false only)
written_where Counted found.Unexplored (Pruned decisions before refutation) ds only is = absurd (pruned_is_not_untried _ _ _ _ is)

module _ (net : Network) (later : Bool) (refuted : ℕ) (ds : List Decision) (piece : List ℕ) where
  -- a refuted side is counted for the record that there is of it
  pub side_counted : Global → (sides : RefutedSides) (side : Found) → is_only_counted sides side ≡ true → IsListed ds
      → (what : Obligation) → IsSideObligation refuted side what → IsFoundObligation net sides later refuted (handed ds side) piece what
  side_counted heap Written side only listed what does = absurd (true≢false (sym only))
  side_counted heap Counted (found.Path state how verdict) only listed what does = absurd (true≢false (sym only))
  side_counted heap Counted found.Unexplored only listed what does = absurd (true≢false (sym only))
  side_counted heap Counted (found.Pruned before refutation) only listed (obligation.Write count) does = absurd does
  side_counted heap Counted (found.Pruned before refutation) only listed (obligation.Count count) does = (
    Pruned (vec_of heap ds listed.short) (option_map filled_before before) refutation,
    refl,
    (refl, (decisions_fit ds listed.numbered, before_fits before does.0.0, does.0.1), does.1, does.2),
  )
  side_counted heap Counted (found.Pruned before refutation) only listed obligation.NoMemory does = tt

  -- what is to be done with a record that was made
  pub made_obligation : (sides : RefutedSides) (side : Found) → is_only_counted sides side ≡ false → (made : Record) → record_tree made ≡ found_tree side ds
      → (what : Obligation) → IsRecordObligation net later refuted made piece what → IsFoundObligation net sides later refuted (handed ds side) piece what
  made_obligation sides side only made is (obligation.Write count) does = (made, is, (written_where sides side made ds only is, does.0, does.1, does.2, does.3))
  made_obligation sides side only made is (obligation.Count count) does = absurd does
  made_obligation sides side only made is obligation.NoMemory does = tt
