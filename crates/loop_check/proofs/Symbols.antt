-- States with the same symbols, and what is said of a visit.
use Rattle.std.proofs.Common.{◌≡◌, ◌∙◌, ◌++◌, drop, sym}
use Rattle.std.proofs.lemmas.List.{take-append-drop}
use Rattle.sym_state.specs.Symbolic.{Symbolic, choices_of, held_of}
use Rattle.exact_records.specs.Records.{SymCondition}
use Rattle.loop_meaning.specs.Visits.{SameChoices, SameLayout, Visit, differences}
use Rattle.loop_check.specs.declared.differing.Differing.{Differing}
use Rattle.loop_check.specs.declared.differing.Differing.TheVariants.{Never, With, Open}
use Rattle.loop_check.specs.Lasting.{AreOfOneStart}
use Rattle.loop_check.specs.Seen.{SaysOf}
use Rattle.loop_check.specs.Telling.{FirstTells, why_of}

-- ---- symbols

module _ (x y : Symbolic) (h : AreOfOneStart x y) where
  pub same_choices : y.condition.widths ≡ x.condition.widths → choices_of y ≡ choices_of x
  same_choices e = λ i. drop (sym h.unknowns i) (e i)

  pub same_widths : choices_of y ≡ choices_of x → y.condition.widths ≡ x.condition.widths
  same_widths e =
      sym (take-append-drop y.unknowns y.condition.widths)
      ∙ ((λ i. sym h.fields i ++ e i) ∙ take-append-drop x.unknowns x.condition.widths)

-- ---- the visit

module _ (c : SymCondition) (last : Visit) (x : Symbolic) (choices : SameChoices (held_of x) last) (layout : SameLayout (held_of x) last) where
  -- what its cells tell is what is said of it
  pub says_so : (d : Differing) → FirstTells (differences (held_of x) last c) d → SaysOf c last x (why_of d)
  says_so Never h = record { choices = choices; layout = layout; cells = h }
  says_so (With values) h = record { choices = choices; layout = layout; first = h }
  says_so (Open cause) h = record { choices = choices; layout = layout; first = h }
