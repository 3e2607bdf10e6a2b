use Rattle.std.proofs.Common.{◌≡◌, ◌∙◌, ◌+◌, ◌≤◌, ◌++◌, List, [], ◌∷◌, arith, drop, length, map, ap, sym, subst}
use Rattle.std.proofs.lemmas.List.{drop_all}
use Rattle.std.specs.Global.{Vec}
use Rattle.path_cond.specs.Seen.{seen}
use Rattle.path_formula.specs.View.{view}
use Rattle.path_formula.specs.declared.formula.Formula.{Formula}
use Rattle.compare_meaning.specs.Paths.{DeliveredPath}
use Rattle.net_compare.specs.Facings.{TellsFacing}
use Rattle.net_compare.specs.Saying.{seen_path}
use Rattle.net_compare.specs.declared.delivery.Delivery.{Delivery}
use Rattle.net_compare.specs.declared.joining.Decidable.{Decidable}
use Rattle.net_compare.proofs.SliceLemmas.{split_mapped}
use Rattle.net_compare.proofs.FacedSoFar.{SoFar, miss_end, so_far_first, so_far_past, so_far_with, symbols_agree, typed_end, typed_paths}
use Rattle.net_compare.proofs.facing.facing_formulas.Goals.{then-branch+in_ok-start-2+in_ok-facing_formula+in_ok-push, else-branch}
use Rattle.net_compare.proofs.facing.facing_formulas.Goals as goal

pub loop-other-init : goal.loop-other-init
loop-other-init c =
    let p = seen_path c.args.path.now in
    let all = map seen_path c.args.others.now in
    subst (SoFar p all all c.in_ok-start.start) (sym c.new-formulas.ensures.items)
    (so_far_first p all c.in_ok-start.start c.in_ok-start.ensures.ready (ap (seen view) c.in_ok-start.ensures.same) c.requires.fits c.requires.together
    (typed_paths c.args.others.now c.requires.others_sound))

pub with_symbols_of-requires-clause-agree : goal.with_symbols_of-requires-clause-agree
with_symbols_of-requires-clause-agree c =
    let p = seen_path c.args.path.now in
    let others = c.args.others.now in
    let n = c.loop-other.other-index in
    let d = c.other-item.result in
    let start = c.loop-other.start in
    let formulas = c.loop-other.formulas.items in
    let so = subst (λ (qs : List DeliveredPath). SoFar p (map seen_path others) qs start formulas)
    (split_mapped seen_path others n d c.loop-other-test.true c.other-item.is) c.loop-other.invariant in
    let face = subst (TellsFacing p (seen_path d)) c.if-branch.true c.in_ok-faces.ensures in
    symbols_agree p (map seen_path others) (seen_path d) (map seen_path (drop (n + 1) others)) start formulas so face.exit

pub loop-other-preserved : goal.loop-other-preserved
loop-other-preserved c =
    let p = seen_path c.args.path.now in
    let others = c.args.others.now in
    let all = map seen_path others in
    let n = c.loop-other.other-index in
    let d = c.other-item.result in
    let q = seen_path d in
    let rest = map seen_path (drop (n + 1) others) in
    let start = c.loop-other.start in
    let formulas = c.loop-other.formulas.items in
    let so = subst (λ (qs : List DeliveredPath). SoFar p all qs start formulas) (split_mapped seen_path others n d c.loop-other-test.true c.other-item.is) c.loop-other.invariant in
    elim c.if-branch.branch [
      | then-branch+in_ok-start-2+in_ok-facing_formula+in_ok-push w ↦
          let next = w.in_ok-start-2.start in
          let f = w.in_ok-facing_formula.field-0 in
          let face = subst (TellsFacing p q) w.if-branch.true c.in_ok-faces.ensures in
          let more : c.if-branch.formulas.items ≡ formulas ++ f ∷ [] = ap (λ (v : Vec Formula). v.items) w.formulas-is ∙ w.in_ok-push.ensures.items in
          subst (λ (s : Decidable). SoFar p all rest s c.if-branch.formulas.items) (sym w.start-is)
          (subst (λ (fs : List Formula). SoFar p all rest next fs) (sym more)
          (so_far_with p all q rest start formulas so face next w.in_ok-start-2.ensures.ready w.in_ok-start-2.ensures.longer f w.in_ok-facing_formula.ensures))
      | else-branch w ↦
          let apart = subst (TellsFacing p q) w.if-branch.false c.in_ok-faces.ensures in
          let as_before : c.if-branch.formulas.items ≡ formulas = ap (λ (v : Vec Formula). v.items) w.formulas-is in
          subst (λ (s : Decidable). SoFar p all rest s c.if-branch.formulas.items) (sym w.start-is)
          (subst (λ (fs : List Formula). SoFar p all rest start fs) (sym as_before) (so_far_past p all q rest start formulas so apart))
    ]

pub returns : goal.returns
returns c =
    let p = seen_path c.args.path.now in
    let others = c.args.others.now in
    let all = map seen_path others in
    let n = c.loop-other.other-index in
    let start = c.loop-other.start in
    let formulas = c.loop-other.formulas.items in
    let f = c.loop-other-test.false in
    let past : length others ≤ n = omega (arith, f) in
    let so = subst (λ (ds : List Delivery). SoFar p all (map seen_path ds) start formulas) (drop_all n others past) c.loop-other.invariant in
    let own = c.requires.sound.typed in (
      so.ready,
      typed_end p all c.miss_conditions_are_typed.ensures own start formulas so,
      so.entries,
      miss_end p all c.miss_conditions_are_typed.ensures own start formulas so,
    )
