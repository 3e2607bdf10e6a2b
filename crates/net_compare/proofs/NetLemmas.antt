-- The comparison of two nets, from that of their paths.
use Rattle.std.proofs.Common.{◌≡◌, ◌∙◌, ◌+◌, ℕ, List, ◌++◌, arith, length, map, ap, subst}
use Rattle.net_check.specs.Network.{Network, Entry}
use Rattle.path_records.specs.declared.records.Record.{Record}
use Rattle.exact_records.specs.View.{record_tree, record_trees}
use Rattle.path_questions.specs.Formulas.{explored}
use Rattle.compare_meaning.specs.Clashes.{NoneClash, both_paths}
use Rattle.compare_meaning.specs.Comparing.{Comparison, IsKnown}
use Rattle.compare_meaning.specs.Laws.{KnownIsComparison, KnownIsRight}
use Rattle.compare_meaning.specs.Paths.{DeliveredPath, Half, IsWhole, delivered_from, paths_of}
use Rattle.net_compare.specs.Clashing.{shifted}
use Rattle.net_compare.specs.Halves.{IsAnswer, half_of}
use Rattle.net_compare.proofs.ClashLemmas.{shift_delivered}
use Rattle.net_compare.proofs.LayoutLemmas.{mapped_length}

module _ (hops : ℕ) (ln rn : Network) (li ri : Entry) (lrs rrs : List Record) (ls rs : List DeliveredPath)
    (left : ls ≡ delivered_from ln (explored ln li hops) 0 (record_trees lrs))
    (right : rs ≡ delivered_from rn (explored rn ri hops) 0 (record_trees rrs)) where
  abbrev l : Half
  l = half_of hops ln li (record_trees lrs)

  abbrev r : Half
  r = half_of hops rn ri (record_trees rrs)

  -- the paths of both, where those of the right net are numbered on
  pub both_are : (n : ℕ) → n ≡ length lrs → ls ++ map (shifted n) rs ≡ both_paths l r
  both_are n same =
      let on : 0 + n ≡ length (record_trees lrs) = omega (arith, same, mapped_length record_tree lrs) in
      ap (λ ps. ps ++ map (shifted n) rs) left
      ∙ ap (λ ps. paths_of l ++ ps)
      (ap (map (shifted n)) right
      ∙ (shift_delivered rn (explored rn ri hops) n 0 (record_trees rrs)
      ∙ ap (λ k. delivered_from rn (explored rn ri hops) k (record_trees rrs)) on))

  pub answered : KnownIsRight hops → KnownIsComparison → li.own ≡ ri.own → IsWhole hops l → IsWhole hops r → (n : ℕ) → n ≡ length lrs
      → NoneClash (ls ++ map (shifted n) rs) → (answer : Comparison) → IsKnown ls rs answer → IsAnswer hops l r answer
  answered true_of one own left_whole right_whole n same none answer known =
      let by_paths : IsKnown (paths_of l) (paths_of r) answer =
      subst (λ ps. IsKnown ps (paths_of r) answer) left (subst (λ qs. IsKnown ls qs answer) right known) in
      record {
        own = own;
        fits = subst NoneClash (both_are n same) none;
        is = one (paths_of l) (paths_of r) answer by_paths;
        right = true_of l r own left_whole right_whole answer by_paths;
      }
