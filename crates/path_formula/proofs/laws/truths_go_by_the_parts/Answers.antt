use Rattle.std.proofs.Common.{refl}
use Rattle.path_formula.proofs.PartTruths.{membership_truth, all_truth, any_truth}
use Rattle.path_formula.proofs.laws.truths_go_by_the_parts.Goals as goal

pub returns : goal.returns
returns c = record {
  comparison = λ rel left right values. refl;
  membership = membership_truth c.the_set_of_a_test.ensures.members;
  all = all_truth;
  any = any_truth;
  opposite = λ f values. refl;
}
