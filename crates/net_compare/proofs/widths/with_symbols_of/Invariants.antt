use Rattle.std.proofs.Common.{◌≡◌, ◌++◌, drop}
use Rattle.compare_meaning.specs.Facing.{longer}
use Rattle.net_compare.specs.Joining.{IsReady}
use Rattle.net_compare.proofs.widths.with_symbols_of.Given as goal

-- with those that are left there are all of the longer list
abbrev pub invariant-loop-symbol : goal.invariant-loop-symbol
invariant-loop-symbol l = record {
  ready : IsReady l.now;
  entries : l.now.condition.entries ≡ l.fn.start.condition.entries;
  most : l.now.condition.most_choices ≡ l.fn.start.condition.most_choices;
  widths : l.now.condition.widths ++ drop l.symbol l.other.widths ≡ longer l.fn.start.condition.widths l.other.widths;
}
