use Rattle.path_formula.proofs.Typings.{next_place}
use Rattle.path_formula.proofs.laws.numbers_and_symbols_are_typed.Goals as goal

pub returns : goal.returns
returns c = record {
  number = λ widths width constant. tt;
  symbol = λ widths width symbol h. (h, tt);
  next = λ widths more width. (next_place widths more width, tt);
}
