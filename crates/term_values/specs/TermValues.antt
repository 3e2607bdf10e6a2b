-- The operations of the meaning at linear terms and formulas.
use Rattle.std.specs.Prelude.{ℕ, ◌+◌, ◌%◌, ◌^◌, Bool, true, ◌&&◌, ◌==◌, nat_lt, [], ◌∷◌, if◌then◌else◌}
use Rattle.lin_term.specs.Terms.{LinearTerm}
use Rattle.lin_term.specs.Sums.{term_sum, term_difference}
use Rattle.sn_ranges.specs.Ranges.{is_member}
use Rattle.sn_ranges.specs.Sets.{set_of}
use Rattle.path_formula.specs.Formulas.{FormulaTree, always, compared, belongs, all_of, any_of, opposite}
use Rattle.path_formula.specs.View.{formulas_of}
use Rattle.sefl_meaning.specs.Values.{Values}

-- the number modulo 2 to the width, as a term
abbrev pub number_term : ℕ → ℕ → LinearTerm
number_term w n = record { width = w; constant = n % 2 ^ w; parts = [] }

-- the symbol of this number, as a term; it is 0 at width 0, whose one value is 0
abbrev pub symbol_term : ℕ → ℕ → LinearTerm
symbol_term w s = record { width = w; constant = 0; parts = if nat_lt 0 w then (record { 0 = s }, 1) ∷ [] else [] }

-- both terms have the width
abbrev pub have_width : ℕ → LinearTerm → LinearTerm → Bool
have_width w a b = a.width == w && b.width == w

-- Terms and formulas: symbol k is unknown field k, and the choices stand behind this many unknown fields. The sum and
-- the difference of terms of other widths are 0. A membership is in the set of the values of the width that lie in one of
-- the ranges, whatever their order; nothing lies in a reversed one.
abbrev pub terms : ℕ → Values LinearTerm FormulaTree
terms unknowns = record {
  constant = number_term;
  plus = λ w a b. if have_width w a b then term_sum a b else number_term w 0;
  minus = λ w a b. if have_width w a b then term_difference a b else number_term w 0;
  unknown = symbol_term;
  choice = λ w k. symbol_term w (unknowns + k);
  compare = λ w rel a b. compared rel a b;
  member = λ w a ranges. belongs a (set_of w (is_member ranges));
  always = always true;
  all_of = λ fs. all_of (formulas_of fs);
  any_of = λ fs. any_of (formulas_of fs);
  negation = opposite;
}
