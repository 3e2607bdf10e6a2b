-- What the search for the kind of a formula keeps.
use Rattle.std.specs.Prelude.{false, ◌||◌, ◌==◌, List, [], ◌∷◌, if◌then◌else◌}
use Rattle.sn_width.specs.declared.ids.SymId.{SymId}
use Rattle.path_formula.specs.Kinds.{Atom, is_hard}
use Rattle.path_formula.specs.declared.atom.AtomKind.{AtomKind}
use Rattle.path_formula.specs.declared.atom.AtomKind.TheVariants.{Constant, Single, Pair, Outside}
use Rattle.path_formula.specs.declared.kinds.Symbols.{Symbols}
use Rattle.path_formula.specs.declared.kinds.Symbols.TheVariants.{Nothing, Only, More}
use Rattle.path_formula.specs.declared.kinds.Summary.{Summary}

abbrev pub symbols_with_single : Symbols → SymId → Symbols
symbols_with_single Nothing s = Only s
symbols_with_single (Only r) s = if r.0 == s.0 then Only r else More
symbols_with_single More s = More

-- the symbols with one more atom of this kind
abbrev pub symbols_with : Symbols → AtomKind → Symbols
symbols_with symbols Constant = symbols
symbols_with symbols (Single s) = symbols_with_single symbols s
symbols_with symbols Pair = More
symbols_with symbols Outside = More

-- before any atom
abbrev pub blank : Summary
blank = record { symbols = Nothing; hard = false }

-- after one more atom
abbrev pub noted_atom : Summary → Atom → Summary
noted_atom summary atom = record { symbols = symbols_with summary.symbols atom.0; hard = summary.hard || is_hard atom }

-- after these atoms
abbrev pub noted : Summary → List Atom → Summary
noted summary [] = summary
noted summary (atom ∷ atoms) = noted (noted_atom summary atom) atoms
