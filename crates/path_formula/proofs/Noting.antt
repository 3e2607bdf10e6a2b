-- The kind of a formula from a summary of its atoms.
use Rattle.std.proofs.Common.{◌≡◌, Bool, true, false, cond, ◌&&◌, ◌||◌, ◌==◌, List, [], ◌∷◌, ◌++◌, Option, Some, None, refl, sym, ap, ◌∙◌, arith}
use Rattle.std.proofs.lemmas.Bool.{eq-eqb}
use Rattle.std.proofs.lemmas.Bool.Decides.{nat_tests}
use Rattle.std.specs.List.{list_all, list_any}
use Rattle.sn_width.specs.declared.ids.SymId.{SymId}
use Rattle.path_formula.specs.Kinds.{Atom, is_constant, is_on, is_hard, is_constant_kind, is_kind_on, single_or, first_single, only_on, kind_among, kind_unless_constant}
use Rattle.path_formula.specs.Summaries.{blank, noted, noted_atom, symbols_with}
use Rattle.path_formula.specs.declared.atom.AtomKind.{AtomKind}
use Rattle.path_formula.specs.declared.atom.AtomKind.TheVariants.{Constant, Single, Pair, Outside}
use Rattle.path_formula.specs.declared.kinds.Kind.{Kind}
use Rattle.path_formula.specs.declared.kinds.Kind.TheVariants.{Constant as OneTruth, Simple}
use Rattle.path_formula.specs.declared.kinds.Symbols.{Symbols}
use Rattle.path_formula.specs.declared.kinds.Symbols.TheVariants.{Nothing, Only, More}
use Rattle.path_formula.specs.declared.kinds.Summary.{Summary}

-- the atoms of two lists, one after the other
pub noted-append : (s : Summary) (xs ys : List Atom) → noted s (xs ++ ys) ≡ noted (noted s xs) ys
noted-append s [] ys = refl
noted-append s (x ∷ xs) ys = noted-append (noted_atom s x) xs ys

and_regroup : (a b c : Bool) → (a && b) && c ≡ a && (b && c)
and_regroup true b c = refl
and_regroup false b c = refl

or_regroup : (a b c : Bool) → (a || b) || c ≡ a || (b || c)
or_regroup true b c = refl
or_regroup false b c = refl

and_none : (a : Bool) → false ≡ a && false
and_none true = refl
and_none false = refl

or_none : (a : Bool) → a ≡ a || false
or_none true = refl
or_none false = refl

and_all : (a : Bool) → a ≡ a && true
and_all true = refl
and_all false = refl

abbrev is_nothing : Symbols → Bool
is_nothing Nothing = true
is_nothing (Only r) = false
is_nothing More = false

-- the symbol is one on which all of the atoms may be single
abbrev admits : Symbols → SymId → Bool
admits Nothing s = true
admits (Only r) s = r.0 == s.0
admits More s = false

is_nothing-cond : (b : Bool) (r : SymId) → is_nothing (cond b (Only r) More) ≡ false
is_nothing-cond true r = refl
is_nothing-cond false r = refl

is_nothing-symbols_with : (x : Symbols) (k : AtomKind) → is_nothing (symbols_with x k) ≡ is_nothing x && is_constant_kind k
is_nothing-symbols_with x Constant = and_all (is_nothing x)
is_nothing-symbols_with Nothing (Single s) = refl
is_nothing-symbols_with (Only r) (Single s) = is_nothing-cond (r.0 == s.0) r
is_nothing-symbols_with More (Single s) = refl
is_nothing-symbols_with x Pair = and_none (is_nothing x)
is_nothing-symbols_with x Outside = and_none (is_nothing x)

is_nothing-noted : (s : Summary) (atoms : List Atom) → is_nothing (noted s atoms).symbols ≡ is_nothing s.symbols && list_all is_constant atoms
is_nothing-noted s [] = and_all (is_nothing s.symbols)
is_nothing-noted s (a ∷ atoms) =
    is_nothing-noted (noted_atom s a) atoms ∙ ap (λ b. b && list_all is_constant atoms) (is_nothing-symbols_with s.symbols a.0) ∙ and_regroup (is_nothing s.symbols) (is_constant a) (list_all is_constant atoms)

admits-cond : (r s t : SymId) → admits (cond (r.0 == s.0) (Only r) More) t ≡ (r.0 == t.0) && (s.0 == t.0)
admits-cond r s t = grind (arith, nat_tests)

admits-symbols_with : (x : Symbols) (k : AtomKind) (t : SymId) → admits (symbols_with x k) t ≡ admits x t && is_kind_on t k
admits-symbols_with x Constant t = and_all (admits x t)
admits-symbols_with Nothing (Single s) t = refl
admits-symbols_with (Only r) (Single s) t = admits-cond r s t
admits-symbols_with More (Single s) t = refl
admits-symbols_with x Pair t = and_none (admits x t)
admits-symbols_with x Outside t = and_none (admits x t)

admits-noted : (s : Summary) (atoms : List Atom) (t : SymId) → admits (noted s atoms).symbols t ≡ admits s.symbols t && list_all (is_on t) atoms
admits-noted s [] t = and_all (admits s.symbols t)
admits-noted s (a ∷ atoms) t =
    admits-noted (noted_atom s a) atoms t ∙ ap (λ b. b && list_all (is_on t) atoms) (admits-symbols_with s.symbols a.0 t) ∙ and_regroup (admits s.symbols t) (is_on t a) (list_all (is_on t) atoms)

hard-noted : (s : Summary) (atoms : List Atom) → (noted s atoms).hard ≡ s.hard || list_any is_hard atoms
hard-noted s [] = or_none s.hard
hard-noted s (a ∷ atoms) = hard-noted (noted_atom s a) atoms ∙ or_regroup s.hard (is_hard a) (list_any is_hard atoms)

-- the symbol of the first single atom, before which came atoms of these symbols
abbrev first_or : Symbols → Option SymId → Option SymId
first_or Nothing rest = rest
first_or (Only r) rest = Some r
first_or More rest = None

first_or-cond : (b : Bool) (r t : SymId) (rest : Option SymId) → first_or (cond b (Only r) More) rest ≡ Some t → Some r ≡ Some t
first_or-cond true r t rest h = h
first_or-cond false r t rest h = cc

first_or-symbols_with : (x : Symbols) (k : AtomKind) (rest : Option SymId) (t : SymId) → first_or (symbols_with x k) rest ≡ Some t → first_or x (single_or k rest) ≡ Some t
first_or-symbols_with x Constant rest t h = h
first_or-symbols_with Nothing (Single s) rest t h = h
first_or-symbols_with (Only r) (Single s) rest t h = first_or-cond (r.0 == s.0) r t rest h
first_or-symbols_with More (Single s) rest t h = h
first_or-symbols_with x Pair rest t h = cc
first_or-symbols_with x Outside rest t h = cc

first_or-noted : (s : Summary) (atoms : List Atom) (t : SymId) → (noted s atoms).symbols ≡ Only t → first_or s.symbols (first_single atoms) ≡ Some t
first_or-noted s [] t h = ap (λ x. first_or x None) h
first_or-noted s (a ∷ atoms) t h = first_or-symbols_with s.symbols a.0 (first_single atoms) t (first_or-noted (noted_atom s a) atoms t h)

-- the kind that a summary gives
abbrev pub kind_by : Bool → Symbols → Bool → Kind
kind_by truth Nothing hard = OneTruth truth
kind_by truth (Only s) hard = Simple s
kind_by truth More hard = kind_unless_constant None hard

only_on-none : (o : Option SymId) (atoms : List Atom) → ((t : SymId) → list_all (is_on t) atoms ≡ false) → only_on o atoms ≡ None
only_on-none None atoms h = refl
only_on-none (Some t) atoms h = rw (h t)

kind_by-facts : (truth : Bool) (atoms : List Atom) (x : Symbols) (hard : Bool) → list_all is_constant atoms ≡ is_nothing x → ((t : SymId) → list_all (is_on t) atoms ≡ admits x t)
    → ((t : SymId) → x ≡ Only t → first_single atoms ≡ Some t) → list_any is_hard atoms ≡ hard → kind_among truth atoms ≡ kind_by truth x hard
kind_by-facts truth atoms Nothing hard constant on first any = rw constant
kind_by-facts truth atoms (Only s) hard constant on first any = rw (constant, first s refl, on s, eq-eqb s.0 s.0 refl)
kind_by-facts truth atoms More hard constant on first any = rw (constant, only_on-none (first_single atoms) atoms on, any)

-- the kind of atoms from their summary
pub kind_among_noted : (truth : Bool) (atoms : List Atom) → kind_among truth atoms ≡ kind_by truth (noted blank atoms).symbols (noted blank atoms).hard
kind_among_noted truth atoms =
    kind_by-facts truth atoms (noted blank atoms).symbols (noted blank atoms).hard (sym (is_nothing-noted blank atoms)) (λ t. sym (admits-noted blank atoms t)) (first_or-noted blank atoms) (sym (hard-noted blank atoms))
