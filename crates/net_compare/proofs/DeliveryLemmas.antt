-- The delivered paths of records.
use Rattle.std.proofs.Common.{◌≡◌, ◌∙◌, ◌↔◌, ◌<◌, ◌+◌, ℕ, suc, List, [], ◌∷◌, ◌++◌, arith, drop, get_or, length, map, refl, sym, ap, subst, reverse, Option, None, Some, option_map}
use Rattle.std.proofs.lemmas.List.{append_assoc, drop_more, reverse-append}
use Rattle.std.specs.List.{AllByRecursion}
use Rattle.lin_term.specs.Terms.{IsReduced, LinearTerm}
use Rattle.path_formula.specs.Typed.{TermIsTyped}
use Rattle.cell_stacks.specs.declared.cell.Cell.{Cell}
use Rattle.cell_stacks.specs.Cells.{bottom_up}
use Rattle.net_check.specs.Network.{Network, Entry}
use Rattle.refutation_check.specs.declared.outcome.Verdict.{Verdict}
use Rattle.sefl_meaning.specs.declared.walk.Decision.{Decision}
use Rattle.sefl_meaning.specs.declared.walk.End.{End}
use Rattle.sefl_meaning.specs.declared.walk.Place.{Place}
use Rattle.sefl_meaning.specs.Carried.{Carried}
use Rattle.sefl_meaning.specs.Fields.{Fields}
use Rattle.sefl_meaning.specs.Routes.{route}
use Rattle.sefl_meaning.specs.Start.{progress_of}
use Rattle.sefl_meaning.specs.Valued.{CellFits, Fits, HeldFits, StacksFit}
use Rattle.term_values.specs.Fits.{term_fits, typed_fits}
use Rattle.path_records.specs.declared.records.Record.{Record}
use Rattle.exact_records.specs.Exact.{IsGood}
use Rattle.exact_records.specs.Packets.{AreExactFor, IsExplored}
use Rattle.exact_records.specs.Records.{HasMeaning, IsPath, Leads, RecordTree, SymRoute, SymStart, SymTree, condition_on}
use Rattle.exact_records.specs.View.{record_tree, record_trees}
use Rattle.sym_state.specs.Symbolic.{Symbolic}
use Rattle.path_questions.specs.Formulas.{explored, no_start, start_or}
use Rattle.compare_meaning.specs.Outputs.{Heads, exit_of, last_of, name_in}
use Rattle.compare_meaning.specs.Paths.{DeliveredPath, condition_along, condition_by, delivered, delivered_from, with_one}
use Rattle.compare_typing.specs.Typing.{CellIsTyped, HeadsAreTyped, HeldIsTyped}
use Rattle.net_compare.specs.Delivering.{LeadsToState}
use Rattle.net_compare.proofs.Fitting.{all_here, all_mapped}

some_same : {A : Type 0} {x y : A} → Some x ≡ Some y → x ≡ y
some_same e = cc e

none_some : {A : Type 0} {x : A} → None ≡ Some x → ⊥
none_some e = cc e

-- ---- where decisions lead

module _ (net : Network) (i : Entry) (hops : ℕ) where
  pub start_is : (start : SymStart) → IsExplored net i hops start → start ≡ explored net i hops
  start_is start is = sym (ap (start_or no_start) is)

-- ---- the condition and the fields

module _ (start : SymStart) (ds : List Decision) (x : Symbolic) (at : LeadsToState start ds x) where
  pub condition_is : condition_along start ds ≡ condition_on start at.way
  condition_is = ap (condition_by start) at.leads

  pub carried_is : (way : SymRoute) → Leads start ds way → (progress_of way.left).state ≡ x.carried
  carried_is way leads = let same : at.way ≡ way = some_same (sym at.leads ∙ leads) in subst (λ (w : SymRoute). (progress_of w.left).state ≡ x.carried) same at.carries

-- the cells of a path are those of the state
pub heads_are : (start : SymStart) (ds : List Decision) (places : List Place) (end' : End) (fields : Fields LinearTerm) (verdict : Verdict) (x : Symbolic)
    → LeadsToState start ds x → IsPath start ds places end' fields verdict → map bottom_up x.carried.layers.heads ≡ fields.heads
heads_are start ds places end' fields verdict x at p =
    let carried : p.progress.state ≡ x.carried = sym (ap (λ (t : SymTree). (progress_of t).state) p.ended) ∙ carried_is start ds x at p.way p.leads in
    ap (λ (s : Carried LinearTerm). map bottom_up s.layers.heads) (sym carried) ∙ ap (λ (f : Fields LinearTerm). f.heads) p.fields_are

-- the last of the ports
pub last_is : (before : List Place) (place : Place) → last_of (before ++ place ∷ []) ≡ Some place
last_is [] place = refl
last_is (x ∷ []) place = refl
last_is (x ∷ y ∷ xs) place = last_is (y ∷ xs) place

pub exit_is : (net : Network) (places before : List Place) (place : Place) → places ≡ before ++ place ∷ [] → Some (name_in net place.node, place.port) ≡ exit_of net places
exit_is net places before place split = ap (option_map (λ (p : Place). (name_in net p.node, p.port))) (sym (ap last_of split ∙ last_is before place))

-- ---- typed cells

-- what the tests of fitting terms say
pub record FitLaws : Type 0 where
  pub fits : (w : ℕ) (t : LinearTerm) → Fits term_fits w t ↔ ((t.width ≡ w) × IsReduced t)
  pub typed : (widths : List ℕ) (w : ℕ) (t : LinearTerm) → Fits (typed_fits widths) w t ↔ (Fits term_fits w t × TermIsTyped widths t)

pub all_one_more : {A : Type 0} (P : A → Type 0) (xs ys : List A) → AllByRecursion P xs → AllByRecursion P ys → AllByRecursion P (xs ++ ys)
all_one_more P [] ys h k = k
all_one_more P (x ∷ xs) ys h k = (h.0, all_one_more P xs ys h.1 k)

all_reversed : {A : Type 0} (P : A → Type 0) (xs : List A) → AllByRecursion P xs → AllByRecursion P (reverse xs)
all_reversed P [] h = tt
all_reversed P (x ∷ xs) h =
    subst (λ ys. AllByRecursion P ys) (sym (reverse-append (x ∷ []) xs)) (all_one_more P (reverse xs) (x ∷ []) (all_reversed P xs h.1) (h.0, tt))

module _ (laws : FitLaws) (widths : List ℕ) where
  held_typed : (w : ℕ) (held : Option LinearTerm) → HeldFits (typed_fits widths) w held → HeldIsTyped widths w held
  held_typed w None h = tt
  held_typed w (Some t) h = let fits = (laws.typed widths w t).0 h in (((laws.fits w t).0 fits.0).0, fits.1)

  cells_typed : (cells : List (Cell LinearTerm)) → AllByRecursion (CellFits (typed_fits widths)) cells → AllByRecursion (CellIsTyped widths) cells
  cells_typed [] h = tt
  cells_typed (c ∷ cs) h = (held_typed c.width c.value h.0, cells_typed cs h.1)

  pub heads_typed : (heads : Heads LinearTerm) → StacksFit (typed_fits widths) heads → HeadsAreTyped widths (map bottom_up heads)
  heads_typed [] h = tt
  heads_typed (x ∷ xs) h = (cells_typed (reverse x.1) (all_reversed (CellFits (typed_fits widths)) x.1 h.0), heads_typed xs h.1)

-- ---- the loop over records

-- each of exact records has its meaning
pub meaning_here : (net : Network) (i : Entry) (hops limit : ℕ) (records : List Record) → AreExactFor net i hops limit (record_trees records)
    → (n : ℕ) (d : Record) → n < length records → d ≡ get_or records n d → HasMeaning (explored net i hops) (record_tree d)
meaning_here net i hops limit records exact n d less is =
    let good = subst (λ s. AllByRecursion (IsGood s) (record_trees records)) (start_is net i hops exact.start exact.explored) exact.exact.good in
    (all_here (λ x. IsGood (explored net i hops) (record_tree x)) records n d less is (all_mapped record_tree (IsGood (explored net i hops)) records good)).meaning

module _ (net : Network) (start : SymStart) (records : List Record) (n : ℕ) (d : Record) (less : n < length records) (is : d ≡ get_or records n d) (number : ℕ) where
  abbrev rest : List RecordTree
  rest = record_trees (drop (n + 1) records)

  pub split : record_trees (drop n records) ≡ record_tree d ∷ rest
  split = ap record_trees (drop_more records n d less ∙ ap (λ y. y ∷ drop (n + 1) records) (sym is))

  more : suc number ≡ number + 1
  more = omega arith

  module _ (before all : List DeliveredPath) (h : before ++ delivered_from net start number (record_trees (drop n records)) ≡ all) where
    with_found : (found : Option DeliveredPath) → delivered net start number (record_tree d) ≡ found
        → before ++ with_one found (delivered_from net start (number + 1) rest) ≡ all
    with_found found e =
        ap (λ k. before ++ with_one found (delivered_from net start k rest)) (sym more)
        ∙ (ap (λ o. before ++ with_one o (delivered_from net start (suc number) rest)) (sym e)
        ∙ (ap (λ xs. before ++ delivered_from net start number xs) (sym split) ∙ h))

    pub none_next : delivered net start number (record_tree d) ≡ None → before ++ delivered_from net start (number + 1) rest ≡ all
    none_next e = with_found None e

    pub some_next : (p : DeliveredPath) → delivered net start number (record_tree d) ≡ Some p → (before ++ p ∷ []) ++ delivered_from net start (number + 1) rest ≡ all
    some_next p e = append_assoc before (p ∷ []) (delivered_from net start (number + 1) rest) ∙ with_found (Some p) e
