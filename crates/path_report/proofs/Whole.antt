-- The members of a report make its value.
use Rattle.std.proofs.Common.{◌≡◌, ℕ, List, Bool, true, false, Option, Some, None, refl, sym, ap, ◌∙◌, arith}
use Rattle.std.specs.Prelude.{codes, if◌then◌else◌, option_and_then, option_map, Ok}
use Rattle.serde_json.specs.Data.{Data, string, object, Members, no_members, member}
use Rattle.serde_json.specs.Find.{as_number, as_u64, get_member}
use Rattle.net_check.specs.Network.{Network}
use Rattle.report_shape.specs.declared.part.Part.{Part}
use Rattle.report_shape.specs.declared.part.Part.TheVariants as part
use Rattle.report_shape.specs.Faults.{if_keys, keys_are, members_fault, picked}
use Rattle.report_shape.specs.Shape.{bounded_fields, report_fields}
use Rattle.report_names.specs.Names.{knows}
use Rattle.run_text.specs.Forms.{count}
use Rattle.record_text.specs.Reports.{report_data, report_members, state_text, with_cases}
use Rattle.report_forms.specs.Fits.{CasesFit}
use Rattle.path_report.specs.Having.{Has, HasForm, Holds, HoldsReport}
use Rattle.path_report.proofs.Atoms.{cases_form, version_form}
use Rattle.path_report.proofs.Holding.{chosen, chosen_by}

abbrev six : Data → Data → Data → Data → Data → Data → Members
six a b c d e f =
    member (codes "hops") a (member (codes "limit") b (member (codes "records") c (member (codes "refuted") d (member (codes "state") e (member (codes "symnet") f no_members)))))

some_is : (a b : Data) → Some a ≡ Some b → a ≡ b
some_is a b e = cc

-- ---- the members that every report has

module _ (net : Network) (ms : Members) (h : Holds net report_fields ms) where
  the_members : ms ≡ six h.value h.next.value h.next.next.value h.next.next.next.value h.next.next.next.next.value h.next.next.next.next.next.value
  the_members =
      h.is ∙ ap (member (codes "hops") h.value) (h.next.is ∙ ap (member (codes "limit") h.next.value) (h.next.next.is ∙ ap (member (codes "records") h.next.next.value)
      (h.next.next.next.is ∙ ap (member (codes "refuted") h.next.next.next.value) (h.next.next.next.next.is ∙ ap (member (codes "state") h.next.next.next.next.value)
      (h.next.next.next.next.next.is ∙ ap (member (codes "symnet") h.next.next.next.next.next.value) h.next.next.next.next.next.next)))))

  members_are : (hops limit refuted : ℕ) (records : Data) (complete : Bool) → Some (count hops) ≡ get_member (codes "hops") ms → Some (count limit) ≡ get_member (codes "limit") ms →
      Some records ≡ get_member (codes "records") ms → Some (count refuted) ≡ get_member (codes "refuted") ms → Some (string (state_text complete)) ≡ get_member (codes "state") ms →
      report_members hops limit records refuted complete ≡ ms
  unfolding report_members
  members_are hops limit refuted records complete a b c d e =
      let x = some_is (count hops) h.value (a ∙ ap (get_member (codes "hops")) the_members) in
      let y = some_is (count limit) h.next.value (b ∙ ap (get_member (codes "limit")) the_members) in
      let z = some_is records h.next.next.value (c ∙ ap (get_member (codes "records")) the_members) in
      let u = some_is (count refuted) h.next.next.next.value (d ∙ ap (get_member (codes "refuted")) the_members) in
      let v = some_is (string (state_text complete)) h.next.next.next.next.value (e ∙ ap (get_member (codes "state")) the_members) in
      let w = version_form net h.next.next.next.next.next.value h.next.next.next.next.next.form in
      ap (λ k. six k (count limit) records (count refuted) (string (state_text complete)) (count 1)) x
      ∙ ap (λ k. six h.value k records (count refuted) (string (state_text complete)) (count 1)) y
      ∙ ap (λ k. six h.value h.next.value k (count refuted) (string (state_text complete)) (count 1)) z
      ∙ ap (λ k. six h.value h.next.value h.next.next.value k (string (state_text complete)) (count 1)) u
      ∙ ap (λ k. six h.value h.next.value h.next.next.value h.next.next.next.value k (count 1)) v
      ∙ ap (λ k. six h.value h.next.value h.next.next.value h.next.next.next.value h.next.next.next.next.value k) (sym w)
      ∙ sym the_members

-- ---- before them the most choices of cases

-- a member of another key is found behind them
behind : (k : List ℕ) (rest : Members) → ((n : ℕ) → get_member k (with_cases (Some n) rest) ≡ get_member k rest) → (said : Option ℕ)
    → get_member k (with_cases said rest) ≡ get_member k rest
behind k rest skips None = refl
behind k rest skips (Some n) = skips n

module _ (net : Network) (ms : Members) where
  module _ (said : Option ℕ) (rest : Members) (is : ms ≡ with_cases said rest) (h : Holds net report_fields rest) where
    has : (k : List ℕ) (p : Part) (d : Data) → ((n : ℕ) → get_member k (with_cases (Some n) rest) ≡ get_member k rest) → get_member k rest ≡ Some d → HasForm net p d
        → Has net k p ms
    has k p d skips found form = record { value = d; is = ap (get_member k) is ∙ behind k rest skips said ∙ found; form = form }

    said_first : (o : Option ℕ) → get_member (codes "cases") (with_cases o rest) ≡ option_map count o
    said_first None = ap (get_member (codes "cases")) (the_members net rest h)
    said_first (Some n) = refl

    held : CasesFit said → HoldsReport net ms
    held fits = record {
      said = said;
      rest = rest;
      is = is;
      fits = fits;
      others = h;
      cases = ap (get_member (codes "cases")) is ∙ said_first said;
      hops = has (codes "hops") part.Hops h.value (λ n. refl) (ap (get_member (codes "hops")) (the_members net rest h)) h.form;
      limit = has (codes "limit") part.Limit h.next.value (λ n. refl) (ap (get_member (codes "limit")) (the_members net rest h)) h.next.form;
      records = has (codes "records") part.Records h.next.next.value (λ n. refl) (ap (get_member (codes "records")) (the_members net rest h)) h.next.next.form;
      refuted = has (codes "refuted") part.Count h.next.next.next.value (λ n. refl) (ap (get_member (codes "refuted")) (the_members net rest h)) h.next.next.next.form;
      state = has (codes "state") part.State h.next.next.next.next.value (λ n. refl) (ap (get_member (codes "state")) (the_members net rest h)) h.next.next.next.next.form;
    }

  bounded : Holds net bounded_fields ms → HoldsReport net ms
  bounded h =
      let c = cases_form net h.value h.form in
      held (Some c.n) h.rest (h.is ∙ ap (λ d. member (codes "cases") d h.rest) c.is) h.next (c.low, omega (arith, c.high))

  by_keys : (b : Bool) → keys_are report_fields ms ≡ b →
      picked (if b then Ok report_fields else if_keys bounded_fields ms) (λ gs. members_fault (knows net) gs ms) ≡ None → HoldsReport net ms
  by_keys true keys none = held None ms refl (chosen_by net report_fields ms true keys (refl, (refl, (refl, (refl, (refl, (refl, tt)))))) none) tt
  by_keys false keys none = bounded (chosen net bounded_fields ms (refl, (refl, (refl, (refl, (refl, (refl, (refl, tt))))))) none)

  -- an object that has the form of a report has its members
  pub report_held : HasForm net part.Report (object ms) → HoldsReport net ms
  report_held h = by_keys (keys_are report_fields ms) refl h

-- ---- what is read of them

-- the number of a value that is one
pub said_count : (said : Option ℕ) (d : Data) → Some d ≡ option_map count said → option_and_then as_u64 (as_number d) ≡ said
said_count None d h = cc
said_count (Some n) d h = let is : d ≡ count n = cc in ap (λ x. option_and_then as_u64 (as_number x)) is

one_count : (a b : Option ℕ) → option_map count a ≡ option_map count b → a ≡ b
one_count None None h = refl
one_count None (Some b) h = cc
one_count (Some a) None h = cc
one_count (Some a) (Some b) h = let is : a ≡ b = cc in ap Some is

module _ (net : Network) (ms : Members) (h : HoldsReport net ms) where
  -- a member of another key is found among those that every report has
  among : (k : List ℕ) (d : Data) → ((n : ℕ) → get_member k (with_cases (Some n) h.rest) ≡ get_member k h.rest) → Some d ≡ get_member k ms → Some d ≡ get_member k h.rest
  among k d skips found = found ∙ ap (get_member k) h.is ∙ behind k h.rest skips h.said

  pub report_is : (cases : Option ℕ) (hops limit refuted : ℕ) (records : Data) (complete : Bool) → option_map count cases ≡ get_member (codes "cases") ms →
      Some (count hops) ≡ get_member (codes "hops") ms → Some (count limit) ≡ get_member (codes "limit") ms → Some records ≡ get_member (codes "records") ms →
      Some (count refuted) ≡ get_member (codes "refuted") ms → Some (string (state_text complete)) ≡ get_member (codes "state") ms →
      report_data cases hops limit records refuted complete ≡ object ms
  unfolding report_data
  report_is cases hops limit refuted records complete said a b c d e =
      let same : cases ≡ h.said = one_count cases h.said (said ∙ h.cases) in
      let others =
      members_are net h.rest h.others hops limit refuted records complete (among (codes "hops") (count hops) (λ n. refl) a) (among (codes "limit") (count limit) (λ n. refl) b)
      (among (codes "records") records (λ n. refl) c) (among (codes "refuted") (count refuted) (λ n. refl) d)
      (among (codes "state") (string (state_text complete)) (λ n. refl) e) in
      ap (λ o. object (with_cases o (report_members hops limit records refuted complete))) same
      ∙ ap (λ k. object (with_cases h.said k)) others
      ∙ ap object (sym h.is)
