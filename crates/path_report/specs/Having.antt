-- Values that have their form, and what they then hold.
use Rattle.std.specs.Prelude.{◌≡◌, ◌<◌, ◌^◌, ℕ, List, [], ◌∷◌, codes, Option, None, Some, option_map}
use Rattle.lin_term.specs.Terms.{Part as TermPart}
use Rattle.serde_json.specs.Data.{Data, array, Items, no_items, item, Members, no_members, member}
use Rattle.serde_json.specs.Find.{get_member}
use Rattle.net_check.specs.Network.{Network}
use Rattle.report_shape.specs.declared.part.Part.{Part}
use Rattle.report_shape.specs.declared.part.Part.TheVariants as part
use Rattle.report_shape.specs.Forms.{Field}
use Rattle.report_shape.specs.Shape.{report_fields}
use Rattle.report_shape.specs.Faults.{fault}
use Rattle.report_names.specs.Names.{knows}
use Rattle.run_text.specs.Forms.{count}
use Rattle.record_text.specs.Reports.{with_cases}
use Rattle.report_forms.specs.Fits.{CasesFit}

-- no place of the value is refused
abbrev pub HasForm : Network → Part → Data → Type 0
HasForm net p d = fault (knows net) p d ≡ None

-- the first member is this key with a value of this part, and the others are as Next says
pub record Holding (net : Network) (key : List ℕ) (p : Part) (Next : Members → Type 0) (ms : Members) : Type 0 where
  pub value : Data
  pub rest : Members
  pub is : ms ≡ member key value rest
  pub form : HasForm net p value
  pub next : Next rest

-- members that are exactly these fields
abbrev pub Holds : Network → List Field → Members → Type 0
Holds net [] ms = ms ≡ no_members
Holds net (f ∷ fs) ms = Holding net f.0 f.1 (Holds net fs) ms

-- the member of this key is there, with a value of this part
pub record Has (net : Network) (key : List ℕ) (p : Part) (ms : Members) : Type 0 where
  pub value : Data
  pub is : get_member key ms ≡ Some value
  pub form : HasForm net p value

-- the members that every report has, and before them the most choices of cases, where they are said; and where each is found
pub record HoldsReport (net : Network) (ms : Members) : Type 0 where
  pub said : Option ℕ
  pub rest : Members
  pub is : ms ≡ with_cases said rest
  pub fits : CasesFit said
  pub others : Holds net report_fields rest
  pub cases : get_member (codes "cases") ms ≡ option_map count said
  pub hops : Has net (codes "hops") part.Hops ms
  pub limit : Has net (codes "limit") part.Limit ms
  pub records : Has net (codes "records") part.Records ms
  pub refuted : Has net (codes "refuted") part.Count ms
  pub state : Has net (codes "state") part.State ms

-- the first item is of this part, and the others are as Next says
pub record Listing (net : Network) (p : Part) (Next : Items → Type 0) (ds : Items) : Type 0 where
  pub value : Data
  pub rest : Items
  pub is : ds ≡ item value rest
  pub form : HasForm net p value
  pub next : Next rest

-- items that are exactly these parts
abbrev pub Lists : Network → List Part → Items → Type 0
Lists net [] ds = ds ≡ no_items
Lists net (p ∷ ps) ds = Listing net p (Lists net ps) ds

-- a list of exactly these parts
pub record IsRow (net : Network) (ps : List Part) (d : Data) : Type 0 where
  pub items : Items
  pub is : d ≡ array items
  pub parts : Lists net ps items

-- a symbol of 64 bits with a coefficient of 128
abbrev pub IsTermPart : TermPart → Type 0
IsTermPart p = (p.0.0 < 2 ^ 64) × (p.1 < 2 ^ 128)
