-- What an injection carries, step by step.
use Rattle.std.proofs.Common.{◌≡◌, ℕ, suc, ◌+◌, ◌<◌, Bool, true, false, not, Option, Some, None, List, ◌∷◌, length, get_or, drop, drop-cons, add-one, Result, Ok, Err, refl, sym, ap, ◌∙◌, subst}
use Rattle.std.specs.Option.{is_some}
use Rattle.std.specs.Result.{IsErrAnd}
use Rattle.sn_width.specs.declared.faults.LayoutFault.{LayoutFault}
use Rattle.sn_width.specs.declared.faults.StepFault.{StepFault}
use Rattle.sn_width.specs.declared.faults.StepFault.TheVariants.{Layout, NoMemory}
use Rattle.sefl_syntax.specs.declared.job.RawField.{RawField}
use Rattle.sefl_syntax.specs.declared.reference.Addr.{Addr}
use Rattle.sefl_syntax.specs.declared.reference.Target.{Target}
use Rattle.cell_stacks.specs.Outcome.{and_then, Meets}
use Rattle.net_check.specs.Network.{unknown_width, width_unless}
use Rattle.job_items.specs.AtomRules.{width_of}
use Rattle.sefl_meaning.specs.Carried.{Carried, Scene}
use Rattle.sefl_meaning.specs.Injected.{field_value, with_field, with_fields, with_tags}
use Rattle.sefl_meaning.specs.Steps.{assigned, tag_set}
use Rattle.sefl_meaning.specs.Values.{Values}
use Rattle.instr_steps.specs.Scenes.{Leads}

-- the member at a place, and those behind it
next_of : {A : Type 0} (xs : List A) (i : ℕ) (x : A) → i < length xs → x ≡ get_or xs i x → drop i xs ≡ x ∷ drop (i + 1) xs
next_of xs i x h is = rw add-one (drop-cons xs i x h ∙ ap (λ y. y ∷ drop (suc i) xs) (sym is))

pub leads : {S : Type 0} (step : Result S LayoutFault) (result : Result (Unit {0}) StepFault) (old new : S) → Meets step result old new → Leads step result new
leads step (Ok done) old new h = h
leads step (Err (Layout fault)) old new h = h.0
leads step (Err NoMemory) old new h = tt

-- a refused step ends all of them
pub stops : {S : Type 0} (step : Result S LayoutFault) (next : S → Result S LayoutFault) (whole : Result S LayoutFault) (e : StepFault) (left new : S)
    → whole ≡ and_then step next → Leads step (Err e) left → Leads whole (Err e) new
stops step next whole (Layout fault) left new is h = is ∙ ap (λ r. and_then r next) h
stops step next whole NoMemory left new is h = tt

-- the fault is that of the step which was refused
pub leads_error : {S : Type 0} (whole : Result S LayoutFault) (result : Result (Unit {0}) StepFault) (e : StepFault) (new : S)
    → IsErrAnd result (λ f. f ≡ e) → Leads whole (Err e) new → Leads whole result new
leads_error whole (Ok done) e new h stop = absurd h
leads_error {S} whole (Err f) e new h stop = subst (λ (x : StepFault). Leads whole (Err x) new) (sym h) stop

-- after a step the others are left
pub goes_on : {S : Type 0} (step : Result S LayoutFault) (next : S → Result S LayoutFault) (whole : Result S LayoutFault) (result : Result (Unit {0}) StepFault) (mid new : S)
    → whole ≡ and_then step next → step ≡ Ok mid → Leads (next mid) result new → Leads whole result new
goes_on {S} step next whole result mid new is h k = subst (λ (r : Result S LayoutFault). Leads r result new) (sym (is ∙ ap (λ r. and_then r next) h)) k

module _ {V F : Type 0} (o : Values V F) (at : Scene) where
  pub tags_at : (tags : List (List ℕ × Addr)) (i : ℕ) (line : List ℕ × Addr) (old : Carried V) → i < length tags → line ≡ get_or tags i line
      → with_tags o at (drop i tags) old ≡ and_then (tag_set at line.0 line.1 old) (with_tags o at (drop (i + 1) tags))
  tags_at tags i line old h is = ap (λ l. with_tags o at l old) (next_of tags i line h is)

  pub fields_at : (fields : List RawField) (i number : ℕ) (f : RawField) (old : Carried V) → i < length fields → f ≡ get_or fields i f
      → with_fields o at number (drop i fields) old ≡ and_then (with_field o at number f old) (with_fields o at (number + length (unknown_width f)) (drop (i + 1) fields))
  fields_at fields i number f old h is = ap (λ l. with_fields o at number l old) (next_of fields i f h is)

-- the value of a field at its width, by another name
pub value_same : {V F : Type 0} (o : Values V F) (v : V) (from to number : ℕ) (given : Option ℕ)
    → v ≡ field_value o from number given → from ≡ to → v ≡ field_value o to number given
value_same o v from to number given e h = e ∙ ap (λ (w : ℕ). field_value o w number given) h

-- a value that is put, by another name
pub put_same : {V : Type 0} (at : Scene) (target : Target) (a b : V) (mid new : Carried V) (result : Result (Unit {0}) StepFault)
    → a ≡ b → Meets (assigned at target a mid) result mid new → Meets (assigned at target b mid) result mid new
put_same {V} at target a b mid new result e h = subst (λ (x : V). Meets (assigned at target x mid) result mid new) e h

-- what is left behind a step that goes is what was left
pub left_on : {S : Type 0} (step : Result S LayoutFault) (next : S → Result S LayoutFault) (here whole : Result S LayoutFault) (new : S)
    → here ≡ and_then step next → step ≡ Ok new → here ≡ whole → next new ≡ whole
left_on step next here whole new is h before = sym (is ∙ ap (λ r. and_then r next) h) ∙ before

-- what the test of a field's value tells
pub none_of : (value : Option ℕ) (b : Bool) → is_some value ≡ not b → b ≡ true → value ≡ None
none_of None b e h = refl
none_of (Some n) b e h = cc (ap not h)

pub some_of : (value : Option ℕ) (b : Bool) → is_some value ≡ not b → b ≡ false → (n : ℕ) × (value ≡ Some n)
some_of None b e h = cc (ap not h)
some_of (Some n) b e h = (n, refl)

pub count_unknown : (f : RawField) → f.value ≡ None → length (unknown_width f) ≡ 1
count_unknown f h = ap (λ x. length (width_unless x (width_of f.target))) h

pub count_given : (f : RawField) (n : ℕ) → f.value ≡ Some n → length (unknown_width f) ≡ 0
count_given f n h = ap (λ x. length (width_unless x (width_of f.target))) h
