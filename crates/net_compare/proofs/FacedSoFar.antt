-- The paths that face a path, one after another.
use Rattle.std.proofs.Common.{◌≡◌, ◌∙◌, ◌⊎◌, inl, inr, ℕ, Bool, true, false, List, [], ◌∷◌, ◌++◌, length, map, nat_lt, refl, sym, ap, subst, if◌then◌else◌}
use Rattle.std.proofs.lemmas.List.{append_assoc, map-append}
use Rattle.std.specs.List.{AllByRecursion}
use Rattle.path_cond.specs.Conditions.{Condition}
use Rattle.path_cond.specs.Seen.{AllTyped, ConditionOf, entry_seen, itself, seen}
use Rattle.path_formula.specs.Formulas.{FormulaTree}
use Rattle.path_formula.specs.Typed.{IsTyped}
use Rattle.path_formula.specs.View.{view}
use Rattle.path_formula.specs.declared.formula.Formula.{Formula}
use Rattle.compare_meaning.specs.Clashes.{Agree, Begins}
use Rattle.compare_meaning.specs.Facing.{AreFacingBy, AreFacingFormulas, Faces, IsApart, IsFacingFormula, IsKnownMiss, longer, longest, must_not}
use Rattle.compare_meaning.specs.Paths.{DeliveredPath}
use Rattle.compare_typing.specs.Typing.{IsTypedPath, MissIsTyped, PairsAgree}
use Rattle.net_compare.specs.declared.joining.Decidable.{Decidable}
use Rattle.net_compare.specs.declared.delivery.Delivery.{Delivery}
use Rattle.net_compare.specs.Facings.{FitTogether, FitsWith, IsSound}
use Rattle.net_compare.specs.Joining.{IsReady, denied_by}
use Rattle.net_compare.specs.Saying.{seen_path}
use Rattle.net_compare.proofs.Lacking.{append_none}

abbrev AgreesWith : List ℕ → List ℕ → Type 0
AgreesWith us ws = Begins ws us ⊎ Begins us ws

longer_agrees : (ws vs us : List ℕ) → AgreesWith us ws → AgreesWith us vs → AgreesWith us (longer ws vs)
longer_agrees ws vs us h k = by (nat_lt (length ws) (length vs))
  where
    by : (b : Bool) → AgreesWith us (if b then vs else ws)
    by true = k
    by false = h

longest_agrees : (ws : List ℕ) (fs : List DeliveredPath) (q : DeliveredPath) → AgreesWith q.condition.widths ws → AllByRecursion (λ f. Agree f q) fs
    → AgreesWith q.condition.widths (longest ws fs)
longest_agrees ws [] q h k = h
longest_agrees ws (f ∷ fs) q h k = longest_agrees (longer ws f.condition.widths) fs q (longer_agrees ws f.condition.widths q.condition.widths h k.0) k.1

longest_append : (ws : List ℕ) (fs : List DeliveredPath) (q : DeliveredPath) → longest ws (fs ++ q ∷ []) ≡ longer (longest ws fs) q.condition.widths
longest_append ws [] q = refl
longest_append ws (f ∷ fs) q = longest_append (longer ws f.condition.widths) fs q

all_append : {A : Type 0} (P : A → Type 0) (xs : List A) (y : A) → AllByRecursion P xs → P y → AllByRecursion P (xs ++ y ∷ [])
all_append P [] y h k = (k, tt)
all_append P (x ∷ xs) y h k = (h.0, all_append P xs y h.1 k)

pairs_append : (ps : List DeliveredPath) (q : DeliveredPath) → PairsAgree ps → AllByRecursion (λ p. Agree p q) ps → PairsAgree (ps ++ q ∷ [])
pairs_append [] q h k = (tt, tt)
pairs_append (p ∷ ps) q h k = (all_append (Agree p) ps q h.0 k.0, pairs_append ps q h.1 k.1)

formulas_append : (p : DeliveredPath) (fs : List DeliveredPath) (q : DeliveredPath) (gs : List FormulaTree) (g : FormulaTree) → AreFacingFormulas p fs gs → IsFacingFormula p q g
    → AreFacingFormulas p (fs ++ q ∷ []) (gs ++ g ∷ [])
formulas_append p [] q gs g h k = (g, k, [], refl, ap (λ z. z ++ g ∷ []) h)
formulas_append p (f ∷ fs) q gs g h k = (h.0, h.1, h.2 ++ g ∷ [], formulas_append p fs q h.2 g h.3 k, ap (λ z. z ++ g ∷ []) h.4)

fits_more : (e f : DeliveredPath) (fs rest : List DeliveredPath) (q : DeliveredPath) → q.exit ≡ e.exit → AllByRecursion (FitsWith q) rest
    → AllByRecursion (λ r. r.exit ≡ e.exit → AllByRecursion (λ g. Agree g r) (f ∷ fs)) rest → AllByRecursion (λ r. r.exit ≡ e.exit → AllByRecursion (λ g. Agree g r) (f ∷ (fs ++ q ∷ []))) rest
fits_more e f fs [] q same h k = tt
fits_more e f fs (r ∷ rest) q same h k = (λ at. all_append (λ g. Agree g r) (f ∷ fs) q (k.0 at) (h.0 (same ∙ sym at)), fits_more e f fs rest q same h.1 k.1)

typed_each : (ws : List ℕ) (es : List (FormulaTree × Bool)) (fs : List Formula) → AllTyped itself ws (es ++ map must_not (map view fs)) → AllByRecursion (λ f. IsTyped ws (view f)) fs
typed_each ws [] [] h = tt
typed_each ws [] (f ∷ fs) h = (h.0, typed_each ws [] fs h.1)
typed_each ws (e ∷ es) fs h = typed_each ws es fs h.1

pub typed_paths : (ds : List Delivery) → AllByRecursion IsSound ds → AllByRecursion IsTypedPath (map seen_path ds)
typed_paths [] h = tt
typed_paths (d ∷ ds) h = (h.0.typed, typed_paths ds h.1)

-- what is known of a path before the first of the others
module _ (p : DeliveredPath) (all : List DeliveredPath) where
  pub record SoFar (rest : List DeliveredPath) (start : Decidable) (formulas : List Formula) : Type 0 where
    pub facing : List DeliveredPath
    pub leads : (fs : List DeliveredPath) → AreFacingBy (IsApart p) p rest fs → AreFacingBy (IsApart p) p all (facing ++ fs)
    pub are : AreFacingFormulas p facing (map view formulas)
    pub ready : IsReady start
    pub widths : start.condition.widths ≡ longest p.condition.widths facing
    pub entries : map (entry_seen view) start.condition.entries ≡ p.condition.entries
    pub most_choices : start.condition.most_choices ≡ p.condition.most_choices
    pub faces : AllByRecursion (Faces p) facing
    pub typed : AllByRecursion IsTypedPath facing
    pub agree : PairsAgree (p ∷ facing)
    pub fits : AllByRecursion (λ q. q.exit ≡ p.exit → AllByRecursion (λ f. Agree f q) (p ∷ facing)) rest
    pub together : FitTogether rest
    pub rest_typed : AllByRecursion IsTypedPath rest

  fits_first : (qs : List DeliveredPath) → AllByRecursion (FitsWith p) qs → AllByRecursion (λ q. q.exit ≡ p.exit → AllByRecursion (λ f. Agree f q) (p ∷ [])) qs
  fits_first [] h = tt
  fits_first (q ∷ qs) h = (λ e. (h.0 (sym e), tt), fits_first qs h.1)

  pub so_far_first : (start : Decidable) → IsReady start → seen view start.condition ≡ p.condition → AllByRecursion (FitsWith p) all → FitTogether all → AllByRecursion IsTypedPath all → SoFar all start []
  so_far_first start ready same fits together typed = record {
    facing = [];
    leads = λ fs h. h;
    are = refl;
    ready = ready;
    widths = ap (λ (c : ConditionOf FormulaTree). c.widths) same;
    entries = ap (λ (c : ConditionOf FormulaTree). c.entries) same;
    most_choices = ap (λ (c : ConditionOf FormulaTree). c.most_choices) same;
    faces = tt;
    typed = tt;
    agree = (tt, tt);
    fits = fits_first all fits;
    together = together;
    rest_typed = typed;
  }

  module _ (q : DeliveredPath) (rest : List DeliveredPath) (start : Decidable) (formulas : List Formula) (so : SoFar (q ∷ rest) start formulas) where
    pub fits_next : FitsWith p q
    fits_next e = (so.fits.0 (sym e)).0

    pub symbols_agree : q.exit ≡ p.exit → AgreesWith q.condition.widths start.condition.widths
    symbols_agree e =
        let h = so.fits.0 e in
        subst (AgreesWith q.condition.widths) (sym so.widths) (longest_agrees p.condition.widths so.facing q h.0 h.1)

    pub so_far_past : IsApart p q → SoFar rest start formulas
    so_far_past apart = record {
      facing = so.facing;
      leads = λ fs k. so.leads fs (inr (apart, k));
      are = so.are;
      ready = so.ready;
      widths = so.widths;
      entries = so.entries;
      most_choices = so.most_choices;
      faces = so.faces;
      typed = so.typed;
      agree = so.agree;
      fits = so.fits.1;
      together = so.together.1;
      rest_typed = so.rest_typed.1;
    }

    pub so_far_with : Faces p q → (next : Decidable) → IsReady next
        → next.condition ≡ record start.condition { widths = longer start.condition.widths q.condition.widths }
        → (f : Formula) → IsFacingFormula p q (view f) → SoFar rest next (formulas ++ f ∷ [])
    so_far_with face next ready is f formula = record {
      facing = so.facing ++ q ∷ [];
      leads = λ fs k. subst (AreFacingBy (IsApart p) p all) (sym (append_assoc so.facing (q ∷ []) fs)) (so.leads (q ∷ fs) (inl (face, fs, refl, k)));
      are = subst (AreFacingFormulas p (so.facing ++ q ∷ [])) (sym (map-append view formulas (f ∷ []))) (formulas_append p so.facing q (map view formulas) (view f) so.are formula);
      ready = ready;
      widths = ap (λ (c : Condition). c.widths) is ∙ (ap (λ z. longer z q.condition.widths) so.widths ∙ sym (longest_append p.condition.widths so.facing q));
      entries = ap (λ (c : Condition). map (entry_seen view) c.entries) is ∙ so.entries;
      most_choices = ap (λ (c : Condition). c.most_choices) is ∙ so.most_choices;
      faces = all_append (Faces p) so.facing q so.faces face;
      typed = all_append IsTypedPath so.facing q so.typed so.rest_typed.0;
      agree = pairs_append (p ∷ so.facing) q so.agree (so.fits.0 face.exit);
      fits = fits_more p p so.facing rest q face.exit so.together.0 so.fits.1;
      together = so.together.1;
      rest_typed = so.rest_typed.1;
    }

  module _ (miss : MissIsTyped) (own : IsTypedPath p) (start : Decidable) (formulas : List Formula) (so : SoFar [] start formulas) where
    pub typed_end : AllByRecursion (λ f. IsTyped start.condition.widths (view f)) formulas
    typed_end =
        let typed = miss p so.facing (map view formulas) so.agree so.faces own so.typed so.are in
        subst (λ ws. AllByRecursion (λ f. IsTyped ws (view f)) formulas) (sym so.widths) (typed_each (longest p.condition.widths so.facing) p.condition.entries formulas typed)

    pub miss_end : IsKnownMiss p all (denied_by (seen view start.condition) (map view formulas))
    miss_end = record {
      facing = so.facing;
      are_facing = subst (AreFacingBy (IsApart p) p all) (append_none so.facing) (so.leads [] refl);
      formulas = map view formulas;
      are_formulas = so.are;
      widths = so.widths;
      entries = ap (λ z. z ++ map must_not (map view formulas)) so.entries;
      most_choices = so.most_choices;
    }
