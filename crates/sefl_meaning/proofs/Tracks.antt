-- Values, truths and states of one kind, and what a function of values makes of them.
use Rattle.std.proofs.Common.{◌≡◌, ℕ, ℤ, Bool, List, [], ◌∷◌, ◌+◌, length, map, refl, sym, ap, subst, ◌∙◌, Option, Some, None, Result, Ok, Err, IfOk}
use Rattle.sn_width.specs.declared.faults.LayoutFault.{LayoutFault}
use Rattle.sn_width.specs.declared.ids.TagId.{TagId}
use Rattle.sn_width.specs.declared.rel.Rel.{Rel}
use Rattle.sefl_syntax.specs.declared.expr.Sign.{Sign}
use Rattle.sefl_syntax.specs.declared.expr.Sign.TheVariants.{Plus, Minus}
use Rattle.sefl_syntax.specs.declared.reference.Addr.{Addr}
use Rattle.sefl_syntax.specs.declared.reference.Target.{Target}
use Rattle.sefl_syntax.specs.declared.reference.Target.TheVariants.{Header, Meta, Bound}
use Rattle.sefl_syntax.specs.declared.job.RawField.{RawField}
use Rattle.sefl_syntax.specs.Trees.{ExprTree, constant, reading, sum, SummandTrees, no_summands, summand, CondTree, always, compare, member, all_of, any_of, negation, CondTrees, no_conds, cond_and, InjectionTree}
use Rattle.cell_stacks.specs.Outcome.{and_then, on_ok}
use Rattle.cell_stacks.specs.Valued.{valued}
use Rattle.header_layers.specs.Layout as layout
use Rattle.header_layers.specs.Layout.{Layout, address_of, top_address, base_of}
use Rattle.header_layers.specs.Valued.{layout_valued}
use Rattle.metadata_scopes.specs.Scopes as scopes
use Rattle.metadata_scopes.specs.Scopes.{Metadata, key_cmp}
use Rattle.job_items.specs.Atoms.{comparison, membership}
use Rattle.job_items.specs.AtomRules.{atom_width, width_of}
use Rattle.sefl_meaning.specs.Values.{Values}
use Rattle.sefl_meaning.specs.Network.{tag_id, name_id}
use Rattle.sefl_meaning.specs.Carried.{Carried, Scene, Key, owner_of, bound_key, base_tag, with_layers, with_scopes, stepped, read_at, carried_valued, nothing}
use Rattle.sefl_meaning.specs.Terms.{joined, value_in, sum_in, compared, looked_up, truth_in, truths_in}
use Rattle.sefl_meaning.specs.Steps.{allocated, deallocated, assigned, tag_created, tag_set, tag_destroyed, evaluated}
use Rattle.sefl_meaning.specs.Injected.{with_tags, field_value, with_field, with_fields, unknown_width, injected}
use Rattle.sefl_meaning.specs.Valued.{Fits, Respects, StacksFit, CarriedFits}
use Rattle.sefl_meaning.specs.Laws.{StateLaws}
use Rattle.sefl_meaning.proofs.Fitting.{of_any, pushed_fits, popped_fits, with_top_fits, top_value_fits, LayoutFits, layout_allocated_fits, layout_deallocated_fits, layout_assigned_fits, layout_value_fits}

-- an outcome of one kind, the same of another by a function, and what holds of the first
pub record Tracks {A B E : Type 0} (f : A → B) (P : A → Type 0) (r : Result A E) (t : Result B E) : Type 0 where
  pub same : t ≡ on_ok f r
  pub has : IfOk r P

abbrev pub Anything : {A : Type 0} → A → Type 0
Anything x = Unit {0}

pub track_then : {A B C D E : Type 0} (f : A → B) (P : A → Type 0) (g : C → D) (Q : C → Type 0) (r : Result A E)
    (t : Result B E)
    (next : A → Result C E) (next_valued : B → Result D E) → Tracks f P r t →
    ((x : A) → P x → Tracks g Q (next x) (next_valued (f x))) →
    Tracks g Q (and_then r next) (and_then t next_valued)
track_then f P g Q (Ok x) t next next_valued h k = record {
  same = ap (λ u. and_then u next_valued) h.same ∙ (k x h.has).same;
  has = (k x h.has).has;
}
track_then f P g Q (Err e) t next next_valued h k = record { same = ap (λ u. and_then u next_valued) h.same; has = tt }

-- a function of what both give
pub track_on : {A B C D E : Type 0} (f : A → B) (P : A → Type 0) (g : C → D) (Q : C → Type 0) (r : Result A E)
    (t : Result B E)
    (last : A → C) (last_valued : B → D) → Tracks f P r t → ((x : A) → P x → last_valued (f x) ≡ g (last x)) →
    ((x : A) → P x → Q (last x)) →
    Tracks g Q (on_ok last r) (on_ok last_valued t)
track_on f P g Q (Ok x) t last last_valued h k q =
    record { same = ap (on_ok last_valued) h.same ∙ ap Ok (k x h.has); has = q x h.has }
track_on f P g Q (Err e) t last last_valued h k q = record { same = ap (on_ok last_valued) h.same; has = tt }

track_key : {C D : Type 0} (g : C → D) (Q : C → Type 0) (key : Result Key LayoutFault)
    (next : Key → Result C LayoutFault) (next_valued : Key → Result D LayoutFault) →
    ((k : Key) → Tracks g Q (next k) (next_valued k)) → Tracks g Q (and_then key next) (and_then key next_valued)
track_key g Q (Ok k) next next_valued h = h k
track_key g Q (Err e) next next_valued h = record { same = refl; has = tt }

-- ---- states

module _ {V W : Type 0} (fits : ℕ → V → Bool) (f : V → W) (laws : StateLaws f) where
  pub read_tracks : (at : Scene) (w : ℕ) (target : Target) (s : Carried V) → CarriedFits fits s →
      Tracks f (Fits fits w) (read_at at w target s) (read_at at w target (carried_valued f s))
  read_tracks at w (Header addr width) s h = record {
    same = laws.headers.read (base_tag at.net addr) addr.offset w s.layers;
    has = layout_value_fits fits (base_tag at.net addr) addr.offset w s.layers h.heads;
  }
  read_tracks at w (Meta scope name width) s h = record {
    same = laws.metadata.read (owner_of scope at.node) (name_id at.net name) w s.scopes;
    has = top_value_fits fits key_cmp _ (owner_of scope at.node, name_id at.net name) w s.scopes h.scopes;
  }
  read_tracks at w (Bound var width) s h = track_key f (Fits fits w) (bound_key at.iterations var) _ _ (λ key. record {
    same = laws.metadata.read key.0 key.1 w s.scopes;
    has = top_value_fits fits key_cmp _ (key.0, key.1) w s.scopes h.scopes;
  })

  layers_track : (s : Carried V) → CarriedFits fits s →
      (r : Result (Layout V) LayoutFault) (t : Result (Layout W) LayoutFault) →
      Tracks (layout_valued f) (LayoutFits fits) r t →
      Tracks (carried_valued f) (CarriedFits fits) (on_ok (with_layers s) r)
      (on_ok (with_layers (carried_valued f s)) t)
  layers_track s h r t track =
      track_on (layout_valued f) (LayoutFits fits) (carried_valued f) (CarriedFits fits) r t (with_layers s)
      (with_layers (carried_valued f s)) track
      (λ l fit. refl) (λ l fit. record { heads = fit; scopes = h.scopes })

  scopes_track : (s : Carried V) → CarriedFits fits s →
      (r : Result (Metadata V) LayoutFault) (t : Result (Metadata W) LayoutFault) →
      Tracks (valued f) (StacksFit fits) r t →
      Tracks (carried_valued f) (CarriedFits fits) (on_ok (with_scopes s) r)
      (on_ok (with_scopes (carried_valued f s)) t)
  scopes_track s h r t track =
      track_on (valued f) (StacksFit fits) (carried_valued f) (CarriedFits fits) r t (with_scopes s)
      (with_scopes (carried_valued f s)) track
      (λ m fit. refl) (λ m fit. record { heads = h.heads; scopes = fit })

  stepped_tracks : (at : Scene) (target : Target) (s : Carried V)
      (on_layers : Option TagId → ℤ → Layout V → Result (Layout V) LayoutFault)
      (on_layers_valued : Option TagId → ℤ → Layout W → Result (Layout W) LayoutFault)
      (on_scopes : Key → Metadata V → Result (Metadata V) LayoutFault)
      (on_scopes_valued : Key → Metadata W → Result (Metadata W) LayoutFault) →
      CarriedFits fits s →
      ((tag : Option TagId) (offset : ℤ) →
      Tracks (layout_valued f) (LayoutFits fits) (on_layers tag offset s.layers)
      (on_layers_valued tag offset (layout_valued f s.layers))) →
      ((key : Key) →
      Tracks (valued f) (StacksFit fits) (on_scopes key s.scopes) (on_scopes_valued key (valued f s.scopes))) →
      Tracks (carried_valued f) (CarriedFits fits) (stepped at target on_layers on_scopes s)
      (stepped at target on_layers_valued on_scopes_valued (carried_valued f s))
  stepped_tracks at (Header addr width) s on_layers on_layers_valued on_scopes on_scopes_valued h l m =
      layers_track s h (on_layers (base_tag at.net addr) addr.offset s.layers)
      (on_layers_valued (base_tag at.net addr) addr.offset (layout_valued f s.layers))
      (l (base_tag at.net addr) addr.offset)
  stepped_tracks at (Meta scope name width) s on_layers on_layers_valued on_scopes on_scopes_valued h l m =
      scopes_track s h (on_scopes (owner_of scope at.node, name_id at.net name) s.scopes)
      (on_scopes_valued (owner_of scope at.node, name_id at.net name) (valued f s.scopes))
      (m (owner_of scope at.node, name_id at.net name))
  stepped_tracks at (Bound var width) s on_layers on_layers_valued on_scopes on_scopes_valued h l m =
      track_key (carried_valued f) (CarriedFits fits) (bound_key at.iterations var) _ _ (λ key.
      scopes_track s h (on_scopes key s.scopes) (on_scopes_valued key (valued f s.scopes)) (m key))

  pub allocated_tracks : (at : Scene) (target : Target) (s : Carried V) → CarriedFits fits s →
      Tracks (carried_valued f) (CarriedFits fits) (allocated at target s) (allocated at target (carried_valued f s))
  allocated_tracks at target s h = stepped_tracks at target s
      (λ tag offset l. layout.allocated tag offset (width_of target) l)
      (λ tag offset l. layout.allocated tag offset (width_of target) l)
      (λ key m. scopes.allocated key.0 key.1 (width_of target) m)
      (λ key m. scopes.allocated key.0 key.1 (width_of target) m) h
      (λ tag offset. record {
        same = laws.headers.allocate tag offset (width_of target) s.layers;
        has = layout_allocated_fits fits tag offset (width_of target) s.layers h.heads;
      })
      (λ key. record {
        same = laws.metadata.allocate key.0 key.1 (width_of target) s.scopes;
        has = pushed_fits fits key_cmp (key.0, key.1) (width_of target) s.scopes h.scopes;
      })

  pub deallocated_tracks : (at : Scene) (target : Target) (s : Carried V) → CarriedFits fits s →
      Tracks (carried_valued f) (CarriedFits fits) (deallocated at target s)
      (deallocated at target (carried_valued f s))
  deallocated_tracks at target s h = stepped_tracks at target s
      (λ tag offset l. layout.deallocated tag offset (width_of target) l)
      (λ tag offset l. layout.deallocated tag offset (width_of target) l)
      (λ key m. scopes.deallocated key.0 key.1 (width_of target) m)
      (λ key m. scopes.deallocated key.0 key.1 (width_of target) m) h
      (λ tag offset. record {
        same = laws.headers.deallocate tag offset (width_of target) s.layers;
        has = layout_deallocated_fits fits tag offset (width_of target) s.layers h.heads;
      })
      (λ key. record {
        same = laws.metadata.deallocate key.0 key.1 (width_of target) s.scopes;
        has = popped_fits fits key_cmp _ (key.0, key.1) (width_of target) s.scopes h.scopes;
      })

  pub assigned_tracks : (at : Scene) (target : Target) (value : V) (s : Carried V) →
      Fits fits (width_of target) value → CarriedFits fits s →
      Tracks (carried_valued f) (CarriedFits fits) (assigned at target value s)
      (assigned at target (f value) (carried_valued f s))
  assigned_tracks at target value s held h = stepped_tracks at target s
      (λ tag offset l. layout.assigned tag offset (width_of target) value l)
      (λ tag offset l. layout.assigned tag offset (width_of target) (f value) l)
      (λ key m. scopes.assigned key.0 key.1 (width_of target) value m)
      (λ key m. scopes.assigned key.0 key.1 (width_of target) (f value) m) h
      (λ tag offset. record {
        same = laws.headers.assign tag offset (width_of target) value s.layers;
        has = layout_assigned_fits fits tag offset (width_of target) value s.layers held h.heads;
      })
      (λ key. record {
        same = laws.metadata.assign key.0 key.1 (width_of target) value s.scopes;
        has = with_top_fits fits key_cmp _ (key.0, key.1) (width_of target) value s.scopes held h.scopes;
      })

  pub tag_created_tracks : (at : Scene) (name : List ℕ) (addr : Addr) (s : Carried V) → CarriedFits fits s →
      Tracks (carried_valued f) (CarriedFits fits) (tag_created at name addr s)
      (tag_created at name addr (carried_valued f s))
  tag_created_tracks at name addr s h =
      layers_track s h (layout.tag_created (tag_id at.net name) (base_tag at.net addr) addr.offset s.layers) _ (record {
        same = laws.headers.create_tag (tag_id at.net name) (base_tag at.net addr) addr.offset s.layers;
        has = of_any (LayoutFits fits) _ (address_of (base_tag at.net addr) addr.offset s.layers.tags)
            (λ address. h.heads);
      })

  pub tag_set_tracks : (at : Scene) (name : List ℕ) (addr : Addr) (s : Carried V) → CarriedFits fits s →
      Tracks (carried_valued f) (CarriedFits fits) (tag_set at name addr s) (tag_set at name addr (carried_valued f s))
  tag_set_tracks at name addr s h =
      layers_track s h (layout.tag_set (tag_id at.net name) (base_tag at.net addr) addr.offset s.layers) _ (record {
        same = laws.headers.set_tag (tag_id at.net name) (base_tag at.net addr) addr.offset s.layers;
        has = of_any (LayoutFits fits) _ (address_of (base_tag at.net addr) addr.offset s.layers.tags)
            (λ address. h.heads);
      })

  pub tag_destroyed_tracks : (at : Scene) (name : List ℕ) (s : Carried V) → CarriedFits fits s →
      Tracks (carried_valued f) (CarriedFits fits) (tag_destroyed at name s)
      (tag_destroyed at name (carried_valued f s))
  tag_destroyed_tracks at name s h =
      layers_track s h (layout.tag_destroyed (tag_id at.net name) s.layers) _ (record {
        same = laws.headers.destroy_tag (tag_id at.net name) s.layers;
        has = of_any (LayoutFits fits) _ (base_of (Some (tag_id at.net name)) s.layers.tags) (λ address. h.heads);
      })

-- ---- expressions, conditions and injections

module _ {V F W G : Type 0} (fits : ℕ → V → Bool) (o : Values V F) (p : Values W G) (f : V → W) (g : F → G)
    (rules : Respects fits o p f g) (laws : StateLaws f) where
  joined_same : (w : ℕ) (sign : Sign) (a b : V) → Fits fits w a → Fits fits w b →
      f (joined o w sign a b) ≡ joined p w sign (f a) (f b)
  joined_same w Plus a b ha hb = rules.plus w a b ha hb
  joined_same w Minus a b ha hb = rules.minus w a b ha hb

  joined_fits : (w : ℕ) (sign : Sign) (a b : V) → Fits fits w a → Fits fits w b → Fits fits w (joined o w sign a b)
  joined_fits w Plus a b ha hb = rules.keeps.plus w a b ha hb
  joined_fits w Minus a b ha hb = rules.keeps.minus w a b ha hb

  module _ (at : Scene) where
    mutual
      pub value_tracks : (w : ℕ) (e : ExprTree) (s : Carried V) → CarriedFits fits s →
          Tracks f (Fits fits w) (value_in o at w e s) (value_in p at w e (carried_valued f s))
      value_tracks w (constant n) s h =
          record { same = ap Ok (sym (rules.constant w n)); has = rules.keeps.constant w n }
      value_tracks w (reading target) s h = read_tracks fits f laws at w target s h
      value_tracks w (sum first rest) s h =
          track_then f (Fits fits w) f (Fits fits w) (value_in o at w first s)
          (value_in p at w first (carried_valued f s)) _ _
          (value_tracks w first s h) (λ a ha. sum_tracks w a rest s ha h)

      sum_tracks : (w : ℕ) (a : V) (rest : SummandTrees) (s : Carried V) → Fits fits w a → CarriedFits fits s →
          Tracks f (Fits fits w) (sum_in o at w a rest s) (sum_in p at w (f a) rest (carried_valued f s))
      sum_tracks w a no_summands s ha h = record { same = refl; has = ha }
      sum_tracks w a (summand sign e rest) s ha h =
          track_then f (Fits fits w) f (Fits fits w) (value_in o at w e s) (value_in p at w e (carried_valued f s))
          (λ b. sum_in o at w (joined o w sign a b) rest s)
          (λ b. sum_in p at w (joined p w sign (f a) b) rest (carried_valued f s))
          (value_tracks w e s h)
          (λ b hb. subst
          (λ (x : W). Tracks f (Fits fits w) (sum_in o at w (joined o w sign a b) rest s)
          (sum_in p at w x rest (carried_valued f s)))
          (joined_same w sign a b ha hb) (sum_tracks w (joined o w sign a b) rest s (joined_fits w sign a b ha hb) h))

    compared_tracks : (w : ℕ) (rel : Rel) (left right : ExprTree) (s : Carried V) → CarriedFits fits s →
        Tracks g Anything (compared o at w rel left right s) (compared p at w rel left right (carried_valued f s))
    compared_tracks w rel left right s h =
        track_then f (Fits fits w) g Anything (value_in o at w left s) (value_in p at w left (carried_valued f s)) _ _
        (value_tracks w left s h) (λ a ha.
        track_on f (Fits fits w) g Anything (value_in o at w right s) (value_in p at w right (carried_valued f s))
        (o.compare w rel a) (p.compare w rel (f a))
        (value_tracks w right s h) (λ b hb. sym (rules.compare w rel a b ha hb)) (λ b hb. tt))

    looked_tracks : (w : ℕ) (value : ExprTree) (ranges : List (ℕ × ℕ)) (s : Carried V) → CarriedFits fits s →
        Tracks g Anything (looked_up o at w value ranges s) (looked_up p at w value ranges (carried_valued f s))
    looked_tracks w value ranges s h =
        track_on f (Fits fits w) g Anything (value_in o at w value s) (value_in p at w value (carried_valued f s))
        (λ a. o.member w a ranges) (λ a. p.member w a ranges)
        (value_tracks w value s h) (λ a ha. sym (rules.member w a ranges ha)) (λ a ha. tt)

    mutual
      pub truth_tracks : (test : CondTree) (s : Carried V) → CarriedFits fits s →
          Tracks g Anything (truth_in o at test s) (truth_in p at test (carried_valued f s))
      truth_tracks always s h = record { same = ap Ok (sym rules.always); has = tt }
      truth_tracks (compare rel left right) s h =
          compared_tracks (atom_width (comparison left right)) rel left right s h
      truth_tracks (member value ranges) s h = looked_tracks (atom_width (membership value ranges)) value ranges s h
      truth_tracks (all_of conds) s h =
          track_on (map g) Anything g Anything (truths_in o at conds s) (truths_in p at conds (carried_valued f s))
          o.all_of p.all_of (truths_tracks conds s h)
          (λ fs u. sym (rules.all_of fs)) (λ fs u. tt)
      truth_tracks (any_of conds) s h =
          track_on (map g) Anything g Anything (truths_in o at conds s) (truths_in p at conds (carried_valued f s))
          o.any_of p.any_of (truths_tracks conds s h)
          (λ fs u. sym (rules.any_of fs)) (λ fs u. tt)
      truth_tracks (negation c) s h =
          track_on g Anything g Anything (truth_in o at c s) (truth_in p at c (carried_valued f s)) o.negation
          p.negation (truth_tracks c s h)
          (λ t u. sym (rules.negation t)) (λ t u. tt)

      truths_tracks : (conds : CondTrees) (s : Carried V) → CarriedFits fits s →
          Tracks (map g) Anything (truths_in o at conds s) (truths_in p at conds (carried_valued f s))
      truths_tracks no_conds s h = record { same = refl; has = tt }
      truths_tracks (cond_and c conds) s h =
          track_then g Anything (map g) Anything (truth_in o at c s) (truth_in p at c (carried_valued f s)) _ _
          (truth_tracks c s h) (λ t u.
          track_on (map g) Anything (map g) Anything (truths_in o at conds s)
          (truths_in p at conds (carried_valued f s)) (λ fs. t ∷ fs) (λ fs. g t ∷ fs)
          (truths_tracks conds s h) (λ fs u. refl) (λ fs u. tt))

    pub evaluated_tracks : (target : Target) (value : ExprTree) (s : Carried V) → CarriedFits fits s →
        Tracks (carried_valued f) (CarriedFits fits) (evaluated o at target value s)
        (evaluated p at target value (carried_valued f s))
    evaluated_tracks target value s h =
        track_then f (Fits fits (width_of target)) (carried_valued f) (CarriedFits fits)
        (value_in o at (width_of target) value s)
        (value_in p at (width_of target) value (carried_valued f s)) _ _ (value_tracks (width_of target) value s h)
        (λ a ha. assigned_tracks fits f laws at target a s ha h)

    tags_track : (lines : List (List ℕ × Addr)) (s : Carried V) → CarriedFits fits s →
        Tracks (carried_valued f) (CarriedFits fits) (with_tags o at lines s)
        (with_tags p at lines (carried_valued f s))
    tags_track [] s h = record { same = refl; has = h }
    tags_track (line ∷ lines) s h =
        track_then (carried_valued f) (CarriedFits fits) (carried_valued f) (CarriedFits fits)
        (tag_set at line.0 line.1 s)
        (tag_set at line.0 line.1 (carried_valued f s)) _ _ (tag_set_tracks fits f laws at line.0 line.1 s h)
        (λ next fit. tags_track lines next fit)

    field_value_same : (w number : ℕ) (value : Option ℕ) →
        f (field_value o w number value) ≡ field_value p w number value
    field_value_same w number None = rules.unknown w number
    field_value_same w number (Some n) = rules.constant w n

    field_value_fits : (w number : ℕ) (value : Option ℕ) → Fits fits w (field_value o w number value)
    field_value_fits w number None = rules.keeps.unknown w number
    field_value_fits w number (Some n) = rules.keeps.constant w n

    field_tracks : (number : ℕ) (field : RawField) (s : Carried V) → CarriedFits fits s →
        Tracks (carried_valued f) (CarriedFits fits) (with_field o at number field s)
        (with_field p at number field (carried_valued f s))
    field_tracks number field s h =
        track_then (carried_valued f) (CarriedFits fits) (carried_valued f) (CarriedFits fits)
        (allocated at field.target s)
        (allocated at field.target (carried_valued f s))
        (assigned at field.target (field_value o (width_of field.target) number field.value))
        (assigned at field.target (field_value p (width_of field.target) number field.value))
        (allocated_tracks fits f laws at field.target s h)
        (λ next fit. subst (λ (x : W). Tracks (carried_valued f) (CarriedFits fits)
        (assigned at field.target (field_value o (width_of field.target) number field.value) next)
        (assigned at field.target x (carried_valued f next)))
        (field_value_same (width_of field.target) number field.value)
        (assigned_tracks fits f laws at field.target (field_value o (width_of field.target) number field.value) next
        (field_value_fits (width_of field.target) number field.value) fit))

    fields_track : (number : ℕ) (fields : List RawField) (s : Carried V) → CarriedFits fits s →
        Tracks (carried_valued f) (CarriedFits fits) (with_fields o at number fields s)
        (with_fields p at number fields (carried_valued f s))
    fields_track number [] s h = record { same = refl; has = h }
    fields_track number (field ∷ fields) s h =
        track_then (carried_valued f) (CarriedFits fits) (carried_valued f) (CarriedFits fits)
        (with_field o at number field s)
        (with_field p at number field (carried_valued f s)) _ _ (field_tracks number field s h)
        (λ next fit. fields_track (number + length (unknown_width field)) fields next fit)

    pub injected_tracks : (i : InjectionTree) →
        Tracks (carried_valued f) (CarriedFits fits) (injected o at i) (injected p at i)
    injected_tracks i =
        track_then (carried_valued f) (CarriedFits fits) (carried_valued f) (CarriedFits fits)
        (with_tags o at i.tags nothing) (with_tags p at i.tags nothing) _ _
        (tags_track i.tags nothing (record { heads = tt; scopes = tt })) (λ next fit. fields_track 0 i.fields next fit)
