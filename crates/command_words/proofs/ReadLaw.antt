use Rattle.std.proofs.Common.{◌≡◌, refl, sym, ap, ap₂, ◌∙◌, ℕ, List, [], ◌∷◌, ◌++◌, Option, Some, None, true, false, Bool, fold, slice_get, ◌+◌, inl, inr, ◌⊎◌, true≢false, is_some, if◌then◌else◌}
use Rattle.std.specs.List.{list_all}
use Rattle.clap.specs.Kinds.{Kinds, or_else}
use Rattle.clap.specs.Lexer.{long_of}
use Rattle.clap.specs.Walk.{Rule, Held, Text, Row, Walk, idle, option, walked, finished, settled}
use Rattle.clap.specs.Faults.{settle_fault, turn_fault, walk_fault, defaults_fault, check_fault}
use Rattle.command_words.specs.Forms.{Form, Given, add, ends, place_word, option_of, option_word, read_places, read_words, has_name, is_option, begins_with_dash, is_dashes}
use Rattle.command_words.specs.Apps.{rows}
use Rattle.command_words.proofs.Names.{option_is}
use Rattle.command_words.proofs.ReadSteps.{Serves, Holds, shape_with, at_place, held, pending_holds, place_turn, place_walked, free_turn, free_walked, value_turn, value_walked, name_turn, name_walked, wait_turn, wait_walked, dashes_walked, dashes_fault}

-- ---- what a reading tells

pub none_some : {A : Type 0} {x : A} → None ≡ Some x → ⊥
none_some e = absurd (true≢false (sym (ap is_some e)))

pub some_is : {A : Type 0} {x y : A} → Some x ≡ Some y → x ≡ y
some_is {A} {x} {y} e = ap (λ o. from o) e
  where
    from : Option A → A
    from None = x
    from (Some z) = z

pub branch : {A : Type 0} (b : Bool) (x y : Option A) (out : A) → (if b then x else y) ≡ Some out → ((b ≡ true) × (x ≡ Some out)) ⊎ ((b ≡ false) × (y ≡ Some out))
branch true x y out e = inl (refl, e)
branch false x y out e = inr (refl, e)

pub added : (id v : Text) (given : Given) (next : Given → Option Given) (out : Given) → add id v given next ≡ Some out
    → (has_name id given ≡ false) × (next (given ++ (id, v) ∷ []) ≡ Some out)
added id v given next out e = elim (branch (has_name id given) None _ out e) [
  | inl h ↦ absurd (none_some h.1)
  | inr h ↦ h
]

pub placed : (o : Option Text) (v : Text) (given : Given) (next : Given → Option Given) (out : Given) → place_word o v given next ≡ Some out
    → (id : Text) × (o ≡ Some id) × (has_name id given ≡ false) × (next (given ++ (id, v) ∷ []) ≡ Some out)
placed None v given next out e = absurd (none_some e)
placed (Some id) v given next out e = let h = added id v given next out e in (id, refl, h.0, h.1)

-- an option with its value, or one that waits for it
pub optioned : (f : Form) (o : Option (Text × Option Text)) (given : Given) (next : Option Text → Given → Option Given) (out : Given)
    → option_word f o given next ≡ Some out
    → (name : Text) × (is_option f name ≡ true)
    × (((v : Text) × (o ≡ Some (name, Some v)) × (has_name name given ≡ false) × (next None (given ++ (name, v) ∷ []) ≡ Some out))
    ⊎ ((o ≡ Some (name, None)) × (next (Some name) given ≡ Some out)))
optioned f None given next out e = absurd (none_some e)
optioned f (Some (name, Some v)) given next out e = elim (branch (is_option f name) _ None out e) [
  | inl h ↦ let a = added name v given (next None) out h.1 in (name, h.0, inl (v, refl, a.0, a.1))
  | inr h ↦ absurd (none_some h.1)
]
optioned f (Some (name, None)) given next out e = elim (branch (is_option f name) _ None out e) [
  | inl h ↦ (name, h.0, inr (refl, h.1))
  | inr h ↦ absurd (none_some h.1)
]

-- the name of an option as `clap` reads it
pub as_long : (f : Form) (w : Text) (given : Given) (next : Option Text → Given → Option Given) (out : Given)
    → option_word f (option_of w) given next ≡ Some out → option_word f (long_of w) given next ≡ Some out
as_long f w given next out e = ap (λ o. option_word f o given next) (sym (option_is w)) ∙ e

-- ---- what is left of the walk

abbrev pub end_of : List Rule → Walk → List Text → Held
end_of c w words = (fold (walked c []) w words).held

abbrev pub last_fault : List Rule → Held → Kinds
last_fault c h = or_else (settle_fault c false h) (or_else (defaults_fault (settled c h).rows c) (check_fault (shape_with c) (finished c h) false))

-- from w on the words pass, and leave these rows
pub record ReadsAs (c : List Rule) (out : Given) (w : Walk) (words : List Text) : Type 0 where
  pub walks : walk_fault (shape_with c) [] w words ≡ []
  pub lasts : last_fault c (end_of c w words) ≡ []
  pub leaves : finished c (end_of c w words) ≡ rows out

pub step : (c : List Rule) (out : Given) (w next : Walk) (word : Text) (words : List Text) → turn_fault (shape_with c) [] w word ≡ []
    → walked c [] w word ≡ next → ReadsAs c out next words → ReadsAs c out w (word ∷ words)
unfolding walk_fault
step c out w next word words turn goes rest = record {
  walks = ap₂ or_else turn (ap (λ x. walk_fault (shape_with c) [] x words) goes ∙ rest.walks);
  lasts = ap (λ x. last_fault c (end_of c x words)) goes ∙ rest.lasts;
  leaves = ap (λ x. finished c (end_of c x words)) goes ∙ rest.leaves;
}

module _ (f : Form) (c : List Rule) (serves : Serves f c) where
  pub last : (given out : Given) (rs : List Row) (p : Option (Text × List Text)) (k : ℕ) (t : Bool) → Holds c given (held rs p)
      → ends f given ≡ Some out → ReadsAs c out (at_place rs p idle k t) []
  unfolding walk_fault
  last given out rs p k t holds e = elim (branch (list_all (λ id. has_name id given) f.positionals) (Some given) None out e) [
    | inl h ↦ record {
      walks = refl;
      lasts = ap₂ or_else holds.passes (ap₂ or_else (serves.no_default _) (ap (λ x. check_fault (shape_with c) x false) (serves.fills _ ∙ holds.stands) ∙ serves.checks given h.0));
      leaves = serves.fills _ ∙ holds.stands ∙ ap rows (some_is h.1);
    }
    | inr h ↦ absurd (none_some h.1)
  ]

  pub places_law : (words : List Text) (k : ℕ) (given out : Given) (rs : List Row) (p : Option (Text × List Text)) → Holds c given (held rs p)
      → read_places f k given words ≡ Some out → ReadsAs c out (at_place rs p idle k true) words
  places_law [] k given out rs p holds e = last given out rs p k true holds e
  places_law (w ∷ ws) k given out rs p holds e =
      let h = placed (slice_get f.positionals k) w given (λ g. read_places f (k + 1) g ws) out e in
      step c out _ _ w ws (free_turn f c serves given rs p holds k w h.0 h.1) (free_walked f c serves given rs p holds k w h.0 h.1)
      (places_law ws (k + 1) (given ++ (h.0, w) ∷ []) out (rows given) (Some (h.0, w ∷ []))
      (pending_holds c given h.0 w (serves.place_by_id k h.0 h.1) h.2) h.3)

  abbrev Idle : List Text → Type 0
  Idle words = (k : ℕ) (given out : Given) (rs : List Row) (p : Option (Text × List Text)) → Holds c given (held rs p)
      → read_words f None k given words ≡ Some out → ReadsAs c out (at_place rs p idle k false) words

  abbrev Waits : List Text → Type 0
  Waits words = (name : Text) → is_option f name ≡ true → (k : ℕ) (given out : Given)
      → read_words f (Some name) k given words ≡ Some out → ReadsAs c out (at_place (rows given) (Some (name, [])) (option name) k false) words

  word_law : (w : Text) (ws : List Text) → Idle ws → Waits ws → Idle (w ∷ ws)
  word_law w ws idles waits k given out rs p holds e = elim (branch (is_dashes w) _ _ out e) [
    | inl d ↦ step c out _ _ w ws (dashes_fault c rs p k w d.0) (dashes_walked c rs p k w d.0) (places_law ws k given out rs p holds d.1)
    | inr d ↦ elim (branch (begins_with_dash w) _ _ out d.1) [
      | inl b ↦ let o = optioned f (long_of w) given (λ waiting g. read_words f waiting k g ws) out (as_long f w given (λ waiting g. read_words f waiting k g ws) out b.1) in elim o.2 [
        | inl h ↦ step c out _ _ w ws (value_turn f c serves given rs p holds k w o.0 h.0 h.1 d.0 o.1 h.2) (value_walked f c serves given rs p holds k w o.0 h.0 h.1 d.0 o.1 h.2)
            (idles k (given ++ (o.0, h.0) ∷ []) out (rows (given ++ (o.0, h.0) ∷ [])) None (record { passes = refl; stands = refl }) h.3)
        | inr h ↦ step c out _ _ w ws (name_turn f c serves given rs p holds k w o.0 h.0 d.0 o.1) (name_walked f c serves given rs p holds k w o.0 h.0 d.0 o.1)
            (waits o.0 o.1 k given out h.1)
      ]
      | inr b ↦ let h = placed (slice_get f.positionals k) w given (λ g. read_words f None (k + 1) g ws) out b.1 in
          step c out _ _ w ws (place_turn f c serves given rs p holds k w h.0 h.1 b.0) (place_walked f c serves given rs p holds k w h.0 h.1 b.0)
          (idles (k + 1) (given ++ (h.0, w) ∷ []) out (rows given) (Some (h.0, w ∷ [])) (pending_holds c given h.0 w (serves.place_by_id k h.0 h.1) h.2) h.3)
    ]
  ]

  wait_law : (w : Text) (ws : List Text) → Idle ws → Waits (w ∷ ws)
  wait_law w ws idles name known k given out e = elim (branch (begins_with_dash w) None _ out e) [
    | inl b ↦ absurd (none_some b.1)
    | inr b ↦ let h = added name w given (λ g. read_words f None k g ws) out b.1 in
        step c out _ _ w ws (wait_turn f c serves (rows given) k name w known b.0) (wait_walked f c serves (rows given) k name w known b.0)
        (idles k (given ++ (name, w) ∷ []) out (rows given) (Some (name, w ∷ [])) (pending_holds c given name w (serves.option_by_id name known) h.0) h.1)
  ]

  pub words_law : (words : List Text) → Idle words × Waits words
  words_law [] = (λ k given out rs p holds e. last given out rs p k false holds e, λ name known k given out e. absurd (none_some e))
  words_law (w ∷ ws) = let more = words_law ws in (word_law w ws more.0 more.1, wait_law w ws more.0)
