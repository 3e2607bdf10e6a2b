-- What `walk` comes to of a packet is one thing.
use Rattle.std.proofs.Common.{◌≡◌, sym, ap, subst, ◌∙◌, ℕ, zero, suc, ◌<◌, ◌≤◌, List, [], ◌∷◌, length, Option, None, Some, arith}
use Rattle.std.proofs.lemmas.Option.{none-some, same_Some}
use Rattle.std.specs.List.{AllByRecursion}
use Rattle.sefl_syntax.specs.Trees.{CondTree}
use Rattle.net_check.specs.Network.{Network, Entry}
use Rattle.sefl_meaning.specs.Carried.{Carried, scene_at}
use Rattle.sefl_meaning.specs.Injected.{FitWidths, IsTrueIn, Starts, unknown_count, unknown_widths, walks_from}
use Rattle.sefl_meaning.specs.Values.{numbers}
use Rattle.sefl_meaning.specs.Walks.{Trail}
use Rattle.concrete_run.specs.Answers.{Walked}
use Rattle.concrete_run.specs.Starting.{IsFirstOther, IsFirstTooWide, IsStartFault}
use Rattle.concrete_run.specs.declared.injecting.StartFault.{StartFault}
use Rattle.concrete_run.specs.declared.injecting.StartFault.TheVariants.{Short, ValueTooWide, WhereFalse, NoMemory}
use Rattle.walk_command.specs.WalkTexts.{walks_text}
use Rattle.command_edge.specs.Puts.{Outcome, text, refused}
use Rattle.command_edge.specs.declared.fault.OwnFault.TheVariants.{BadPacket, TooMany}
use Rattle.walk_command.specs.Walks.{HasTooMany, IsNoStart, IsWalksText, WalksOf, start_kind}

-- ---- one start

fits_length : (ws v : List ℕ) → FitWidths ws v → length ws ≤ length v
fits_length [] v fits = omega arith
fits_length (w ∷ ws) [] fits = absurd fits
fits_length (w ∷ ws) (n ∷ v) fits = let shorter : length ws ≤ length v = fits_length ws v fits.1 in omega (arith, shorter)

none_too_wide : (ws v : List ℕ) (index : ℕ) → FitWidths ws v → IsFirstTooWide ws v index → ⊥
none_too_wide [] v index fits first = absurd first
none_too_wide (w ∷ ws) [] index fits first = absurd first
none_too_wide (w ∷ ws) (n ∷ v) zero fits first = first fits.0
none_too_wide (w ∷ ws) (n ∷ v) (suc index) fits first = none_too_wide ws v index fits.1 first.1

none_other : (Holds : CondTree → Type 0) (tests : List CondTree) (index : ℕ) → AllByRecursion Holds tests → IsFirstOther Holds tests index → ⊥
none_other Holds [] index holds first = absurd first
none_other Holds (test ∷ tests) zero holds first = first holds.0
none_other Holds (test ∷ tests) (suc index) holds first = none_other Holds tests index holds.1 first.1

-- what a packet carries at its start is one thing
same_start : (net : Network) (i : Entry) (v : List ℕ) (s t : Carried ℕ) → Starts net i v s → Starts net i v t → s ≡ t
same_start net i v s t a b = let one = a.carries in let other = b.carries in cc

-- a packet that starts has no cause not to
starts_or_not : (net : Network) (i : Entry) (v : List ℕ) (s : Carried ℕ) (kind : ℕ) (fault : StartFault) → Starts net i v s
    → IsStartFault net i v fault → start_kind fault ≡ Some kind → ⊥
starts_or_not net i v s kind (Short needed) starts is told =
    let enough : length (unknown_widths i.own.fields) ≤ length v = fits_length (unknown_widths i.own.fields) v starts.fits in
    let counted : needed ≡ length (unknown_widths i.own.fields) = is.0 in
    let few : length v < needed = is.1 in
    absurd (omega (arith, enough, counted, few))
starts_or_not net i v s kind (ValueTooWide field) starts is told = none_too_wide (unknown_widths i.own.fields) v field starts.fits is.1
starts_or_not net i v s kind (WhereFalse index) starts (t, but) told =
    let one = starts.carries in
    let other = but.carries in
    let same : t ≡ s = cc in
    none_other (IsTrueIn (scene_at net i.node) (numbers v (unknown_count i)) s) i.own.tests index starts.holds
    (subst (λ u. IsFirstOther (IsTrueIn (scene_at net i.node) (numbers v (unknown_count i)) u) i.own.tests index) same but.fails)
starts_or_not net i v s kind NoMemory starts is told = none-some kind told

-- too few numbers, or one that is too wide, and tests are not asked
short_or_wide : (net : Network) (i : Entry) (v : List ℕ) (needed field : ℕ) → IsStartFault net i v (Short needed) → IsStartFault net i v (ValueTooWide field) → ⊥
short_or_wide net i v needed field short wide =
    let counted : needed ≡ length (unknown_widths i.own.fields) = short.0 in
    let few : length v < needed = short.1 in
    let enough : length (unknown_widths i.own.fields) ≤ length v = wide.0 in
    absurd (omega (arith, enough, counted, few))

short_or_false : (net : Network) (i : Entry) (v : List ℕ) (needed index : ℕ) → IsStartFault net i v (Short needed) → IsStartFault net i v (WhereFalse index) → ⊥
short_or_false net i v needed index short (s, but) =
    let counted : needed ≡ length (unknown_widths i.own.fields) = short.0 in
    let few : length v < needed = short.1 in
    let enough : length (unknown_widths i.own.fields) ≤ length v = fits_length (unknown_widths i.own.fields) v but.fits in
    absurd (omega (arith, enough, counted, few))

wide_or_false : (net : Network) (i : Entry) (v : List ℕ) (field index : ℕ) → IsStartFault net i v (ValueTooWide field) → IsStartFault net i v (WhereFalse index) → ⊥
wide_or_false net i v field index wide (s, but) = none_too_wide (unknown_widths i.own.fields) v field but.fits wide.1

-- of two faults of a packet the kinds are the same
same_kind : (net : Network) (i : Entry) (v : List ℕ) (kind other : ℕ) (f g : StartFault) → IsStartFault net i v f → start_kind f ≡ Some kind
    → IsStartFault net i v g → start_kind g ≡ Some other → kind ≡ other
same_kind net i v kind other (Short needed) (Short needed') is p so q = sym (same_Some 1 kind p) ∙ same_Some 1 other q
same_kind net i v kind other (Short needed) (ValueTooWide field') is p so q = absurd (short_or_wide net i v needed field' is so)
same_kind net i v kind other (Short needed) (WhereFalse index') is p so q = absurd (short_or_false net i v needed index' is so)
same_kind net i v kind other (Short needed) NoMemory is p so q = absurd (none-some other q)
same_kind net i v kind other (ValueTooWide field) (Short needed') is p so q = absurd (short_or_wide net i v needed' field so is)
same_kind net i v kind other (ValueTooWide field) (ValueTooWide field') is p so q = sym (same_Some 2 kind p) ∙ same_Some 2 other q
same_kind net i v kind other (ValueTooWide field) (WhereFalse index') is p so q = absurd (wide_or_false net i v field index' is so)
same_kind net i v kind other (ValueTooWide field) NoMemory is p so q = absurd (none-some other q)
same_kind net i v kind other (WhereFalse index) (Short needed') is p so q = absurd (short_or_false net i v needed' index so is)
same_kind net i v kind other (WhereFalse index) (ValueTooWide field') is p so q = absurd (wide_or_false net i v field' index so is)
same_kind net i v kind other (WhereFalse index) (WhereFalse index') is p so q = sym (same_Some 3 kind p) ∙ same_Some 3 other q
same_kind net i v kind other (WhereFalse index) NoMemory is p so q = absurd (none-some other q)
same_kind net i v kind other NoMemory (Short needed') is p so q = absurd (none-some kind p)
same_kind net i v kind other NoMemory (ValueTooWide field') is p so q = absurd (none-some kind p)
same_kind net i v kind other NoMemory (WhereFalse index') is p so q = absurd (none-some kind p)
same_kind net i v kind other NoMemory NoMemory is p so q = absurd (none-some kind p)

-- a fact of a packet's walks is one of all walks that it has
of_same_walks : (net : Network) (i : Entry) (v : List ℕ) (hops : ℕ) (P Q : List Trail → Type 0) (a : Walked net i v hops P) (b : Walked net i v hops Q)
    → Q (walks_from net i v hops a.carried)
of_same_walks net i v hops P Q a b = subst (λ s. Q (walks_from net i v hops s)) (same_start net i v b.carried a.carried b.starts a.starts) b.walks

-- ---- one outcome

module _ (hops limit : ℕ) (net : Network) (i : Entry) (v : List ℕ) where
  -- there are more walks than the limit, or not
  many_or_text : (whole : List ℕ) → HasTooMany hops limit net i v → IsWalksText hops limit net i v whole → ⊥
  many_or_text whole many is =
      let both = of_same_walks net i v hops _ _ many is in
      let more : limit < length (walks_from net i v hops many.carried) = many.walks in
      let few : length (walks_from net i v hops many.carried) ≤ limit = both.0 in
      absurd (omega (arith, more, few))

  no_start_or_walked : (kind : ℕ) (P : List Trail → Type 0) → IsNoStart hops limit net i v kind → Walked net i v hops P → ⊥
  no_start_or_walked kind P (fault, is, told) walks = starts_or_not net i v walks.carried kind fault walks.starts is told

  same_no_start : (kind other : ℕ) → IsNoStart hops limit net i v kind → IsNoStart hops limit net i v other → kind ≡ other
  same_no_start kind other (f, is, told) (g, is', told') = same_kind net i v kind other f g is told is' told'

  same_text : (whole other : List ℕ) → IsWalksText hops limit net i v whole → IsWalksText hops limit net i v other → whole ≡ other
  same_text whole other a b =
      a.walks.1 ∙ (ap (λ s. walks_text net (walks_from net i v hops s)) (same_start net i v a.carried b.carried a.starts b.starts) ∙ sym b.walks.1)

module _ (hops limit : ℕ) (net : Network) (i : Entry) where
  pub walks_once : (numbers : Option (List ℕ)) (a b : Outcome) → WalksOf hops limit net i numbers a → WalksOf hops limit net i numbers b → a ≡ b
  walks_once None (text e w) b h k = absurd h.1
  walks_once None (refused (TooMany c)) b h k = absurd h.1
  walks_once None (refused (BadPacket x)) (text e w) h k = absurd k.1
  walks_once None (refused (BadPacket x)) (refused (TooMany d)) h k = absurd k.1
  walks_once None (refused (BadPacket x)) (refused (BadPacket y)) h k = ap (λ n. refused (BadPacket n)) (h ∙ sym k)
  walks_once None (refused (BadPacket x)) (refused f) h k = absurd k
  walks_once None (refused f) b h k = absurd h
  walks_once (Some v) (text e w) (text e' w') h k =
      let ends = h.0 ∙ sym k.0 in
      let texts = same_text hops limit net i v w w' h.1 k.1 in
      λ l. text (ends l) (texts l)
  walks_once (Some v) (text e w) (refused (BadPacket y)) h k = absurd (no_start_or_walked hops limit net i v y _ k h.1)
  walks_once (Some v) (text e w) (refused (TooMany d)) h k = absurd (many_or_text hops limit net i v w k.1 h.1)
  walks_once (Some v) (text e w) (refused f) h k = absurd k
  walks_once (Some v) (refused (BadPacket x)) (text e w) h k = absurd (no_start_or_walked hops limit net i v x _ h k.1)
  walks_once (Some v) (refused (BadPacket x)) (refused (BadPacket y)) h k =
      ap (λ n. refused (BadPacket n)) (same_no_start hops limit net i v x y h k)
  walks_once (Some v) (refused (BadPacket x)) (refused (TooMany d)) h k = absurd (no_start_or_walked hops limit net i v x _ h k.1)
  walks_once (Some v) (refused (BadPacket x)) (refused f) h k = absurd k
  walks_once (Some v) (refused (TooMany c)) (text e w) h k = absurd (many_or_text hops limit net i v w h.1 k.1)
  walks_once (Some v) (refused (TooMany c)) (refused (BadPacket y)) h k = absurd (no_start_or_walked hops limit net i v y _ k h.1)
  walks_once (Some v) (refused (TooMany c)) (refused (TooMany d)) h k = ap (λ n. refused (TooMany n)) (h.0 ∙ sym k.0)
  walks_once (Some v) (refused (TooMany c)) (refused f) h k = absurd k
  walks_once (Some v) (refused f) b h k = absurd h
