-- What a sweep knows, a step at a time.
use Rattle.std.proofs.Common.{◌≡◌, ◌∙◌, refl, sym, ap, subst, ℕ, ◌+◌, ◌-◌, ◌≤◌, ◌<◌, ◌==◌, ◌&&◌, ◌||◌, nat_le, nat_lt, max, Bool, true, false, if◌then◌else◌, List, [], ◌∷◌, ◌++◌, reverse, Option, None, Some, arith, ◌⊎◌, inl, inr}
use Rattle.std.specs.List.{AllByRecursion}
use Rattle.std.proofs.lemmas.Bool.Decides.{nat_tests}
use Rattle.std.proofs.lemmas.Bool.{cases_lt, le-leb, lt-ltb}
use Rattle.sn_ranges.specs.Ranges.{in_range, is_member}
use Rattle.std.proofs.lemmas.List.{reverse-append}
use Rattle.std.proofs.lemmas.Option.{none-some, same_Some}
use Rattle.fib_model.specs.Sweeps.{Fills, Goes, first_of, others_of, StartFrom, last_port, set_at, top_port}
use Rattle.table_nodes.specs.TableNodes.{is_port}
use Rattle.fib_model.specs.declared.sweep.Span.{Span}
use Rattle.fib_model.specs.declared.sweep.Open.{Open}
use Rattle.fib_model.specs.declared.sweep.Sweep.{Sweep}

or_none : (b : Bool) → (b || false) ≡ b
or_none true = refl
or_none false = refl

or_assoc : (x y z : Bool) → (x || (y || z)) ≡ ((x || y) || z)
or_assoc true y z = refl
or_assoc false y z = refl

pub member_more : (rs : List (ℕ × ℕ)) (r : ℕ × ℕ) (a : ℕ) → is_member (rs ++ r ∷ []) a ≡ (is_member rs a || (nat_le r.0 a && nat_le a r.1))
unfolding is_member in_range
member_more [] r a = or_none (nat_le r.0 a && nat_le a r.1)
member_more (x ∷ rs) r a =
    ap (λ b. (nat_le x.0 a && nat_le a x.1) || b) (member_more rs r a) ∙ or_assoc (nat_le x.0 a && nat_le a x.1) (is_member rs a) (nat_le r.0 a && nat_le a r.1)

with_one : (b : Bool) (rs : List (ℕ × ℕ)) (r : ℕ × ℕ) (a : ℕ)
    → is_member (if b then rs ++ r ∷ [] else rs) a ≡ (is_member rs a || (b && (nat_le r.0 a && nat_le a r.1)))
with_one true rs r a = member_more rs r a
with_one false rs r a = sym (or_none (is_member rs a))

and_none : (b : Bool) → (b && false) ≡ false
and_none true = refl
and_none false = refl

and_some : (b : Bool) → (b && true) ≡ b
and_some true = refl
and_some false = refl

-- a set with one more range, where all numbers from the start on have the port
pub fills_more : (whole : ℕ → Option ℕ) (start to port : ℕ) (old new : ℕ → List (ℕ × ℕ)) → start < to
    → ((a q : ℕ) → is_member (old q) a ≡ (nat_lt a start && is_port (whole a) q))
    → ((q : ℕ) → new q ≡ (if port == q then old q ++ (start, to - 1) ∷ [] else old q))
    → ((a : ℕ) → start ≤ a → a < to → whole a ≡ Some port)
    → (a q : ℕ) → is_member (new q) a ≡ (nat_lt a to && is_port (whole a) q)
fills_more whole start to port old new less fills noted has a q = by (cases_lt a start) (cases_lt a to)
  where
    all : is_member (new q) a ≡ ((nat_lt a start && is_port (whole a) q) || ((port == q) && (nat_le start a && nat_le a (to - 1))))
    all =
        ap (λ rs. is_member rs a) (noted q) ∙ with_one (port == q) (old q) (start, to - 1) a
        ∙ ap (λ b. b || ((port == q) && (nat_le start a && nat_le a (to - 1)))) (fills a q)

    by : (a < start) ⊎ (start ≤ a) → (a < to) ⊎ (to ≤ a) → is_member (new q) a ≡ (nat_lt a to && is_port (whole a) q)
    by (inl lt) (inl below) =
        let e1 : nat_lt a start ≡ true = lt-ltb a start lt in
        let e2 : nat_le start a ≡ false = grind (arith, nat_tests, lt) in
        let e3 : nat_lt a to ≡ true = lt-ltb a to below in
        all ∙ (λ i. (e1 i && is_port (whole a) q) || ((port == q) && (e2 i && nat_le a (to - 1))))
        ∙ ap (λ b. is_port (whole a) q || b) (and_none (port == q)) ∙ or_none (is_port (whole a) q) ∙ (λ i. sym e3 i && is_port (whole a) q)
    by (inl lt) (inr above) = absurd (omega (arith, lt, above, less))
    by (inr ge) (inl below) =
        let e1 : nat_lt a start ≡ false = grind (arith, nat_tests, ge) in
        let e2 : nat_le start a ≡ true = grind (arith, nat_tests, ge) in
        let e3 : nat_lt a to ≡ true = lt-ltb a to below in
        let e4 : nat_le a (to - 1) ≡ true = grind (arith, nat_tests, below) in
        all ∙ (λ i. (e1 i && is_port (whole a) q) || ((port == q) && (e2 i && e4 i)))
        ∙ and_some (port == q) ∙ (λ i. sym e3 i && is_port (sym (has a ge below) i) q)
    by (inr ge) (inr above) =
        let e1 : nat_lt a start ≡ false = grind (arith, nat_tests, ge) in
        let e2 : nat_le start a ≡ true = grind (arith, nat_tests, ge) in
        let e3 : nat_lt a to ≡ false = grind (arith, nat_tests, above) in
        let e4 : nat_le a (to - 1) ≡ false = grind (arith, nat_tests, above, less) in
        all ∙ (λ i. (e1 i && is_port (whole a) q) || ((port == q) && (e2 i && e4 i)))
        ∙ and_none (port == q) ∙ (λ i. sym e3 i && is_port (whole a) q)

all_and : (rs : List (ℕ × ℕ)) (r : ℕ × ℕ) → AllByRecursion (λ r. r.0 ≤ r.1) rs → r.0 ≤ r.1 → AllByRecursion (λ r. r.0 ≤ r.1) (rs ++ r ∷ [])
all_and [] r all h = (h, tt)
all_and (x ∷ rs) r all h = (all.0, all_and rs r all.1 h)

pub ordered_more : (start to port q : ℕ) (old new : List (ℕ × ℕ)) → start < to → AllByRecursion (λ r. r.0 ≤ r.1) old
    → new ≡ (if port == q then old ++ (start, to - 1) ∷ [] else old) → AllByRecursion (λ r. r.0 ≤ r.1) new
ordered_more start to port q old new less ordered is = subst (AllByRecursion (λ r. r.0 ≤ r.1)) (sym is) (by (port == q))
  where
    by : (b : Bool) → AllByRecursion (λ r. r.0 ≤ r.1) (if b then old ++ (start, to - 1) ∷ [] else old)
    by true = all_and old (start, to - 1) ordered (omega (arith, less))
    by false = ordered

-- ---- the pending spans

pub reaches : (last port a : ℕ) (found : Option ℕ) → a ≤ last → (if nat_le a last then Some port else found) ≡ Some port
reaches last port a found h = ap (λ b. if b then Some port else found) (le-leb a last h)

pub passed : (last port a : ℕ) (found : Option ℕ) → last < a → (if nat_le a last then Some port else found) ≡ found
passed last port a found h = let e : nat_le a last ≡ false = grind (arith, nat_tests, h) in ap (λ b. if b then Some port else found) e

pub top_reaches : (ps : List Open) (p : Open) (a : ℕ) → first_of ps ≡ Some p → a ≤ p.last → top_port ps a ≡ Some p.port
top_reaches [] p a is h = absurd (none-some p is)
top_reaches (q ∷ ps) p a is h =
    let same : q ≡ p = same_Some q p is in
    reaches q.last q.port a (top_port ps a) (subst (λ x. a ≤ x.last) (sym same) h) ∙ ap (λ x. Some x.port) same

pub top_passed : (ps : List Open) (p : Open) (a : ℕ) → first_of ps ≡ Some p → p.last < a → top_port ps a ≡ top_port (others_of ps) a
top_passed [] p a is h = refl
top_passed (q ∷ ps) p a is h =
    let same : q ≡ p = same_Some q p is in
    passed q.last q.port a (top_port ps a) (subst (λ x. x.last < a) (sym same) h)

pub top_none : (ps : List Open) (a : ℕ) → first_of ps ≡ None → top_port ps a ≡ None
top_none [] a is = refl
top_none (q ∷ ps) a is = absurd (none-some q (sym is))

-- what `fill` ensures where it succeeds
abbrev pub Filled : Sweep → ℕ → Option ℕ → Sweep → Type 0
Filled s to found n =
    (whole : ℕ → Option ℕ) → Fills whole s → ((a : ℕ) → s.start ≤ a → a < to → whole a ≡ found) → Fills whole n

-- where spans that begin later change nothing before a number
abbrev pub Later : ℕ → (ℕ → Option ℕ → Option ℕ) → Type 0
Later to rest = (a : ℕ) (found : Option ℕ) → a < to → rest a found ≡ found

pub stops : (s n : Sweep) (to : ℕ) (found : Option ℕ) → Filled s to found n → n.start ≡ max s.start to → n.pending.items ≡ s.pending.items
    → ((a : ℕ) → a < to → top_port (reverse s.pending.items) a ≡ found)
    → (whole : ℕ → Option ℕ) (rest : ℕ → Option ℕ → Option ℕ) → Later to rest → Goes whole rest s → Goes whole rest n
stops s n to found filled start same agree whole rest later goes = (
  filled whole goes.0 (λ a from below. goes.1 a from ∙ later a (top_port (reverse s.pending.items) a) below ∙ agree a below),
  λ a from. goes.1 a (omega (arith, start, from)) ∙ ap (λ ps. rest a (top_port (reverse ps) a)) (sym same),
)

pub goes_on : (s n : Sweep) (to : ℕ) (p : Open) → Filled s (p.last + 1) (Some p.port) n → n.start ≡ max s.start (p.last + 1)
    → first_of (reverse s.pending.items) ≡ Some p → reverse n.pending.items ≡ others_of (reverse s.pending.items) → p.last < to
    → (whole : ℕ → Option ℕ) (rest : ℕ → Option ℕ → Option ℕ) → Later to rest → Goes whole rest s → Goes whole rest n
goes_on s n to p filled start is others less whole rest later goes = (
  filled whole goes.0 (λ a from below. goes.1 a from ∙ later a (top_port (reverse s.pending.items) a) (omega (arith, below, less))
      ∙ top_reaches (reverse s.pending.items) p a is (omega (arith, below))),
  λ a from. goes.1 a (omega (arith, start, from))
      ∙ ap (rest a) (top_passed (reverse s.pending.items) p a is (omega (arith, start, from)) ∙ ap (λ ps. top_port ps a) (sym others)),
)

-- ---- the spans that are left

pub begin_later : (spans : List Span) (n a : ℕ) (found : Option ℕ) → StartFrom n spans → a < n → last_port spans a found ≡ found
begin_later [] n a found order h = refl
begin_later (span ∷ spans) n a found order h =
    let e : nat_le span.first a ≡ false = grind (arith, nat_tests, order.0, h) in
    ap (λ b. last_port spans a (if b && nat_le a span.last then Some span.port else found)) e
    ∙ begin_later spans span.first a found order.1 (omega (arith, order.0, h))

pub opened : (spans : List Span) (span : Span) (s n : Sweep) (whole : ℕ → Option ℕ) → Goes whole (last_port (span ∷ spans)) s → s.start ≡ span.first
    → n.sets.items ≡ s.sets.items → n.start ≡ s.start → n.pending.items ≡ s.pending.items ++ record { last = span.last; port = span.port } ∷ []
    → Goes whole (last_port spans) n
opened spans span s n whole goes start sets same pushed = (
  λ a q. (λ i. is_member (set_at (sets i) q) a) ∙ goes.0 a q ∙ (λ i. nat_lt a (sym same i) && is_port (whole a) q),
  λ a from.
      let e : nat_le span.first a ≡ true = le-leb span.first a (omega (arith, from, same, start)) in
      let open_last : reverse n.pending.items ≡ record { last = span.last; port = span.port } ∷ reverse s.pending.items
      = ap reverse pushed ∙ reverse-append s.pending.items (record { last = span.last; port = span.port } ∷ []) in
      goes.1 a (omega (arith, from, same))
      ∙ ap (λ b. last_port spans a (if b && nat_le a span.last then Some span.port else top_port (reverse s.pending.items) a)) e
      ∙ ap (λ ps. last_port spans a (top_port ps a)) (sym open_last),
)

pub nothing_yet : (whole : ℕ → Option ℕ) (s : Sweep) (spans : List Span) → ((q : ℕ) → set_at s.sets.items q ≡ []) → s.start ≡ 0 → s.pending.items ≡ []
    → ((a : ℕ) → whole a ≡ last_port spans a None) → Goes whole (last_port spans) s
unfolding is_member
nothing_yet whole s spans empty start none is = (
  λ a q.
      let e : nat_lt a 0 ≡ false = grind (arith, nat_tests) in
      (λ i. is_member (empty q i) a) ∙ (λ i. sym e i && is_port (whole a) q) ∙ sym (λ i. nat_lt a (start i) && is_port (whole a) q),
  λ a from. is a ∙ ap (λ ps. last_port spans a (top_port (reverse ps) a)) (sym none),
)

-- one span more
pub took : (spans all : List Span) (span : Span) (s moved n : Sweep) → all ≡ span ∷ spans → StartFrom s.start all
    → ((whole : ℕ → Option ℕ) (rest : ℕ → Option ℕ → Option ℕ) → Later span.first rest → Goes whole rest s → Goes whole rest moved)
    → moved.start ≡ max s.start span.first → n.sets.items ≡ moved.sets.items → n.start ≡ moved.start
    → n.pending.items ≡ moved.pending.items ++ record { last = span.last; port = span.port } ∷ []
    → (whole : ℕ → Option ℕ) → Goes whole (last_port all) s → StartFrom n.start spans × Goes whole (last_port spans) n
took spans all span s moved n is order moves start sets same pushed whole goes =
    let order' : StartFrom s.start (span ∷ spans) = subst (StartFrom s.start) is order in
    let at : moved.start ≡ span.first = omega (arith, start, order'.0) in (
      subst (λ m. StartFrom m spans) (sym (same ∙ at)) order'.1,
      opened spans span moved n whole
          (moves whole (last_port (span ∷ spans)) (λ a found below. begin_later (span ∷ spans) span.first a found (omega arith, order'.1) below)
          (subst (λ xs. Goes whole (last_port xs) s) is goes)) at sets same pushed,
    )
