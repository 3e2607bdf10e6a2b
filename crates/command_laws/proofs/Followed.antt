-- Walks along the records that show a packet.
use Rattle.std.proofs.Common.{◌≡◌, ℕ, inl, inr, List, [], ◌∷◌, ◌++◌, map, refl, sym, ap, subst, ◌∙◌, Some, Result, Ok, Err, append-nil}
use Rattle.std.specs.List.{AllByRecursion}
use Rattle.sn_width.specs.declared.faults.LayoutFault.{LayoutFault}
use Rattle.net_check.specs.Network.{Network, Entry}
use Rattle.sefl_meaning.specs.Carried.{Carried}
use Rattle.sefl_meaning.specs.Injected.{walks_from}
use Rattle.sefl_meaning.specs.Order.{BeginsWith, Has}
use Rattle.sefl_meaning.specs.Walks.{Passage, shown}
use Rattle.refutation_check.specs.declared.outcome.Verdict.TheVariants.{Sat, Undecided}
use Rattle.exact_records.specs.Packets.{AreExactFor, HasPacket, HasWalk, Shows}
use Rattle.exact_records.specs.Records.{RecordTree, decisions_of, path, pruned, unexplored}
use Rattle.path_questions.specs.Answers.{IsTrueHit}
use Rattle.path_questions.specs.Questions.{Question}
use Rattle.walk_command.specs.Walks.{WalksOf}
use Rattle.command_edge.specs.Puts.{text}
use Rattle.command_edge.specs.declared.ending.Ending.{Ending}
use Rattle.command_laws.specs.Following.{Carries, IsFollowed}

all_at : (P : RecordTree → Type 0) (rs : List RecordTree) (x : RecordTree) → AllByRecursion P rs → Has rs x → P x
all_at P [] x all has = absurd has
all_at P (y ∷ rs) x all (inl e) = subst P e all.0
all_at P (y ∷ rs) x all (inr has) = all_at P rs x all.1 has

has_there : (front : List RecordTree) (x : RecordTree) (rest : List RecordTree) → Has (front ++ x ∷ rest) x
has_there [] x rest = inl refl
has_there (y ∷ front) x rest = inr (has_there front x rest)

has_shown : (us : List Passage) (u : Passage) → Has us u → Has (map shown us) (shown u)
has_shown [] u h = h
has_shown (w ∷ us) u (inl e) = inl (ap shown e)
has_shown (w ∷ us) u (inr h) = inr (has_shown us u h)

abbrev carried_or : Carried ℕ → Result (Carried ℕ) LayoutFault → Carried ℕ
carried_or none (Ok s) = s
carried_or none (Err fault) = none

ok_same : (s t : Carried ℕ) (r : Result (Carried ℕ) LayoutFault) → r ≡ Ok s → r ≡ Ok t → s ≡ t
ok_same s t r h k = ap (carried_or s) (sym h ∙ k)

module _ (net : Network) (i : Entry) (hops most limit : ℕ) (rs : List RecordTree) (exact : AreExactFor net i hops most rs) where
  -- a record with the decisions of a walk of the packet shows it, and the walk is written
  followed : (x : RecordTree) (v : List ℕ) (ending : Ending) (whole : List ℕ) → Has rs x → HasWalk net i hops v (decisions_of x)
      → WalksOf hops limit net i (Some v) (text ending whole) → IsFollowed net v x whole
  followed x v ending whole has taken written =
      let (w, (s, starts, among), is) = taken in
      let all = written.1 in
      let same : s ≡ all.carried = ok_same s all.carried _ starts.carries all.starts.carries in
      let shows = exact.walks v w (s, starts, among) in
      let begins : BeginsWith (decisions_of x) w.decisions = ([], append-nil (decisions_of x) ∙ sym is) in
      record {
        walks = walks_from net i v hops all.carried;
        line = all.walks.1;
        walk = w;
        is = subst (λ (c : Carried ℕ). Has (walks_from net i v hops c) w) same among;
        shown = all_at (λ y. BeginsWith (decisions_of y) w.decisions → Shows v w y) rs x shows.shown has begins;
      }

  carried_walk : (x : RecordTree) (v : List ℕ) → Carries v x → HasPacket net i hops x → HasWalk net i hops v (decisions_of x)
  carried_walk (path ds places end' fields (Sat values)) v is packet = subst (λ (u : List ℕ). HasWalk net i hops u ds) is packet
  carried_walk (path ds places end' fields (Undecided cause)) v is packet = absurd is
  carried_walk (pruned ds before refutation) v is packet = absurd is
  carried_walk (unexplored ds) v is packet = absurd is

  pub path_followed : (x : RecordTree) (v : List ℕ) (ending : Ending) (whole : List ℕ) → Has rs x → Carries v x
      → WalksOf hops limit net i (Some v) (text ending whole) → IsFollowed net v x whole
  path_followed x v ending whole has carries written =
      followed x v ending whole has (carried_walk x v carries (all_at (HasPacket net i hops) rs x exact.packets has)) written

  pub hit_followed : (q : Question) (number : ℕ) (v : List ℕ) (ending : Ending) (whole : List ℕ) → (hit : IsTrueHit net i hops q rs number v)
      → WalksOf hops limit net i (Some v) (text ending whole) → IsFollowed net v hit.shower whole
  hit_followed q number v ending whole hit written =
      let x = hit.there.walked in
      let has : Has rs hit.shower = subst (λ (ys : List RecordTree). Has ys hit.shower) (sym hit.joined) (has_there hit.front hit.shower hit.rest) in
      let taken : HasWalk net i hops x.packet (decisions_of hit.shower) =
      (shown x.walk, (x.carried, x.starts, has_shown _ x.walk x.is), hit.there.decisions) in
      followed hit.shower v ending whole has (subst (λ (u : List ℕ). HasWalk net i hops u (decisions_of hit.shower)) hit.there.packet taken) written
