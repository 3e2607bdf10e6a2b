-- Files with a packet on each line.
use Rattle.std.proofs.Common.{◌≡◌, ◌≢◌, ◌==◌, ◌∙◌, ◌<◌, refl, sym, ap, subst, ℕ, suc, ◌+◌, Bool, true, false, cond, not, if◌then◌else◌, List, [], ◌∷◌, ◌++◌, drop, length, take, length-drop, arith}
use Rattle.std.proofs.lemmas.Bool.{eqb-true}
use Rattle.std.specs.List.{prefix_len}
use Rattle.net_check.specs.Network.{Network, Entry}
use Rattle.sefl_lex.specs.Packets.{packet_of, with_first}
use Rattle.command_edge.specs.Puts.{Outcome, text, refused}
use Rattle.command_edge.specs.declared.fault.OwnFault.{OwnFault}
use Rattle.command_edge.specs.declared.fault.OwnFault.TheVariants.{BadPacket, TooMany}
use Rattle.command_runs.specs.Runs.{IsRefusal}
use Rattle.walk_command.specs.Lines.{AreLinesOf, IsLineOf, LinesOf, TellsRefusal, is_line_byte, line_of, lines}
use Rattle.walk_command.specs.Walks.{WalksOf}
use Rattle.walk_command.proofs.OnceLemmas.{walks_once}

-- ---- the first line

abbrev FirstLine : List ℕ → Type 0
FirstLine bytes = lines bytes ≡ take (prefix_len is_line_byte bytes) bytes ∷ lines (drop 1 (drop (prefix_len is_line_byte bytes) bytes))

one_suc : (n : ℕ) → suc n ≡ 1 + n
one_suc n = omega arith

-- with one byte more before it
longer_by : (c : ℕ) (rest : List ℕ) (feed : Bool) → (feed ≡ false → with_first c (lines rest)
    ≡ (c ∷ take (prefix_len is_line_byte rest) rest) ∷ lines (drop 1 (drop (prefix_len is_line_byte rest) rest)))
    → (if feed then [] ∷ lines rest else with_first c (lines rest))
    ≡ take (cond (not feed) (1 + prefix_len is_line_byte rest) 0) (c ∷ rest)
    ∷ lines (drop 1 (drop (cond (not feed) (1 + prefix_len is_line_byte rest) 0) (c ∷ rest)))
longer_by c rest true longer = refl
longer_by c rest false longer =
    longer refl ∙ ap (λ (n : ℕ). take n (c ∷ rest) ∷ lines (drop 1 (drop n (c ∷ rest)))) (one_suc (prefix_len is_line_byte rest))

first_line : (c : ℕ) (rest : List ℕ) → FirstLine (c ∷ rest)
first_line c [] = longer_by c [] (c == 10) (λ no_feed. refl)
first_line c (d ∷ ds) = longer_by c (d ∷ ds) (c == 10) (λ no_feed. ap (with_first c) (first_line d ds))

pub line_taken : (bytes : List ℕ) → bytes ≢ [] → FirstLine bytes
line_taken [] some = absurd (some refl)
line_taken (c ∷ rest) some = first_line c rest

pub line_shorter : (bytes : List ℕ) (count : ℕ) → bytes ≢ [] → length (drop 1 (drop count bytes)) < length bytes
line_shorter [] count some = absurd (some refl)
line_shorter (c ∷ rest) count some = omega (arith, length-drop 1 (drop count (c ∷ rest)), length-drop count (c ∷ rest))

-- ---- one outcome

module _ (hops limit : ℕ) (net : Network) (i : Entry) where
  one_line : (packet line other : List ℕ) → IsLineOf hops limit net i packet line → IsLineOf hops limit net i packet other → line ≡ other
  one_line packet line other h k = h.is ∙ (ap line_of (walks_once hops limit net i (packet_of packet) h.outcome k.outcome h.comes k.comes) ∙ sym k.is)

  one_text : (packets : List (List ℕ)) (whole other : List ℕ) → AreLinesOf hops limit net i packets whole → AreLinesOf hops limit net i packets other
      → whole ≡ other
  one_text [] whole other h k = h ∙ sym k
  one_text (packet ∷ packets) whole other (line, rest, is, are, joined) (own, later, its, theirs, join) =
      let first = one_line packet line own is its in
      let others = one_text packets rest later are theirs in
      joined ∙ ((λ j. first j ++ others j) ∙ sym join)

  pub lines_once : (bytes : List ℕ) (a b : Outcome) → LinesOf hops limit net i bytes a → LinesOf hops limit net i bytes b → a ≡ b
  lines_once bytes (text e w) (text e' w') h k =
      let ends = h.0 ∙ sym k.0 in
      let texts = one_text (lines bytes) w w' h.1 k.1 in
      λ l. text (ends l) (texts l)
  lines_once bytes (text e w) (refused fault) h k = absurd k
  lines_once bytes (refused fault) b h k = absurd h

-- ---- the line of a packet that is refused

module _ (hops limit : ℕ) (net : Network) (i : Entry) where
  pub refused_line : (packet line : List ℕ) (fault : OwnFault) → IsRefusal (WalksOf hops limit net i (packet_of packet)) fault → TellsRefusal fault line
      → IsLineOf hops limit net i packet line
  refused_line packet line (BadPacket kind) h tells = record { outcome = refused (BadPacket kind); comes = h; is = tells }
  refused_line packet line (TooMany count) h tells = record { outcome = refused (TooMany count); comes = h; is = tells }
  refused_line packet line fault h tells = absurd tells

  -- one line more
  pub line_more : (packet : List ℕ) (packets : List (List ℕ)) (line whole : List ℕ) → IsLineOf hops limit net i packet line
      → AreLinesOf hops limit net i packets whole → AreLinesOf hops limit net i (packet ∷ packets) (line ++ whole)
  line_more packet packets line whole is are = (line, whole, is, are, refl)

  pub no_lines : (bytes : List ℕ) → bytes ≡ [] → AreLinesOf hops limit net i (lines bytes) []
  no_lines bytes none = subst (λ (bs : List ℕ). AreLinesOf hops limit net i (lines bs) []) (sym none) refl

pub nothing_left : (bytes : List ℕ) → (length bytes == 0) ≡ true → bytes ≡ []
nothing_left [] empty = refl
nothing_left (c ∷ rest) empty = let none : length (c ∷ rest) ≡ 0 = eqb-true (length (c ∷ rest)) 0 empty in absurd (omega (arith, none))
