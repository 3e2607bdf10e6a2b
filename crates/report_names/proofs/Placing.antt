-- Places and their texts, both ways.
use Rattle.std.proofs.Common.{◌≡◌, ◌≢◌, ◌<◌, ◌==◌, ◌^◌, ℕ, zero, suc, List, [], ◌∷◌, ◌++◌, length, get_or, Bool, true, false, Option, Some, None, true≢false, refl, sym, ap, ◌∙◌, subst, arith}
use Rattle.std.specs.Prelude.{◌&&◌, codes, decimal, nat_le, bytes_eq, option_map, unwrap_or, if◌then◌else◌}
use Rattle.std.specs.List.{list_all}
use Rattle.std.proofs.lemmas.Bool.Decides.{nat_tests}
use Rattle.std.proofs.lemmas.Slice.Eq.{bytes_eq-Decides}
use Rattle.serde_json.specs.Data.{string}
use Rattle.sn_width.specs.declared.ids.NodeId.{NodeId}
use Rattle.sefl_lex.specs.Bytes.{begins, is_name_byte, is_name_start}
use Rattle.sefl_syntax.specs.Name.{is_name}
use Rattle.sefl_syntax.specs.declared.net.Side.{Side}
use Rattle.sefl_syntax.specs.declared.net.Side.TheVariants.{Inward, Outward}
use Rattle.sefl_meaning.specs.declared.walk.Place.{Place}
use Rattle.net_check.specs.Places.{node_position}
use Rattle.net_check.specs.Network.{Network}
use Rattle.run_text.specs.Names.{node_name}
use Rattle.run_text.specs.Forms.{side_text, place_data}
use Rattle.report_names.specs.Names.{halves, side_named, port_of, placed, placed_by, place_by, place_named, node_named}
use Rattle.report_names.specs.Own.{IsOwnNode, IsOwnPlace}
use Rattle.report_names.proofs.Found.{Positions, node_is, test_passes}
use Rattle.report_names.proofs.Halves.{cut}
use Rattle.report_names.proofs.Ports.{both, port_some, port_is}

-- ---- a place is found by its text

no_point : (s : List ℕ) → list_all is_name_byte s ≡ true → (i : ℕ) → i < length s → get_or s i 0 ≢ 46
no_point [] h i below e = absurd (omega arith)
no_point (b ∷ s) h zero below e =
    let one : is_name_byte b ≡ true = (both (is_name_byte b) (list_all is_name_byte s) h).0 in
    let other : is_name_byte 46 ≡ true = subst (λ x. is_name_byte x ≡ true) e one in
    true≢false (sym other)
no_point (b ∷ s) h (suc i) below e = no_point s (both (is_name_byte b) (list_all is_name_byte s) h).1 i (omega arith) e

name_has_no_point : (s : List ℕ) → is_name s ≡ true → (i : ℕ) → i < length s → get_or s i 0 ≢ 46
name_has_no_point s h =
    let front = both (begins is_name_start s && list_all is_name_byte s) (nat_le (length s) 64) h in
    no_point s (both (begins is_name_start s) (list_all is_name_byte s) front.0).1

found_at : (net : Network) (side : Side) (node : NodeId) (port : ℕ) → IsOwnNode net node → port < 2 ^ 32 →
    place_named net (side_text side ++ (node_name net node ++ (codes "." ++ decimal port))) ≡ Some (record { node = node; side = side; port = port })
unfolding place_named
found_at net Inward node port h low =
    let name = node_name net node in
    let none = name_has_no_point name (test_passes (is_name name) (node_position net.own name) node.0 h).0 in
    rw (cut 46 name (decimal port) none, h, sym (port_some (decimal port) port refl low)) refl
found_at net Outward node port h low =
    let name = node_name net node in
    let none = name_has_no_point name (test_passes (is_name name) (node_position net.own name) node.0 h).0 in
    rw (cut 46 name (decimal port) none, h, sym (port_some (decimal port) port refl low)) refl

pub place_found : (net : Network) (place : Place) → IsOwnPlace net place →
    place_named net (side_text place.side ++ (node_name net place.node ++ (codes "." ++ decimal place.port))) ≡ Some place
place_found net place h = found_at net place.side place.node place.port h.0 h.1

-- ---- what is found by a text has this text

abbrev Halved : Type 0
Halved = List ℕ × List ℕ

-- the byte stands first
abbrev here : List ℕ → Option Halved
here bs = Some ([], bs)

abbrev behind : ℕ → Option Halved → Option Halved
behind b rest = option_map (λ (p : Halved). (b ∷ p.0, p.1)) rest

first_is : (a b c d : List ℕ) → (let x : Option Halved = Some (a, b) in x) ≡ Some (c, d) → a ≡ c
first_is a b c d h = ap (λ (o : Option Halved). (unwrap_or o ([], [])).0) h

second_is : (a b c d : List ℕ) → (let x : Option Halved = Some (a, b) in x) ≡ Some (c, d) → b ≡ d
second_is a b c d h = ap (λ (o : Option Halved). (unwrap_or o ([], [])).1) h

same_byte : (b c : ℕ) → (b == c) ≡ true → b ≡ c
same_byte b c h = grind (arith, nat_tests)

by_first : (c b : ℕ) (bs xs ys : List ℕ) (t : Bool) → (b == c) ≡ t → (rest : Option Halved) → ((us vs : List ℕ) → rest ≡ Some (us, vs) → bs ≡ us ++ c ∷ vs) →
    (if t then here bs else behind b rest) ≡ Some (xs, ys) → b ∷ bs ≡ xs ++ c ∷ ys
by_first c b bs xs ys true e rest next h =
    let first = first_is [] bs xs ys h in
    let second = second_is [] bs xs ys h in
    let same = same_byte b c e in
    (λ i. same i ∷ second i) ∙ ap (λ l. l ++ c ∷ ys) first
by_first c b bs xs ys false e None next h = cc
by_first c b bs xs ys false e (Some p) next h =
    let first = first_is (b ∷ p.0) p.1 xs ys h in
    let second = second_is (b ∷ p.0) p.1 xs ys h in
    ap (λ l. b ∷ l) (next p.0 p.1 refl) ∙ (λ i. first i ++ (c ∷ second i))

rejoined : (c : ℕ) (bs xs ys : List ℕ) → halves c bs ≡ Some (xs, ys) → bs ≡ xs ++ c ∷ ys
rejoined c [] xs ys h = cc
rejoined c (b ∷ bs) xs ys h = by_first c b bs xs ys (b == c) refl (halves c bs) (rejoined c bs) h

side_by : (s : List ℕ) (a b : Bool) → bytes_eq s (codes "in") ≡ a → bytes_eq s (codes "out") ≡ b → (side : Side) →
    (if a then Some Inward else (if b then Some Outward else None)) ≡ Some side → (rest : List ℕ) → side_text side ++ rest ≡ s ++ 32 ∷ rest
side_by s true b e f side h rest =
    let is : s ≡ codes "in" = (bytes_eq-Decides s (codes "in")).0 e in
    let this : Inward ≡ side = ap (λ o. unwrap_or o Inward) h in
    ap (λ d. side_text d ++ rest) (sym this) ∙ ap (λ l. l ++ 32 ∷ rest) (sym is)
side_by s false true e f side h rest =
    let is : s ≡ codes "out" = (bytes_eq-Decides s (codes "out")).0 f in
    let this : Outward ≡ side = ap (λ o. unwrap_or o Inward) h in
    ap (λ d. side_text d ++ rest) (sym this) ∙ ap (λ l. l ++ 32 ∷ rest) (sym is)
side_by s false false e f side h rest = cc

side_is : (s : List ℕ) (side : Side) → side_named s ≡ Some side → (rest : List ℕ) → side_text side ++ rest ≡ s ++ 32 ∷ rest
side_is s side h rest = side_by s (bytes_eq s (codes "in")) (bytes_eq s (codes "out")) refl refl side h rest

record IsPlaced (side : Option Side) (node port : Option ℕ) (place : Place) : Type 0 where
  on : side ≡ Some place.side
  of : node ≡ Some place.node.0
  at : port ≡ Some place.port

placed_is : (side : Option Side) (node port : Option ℕ) (place : Place) → placed side node port ≡ Some place → IsPlaced side node port place
placed_is None id port place h = cc
placed_is (Some side) None port place h = cc
placed_is (Some side) (Some id) None place h = cc
placed_is (Some side) (Some id) (Some port) place h =
    let is = ap (λ o. unwrap_or o place) h in
    record { on = ap (λ (p : Place). Some p.side) is; of = ap (λ (p : Place). Some p.node.0) is; at = ap (λ (p : Place). Some p.port) is }

-- the place is the net's own, and this is its text
pub record IsPlaceOf (net : Network) (s : List ℕ) (place : Place) : Type 0 where
  pub text : side_text place.side ++ (node_name net place.node ++ (codes "." ++ decimal place.port)) ≡ s
  pub own : IsOwnPlace net place

module _ (positions : Positions) (net : Network) (s : List ℕ) (place : Place) where
  by_point : (parts : Halved) → halves 32 s ≡ Some parts → (o : Option Halved) → halves 46 parts.1 ≡ o → placed_by net parts.0 o ≡ Some place → IsPlaceOf net s place
  by_point parts e None k h = cc
  by_point parts e (Some names) k h =
      let is = placed_is (side_named parts.0) (node_named net names.0) (port_of names.1) place h in
      let name = node_is positions net names.0 place.node is.of in
      let port = port_is names.1 place.port is.at in
      let back : node_name net place.node ++ (codes "." ++ decimal place.port) ≡ parts.1 = (λ i. name i ++ (codes "." ++ port.0 i)) ∙ sym (rejoined 46 parts.1 names.0 names.1 k) in
      record {
        text = ap (λ l. side_text place.side ++ l) back ∙ side_is parts.0 place.side is.on parts.1 ∙ sym (rejoined 32 s parts.0 parts.1 e);
        own = (ap (node_named net) name ∙ is.of, port.1);
      }

  by_blank : (o : Option Halved) → halves 32 s ≡ o → place_by net o ≡ Some place → IsPlaceOf net s place
  by_blank None e h = cc
  by_blank (Some parts) e h = by_point parts e (halves 46 parts.1) refl h

  place_is : place_named net s ≡ Some place → IsPlaceOf net s place
  unfolding place_named
  place_is h = by_blank (halves 32 s) refl h

  pub place_shows : place_named net s ≡ Some place → place_data net place ≡ string s
  place_shows h = ap string (place_is h).text

  pub own_place : place_named net s ≡ Some place → IsOwnPlace net place
  own_place h = (place_is h).own
