-- The texts of records by their parts.
use Rattle.std.proofs.Common.{◌≡◌, ◌∙◌, ap, ℕ, Bool, false, List, [], ◌∷◌, ◌++◌, append_assoc}
use Rattle.std.specs.Prelude.{codes}
use Rattle.std.specs.Fmt.{digits}
use Rattle.serde_json.specs.Data.{Data, string, object, member, no_members}
use Rattle.serde_json.specs.View.{items_of}
use Rattle.serde_json.specs.Written.{compact_text, items_text}
use Rattle.serde_json.proofs.OnLiterals.{serde_json_on_literals}
use Rattle.run_text.specs.Forms.{list}
use Rattle.record_text.specs.Reports.{record_pieces}
use Rattle.kept_texts.specs.Kept.{Grows}

-- one behind the other
pub both : (a b c first second : List ℕ) → Grows first a b → Grows second b c → Grows (first ++ second) a c
both a b c first second g h = record { gained = h.gained ∙ (ap (λ s. s ++ second) g.gained ∙ append_assoc a first second) }

-- by another spelling of the bytes
pub grown : (a b first second : List ℕ) → first ≡ second → Grows first a b → Grows second a b
grown a b first second same h = record { gained = h.gained ∙ ap (λ s. a ++ s) same }

-- behind nothing
pub alone : (a b c first second : List ℕ) → a ≡ [] → Grows first a b → Grows second b c → c ≡ first ++ second
alone a b c first second empty g h = h.gained ∙ ap (λ s. s ++ second) (g.gained ∙ ap (λ s. s ++ first) empty)

module _ (closes : (later : Bool) (ds : List Data) → items_text later (items_of ds) ≡ record_pieces later ds ++ 93 ∷ []) where
  listed : (ds : List Data) (rest : List ℕ) → items_text false (items_of ds) ++ rest ≡ record_pieces false ds ++ 93 ∷ rest
  listed ds rest = ap (λ s. s ++ rest) (closes false ds) ∙ append_assoc (record_pieces false ds) (93 ∷ []) rest

  pub fields_text : (heads metas tags : List Data)
      → compact_text (object (member (codes "heads") (list heads) (member (codes "metas") (list metas) (member (codes "tags") (list tags) no_members))))
      ≡ codes "{\"heads\":[" ++ (record_pieces false heads ++ (codes "],\"metas\":[" ++ (record_pieces false metas ++ (codes "],\"tags\":[" ++ (record_pieces false tags ++ codes "]}")))))
  unfolding serde_json_on_literals digits
  fields_text heads metas tags =
      let last = items_text false (items_of tags) ++ codes "}" in
      let later = items_text false (items_of metas) ++ (codes ",\"tags\":[" ++ last) in
      ap (λ s. codes "{\"heads\":[" ++ s) (listed heads (codes ",\"metas\":[" ++ later)
      ∙ ap (λ s. record_pieces false heads ++ (codes "],\"metas\":[" ++ s)) (listed metas (codes ",\"tags\":[" ++ last)
      ∙ ap (λ s. record_pieces false metas ++ (codes "],\"tags\":[" ++ s)) (listed tags (codes "}"))))

  pub path_text : (decisions places : List Data) (ended fields verdict : Data)
      → compact_text (object (member (codes "decisions") (list decisions) (member (codes "end") ended (member (codes "fields") fields
      (member (codes "kind") (string (codes "path")) (member (codes "places") (list places) (member (codes "verdict") verdict no_members)))))))
      ≡ codes "{\"decisions\":[" ++ (record_pieces false decisions ++ (codes "],\"end\":" ++ (compact_text ended ++ (codes ",\"fields\":" ++ (compact_text fields
      ++ (codes ",\"kind\":\"path\",\"places\":[" ++ (record_pieces false places ++ (codes "],\"verdict\":" ++ (compact_text verdict ++ codes "}")))))))))
  unfolding serde_json_on_literals digits
  path_text decisions places ended fields verdict =
      let last = codes ",\"verdict\":" ++ (compact_text verdict ++ codes "}") in
      let middle : List ℕ → List ℕ = λ s. compact_text ended ++ (codes ",\"fields\":" ++ (compact_text fields ++ (codes ",\"kind\":\"path\",\"places\":[" ++ s))) in
      ap (λ s. codes "{\"decisions\":[" ++ s) (listed decisions (codes ",\"end\":" ++ middle (items_text false (items_of places) ++ last))
      ∙ ap (λ s. record_pieces false decisions ++ (codes "],\"end\":" ++ middle s)) (listed places last))

  pub pruned_text : (before : Data) (decisions : List Data) (refutation : Data)
      → compact_text (object (member (codes "before") before (member (codes "decisions") (list decisions)
      (member (codes "kind") (string (codes "pruned")) (member (codes "refutation") refutation no_members)))))
      ≡ codes "{\"before\":" ++ (compact_text before ++ (codes ",\"decisions\":[" ++ (record_pieces false decisions
      ++ (codes "],\"kind\":\"pruned\",\"refutation\":" ++ (compact_text refutation ++ codes "}")))))
  unfolding serde_json_on_literals digits
  pruned_text before decisions refutation =
      ap (λ s. codes "{\"before\":" ++ (compact_text before ++ (codes ",\"decisions\":[" ++ s)))
      (listed decisions (codes ",\"kind\":\"pruned\",\"refutation\":" ++ (compact_text refutation ++ codes "}")))

  pub unexplored_text : (decisions : List Data)
      → compact_text (object (member (codes "decisions") (list decisions) (member (codes "kind") (string (codes "unexplored")) no_members)))
      ≡ codes "{\"decisions\":[" ++ (record_pieces false decisions ++ codes "],\"kind\":\"unexplored\"}")
  unfolding serde_json_on_literals digits
  unexplored_text decisions = ap (λ s. codes "{\"decisions\":[" ++ s) (listed decisions (codes ",\"kind\":\"unexplored\"}"))
