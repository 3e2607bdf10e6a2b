-- Classes of elements, and their arguments.
use Rattle.std.specs.Prelude.{ℕ, Bool, bytes_eq, codes, if◌then◌else◌, List, map, Option, None, Some}
use Rattle.click_elements.specs.declared.class.ClassName.{ClassName}
use Rattle.click_elements.specs.declared.class.ClassName.TheVariants as name
use Rattle.click_elements.specs.declared.class.Primitive.{Primitive}
use Rattle.click_elements.specs.declared.class.Pattern.{Pattern}
use Rattle.click_elements.specs.declared.class.Rule.{Rule}
use Rattle.click_elements.specs.declared.class.Class.{Class}
use Rattle.click_elements.specs.declared.class.Class.TheVariants as class

abbrev pub class_named : List ℕ → Option ClassName
class_named word =
    if bytes_eq word (codes "DecIPTTL") then Some name.DecIpTtl
    else (if bytes_eq word (codes "EtherMirror") then Some name.EtherMirror
    else (if bytes_eq word (codes "IPMirror") then Some name.IpMirror
    else (if bytes_eq word (codes "Tee") then Some name.Tee
    else (if bytes_eq word (codes "Discard") then Some name.Discard
    else (if bytes_eq word (codes "Strip") then Some name.Strip
    else (if bytes_eq word (codes "EtherEncap") then Some name.EtherEncap
    else (if bytes_eq word (codes "IPFilter") then Some name.IpFilter
    else (if bytes_eq word (codes "IPClassifier") then Some name.IpClassifier else None))))))))

-- whether the packets that pass are let through, and what they pass
pub record RuleSeen : Type 0 where
  pub allows : Bool
  pub pattern : List Primitive

-- a class with its arguments: the outputs of a Tee where they are said, the type, source and destination of a header,
-- rules, or patterns
pub data ClassSeen : Type 0 where
  dec_ip_ttl : ClassSeen
  ether_mirror : ClassSeen
  ip_mirror : ClassSeen
  tee : Option ℕ → ClassSeen
  discard : ClassSeen
  strip : ClassSeen
  ether_encap : ℕ → ℕ → ℕ → ClassSeen
  ip_filter : List RuleSeen → ClassSeen
  ip_classifier : List (List Primitive) → ClassSeen

abbrev pub seen_pattern : Pattern → List Primitive
seen_pattern p = p.primitives.items

abbrev pub seen_rule : Rule → RuleSeen
seen_rule r = record { allows = r.allows; pattern = r.pattern.primitives.items }

abbrev pub seen_class : Class → ClassSeen
seen_class class.DecIpTtl = dec_ip_ttl
seen_class class.EtherMirror = ether_mirror
seen_class class.IpMirror = ip_mirror
seen_class (class.Tee outputs) = tee outputs
seen_class class.Discard = discard
seen_class class.Strip = strip
seen_class (class.EtherEncap kind source destination) = ether_encap kind source destination
seen_class (class.IpFilter rules) = ip_filter (map seen_rule rules.items)
seen_class (class.IpClassifier patterns) = ip_classifier (map seen_pattern patterns.items)
