-- Classes with their arguments.
use Rattle.std.specs.Prelude.{ℕ, ◌==◌, nat_le, if◌then◌else◌, List, [], ◌∷◌, Option, None, Some, option_map}
use Rattle.table_lines.specs.Addresses.{if_some}
use Rattle.table_lines.specs.Words.{words}
use Rattle.click_elements.specs.declared.class.ClassName.{ClassName}
use Rattle.click_elements.specs.declared.class.ClassName.TheVariants.{DecIpTtl, EtherMirror, IpMirror, Tee, Discard, Strip, EtherEncap, IpFilter, IpClassifier}
use Rattle.click_elements.specs.Classes.{ClassSeen, dec_ip_ttl, ether_mirror, ip_mirror, tee, discard, strip, ether_encap, ip_filter, ip_classifier}
use Rattle.click_model.specs.Arguments.{only, one, is_empty, number_to, mac_of}
use Rattle.click_model.specs.Patterns.{rules_from, patterns_from}

-- a class that has no arguments
abbrev pub bare : ClassSeen → List (List ℕ) → Option ClassSeen
bare class arguments = if is_empty arguments then Some class else None

-- from 1 to 1024 outputs
abbrev pub tee_with : Option ℕ → Option ClassSeen
tee_with None = None
tee_with (Some n) = if nat_le 1 n then Some (tee (Some n)) else None

abbrev pub tee_of : List (List ℕ) → Option ClassSeen
tee_of arguments = if is_empty arguments then Some (tee None) else tee_with (number_to 1024 (one arguments))

-- the 14 bytes of an Ethernet header, no more and no less
abbrev pub strip_with : Option ℕ → Option ClassSeen
strip_with None = None
strip_with (Some n) = if n == 14 then Some strip else None

abbrev pub encap : Option ℕ → Option ℕ → Option ℕ → Option ClassSeen
encap kind source destination =
    if_some kind (λ kind. if_some source (λ source. option_map (λ destination. ether_encap kind source destination) destination))

-- a type, a source and a destination
abbrev pub encap_of : List (List ℕ) → Option ClassSeen
encap_of [] = None
encap_of (kind ∷ []) = None
encap_of (kind ∷ source ∷ []) = None
encap_of (kind ∷ source ∷ destination ∷ []) =
    encap (number_to 65535 (only (words kind))) (mac_of (only (words source))) (mac_of (only (words destination)))
encap_of (kind ∷ source ∷ destination ∷ next ∷ later) = None

-- the class with these arguments, if it takes them
abbrev pub class_with : ClassName → List (List ℕ) → Option ClassSeen
class_with DecIpTtl arguments = bare dec_ip_ttl arguments
class_with EtherMirror arguments = bare ether_mirror arguments
class_with IpMirror arguments = bare ip_mirror arguments
class_with Tee arguments = tee_of arguments
class_with Discard arguments = bare discard arguments
class_with Strip arguments = strip_with (number_to 14 (one arguments))
class_with EtherEncap arguments = encap_of arguments
class_with IpFilter arguments = option_map ip_filter (rules_from [] arguments)
class_with IpClassifier arguments = option_map ip_classifier (patterns_from [] arguments)
