-- The declarations of a configuration.
use Rattle.std.specs.Prelude.{ℕ, ◌+◌, ◌==◌, bytes_eq, if◌then◌else◌, List, [], ◌∷◌, ◌++◌, map, Option, None, Some, ok_or, Result, Ok, Err}
use Rattle.std.specs.Option.{option_or}
use Rattle.std.specs.Map.{lookup}
use Rattle.std.specs.Ordering.{nat_cmp}
use Rattle.std.specs.Cmp.Lexicographic.{slice_cmp}
use Rattle.std.specs.BTreeMap.{insert_entry}
use Rattle.click_text.specs.Arguments.{arguments_text}
use Rattle.click_text.specs.Items.{ItemSeen}
use Rattle.click_elements.specs.declared.class.ClassName.{ClassName}
use Rattle.click_elements.specs.declared.class.Class.{Class}
use Rattle.click_elements.specs.Classes.{ClassSeen, seen_class, class_named}
use Rattle.click_elements.specs.Nodes.{most_outputs}
use Rattle.click_model.specs.declared.flaw.Wrong.{Wrong}
use Rattle.click_model.specs.declared.flaw.Wrong.TheVariants.{Conflict, Limit, NoClass, BadArgument}
use Rattle.click_model.specs.declared.flaw.Flaw.{Flaw}
use Rattle.click_model.specs.declared.element.Element.{Element}
use Rattle.click_model.specs.declared.declare.Known.{Known}
use Rattle.click_model.specs.declared.declare.Declared.{Declared}
use Rattle.click_model.specs.Arguments.{arguments}
use Rattle.click_model.specs.Classes.{class_with}
use Rattle.click_model.specs.Faults.{noted}

pub record ElementSeen : Type 0 where
  pub name : List ℕ
  pub class : ClassSeen

abbrev pub seen_element : Element → ElementSeen
seen_element e = record { name = e.name; class = seen_class e.class }

-- the class that is declared, or what is wrong with it
abbrev pub made : Option ClassName → List ℕ → Result ClassSeen Wrong
made None text = Err NoClass
made (Some name) text = ok_or (class_with name (arguments (arguments_text text))) BadArgument

abbrev pub seen_made : Result Class Wrong → Result ClassSeen Wrong
seen_made (Ok class) = Ok (seen_class class)
seen_made (Err wrong) = Err wrong

-- what was declared so far: of each name its first declaration, with the line and how many outputs the element may have (any
-- number, where the class or its arguments are bad); the elements whose classes and arguments are good; how many declarations
-- there were; and the flaw that is told
pub record DeclaredSeen : Type 0 where
  pub names : List (List ℕ × Known)
  pub elements : List ElementSeen
  pub count : ℕ
  pub flaw : Option Flaw

abbrev pub seen_declared : Declared → DeclaredSeen
seen_declared d = record { names = d.names.entries; elements = map seen_element d.elements.items; count = d.count; flaw = d.flaw }

abbrev pub most_of : Result ClassSeen Wrong → Option ℕ
most_of (Ok class) = Some (most_outputs class)
most_of (Err wrong) = None

abbrev pub class_wrong : Result ClassSeen Wrong → Option Wrong
class_wrong (Ok class) = None
class_wrong (Err wrong) = Some wrong

-- a name that was declared before
abbrev pub conflict_with : Option Known → Option Wrong
conflict_with None = None
conflict_with (Some first) = Some (Conflict first.line)

-- the first declaration past the limit
abbrev pub limit_at : ℕ → Option Wrong
limit_at count = if count == 10000 then Some Limit else None

-- the lowest number first
abbrev pub first_wrong : Option Known → ℕ → Option Wrong → Option Wrong
first_wrong first count wrong = option_or (conflict_with first) (option_or (limit_at count) wrong)

-- the first declaration of a name stays
abbrev pub with_name : List (List ℕ × Known) → List ℕ → Known → Option Known → List (List ℕ × Known)
with_name names name known None = insert_entry (slice_cmp nat_cmp) names name known
with_name names name known (Some first) = names

abbrev pub with_element : List ElementSeen → List ℕ → Result ClassSeen Wrong → List ElementSeen
with_element elements name (Ok class) = elements ++ record { name = name; class = class } ∷ []
with_element elements name (Err wrong) = elements

abbrev pub with_declaration : DeclaredSeen → ℕ → List ℕ → Result ClassSeen Wrong → Option Known → DeclaredSeen
with_declaration d line name class first = record {
  names = with_name d.names name (record { line = line; most = most_of class }) first;
  elements = with_element d.elements name class;
  count = d.count + 1;
  flaw = noted d.flaw line (first_wrong first d.count (class_wrong class));
}

abbrev pub declared : DeclaredSeen → ItemSeen → Option (List ℕ) → DeclaredSeen
declared d i None = d
declared d i (Some word) =
    with_declaration d i.line i.name (made (class_named word) i.arguments) (lookup (bytes_eq i.name) d.names)

abbrev pub declared_from : DeclaredSeen → List ItemSeen → DeclaredSeen
declared_from d [] = d
declared_from d (i ∷ is) = declared_from (declared d i i.class) is

abbrev pub nothing_declared : DeclaredSeen
nothing_declared = record { names = []; elements = []; count = 0; flaw = None }
