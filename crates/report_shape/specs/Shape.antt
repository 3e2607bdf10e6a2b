-- The shape of a report: the form of each of its parts.
use Rattle.std.specs.Prelude.{ℤ, pos, negsuc, List, [], ◌∷◌, true, false, codes, Some, None}
use Rattle.report_shape.specs.declared.part.Part.{Part}
use Rattle.report_shape.specs.declared.part.Part.TheVariants.{Report, Cases, Hops, Limit, Records, Record, State, Version, Word, Decisions, Decision, Places, Place, End, Text, Fields, Heads, Head, Metas, Meta, Owner, MetaName, Tags, Tag, TagName, Address, Cells, Cell, Width, Value, Terms, Term, Verdict, Before, Cause, Values, Refutation, Step, Ids, Way, Id, Count, Nothing}
use Rattle.report_shape.specs.Forms.{TextForm, no_text, any_text, words, large, known, ListForm, no_list, list_of, one_or_more, rows, headed, ObjectForm, no_object, keyed, by_word, by_number, Form, Field}

abbrev pub nothing : Form
nothing = record { nullable = false; number = None; text = no_text; list = no_list; reduced = false; object = no_object }

abbrev pub numbers : ℤ → ℤ → Form
numbers least most = record nothing { number = Some (least, most) }

abbrev pub texts : TextForm → Form
texts t = record nothing { text = t }

abbrev pub lists : ListForm → Form
lists l = record nothing { list = l }

abbrev pub objects : ObjectForm → Form
objects o = record nothing { object = o }

-- ---- the members of objects, by ascending keys

abbrev pub report_fields : List Field
report_fields = (codes "hops", Hops) ∷ (codes "limit", Limit) ∷ (codes "records", Records) ∷ (codes "refuted", Count) ∷ (codes "state", State) ∷ (codes "symnet", Version) ∷ []

-- a report that says the most choices of cases
abbrev pub bounded_fields : List Field
bounded_fields = (codes "cases", Cases) ∷ report_fields

abbrev pub path_fields : List Field
path_fields = (codes "decisions", Decisions) ∷ (codes "end", End) ∷ (codes "fields", Fields) ∷ (codes "kind", Word) ∷ (codes "places", Places) ∷ (codes "verdict", Verdict) ∷ []

abbrev pub pruned_fields : List Field
pruned_fields = (codes "before", Before) ∷ (codes "decisions", Decisions) ∷ (codes "kind", Word) ∷ (codes "refutation", Refutation) ∷ []

abbrev pub unexplored_fields : List Field
unexplored_fields = (codes "decisions", Decisions) ∷ (codes "kind", Word) ∷ []

abbrev pub fault_fields : List Field
fault_fields = (codes "fault", Count) ∷ (codes "site", Id) ∷ []

abbrev pub message_fields : List Field
message_fields = (codes "fault", Count) ∷ (codes "site", Id) ∷ (codes "text", Text) ∷ []

abbrev pub carried_fields : List Field
carried_fields = (codes "heads", Heads) ∷ (codes "metas", Metas) ∷ (codes "tags", Tags) ∷ []

abbrev pub sat_fields : List Field
sat_fields = (codes "sat", Values) ∷ []

abbrev pub undecided_fields : List Field
undecided_fields = (codes "undecided", Cause) ∷ []

abbrev pub counted_fields : List Field
counted_fields = (codes "cause", Word) ∷ (codes "count", Count) ∷ []

abbrev pub outside_fields : List Field
outside_fields = (codes "cause", Word) ∷ (codes "pick", Id) ∷ (codes "values", Values) ∷ []

-- exactly one of two keys
abbrev pub verdicts : ObjectForm
verdicts = keyed (sat_fields ∷ undecided_fields ∷ [])

-- ---- the table

abbrev pub form : Part → Form
form Report = objects (keyed (report_fields ∷ bounded_fields ∷ []))
form Cases = numbers (pos 1) (pos 18446744073709551615)
form Hops = numbers (pos 1) (pos 256)
form Limit = numbers (pos 1) (pos 100000)
form Records = lists (list_of Record)
form Record = objects (by_word (codes "kind") ((codes "path", path_fields) ∷ (codes "pruned", pruned_fields) ∷ (codes "unexplored", unexplored_fields) ∷ []))
form State = texts (words (codes "done" ∷ codes "partial" ∷ []))
form Version = numbers (pos 1) (pos 1)
form Word = texts any_text
form Decisions = lists (list_of Decision)
form Decision = record nothing { number = Some (pos 0, pos 4294967295); text = words (codes "then" ∷ codes "else" ∷ codes "pass" ∷ codes "broken" ∷ []) }
form Places = lists (list_of Place)
form Place = texts known
form End = record nothing { text = words (codes "stopped" ∷ codes "delivered" ∷ codes "cut" ∷ []); object = by_number (codes "fault") ((1, 8, fault_fields) ∷ (9, 9, message_fields) ∷ []) }
form Text = texts any_text
form Fields = objects (keyed (carried_fields ∷ []))
form Heads = lists (list_of Head)
form Head = lists (rows ((Address ∷ Cells ∷ []) ∷ []))
form Metas = lists (list_of Meta)
form Meta = lists (rows ((Owner ∷ MetaName ∷ Cells ∷ []) ∷ []))
form Owner = record nothing { nullable = true; text = known }
form MetaName = texts known
form Tags = lists (list_of Tag)
form Tag = lists (rows ((TagName ∷ Address ∷ []) ∷ []))
form TagName = texts known
form Address = numbers (negsuc 2147483647) (pos 2147483647)
form Cells = lists (list_of Cell)
form Cell = record nothing { list = rows ((Width ∷ []) ∷ (Width ∷ Value ∷ Terms ∷ []) ∷ []); reduced = true }
form Width = numbers (pos 1) (pos 128)
form Value = record nothing { number = Some (pos 0, pos 18446744073709551615); text = large }
form Terms = lists (list_of Term)
form Term = lists (rows ((Count ∷ Value ∷ []) ∷ []))
form Verdict = objects verdicts
form Before = record nothing { nullable = true; object = verdicts }
form Cause = objects (by_word (codes "cause") ((codes "cases", counted_fields) ∷ (codes "coupled", counted_fields) ∷ (codes "outside", outside_fields) ∷ []))
form Values = lists (list_of Value)
form Refutation = lists (list_of Step)
form Step = lists (headed
    ((codes "empty", 3, Word ∷ Count ∷ Ids ∷ [])
    ∷ (codes "domain", 2, Word ∷ Count ∷ [])
    ∷ (codes "split", 2, Word ∷ Id ∷ Way ∷ [])
    ∷ (codes "cycle", 2, Word ∷ Ids ∷ [])
    ∷ []))
form Ids = lists (list_of Id)
form Way = lists (one_or_more Id)
form Id = numbers (pos 0) (pos 4294967295)
form Count = numbers (pos 0) (pos 18446744073709551615)
form Nothing = nothing
