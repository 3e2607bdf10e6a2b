-- The forms that the program holds.
use denote.Ref.{Bor}
use Rattle.std.specs.Prelude.{ℕ, List, map, option_map, Option, Result, Ok, Err}
use Rattle.report_shape.specs.Forms.{TextForm, no_text, any_text, words, large, known, ListForm, no_list, list_of, one_or_more, rows, headed, ObjectForm, no_object, keyed, by_word, by_number, Form, Field, Parts, same, in_order}
use Rattle.report_shape.specs.declared.part.Part.{Part}
use Rattle.report_shape.specs.declared.form.Texts.{Texts}
use Rattle.report_shape.specs.declared.form.Texts.TheVariants as texts
use Rattle.report_shape.specs.declared.form.Parts as held
use Rattle.report_shape.specs.declared.form.Parts.TheVariants as parts
use Rattle.report_shape.specs.declared.form.Lists.{Lists}
use Rattle.report_shape.specs.declared.form.Lists.TheVariants as lists
use Rattle.report_shape.specs.declared.form.Objects.{Objects}
use Rattle.report_shape.specs.declared.form.Objects.TheVariants as objects
use Rattle.report_shape.specs.declared.form.Form as kinds

abbrev pub lent_words : List (Bor (List ℕ)) → List (List ℕ)
lent_words = map (λ (w : Bor (List ℕ)). w.now)

abbrev pub row_of_held : Bor (List Part) → List Part
row_of_held r = r.now

abbrev pub named_of : Bor (List ℕ) × ℕ × Bor (List Part) → List ℕ × ℕ × List Part
named_of h = (h.0.now, h.1, h.2.now)

abbrev pub text_form : Texts → TextForm
text_form texts.Refused = no_text
text_form texts.Any = any_text
text_form (texts.Words ws) = words (lent_words ws.now)
text_form texts.Large = large
text_form texts.Known = known

abbrev pub parts_of : held.Parts → Parts
parts_of (parts.Same p) = same p
parts_of (parts.InOrder ps) = in_order ps.now

abbrev pub list_form : Lists → ListForm
list_form lists.Refused = no_list
list_form (lists.Of p) = list_of p
list_form (lists.OneOrMore p) = one_or_more p
list_form (lists.Rows rs) = rows (map row_of_held rs.now)
list_form (lists.Headed hs) = headed (map named_of hs.now)

abbrev pub field_of : Bor (List ℕ) × Part → Field
field_of f = (f.0.now, f.1)

abbrev pub fields_of : Bor (List (Bor (List ℕ) × Part)) → List Field
fields_of fs = map field_of fs.now

abbrev pub word_of : Bor (List ℕ) × Bor (List (Bor (List ℕ) × Part)) → List ℕ × List Field
word_of c = (c.0.now, fields_of c.1)

abbrev pub number_of : ℕ × ℕ × Bor (List (Bor (List ℕ) × Part)) → ℕ × ℕ × List Field
number_of c = (c.0, c.1, fields_of c.2)

abbrev pub object_form : Objects → ObjectForm
object_form objects.Refused = no_object
object_form (objects.Of fs) = keyed (map fields_of fs.now)
object_form (objects.ByWord key cs) = by_word key.now (map word_of cs.now)
object_form (objects.ByNumber key cs) = by_number key.now (map number_of cs.now)

abbrev pub form_of : kinds.Form → Form
form_of f = record { nullable = f.null; number = f.number; text = text_form f.text; list = list_form f.list; reduced = f.reduced; object = object_form f.object }

-- what was picked out, or the step of the refusal
abbrev pub told : {A B : Type 0} → (A → B) → Result A (Option (Bor (List ℕ))) → Result B (Option (List ℕ))
told f (Ok a) = Ok (f a)
told f (Err step) = Err (option_map (λ (s : Bor (List ℕ)). s.now) step)

abbrev pub told_parts : Result held.Parts (Option (Bor (List ℕ))) → Result Parts (Option (List ℕ))
told_parts = told parts_of

abbrev pub told_fields : Result (Bor (List (Bor (List ℕ) × Part))) (Option (Bor (List ℕ))) → Result (List Field) (Option (List ℕ))
told_fields = told fields_of
