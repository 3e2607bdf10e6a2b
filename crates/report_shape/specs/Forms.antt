-- What a JSON value has to be, by its kind.
use Rattle.std.specs.Prelude.{ℕ, ℤ, List, Bool, Option}
use Rattle.report_shape.specs.declared.part.Part.{Part}

-- what a text has to be: any; one of these words; the digits of a number from 2 ^ 64 to 2 ^ 128 - 1; or one that the reader
-- knows for the part
pub data TextForm : Type 0 where
  no_text : TextForm
  any_text : TextForm
  words : List (List ℕ) → TextForm
  large : TextForm
  known : TextForm

-- what the items of a list are
pub data Parts : Type 0 where
  same : Part → Parts
  in_order : List Part → Parts

-- any number of one part; one or more; one of these rows, by its length; by its first item, a text, a row, and how many of its items
-- come at least: the last ones may be left out
pub data ListForm : Type 0 where
  no_list : ListForm
  list_of : Part → ListForm
  one_or_more : Part → ListForm
  rows : List (List Part) → ListForm
  headed : List (List ℕ × ℕ × List Part) → ListForm

-- a key, and what it holds
abbrev pub Field : Type 0
Field = List ℕ × Part

-- one of these lists of fields, by its keys, which ascend; by the text of a member; by its number, from a least to a greatest one
pub data ObjectForm : Type 0 where
  no_object : ObjectForm
  keyed : List (List Field) → ObjectForm
  by_word : List ℕ → List (List ℕ × List Field) → ObjectForm
  by_number : List ℕ → List (ℕ × ℕ × List Field) → ObjectForm

-- what a value has to be, by its kind; a reduced list, a cell, holds a reduced term besides; no part holds a truth value
pub record Form : Type 0 where
  pub nullable : Bool
  pub number : Option (ℤ × ℤ)
  pub text : TextForm
  pub list : ListForm
  pub reduced : Bool
  pub object : ObjectForm
