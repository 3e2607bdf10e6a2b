-- The words of sides, of kinds of tables and of styles.
use Rattle.std.specs.Prelude.{ℕ, List, codes}
use Rattle.sefl_syntax.specs.declared.net.Side.{Side}
use Rattle.sefl_syntax.specs.declared.net.Side.TheVariants.{Inward, Outward}
use Rattle.sefl_syntax.specs.declared.net.Style.{Style}
use Rattle.sefl_syntax.specs.declared.net.Style.TheVariants.{Chain, Grouped, Egress}
use Rattle.sefl_syntax.specs.declared.net.TableKind.{TableKind}
use Rattle.sefl_syntax.specs.declared.net.TableKind.TheVariants.{Mac, Fib}

abbrev pub side_text : Side → List ℕ
side_text Inward = codes "in"
side_text Outward = codes "out"

abbrev pub kind_text : TableKind → List ℕ
kind_text Mac = codes "mac"
kind_text Fib = codes "fib"

abbrev pub style_text : Style → List ℕ
style_text Chain = codes "chain"
style_text Grouped = codes "grouped"
style_text Egress = codes "egress"
