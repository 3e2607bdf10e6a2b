use Rattle.std.proofs.Common.{◌≡◌, take, map}
use Rattle.sefl_syntax.specs.Views.{decl_tree}
use Rattle.click_model.specs.Declarations.{seen_element}
use Rattle.click_model.specs.Nets.{element_decl}
use Rattle.click_model.proofs.net.decls_of.Given as goal

abbrev pub invariant-loop-element : goal.invariant-loop-element
invariant-loop-element l = map decl_tree l.decls.items ≡ map (element_decl l.links) (map seen_element (take l.element-index l.elements))
