use Rattle.std.proofs.Common.{Some, None}
use Rattle.sn_width.specs.declared.faults.LayoutFault.TheVariants.{NoMeta}
use Rattle.metadata_scopes.proofs.KeyLemmas.{same_parts, same_box}
use Rattle.metadata_scopes.proofs.laws.assign_then_read.Goals as goal

pub returns-clause-there : goal.returns-clause-there
returns-clause-there g c = λ owner name width value scopes next set. c.set_then_read.ensures.there NoMeta NoMeta (owner, name) width value scopes next set

pub returns-clause-elsewhere : goal.returns-clause-elsewhere
returns-clause-elsewhere g c = λ owner other_owner name other_name width size value scopes next apart set.
    c.set_then_read.ensures.elsewhere NoMeta NoMeta (owner, name) (other_owner, other_name) width size value scopes next (λ same. apart (same_parts (other_owner, other_name) (owner, name) same)) set

pub returns-clause-other_box : goal.returns-clause-other_box
returns-clause-other_box g c = λ node other name width size value scopes next apart set.
    c.set_then_read.ensures.elsewhere NoMeta NoMeta (Some node, name) (Some other, name) width size value scopes next (λ same. apart (same_box node other name same)) set

pub returns-clause-global : goal.returns-clause-global
returns-clause-global g c = λ node name width size value scopes next set.
    c.set_then_read.ensures.elsewhere NoMeta NoMeta (Some node, name) (None, name) width size value scopes next (λ same. cc) set
