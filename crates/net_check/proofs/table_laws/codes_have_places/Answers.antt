use Rattle.net_check.proofs.Sites.{no_place_no_code, place_is_code}
use Rattle.net_check.proofs.table_laws.codes_have_places.Goals as goal

pub returns-clause-none : goal.returns-clause-none
returns-clause-none c = no_place_no_code

pub returns-clause-some : goal.returns-clause-some
returns-clause-some c = place_is_code
