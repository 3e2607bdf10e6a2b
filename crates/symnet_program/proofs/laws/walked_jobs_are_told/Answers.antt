use Rattle.symnet_program.specs.Commands.{inputs}
use Rattle.command_words.specs.Commands.{walk}
use Rattle.sefl_lex.specs.Packets.{packet_of}
use Rattle.symnet_program.proofs.WalkLemmas.{absent_packet, long_packet, walked_packet}
use Rattle.symnet_program.proofs.laws.walked_jobs_are_told.Goals as goal

pub returns-clause-absent : goal.returns-clause-absent
returns-clause-absent c job packet hops limit w status net i caused is none =
    absent_packet job packet hops limit w status net i caused is
    (record { full = c.jobs_are_filled_once.ensures.full w; excludes = c.jobs_are_filled_once.ensures.excludes w; first = c.jobs_are_filled_once.ensures.first w })
    (record { first = c.worlds_decide.ensures.first w; excludes = c.worlds_decide.ensures.excludes w }) none

pub returns-clause-long : goal.returns-clause-long
returns-clause-long c job packet hops limit w status net i bytes caused is has long =
    long_packet job packet hops limit w status net i caused is
    (record { full = c.jobs_are_filled_once.ensures.full w; excludes = c.jobs_are_filled_once.ensures.excludes w; first = c.jobs_are_filled_once.ensures.first w })
    (record { first = c.worlds_decide.ensures.first w; excludes = c.worlds_decide.ensures.excludes w }) bytes has long

pub returns-clause-walked : goal.returns-clause-walked
returns-clause-walked c job packet hops limit w status net i bytes outcome caused is (has, short) comes =
    walked_packet job packet hops limit w status net i caused is
    (record { full = c.jobs_are_filled_once.ensures.full w; excludes = c.jobs_are_filled_once.ensures.excludes w; first = c.jobs_are_filled_once.ensures.first w })
    (λ a b opened other. c.worlds_decide.ensures.all w (inputs (walk job packet hops limit)) a b is.finds is.told opened other)
    (record { first = c.worlds_decide.ensures.first w; excludes = c.worlds_decide.ensures.excludes w }) bytes has short outcome comes
    (λ other h. c.walks_have_one_outcome.ensures hops limit net i (packet_of bytes) other outcome h comes)
