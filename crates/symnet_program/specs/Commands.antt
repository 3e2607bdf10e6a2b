-- Each command: what it reads, in order, and its own work.
use Rattle.std.specs.Prelude.{ℕ, ◌≡◌, List, [], ◌∷◌}
use Rattle.command_runs.specs.Inputs.{Input, a_job, a_made_job, a_file}
use Rattle.command_runs.specs.Runs.{OwnWork, one_piece}
use Rattle.command_edge.specs.declared.limits.TheConstants.{FILE_LIMIT}
use Rattle.explore_command.specs.Explores.{explore_work}
use Rattle.ask_command.specs.Asks.{AskComes}
use Rattle.loops_command.specs.Loops.{LoopsComes}
use Rattle.loops_command.specs.declared.text.OpenPaths.{OpenPaths}
use Rattle.loops_command.specs.declared.text.OpenPaths.TheVariants.{Numbers, Visits}
use Rattle.compare_command.specs.Compares.{CompareComes}
use Rattle.job_gen.specs.Grown.{grown}
use Rattle.grow_command.specs.Grows.{GrowComes}
use Rattle.replay_command.specs.Replays.{ReplayComes}
use Rattle.replay_command.specs.Wholes.{WholeComes}
use Rattle.replay_command.specs.declared.replay.TheConstants.{REPORT_LIMIT}
use Rattle.model_command.specs.Models.{ModelComes}
use Rattle.model_command.specs.ClickModels.{ClickComes}
use Rattle.acl_command.specs.declared.model.ListStyle.{ListStyle}
use Rattle.acl_command.specs.declared.model.ListStyle.TheVariants as list
use Rattle.acl_command.specs.Commands.{AclComes, BothRulesCome, RulesComes}
use Rattle.walk_command.specs.Lines.{LinesCome}
use Rattle.walk_command.specs.Walks.{WalkComes}
use Rattle.command_words.specs.Commands.{Command, explore, walk, walk_lines, replay, replay_whole, ask, loops, compare, model, click, acl, rules, both_rules, grow}
use Rattle.command_words.specs.declared.command.FilterStyle.{FilterStyle}
use Rattle.command_words.specs.declared.command.FilterStyle.TheVariants as filter
use Rattle.command_words.specs.declared.command.Open.{Open}
use Rattle.command_words.specs.declared.command.Open.TheVariants as of_words

abbrev pub inputs : Command → List Input
inputs (explore job hops limit cases pruned) = a_job job ∷ []
inputs (walk job packet hops limit) = a_job job ∷ a_file FILE_LIMIT packet ∷ []
inputs (walk_lines job packets hops limit) = a_job job ∷ a_file FILE_LIMIT packets ∷ []
inputs (replay job report) = a_job job ∷ a_file REPORT_LIMIT report ∷ []
inputs (replay_whole job report) = a_job job ∷ a_file REPORT_LIMIT report ∷ []
inputs (ask job hops limit cases) = a_job job ∷ []
inputs (loops job hops limit cases detail) = a_job job ∷ []
inputs (compare job other hops limit cases counts_cut) = a_job job ∷ a_job other ∷ []
inputs (model table file style) = a_file FILE_LIMIT file ∷ []
inputs (click file) = a_file FILE_LIMIT file ∷ []
inputs (acl file style) = a_file FILE_LIMIT file ∷ []
inputs (rules file) = a_file FILE_LIMIT file ∷ []
inputs (both_rules file other) = a_file FILE_LIMIT file ∷ a_file FILE_LIMIT other ∷ []
inputs (grow seed boxes) = a_made_job (grown seed boxes) ∷ []

-- the first that it reads is the job under this name
abbrev pub ReadsJob : Command → List ℕ → Type 0
ReadsJob command job = (others : List Input) × (inputs command ≡ a_job job ∷ others)

-- what is written of paths without a loop
abbrev pub detail_of : Open → OpenPaths
detail_of of_words.Numbers = Numbers
detail_of of_words.Visits = Visits

abbrev pub list_style_of : FilterStyle → ListStyle
list_style_of filter.Chain = list.Chain
list_style_of filter.Grouped = list.Grouped

abbrev pub work : Command → OwnWork
work (explore job hops limit cases pruned) = explore_work cases hops limit pruned
work (walk job packet hops limit) = one_piece (WalkComes hops limit)
work (walk_lines job packets hops limit) = one_piece (LinesCome hops limit)
work (replay job report) = one_piece ReplayComes
work (replay_whole job report) = one_piece WholeComes
work (ask job hops limit cases) = one_piece (AskComes cases hops limit)
work (loops job hops limit cases detail) = one_piece (LoopsComes cases hops limit (detail_of detail))
work (compare job other hops limit cases counts_cut) = one_piece (CompareComes cases hops limit counts_cut)
work (model table file style) = one_piece (ModelComes table style file)
work (click file) = one_piece (ClickComes file)
work (acl file style) = one_piece (AclComes (list_style_of style) file)
work (rules file) = one_piece (RulesComes file)
work (both_rules file other) = one_piece (BothRulesCome file other)
work (grow seed boxes) = one_piece (GrowComes seed boxes)
