use Rattle.command_edge.proofs.file.load_text.Goals as goal

pub returns-clause-loaded : goal.returns-clause-loaded
returns-clause-loaded g c = c.load_file.ensures.loaded

pub returns-clause-fails : goal.returns-clause-fails
returns-clause-fails g c = c.load_file.ensures.fails
