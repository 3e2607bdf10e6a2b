use Rattle.command_runs.proofs.InputLemmas.{file_opens}
use Rattle.command_runs.proofs.source.ByteFileSource.open.Goals as goal

pub returns-clause-opened : goal.returns-clause-opened
returns-clause-opened g c =
    file_opens g.F.Folder.told g.F.Folder.load_gives g.P.Patterns.told g.P.Patterns.find_gives c.args.self.now.limit c.args.self.now.name.now
    c.args.folder.now c.load_file.new.folder c.args._patterns.now c.load_file.result c.load_file.ensures.loaded
