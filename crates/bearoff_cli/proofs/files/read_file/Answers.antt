use Rattle.bearoff_cli.proofs.OpenedFiles.{read_of}
use Rattle.bearoff_cli.proofs.files.read_file.Goals as goal

pub returns-in-Ok-open_to_read-clause-read : goal.returns-in-Ok-open_to_read-clause-read
returns-in-Ok-open_to_read-clause-read g c =
    read_of g.D.Reader.Read.remaining (g.D.Disk.paths c.args.disk.now) c.args.path.now
    (g.D.Disk.told c.args.disk.now) c.in-Ok-open_to_read.file _ c.read_bytes.result
    c.in-Ok-open_to_read.ensures.read c.read_bytes.ensures.read
