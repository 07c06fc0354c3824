use Rattle.std.proofs.Common.{inl, inr}
use Rattle.job_words.specs.Jobs.{job_of}
use Rattle.mtree_cli.proofs.FileLemmas.{ends_ran}
use Rattle.mtree_cli.proofs.files.run_on_files.Goals as goal

pub returns-in_default : goal.returns-in_default
returns-in_default g c = inr (c.end_with.ensures.status, c.end_with.ensures.line)

pub returns : goal.returns
returns g c =
    let told = c.in-Ok-open_files.ensures in
    let ran = c.run-status in
    inl (ends_ran g.F.Index.Disk.state g.F.LogIn.Source.left g.F.LogOut.Sink.state (g.F.Folder.meaning c.args.folder)
    (job_of c.args.request.now) (g.S.Source.left c.args.input.now) c.in-Ok.names c.in-Ok.ensures (g.K.Sink.state c.args.out.now) (g.K.Sink.state ran.new.out)
    c.in-Ok-open_files.files (record { index = ran.new.index; other = ran.new.other; log_in = ran.new.log_in; log_out = ran.new.log_out })
    ran.result.0 told.opened told.apart ran.ensures.does ran.ensures.statuses)
