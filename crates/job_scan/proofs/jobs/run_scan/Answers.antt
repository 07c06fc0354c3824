use Rattle.std.proofs.Common.{◌≡◌, [], ℕ, List, ◌∙◌, refl}
use Rattle.job_scan.specs.Jobs.{Asked}
use Rattle.job_files.proofs.Published.{always, weaker, read_whole}
use Rattle.job_scan.proofs.Endings.{unread_writes, same_scan}
use Rattle.job_scan.proofs.jobs.run_scan.Goals as goal

pub returns-in-Ok-clause-wrote : goal.returns-in-Ok-clause-wrote
returns-in-Ok-clause-wrote g c =
    let mine : Asked = record { space = c.args.space; limit = c.args.limit; show = c.args.show_tags } in
    let read = read_whole _ _ c.in-Ok.bytes.items c.in-Ok.ensures.ok c.in-Ok.ensures.end in
    weaker _ _ _ (λ (bytes : List ℕ) (same : c.in-Ok.bytes.items ≡ bytes).
    same_scan _ _ mine mine _ _ _ bytes c.run_bytes.result.0 refl c.space_of.ensures.kind c.space_of.ensures.dim
    (c.deref.ensures.value ∙ same) c.run_bytes.ensures.wrote) read

pub returns-in-Err-clause-wrote : goal.returns-in-Err-clause-wrote
returns-in-Err-clause-wrote g c = always _ _ (λ bytes.
    unread_writes _ _ _ c.end_unread.result.0 c.end_unread.ensures.input c.end_unread.ensures.long c.end_unread.ensures.memory c.end_unread.ensures.statuses)
