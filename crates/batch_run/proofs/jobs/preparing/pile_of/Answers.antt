use Rattle.std.proofs.Common.{◌≡◌, ◌<◌, ◌≤◌, ◌+◌, ◌*◌, ℕ, ◌∙◌, sym, ap, subst, arith, length, Some, slice_get}
use Rattle.std.proofs.lemmas.Option.{slice_get-get_or}
use Rattle.rows_text.specs.declared.command.Command.{Command}
use Rattle.page_store.specs.Images.{bytes_in}
use Rattle.batch_run.specs.Dealing.{Rounds, place_of}
use Rattle.batch_run.specs.Jobs.Preparing.{IsPileIn}
use Rattle.batch_run.proofs.jobs.Piling.{next_round, skipped_round}
use Rattle.batch_run.proofs.jobs.preparing.pile_of.Goals as goal
use Rattle.batch_run.proofs.jobs.preparing.pile_of.Goals.{then-place-commands+in_ok-add_for, else-place-commands}

pub loop-round-preserved : goal.loop-round-preserved
loop-round-preserved g c =
    let s = g.M.Metric.space c.args.metric in
    let d : Rounds = record { rounds = c.args.deal.now.rounds; workers = c.args.deal.now.workers } in
    let pages = c.loop-round.invariant.1 in
    let is : c.place-place.result ≡ place_of d (c.args.worker * c.args.deal.now.rounds + c.loop-round.round) = c.place-place.ensures in
    elim c.if-place-commands.branch [
      | then-place-commands+in_ok-add_for w ↦
          let command = w.index-commands-place.result in
          let found : slice_get c.args.commands.now c.place-place.result ≡ Some command =
          slice_get-get_or c.args.commands.now c.place-place.result command w.if-place-commands.true ∙ ap (λ (e : Command). Some e) (sym w.index-commands-place.is) in (
            rw w.pile-is (next_round s c.args.live.now (bytes_in c.args.image) c.args.show c.args.commands.now d c.loop-round.round c.args.worker command c.loop-round.pile w.add_for.new.pile c.requires.worker
                c.loop-round-test.true (subst (λ (k : ℕ). k < length c.args.commands.now) is w.if-place-commands.true)
                (subst (λ (k : ℕ). slice_get c.args.commands.now k ≡ Some command) is found) c.loop-round.invariant.0 (rw pages.bytes at w.in_ok-add_for.ensures.more)),
            rw w.pages-is (record { dim = w.add_for.ensures.same.dim; count = w.add_for.ensures.same.count; bytes = w.add_for.ensures.same.bytes ∙ pages.bytes }),
          )
      | else-place-commands w ↦ (
        rw w.pile-is (skipped_round s c.args.live.now (bytes_in c.args.image) c.args.show c.args.commands.now d c.loop-round.round c.args.worker c.loop-round.pile
            (subst (λ (k : ℕ). length c.args.commands.now ≤ k) is w.if-place-commands.false) c.loop-round.invariant.0),
        rw w.pages-is pages,
      )
    ]

pub returns : goal.returns
returns g c =
    let d : Rounds = record { rounds = c.args.deal.now.rounds; workers = c.args.deal.now.workers } in
    subst (λ (rounds : ℕ). IsPileIn (g.M.Metric.space c.args.metric) c.args.live.now (bytes_in c.args.image) c.args.show c.args.commands.now d rounds c.args.worker c.loop-round.pile)
    (let all : c.loop-round.round ≡ c.args.deal.now.rounds = omega (arith, c.loop-round-test.false, c.loop-round.auto.round-end) in all) c.loop-round.invariant.0
