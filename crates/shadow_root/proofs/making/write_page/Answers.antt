use Rattle.std.proofs.Common.{◌≡◌, ◌⊎◌, inl, inr, ℕ, ◌+◌, ◌*◌, ◌<◌, ◌≤◌, ap, arith, length}
use Rattle.std.proofs.lemmas.Bool.{cases_lt}
use Rattle.std.proofs.lemmas.Result.{on_ok_weaker}
use Rattle.shadow_root.proofs.Torn.{in_page, written_page}
use Rattle.shadow_root.proofs.making.write_page.Goals as goal

pub returns-clause-page : goal.returns-clause-page
returns-clause-page g c = on_ok_weaker c.write_at.result (λ written is_known.
    in_page (g.D.Disk.state c.args.disk.now).bytes (g.D.Disk.state c.write_at.new.self).bytes c.args.page.now c.args.number (4096 * c.from.result) (ap (λ (n : ℕ). 4096 * n) c.from.ensures) (omega arith) (written is_known))
    c.write_at.ensures.written

pub returns-clause-others : goal.returns-clause-others
returns-clause-others g c = on_ok_weaker c.write_at.result (λ written is_known q differ.
    let same : c.from.result ≡ c.args.number = c.from.ensures in
    let size : length c.args.page.now ≡ 4096 = omega arith in
    let apart : (4096 * q + 4096 ≤ 4096 * c.from.result) ⊎ (4096 * c.from.result + length c.args.page.now ≤ 4096 * q) = elim (cases_lt q c.args.number) [
      | inl lt ↦ inl (omega (arith, same))
      | inr le ↦ (let lt : c.args.number < q = omega arith in inr (omega (arith, same, size)))
    ] in
    written_page (4096 * c.from.result) c.args.page.now (g.D.Disk.state c.args.disk.now).bytes (g.D.Disk.state c.write_at.new.self).bytes q (written is_known) apart)
    c.write_at.ensures.written
