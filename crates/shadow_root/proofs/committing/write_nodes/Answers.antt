use Rattle.std.proofs.Common.{arith, length, ap, sym, ◌∙◌, ◌≡◌, ℕ, ◌*◌, subst, IsTrue, Bool}
use Rattle.shadow_root.proofs.Torn.{one_rewritten, rewritten_torn, rewritten_then, in_place_more, long_more}
use Rattle.shadow_root.proofs.Apart.{apart_at, staged_below}
use Rattle.shadow_root.proofs.committing.write_nodes.Goals as goal

pub loop-i-preserved : goal.loop-i-preserved
loop-i-preserved g c =
    let staged = c.args.staged.now in
    let start = g.D.Disk.state c.args.disk.now in
    let mid = g.D.Disk.state c.loop-i.disk in
    let new = g.D.Disk.state c.write_at.new.self in
    let here = c.at-new.result.now in
    let stands = c.at-new.ensures in
    let place : 4096 * c.from.result ≡ 4096 * here.page = ap (λ (n : ℕ). 4096 * n) c.from.ensures in
    let size : length c.encode_node.new.page ≡ 4096 = c.encode_node.array_long in
    let i = c.loop-i.invariant in
    let told : IsTrue start.is_known → IsTrue mid.is_known = subst (λ (b : Bool). IsTrue b) (sym i.is_known) in
    let written = c.in_ok-write_at.ensures.written in
    record {
      images = one_rewritten staged start mid new c.loop-i.i here (4096 * c.from.result) (length c.encode_node.new.page) stands place size i.images c.write_at.ensures.time c.write_at.ensures.torn;
      is_known = c.write_at.ensures.is_known ∙ i.is_known;
      bytes = λ is_known. rewritten_then staged start.bytes mid.bytes new.bytes (i.bytes is_known)
          (rewritten_torn staged mid.bytes new.bytes c.loop-i.i here (4096 * c.from.result) (length c.encode_node.new.page) stands place size (c.write_at.ensures.others (told is_known)));
      in_place = λ is_known.
          in_place_more c.args.dim staged c.loop-i.i here (4096 * c.from.result) c.encode_node.new.page mid.bytes new.bytes place size c.encode_node.ensures stands
          (apart_at staged c.len-i-end.ensures.apart) (written (told is_known)) (i.in_place is_known);
      long = λ is_known. long_more staged c.loop-i.i here (4096 * c.from.result) c.encode_node.new.page mid.bytes new.bytes stands place size (written (told is_known)) (i.long is_known);
      reads = c.write_at.ensures.reads ∙ i.reads;
      faults = c.in_ok-write_at.ensures.cause.done ∙ i.faults;
    }

pub returns-in_err-write_at-clause-images : goal.returns-in_err-write_at-clause-images
returns-in_err-write_at-clause-images g c =
    let here = c.at-new.result.now in
    let place : 4096 * c.from.result ≡ 4096 * here.page = ap (λ (n : ℕ). 4096 * n) c.from.ensures in
    one_rewritten c.args.staged.now (g.D.Disk.state c.args.disk.now) (g.D.Disk.state c.loop-i.disk) (g.D.Disk.state c.write_at.new.self) c.loop-i.i here (4096 * c.from.result) (length c.encode_node.new.page)
    c.at-new.ensures place c.encode_node.array_long c.loop-i.invariant.images c.write_at.ensures.time c.write_at.ensures.torn

pub returns-clause-in_place : goal.returns-clause-in_place
returns-clause-in_place g c = λ is_known k s stands.
    let below = staged_below c.args.staged.now k s stands in
    c.loop-i.invariant.in_place is_known k s (omega (arith, below)) stands

pub returns-clause-long : goal.returns-clause-long
returns-clause-long g c = λ is_known k s stands.
    let below = staged_below c.args.staged.now k s stands in
    c.loop-i.invariant.long is_known k s (omega (arith, below)) stands

pub returns-in_err-write_at-clause-bytes : goal.returns-in_err-write_at-clause-bytes
returns-in_err-write_at-clause-bytes g c = λ is_known.
    let staged = c.args.staged.now in
    let start = g.D.Disk.state c.args.disk.now in
    let mid = g.D.Disk.state c.loop-i.disk in
    let new = g.D.Disk.state c.write_at.new.self in
    let here = c.at-new.result.now in
    let i = c.loop-i.invariant in
    let told : IsTrue mid.is_known = subst (λ (b : Bool). IsTrue b) (sym i.is_known) is_known in
    let place : 4096 * c.from.result ≡ 4096 * here.page = ap (λ (n : ℕ). 4096 * n) c.from.ensures in
    rewritten_then staged start.bytes mid.bytes new.bytes (i.bytes is_known)
    (rewritten_torn staged mid.bytes new.bytes c.loop-i.i here (4096 * c.from.result) (length c.encode_node.new.page) c.at-new.ensures place c.encode_node.array_long (c.write_at.ensures.others told))
