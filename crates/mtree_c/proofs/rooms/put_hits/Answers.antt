use Rattle.std.proofs.Common.{rules}
use Rattle.mtree_c.proofs.Putting.{put_more}
use Rattle.mtree_c.proofs.rooms.put_hits.Goals as goal

pub loop-i-preserved : goal.loop-i-preserved
loop-i-preserved c = put_more c.args.hits.now c.args.tags.now c.args.room.now c.loop-i.room c.loop-i.i (record { id = 0; dist = 0 }) c.requires.each (search rules) c.requires.room c.loop-i.invariant
