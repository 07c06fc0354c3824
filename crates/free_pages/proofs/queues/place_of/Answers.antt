use Rattle.free_pages.proofs.Places.{searched_numbers}
use Rattle.free_pages.proofs.queues.place_of.Goals as goal

pub returns : goal.returns
returns c = searched_numbers c.args.page c.args.free.now.len c.args.free.now.items c.binary_search.result c.requires c.args.free.now.ok.0 c.binary_search.ensures.bound c.binary_search.ensures.position
