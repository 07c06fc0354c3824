-- A node that was put behind the pages before its own.
use Rattle.std.proofs.Common.{◌≡◌, ◌++◌, ◌*◌, List, ℕ, ap, ◌∙◌}
use Rattle.small_trees.specs.declared.entry.Entry.{Entry}
use Rattle.small_trees.specs.Trees.{padded, on_page, node_bytes}

pub added : (page level : ℕ) (old filled new : List ℕ) (put told : List Entry) →
    filled ≡ padded (page * 4096) old → put ≡ told → new ≡ filled ++ node_bytes level put → new ≡ on_page page (node_bytes level told) old
added page level old filled new put told full same is =
    is ∙ ap (λ b. b ++ node_bytes level put) full ∙ ap (λ es. padded (page * 4096) old ++ node_bytes level es) same
