use Rattle.page_store.proofs.reading.node_on_cut.Goals as goal

pub returns-clause-told : goal.returns-clause-told
returns-clause-told c = rw c.copy_page.ensures at c.node_on.ensures.told

pub returns-clause-fault : goal.returns-clause-fault
returns-clause-fault c = rw c.copy_page.ensures at c.node_on.ensures.fault
