use Rattle.mtree_cli.proofs.TaskLemmas.{valid_version, named_space, named_policy, valid_limit}
use Rattle.mtree_cli.proofs.program.new_head.Goals as goal

pub returns-clause-valid : goal.returns-clause-valid
returns-clause-valid c = record {
  version = valid_version;
  space = named_space c.kind.result c.args.space.metric c.args.space.dim c.kind.ensures c.requires.space.some c.requires.space.few c.requires.space.halves;
  policy = named_policy c.number.result c.number-2.result c.args.policies.promote c.args.policies.split c.number.ensures c.number-2.ensures;
  limit = valid_limit c.args.limit c.requires.limit.0 c.requires.limit.1;
}
