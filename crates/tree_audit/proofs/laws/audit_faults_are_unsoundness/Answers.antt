use Rattle.tree_audit.proofs.Sound.{sound_from_none, none_from_sound}
use Rattle.tree_audit.proofs.laws.audit_faults_are_unsoundness.Goals as goal

pub returns : goal.returns
returns c s read live within = (λ none. sound_from_none s read live within none, λ sound. none_from_sound s read live sound)
