use Rattle.hydra_c.proofs.version.hydra_version.Goals as goal

pub returns : goal.returns
returns c = c.hydra_version.ensures
