use Rattle.kripke_model.specs.Path.{at}
use Rattle.strong_fair.proofs.Sound.{no_certificate}
use Rattle.strong_fair.proofs.Loops.{strong_walk}
use Rattle.strong_fair.proofs.laws.certificate_law.Goals as goal

pub returns : goal.returns
returns c = record {
  sound = λ pairs certificate shows (p, strong). no_certificate c.args.model.now pairs (at p) (strong_walk c.args.model.now pairs p strong) certificate shows;
  walks = λ pairs p strong. strong_walk c.args.model.now pairs p strong;
}
