-- On a sound pool the quick lookup gives lookup's number and value, and on every pool no more nodes. Assumes nothing.
use Rattle.tree.specs.Tree.{find}
use Rattle.held.specs.Ways.{dig}
use Rattle.finding.specs.Lookups.{lookup_of, quick_of}
use Rattle.finding.proofs.Answers.{quick_fewer}
use Rattle.finding.proofs.HeldLookup.{lookup_held, quick_held, finds_same}
use Rattle.survey.proofs.SoundHeld.{sound_holds}
use Rattle.demands.specs.Quick.{AsLookup}

pub as_lookup : AsLookup
as_lookup = record {
  same = λ pool s k.
      let (t, H) = sound_holds pool s in
      finds_same (find dig k t) (quick_of pool k) (lookup_of pool k) (quick_held pool s.n t s.size H k) (lookup_held pool s.n t s.size H k);
  fewer = quick_fewer;
}
