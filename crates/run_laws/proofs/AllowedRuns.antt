-- Sets that lack a state aren't allowed.
use Rattle.run_laws.specs.Allowed.{FixpointsAreWhole, ReachesAreWhole}

pub fixpoints_are_whole : FixpointsAreWhole
fixpoints_are_whole = record {
  initial = λ s sets l v first lacks invariant. lacks (invariant.initial l v first tt);
  steps = λ s sets k t source v at at_source is step lacks invariant. lacks (invariant.transitions k t source v at at_source is step tt);
}

pub reaches_are_whole : ReachesAreWhole
reaches_are_whole = record {
  within = λ h sets l v has outside reached. outside (reached.within l v has);
  initial = λ h sets l v first stays lacks reached. lacks (reached.initial l v first stays);
  flow = λ h sets l x y v has velocity moved stays lacks reached. lacks (reached.flow l x y v has velocity moved stays);
  jumps = λ h sets k t source v at at_source is step stays lacks reached. lacks (reached.jumps k t source v at at_source is step stays);
}
