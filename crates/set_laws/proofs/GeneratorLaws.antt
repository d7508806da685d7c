-- The laws of generators and points.
use Rattle.std.proofs.Common.{◌⊎◌, inl, inr, All}
use Rattle.std.specs.Prelude.{slice_index_or}
use Rattle.set_laws.specs.Asking.{MeetsOn, IsTrueOn, HasCounter}
use Rattle.set_laws.specs.GeneratorLaws.{TrueOnGenerators, TrueOrCounter, ContainedByPairs, TrueWithin, SpansHavePoints}
use Rattle.set_laws.proofs.Counters.{true_or_counter, asked_true, true_asked}

pub true_on_law : TrueOnGenerators
true_on_law gs c fits proper = (true_asked gs fits proper c, asked_true gs c)

pub counter_law : TrueOrCounter
counter_law gs c fits proper = by (true_or_counter gs fits proper c)
  where
    by : All (MeetsOn c) gs.list ⊎ HasCounter gs c → IsTrueOn gs c ⊎ HasCounter gs c
    by (inl a) = inl (asked_true gs c a)
    by (inr r) = inr r

pub contained_law : ContainedByPairs
contained_law cs gs fits proper = (
  (λ t j d h i e l. (true_asked gs fits proper (slice_index_or cs.list i e) (λ p m. t p m i e l)) j d h),
  (λ a p m i e l. asked_true gs (slice_index_or cs.list i e) (λ j d h. a j d h i e l) p m),
)

pub within_law : TrueWithin
within_law cs gs c pair = (
  (λ t p point within. t p (record { point = point; spanned = (pair p point).0 within })),
  (λ t p m. t p m.point ((pair p m.point).1 m.spanned)),
)

pub spans_law : SpansHavePoints
spans_law gs p s = inr (record { index = s.point.index; within = s.point.within; kind = s.point.kind })
