use Rattle.stored_systems.proofs.storing_generators.push_generator.Goals as goal

pub push_primitive-requires : goal.push_primitive-requires
push_primitive-requires c = record {
  wide = c.requires.wide;
  in_range = c.requires.in_range;
  primitive = c.requires.primitive;
  divisor = c.requires.fits.divisor;
  nonzero = c.requires.fits.nonzero;
}
