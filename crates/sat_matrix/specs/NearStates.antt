use Rattle.std.specs.Prelude.{◌≡◌, take}
use Rattle.sat_matrix.specs.declared.narrowing.Level.{Level}
use Rattle.sat_matrix.specs.declared.narrowing.Near.{Near}

-- the lists of near rays are those of before
pub record AreKept (old new : Near) : Type 0 where
  pub all : new.all.items ≡ old.all.items
  pub inner : new.inner.items ≡ old.inner.items
  pub rays : new.rays.items ≡ old.rays.items

-- the lists of a level begin behind those of before
pub record IsBegun (level : Level) (old new : Near) : Type 0 where
  pub all : new.all.items ≡ old.all.items
  pub inner : take level.inner new.inner.items ≡ old.inner.items
  pub rays : take level.rays new.rays.items ≡ old.rays.items
