-- The samples' forms, computed.
-- Assumes nothing.
use mathlib.Core.Path.{refl}
use Rattle.bitset.specs.Sets.{any}
use Rattle.slices.specs.Appending.{each}
use Rattle.filing.specs.Filed.{filed}
use Rattle.filing.specs.Sample.{SampleFiled}

pub sample_filed : SampleFiled
unfolding filed each any
sample_filed = (refl, refl)
