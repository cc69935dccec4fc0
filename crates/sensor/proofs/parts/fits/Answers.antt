-- Found with this law alone: `fits_in` unfolded still leaves a power against a shift in 16 bits.
use Rattle.sensor.specs.Below.{shift_fits}
use Rattle.sensor.proofs.parts.fits.Goals as goal

pub returns : goal.returns
returns c = search shift_fits
