-- Clears and scatters as its calls ensure: what clear is refused for the scatter is refused for too.
use Rattle.std.proofs.Common.{arith}
use Rattle.listing.proofs.Calling.{clear_scatter}
use Rattle.listing.proofs.page.clear_and_scatter.Goals as goal

pub returns : goal.returns
returns c =
    clear_scatter _ _ _ _ _ _ _ _ _ _ _ c.requires c.clear.ensures.0 c.clear.ensures.1 (omega (arith, c.clear.auto)) (omega (arith, c.clear.auto)) c.particle_to_grid_scatter.ensures.0 c.particle_to_grid_scatter.ensures.1
