-- The port's calls on the nodes of one region list, with all that each is given beside these; what a call answers and leaves by its contract, refused or not, and what a
-- list of calls leaves. Definitions only.
use Rattle.std.specs.Prelude.{cond, List, [], ◌∷◌, ℕ, Float, length}
use Rattle.laws.specs.Store.{Store}
use Rattle.laws.specs.Refusals.{settle}
use Rattle.grid.specs.Answers.{refused, Answer, done}
use Rattle.grid.specs.Clear.{clear_check, cleared}
use Rattle.scatter.specs.Scatter.{scattered, region_scattered, place_check, scatter_check}
use Rattle.update.specs.Update.{updated, update_check}
use Rattle.gather.specs.Gather.{first_check, second_check}
use Rattle.fluids.specs.Fluids.{nodes_after, fluids_check}
use Rattle.solver.specs.Order.{order_check}
use Rattle.solver.specs.Step.{step_check, stepped}

-- what a scatter is given beside the list and the nodes
pub record Scatter : Type 0 where
  pub h : Float
  pub dt : Float
  pub gravity : List Float
  pub regions : ℕ
  pub ranges : List ℕ
  pub count : ℕ
  pub particles : Store

-- what an update is given beside them
pub record Update : Type 0 where
  pub h : Float
  pub dt : Float
  pub code : ℕ
  pub locks : ℕ
  pub regions : ℕ
  pub count : ℕ
  pub colliders : List Float
  pub projections : Store

-- what the first half of a gather is given beside them
pub record GatherFirst : Type 0 where
  pub h : Float
  pub dt : Float
  pub modified : ℕ
  pub regions : ℕ
  pub ranges : List ℕ
  pub count : ℕ
  pub particles : Store

-- what the second half is given, which takes neither the list nor the nodes
pub record GatherSecond : Type 0 where
  pub count : ℕ
  pub particles : Store
  pub given : Store

-- what fluids' volumes are given beside them
pub record Fluids : Type 0 where
  pub h : Float
  pub regions : ℕ
  pub ranges : List ℕ
  pub count : ℕ
  pub particles : Store

pub data Call : Type 0 where
  clearing : ℕ → Call
  scattering : Scatter → Call
  scattering_region : ℕ → Scatter → Call
  scattering_in_order : List ℕ → Scatter → Call
  updating : Update → Call
  -- the three in turn, with a code, locks, colliders and projections
  in_turn : Scatter → ℕ → ℕ → ℕ → List Float → Store → Call
  -- nodes to particles, two halves
  gathering_first : GatherFirst → Call
  gathering_second : GatherSecond → Call
  -- fluids' volumes
  recomputing : Fluids → Call

module _ (ids : List ℕ) where
  -- what a call answers, by its contract
  abbrev pub answer : Call → Store → Answer
  answer (clearing regions) s = clear_check regions ids (length s.floats) (length s.words)
  answer (scattering c) s = scatter_check done c.h c.dt c.gravity c.regions ids c.ranges c.count c.particles (length s.floats) (length s.words)
  answer (scattering_region place c) s =
      scatter_check (place_check place c.regions) c.h c.dt c.gravity c.regions ids c.ranges c.count c.particles (length s.floats) (length s.words)
  answer (scattering_in_order order c) s = order_check order c.h c.dt c.gravity c.regions ids c.ranges c.count c.particles (length s.floats) (length s.words)
  answer (updating c) s = update_check c.h c.dt c.code c.locks c.regions ids c.count c.colliders c.projections (length s.floats) (length s.words)
  answer (in_turn c code locks count colliders projections) s =
      step_check c.h c.dt c.gravity code locks c.regions ids c.ranges c.count c.particles count colliders projections (length s.floats) (length s.words)
  answer (gathering_first c) s = first_check c.h c.dt c.modified c.regions ids c.ranges c.count c.particles (length s.floats) (length s.words)
  answer (gathering_second c) s = second_check c.count c.particles c.given
  answer (recomputing c) s = fluids_check c.h c.regions ids c.ranges c.count c.particles (length s.floats) (length s.words)

  -- what it makes of the nodes where it is not refused; gather reads the nodes and changes none: its contract lends them by `&`
  abbrev pub made : Call → Store → Store
  made (clearing regions) s = cleared regions s
  made (scattering c) s = scattered c.h c.dt c.gravity ids c.ranges c.particles s
  made (scattering_region place c) s = region_scattered c.h c.dt c.gravity ids c.ranges c.particles place s
  made (scattering_in_order order c) s = scattered c.h c.dt c.gravity ids c.ranges c.particles s
  made (updating c) s = updated c.h c.dt c.code c.locks ids c.count c.colliders c.projections s
  made (in_turn c code locks count colliders projections) s = stepped c.h c.dt c.gravity code locks c.regions ids c.ranges c.count c.particles count colliders projections s
  made (gathering_first c) s = s
  made (gathering_second c) s = s
  made (recomputing c) s = nodes_after c.h ids c.ranges c.count c.particles s

  -- what it leaves, refused or not
  unfoldable pub left : Call → Store → Store
  left c s = settle (refused (answer c s)) s (made c s)

  -- what a list of calls leaves
  unfoldable pub after : List Call → Store → Store
  after [] s = s
  after (c ∷ calls) s = after calls (left c s)

  -- those of them that are not refused, each by what the calls before it left
  unfoldable pub accepted : List Call → Store → List Call
  accepted [] s = []
  accepted (c ∷ calls) s = cond (refused (answer c s)) (accepted calls (left c s)) (c ∷ accepted calls (left c s))
