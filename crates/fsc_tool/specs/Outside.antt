-- The state outside the tool at one time: the source, the sink and the seed source.
use Rattle.fsc_outside.specs.States.{SourceState, SinkState, SeedState}

pub record Outside : Type 0 where
  pub source : SourceState
  pub sink : SinkState
  pub seeds : SeedState

abbrev pub outside : SourceState → SinkState → SeedState → Outside
outside source sink seeds = record { source = source; sink = sink; seeds = seeds }
