-- What is asked of functions so that they are placed and laid.
use Rattle.std.specs.Prelude.{◌≤◌, length}
use Rattle.flat_ir.specs.declared.ops.Function.{Function}
use Rattle.flat_ir.specs.WellFormed.{IsWellFormedFunction}
use Rattle.flat_ir.specs.Liveness.{OnlyParametersAreLive}
use Rattle.register_assign.specs.declared.places.Placed.{Placed}
use Rattle.register_assign.specs.Sound.{ArePlacesSound}
use Rattle.thumb_layout.specs.Cells.{laid}
use Rattle.thumb_emit.specs.Emit.{function_pieces}
use Rattle.thumb_emit.specs.Ready.{IsReady}

-- A function whose temporaries can get places.
pub record IsPlaceable (f : Function) : Type 0 where
  pub formed : IsWellFormedFunction f
  pub entry : OnlyParametersAreLive f

abbrev pub HasSoundPlaces : Placed → Type 0
HasSoundPlaces p = ArePlacesSound p.function p.places

-- A placed function whose ops have labels, and whose code has no more bytes than can be laid.
pub record IsLayable (p : Placed) : Type 0 where
  pub ready : IsReady p
  pub few : length p.function.ops ≤ 1431655764
  pub short : length (laid (function_pieces p)).bytes ≤ 65536
