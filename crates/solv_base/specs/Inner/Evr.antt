-- The parts of an EVR text `[epoch:]version[-release]`, and the order on EVR texts.
use Rattle.std.specs.Option.{option_copied}
use Rattle.solv_base.specs.declared.version.Evr.{Evr}
use Rattle.solv_base.specs.Evr.{Parts}

-- the parts that a call gives
abbrev pub parts_of : Evr → Parts
parts_of e = record { epoch = e.epoch.now; version = e.version.now; release = option_copied e.release }
