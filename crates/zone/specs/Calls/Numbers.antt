-- The numbers that a caller in C has for the reasons of an hour's rate and for its loads (Specification, Why this rate, why this load).
use Rattle.std.specs.Prelude.{ℕ}
use Rattle.zone.specs.declared.calls.state.Reason.{Reason}
use Rattle.zone.specs.declared.calls.state.Reason.TheVariants.{NoChoice, NotAboveVentilationSetpoint, NotAboveSupply, WindowsDoNotCool, StillAboveCoolingSetpoint, WindowsEnough}
use Rattle.zone.specs.declared.calls.state.Load.{Load}
use Rattle.zone.specs.declared.calls.state.Load.TheVariants.{Neither, Heating, Cooling}

abbrev pub reason_number : Reason → ℕ
reason_number NoChoice = 1
reason_number NotAboveVentilationSetpoint = 2
reason_number NotAboveSupply = 3
reason_number WindowsDoNotCool = 4
reason_number StillAboveCoolingSetpoint = 5
reason_number WindowsEnough = 6

abbrev pub load_number : Load → ℕ
load_number Neither = 0
load_number Heating = 1
load_number Cooling = 2
