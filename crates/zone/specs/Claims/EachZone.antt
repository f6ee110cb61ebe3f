-- What is claimed of each zone: of the values of `init_node_temps`, `operative`, `demand`, `why`, `update_temperatures` and `hour_step`, which are the
-- equations of BS EN ISO 52016-1, and of their refusals. Each line is a type that is proved elsewhere.
-- Specification, Of every call; Of every value.
use Rattle.std.specs.Prelude.{List, ℕ, ◌≤◌}
use Rattle.zone.specs.declared.format.conditions.Conditions.{Conditions}
use Rattle.zone.specs.declared.format.conditions.FixedRate.{FixedRate}
use Rattle.zone.specs.declared.record.zone_record.Zone.{Zone}
use Rattle.zone.specs.declared.calls.state.State.{State}
use Rattle.zone.specs.Record.BuildingElement.{standard_coefficients}
use Rattle.zone.specs.Claims.Head.{HeadClaims, ZoneClaims, ConditionsClaims}
use Rattle.zone.specs.Claims.RoundTrip.{HourInRange, HourRead}
use Rattle.zone.specs.Claims.Refusals.{CallRefusals, IndicesOfZone}
use Rattle.zone.specs.Claims.DemandClaims.{DemandCallSigns, HourCallSigns}
use Rattle.zone.specs.Claims.Why.{WhyAnswers, WhyRefuses}
use Rattle.zone.specs.Claims.StartUpClaims.{StartUpNotSettled, StartUpIsNotSettled, StartUpSettled, StartUpIsSettled}
use Rattle.zone.specs.Claims.Versions as Hours
use Rattle.zone.specs.Claims.Convection.{YieldsDirection, UpdateByDirection, HourByDirection}
use Rattle.zone.specs.Claims.StateClaims.{StateKept, UpdateStateTested, HourStateTested, StartUpStateTested}
use Rattle.zone.specs.Claims.Reasons.{OperativeReasons, DemandReasons, HourReasons, UpdateReasons, StartUpReasons}
use Rattle.zone.specs.Claims.NextHourClaims.{NextHourIs}
use Rattle.zone.specs.Claims.FixedRate.{RetiredClaims, HourStill, SameHour}

pub record EachZone (z : Zone) : Type 0 where
  -- a head's own bytes decide it, a zone given as a record is judged as its head would be, and an hour's conditions are read as they are written;
  pub heads : HeadClaims
  pub zone : ZoneClaims z
  pub conditions : (fixed : FixedRate) (bytes : List ℕ) → ConditionsClaims fixed z bytes
  -- each hour in range has bytes that are read as it: none is turned away,
  pub hours : z.count ≤ 24 → (fixed : FixedRate) (c : Conditions) → HourInRange fixed z c → HourRead fixed z c
  -- each call has these refusals, each of which comes whenever its condition holds and under no other, and these indices,
  pub refusals : CallRefusals standard_coefficients z
  pub operative_reasons : OperativeReasons z
  pub demand_reasons : DemandReasons standard_coefficients z
  pub hour_reasons : HourReasons standard_coefficients z
  pub update_reasons : UpdateReasons standard_coefficients z
  pub start_up_reasons : StartUpReasons standard_coefficients z
  pub indices : IndicesOfZone standard_coefficients z
  -- an hour after another is the hour step without its heat balance,
  pub next_hour : NextHourIs standard_coefficients z
  -- heating ≥ 0 and cooling ≤ 0,
  pub demand_signs : DemandCallSigns standard_coefficients z
  pub hour_signs : HourCallSigns standard_coefficients z
  -- the reason that is named for an hour's rate is the earliest of the six that holds and tells which rate the demand chose, the load beside it is the
  -- demand's; an hour is refused exactly where a demand that still takes code 0 refuses it, and alike,
  pub why_answers : WhyAnswers standard_coefficients z
  pub why_refuses : WhyRefuses standard_coefficients z
  -- 15 means that no pass up to the limit settled, and an answer is the temperatures before the first pass that did,
  pub not_settled_lem : StartUpNotSettled standard_coefficients z
  pub is_not_settled : StartUpIsNotSettled standard_coefficients z
  pub settled : StartUpSettled standard_coefficients z
  pub is_settled : StartUpIsSettled standard_coefficients z
  -- version 1's hour has the heating fraction for all power, version 2's the cooling fraction for power below 0, version 3's a limit on what is delivered or 19,
  -- any other version is 18,
  pub versions : (fixed : FixedRate) (s : State) (bytes : List ℕ) → Hours.VersionClaims fixed standard_coefficients z s bytes
  -- a call refuses the fixed rate, code 0, with 8; what an hour step gives is what an entry is judged by; and an hour with the fixed rate that is
  -- judged true is, with code 1 and the rate twice, the same hour for a call
  pub retired : (bytes : List ℕ) → RetiredClaims z bytes
  pub hour_still : HourStill standard_coefficients z
  pub same_hour : SameHour standard_coefficients z
  -- of each accepted update and hour step every term of the convective total stands in exactly one of the three sums by direction, which `h_ci` yields,
  pub directions : YieldsDirection
  pub update_directions : UpdateByDirection z
  pub hour_directions : HourByDirection z
  -- and a state that is handed back is the given one where a call is refused, and is taken by the next call.
  pub kept : StateKept
  pub update_state : UpdateStateTested standard_coefficients z
  pub hour_state : HourStateTested standard_coefficients z
  pub start_up_state : StartUpStateTested standard_coefficients z
