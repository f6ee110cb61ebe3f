-- The claims of specs/Claims.antt, proved: every refusal has a number from 1 to the last and an index of at most 8,783, so nothing of it is cut off.
use Rattle.std.proofs.Common.{ℕ, ◌+◌, ◌*◌, ◌%◌, ◌/◌, ◌≡◌, refl, ap, List, [], arith}
use Rattle.zone.specs.Promise.{Result, RefusesOnly, accepts, refuses}
use Rattle.zone.proofs.Promise.{bind_refuses, refuses_also}
use Rattle.zone.specs.declared.record.zone_record.Zone.{Zone}
use Rattle.zone.specs.declared.format.conditions.FixedRate.TheVariants.{Retired}
use Rattle.zone.specs.Record.BuildingElement.{standard_coefficients}
use Rattle.zone.proofs.Claims.HeadRefusals.{head_refusals}
use Rattle.zone.proofs.Claims.Refusals.{operative_refusals, demand_refusals, update_refusals, hour_step_refusals, start_up_refusals}
use Rattle.zone.proofs.Claims.Why.{why_refusals}
use Rattle.book.specs.Year.{hour_item}
use Rattle.book.proofs.Refusals.{begin_refusals, append_refusals, take_up_refusals}
use Rattle.tools.proofs.Refusals.{question_refusals, convert_refusals}
use Rattle.hem_zone.specs.Convert.{converted_out, hem_convert_outcome}
use Rattle.weather.proofs.Refusals.{weather_refusals}
use Rattle.hem_zone.specs.Code.{refusal_code, answer_code, lent_after, answered}
use Rattle.hem_zone.specs.Arrays.{state_in, limits_of}
use Rattle.hem_zone.specs.Zone.{with_zone, hem_head_outcome, hem_start_up_outcome, hem_operative_outcome, hem_demand_outcome, hem_update_outcome, hem_hour_step_outcome}
use Rattle.hem_zone.specs.Why.{hem_why_outcome}
use Rattle.hem_zone.specs.Book.{book_state_of, hem_begin_outcome, hem_append_outcome, hem_take_up_outcome}
use Rattle.hem_zone.specs.Questions.{hem_first_above_outcome, hem_hours_within_outcome, hem_nearest_hour_outcome}
use Rattle.hem_zone.specs.Weather.{hem_weather_outcome}
use Rattle.hem_zone.specs.Claims.{AfterHead, of_head, of_call, ReturnCodeSpec, Answered, Claims}
use Rattle.hem_zone.proofs.Laws.Numbered.{Numbered, head_numbered, operative_numbered, demand_numbered, hour_numbered, update_numbered, start_up_numbered, begin_numbered, append_numbered, take_up_numbered, question_numbered, convert_numbered, weather_numbered, after_head_numbered}

-- nothing of it is cut off, and both are read back
module _ (number index : ℕ) (p : Numbered number index) where
  pub code_exact : refusal_code number index ≡ number + 256 * index
  unfolding refusal_code
  code_exact = omega arith

  pub code_number : refusal_code number index % 256 ≡ number
  code_number = let e = code_exact in omega (arith, e)

  pub code_index : refusal_code number index / 256 ≡ index
  code_index = let e = code_exact in omega (arith, e)

-- ---- any call

module _ {P : ℕ → ℕ → Type 0} (numbered : (number index : ℕ) → P number index → Numbered number index) where
  -- 0 is returned exactly where it is accepted
  pub returned : {A : Type 0} {r : Result A} → RefusesOnly P r → ReturnCodeSpec P r (answer_code r)
  unfolding answer_code
  returned (accepts a) = record { accepted = (λ _. (a, refl), λ _. refl); not_accepted = λ h. absurd (h refl) }
  returned (refuses {number = n} {index = i} p) =
      let q = numbered n i p in
      let e = code_exact n i q in
      record {
        accepted = (λ z. absurd (omega (arith, e, q.from_1, z)), λ x. let w : ◌≡◌ {A = ℕ} 0 1 = cc x.1 in absurd (omega arith));
        not_accepted = λ _. record {
          number = n;
          index = i;
          is_refused = refl;
          allowed = p;
          in_answer = record { from_1 = q.from_1; to_last = q.to_last; room = omega (arith, q.few) };
          exact = e;
          HEM_NUMBER = code_number n i q;
          HEM_INDEX = code_index n i q;
        };
      }

  -- and the lent arrays are written where it is
  pub answers : {A B : Type 0} (written : A → B) (before : B) {r : Result A} → RefusesOnly P r → Answered P written before r (answered written before r)
  unfolding answered answer_code lent_after
  answers written before (accepts a) = record { returned = returned (accepts a); writes = λ b e. ap (lent_after written before) e; keeps = λ h. absurd (h refl) }
  answers written before (refuses p) = record { returned = returned (refuses p); writes = λ b e. ap (lent_after written before) e; keeps = λ h. refl }

-- a call on the zone of a head
with_zone_refuses : {P : ℕ → ℕ → Type 0} {A : Type 0} (head : List ℕ) (f : Zone → Result A) → ((z : Zone) → RefusesOnly P (f z)) → RefusesOnly (AfterHead P) (with_zone head f)
unfolding with_zone
with_zone_refuses head f p =
    bind_refuses _ (refuses_also (λ n i q. of_head q) (head_refusals head)) λ h _.
    refuses_also (λ n i q. of_call q) (p h.zone)

-- ---- the fifteen functions

pub claims : Claims
unfolding hem_head_outcome hem_start_up_outcome hem_operative_outcome hem_demand_outcome hem_why_outcome hem_update_outcome hem_hour_step_outcome hem_begin_outcome
    hem_append_outcome hem_take_up_outcome hem_first_above_outcome hem_hours_within_outcome hem_nearest_hour_outcome hem_convert_outcome hem_weather_outcome
claims =
    record {
      hem_head = λ head. returned head_numbered (head_refusals head);
      hem_start_up = λ head temps nodes.
          answers (after_head_numbered start_up_numbered) _ _ (with_zone_refuses head _ (start_up_refusals standard_coefficients));
      hem_operative = λ head temps nodes before.
          answers (after_head_numbered operative_numbered) _ _
          (with_zone_refuses head _ λ z. operative_refusals standard_coefficients z (state_in temps nodes) []);
      hem_demand = λ head temps nodes conditions out.
          answers (after_head_numbered demand_numbered) _ _
          (with_zone_refuses head _ λ z. demand_refusals standard_coefficients z Retired (state_in temps nodes) conditions);
      hem_why = λ head temps nodes conditions reason load.
          answers (after_head_numbered demand_numbered) _ _
          (with_zone_refuses head _ λ z. why_refusals standard_coefficients z (state_in temps nodes) conditions);
      hem_update = λ head temps nodes conditions gains fraction rate balance.
          answers (after_head_numbered update_numbered) _ _
          (with_zone_refuses head _ λ z. update_refusals standard_coefficients z (state_in temps nodes) conditions gains fraction rate);
      hem_hour_step = λ head temps nodes conditions version heating_limit cooling_limit out balance.
          answers (after_head_numbered hour_numbered) _ _
          (with_zone_refuses head _ λ z. hour_step_refusals standard_coefficients z Retired (state_in temps nodes) conditions version (limits_of heating_limit cooling_limit));
      hem_begin = λ head buf held. answers begin_numbered _ _ (begin_refusals head buf);
      hem_append = λ head buf held conditions version heating_limit cooling_limit.
          answers (after_head_numbered (append_numbered held.count)) _ _
          (with_zone_refuses head _ λ z. append_refusals z (book_state_of held) (hour_item version conditions (limits_of heating_limit cooling_limit)) buf);
      hem_take_up = λ bytes held. answers take_up_numbered _ _ (take_up_refusals bytes);
      hem_first_above = λ bytes value hour. answers question_numbered _ _ (question_refusals.first_above bytes value);
      hem_hours_within = λ bytes lower upper hours. answers question_numbered _ _ (question_refusals.hours_within_lem bytes lower upper);
      hem_nearest_hour = λ bytes value hour. answers question_numbered _ _ (question_refusals.nearest_hour_lem bytes value);
      hem_convert = λ bytes out count used. answers convert_numbered (converted_out out) (out, (count, used)) (convert_refusals bytes out);
      hem_weather = λ file line weather. answers weather_numbered _ _ (weather_refusals.weather file line);
    }
