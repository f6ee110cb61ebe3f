-- What is returned tells refusals apart.
use Rattle.std.proofs.Common.{ℕ, ◌+◌, ◌*◌, ◌≡◌, arith}
use Rattle.hem_zone.specs.Code.{refusal_code}
use Rattle.hem_zone.specs.Claims.{InAnswer, ToldApart}

-- nothing of it is cut off
whole : (number index : ℕ) → InAnswer number index → refusal_code number index ≡ number + 256 * index
unfolding refusal_code
whole number index p = omega (arith, p.to_last, p.room)

pub told_apart : ToldApart
told_apart =
    record {
      from_accepted = λ n i p e. let w = whole n i p in omega (arith, w, e, p.from_1);
      from_others = λ n i m j p q e.
          let w = whole n i p in
          let v = whole m j q in
          (omega (arith, w, v, e, p.to_last, q.to_last), omega (arith, w, v, e, p.to_last, q.to_last));
    }
