use Rattle.std.proofs.Common.{sym, ◌∙◌}
use Rattle.zone.proofs.Laws.Conditions.{too_many, wrong_size, wrong_code, right_code}
use Rattle.zone.proofs.format.read_conditions.read_conditions.Goals as goal
use Rattle.zone.proofs.format.read_conditions.read_conditions.Goals.{then-n-gt24-via-then-n-gt24, then-n-gt24-via-else-n-gt24+then-bytes-n}

pub returns-then-n-gt24 : goal.returns-then-n-gt24
returns-then-n-gt24 c = let z = c.args.z.now in let s = c.args.bytes.now in
    elim c.then-n-gt24.branch [ then-n-gt24-via-then-n-gt24 w ↦ sym (too_many z c.args.fixed s w.if-n-gt24.true) | then-n-gt24-via-else-n-gt24+then-bytes-n w ↦ sym (wrong_size z c.args.fixed s w.if-n-gt24.false w.if-bytes-n.true) ]

pub returns-then-rate_code_valid-open_bits_valid : goal.returns-then-rate_code_valid-open_bits_valid
returns-then-rate_code_valid-open_bits_valid c =
    c.tested_at.ensures
    ∙ sym (right_code c.args.z.now c.args.fixed c.args.bytes.now c.if-n-gt24.false c.if-bytes-n.false (rw (c.rate_code_valid.ensures, c.open_bits_valid.ensures) at c.if-rate_code_valid-open_bits_valid.true))

pub returns : goal.returns
returns c =
    sym (wrong_code c.args.z.now c.args.fixed c.args.bytes.now c.if-n-gt24.false c.if-bytes-n.false (rw (c.rate_code_valid.ensures, c.open_bits_valid.ensures) at c.if-rate_code_valid-open_bits_valid.false))
