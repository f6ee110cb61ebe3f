use Rattle.std.proofs.Common.{◌+◌, ℕ, arith, sym, ap, ◌∙◌}
use Rattle.zone.specs.Inner.Format.{structure_within}
use Rattle.zone.proofs.Laws.Structure.{length_valid, too_short, bad_length, cut_short, all_there, length_good}
use Rattle.zone.proofs.format.head.structure_of.Goals as goal

pub returns-then-s-lt-LENGTH_SIZE : goal.returns-then-s-lt-LENGTH_SIZE
returns-then-s-lt-LENGTH_SIZE c = sym (too_short c.args.s.now c.if-s-lt-LENGTH_SIZE.true)

pub returns-then-not-length_valid : goal.returns-then-not-length_valid
returns-then-not-length_valid c =
    sym (bad_length c.args.s.now c.if-s-lt-LENGTH_SIZE.false (ap length_valid (sym c.read_u32_be-length.ensures.0) ∙ sym c.if-not-length_valid.ensures))

pub returns-then-s-end : goal.returns-then-s-end
returns-then-s-end c = let e = c.read_u32_be-length.ensures.0 in
    sym (cut_short c.args.s.now c.if-s-lt-LENGTH_SIZE.false (ap length_valid (sym e) ∙ sym c.if-not-length_valid.ensures) (omega (arith, e, c.if-s-end.true)))

pub structure_within-requires : goal.structure_within-requires
structure_within-requires c = let g = length_good c.read_u32_be-length.result (sym c.if-not-length_valid.ensures) in
    (omega (arith, g.0), c.if-s-end.false)

pub returns : goal.returns
returns c = let e = c.read_u32_be-length.ensures.0 in let s = c.args.s.now in
    c.structure_within.ensures
    ∙ ap (λ (n : ℕ). structure_within s (4 + n)) e
    ∙ sym (all_there s c.if-s-lt-LENGTH_SIZE.false (ap length_valid (sym e) ∙ sym c.if-not-length_valid.ensures) (omega (arith, e, c.if-s-end.false)))
