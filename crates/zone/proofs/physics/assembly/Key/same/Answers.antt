use Rattle.std.proofs.Common.{refl, sym, ◌∙◌, eq-eqb, ne_eqb, arith}
use Rattle.zone.specs.Inner.Kept.{same_key}
use Rattle.zone.proofs.Laws.Key.{by_cases, same_told}
use Rattle.zone.proofs.physics.assembly.Key.same.Goals as goal

pub returns-then-eq : goal.returns-then-eq
unfolding same_key
returns-then-eq c =
    let k = c.args.self.now in
    let o = c.args.other.now in
    let n = c.element_count-n.ensures in
    let told = same_told (k.directions, k.opens) o.directions o.opens _ (by_cases _ refl refl refl refl refl refl refl refl refl) _ _ n.0
    (omega (arith, n.1)) (omega (arith, n.1)) (omega (arith, n.1)) (omega (arith, n.1)) _ _ (sym c.if-eq.true ∙ c.eq.ensures) c.eq-then-eq.ensures in
    rw (← c.f64_to_bits_with_nan.ensures, ← c.f64_to_bits_with_nan-2.ensures, eq-eqb _ _ c.if-f64_to_bits_with_nan.true, told) refl

pub returns-else-eq : goal.returns-else-eq
unfolding same_key
returns-else-eq c =
    let k = c.args.self.now in
    let o = c.args.other.now in
    let n = c.element_count-n.ensures in
    let told = same_told (k.directions, k.opens) o.directions o.opens _ (by_cases _ refl refl refl refl refl refl refl refl refl) _ _ n.0
    (omega (arith, n.1)) (omega (arith, n.1)) (omega (arith, n.1)) (omega (arith, n.1)) _ _ (sym c.if-eq.false ∙ c.eq.ensures) refl in
    c.if-eq.false
    ∙ rw (← c.f64_to_bits_with_nan.ensures, ← c.f64_to_bits_with_nan-2.ensures, eq-eqb _ _ c.if-f64_to_bits_with_nan.true, told) refl

pub returns-else-f64_to_bits_with_nan : goal.returns-else-f64_to_bits_with_nan
unfolding same_key
returns-else-f64_to_bits_with_nan c = rw (← c.f64_to_bits_with_nan.ensures, ← c.f64_to_bits_with_nan-2.ensures, ne_eqb _ _ c.if-f64_to_bits_with_nan.false) refl
