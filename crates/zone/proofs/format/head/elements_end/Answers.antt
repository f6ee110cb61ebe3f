use Rattle.std.proofs.Common.{◌≡◌, ◌+◌, ◌-◌, arith, sym, ap, ◌∙◌, refl}
use Rattle.zone.specs.Format.ElementLayout.{size_at, treatments_at}
use Rattle.zone.specs.Format.Head.{elements_end}
use Rattle.zone.proofs.Laws.Structure.{end_short, end_kind, end_rest, end_next, end_none}
use Rattle.zone.proofs.format.head.elements_end.Goals as goal

pub returns-then-end-p-lt-AREA : goal.returns-then-end-p-lt-AREA
returns-then-end-p-lt-AREA c = let a = c.args in let l = c.loop-i in
    sym (end_short a.s.now a.end a.n l.i l.p c.loop-i-test.true (omega (arith, l.invariant.within))) ∙ l.invariant.left

pub returns-then-not-kind_valid : goal.returns-then-not-kind_valid
returns-then-not-kind_valid c = let a = c.args in let l = c.loop-i in
    let t : c.from-treatments.result ≡ treatments_at a.s.now l.p = omega arith in
    sym (end_kind a.s.now a.end a.n l.i l.p c.loop-i-test.true (omega (arith, l.invariant.within)) (sym (rw t at c.if-not-kind_valid.ensures))) ∙ l.invariant.left

pub returns-then-end-p : goal.returns-then-end-p
returns-then-end-p c = let a = c.args in let l = c.loop-i in
    let t : c.from-treatments.result ≡ treatments_at a.s.now l.p = omega arith in
    let size : c.element_size-size.result ≡ size_at a.s.now l.p = rw (c.element_size-size.ensures, c.kind_of.ensures, t) refl in
    sym (end_rest a.s.now a.end a.n l.i l.p c.loop-i-test.true (omega (arith, l.invariant.within)) (sym (rw t at c.if-not-kind_valid.ensures)) (omega (arith, l.invariant.within, size))) ∙ l.invariant.left

pub loop-i-preserved : goal.loop-i-preserved
loop-i-preserved c = let a = c.args in let l = c.loop-i in
    let t : c.from-treatments.result ≡ treatments_at a.s.now l.p = omega arith in
    let size : c.element_size-size.result ≡ size_at a.s.now l.p = rw (c.element_size-size.ensures, c.kind_of.ensures, t) refl in
    record {
      within = omega (arith, l.invariant.within);
      left =
          ap (λ m. elements_end a.s.now a.end (a.n - (l.i + 1)) (l.i + 1) (l.p + m)) size
          ∙ sym (end_next a.s.now a.end a.n l.i l.p c.loop-i-test.true (omega (arith, l.invariant.within)) (sym (rw t at c.if-not-kind_valid.ensures)) (omega (arith, l.invariant.within, size)))
          ∙ l.invariant.left;
    }

pub returns : goal.returns
returns c = let a = c.args in let l = c.loop-i in
    sym (end_none a.s.now a.end a.n l.i l.p c.loop-i-test.false) ∙ l.invariant.left
