use Rattle.std.proofs.Common.{arith, rules}
use Rattle.zone.proofs.Laws.ElementLayout.{fits}
use Rattle.zone.proofs.format.decode.element_at.Goals as goal

pub overflow_mul-at_h : goal.overflow_mul-at_h
overflow_mul-at_h c =
    let f = fits c.args.s.now c.args.p c.requires.1 c.kind_of-kind.ensures c.number_of_nodes-kc.ensures c.h_count-hc.ensures c.requires.2 in
    omega (arith, f.1)

pub overflow_add-at_h : goal.overflow_add-at_h
overflow_add-at_h c =
    let f = fits c.args.s.now c.args.p c.requires.1 c.kind_of-kind.ensures c.number_of_nodes-kc.ensures c.h_count-hc.ensures c.requires.2 in
    omega (arith, f.0)

pub overflow_add-at_delta : goal.overflow_add-at_delta
overflow_add-at_delta c =
    let f = fits c.args.s.now c.args.p c.requires.1 c.kind_of-kind.ensures c.number_of_nodes-kc.ensures c.h_count-hc.ensures c.requires.2 in
    omega (arith, f.0)

pub overflow_add-at_hour : goal.overflow_add-at_hour
overflow_add-at_hour c =
    let f = fits c.args.s.now c.args.p c.requires.1 c.kind_of-kind.ensures c.number_of_nodes-kc.ensures c.h_count-hc.ensures c.requires.2 in
    omega (arith, f.0)

pub array_at-requires : goal.array_at-requires
array_at-requires c =
    let f = fits c.args.s.now c.args.p c.requires.1 c.kind_of-kind.ensures c.number_of_nodes-kc.ensures c.h_count-hc.ensures c.requires.2 in
    (search rules, (f.1, omega (arith, f.0)))

pub array_at-requires-2 : goal.array_at-requires-2
array_at-requires-2 c =
    let f = fits c.args.s.now c.args.p c.requires.1 c.kind_of-kind.ensures c.number_of_nodes-kc.ensures c.h_count-hc.ensures c.requires.2 in
    (search rules, (f.2, omega (arith, f.0)))

pub array_at-requires-3 : goal.array_at-requires-3
array_at-requires-3 c =
    let f = fits c.args.s.now c.args.p c.requires.1 c.kind_of-kind.ensures c.number_of_nodes-kc.ensures c.h_count-hc.ensures c.requires.2 in
    (search rules, (omega (arith, f.3), omega (arith, f.0)))

pub element_hour_at-requires : goal.element_hour_at-requires
element_hour_at-requires c =
    let f = fits c.args.s.now c.args.p c.requires.1 c.kind_of-kind.ensures c.number_of_nodes-kc.ensures c.h_count-hc.ensures c.requires.2 in
    omega (arith, f.0)
