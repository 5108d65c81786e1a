-- `read_number` meets its contract: so far there are only digits, and the value is theirs. Assumes nothing.
use native.Mathlib.Omega.{arith}
use Rattle.off_known.proofs.Knowing.{reading_first, reading_one, reading_two, reading_three}
use Rattle.off_known.proofs.Knowing.{reading_bound, reading_next, reading_more, reading_end, reading_within}
use Rattle.off_known.proofs.read_number.Goals as goal

pub bounds-text-at : goal.bounds-text-at
bounds-text-at c = omega (arith, reading_within (reading_one c.requires) c.requires)

pub overflow_sub-first : goal.overflow_sub-first
overflow_sub-first c = reading_first c.requires

pub overflow_add-second : goal.overflow_add-second
overflow_add-second c = omega (arith, reading_within (reading_one c.requires) c.requires)

pub bounds-text-at-2 : goal.bounds-text-at-2
bounds-text-at-2 c = omega (arith, reading_within (reading_one c.requires) c.requires)

pub overflow_add-result : goal.overflow_add-result
overflow_add-result c = omega (arith, reading_within (reading_one c.requires) c.requires)

pub returns-then-second-lt-ZERO : goal.returns-then-second-lt-ZERO
returns-then-second-lt-ZERO c =
    let e = reading_end (reading_one c.requires) c.requires c.if-second-lt-ZERO.true in
    record { value_value = e.0; next_value = omega (arith, e.1) }

pub overflow_mul-two : goal.overflow_mul-two
overflow_mul-two c = omega (arith, reading_bound (reading_one c.requires))

pub overflow_add-two : goal.overflow_add-two
overflow_add-two c = omega (arith, reading_bound (reading_two c.requires c.if-second-lt-ZERO.false))

pub overflow_add-third : goal.overflow_add-third
overflow_add-third c = omega (arith, reading_within (reading_two c.requires c.if-second-lt-ZERO.false) c.requires)

pub bounds-text-at-3 : goal.bounds-text-at-3
bounds-text-at-3 c = omega (arith, reading_within (reading_two c.requires c.if-second-lt-ZERO.false) c.requires)

pub overflow_add-result-then-third-lt-ZERO : goal.overflow_add-result-then-third-lt-ZERO
overflow_add-result-then-third-lt-ZERO c = omega (arith, reading_within (reading_two c.requires c.if-second-lt-ZERO.false) c.requires)

pub returns-then-third-lt-ZERO : goal.returns-then-third-lt-ZERO
returns-then-third-lt-ZERO c =
    let e = reading_end (reading_two c.requires c.if-second-lt-ZERO.false) c.requires c.if-third-lt-ZERO.true in
    record { value_value = e.0; next_value = omega (arith, e.1) }

pub overflow_mul-value : goal.overflow_mul-value
overflow_mul-value c = omega (arith, reading_bound (reading_two c.requires c.if-second-lt-ZERO.false))

pub overflow_add-value : goal.overflow_add-value
overflow_add-value c = omega (arith, reading_bound (reading_three c.requires c.if-second-lt-ZERO.false c.if-third-lt-ZERO.false))

pub overflow_add-next : goal.overflow_add-next
overflow_add-next c = omega (arith, reading_within (reading_two c.requires c.if-second-lt-ZERO.false) c.requires)

pub loop-next-init : goal.loop-next-init
loop-next-init c = reading_three c.requires c.if-second-lt-ZERO.false c.if-third-lt-ZERO.false

pub bounds-text-next : goal.bounds-text-next
bounds-text-next c = omega (arith, reading_within c.loop-next.invariant c.requires)

pub overflow_mul-value-in-loop-next : goal.overflow_mul-value-in-loop-next
overflow_mul-value-in-loop-next c = omega (arith, reading_bound c.loop-next.invariant)

pub overflow_add-value-in-loop-next : goal.overflow_add-value-in-loop-next
overflow_add-value-in-loop-next c = omega (arith, reading_bound c.loop-next.invariant, (reading_next c.loop-next.invariant c.requires c.loop-next-test.true).0)

pub loop-next-preserved : goal.loop-next-preserved
loop-next-preserved c = reading_more c.loop-next.invariant c.requires c.loop-next-test.true

pub overflow_add-result-2 : goal.overflow_add-result-2
overflow_add-result-2 c = omega (arith, reading_within c.loop-next.invariant c.requires)

pub returns : goal.returns
returns c =
    let t = reading_end c.loop-next.invariant c.requires c.loop-next-test.false in
    record { value_value = t.0; next_value = t.1 }
