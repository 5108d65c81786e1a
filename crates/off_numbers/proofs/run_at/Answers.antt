-- `run_at` meets its contract: so far there are only digits, and the value is theirs. Assumes nothing.
use native.Mathlib.Omega.{arith}
use Rattle.off_numbers.proofs.Scanning.{scan_none, scan_bound, scan_stop, scan_more, scan_end, digit_range}
use Rattle.off_numbers.proofs.run_at.Goals as goal

pub loop-count-init : goal.loop-count-init
loop-count-init c = scan_none _ _

pub returns-then-not-is_digit : goal.returns-then-not-is_digit
returns-then-not-is_digit c =
    scan_stop _ _ _ _ _ _ c.byte_on-byte.ensures.value c.is_digit.ensures c.loop-count.invariant c.loop-count-test.true c.if-not-is_digit.true

pub overflow_mul-value : goal.overflow_mul-value
overflow_mul-value c = omega (arith, scan_bound c.loop-count.invariant c.loop-count.auto.count-end)

pub overflow_sub-value : goal.overflow_sub-value
overflow_sub-value c = (digit_range _ _ _ c.loop-count.value _ _ c.byte_on-byte.ensures.value c.is_digit.ensures c.if-not-is_digit.false).0

pub overflow_add-value : goal.overflow_add-value
overflow_add-value c =
    omega (arith, scan_bound c.loop-count.invariant c.loop-count.auto.count-end, c.byte_on-byte.ensures.upper_bound)

pub loop-count-preserved : goal.loop-count-preserved
loop-count-preserved c = scan_more _ _ _ _ _ _ c.byte_on-byte.ensures.value c.is_digit.ensures c.loop-count.invariant c.if-not-is_digit.false

pub returns : goal.returns
returns c = scan_end c.loop-count.invariant c.loop-count.auto.count-end c.loop-count-test.false
